-- The legend of each kind. Assumes nothing.
use mathlib.Core.Path.{◌≡◌}
use Rattle.legend.specs.declared.LegendKind.TheVariants as kind
use Rattle.legend.specs.Record.{kind_numbered}
use Rattle.card_bytes.specs.Numbers.{number_at}
use Rattle.card_read.proofs.Found.{from_on, by_legend}
use Rattle.card_read.proofs.values.legend_in.Goals as goal

pub returns-in-Linear : goal.returns-in-Linear
returns-in-Linear c =
    let card = c.args.card.now in
    let k : kind.Linear ≡ kind_numbered (number_at 5 1 card) = cc in
    cc (by_legend card kind.Linear k, from_on 15 c.after_title-rest.ensures)

pub returns-in-Banded : goal.returns-in-Banded
returns-in-Banded c =
    let card = c.args.card.now in
    let k : kind.Banded ≡ kind_numbered (number_at 5 1 card) = cc in
    cc (by_legend card kind.Banded k, from_on 15 c.after_title-rest.ensures)

pub returns-in-CategoricNumeric : goal.returns-in-CategoricNumeric
returns-in-CategoricNumeric c =
    let card = c.args.card.now in
    let k : kind.CategoricNumeric ≡ kind_numbered (number_at 5 1 card) = cc in
    cc (by_legend card kind.CategoricNumeric k, from_on 15 c.after_title-rest.ensures)
