-- `sample::nodata` meets its contract. Assumes nothing.
use Rattle.std.specs.Prelude.{Some, None}
use mathlib.Core.Path.{sym, ap, ◌∙◌}
use mathlib.Core.Bool.{cond}
use lib.ListN.{get_or}
use Rattle.replay_paintings.specs.Samples.{sample_of, sample_type}
use Rattle.replay_paintings.proofs.sample.nodata.Goals as goal

pub returns-then-is_given : goal.returns-then-is_given
returns-then-is_given c =
    let row = c.args.row.now in
    ap Some c.float_of.ensures
    ∙ sym (ap (λ t. cond t (Some (sample_of (sample_type row) (get_or row 7 0))) None) (sym c.is_given.ensures ∙ c.if-is_given.true))

pub returns-else-is_given : goal.returns-else-is_given
returns-else-is_given c =
    let row = c.args.row.now in
    sym (ap (λ t. cond t (Some (sample_of (sample_type row) (get_or row 7 0))) None) (sym c.is_given.ensures ∙ c.if-is_given.false))
