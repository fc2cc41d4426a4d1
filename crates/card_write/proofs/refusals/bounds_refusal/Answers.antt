-- `bounds_refusal` meets its contract. Assumes nothing.
use mathlib.Core.Path.{sym, ap, ◌∙◌}
use Rattle.card_layout.specs.Refusals.{range_refusal_in, bounds_refusal}
use Rattle.card_write.proofs.refusals.bounds_refusal.Goals as goal

pub returns-in-Linear : goal.returns-in-Linear
unfolding bounds_refusal
returns-in-Linear c =
    let l = c.args.legend in
    c.range_refusal.ensures ∙ sym (ap (λ k. range_refusal_in k l) c.in-Linear.is)

pub returns-in-Banded : goal.returns-in-Banded
unfolding bounds_refusal
returns-in-Banded c = let l = c.args.legend in sym (ap (λ k. range_refusal_in k l) c.in-Banded.is)

pub returns-in-CategoricNumeric : goal.returns-in-CategoricNumeric
unfolding bounds_refusal
returns-in-CategoricNumeric c = let l = c.args.legend in sym (ap (λ k. range_refusal_in k l) c.in-CategoricNumeric.is)
