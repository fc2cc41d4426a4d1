-- `colors_for_numeric_values` meets its contract. Assumes nothing.
use mathlib.Core.Bool.{cond}
use mathlib.Core.Path.{ap, ap₂, ◌∙◌}
use Prim.Native.Nat.{ℕ}
use lib.ListN.{get_or}
use lib.IntN.{ℤ, pos}
use Rattle.categoric_keys.specs.Rule.{eq_z}
use Rattle.categoric_search.specs.forms.Bisection.{color_at_end}
use Rattle.categoric_search.proofs.Steps.{color-at-end}
use Rattle.categoric_search.proofs.colors_for_numeric_values.Goals as goal

pub returns : goal.returns
returns c k h =
    let key = c.narrowed_samples-key in
    let a = c.args in
    c.mask_missing.ensures k h
    ∙ ap₂ (λ (z : ℤ) (w : ℕ). cond (eq_z z (get_or key.result k (pos 0))) w a.nodata) (c.keys_at-found.ensures k h)
    (c.colors_at-words.ensures k h)
    ∙ color-at-end a.narrow.now a.colors.now a.nodata (get_or key.result k (pos 0))
    (c.first_steps-a.ensures.0 k h)
    (c.bisect-b.ensures.0 k h)
    (c.bisect-c.ensures.0 k h)
    (c.bisect-d.ensures.0 k h)
    (c.bisect-e.ensures.0 k h)
    (c.bisect-f.ensures.0 k h)
    ∙ ap (color_at_end a.narrow.now a.colors.now a.nodata) (key.ensures k h)
