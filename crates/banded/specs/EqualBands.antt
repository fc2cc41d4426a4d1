-- A record of equal bands that is asked for, refusals included (docs/RULES.md, "Where each call says no"). Definitions only.
use Rattle.std.specs.Prelude.{ℕ, List, Float, length, Result}
use Rattle.refusal.specs.declared.Refusal.{Refusal}
use Rattle.banded_lists.specs.EqualBands.{equal_bands, equal_refusal}
use Rattle.banded.specs.declared.Banded.{Banded}
use Rattle.banded.specs.Record.{made_banded}

-- colours are those of a list, or `ramp_colors count` of a ramp: as many as the bands, so that 9 applies only to a list
unfoldable pub with_equal_bands : (count : ℕ) (start end : Float) (colors : List ℕ) → Result Banded Refusal
with_equal_bands count start end colors = made_banded (equal_refusal count start end (length colors)) (equal_bands count start end colors)
