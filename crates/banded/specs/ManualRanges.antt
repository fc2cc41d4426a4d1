-- A record of bands with manual ranges that is asked for, refusals included (docs/RULES.md, "Where each call says no"). Definitions only.
use Rattle.std.specs.Prelude.{ℕ, List, length, Result}
use Rattle.refusal.specs.declared.Refusal.{Refusal}
use Rattle.banded_lists.specs.declared.ValueRanges.{ValueRanges}
use Rattle.banded_lists.specs.ManualRanges.{ranges_of, range_bands, manual_refusal}
use Rattle.banded.specs.declared.Banded.{Banded}
use Rattle.banded.specs.Record.{made_banded}

-- colours are those of a list, or `ramp_colors count` of a ramp: as many as the ranges, so that 9 applies only to a list
unfoldable pub with_manual_ranges : ValueRanges → (colors : List ℕ) → Result Banded Refusal
with_manual_ranges values colors = made_banded (manual_refusal values (length colors)) (range_bands (ranges_of values) colors)
