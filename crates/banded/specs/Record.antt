-- The record of a banded legend, what a builder gives, and which stored counts are refused (docs/RULES.md, "Where each call says no" and "Banded"). Definitions
-- only.
use Rattle.std.specs.Prelude.{ℕ, List, ltb, length, take, Result}
use Rattle.refusal.specs.Outcome.{Answer, Done, refuse_if, made_unless}
use Rattle.refusal.specs.declared.Refusal.{Refusal}
use Rattle.refusal.specs.declared.Refusal.TheVariants.{CountAboveCapacity}
use Rattle.banded_columns.specs.declared.LegendBand.{LegendBand}
use Rattle.banded_lists.specs.Padded.{padded_bands}
use Rattle.banded.specs.declared.Banded.{Banded}

-- the record of at most 64 bands: the bands in their order, then blank ones
unfoldable pub banded_of : List LegendBand → Banded
banded_of bands = record { bands = padded_bands bands; count = length bands }

-- the bands that a record counts: all 64 where its count is above that
abbrev pub counted : Banded → List LegendBand
counted banded = take banded.count banded.bands

-- the record of some bands, unless they are refused
unfoldable pub made_banded : Answer → List LegendBand → Result Banded Refusal
made_banded answer bands = made_unless answer (banded_of bands)

-- any use of a record: 16 a stored count above 64
unfoldable pub banded_refusal : (count : ℕ) → Answer
banded_refusal count = refuse_if (ltb 64 count) CountAboveCapacity Done
