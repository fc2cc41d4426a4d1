-- Bands as given (docs/RULES.md, "Where each call says no"). Definitions only.
use Rattle.std.specs.Prelude.{ℕ, List, ltb, length, Result}
use Rattle.refusal.specs.Outcome.{Answer, Done, refuse_if}
use Rattle.refusal.specs.declared.Refusal.{Refusal}
use Rattle.refusal.specs.declared.Refusal.TheVariants.{TooManyBands}
use Rattle.banded_columns.specs.declared.LegendBand.{LegendBand}
use Rattle.banded.specs.declared.Banded.{Banded}
use Rattle.banded.specs.Record.{made_banded}

-- 8 more than 64
unfoldable pub given_refusal : (count : ℕ) → Answer
given_refusal count = refuse_if (ltb 64 count) TooManyBands Done

unfoldable pub with_bands_given : List LegendBand → Result Banded Refusal
with_bands_given bands = made_banded (given_refusal (length bands)) bands
