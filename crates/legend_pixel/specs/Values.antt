-- The colour of one sample (docs/RULES.md, "Where each call says no": 16). Definitions only.
use Rattle.std.specs.Prelude.{ℕ, Option, Result, Float}
use Rattle.refusal.specs.Outcome.{made_unless}
use Rattle.refusal.specs.declared.Refusal.{Refusal}
use Rattle.legend.specs.declared.Legend.{Legend}
use Rattle.legend.specs.Record.{stored_refusal}
use Rattle.legend.specs.Painters.{painter}

-- 16
unfoldable pub color_for_value : Legend → Option Float → Float → Result ℕ Refusal
color_for_value l nodata v = made_unless (stored_refusal l) ((painter l nodata).plain v)
