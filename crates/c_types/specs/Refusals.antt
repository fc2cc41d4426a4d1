-- What the interface refuses by itself, before the table of docs/RULES.md: 100 a flag that is neither 0 nor 1, 101 a kind that is none of 0, 1, 2.
-- Definitions only.
use Rattle.std.specs.Prelude.{ℕ, Bool, not, ◌&&◌, ltb}
use Rattle.refusal.specs.Outcome.{Answer, Done, refuse_if, first_of}
use Rattle.refusal.specs.declared.Refusal.TheVariants.{BadFlag, BadKind}
use Rattle.c_types.specs.declared.settings.LegendSettings.{LegendSettings}

abbrev pub settings_flags : LegendSettings → Bool
settings_flags s = (ltb s.has_low 2 && ltb s.has_high 2) && ltb s.zero_is_nodata 2

-- a builder's settings: 100
unfoldable pub settings_refusal : LegendSettings → Answer
settings_refusal s = refuse_if (not (settings_flags s)) BadFlag Done

-- a legend: 100 for its flags; 101
unfoldable pub legend_refusal : LegendSettings → (kind : ℕ) → Answer
legend_refusal s kind = first_of (settings_refusal s) (refuse_if (ltb 2 kind) BadKind Done)

-- a legend and a nodata value: 100 for the legend's flags; 101; 100 for the nodata value's flag
unfoldable pub use_refusal : LegendSettings → (kind given : ℕ) → Answer
use_refusal s kind given = first_of (legend_refusal s kind) (refuse_if (ltb 1 given) BadFlag Done)
