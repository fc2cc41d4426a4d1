-- A legend: its kind beside the three records, of which that of its kind alone counts, and its settings (docs/RULES.md, "Where each call says no"). Definitions
-- only.
use Rattle.std.specs.Prelude.{ℕ, Bool, true, cond, [], ltb, eqb}
use Rattle.refusal.specs.Outcome.{Answer, Done}
use Rattle.colormapper.specs.declared.MappingConfig.{MappingConfig}
use Rattle.colormapper.specs.Settings.{no_settings}
use Rattle.linear.specs.declared.Linear.{Linear}
use Rattle.linear.specs.Made.{empty_linear}
use Rattle.banded.specs.declared.Banded.{Banded}
use Rattle.banded.specs.Record.{banded_of, banded_refusal}
use Rattle.catgegoric.specs.declared.CategoricNumeric.{CategoricNumeric}
use Rattle.catgegoric.specs.Made.{empty_categoric, categoric_refusal}
use Rattle.legend.specs.declared.LegendKind.{LegendKind}
use Rattle.legend.specs.declared.LegendKind.TheVariants as kind
use Rattle.legend.specs.declared.Legend.{Legend}

-- 0 linear, 1 banded, 2 categoric; who reads a number refuses those from 3 on first
abbrev pub kind_number : LegendKind → ℕ
kind_number kind.Linear = 0
kind_number kind.Banded = 1
kind_number kind.CategoricNumeric = 2

abbrev pub kind_numbered : ℕ → LegendKind
kind_numbered n = cond (eqb n 0) kind.Linear (cond (eqb n 1) kind.Banded kind.CategoricNumeric)

-- the other two records are the empty ones
abbrev pub linear_legend : Linear → MappingConfig → Legend
linear_legend linear config = record { kind = kind.Linear; linear = linear; banded = banded_of []; categoric = empty_categoric; mapping_config = config }

abbrev pub banded_legend : Banded → MappingConfig → Legend
banded_legend banded config = record { kind = kind.Banded; linear = empty_linear; banded = banded; categoric = empty_categoric; mapping_config = config }

abbrev pub categoric_legend : CategoricNumeric → MappingConfig → Legend
categoric_legend categoric config =
    record { kind = kind.CategoricNumeric; linear = empty_linear; banded = banded_of []; categoric = categoric; mapping_config = config }

abbrev pub empty_legend : Legend
empty_legend = linear_legend empty_linear no_settings

-- 16 a stored count of its kind above capacity
abbrev pub stored_in : LegendKind → Legend → Answer
stored_in kind.Linear l = Done
stored_in kind.Banded l = banded_refusal l.banded.count
stored_in kind.CategoricNumeric l = categoric_refusal l.categoric.count l.categoric.lookup_count

unfoldable pub stored_refusal : Legend → Answer
stored_refusal l = stored_in l.kind l

-- whether its lanes have a rule of their own: a categoric legend without a table has none
abbrev pub simd_in : LegendKind → Legend → Bool
simd_in kind.Linear l = true
simd_in kind.Banded l = true
simd_in kind.CategoricNumeric l = ltb 0 l.categoric.lookup_count

unfoldable pub simd_supported : Legend → Bool
simd_supported l = simd_in l.kind l
