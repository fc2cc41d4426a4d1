-- What a builder made is what it is used as: a legend, laid flat for C and read back, is the same legend, and the interface refuses nothing of it. Assumes
-- nothing.
use Rattle.std.specs.Prelude.{ℕ, Option, Some, None, Ok}
use mathlib.Core.Path.{◌≡◌, refl}
use mathlib.Core.Bool.{Bool, true, false}
use lib.Dec.{ltb, eqb}
use Rattle.colormapper.specs.declared.MappingConfig.{MappingConfig}
use Rattle.colormapper.specs.Settings.{or_else, color_if, given_flag, flag_of}
use Rattle.legend.specs.declared.LegendKind.{LegendKind}
use Rattle.legend.specs.declared.LegendKind.TheVariants.{Linear, Banded, CategoricNumeric}
use Rattle.legend.specs.declared.Legend.{Legend}
use Rattle.c_types.specs.Settings.{settings_from_c, settings_to_c}
use Rattle.c_records.specs.Records.{legend_from_c, record_to_c}
use Rattle.legend.specs.Record.{kind_numbered, kind_number}
use Rattle.c_types.specs.Refusals.{settings_refusal, legend_refusal}

color_back : (o : (Option ℕ)) → color_if (given_flag o) (or_else o 0) ≡ o
color_back (Some c) = refl
color_back None = refl

flag_back : (b : Bool) → eqb (flag_of b) 1 ≡ b
flag_back true = refl
flag_back false = refl

kind_back : (k : LegendKind) → kind_numbered (kind_number k) ≡ k
kind_back Linear = refl
kind_back Banded = refl
kind_back CategoricNumeric = refl

pub settings_back : (c : MappingConfig) → settings_from_c (settings_to_c c) ≡ c
unfolding settings_from_c settings_to_c
settings_back c =
    λ j. record {
      nodata_color = c.nodata_color;
      out_of_range_low_color = color_back c.out_of_range_low_color j;
      out_of_range_high_color = color_back c.out_of_range_high_color j;
      zero_is_nodata = flag_back c.zero_is_nodata j;
    }

pub legend_back : (l : Legend) → legend_from_c (record_to_c l) ≡ l
unfolding legend_from_c record_to_c
legend_back l =
    λ j. record {
      kind = kind_back l.kind j;
      linear = l.linear;
      banded = l.banded;
      categoric = l.categoric;
      mapping_config = settings_back l.mapping_config j;
    }

color_flag : (o : (Option ℕ)) → ltb (given_flag o) 2 ≡ true
color_flag (Some c) = refl
color_flag None = refl

bool_flag : (b : Bool) → ltb (flag_of b) 2 ≡ true
bool_flag true = refl
bool_flag false = refl

kind-known : (k : LegendKind) → ltb 2 (kind_number k) ≡ false
kind-known Linear = refl
kind-known Banded = refl
kind-known CategoricNumeric = refl

pub flat_used : (l : Legend) → legend_refusal (record_to_c l).settings (record_to_c l).kind ≡ Ok tt
unfolding legend_refusal settings_refusal record_to_c settings_to_c
flat_used l =
    let c = l.mapping_config in simp (
      color_flag c.out_of_range_low_color,
      color_flag c.out_of_range_high_color,
      bool_flag c.zero_is_nodata,
      kind-known l.kind,
    )
