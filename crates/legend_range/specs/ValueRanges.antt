-- The whole range of a legend's values (docs/RULES.md, "Painting"). Definitions only.
use Rattle.std.specs.Prelude.{Result, List, [], ◌∷◌, ℤ, Float, take}
use Rattle.refusal.specs.Outcome.{Answer, first_of, made_unless}
use Rattle.refusal.specs.declared.Refusal.{Refusal}
use Rattle.std.specs.Float.{binary32}
use Rattle.std.specs.Float.Ieee.{of_int}
use Rattle.floats.specs.RampIndex.{nought}
use Rattle.banded_columns.specs.declared.LegendBand.{LegendBand}
use Rattle.banded_columns.specs.Band.{last_of}
use Rattle.banded_lists.specs.declared.ValueRange.{ValueRange}
use Rattle.banded.specs.Record.{counted}
use Rattle.categoric_build.specs.Table.{smallest, largest}
use Rattle.categoric_lists.specs.Keys.{keys_refusal}
use Rattle.legend.specs.declared.LegendKind.{LegendKind}
use Rattle.legend.specs.declared.LegendKind.TheVariants as kind
use Rattle.legend.specs.declared.Legend.{Legend}
use Rattle.legend.specs.Record.{stored_refusal}

abbrev pub from_to : (start end : Float) → ValueRange
from_to start end = record { start = start; end = end }

-- first start and last end; 0 and 0 where empty
unfoldable pub bands_range : List LegendBand → ValueRange
bands_range [] = from_to nought nought
bands_range (b ∷ bs) = from_to b.start (last_of b bs).end

-- smallest and largest key; 0 and 0 where empty
unfoldable pub keys_range : List ℤ → ValueRange
keys_range [] = from_to nought nought
keys_range (k ∷ ks) = from_to (of_int binary32 (smallest (k ∷ ks))) (of_int binary32 (largest (k ∷ ks)))

-- the keys that a legend counts, none where it is of another kind
abbrev pub keys_in : LegendKind → Legend → List ℤ
keys_in kind.Linear l = []
keys_in kind.Banded l = []
keys_in kind.CategoricNumeric l = take l.categoric.count l.categoric.keys

abbrev pub range_in : LegendKind → Legend → ValueRange
range_in kind.Linear l = from_to l.linear.start l.linear.end
range_in kind.Banded l = bands_range (counted l.banded)
range_in kind.CategoricNumeric l = keys_range (keys_in kind.CategoricNumeric l)

-- 16; 17 for a stored key
unfoldable pub total_range_refusal : Legend → Answer
total_range_refusal l = first_of (stored_refusal l) (keys_refusal (keys_in l.kind l))

unfoldable pub total_value_range : Legend → Result ValueRange Refusal
total_value_range l = made_unless (total_range_refusal l) (range_in l.kind l)
