-- The conditions of the rule are met: legends of each kind. And the user's conditions are among them. Assumes nothing.
use mathlib.Core.Path.{◌≡◌, refl}
use mathlib.Core.Bool.{true, false}
use mathlib.Core.List.{[], ◌∷◌}
use Prim.Native.Nat.{ℕ}
use lib.Ieee.{Float, inf, binary32, lt, le, add, sub, of_int, of_bits, is_nan}
use lib.ListN.{replicate}
use Rattle.lists.specs.Each.{each}
use Rattle.floats.specs.RampIndex.{nought}
use Rattle.lists.specs.Padded.{padded}
use Rattle.colormapper.specs.Settings.{no_settings}
use Rattle.colormapper.specs.Tolerance.{E}
use Rattle.banded_columns.specs.declared.LegendBand.{LegendBand}
use Rattle.banded_columns.specs.Band.{last_of}
use Rattle.banded_columns.specs.Order.{each_after, each_next, ascending_disjoint}
use Rattle.banded_lanes.specs.Conditions.{first_and_last}
use Rattle.banded_columns.proofs.Ordering.{ordered-disjoint}
use Rattle.banded.specs.Record.{banded_of, counted}
use Rattle.catgegoric.specs.Made.{empty_categoric}
use Rattle.legend.specs.declared.Legend.{Legend}
use Rattle.legend.specs.declared.LegendKind.{LegendKind}
use Rattle.legend.specs.declared.LegendKind.TheVariants as kind
use Rattle.legend.specs.Record.{linear_legend, banded_legend, categoric_legend}
use Rattle.claim_examples.specs.Decimals.{integer}
use Rattle.claim_chunking.specs.Rule.{LawfulIn, Lawful, AskedIn, Asked}

-- ---- from 0 to 255
pub linear_met : Lawful (linear_legend (record { start = nought; end = integer 255; cmap = replicate 256 0 }) no_settings)
unfolding lt of_int
linear_met = refl

-- ---- bands, in the user's words: 0 to 1 and 2 to 3; two bands that are exactly E wide, 0 to E and E to 2 E; none
abbrev band : (start end : Float) (color : ℕ) → LegendBand
band start end color = record { start = start; end = end; color = color }

pub banded_met : Asked (banded_legend (banded_of (band (integer 0) (integer 1) 1 ∷ band (integer 2) (integer 3) 2 ∷ [])) no_settings)
unfolding banded_of padded each each_after each_next first_and_last last_of add sub lt le is_nan of_int of_bits
banded_met = (record { finite = tt; starts = tt; ascending = tt; disjoint = tt }, tt)

pub narrowest_met : Asked (banded_legend (banded_of (band (integer 0) E 1 ∷ band E (add binary32 E E) 2 ∷ [])) no_settings)
unfolding banded_of padded each each_after each_next first_and_last last_of add sub lt le is_nan of_int of_bits
narrowest_met = (record { finite = tt; starts = tt; ascending = tt; disjoint = tt }, tt)

pub empty_met : Asked (banded_legend (banded_of []) no_settings)
unfolding banded_of padded each each_next first_and_last
empty_met = (record { finite = tt; starts = tt; ascending = tt; disjoint = tt }, tt)

-- ---- bands that the user does not ask for: from -infinity to 0, and from 0 to infinity
pub infinite_met : Lawful (banded_legend (banded_of (band (inf true) (integer 0) 1 ∷ band (integer 0) (inf false) 2 ∷ [])) no_settings)
unfolding banded_of padded ascending_disjoint each each_after each_next first_and_last last_of add sub lt le is_nan of_int of_bits
infinite_met = record { ordered = tt; wide = tt }

-- ---- every categoric legend
pub categoric_met : Asked (categoric_legend empty_categoric no_settings)
categoric_met = tt

-- ---- a legend that the user asks for is lawful
asked_in : (k : LegendKind) (l : Legend) → AskedIn k l → LawfulIn k l
asked_in kind.Linear l h = h
asked_in kind.Banded l h = record { ordered = ordered-disjoint (counted l.banded) h.0; wide = h.1 }
asked_in kind.CategoricNumeric l h = tt

pub asked_lawful : (l : Legend) → Asked l → Lawful l
asked_lawful l h = asked_in l.kind l h
