-- A form of the code: a record built one band after the other. That all bands give `with_bands_given` is proofs/GivenBands.antt (given_refused,
-- given_made). Definitions only.
use Rattle.std.specs.Prelude.{◌+◌, cond, List, [], ◌∷◌, ltb, set}
use Rattle.banded_columns.specs.declared.LegendBand.{LegendBand}
use Rattle.banded.specs.declared.Banded.{Banded}

-- one band more after those counted, or the same where 64 are
unfoldable pub with_band : Banded → LegendBand → Banded
with_band into band = cond (ltb into.count 64) (record { bands = set into.bands into.count band; count = into.count + 1 }) into

unfoldable pub folded : {X : Type 0} → (X → LegendBand → X) → X → List LegendBand → X
folded step x [] = x
folded step x (b ∷ bs) = folded step (step x b) bs
