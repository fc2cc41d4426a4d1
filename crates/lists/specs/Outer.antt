-- The first and the last entry of a list, or another where it is empty. Definitions only.
use Rattle.std.specs.Prelude.{List, [], ◌∷◌}

module _ {A : Type 0} where
  abbrev pub first_or : (other : A) → List A → A
  first_or other [] = other
  first_or other (x ∷ xs) = x

  abbrev pub last_or : (other : A) → List A → A
  last_or other [] = other
  last_or other (x ∷ xs) = last_or x xs
