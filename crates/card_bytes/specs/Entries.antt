-- Entries of one width, one after the other. Definitions only.
use Rattle.std.specs.Prelude.{ℕ, ◌*◌, List, [], ◌∷◌, ◌++◌, drop}
use Rattle.lists.specs.Tabulate.{tabulate}

module _ {A : Type 0} where
  -- P of each
  unfoldable pub All : (P : A → Type 0) → List A → Type 0
  All P [] = Unit {0}
  All P (x ∷ xs) = P x × All P xs

  -- the bytes of some
  unfoldable pub entries_of : (write : A → List ℕ) → List A → List ℕ
  entries_of write [] = []
  entries_of write (x ∷ xs) = write x ++ entries_of write xs

  -- n entries of w bytes, each read from its first byte on
  unfoldable pub entries_in : (w n : ℕ) (read : List ℕ → A) (bytes : List ℕ) → List A
  entries_in w n read bytes = tabulate n (λ k. read (drop (w * k) bytes))
