-- The parts of a row, and two rows compared. Definitions only.
use Rattle.std.specs.Prelude.{cond, List, ◌++◌, ℕ, zero, suc, ◌+◌, eqb, length, get_or, take, drop}
use Rattle.lists.specs.Tabulate.{tabulate}

-- n words from a place on, each as a value
abbrev pub values_at : {A : Type 0} → (ℕ → A) → (from n : ℕ) → List ℕ → List A
values_at value from n row = tabulate n (λ k. value (get_or row (from + k) 0))

abbrev pub words_at : (from n : ℕ) → List ℕ → List ℕ
words_at from n row = values_at (λ w. w) from n row

-- words laid over a row from a place on
unfoldable pub put_at : (from : ℕ) (words row : List ℕ) → List ℕ
put_at from words row = take from row ++ (words ++ drop (from + length words) row)

-- the first place, of the next n from i on, in which two rows differ; i + n where they agree in all
unfoldable pub differ_from : (i n : ℕ) (a b : List ℕ) → ℕ
differ_from i zero a b = i
differ_from i (suc n) a b = cond (eqb (get_or a i 0) (get_or b i 0)) (differ_from (suc i) n a b) i

abbrev pub first_difference : (a b : List ℕ) → ℕ
first_difference a b = differ_from 0 1680 a b
