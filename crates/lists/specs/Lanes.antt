-- What the lanes of an array hold. Definitions only.
use Rattle.std.specs.Prelude.{◌≡◌, List, ℕ, ◌<◌, get_or}
use Rattle.lists.specs.Tabulate.{tabulate}
use Rattle.lists.specs.Padded.{padded}

-- each lane k below l holds f k; nothing is said of the lanes from l on (z is what a list holds past its end)
abbrev pub Lanes : {A : Type 0} → A → ℕ → List A → (ℕ → A) → Type 0
Lanes z l r f = (k : ℕ) → k < l → get_or r k z ≡ f k

-- an array of sixteen lanes, whole: each lane k below l holds f k, and the others z
pub record LanesOf {A : Type 0} (z : A) (l : ℕ) (f : ℕ → A) (r : List A) : Type 0 where
  pub is : r ≡ padded z 16 (tabulate l f)
