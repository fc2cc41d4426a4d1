-- Categories: keys with colours, ascending, the last given of equal keys (docs/RULES.md, "Categoric"). Definitions only.
use Rattle.std.specs.Prelude.{ℕ, zero, suc, cond, List, [], ◌∷◌, map, ℤ, pos, length, get_or}
use Rattle.std.specs.Int.Signed.{lt_z}

pub record Category : Type 0 where
  pub key : ℤ
  pub color : ℕ

abbrev pub category : ℤ → ℕ → Category
category key color = record { key = key; color = color }

-- a category put behind the smaller keys: in the place of an equal key, else before the larger ones
unfoldable pub inserted : (key : ℤ) (color : ℕ) → List Category → List Category
inserted key color [] = category key color ∷ []
inserted key color (c ∷ cs) =
    cond (lt_z c.key key) (c ∷ inserted key color cs)
    (cond (lt_z key c.key) (category key color ∷ c ∷ cs) (category key color ∷ cs))

-- the first n keys with their colours, put in one after the other
unfoldable pub inserted_up_to : (n : ℕ) (keys : List ℤ) (colors : List ℕ) → List Category
inserted_up_to zero keys colors = []
inserted_up_to (suc n) keys colors = inserted (get_or keys n (pos 0)) (get_or colors n 0) (inserted_up_to n keys colors)

abbrev pub categories : (keys : List ℤ) (colors : List ℕ) → List Category
categories keys colors = inserted_up_to (length keys) keys colors

abbrev pub keys_of : List Category → List ℤ
keys_of cs = map (λ c. c.key) cs

abbrev pub colors_of : List Category → List ℕ
colors_of cs = map (λ c. c.color) cs
