-- A form of the code: a category put into arrays, step by step. That the arrays then hold `inserted` is proofs/Putting.antt (holds_put). Definitions only.
use Rattle.std.specs.Prelude.{ℕ, suc, ◌+◌, ◌≡◌, Bool, cond, ◌&&◌, List, [], ◌∷◌, ◌++◌, ltb, ℤ, pos, length, get_or, take, drop, set}
use Rattle.std.specs.Int.Signed.{lt_z, le_z}
use Rattle.lists.specs.Padded.{padded}
use Rattle.categoric_build.specs.Categories.{Category, keys_of, colors_of}

-- how many keys stand before the first that is not below a key
unfoldable pub insertion_index : ℤ → List ℤ → ℕ
insertion_index key [] = 0
insertion_index key (k ∷ ks) = cond (lt_z k key) (suc (insertion_index key ks)) 0

-- the entries from `at` up to `count`, one place up; what stood at `at` stays there too
unfoldable pub shifted_up : {A : Type 0} → (at count : ℕ) → List A → List A
shifted_up at count a = take (at + 1) a ++ (drop at (take count a) ++ drop (count + 1) a)

-- whether the key stands at its place already: the one there is not above it
unfoldable pub is_present : (key : ℤ) (keys : List ℤ) (count : ℕ) → Bool
is_present key keys count =
    let at = insertion_index key (take count keys) in
    ltb at count && le_z (get_or keys at (pos 0)) key

-- an entry stored at its place: over what stands there, or in the room made
unfoldable pub stored : {A : Type 0} → (over : Bool) (at count : ℕ) → A → List A → List A
stored over at count x a = set (cond over a (shifted_up at count a)) at x

-- the arrays and the count after one category is put in, whatever they held
pub record Inserted (key : ℤ) (color : ℕ) (keys : List ℤ) (colors : List ℕ) (count : ℕ) (keys' : List ℤ) (colors' : List ℕ) (count' : ℕ) : Type 0 where
  pub keys_are : keys' ≡ stored (is_present key keys count) (insertion_index key (take count keys)) count key keys
  pub colors_are : colors' ≡ stored (is_present key keys count) (insertion_index key (take count keys)) count color colors
  pub count-is : count' ≡ cond (is_present key keys count) count (count + 1)

-- the arrays and the count that hold some categories
pub record HoldsCategories (cs : List Category) (keys : List ℤ) (colors : List ℕ) (count : ℕ) : Type 0 where
  pub keys_are : keys ≡ padded (pos 0) 256 (keys_of cs)
  pub colors_are : colors ≡ padded 0 256 (colors_of cs)
  pub count-is : count ≡ length cs
