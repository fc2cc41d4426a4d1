-- A form of the code: keys and samples as 32-bit numbers. That a search among them gives `key_color` is proofs/Sought.antt (sample_color). Definitions only.
use Rattle.std.specs.Prelude.{Option, Some, None, ℕ, ◌≤◌, ◌<◌, ◌≡◌, true, cond, List, ℤ, pos, negsuc, get_or}
use Rattle.categoric_search.specs.forms.Searchable.{in_key_range, searchable}

-- 256 numbers: the counted keys, which can be searched, and then one that is above every key
pub record Narrow (keys : List ℤ) (count : ℕ) (narrow : List ℤ) : Type 0 where
  pub counted : count ≤ 256
  pub sought : searchable keys count ≡ true
  pub below : (k : ℕ) → k < count → get_or narrow k (pos 0) ≡ get_or keys k (pos 0)
  pub past : (k : ℕ) → count ≤ k → k < 256 → get_or narrow k (pos 0) ≡ pos 2147483647

-- no key's number: -16,777,217
abbrev pub none : ℤ
none = negsuc 16777216

-- the key of a cut sample
unfoldable pub narrow_key : Option ℤ → ℤ
narrow_key (Some z) = cond (in_key_range z) z none
narrow_key None = none
