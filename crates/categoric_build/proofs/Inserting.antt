-- Putting a category in: by its place among the keys, and in the arrays that hold the categories. Assumes nothing.
use mathlib.Core.Bool.{Bool, true, false, cond, not}
use Rattle.std.specs.List.{position, position_or_len}
use Rattle.std.specs.Option.{unwrap_or}
use Rattle.std.proofs.Common.{Some, None}
use lib.Dec.{ltb}
use mathlib.Core.List.{List, [], ◌∷◌, ◌++◌, map}
use mathlib.Core.Path.{◌≡◌, refl, sym, ap, ap₂, ◌∙◌, subst}
use Prim.Native.Nat.{ℕ, zero, suc, ◌+◌, ◌≤◌, ◌<◌}
use native.Mathlib.Numerals.{add-one}
use native.Mathlib.Omega.{arith}
use borrow.Author.Tests.{not-true, not-false, ltb-false}
use lib.IntN.{ℤ, pos}
use lib.ListN.{length, get_or, take, drop, set, replicate, length-append, length-drop, length-map}
use lib.Seq.{length-take-le, get_or-take}
use lib.Signed.{lt_z, le_z}
use Rattle.lists.specs.Padded.{padded}
use Rattle.lists.proofs.Padding.{length-padded, padded-none, take-padded}
use Rattle.categoric_build.specs.Categories.{Category, category, inserted, inserted_up_to, keys_of, colors_of}
use Rattle.categoric_build.specs.forms.Insertion.{insertion_index, shifted_up, HoldsCategories}
use Rattle.categoric_lists.proofs.Numbers.{le_is}
use Rattle.categoric_build.proofs.Rooms.{roomed, replaced}

-- ---- the place of a key
module _ (key : ℤ) where
  place_after : (k : ℤ) (ks : List ℤ) → lt_z k key ≡ true → insertion_index key (k ∷ ks) ≡ suc (insertion_index key ks)
  unfolding insertion_index
  place_after k ks e = ap (λ (t : Bool). cond t (suc (insertion_index key ks)) 0) e

  place_first : (k : ℤ) (ks : List ℤ) → lt_z k key ≡ false → insertion_index key (k ∷ ks) ≡ 0
  unfolding insertion_index
  place_first k ks e = ap (λ (t : Bool). cond t (suc (insertion_index key ks)) 0) e

  place_none : (ks : List ℤ) → insertion_index key (drop (length ks) ks) ≡ 0
  unfolding insertion_index
  place_none [] = refl
  place_none (k ∷ ks) = place_none ks

  place_≤ : (ks : List ℤ) → insertion_index key ks ≤ length ks
  unfolding insertion_index
  place_≤ [] = omega arith
  place_≤ (k ∷ ks) = go (lt_z k key) (place_≤ ks)
    where
      go : (t : Bool) → insertion_index key ks ≤ length ks → cond t (suc (insertion_index key ks)) 0 ≤ suc (length ks)
      go true h = omega arith
      go false h = omega arith

  place_is : (ks : List ℤ) → position_or_len (le_z key) ks ≡ insertion_index key ks
  unfolding insertion_index
  place_is [] = refl
  place_is (k ∷ ks) = ap₂ (λ (t : Bool) (n : ℕ). cond t n 0) (ap not (le_is key k) ∙ twice (lt_z k key)) (omega (arith, place_is ks))
    where
      twice : (t : Bool) → not (not t) ≡ t
      twice true = refl
      twice false = refl

  -- the first key that is not below it, or else the end
  pub place_found : (ks : List ℤ) → unwrap_or (position (le_z key) ks) (length ks) ≡ insertion_index key ks
  place_found ks = go (ltb (position_or_len (le_z key) ks) (length ks)) refl
    where
      go : (t : Bool) → ltb (position_or_len (le_z key) ks) (length ks) ≡ t
          → unwrap_or (cond t (Some (position_or_len (le_z key) ks)) None) (length ks) ≡ insertion_index key ks
      go true e = place_is ks
      go false e = omega (arith, ltb-false (position_or_len (le_z key) ks) (length ks) e, place_is ks, place_≤ ks)

  pub place_count : (keys : List ℤ) (count : ℕ) → length keys ≡ 256 → count ≤ 256 → insertion_index key (take count keys) ≤ count
  place_count keys count long few = omega (arith, place_≤ (take count keys), length-take-le count keys (omega arith))

-- ---- a category by its place
module _ (key : ℤ) (color : ℕ) where
  past : (c : Category) (cs : List Category) → lt_z c.key key ≡ true → inserted key color (c ∷ cs) ≡ c ∷ inserted key color cs
  unfolding inserted
  past c cs e = ap (λ (t : Bool). cond t (c ∷ inserted key color cs) (cond (lt_z key c.key) (category key color ∷ c ∷ cs) (category key color ∷ cs))) e

  here : (c : Category) (cs : List Category) → lt_z c.key key ≡ false → inserted key color (c ∷ cs) ≡ cond (lt_z key c.key) (category key color ∷ c ∷ cs)
      (category key color ∷ cs)
  unfolding inserted
  here c cs e = ap (λ (t : Bool). cond t (c ∷ inserted key color cs) (cond (lt_z key c.key) (category key color ∷ c ∷ cs) (category key color ∷ cs))) e

  -- before the key at that place, where it is larger, or behind all
  inserted_new : (cs : List Category) (p : ℕ) → insertion_index key (keys_of cs) ≡ p → (p < length cs → lt_z key (get_or (keys_of cs) p (pos 0)) ≡ true)
      → inserted key color cs ≡ take p cs ++ category key color ∷ drop p cs
  unfolding inserted insertion_index
  inserted_new [] zero e h = refl
  inserted_new [] (suc p) e h = absurd (omega arith)
  inserted_new (c ∷ cs) p e h = go (inserted_new cs) (lt_z c.key key) refl p e h
    where
      go : ((p : ℕ) → insertion_index key (keys_of cs) ≡ p → (p < length cs → lt_z key (get_or (keys_of cs) p (pos 0)) ≡ true) → inserted key color cs ≡ take p cs
          ++ category key color ∷ drop p cs) → (t : Bool) → lt_z c.key key ≡ t → (p : ℕ) → insertion_index key (keys_of (c ∷ cs)) ≡ p
          → (p < length (c ∷ cs) → lt_z key (get_or (keys_of (c ∷ cs)) p (pos 0)) ≡ true) → inserted key color (c ∷ cs) ≡ take p (c ∷ cs)
          ++ category key color ∷ drop p (c ∷ cs)
      go rest true b zero e h = absurd (omega (arith, place_after key c.key (keys_of cs) b))
      go rest true b (suc p) e h = past c cs b ∙ ap (λ r. c ∷ r) (rest p (omega (arith, place_after key c.key (keys_of cs) b)) (λ q. h (omega arith)))
      go rest false b zero e h = here c cs b ∙ ap (λ (t : Bool). cond t (category key color ∷ c ∷ cs) (category key color ∷ cs)) (h (omega arith))
      go rest false b (suc p) e h = absurd (omega (arith, place_first key c.key (keys_of cs) b))

  -- over the key at that place, where it is equal
  inserted-over : (cs : List Category) (p : ℕ) → insertion_index key (keys_of cs) ≡ p → p < length cs → lt_z key (get_or (keys_of cs) p (pos 0)) ≡ false
      → inserted key color cs ≡ take p cs ++ category key color ∷ drop (suc p) cs
  inserted-over [] p e l h = absurd (omega arith)
  inserted-over (c ∷ cs) p e l h = go (inserted-over cs) (lt_z c.key key) refl p e l h
    where
      go : ((p : ℕ) → insertion_index key (keys_of cs) ≡ p → p < length cs → lt_z key (get_or (keys_of cs) p (pos 0)) ≡ false → inserted key color cs ≡ take p cs
          ++ category key color ∷ drop (suc p) cs) → (t : Bool) → lt_z c.key key ≡ t → (p : ℕ) → insertion_index key (keys_of (c ∷ cs)) ≡ p
          → p < length (c ∷ cs) → lt_z key (get_or (keys_of (c ∷ cs)) p (pos 0)) ≡ false → inserted key color (c ∷ cs) ≡ take p (c ∷ cs)
          ++ category key color ∷ drop (suc p) (c ∷ cs)
      go rest true b zero e l h = absurd (omega (arith, place_after key c.key (keys_of cs) b))
      go rest true b (suc p) e l h = past c cs b ∙ ap (λ r. c ∷ r) (rest p (omega (arith, place_after key c.key (keys_of cs) b)) (omega arith) h)
      go rest false b zero e l h = here c cs b ∙ ap (λ (t : Bool). cond t (category key color ∷ c ∷ cs) (category key color ∷ cs)) h
      go rest false b (suc p) e l h = absurd (omega (arith, place_first key c.key (keys_of cs) b))

-- ---- the arrays
module _ {A B : Type 0} (f : A → B) where
  map-append : (xs ys : List A) → map f (xs ++ ys) ≡ map f xs ++ map f ys
  map-append [] ys = refl
  map-append (x ∷ xs) ys = ap (λ r. f x ∷ r) (map-append xs ys)

  map-take : (n : ℕ) (xs : List A) → map f (take n xs) ≡ take n (map f xs)
  map-take zero xs = refl
  map-take (suc n) [] = refl
  map-take (suc n) (x ∷ xs) = ap (λ r. f x ∷ r) (map-take n xs)

  map-drop : (n : ℕ) (xs : List A) → map f (drop n xs) ≡ drop n (map f xs)
  map-drop zero xs = refl
  map-drop (suc n) [] = refl
  map-drop (suc n) (x ∷ xs) = map-drop n xs

  -- an entry between the first p and those from q on
  map-between : (p q : ℕ) (xs : List A) (x : A) → map f (take p xs ++ x ∷ drop q xs) ≡ take p (map f xs) ++ f x ∷ drop q (map f xs)
  map-between p q xs x = map-append (take p xs) (x ∷ drop q xs) ∙ ap₂ (λ l r. l ++ f x ∷ r) (map-take p xs) (map-drop q xs)

-- the keys that are counted
pub counted : {cs : List Category} {keys : List ℤ} {colors : List ℕ} {count : ℕ} → HoldsCategories cs keys colors count → take count keys ≡ keys_of cs
counted {cs} {keys} {colors} {count} s = ap₂ take (s.count-is ∙ sym (length-map cs (λ c. c.key))) s.keys_are ∙ take-padded (pos 0) 256 (keys_of cs)

module _ (key : ℤ) (color p : ℕ) {cs : List Category} {keys : List ℤ} {colors : List ℕ} {count : ℕ} (s : HoldsCategories cs keys colors count)
    (at : p ≡ insertion_index key (take count keys)) where
  place_at : insertion_index key (keys_of cs) ≡ p
  place_at = sym (at ∙ ap (insertion_index key) (counted s))

  key_at : p < count → get_or (keys_of cs) p (pos 0) ≡ get_or keys p (pos 0)
  key_at h = sym (ap (λ l. get_or l p (pos 0)) (counted s)) ∙ get_or-take count keys p (pos 0) h

  many_keys : length (keys_of cs) ≡ length cs
  many_keys = length-map cs (λ c. c.key)

  many_colors : length (colors_of cs) ≡ length cs
  many_colors = length-map cs (λ c. c.color)

  -- in the room that was made
  pub holds_new : {keys' : List ℤ} {colors' : List ℕ} → count < 256 → (p < count → le_z (get_or keys p (pos 0)) key ≡ false) → keys'
      ≡ set (shifted_up p count keys) p key → colors' ≡ set (shifted_up p count colors) p color → HoldsCategories (inserted key color cs) keys' colors'
      (count + 1)
  holds_new h g k l =
      let e : inserted key color cs ≡ take p cs ++ category key color ∷ drop p cs =
      inserted_new key color cs p place_at (λ q. let r : p < count = omega (arith, s.count-is) in ap (lt_z key) (key_at r)
      ∙ not-false (lt_z key (get_or keys p (pos 0))) (sym (le_is (get_or keys p (pos 0)) key) ∙ g r)) in
      let up : p ≤ count = omega (arith, place_≤ key (keys_of cs), place_at, many_keys, s.count-is) in
      record {
        keys_are =
            k ∙ ap (λ a. set (shifted_up p count a) p key) s.keys_are ∙ roomed (pos 0) 256 p count (keys_of cs) key (omega (arith, many_keys, s.count-is)) up
            h
            ∙ sym (ap (λ l. padded (pos 0) 256 (keys_of l)) e ∙ ap (padded (pos 0) 256) (map-between (λ c. c.key) p p cs (category key color)));
        colors_are =
            l ∙ ap (λ a. set (shifted_up p count a) p color) s.colors_are ∙ roomed 0 256 p count (colors_of cs) color (omega (arith, many_colors, s.count-is))
            up h
            ∙ sym (ap (λ l. padded 0 256 (colors_of l)) e ∙ ap (padded 0 256) (map-between (λ c. c.color) p p cs (category key color)));
        count-is = omega (
          arith,
          s.count-is,
          ap length e,
          length-append (take p cs) (category key color ∷ drop p cs),
          length-take-le p cs
              (omega (arith, s.count-is)),
          length-drop p cs,
        );
      }

  -- over an equal key
  pub holds-over : {keys' : List ℤ} {colors' : List ℕ} → p < count → le_z (get_or keys p (pos 0)) key ≡ true → keys' ≡ set keys p key → colors'
      ≡ set colors p color → HoldsCategories (inserted key color cs) keys' colors' count
  holds-over h g k l =
      let e : inserted key color cs ≡ take p cs ++ category key color ∷ drop (suc p) cs =
      inserted-over key color cs p place_at (omega (arith, s.count-is))
      (ap (lt_z key) (key_at h) ∙ not-true (lt_z key (get_or keys p (pos 0))) (sym (le_is (get_or keys p (pos 0)) key) ∙ g)) in
      record {
        keys_are =
            k ∙ ap (λ a. set a p key) s.keys_are ∙ replaced (pos 0) 256 p (keys_of cs) key (omega (arith, many_keys, s.count-is))
            ∙ sym (ap (λ l. padded (pos 0) 256 (keys_of l)) e ∙ ap (padded (pos 0) 256) (map-between (λ c. c.key) p (suc p) cs (category key color)));
        colors_are =
            l ∙ ap (λ a. set a p color) s.colors_are ∙ replaced 0 256 p (colors_of cs) color (omega (arith, many_colors, s.count-is))
            ∙ sym (ap (λ l. padded 0 256 (colors_of l)) e ∙ ap (padded 0 256) (map-between (λ c. c.color) p (suc p) cs (category key color)));
        count-is = omega (
          arith,
          s.count-is,
          ap length e,
          length-append (take p cs) (category key color ∷ drop (suc p) cs),
          length-take-le p cs
              (omega (arith, s.count-is)),
          length-drop (suc p) cs,
        );
      }

-- ---- the loop over all that are given
pub holds-none : HoldsCategories [] (replicate 256 (pos 0)) (replicate 256 0) 0
holds-none = record { keys_are = sym (padded-none (pos 0) 256); colors_are = sym (padded-none 0 256); count-is = refl }

-- at most one more by each
length_inserted : (key : ℤ) (color : ℕ) (cs : List Category) → length (inserted key color cs) ≤ length cs + 1
unfolding inserted
length_inserted key color [] = omega arith
length_inserted key color (c ∷ cs) = go (lt_z c.key key) (lt_z key c.key) (length_inserted key color cs)
  where
    go : (t u : Bool) → length (inserted key color cs) ≤ length cs + 1
        → length (cond t (c ∷ inserted key color cs) (cond u (category key color ∷ c ∷ cs) (category key color ∷ cs))) ≤ suc (length cs) + 1
    go true u h = omega arith
    go false true h = omega arith
    go false false h = omega arith

pub length-first_of : (n : ℕ) (keys : List ℤ) (colors : List ℕ) → length (inserted_up_to n keys colors) ≤ n
unfolding inserted_up_to
length-first_of zero keys colors = omega arith
length-first_of (suc n) keys colors =
    omega (arith, length_inserted (get_or keys n (pos 0)) (get_or colors n 0) (inserted_up_to n keys colors), length-first_of n keys colors)

-- one more of what is given
pub holds_next : {keys : List ℤ} {colors : List ℕ} {count : ℕ} (i : ℕ) (given : List ℤ) (words : List ℕ) (key : ℤ) → key ≡ get_or given i (pos 0)
    → HoldsCategories (inserted key (get_or words i 0) (inserted_up_to i given words)) keys colors count
    → HoldsCategories (inserted_up_to (i + 1) given words) keys colors count
unfolding inserted_up_to
holds_next i given words key e s = rw (add-one, ← e) s

-- the lengths of the arrays
module _ {cs : List Category} {keys : List ℤ} {colors : List ℕ} {count : ℕ} (s : HoldsCategories cs keys colors count) (h : length cs ≤ 256) where
  pub keys-long : length keys ≡ 256
  keys-long = ap length s.keys_are ∙ length-padded (pos 0) 256 (keys_of cs) (omega (arith, length-map cs (λ c. c.key)))

  pub colors-long : length colors ≡ 256
  colors-long = ap length s.colors_are ∙ length-padded 0 256 (colors_of cs) (omega (arith, length-map cs (λ c. c.color)))
