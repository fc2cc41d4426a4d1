-- One category put into the arrays: what the code's two ways give, and that arrays that hold some categories then hold it too. Assumes nothing.
use mathlib.Core.Bool.{Bool, true, false, cond, ◌&&◌}
use mathlib.Core.List.{List}
use mathlib.Core.Logic.{⊎_elim}
use mathlib.Core.Path.{◌≡◌, refl, sym, ap, ap₂, subst, ◌∙◌}
use Prim.Native.Nat.{ℕ, ◌+◌, ◌≤◌, ◌<◌}
use native.Mathlib.Omega.{arith}
use borrow.Author.Tests.{lt-ltb, le-ltb}
use lib.IntN.{ℤ, pos}
use lib.ListN.{get_or, take, set}
use lib.Signed.{le_z}
use Rattle.lists.proofs.Numbers.{lt_or_le}
use Rattle.categoric_build.specs.Categories.{Category, inserted}
use Rattle.categoric_build.specs.forms.Insertion.{insertion_index, shifted_up, is_present, stored, Inserted, HoldsCategories}
use Rattle.categoric_build.proofs.Inserting.{holds_new, holds-over}

-- ---- whether the key stands at its place, p
abbrev test : (key : ℤ) (keys : List ℤ) (at : ℕ) → Bool
test key keys at = le_z (get_or keys at (pos 0)) key

module _ (key : ℤ) (keys : List ℤ) (count : ℕ) {p : ℕ} (is : p ≡ insertion_index key (take count keys)) where
  it_stands : p < count → test key keys p ≡ true → is_present key keys count ≡ true
  unfolding is_present
  it_stands h e = ap₂ (λ (x y : Bool). x && y) (lt-ltb _ count (subst (λ (n : ℕ). n < count) is h)) (ap (test key keys) (sym is) ∙ e)

  it_does_not : (p < count → test key keys p ≡ false) → is_present key keys count ≡ false
  unfolding is_present
  it_does_not e =
      ⊎_elim
      (λ (h : p < count). ap₂ (λ (x y : Bool). x && y) (lt-ltb _ count (subst (λ (n : ℕ). n < count) is h)) (ap (test key keys) (sym is) ∙ e h))
      (λ (h : count ≤ p). ap (λ (x : Bool). x && test key keys (insertion_index key (take count keys))) (le-ltb _ count (subst (λ (n : ℕ). count ≤ n) is h)))
      (lt_or_le p count)

over-is : {A : Type 0} (at count : ℕ) (x : A) (a : List A) → stored true at count x a ≡ set a at x
unfolding stored
over-is at count x a = refl

new_is : {A : Type 0} (at count : ℕ) (x : A) (a : List A) → stored false at count x a ≡ set (shifted_up at count a) at x
unfolding stored
new_is at count x a = refl

-- what is stored, by whether the key stands and by its place
as_stored : {A : Type 0} {over b : Bool} {at p : ℕ} (count : ℕ) (x : A) (a : List A) → over ≡ b → p ≡ at → stored over at count x a ≡ stored b p count x a
as_stored {over = over} {b = b} {at = at} {p = p} count x a e i = ap₂ (λ (t : Bool) (n : ℕ). stored t n count x a) e (sym i)

-- ---- the code's two ways; k is the key as the code holds it
module _ {k key : ℤ} {color p : ℕ} {keys' : List ℤ} {colors' : List ℕ} (keys : List ℤ) (colors : List ℕ) (count : ℕ) (same : k ≡ key)
    (is : p ≡ insertion_index k (take count keys)) where
  pub put_over : p < count → le_z (get_or keys p (pos 0)) k ≡ true → keys' ≡ set keys p k → colors' ≡ set colors p color
      → Inserted key color keys colors count keys' colors' count
  put_over h t e f =
      let b : is_present k keys count ≡ true = it_stands k keys count is h t in
      subst (λ z. Inserted z color keys colors count keys' colors' count) same
      (record {
        keys_are = e ∙ sym (as_stored count k keys b is ∙ over-is p count k keys);
        colors_are = f ∙ sym (as_stored count color colors b is ∙ over-is p count color colors);
        count-is = sym (ap (λ (t : Bool). cond t count (count + 1)) b);
      })

  pub put_new : (p < count → le_z (get_or keys p (pos 0)) k ≡ false) → keys' ≡ set (shifted_up p count keys) p k → colors' ≡ set (shifted_up p count colors) p color
      → Inserted key color keys colors count keys' colors' (count + 1)
  put_new t e f =
      let b : is_present k keys count ≡ false = it_does_not k keys count is t in
      subst (λ z. Inserted z color keys colors count keys' colors' (count + 1)) same
      (record {
        keys_are = e ∙ sym (as_stored count k keys b is ∙ new_is p count k keys);
        colors_are = f ∙ sym (as_stored count color colors b is ∙ new_is p count color colors);
        count-is = sym (ap (λ (t : Bool). cond t count (count + 1)) b);
      })

-- ---- arrays that hold some categories
module _ {key : ℤ} {color count count' : ℕ} {keys keys' : List ℤ} {colors colors' : List ℕ} {cs : List Category} (few : count < 256)
    (s : HoldsCategories cs keys colors count) (put : Inserted key color keys colors count keys' colors' count') where
  abbrev at : ℕ
  at = insertion_index key (take count keys)

  over : at < count → le_z (get_or keys at (pos 0)) key ≡ true → HoldsCategories (inserted key color cs) keys' colors' count'
  over h t =
      let b : is_present key keys count ≡ true = it_stands key keys count refl h t in
      subst (HoldsCategories (inserted key color cs) keys' colors') (sym (put.count-is ∙ ap (λ (t : Bool). cond t count (count + 1)) b))
      (holds-over key color at s refl h t (put.keys_are ∙ as_stored count key keys b refl ∙ over-is at count key keys)
      (put.colors_are ∙ as_stored count color colors b refl ∙ over-is at count color colors))

  new : (at < count → le_z (get_or keys at (pos 0)) key ≡ false) → HoldsCategories (inserted key color cs) keys' colors' count'
  new t =
      let b : is_present key keys count ≡ false = it_does_not key keys count refl t in
      subst (HoldsCategories (inserted key color cs) keys' colors') (sym (put.count-is ∙ ap (λ (t : Bool). cond t count (count + 1)) b))
      (holds_new key color at s refl few t (put.keys_are ∙ as_stored count key keys b refl ∙ new_is at count key keys)
      (put.colors_are ∙ as_stored count color colors b refl ∙ new_is at count color colors))

  pub holds_put : HoldsCategories (inserted key color cs) keys' colors' count'
  holds_put = go (le_z (get_or keys at (pos 0)) key) refl
    where
      go : (t : Bool) → le_z (get_or keys at (pos 0)) key ≡ t → HoldsCategories (inserted key color cs) keys' colors' count'
      go true e = ⊎_elim (λ (h : at < count). over h e) (λ (h : count ≤ at). new (λ q. absurd (omega arith))) (lt_or_le at count)
      go false e = new (λ q. e)
