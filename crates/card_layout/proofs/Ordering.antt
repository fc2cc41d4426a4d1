-- Keys in order are those of an array's first places. Assumes nothing.
use Rattle.std.specs.Prelude.{Ok, Err}
use Rattle.std.specs.Result.{is_ok}
use Rattle.refusal.specs.Outcome.{Answer, if_done}
use mathlib.Core.Path.{◌≡◌, refl, sym, ap, ◌∙◌}
use mathlib.Core.Bool.{Bool, true, false, ◌&&◌}
use mathlib.Core.List.{List}
use Prim.Native.Nat.{ℕ, zero, suc, ◌≤◌}
use native.Mathlib.Omega.{arith}
use lib.IntN.{ℤ, pos}
use lib.ListN.{length, take, get_or}
use lib.Seq.{length-take-le, get_or-take}
use lib.Signed.{lt_z}
use Rattle.categoric_lists.specs.Ascending.{ascends}
use Rattle.categoric_lists.specs.Keys.{keys_refusal}
use Rattle.card_layout.specs.Stored.{keys_in_order}

-- whether m keys ascend turns on the first m alone
ascends_front : (keys : List ℤ) (n m : ℕ) → m ≤ n → ascends (take n keys) m ≡ ascends keys m
unfolding ascends
ascends_front keys n zero h = refl
ascends_front keys n (suc zero) h = refl
ascends_front keys n (suc (suc m)) h =
    let a = get_or-take n keys m (pos 0) (omega (arith, h)) in
    let b = get_or-take n keys (suc m) (pos 0) (omega (arith, h)) in
    ap (λ (t : Bool). t && lt_z (get_or (take n keys) m (pos 0)) (get_or (take n keys) (suc m) (pos 0))) (ascends_front keys n (suc m) (omega (arith, h)))
    ∙ ap (λ (k : ℤ). ascends keys (suc m) && lt_z k (get_or (take n keys) (suc m) (pos 0))) a
    ∙ ap (λ (k : ℤ). ascends keys (suc m) && lt_z (get_or keys m (pos 0)) k) b

pub ascends_taken : (keys : List ℤ) (n : ℕ) → n ≤ length keys → ascends (take n keys) (length (take n keys)) ≡ ascends keys n
ascends_taken keys n h = ap (ascends (take n keys)) (length-take-le n keys h) ∙ ascends_front keys n n (omega arith)

is_ok-done : (a : Answer) → is_ok a ≡ if_done a true false
is_ok-done (Ok _) = refl
is_ok-done (Err why) = refl

-- what the two tests of an array tell
pub in_order_if : (keys : List ℤ) (n : ℕ) {t b : Bool} → n ≤ length keys → t ≡ ascends keys n → t ≡ true → b ≡ is_ok (keys_refusal (take n keys))
    → b ≡ keys_in_order (take n keys)
unfolding keys_in_order
in_order_if keys n h e x f =
    f ∙ is_ok-done (keys_refusal (take n keys)) ∙ ap (λ (b : Bool). b && if_done (keys_refusal (take n keys)) true false) (sym x ∙ e ∙ sym (ascends_taken keys n h))

pub out_of_order : (keys : List ℤ) (n : ℕ) {t : Bool} → n ≤ length keys → t ≡ ascends keys n → t ≡ false → t ≡ keys_in_order (take n keys)
unfolding keys_in_order
out_of_order keys n h e x =
    x ∙ ap (λ (b : Bool). b && if_done (keys_refusal (take n keys)) true false) (sym x ∙ e ∙ sym (ascends_taken keys n h))
