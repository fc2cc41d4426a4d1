-- An array of sixteen lanes by the rule of the first l: what a lane holds, what the first l are, and the loop that stores them. Assumes nothing.
use mathlib.Core.Path.{◌≡◌, sym, ap, ◌∙◌}
use mathlib.Core.List.{List}
use mathlib.Core.Logic.{inl, inr}
use Prim.Native.Nat.{ℕ, ◌≤◌, ◌<◌}
use native.Mathlib.Omega.{arith}
use lib.ListN.{length, get_or, take, replicate, length-replicate, get_or-replicate}
use lib.Seq.{ext_get_or}
use Rattle.lists.specs.Tabulate.{tabulate}
use Rattle.lists.specs.Padded.{padded}
use Rattle.lists.specs.Lanes.{Lanes, LanesOf}
use Rattle.lists.proofs.Tabulated.{length-tabulate, get_d_tabulate, tabulated}
use Rattle.lists.proofs.Numbers.{lt_or_le}
use Rattle.lists.proofs.Padding.{Storing, storing_start, storing_turn, length-padded, padded-full, take-padded, get_or-padded, get_d_past, storing_end}

module _ {A : Type 0} {z : A} {l : ℕ} {f : ℕ → A} {r : List A} where
  -- a lane below l, whatever a list is said to hold past its end
  pub lane_at_lem : LanesOf z l f r → (y : A) → Lanes y l r f
  lane_at_lem e y k h = ap (λ (x : List A). get_or x k y) e.is ∙ get_or-padded z 16 (tabulate l f) k y (omega (arith, length-tabulate l f)) ∙ get_d_tabulate l f k y h

  -- a lane from l on
  pub lane_past : LanesOf z l f r → (y : A) (k : ℕ) → l ≤ k → k < 16 → get_or r k y ≡ z
  lane_past e y k h q = ap (λ (x : List A). get_or x k y) e.is ∙ get_d_past z 16 (tabulate l f) k y (omega (arith, length-tabulate l f)) q

  pub lanes-length : LanesOf z l f r → l ≤ 16 → length r ≡ 16
  lanes-length e h = ap length e.is ∙ length-padded z 16 (tabulate l f) (omega (arith, length-tabulate l f))

  pub lanes-take : LanesOf z l f r → take l r ≡ tabulate l f
  lanes-take e = ap (take l) e.is ∙ ap (λ (m : ℕ). take m (padded z 16 (tabulate l f))) (sym (length-tabulate l f)) ∙ take-padded z 16 (tabulate l f)

  -- the first l as a list, from which the array is known
  pub lanes-padded : LanesOf z l f r → {xs : List A} → take l r ≡ xs → r ≡ padded z 16 xs
  lanes-padded e h = e.is ∙ ap (padded z 16) (sym (lanes-take e) ∙ h)

  -- what a loop leaves that stores f k in lane k of an array of z, for each k below l
  pub lanes-stored : {i : ℕ} → Storing z f 16 l i r → l ≤ i → LanesOf z l f r
  lanes-stored s h = record { is = storing_end s h }

  -- by another rule that agrees below l
  pub lanes_agree : {g : ℕ → A} → LanesOf z l f r → ((k : ℕ) → k < l → f k ≡ g k) → LanesOf z l g r
  lanes_agree {g} e h = record { is = e.is ∙ ap (padded z 16) (tabulated z l g (tabulate l f) (length-tabulate l f) (λ k q. get_d_tabulate l f k z q ∙ h k q)) }

-- by what the lanes hold
pub lanes_own : {A : Type 0} {z : A} {l : ℕ} {f : ℕ → A} {r : List A} → LanesOf z l f r → (y : A) → LanesOf z l (λ k. get_or r k y) r
lanes_own e y = lanes_agree e (λ k h. sym (lane_at_lem e y k h))

-- all sixteen lanes, from what each holds
pub lanes_all : {A : Type 0} (z y : A) {f : ℕ → A} {r : List A} → length r ≡ 16 → Lanes y 16 r f → LanesOf z 16 f r
lanes_all z y {f} {r} e h = record { is = tabulated y 16 f r e h ∙ sym (padded-full z 16 (tabulate 16 f) (length-tabulate 16 f)) }

-- from what each lane holds, up to l and from l on
pub lanes-each : {A : Type 0} (z y : A) (l : ℕ) (f : ℕ → A) (r : List A) → l ≤ 16 → length r ≡ 16 → Lanes y l r f
    → ((k : ℕ) → l ≤ k → k < 16 → get_or r k y ≡ z) → LanesOf z l f r
lanes-each z y l f r g e below past =
    let n = length-tabulate l f in
    record {
      is = ext_get_or y r (padded z 16 (tabulate l f)) (e ∙ sym (length-padded z 16 (tabulate l f) (omega (arith, n))))
          (λ k h. elim (lt_or_le k l) [
            | inl q ↦ below k q ∙ sym (get_or-padded z 16 (tabulate l f) k y (omega (arith, n)) ∙ get_d_tabulate l f k y q)
            | inr q ↦ past k q (omega (arith, e)) ∙ sym (get_d_past z 16 (tabulate l f) k y (omega (arith, n)) (omega (arith, e)))
          ]);
    }

-- an array of z, where the rule gives z below l
pub lanes-blank : {A : Type 0} (z : A) (l : ℕ) (f : ℕ → A) → l ≤ 16 → ((k : ℕ) → k < l → f k ≡ z) → LanesOf z l f (replicate 16 z)
lanes-blank z l f g h =
    lanes-each z z l f (replicate 16 z) g (length-replicate 16 z) (λ k q. get_or-replicate 16 k z z (omega arith) ∙ sym (h k q))
    (λ k q m. get_or-replicate 16 k z z m)

-- a loop that stores the lanes below a count one by one, for the search: the first turn, each turn and the end
pub ruleset stored_lanes = (storing_start, storing_turn, lanes-stored)
