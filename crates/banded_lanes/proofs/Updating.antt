-- A loop that replaces the first l places of an array, place k by f k: its invariant at i, the first turn, each turn and the end. Assumes nothing.
use Prim.Native.Nat.{ℕ, ◌+◌, ◌≤◌, ◌<◌}
use mathlib.Core.Path.{◌≡◌, refl, ◌∙◌}
use mathlib.Core.List.{List}
use native.Mathlib.Omega.{arith}
use lib.ListN.{length, get_or, set, length-set}
use lib.Seq.{get_or-set_same, get_or-set_other}
use borrow.Author.Count.{below_none, below_more}
use Rattle.lists.specs.Lanes.{Lanes, LanesOf}
use Rattle.lists.proofs.LanesOf.{lane_past, lanes-length, lanes-each}

pub record Updating {A : Type 0} (z : A) (f : ℕ → A) (l : ℕ) (old : List A) (i : ℕ) (r : List A) : Type 0 where
  pub upto : i ≤ l
  pub long : length r ≡ length old
  pub new : Lanes z i r f
  pub rest : (k : ℕ) → i ≤ k → get_or r k z ≡ get_or old k z

module _ {A : Type 0} {z : A} {f : ℕ → A} {l : ℕ} {old : List A} where
  pub updating_start : Updating z f l old 0 old
  updating_start = record { upto = omega arith; long = refl; new = below_none _; rest = λ k q. refl }

  -- the store of f i at i
  pub updating_turn : {i : ℕ} {r : List A} {x : A} → Updating z f l old i r → i < l → l ≤ length old → x ≡ f i → Updating z f l old (i + 1) (set r i x)
  updating_turn {i} {r} {x} p h g e =
      record {
        upto = omega arith;
        long = length-set r i x ∙ p.long;
        new = below_more (λ k. get_or (set r i x) k z ≡ f k) i (λ k q. get_or-set_other r i k x z (λ (s : k ≡ i). omega arith) ∙ p.new k q)
            (get_or-set_same r i x z (omega (arith, p.long)) ∙ e);
        rest = λ k q. get_or-set_other r i k x z (λ (s : k ≡ i). omega arith) ∙ p.rest k (omega arith);
      }

  -- of an array that held z from l on
  pub updating_end : {g : ℕ → A} {i : ℕ} {r : List A} → LanesOf z l g old → l ≤ 16 → Updating z f l old i r → l ≤ i → LanesOf z l f r
  updating_end {r = r} o g p h =
      lanes-each z z l f r g (p.long ∙ lanes-length o g) (λ k q. p.new k (omega arith)) (λ k q m. p.rest k (omega (arith, p.upto)) ∙ lane_past o z k q m)
