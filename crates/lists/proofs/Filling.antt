-- A loop that fills the first l places of an array of n, place k with f k: its invariant at i, the first turn, each turn and the end. Assumes nothing.
use mathlib.Core.Path.{◌≡◌, ◌∙◌}
use mathlib.Core.List.{List}
use borrow.Author.Count.{below_none, below_more}
use Prim.Native.Nat.{ℕ, ◌+◌, ◌≤◌, ◌<◌}
use native.Mathlib.Omega.{arith}
use lib.ListN.{length, get_or, set, length-set}
use lib.Seq.{get_or-set_same, get_or-set_other}
use Rattle.lists.specs.Lanes.{Lanes}
use Rattle.lists.specs.Tabulate.{tabulate}
use Rattle.lists.proofs.Tabulated.{tabulated}

pub record Filling {A : Type 0} (z : A) (f : ℕ → A) (n l i : ℕ) (r : List A) : Type 0 where
  pub upto : i ≤ l
  pub long : length r ≡ n
  pub lanes : Lanes z i r f

module _ {A : Type 0} {z : A} {f : ℕ → A} {n l : ℕ} {r : List A} where
  pub filling_start : length r ≡ n → Filling z f n l 0 r
  filling_start e = record { upto = omega arith; long = e; lanes = below_none _ }

  -- the store of f i at i
  pub filling_turn : {i : ℕ} {x : A} → Filling z f n l i r → i < l → l ≤ n → x ≡ f i → Filling z f n l (i + 1) (set r i x)
  filling_turn {i} {x} p h g e =
      record {
        upto = omega arith;
        long = length-set r i x ∙ p.long;
        lanes = below_more (λ k. get_or (set r i x) k z ≡ f k) i (λ k q. get_or-set_other r i k x z (λ (s : k ≡ i). omega arith) ∙ p.lanes k q)
            (get_or-set_same r i x z (omega (arith, p.long)) ∙ e);
      }

  pub filling_end : {i : ℕ} → Filling z f n l i r → l ≤ i → Lanes z l r f
  filling_end p h k q = p.lanes k (omega arith)

-- all n places filled
pub filled : {A : Type 0} {z : A} {f : ℕ → A} {n i : ℕ} {r : List A} → Filling z f n n i r → n ≤ i → r ≡ tabulate n f
filled {A} {z} {f} {n} {i} {r} p h = tabulated z n f r p.long (filling_end p h)
