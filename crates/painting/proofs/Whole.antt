-- From what the parts of a painter promise to the two whole contracts. Assumes nothing.
use Rattle.std.specs.Prelude.{Ok, Err}
use Rattle.refusal.specs.Outcome.{Answer}
use mathlib.Core.Path.{◌≡◌, sym, ap, ◌∙◌}
use mathlib.Core.Bool.{cond}
use mathlib.Core.List.{List, [], ◌++◌, map, append-nil}
use Prim.Native.Nat.{ℕ, ◌+◌, ◌-◌, ◌≤◌}
use native.Mathlib.Omega.{arith}
use lib.Ieee.{Float}
use lib.ListN.{length, take, drop, length-drop, drop_of_length-le}
use lib.Seq.{paste, take_all}
use Rattle.refusal.specs.declared.Refusal.{Refusal}
use Rattle.refusal.proofs.Outcomes.{when_done, when_refused}
use Rattle.painting.specs.Painted.{plain_painted, lane_painted, scratch_after}
use Rattle.painting.specs.forms.ChunkOver.{chunk_over}
use Rattle.painting.specs.Paintings.{plain_refusal, lane_refusal, Painter, PlainPainting, LanePainting}
use Rattle.painting.proofs.Lists.{front_mapped}

-- ---- one chunk: loaded, coloured and stored by the lane count's literal L
pub chunk-is : (chunk : List Float → List ℕ) (xs : List Float) (out : List ℕ) (i l L : ℕ) (d : List ℕ) (v : List Float) {out' : List ℕ} → l ≡ L
    → out' ≡ paste out i d L → take L d ≡ chunk (take L v) → take L v ≡ take L (drop i xs) → out' ≡ chunk_over chunk xs out i l
unfolding chunk_over
chunk-is chunk xs out i l L d v e p q r =
    p
    ∙ ap (λ (w : List ℕ). take i out ++ w ++ drop (i + L) out) (q ∙ ap chunk r)
    ∙ ap (λ (n : ℕ). take i out ++ chunk (take n (drop i xs)) ++ drop (i + n) out) (sym e)

-- ---- the rest: the samples from i on, coloured plainly among L lanes
pub rest_is : (plain : Float → ℕ) (xs : List Float) (out : List ℕ) (i L : ℕ) (d : List ℕ) (v : List Float) {out' : List ℕ} → i ≤ length xs
    → length xs ≤ i + L → length out ≡ length xs
    → out' ≡ paste out i d (length xs - i) → take L d ≡ map plain (take L v) → take (length xs - i) v ≡ take (length xs - i) (drop i xs)
    → out' ≡ take i out ++ map plain (drop i xs)
rest_is plain xs out i L d v g h o p q r =
    let m : ℕ = length xs - i in
    let a : take m (drop i xs) ≡ drop i xs = take_all m (drop i xs) (omega (arith, length-drop i xs)) in
    let b : drop (i + m) out ≡ [] = drop_of_length-le out {i = i + m} (omega arith) in
    p
    ∙ ap (λ (w : List ℕ). take i out ++ w ++ drop (i + m) out) (front_mapped plain m L d v (omega arith) q ∙ ap (map plain) (r ∙ a))
    ∙ ap (λ (w : List ℕ). take i out ++ map plain (drop i xs) ++ w) b
    ∙ append-nil (take i out ++ map plain (drop i xs))

-- none is left
pub rest_none : (plain : Float → ℕ) (xs : List Float) (out : List ℕ) (i : ℕ) → length xs - i ≡ 0 → length out ≡ length xs
    → out ≡ take i out ++ map plain (drop i xs)
rest_none plain xs out i e o =
    sym
    (ap (λ (ys : List Float). take i out ++ map plain ys) (drop_of_length-le xs {i = i} (omega (arith, e)))
    ∙ append-nil (take i out) ∙ take_all i out (omega (arith, e, o)))

-- ---- the raster has n samples, and xs are these as f32. Refused, with everything as it was, and done
module _ (p : Painter) (xs : List Float) (out : List ℕ) {n : ℕ} (m : n ≡ length xs) {a : Answer} where
  pub plain_refused : a ≡ plain_refusal p.stored n (length out) → {why : Refusal} → a ≡ Err why → PlainPainting p xs out a out
  plain_refused d e =
      record { answered = d ∙ ap (λ k. plain_refusal p.stored k (length out)) m; output = sym (when_refused (plain_painted p.plain xs) out e) }

  pub plain_done : a ≡ plain_refusal p.stored n (length out) → a ≡ Ok tt → {out' : List ℕ} → out' ≡ plain_painted p.plain xs → PlainPainting p xs out a out'
  plain_done d e w =
      record { answered = d ∙ ap (λ k. plain_refusal p.stored k (length out)) m; output = w ∙ sym (when_done (plain_painted p.plain xs) out e) }

  module _ (L : ℕ) (scratch : List ℕ) (d : a ≡ lane_refusal p.stored L (length scratch) n (length out)) where
    abbrev painted : List ℕ
    painted = cond p.simd (lane_painted L p.chunk p.plain xs) (plain_painted p.plain xs)

    asked : a ≡ lane_refusal p.stored L (length scratch) (length xs) (length out)
    asked = d ∙ ap (λ k. lane_refusal p.stored L (length scratch) k (length out)) m

    pub lane_refused : {why : Refusal} → a ≡ Err why → LanePainting p L xs out scratch a out scratch
    lane_refused e =
        record {
          answered = asked;
          output = sym (when_refused painted out e);
          scratch_after = sym (when_refused (cond p.simd (scratch_after L out scratch) scratch) scratch e);
        }
