-- The rows of a painting's refusals, from what each test of the code found; and what follows where nothing is refused. Assumes nothing.
use Rattle.std.specs.Prelude.{Ok, Err}
use Rattle.refusal.specs.Outcome.{Answer, refuse_if, first_of}
use mathlib.Core.Path.{◌≡◌, refl, sym, ap, subst}
use mathlib.Core.Bool.{Bool, true, false, not, ◌||◌}
use Prim.Native.Nat.{ℕ, ◌≤◌, ◌<◌}
use native.Mathlib.Omega.{arith}
use borrow.Author.Tests.{eqb-true, ltb-false, not-false, ne_eqb}
use lib.Dec.{T, ltb, eqb}
use Rattle.refusal.specs.declared.Refusal.{Refusal}
use Rattle.refusal.specs.declared.Refusal.TheVariants.{OutputLengthDiffers, NoSuchLaneCount, ScratchTooShort}
use Rattle.refusal.proofs.Outcomes.{passed, first_done}
use Rattle.painting.specs.Paintings.{length_refusal, plain_refusal, lane_count, lane_refusal}

module _ {b : Answer} where
  -- a stored record that is refused comes first
  pub plain-stored : {why : Refusal} (n o : ℕ) → b ≡ Err why → Err why ≡ plain_refusal b n o
  unfolding plain_refusal
  plain-stored n o e = sym (ap (λ a. first_of a (length_refusal n o)) e)

  pub lane-stored : {why : Refusal} (L s n o : ℕ) → b ≡ Err why → Err why ≡ lane_refusal b L s n o
  unfolding lane_refusal
  lane-stored L s n o e = sym (ap (λ a. first_of a (refuse_if (not (lane_count L)) NoSuchLaneCount (refuse_if (ltb s 16) ScratchTooShort (length_refusal n o)))) e)

  pub plain_sound : (n o : ℕ) → b ≡ Ok tt → length_refusal n o ≡ plain_refusal b n o
  unfolding plain_refusal
  plain_sound n o e = sym (ap (λ a. first_of a (length_refusal n o)) e)

  pub lane_sound : (L s n o : ℕ) → b ≡ Ok tt → lane_refusal (Ok tt) L s n o ≡ lane_refusal b L s n o
  lane_sound L s n o e = sym (ap (λ a. lane_refusal a L s n o) e)

-- ---- what no refusal tells

pub same-length_of : (n o : ℕ) → length_refusal n o ≡ Ok tt → o ≡ n
same-length_of n o e = eqb-true o n (not-false (eqb o n) (passed (not (eqb o n)) OutputLengthDiffers (Ok tt) e).0)

pub plain_free : (a : Answer) (n o : ℕ) → plain_refusal a n o ≡ Ok tt → (a ≡ Ok tt) × (o ≡ n)
unfolding plain_refusal
plain_free a n o e = let f = first_done a (length_refusal n o) e in (f.0, same-length_of n o f.1)

pub record Free (a : Answer) (L s n o : ℕ) : Type 0 where
  pub sound : a ≡ Ok tt
  pub count : lane_count L ≡ true
  pub room : 16 ≤ s
  pub same : o ≡ n

pub lane_free : (a : Answer) (L s n o : ℕ) → lane_refusal a L s n o ≡ Ok tt → Free a L s n o
unfolding lane_refusal
lane_free a L s n o e =
    let rest = refuse_if (ltb s 16) ScratchTooShort (length_refusal n o) in
    let f = first_done a (refuse_if (not (lane_count L)) NoSuchLaneCount rest) e in
    let g = passed (not (lane_count L)) NoSuchLaneCount rest f.1 in
    let h = passed (ltb s 16) ScratchTooShort (length_refusal n o) g.1 in
    record { sound = f.0; count = not-false (lane_count L) g.0; room = ltb-false s 16 h.0; same = same-length_of n o h.1 }

-- ---- lane counts

some : (a b c : Bool) → ((a || b) || c) ≡ true → a ≡ false → b ≡ false → c ≡ true
some true b c h p q = absurd (subst T p tt)
some false true c h p q = absurd (subst T q tt)
some false false c h p q = h

pub lane_sixteen : (L : ℕ) → lane_count L ≡ true → (L ≡ 4 → ⊥) → (L ≡ 8 → ⊥) → L ≡ 16
lane_sixteen L h p q = eqb-true L 16 (some (eqb L 4) (eqb L 8) (eqb L 16) h (ne_eqb L 4 p) (ne_eqb L 8 q))

pub lane_sizes : (L : ℕ) → lane_count L ≡ true → (0 < L) × (L ≤ 16)
lane_sizes L h = go (eqb L 4) (eqb L 8) (eqb L 16) refl refl refl h
  where
    go : (a b c : Bool) → eqb L 4 ≡ a → eqb L 8 ≡ b → eqb L 16 ≡ c → ((a || b) || c) ≡ true → (0 < L) × (L ≤ 16)
    go true b c p q r h = let e : L ≡ 4 = eqb-true L 4 p in (omega arith, omega arith)
    go false true c p q r h = let e : L ≡ 8 = eqb-true L 8 q in (omega arith, omega arith)
    go false false true p q r h = let e : L ≡ 16 = eqb-true L 16 r in (omega arith, omega arith)
    go false false false p q r h = absurd (subst T (sym h) tt)
