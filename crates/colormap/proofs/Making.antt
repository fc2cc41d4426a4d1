-- What the answer of a ramp says of its list's length, and of a palette. Assumes nothing.
use Rattle.std.specs.Prelude.{Ok, Err}
use Rattle.refusal.specs.Outcome.{Answer, refuse_if, made_unless}
use mathlib.Core.Path.{◌≡◌, refl, sym, ap, ◌∙◌}
use Prim.Native.Nat.{ℕ, ◌≤◌, ◌<◌}
use native.Mathlib.Omega.{arith}
use borrow.Author.Tests.{ltb-false, le-ltb}
use lib.Dec.{ltb}
use lib.ListN.{length, take}
use Rattle.lists.specs.Padded.{padded}
use Rattle.lists.proofs.Padding.{length-padded, take-padded}
use Rattle.refusal.specs.declared.Refusal.{Refusal}
use Rattle.refusal.specs.declared.Refusal.TheVariants.{TooFewColors, TooManyColors, NoSuchPalette}
use Rattle.refusal.proofs.Outcomes.{passed}
use Rattle.colormap.specs.declared.ProcessedColorMap.{ProcessedColorMap}
use Rattle.colormap.specs.Spread.{spread}
use Rattle.colormap.specs.Made.{list_refusal, spread_unless, ramp_of_list, ramp_of_preset}
use Rattle.palettes.specs.Asked.{preset_refusal, palette_of}
use Rattle.palettes.specs.Palettes.{palette}
use Rattle.palettes.specs.declared.Palette.{Palette}
use Rattle.palettes.proofs.InTable.{sizes}

pub enough : (n : ℕ) → list_refusal n ≡ Ok tt → 2 ≤ n
unfolding list_refusal
enough n e = ltb-false n 2 (passed (ltb n 2) TooFewColors (refuse_if (ltb 256 n) TooManyColors (Ok tt)) e).0

pub few : (n : ℕ) → list_refusal n ≡ Ok tt → n ≤ 256
unfolding list_refusal
few n e = ltb-false 256 n (passed (ltb 256 n) TooManyColors (Ok tt) (passed (ltb n 2) TooFewColors (refuse_if (ltb 256 n) TooManyColors (Ok tt)) e).1).0

-- a list of 2 to 256 colours is not refused
pub accepted : (n : ℕ) → 2 ≤ n → n ≤ 256 → list_refusal n ≡ Ok tt
unfolding list_refusal
accepted n h k = simp (le-ltb n 2 h, le-ltb 256 n k)

pub numbered : (n : ℕ) → preset_refusal n ≡ Ok tt → n < 32
unfolding preset_refusal
numbered n e = omega (arith, ltb-false 31 n (passed (ltb 31 n) NoSuchPalette (Ok tt) e).0)

-- a palette that is made: as many colours as it counts are there, and they are the palette's
pub palette_made : (n : ℕ) {p : Palette} → Ok p ≡ palette_of n
    → (preset_refusal n ≡ Ok tt) × (p.count ≤ length p.colors) × (take p.count p.colors ≡ palette n)
unfolding palette_of
palette_made n {p} e = by_answer (preset_refusal n) refl e
  where
    by_answer : (a : Answer) → preset_refusal n ≡ a
        → Ok p ≡ made_unless a (record { colors = padded 0 12 (palette n); count = length (palette n) })
        → (preset_refusal n ≡ Ok tt) × (p.count ≤ length p.colors) × (take p.count p.colors ≡ palette n)
    by_answer (Err why) f e = absurd (cc)
    by_answer (Ok _) f e =
        let made : p ≡ record { colors = padded 0 12 (palette n); count = length (palette n) } = cc in
        let s = sizes n (numbered n f) in (
          f,
          omega (arith, ap (λ (q : Palette). q.count) made, ap (λ (q : Palette). length q.colors) made, length-padded 0 12 (palette n) s.1),
          ap (λ (q : Palette). take q.count q.colors) made ∙ take-padded 0 12 (palette n),
        )

pub palette_refused : (n : ℕ) {why : Refusal} → palette_of n ≡ Err why → ramp_of_preset n ≡ Err why
unfolding palette_of spread_unless
palette_refused n {why} e = by_answer (preset_refusal n) refl e
  where
    by_answer : (a : Answer) → preset_refusal n ≡ a
        → made_unless {A = Palette} a (record { colors = padded 0 12 (palette n); count = length (palette n) }) ≡ Err why
        → made_unless {A = ProcessedColorMap} a (record { cmap = spread (palette n) }) ≡ Err why
    by_answer (Ok _) f e = absurd (cc)
    by_answer (Err w) f e = cc

-- its ramp by its list is its ramp by its number
pub by_number : (n : ℕ) {p : Palette} → Ok p ≡ palette_of n → ramp_of_list (take p.count p.colors) ≡ ramp_of_preset n
by_number n e =
    let m = palette_made n e in
    let s = sizes n (numbered n m.0) in
    ap ramp_of_list m.2 ∙ ap (λ a. spread_unless a (palette n)) (accepted (length (palette n)) (omega arith) (omega arith) ∙ sym m.0)
