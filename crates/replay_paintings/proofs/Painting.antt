-- What the calls leave in their buffers is what a row's paintings are. Assumes nothing.
use Rattle.std.specs.Prelude.{Option}
use Rattle.refusal.specs.Outcome.{Answer, if_done}
use mathlib.Core.Bool.{Bool, true, false, cond}
use mathlib.Core.List.{List, [], ◌∷◌, ◌++◌, map}
use mathlib.Core.Path.{◌≡◌, refl, sym, subst, ap, ap₂, ◌∙◌}
use Prim.Native.Nat.{ℕ, zero, suc, ◌+◌, ◌-◌, ◌≤◌}
use native.Mathlib.Omega.{arith}
use borrow.Author.Tests.{ltb-true, ne_eqb}
use lib.Dec.{ltb}
use lib.Ieee.{Float, nan}
use lib.ListN.{length, get_or, take, drop, replicate, length-replicate}
use lib.Seq.{length-take-le}
use Rattle.lists.specs.Padded.{padded}
use Rattle.lists.specs.Tabulate.{tabulate}
use Rattle.cast.specs.Samples.{of_i16}
use Rattle.painting.specs.Painted.{plain_painted, lane_painted, scratch_after}
use Rattle.painting.specs.Paintings.{Painter, plain_refusal, lane_refusal, PlainPainting, LanePainting}
use Rattle.legend.specs.declared.Legend.{Legend}
use Rattle.legend.specs.Painters.{painter}
use Rattle.legend_pixel.specs.Values.{color_for_value}
use Rattle.words.specs.Values.{short_of, at_most}
use Rattle.replay_rows.specs.Parts.{values_at}
use Rattle.replay_paintings.specs.declared.LaneWords.{LaneWords}
use Rattle.replay_paintings.specs.declared.Paintings.{Paintings}
use Rattle.replay_paintings.specs.Samples.{sample_of, sample_type, samples_as, nodata_of}
use Rattle.replay_paintings.specs.Paintings.{color_or_number, value_words, plain_words, mark, in_lanes, lane_words, paintings_by, paintings_of}

-- ---- counts
pub at_most_40 : {count : ℕ} (word : ℕ) → count ≡ at_most word 40 → count ≤ 40
at_most_40 {count} word e = go (ltb word 40) refl e
  where
    go : (t : Bool) → ltb word 40 ≡ t → count ≡ cond t word 40 → count ≤ 40
    go true b q = omega (arith, ltb-true word 40 b)
    go false b q = omega arith

pub taken : {A : Type 0} (count : ℕ) (xs : List A) → length xs ≡ 40 → count ≤ 40 → count ≡ length (take count xs)
taken count xs l h = sym (length-take-le count xs (omega arith))

-- ---- a blank output
abbrev zeros : ℕ → List ℕ
zeros n = replicate n 0

take-blank : (n m : ℕ) → n ≤ m → take n (zeros m) ≡ zeros n
take-blank zero m h = refl
take-blank (suc n) zero h = absurd (omega arith)
take-blank (suc n) (suc m) h = ap (λ (r : List ℕ). 0 ∷ r) (take-blank n m (omega arith))

drop-blank : (n m : ℕ) → n ≤ m → drop n (zeros m) ≡ zeros (m - n)
drop-blank zero m h = let e : m ≡ m - 0 = omega arith in ap (λ (k : ℕ). zeros k) e
drop-blank (suc n) zero h = absurd (omega arith)
drop-blank (suc n) (suc m) h = let e : m - n ≡ suc m - suc n = omega arith in drop-blank n m (omega arith) ∙ ap (λ (k : ℕ). zeros k) e

lane-words : List ℕ → List ℕ → LaneWords
lane-words words scratch = record { words = words; scratch = scratch }

-- ---- samples by their type
pub other_sample : (number word : ℕ) → (number ≡ 0 → ⊥) → (number ≡ 1 → ⊥) → sample_of number word ≡ of_i16 (short_of word)
unfolding sample_of
other_sample number word a b = rw (ne_eqb number 0 a, ne_eqb number 1 b)

pub other_samples : (number count : ℕ) (row : List ℕ) → (number ≡ 0 → ⊥) → (number ≡ 1 → ⊥) → samples_as number count row ≡ samples_as 2 count row
unfolding sample_of
other_samples number count row a b = λ j. take count (values_at (λ w. other_sample number w a b j) 80 40 row)

-- values of another type, each turned into a float
pub converted : {A : Type 0} (float : A → Float) (value : ℕ → A) (count : ℕ) (row : List ℕ) {samples : List A} → samples ≡ values_at value 80 40 row
    → map float (take count samples) ≡ take count (values_at (λ w. float (value w)) 80 40 row)
unfolding tabulate
converted {A} float value count row e = ap (λ s. map float (take count s)) e ∙ each count 40 (λ k. value (get_or row (80 + k) 0))
  where
    each : (c n : ℕ) (f : ℕ → A) → map float (take c (tabulate n f)) ≡ take c (tabulate n (λ k. float (f k)))
    each zero n f = refl
    each (suc c) zero f = refl
    each (suc c) (suc n) f = ap (λ (r : List Float). float (f zero) ∷ r) (each c n (λ k. f (suc k)))

-- ---- a painting of the n samples xs
module _ (xs : List Float) {n : ℕ} (m : n ≡ length xs) (few : n ≤ 40) where
  out_is : take n (zeros 40) ≡ zeros (length xs)
  out_is = take-blank n 40 few ∙ ap (λ (k : ℕ). zeros k) m

  rest_is : drop n (zeros 40) ≡ zeros (40 - length xs)
  rest_is = drop-blank n 40 few ∙ ap (λ (k : ℕ). zeros (40 - k)) m

  long : length (take n (zeros 40)) ≡ length xs
  long = ap length out_is ∙ length-replicate (length xs) 0

  pub plain-is : {p : Painter} {answer : Answer} {out' : List ℕ} → PlainPainting p xs (take n (zeros 40)) answer out'
      → out' ++ drop n (zeros 40) ≡ plain_words p xs
  unfolding plain_words
  plain-is {p} {answer} {out'} q =
      let a : answer ≡ plain_refusal p.stored (length xs) (length xs) = q.answered ∙ ap (plain_refusal p.stored (length xs)) long in
      ap₂ (λ (o r : List ℕ). o ++ r) (q.output ∙ ap₂ (λ x o. if_done x (plain_painted p.plain xs) o) a out_is) rest_is

  pub lanes_are : {p : Painter} {answer : Answer} {out' : List ℕ} {L : ℕ} {scratch' : List ℕ} → LanePainting p L xs (take n (zeros 40)) mark answer out' scratch'
      → ◌≡◌ {A = LaneWords} (record { words = out' ++ drop n (zeros 40); scratch = scratch' }) (lane_words L p xs)
  unfolding lane_words lane-words
  lanes_are {p} {answer} {out'} {L} {scratch'} q =
      let a : answer ≡ lane_refusal p.stored L 16 (length xs) (length xs) = q.answered ∙ ap (lane_refusal p.stored L 16 (length xs)) long in
      let o : out' ≡ in_lanes L p xs =
      q.output ∙ ap₂ (λ x r. if_done x (cond p.simd (lane_painted L p.chunk p.plain xs) (plain_painted p.plain xs)) r) a out_is in
      ap₂ lane-words
      (ap₂ (λ (w r : List ℕ). w ++ r) o rest_is)
      (q.scratch_after ∙ ap₂ (λ x w. if_done x (cond p.simd (scratch_after L w mark) mark) mark) a o)

  -- where scratch held the mark
  pub lanes_marked : {p : Painter} {answer : Answer} {out' : List ℕ} {L : ℕ} {scratch scratch' : List ℕ} → scratch ≡ mark
      → LanePainting p L xs (take n (zeros 40)) scratch answer out' scratch'
      → ◌≡◌ {A = LaneWords} (record { words = out' ++ drop n (zeros 40); scratch = scratch' }) (lane_words L p xs)
  lanes_marked {p} {answer} {out'} {L} {scratch' = scratch'} held q =
      lanes_are (subst (λ (s : List ℕ). LanePainting p L xs (take n (zeros 40)) s answer out' scratch') held q)

-- each by itself
pub values_are : {words : List ℕ} (l : Legend) (nodata : (Option Float)) (n : ℕ) (samples : List Float) → n ≤ length samples
    → words ≡ padded 0 40 (tabulate n (λ k. color_or_number (color_for_value l nodata (get_or samples k nan)))) → words ≡ value_words l nodata (take n samples)
unfolding value_words tabulate
values_are l nodata n samples few q = q ∙ ap (padded 0 40) (by_map n samples few)
  where
    by_map : (n : ℕ) (ys : List Float) → n ≤ length ys
        → tabulate n (λ k. color_or_number (color_for_value l nodata (get_or ys k nan))) ≡ map (λ v. color_or_number (color_for_value l nodata v)) (take n ys)
    by_map zero ys few = refl
    by_map (suc n) [] few = absurd (omega arith)
    by_map (suc n) (y ∷ ys) few = ap (λ (r : List ℕ). color_or_number (color_for_value l nodata y) ∷ r) (by_map n ys (omega arith))

-- ---- all of them, by the legend that is lent
pub all_are : {k l : Legend} (row : List ℕ) {count : ℕ} {none : (Option Float)} {samples : List Float} {values plain : List ℕ} {four eight sixteen : LaneWords}
    → k ≡ l → count ≡ at_most (get_or row 9 0) 40 → none ≡ nodata_of row → samples ≡ values_at (sample_of (sample_type row)) 80 40 row
    → values ≡ value_words k none (take count samples) → plain ≡ plain_words (painter k none) (samples_as (sample_type row) count row)
    → four ≡ lane_words 4 (painter k none) (samples_as (sample_type row) count row)
    → eight ≡ lane_words 8 (painter k none) (samples_as (sample_type row) count row)
    → sixteen ≡ lane_words 16 (painter k none) (samples_as (sample_type row) count row)
    → ◌≡◌ {A = Paintings} (record { values = values; plain = plain; lanes_4 = four; lanes_8 = eight; lanes_16 = sixteen }) (paintings_of l row)
unfolding paintings_by
all_are {k} row {count} {none} {values = values} {plain} {four} {eight} {sixteen} el ec en es v p a b c =
    let w : values ≡ value_words k none (samples_as (sample_type row) count row) = v ∙ ap (λ s. value_words k none (take count s)) es in
    let m : ◌≡◌ {A = Paintings} (record { values = values; plain = plain; lanes_4 = four; lanes_8 = eight; lanes_16 = sixteen })
    (paintings_by k none (samples_as (sample_type row) count row)) = (λ j. record { values = w j; plain = p j; lanes_4 = a j; lanes_8 = b j; lanes_16 = c j }) in
    m ∙ (λ j. paintings_by (el j) (en j) (samples_as (sample_type row) (ec j) row))
