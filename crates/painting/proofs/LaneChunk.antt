-- A part of a raster that is loaded into lanes, given its words and stored: it lies over the output by the kind's rule, at any lane count. Assumes nothing.
use mathlib.Core.Path.{◌≡◌, sym, ap, ◌∙◌}
use mathlib.Core.Bool.{Bool}
use mathlib.Core.List.{List, ◌++◌, map}
use Prim.Native.Nat.{ℕ, ◌+◌, ◌-◌, ◌≤◌}
use native.Mathlib.Omega.{arith}
use lib.Ieee.{Float, nan, binary32, of_bits}
use lib.ListN.{length, get_or, take, drop, length-drop}
use lib.Seq.{paste, length-take-le}
use Rattle.lists.specs.Lanes.{LanesOf}
use Rattle.lists.specs.Padded.{padded}
use Rattle.lists.proofs.LanesOf.{lane_at_lem, lanes-length}
use Rattle.lists.proofs.Padding.{length-padded, padded_front, padded_part}
use Rattle.painting.specs.forms.ChunkOver.{chunk_over}
use Rattle.painting.specs.Masked.{masked, masked_color}
use Rattle.painting.proofs.Lists.{lanes_list}
use Rattle.painting.proofs.Masking.{length-masked, masked-map}
use Rattle.painting.proofs.Whole.{chunk-is, rest_is}

-- the words of lanes that have a rule of their own
pub lanes-words : (sample : Float → ℕ) (L : ℕ) (v : List Float) {d : List ℕ} → L ≤ 16 → length v ≡ 16
    → LanesOf 0 L (λ k. sample (get_or v k nan)) d → take L d ≡ map sample (take L v)
lanes-words sample L v {d} h m words = lanes_list nan 0 sample L d v (omega (arith, lanes-length words h)) (omega arith) (lane_at_lem words 0)

-- ---- a chunk of l samples at base, where l is the literal L
module _ (xs : List Float) (out : List ℕ) (base l L : ℕ) {v : List Float} (d : List ℕ) {out' : List ℕ} (lanes : l ≡ L) (few : L ≤ 16)
    (room : base + l ≤ length xs) (loaded : v ≡ padded (of_bits binary32 0) 16 (take L (drop base xs))) (stored : out' ≡ paste out base d L) where
  front : take L v ≡ take L (drop base xs)
  front = padded_part (of_bits binary32 0) 16 xs base L loaded (omega arith)

  size : length (take L (drop base xs)) ≡ L
  size = length-take-le L (drop base xs) (omega (arith, length-drop base xs))

  sixteen : length v ≡ 16
  sixteen = ap length loaded ∙ length-padded (of_bits binary32 0) 16 (take L (drop base xs)) (omega (arith, size))

  -- by a rule for chunks, whose words stand in front
  pub chunk_laid : (chunk : List Float → List ℕ) → take L d ≡ chunk (take L v) → out' ≡ chunk_over chunk xs out base l
  chunk_laid chunk words = chunk-is chunk xs out base l L d v lanes stored words front

  -- by a rule for chunks of mappable samples, with 0 past the words
  pub words_laid : (unmappable : Float → Bool) (nodata : ℕ) (colors : List Float → List ℕ) → ((vs : List Float) → length (colors vs) ≡ length vs)
      → d ≡ padded 0 16 (masked unmappable nodata (take L v) (colors (take L v)))
      → out' ≡ chunk_over (λ vs. masked unmappable nodata vs (colors vs)) xs out base l
  words_laid unmappable nodata colors sized words =
      let vs = take L v in
      let long = length-masked unmappable nodata vs (colors vs) (sized vs) in
      chunk_laid (λ vs. masked unmappable nodata vs (colors vs))
      (padded_front 0 16 (masked unmappable nodata vs (colors vs)) words (long ∙ ap length front ∙ size))

  -- by a rule for one sample
  pub lanes_laid : (sample : Float → ℕ) → LanesOf 0 L (λ k. sample (get_or v k nan)) d → out' ≡ chunk_over (map sample) xs out base l
  lanes_laid sample words = chunk_laid (map sample) (lanes-words sample L v few sixteen words)

  -- by a rule for one mappable sample
  pub masked_laid : (unmappable : Float → Bool) (nodata : ℕ) (rule : Float → ℕ) → LanesOf 0 L (λ k. masked_color unmappable nodata rule (get_or v k nan)) d
      → out' ≡ chunk_over (λ vs. masked unmappable nodata vs (map rule vs)) xs out base l
  masked_laid unmappable nodata rule words =
      chunk_laid (λ vs. masked unmappable nodata vs (map rule vs))
      (lanes-words (masked_color unmappable nodata rule) L v few sixteen words ∙ sym (masked-map unmappable nodata rule (take L v)))

-- ---- the samples from base on, at most sixteen
module _ (xs : List Float) (out : List ℕ) (base : ℕ) {v : List Float} (d : List ℕ) {out' : List ℕ} (from : base ≤ length xs) (few : length xs ≤ base + 16)
    (same : length out ≡ length xs) (loaded : v ≡ padded (of_bits binary32 0) 16 (take (length xs - base) (drop base xs)))
    (stored : out' ≡ paste out base d (length xs - base)) where
  part : take (length xs - base) v ≡ take (length xs - base) (drop base xs)
  part = padded_part (of_bits binary32 0) 16 xs base (length xs - base) loaded (omega arith)

  all : length v ≡ 16
  all =
      let n = length xs - base in
      ap length loaded
      ∙ length-padded (of_bits binary32 0) 16 (take n (drop base xs)) (omega (arith, length-take-le n (drop base xs) (omega (arith, length-drop base xs))))

  pub rest_laid : (plain : Float → ℕ) → take 16 d ≡ map plain (take 16 v) → out' ≡ take base out ++ map plain (drop base xs)
  rest_laid plain words = rest_is plain xs out base 16 d v from few same stored words part

  pub rest_lanes : (plain : Float → ℕ) → LanesOf 0 16 (λ k. plain (get_or v k nan)) d → out' ≡ take base out ++ map plain (drop base xs)
  rest_lanes plain words = rest_laid plain (lanes-words plain 16 v (omega arith) all words)
