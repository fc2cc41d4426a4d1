-- Every painting of some samples by a legend, and its words in their places. Definitions only.
use Rattle.std.specs.Prelude.{Option, Result, Ok, Err, cond, List, map, ◌++◌, ℕ, ◌-◌, Float, length, replicate}
use Rattle.refusal.specs.declared.Refusal.{Refusal}
use Rattle.lists.specs.Padded.{padded}
use Rattle.refusal.specs.Outcome.{if_done}
use Rattle.refusal.specs.Table.{number_of}
use Rattle.painting.specs.Painted.{plain_painted, lane_painted, scratch_after}
use Rattle.painting.specs.Paintings.{Painter, plain_refusal, lane_refusal}
use Rattle.legend.specs.declared.Legend.{Legend}
use Rattle.legend.specs.Painters.{painter}
use Rattle.legend_pixel.specs.Values.{color_for_value}
use Rattle.replay_rows.specs.Parts.{put_at}
use Rattle.replay_paintings.specs.declared.LaneWords.{LaneWords}
use Rattle.replay_paintings.specs.declared.Paintings.{Paintings}
use Rattle.replay_paintings.specs.Samples.{nodata_of, samples_of}

-- ---- the colours of at most forty samples, in forty words
abbrev pub color_or_number : Result ℕ Refusal → ℕ
color_or_number (Ok word) = word
color_or_number (Err why) = number_of why

-- each by itself
unfoldable pub value_words : Legend → Option Float → List Float → List ℕ
value_words legend nodata xs = padded 0 40 (map (λ v. color_or_number (color_for_value legend nodata v)) xs)

-- an output of zeros is lent
abbrev pub blank : List Float → List ℕ
blank xs = replicate (length xs) 0

-- what it holds then, and zeros for the samples that are not there
abbrev pub in_forty : List Float → List ℕ → List ℕ
in_forty xs painted = painted ++ replicate (40 - length xs) 0

unfoldable pub plain_words : Painter → List Float → List ℕ
plain_words p xs = in_forty xs (if_done (plain_refusal p.stored (length xs) (length xs)) (plain_painted p.plain xs) (blank xs))

-- and scratch of sixteen words that hold 5C5C5C5C
abbrev pub mark : List ℕ
mark = replicate 16 1549556828

abbrev pub in_lanes : (L : ℕ) → Painter → List Float → List ℕ
in_lanes L p xs =
    if_done (lane_refusal p.stored L 16 (length xs) (length xs))
    (cond p.simd (lane_painted L p.chunk p.plain xs) (plain_painted p.plain xs)) (blank xs)

unfoldable pub lane_words : (L : ℕ) → Painter → List Float → LaneWords
lane_words L p xs =
    record {
      words = in_forty xs (in_lanes L p xs);
      scratch = if_done (lane_refusal p.stored L 16 (length xs) (length xs)) (cond p.simd (scratch_after L (in_lanes L p xs) mark) mark) mark;
    }

-- ---- all of them
unfoldable pub paintings_by : Legend → Option Float → List Float → Paintings
paintings_by legend nodata xs =
    let p = painter legend nodata in
    record {
      values = value_words legend nodata xs;
      plain = plain_words p xs;
      lanes_4 = lane_words 4 p xs;
      lanes_8 = lane_words 8 p xs;
      lanes_16 = lane_words 16 p xs;
    }

abbrev pub paintings_of : Legend → (row : List ℕ) → Paintings
paintings_of legend row = paintings_by legend (nodata_of row) (samples_of row)

-- ---- in their places
abbrev pub with_lanes : LaneWords → (at kept : ℕ) → List ℕ → List ℕ
with_lanes lanes at kept row = put_at kept lanes.scratch (put_at at lanes.words row)

unfoldable pub with_paintings : Paintings → List ℕ → List ℕ
with_paintings p row =
    with_lanes p.lanes_16 304 376 (with_lanes p.lanes_8 264 360 (with_lanes p.lanes_4 224 344 (put_at 184 p.plain (put_at 144 p.values row))))
