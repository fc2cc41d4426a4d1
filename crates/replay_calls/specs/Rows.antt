-- Rows of single calls: what each asks, and the answers in their places. Definitions only.
use Rattle.refusal.specs.Outcome.{Done, answer_of, made_or}
use Rattle.std.specs.Prelude.{Option, Some, None, Result, Ok, Err, List, ℕ, ◌%◌, Float, ℤ, get_or, set, take}
use Rattle.refusal.specs.declared.Refusal.{Refusal}
use Rattle.color.specs.declared.Color.{Color}
use Rattle.std.specs.Float.{nan}
use Rattle.lists.specs.Padded.{padded}
use Rattle.lists.specs.Tabulate.{tabulate}
use Rattle.cast.specs.Truncated.{truncated}
use Rattle.color.specs.Word as color
use Rattle.color.specs.Hex.{hex_color}
use Rattle.palettes.specs.declared.Palette.{Palette}
use Rattle.palettes.specs.Asked.{palette_of}
use Rattle.colormap.specs.Made.{empty_ramp}
use Rattle.lookup.specs.Entries.{entry_color, plain_entry, lane_entry}
use Rattle.words.specs.Values.{float_of, low_of, high_of, at_most}
use Rattle.replay_rows.specs.Parts.{values_at, words_at, put_at}
use Rattle.replay_legends.specs.Asked.{ramp_of}
use Rattle.replay_calls.specs.Replies.{with_answer}

-- what a row asks, with zeros for the answers
abbrev pub asked : (row : List ℕ) → List ℕ
asked row = padded 0 1680 (words_at 0 128 row)

-- beside a refusal zeros in place of the count and of the colours
abbrev pub with_palette : Result Palette Refusal → List ℕ → List ℕ
with_palette (Ok p) row = put_at 184 p.colors (set (with_answer Done row) 130 (p.count % 4294967296))
with_palette (Err why) row = with_answer (Err why) row

unfoldable pub palette_row : (row : List ℕ) → List ℕ
palette_row row = with_palette (palette_of (get_or row 1 0)) (asked row)

abbrev pub with_hex : Result Color Refusal → List ℕ → List ℕ
with_hex (Ok c) row = set (with_answer Done row) 130 (color.word_of c)
with_hex (Err why) row = with_answer (Err why) row

unfoldable pub hex_row : (row : List ℕ) → List ℕ
hex_row row = with_hex (hex_color (take (at_most (get_or row 10 0) 40) (values_at (λ w. w % 256) 32 40 row))) (asked row)

-- sixteen fractions by the entries of a ramp
unfoldable pub looked_up : (entry : Float → Option ℕ) (cmap : List ℕ) → List Float → List ℕ
looked_up entry cmap fractions = tabulate 16 (λ k. entry_color cmap (entry (get_or fractions k nan)))

-- beside a refusal the ramp is TRANSPARENT throughout
unfoldable pub lookup_row : (row : List ℕ) → List ℕ
lookup_row row =
    let made = ramp_of row in
    let cmap = (made_or made empty_ramp).cmap in
    let fractions = values_at float_of 80 16 row in
    put_at 304 (looked_up lane_entry cmap fractions)
    (put_at 184 (looked_up plain_entry cmap fractions)
    (put_at 392 cmap (with_answer (answer_of made) (asked row))))

-- ---- whole numbers
abbrev pub whole_low : Option ℤ → ℕ
whole_low (Some z) = low_of z
whole_low None = 0

abbrev pub whole_high : Option ℤ → ℕ
whole_high (Some z) = high_of z
whole_high None = 0

abbrev pub whole_there : Option ℤ → ℕ
whole_there (Some z) = 1
whole_there None = 0

abbrev pub truncated_at : List Float → ℕ → Option ℤ
truncated_at samples k = truncated (get_or samples k nan)

unfoldable pub truncated_by : (word : Option ℤ → ℕ) → List Float → List ℕ
truncated_by word samples = tabulate 16 (λ k. word (truncated_at samples k))

unfoldable pub truncated_row : (row : List ℕ) → List ℕ
truncated_row row =
    let samples = values_at float_of 80 16 row in
    put_at 264 (truncated_by whole_there samples) (put_at 224 (truncated_by whole_high samples) (put_at 184 (truncated_by whole_low samples) (asked row)))
