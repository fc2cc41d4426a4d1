-- The entries of a card, by kind, written and read (docs/RULES.md, "Cards"). Definitions only.
use Rattle.std.specs.Prelude.{ℕ, Bool, not, ◌&&◌, ◌||◌, List, ◌++◌, eqb, drop}
use Rattle.std.specs.Float.{binary32}
use Rattle.std.specs.Float.Ieee.{nan_bits}
use Rattle.words.specs.Values.{float_of, bits_of, signed_of, unsigned_of}
use Rattle.card_bytes.specs.Numbers.{bytes_of, number_at}
use Rattle.card_bytes.specs.Entries.{entries_of, entries_in}
use Rattle.linear.specs.declared.Linear.{Linear}
use Rattle.banded_columns.specs.declared.LegendBand.{LegendBand}
use Rattle.categoric_build.specs.Categories.{Category, category}

-- ---- linear: its two bounds and 256 colours
unfoldable pub linear_bytes : Linear → List ℕ
linear_bytes l = bytes_of 4 (bits_of l.start) ++ bytes_of 4 (bits_of l.end) ++ entries_of (bytes_of 4) l.cmap

unfoldable pub linear_in : (entries : List ℕ) → Linear
linear_in entries =
    record { start = float_of (number_at 0 4 entries); end = float_of (number_at 4 4 entries); cmap = entries_in 4 256 (number_at 0 4) (drop 8 entries) }

-- ---- banded: start, end and colour of each band
unfoldable pub band_bytes : LegendBand → List ℕ
band_bytes b = bytes_of 4 (bits_of b.start) ++ bytes_of 4 (bits_of b.end) ++ bytes_of 4 b.color

unfoldable pub band_in : (entry : List ℕ) → LegendBand
band_in entry = record { start = float_of (number_at 0 4 entry); end = float_of (number_at 4 4 entry); color = number_at 8 4 entry }

-- ---- categoric: key and colour of each category
unfoldable pub category_bytes : Category → List ℕ
category_bytes c = bytes_of 8 (unsigned_of c.key) ++ bytes_of 4 c.color

unfoldable pub category_in : (entry : List ℕ) → Category
category_in entry = category (signed_of (number_at 0 8 entry)) (number_at 8 4 entry)

-- ---- a NaN only 7FC00000
unfoldable pub canonical : (bits : ℕ) → Bool
canonical bits = eqb bits 0x7FC00000 || not (nan_bits binary32 bits)

-- of the two bounds that entries start with
unfoldable pub bounds_canonical : (entry : List ℕ) → Bool
bounds_canonical entry = canonical (number_at 0 4 entry) && canonical (number_at 4 4 entry)
