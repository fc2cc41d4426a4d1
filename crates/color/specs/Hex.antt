-- Hex text (docs/RULES.md, "Where each call says no", and "Colours and ramps"). Definitions only.
use Rattle.std.specs.Prelude.{Option, Some, None, Result, Ok, Err, ℕ, ◌+◌, ◌*◌, ◌-◌, Bool, cond, not, ◌&&◌, ◌||◌, List, leb, eqb, length, get_or}
use Rattle.refusal.specs.declared.Refusal.{Refusal}
use Rattle.color.specs.declared.Color.{Color}
use Rattle.refusal.specs.declared.Refusal.TheVariants.{EmptyText, NotHexColor, NotHexByte}
use Rattle.color.specs.Word.{word_of}

-- its colour's word: 0 beside a refusal
abbrev pub hex_word : Result Color Refusal → ℕ
hex_word (Ok color) = word_of color
hex_word (Err why) = 0

-- from the first to the last, both counted
abbrev pub between : ℕ → ℕ → ℕ → Bool
between first last x = leb first x && leb x last

-- 0 to 9 are the bytes 48 to 57, A to F 65 to 70, a to f 97 to 102
unfoldable pub hex_digit : ℕ → Option ℕ
hex_digit byte =
    cond (between 48 57 byte) (Some (byte - 48))
    (cond (between 65 70 byte) (Some (byte - 65 + 10))
    (cond (between 97 102 byte) (Some (byte - 97 + 10))
    None))

-- two digits, the high one first
unfoldable pub two_digits : Option ℕ → Option ℕ → Option ℕ
two_digits (Some high) (Some low) = Some (16 * high + low)
two_digits (Some high) None = None
two_digits None low = None

-- a pair is two digits, or `+` (43) and one digit
unfoldable pub hex_pair : ℕ → ℕ → Option ℕ
hex_pair high low = cond (eqb high 43) (hex_digit low) (two_digits (hex_digit high) (hex_digit low))

-- pair 0 is the text's bytes 1 and 2, pair 1 its bytes 3 and 4, and so on
unfoldable pub pair_at : List ℕ → ℕ → Option ℕ
pair_at text pair = hex_pair (get_or text (1 + 2 * pair) 0) (get_or text (2 + 2 * pair) 0)

-- a is 255 where the text has no fourth pair
unfoldable pub alpha_of : List ℕ → Option ℕ
alpha_of text = cond (eqb (length text) 7) (Some 255) (pair_at text 3)

-- a colour where every pair is a byte, else the first that is none
unfoldable pub of_pairs : Option ℕ → Option ℕ → Option ℕ → Option ℕ → Result Color Refusal
of_pairs None g b a = Err (NotHexByte 0)
of_pairs (Some r) None b a = Err (NotHexByte 1)
of_pairs (Some r) (Some g) None a = Err (NotHexByte 2)
of_pairs (Some r) (Some g) (Some b) None = Err (NotHexByte 3)
of_pairs (Some r) (Some g) (Some b) (Some a) = Ok (record { r = r; g = g; b = b; a = a })

-- the text starts with `#` (35), and has 7 or 9 bytes
unfoldable pub hex_form : List ℕ → Bool
hex_form text = eqb (get_or text 0 0) 35 && (eqb (length text) 7 || eqb (length text) 9)

-- the refusals in the order of the table's row, and else the colour
unfoldable pub hex_color : List ℕ → Result Color Refusal
hex_color text =
    cond (eqb (length text) 0) (Err EmptyText)
    (cond (not (hex_form text)) (Err NotHexColor)
    (of_pairs (pair_at text 0) (pair_at text 1) (pair_at text 2) (alpha_of text)))
