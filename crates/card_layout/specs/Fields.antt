-- The fields of a card, in the order of the bytes, and the two ways between them and the bytes (docs/RULES.md, "Cards"; docs/CARD.md). That each way undoes the
-- other is proved in claim_cards. Definitions only.
use Rattle.std.specs.Prelude.{ℕ, ◌+◌, List, ◌++◌, length, take, drop}
use Rattle.card_bytes.specs.Numbers.{bytes_of, number_at}

-- what a card holds besides its mark and version, as numbers and bytes
pub record Fields : Type 0 where
  pub kind : ℕ
  pub title : List ℕ
  pub nodata : ℕ
  pub flags : ℕ
  pub low : ℕ
  pub high : ℕ
  pub count : ℕ
  pub entries : List ℕ

-- L, G, C, the first byte the lowest
abbrev pub mark : ℕ
mark = 0x43474C

abbrev pub version : ℕ
version = 1

-- written: one field after the other
unfoldable pub bytes_of_fields : Fields → List ℕ
bytes_of_fields f =
    bytes_of 3 mark
    ++ bytes_of 2 version
    ++ bytes_of 1 f.kind
    ++ bytes_of 1 (length f.title)
    ++ f.title
    ++ bytes_of 4 f.nodata
    ++ bytes_of 1 f.flags
    ++ bytes_of 4 f.low
    ++ bytes_of 4 f.high
    ++ bytes_of 2 f.count
    ++ f.entries

-- read: the title's length is byte 6, what follows the title has its places from there
abbrev pub title_length : (card : List ℕ) → ℕ
title_length card = number_at 6 1 card

abbrev pub title_in : (card : List ℕ) → List ℕ
title_in card = take (title_length card) (drop 7 card)

abbrev pub after_title : (card : List ℕ) → List ℕ
after_title card = drop (7 + title_length card) card

unfoldable pub fields_in : (card : List ℕ) → Fields
fields_in card =
    let rest = after_title card in
    record {
      kind = number_at 5 1 card;
      title = title_in card;
      nodata = number_at 0 4 rest;
      flags = number_at 4 1 rest;
      low = number_at 5 4 rest;
      high = number_at 9 4 rest;
      count = number_at 13 2 rest;
      entries = drop 15 rest;
    }
