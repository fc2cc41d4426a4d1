-- The fields of a card there and back: what is written is read, and what is read is written as the same bytes. Assumes nothing.
use mathlib.Core.Path.{◌≡◌, refl, sym, ap, ap₂, ◌∙◌}
use mathlib.Core.Bool.{true, ◌&&◌}
use mathlib.Core.List.{List, ◌++◌, append_assoc}
use Prim.Native.Nat.{ℕ, ◌+◌, ◌^◌, ◌≤◌, ◌<◌}
use native.Mathlib.Omega.{arith}
use borrow.Author.Tests.{ltb-true, eqb-true, lt-ltb, eq-eqb}
use lib.Dec.{ltb, eqb}
use lib.ListN.{length, take, drop, length-append, length-drop, take-append-drop}
use lib.Seq.{length-take-le, take-append_seam, drop-append_seam, drop-append-add, drop-drop}
use Rattle.card_bytes.specs.Numbers.{Bytes, bytes_of, number_at}
use Rattle.card_bytes.proofs.Numbers.{length-bytes_of, Bytes-drop, number_at_front, number_at-past, part_back}
use Rattle.card_layout.specs.Fields.{Fields, mark, version, bytes_of_fields, title_length, title_in, after_title, fields_in}
use Rattle.card_layout.specs.Refusals.{known}
use Rattle.claim_cards.proofs.Settings.{both, three}

-- ---- past a field
module _ (v n : ℕ) (rest : List ℕ) where
  pub skip : (at w : ℕ) → number_at (v + at) w (bytes_of v n ++ rest) ≡ number_at at w rest
  skip at w = ap (λ (k : ℕ). number_at (k + at) w (bytes_of v n ++ rest)) (sym (length-bytes_of v n)) ∙ number_at-past (bytes_of v n) at w rest

  pub past : (k : ℕ) → drop (v + k) (bytes_of v n ++ rest) ≡ drop k rest
  past k = ap (λ (j : ℕ). drop (j + k) (bytes_of v n ++ rest)) (sym (length-bytes_of v n)) ∙ drop-append-add (bytes_of v n) rest k

  pub long : length (bytes_of v n ++ rest) ≡ v + length rest
  long = length-append (bytes_of v n) rest ∙ ap (λ (k : ℕ). k + length rest) (length-bytes_of v n)

-- ---- written and read

-- what the widths of the fields hold
pub record Fitting (f : Fields) : Type 0 where
  pub kind : f.kind < 3
  pub title : length f.title < 256 ^ 1
  pub nodata : f.nodata < 256 ^ 4
  pub flags : f.flags < 256 ^ 1
  pub low : f.low < 256 ^ 4
  pub high : f.high < 256 ^ 4
  pub count : f.count < 256 ^ 2

module _ (f : Fields) (fit : Fitting f) where
  -- what follows each field, from the last on
  abbrev count_on : List ℕ
  count_on = bytes_of 2 f.count ++ f.entries

  abbrev high_on : List ℕ
  high_on = bytes_of 4 f.high ++ count_on

  abbrev low_on : List ℕ
  low_on = bytes_of 4 f.low ++ high_on

  abbrev flags_on : List ℕ
  flags_on = bytes_of 1 f.flags ++ low_on

  abbrev nodata_on : List ℕ
  nodata_on = bytes_of 4 f.nodata ++ flags_on

  abbrev title_on : List ℕ
  title_on = f.title ++ nodata_on

  abbrev length_on : List ℕ
  length_on = bytes_of 1 (length f.title) ++ title_on

  abbrev kind_on : List ℕ
  kind_on = bytes_of 1 f.kind ++ length_on

  abbrev version_on : List ℕ
  version_on = bytes_of 2 version ++ kind_on

  abbrev mark_on : List ℕ
  mark_on = bytes_of 3 mark ++ version_on

  abbrev card : List ℕ
  card = bytes_of_fields f

  nested : card ≡ mark_on
  unfolding bytes_of_fields
  nested = simp append_assoc

  kind_at : number_at 5 1 card ≡ f.kind
  kind_at = ap (number_at 5 1) nested ∙ skip 3 mark version_on 2 1 ∙ skip 2 version kind_on 0 1 ∙ number_at_front 1 f.kind length_on (omega (arith, fit.kind))

  length_at : title_length card ≡ length f.title
  length_at =
      ap title_length nested ∙ skip 3 mark version_on 3 1 ∙ skip 2 version kind_on 1 1 ∙ skip 1 f.kind length_on 0 1
      ∙ number_at_front 1 (length f.title) title_on fit.title

  title_from : drop 7 card ≡ title_on
  title_from =
      ap (drop 7) nested ∙ past 3 mark version_on 4 ∙ past 2 version kind_on 2 ∙ past 1 f.kind length_on 1 ∙ past 1 (length f.title) title_on 0

  pub title_back : title_in card ≡ f.title
  title_back = ap₂ (λ (n : ℕ) (l : List ℕ). take n l) length_at title_from ∙ take-append_seam f.title nodata_on

  after_at : after_title card ≡ nodata_on
  after_at =
      ap (λ (n : ℕ). drop (7 + n) card) length_at ∙ sym (drop-drop (length f.title) 7 card) ∙ ap (drop (length f.title)) title_from
      ∙ drop-append_seam f.title nodata_on

  after : (at w : ℕ) → number_at at w (after_title card) ≡ number_at at w nodata_on
  after at w = ap (number_at at w) after_at

  pub fields_back : fields_in card ≡ f
  unfolding fields_in
  fields_back =
      let nodata-is = after 0 4 ∙ number_at_front 4 f.nodata flags_on fit.nodata in
      let flags-is = after 4 1 ∙ skip 4 f.nodata flags_on 0 1 ∙ number_at_front 1 f.flags low_on fit.flags in
      let low-is = after 5 4 ∙ skip 4 f.nodata flags_on 1 4 ∙ skip 1 f.flags low_on 0 4 ∙ number_at_front 4 f.low high_on fit.low in
      let high_is =
      after 9 4 ∙ skip 4 f.nodata flags_on 5 4 ∙ skip 1 f.flags low_on 4 4 ∙ skip 4 f.low high_on 0 4
      ∙ number_at_front 4 f.high count_on fit.high in
      let count-is =
      after 13 2 ∙ skip 4 f.nodata flags_on 9 2 ∙ skip 1 f.flags low_on 8 2 ∙ skip 4 f.low high_on 4 2 ∙ skip 4 f.high count_on 0 2
      ∙ number_at_front 2 f.count f.entries fit.count in
      let entries_are =
      ap (drop 15) after_at ∙ past 4 f.nodata flags_on 11 ∙ past 1 f.flags low_on 10 ∙ past 4 f.low high_on 6 ∙ past 4 f.high count_on 2
      ∙ past 2 f.count f.entries 0 in
      λ i. record {
        kind = kind_at i;
        title = title_back i;
        nodata = nodata-is i;
        flags = flags-is i;
        low = low-is i;
        high = high_is i;
        count = count-is i;
        entries = entries_are i;
      }

  after_long : length nodata_on ≡ 15 + length f.entries
  after_long =
      omega (
        arith,
        long 4 f.nodata flags_on,
        long 1 f.flags low_on,
        long 4 f.low high_on,
        long 4 f.high count_on,
        long 2 f.count f.entries,
      )

  pub after_there : ltb 14 (length (after_title card)) ≡ true
  after_there = lt-ltb 14 (length (after_title card)) (omega (arith, ap length after_at, after_long))

  pub card_long : length card ≡ 22 + length f.title + length f.entries
  card_long =
      omega (
        arith,
        after_long,
        ap length nested,
        long 3 mark version_on,
        long 2 version kind_on,
        long 1 f.kind length_on,
        long 1 (length f.title) title_on,
        length-append f.title nodata_on,
      )

  pub known_there : known card ≡ true
  unfolding known
  known_there =
      let marked : number_at 0 3 card ≡ mark = ap (number_at 0 3) nested ∙ number_at_front 3 mark version_on (omega arith) in
      let versioned : number_at 3 2 card ≡ version = ap (number_at 3 2) nested ∙ skip 3 mark version_on 0 2 ∙ number_at_front 2 version kind_on (omega arith) in
      let a = lt-ltb 5 (length card) (omega (arith, card_long)) in
      let b = eq-eqb (number_at 0 3 card) mark marked in
      let c = eq-eqb (number_at 3 2 card) version versioned in
      let d = lt-ltb (number_at 5 1 card) 3 (omega (arith, kind_at, fit.kind)) in
      ap₂ ◌&&◌ (ap₂ ◌&&◌ (ap₂ ◌&&◌ a b) c) d

-- ---- read and written

-- a number that is read, and what follows it
peel : (at w n : ℕ) (bs : List ℕ) → Bytes bs → at + w ≤ length bs → number_at at w bs ≡ n → bytes_of w n ++ drop (at + w) bs ≡ drop at bs
peel at w n bs b h e =
    ap (λ (k : ℕ). bytes_of w k ++ drop (at + w) bs) (sym e)
    ∙ ap₂ ◌++◌ (part_back at w bs b h) (sym (drop-drop w at bs))
    ∙ take-append-drop w (drop at bs)

module _ (card : List ℕ) (bytes : Bytes card) (is_Known : known card ≡ true) (there : ltb 14 (length (after_title card)) ≡ true) where
  abbrev t : ℕ
  t = title_length card

  abbrev rest : List ℕ
  rest = after_title card

  rest_long : 15 ≤ length rest
  rest_long = ltb-true 14 (length rest) there

  card_covers : 22 + t ≤ length card
  card_covers = omega (arith, rest_long, length-drop (7 + t) card)

  rest_bytes : Bytes rest
  rest_bytes = Bytes-drop (7 + t) card bytes

  told : (number_at 0 3 card ≡ mark) × (number_at 3 2 card ≡ version) × (number_at 5 1 card < 3)
  unfolding known
  told =
      let m = eqb (number_at 0 3 card) mark in
      let v = eqb (number_at 3 2 card) version in
      let k = ltb (number_at 5 1 card) 3 in
      let last = both (ltb 5 (length card) && m && v) k is_Known in
      let front = three (ltb 5 (length card)) m v last.0 in
      (eqb-true (number_at 0 3 card) mark front.1, eqb-true (number_at 3 2 card) version front.2, ltb-true (number_at 5 1 card) 3 last.1)

  pub kind-known : (fields_in card).kind < 3
  unfolding fields_in
  kind-known = told.2

  pub title-long : length (title_in card) ≡ t
  title-long = length-take-le t (drop 7 card) (omega (arith, card_covers, length-drop 7 card))

  -- the settings and the count, from the last on
  settings_again : (nodata flags low high count : ℕ) → number_at 0 4 rest ≡ nodata → number_at 4 1 rest ≡ flags → number_at 5 4 rest ≡ low
      → number_at 9 4 rest ≡ high → number_at 13 2 rest ≡ count
      → bytes_of 4 nodata ++ (bytes_of 1 flags ++ (bytes_of 4 low ++ (bytes_of 4 high ++ (bytes_of 2 count ++ drop 15 rest)))) ≡ rest
  settings_again nodata flags low high count a b c d e =
      let p = peel 13 2 count rest rest_bytes (omega (arith, rest_long)) e in
      let q = ap (λ (l : List ℕ). bytes_of 4 high ++ l) p ∙ peel 9 4 high rest rest_bytes (omega (arith, rest_long)) d in
      let r = ap (λ (l : List ℕ). bytes_of 4 low ++ l) q ∙ peel 5 4 low rest rest_bytes (omega (arith, rest_long)) c in
      let s = ap (λ (l : List ℕ). bytes_of 1 flags ++ l) r ∙ peel 4 1 flags rest rest_bytes (omega (arith, rest_long)) b in
      ap (λ (l : List ℕ). bytes_of 4 nodata ++ l) s ∙ peel 0 4 nodata rest rest_bytes (omega (arith, rest_long)) a

  title_again : title_in card ++ rest ≡ drop 7 card
  title_again = ap (λ (l : List ℕ). title_in card ++ l) (sym (drop-drop t 7 card)) ∙ take-append-drop t (drop 7 card)

  -- the mark, the version, the kind and the title's length, before what follows them
  head_again : (kind : ℕ) → number_at 5 1 card ≡ kind
      → bytes_of 3 mark ++ (bytes_of 2 version ++ (bytes_of 1 kind ++ (bytes_of 1 (length (title_in card)) ++ drop 7 card))) ≡ card
  head_again kind e =
      let p = peel 6 1 (length (title_in card)) card bytes (omega (arith, card_covers)) (sym title-long) in
      let q = ap (λ (l : List ℕ). bytes_of 1 kind ++ l) p ∙ peel 5 1 kind card bytes (omega (arith, card_covers)) e in
      let r = ap (λ (l : List ℕ). bytes_of 2 version ++ l) q ∙ peel 3 2 version card bytes (omega (arith, card_covers)) told.1 in
      ap (λ (l : List ℕ). bytes_of 3 mark ++ l) r ∙ peel 0 3 mark card bytes (omega (arith, card_covers)) told.0

  pub fields_again : bytes_of_fields (fields_in card) ≡ card
  unfolding bytes_of_fields fields_in
  fields_again =
      let f = fields_in card in
      let on = settings_again f.nodata f.flags f.low f.high f.count refl refl refl refl refl in
      simp append_assoc
      (ap (λ (l : List ℕ). bytes_of 3 mark ++ (bytes_of 2 version ++ (bytes_of 1 f.kind ++ (bytes_of 1 (length (title_in card)) ++ l))))
      (ap (λ (l : List ℕ). title_in card ++ l) on ∙ title_again) ∙ head_again f.kind refl)
