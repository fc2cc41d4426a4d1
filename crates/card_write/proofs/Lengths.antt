-- How many bytes a card has, its parts, and what the writer refuses by lengths alone. Assumes nothing.
use Rattle.std.specs.Prelude.{Ok, Err}
use Rattle.refusal.specs.Outcome.{Answer, refuse_if, first_of}
use Prim.Native.Nat.{ℕ, ◌+◌, ◌*◌, ◌≤◌}
use mathlib.Core.Path.{◌≡◌, refl, sym, ap, ◌∙◌}
use mathlib.Core.Bool.{not, ◌||◌}
use mathlib.Core.List.{List, map, ◌++◌, append_assoc}
use native.Mathlib.Omega.{arith}
use lib.Dec.{ltb}
use lib.IntN.{pos}
use lib.ListN.{length, get_or, length-append, length-map}
use lib.Seq.{length-take-le}
use Rattle.refusal.specs.declared.Refusal.TheVariants.{CountAboveCapacity, CardTooLong}
use Rattle.lists.proofs.Tabulated.{length-tabulate}
use Rattle.colormapper.specs.declared.MappingConfig.{MappingConfig}
use Rattle.colormapper.specs.Settings.{or_else}
use Rattle.words.specs.Values.{bits_of, unsigned_of}
use Rattle.banded_columns.specs.declared.LegendBand.{LegendBand}
use Rattle.linear.specs.declared.Linear.{Linear}
use Rattle.banded.specs.Record.{counted}
use Rattle.categoric_build.specs.Categories.{Category, category}
use Rattle.catgegoric.specs.declared.CategoricNumeric.{CategoricNumeric}
use Rattle.legend.specs.declared.LegendKind.{LegendKind}
use Rattle.legend.specs.declared.LegendKind.TheVariants as kind
use Rattle.legend.specs.declared.Legend.{Legend}
use Rattle.legend.specs.Record.{kind_number, stored_refusal}
use Rattle.legend.proofs.Stored.{bands-stored, categories-stored}
use Rattle.card_bytes.specs.Numbers.{bytes_of}
use Rattle.card_bytes.specs.Entries.{entries_of}
use Rattle.card_bytes.proofs.Numbers.{length-bytes_of}
use Rattle.card_bytes.proofs.Entries.{length-entries_of}
use Rattle.card_write.proofs.Behind.{overwritten_after}
use Rattle.card_layout.specs.Fields.{mark, version, bytes_of_fields}
use Rattle.card_layout.specs.Settings.{flags_of}
use Rattle.card_layout.specs.Entries.{linear_bytes, band_bytes, category_bytes}
use Rattle.card_layout.specs.Stored.{counted_categories, in_order}
use Rattle.card_layout.specs.Cards.{count_in, entries_from, fields_of, card_of}
use Rattle.card_layout.specs.Refusals.{bounds_refusal, too_long, write_refusal}
use Rattle.card_write.specs.forms.Length.{entries_length_in, entries_length, card_length, lengths_refusal}
use Rattle.card_write.specs.forms.Parts.{head_bytes, settings_bytes}

-- ---- arrays of a record, as what is known of it has them
pub length_mapped : {X Y : Type 0} (f : X → Y) (l : List X) (n : ℕ) → length (map f l) ≡ n → length l ≡ n
length_mapped f l n e = sym (length-map l f) ∙ e

-- ---- entries

-- numbers one after the other
after_number : {n : ℕ} (xs : List ℕ) (w k : ℕ) → length xs ≡ n → length (xs ++ bytes_of w k) ≡ n + w
after_number xs w k e = omega (arith, length-append xs (bytes_of w k), length-bytes_of w k)

pub length-band : (b : LegendBand) → length (band_bytes b) ≡ 12
unfolding band_bytes
length-band b =
    let start = bytes_of 4 (bits_of b.start) in
    after_number (start ++ bytes_of 4 (bits_of b.end)) 4 b.color (after_number start 4 (bits_of b.end) (length-bytes_of 4 (bits_of b.start)))

pub length-category : (c : Category) → length (category_bytes c) ≡ 12
unfolding category_bytes
length-category c = after_number (bytes_of 8 (unsigned_of c.key)) 4 c.color (length-bytes_of 8 (unsigned_of c.key))

-- ---- the parts of a card
behind : (a b c d e f : List ℕ) → a ++ b ++ c ++ d ++ e ++ f ≡ a ++ (b ++ c ++ d ++ e ++ f)
behind a b c d e f = simp append_assoc

pub card_parts : (title : List ℕ) (l : Legend) → card_of title l
    ≡ head_bytes (kind_number l.kind) title ++ settings_bytes l.mapping_config (count_in l.kind l) ++ entries_from l.kind l
unfolding card_of bytes_of_fields fields_of head_bytes settings_bytes
card_parts title l =
    let config = l.mapping_config in
    ap (λ (r : List ℕ). r ++ entries_from l.kind l)
    (behind (head_bytes (kind_number l.kind) title) (bytes_of 4 config.nodata_color) (bytes_of 1 (flags_of config))
    (bytes_of 4 (or_else config.out_of_range_low_color 0)) (bytes_of 4 (or_else config.out_of_range_high_color 0)) (bytes_of 2 (count_in l.kind l)))

pub length_head : (kind : ℕ) (title : List ℕ) → length (head_bytes kind title) ≡ 7 + length title
unfolding head_bytes
length_head kind title =
    let three = bytes_of 3 mark in
    let five = three ++ bytes_of 2 version in
    let six = five ++ bytes_of 1 kind in
    let seven = six ++ bytes_of 1 (length title) in
    let l5 = after_number three 2 version (length-bytes_of 3 mark) in
    let l7 = after_number six 1 (length title) (after_number five 1 kind l5) in
    omega (arith, length-append seven title, l7)

pub length-settings : (config : MappingConfig) (count : ℕ) → length (settings_bytes config count) ≡ 15
unfolding settings_bytes
length-settings config count =
    let low = or_else config.out_of_range_low_color 0 in
    let high = or_else config.out_of_range_high_color 0 in
    let b4 = bytes_of 4 config.nodata_color in
    let b5 = b4 ++ bytes_of 1 (flags_of config) in
    let b9 = b5 ++ bytes_of 4 low in
    let b13 = b9 ++ bytes_of 4 high in
    let l5 = after_number b4 1 (flags_of config) (length-bytes_of 4 config.nodata_color) in
    after_number b13 2 count (after_number b9 4 high (after_number b5 4 low l5))

-- ---- by kind
pub stored_categories : (l : Legend) → stored_refusal l ≡ Ok tt → l.kind ≡ kind.CategoricNumeric → l.categoric.count ≤ 256
stored_categories l stored e = (categories-stored l stored e).0

length-counted : (c : CategoricNumeric) → length (counted_categories c) ≡ c.count
unfolding counted_categories
length-counted c = length-tabulate c.count (λ k. category (get_or c.keys k (pos 0)) (get_or c.colors k 0))

length-linear : (l : Linear) → length l.cmap ≡ 256 → length (linear_bytes l) ≡ 1032
unfolding linear_bytes
length-linear l h =
    let start = bytes_of 4 (bits_of l.start) in
    let bounds = start ++ bytes_of 4 (bits_of l.end) in
    omega (
      arith,
      length-append bounds (entries_of (bytes_of 4) l.cmap),
      after_number start 4 (bits_of l.end) (length-bytes_of 4 (bits_of l.start)),
      length-entries_of 4 (bytes_of 4) l.cmap (length-bytes_of 4),
      h,
    )

module _ (l : Legend) (stored : stored_refusal l ≡ Ok tt) (cmap : length l.linear.cmap ≡ 256) (bands : length l.banded.bands ≡ 64) where
  length_in : (k : LegendKind) → l.kind ≡ k → length (entries_from k l) ≡ entries_length_in k l
  length_in kind.Linear e = length-linear l.linear cmap
  length_in kind.Banded e =
      length-entries_of 12 band_bytes (counted l.banded) length-band
      ∙ ap (λ (n : ℕ). 12 * n) (length-take-le l.banded.count l.banded.bands (omega (arith, bands-stored l stored e)))
  length_in kind.CategoricNumeric e =
      length-entries_of 12 category_bytes (counted_categories l.categoric) length-category ∙ ap (λ (n : ℕ). 12 * n) (length-counted l.categoric)

  pub length-entries : length (entries_from l.kind l) ≡ entries_length l
  unfolding entries_length
  length-entries = length_in l.kind refl

  pub card_length_lem : (title : List ℕ) → length (card_of title l) ≡ card_length (length title) l
  unfolding card_length
  card_length_lem title =
      let head = head_bytes (kind_number l.kind) title in
      let settings = settings_bytes l.mapping_config (count_in l.kind l) in
      omega (
        arith,
        ap length (card_parts title l),
        length-append (head ++ settings) (entries_from l.kind l),
        length-append head settings,
        length_head (kind_number l.kind) title,
        length-settings l.mapping_config (count_in l.kind l),
        length-entries,
      )

-- ---- the writer's refusals are those of the lengths: where the record is refused, the lengths do not count
pub refusal_of_lengths : (title : List ℕ) (l : Legend) (buffer : List ℕ) → length l.linear.cmap ≡ 256 → length l.banded.bands ≡ 64
    → lengths_refusal (length title) l (length buffer) ≡ write_refusal title l buffer
unfolding lengths_refusal write_refusal too_long
refusal_of_lengths title l buffer cmap bands =
    go (stored_refusal l)
    (λ stored. ap
    (λ (n : ℕ). refuse_if (not (in_order l)) CountAboveCapacity
    (first_of (bounds_refusal l) (refuse_if (ltb 255 (length title) || ltb (length buffer) n) CardTooLong (Ok tt))))
    (sym (card_length_lem l stored cmap bands title)))
  where
    go : (a : Answer) {b c : Answer} → (a ≡ Ok tt → b ≡ c) → first_of a b ≡ first_of a c
    go (Ok _) f = f refl
    go (Err why) f = refl

-- for the check's own search: the counts of a stored record, and the card's parts behind one another
pub ruleset stored_counts = (bands-stored, stored_categories)

pub ruleset laying_card = (overwritten_after, length_head, length-settings, length-append, card_parts, card_length_lem)
