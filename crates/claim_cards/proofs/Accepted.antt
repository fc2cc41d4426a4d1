-- What the reader accepts is the card of what is read. Assumes nothing.
use Rattle.std.specs.Prelude.{Ok}
use Rattle.refusal.specs.Outcome.{Answer, refuse_if, first_of}
use mathlib.Core.Path.{◌≡◌, refl, sym, ap, ap₂, subst, ◌∙◌}
use mathlib.Core.Bool.{Bool, true, false, not, ◌&&◌, ◌||◌}
use mathlib.Core.List.{List, [], ◌∷◌, ◌++◌, map}
use Prim.Native.Nat.{ℕ, zero, suc, ◌+◌, ◌-◌, ◌*◌, ◌≤◌, ◌<◌}
use native.Mathlib.Omega.{arith}
use borrow.Author.Tests.{le-ltb, leb-true, eq-eqb, eqb-true, not-false}
use lib.Dec.{T, ltb, leb, eqb}
use lib.Ieee.{binary32, fits}
use lib.IntN.{ℤ, pos}
use lib.ListN.{length, take, drop, replicate, length-replicate, length-map}
use Rattle.lists.specs.Each.{each}
use Rattle.lists.proofs.Each.{each_told}
use Rattle.lists.specs.Padded.{padded}
use Rattle.lists.proofs.Padding.{length-padded, take-padded}
use Rattle.floats.specs.RampIndex.{nought}
use Rattle.refusal.specs.declared.Refusal.TheVariants.{CountAboveCapacity, CardUnknown, CardMalformed, CardTooLong}
use Rattle.refusal.proofs.Outcomes.{passed}
use Rattle.colormapper.specs.declared.MappingConfig.{MappingConfig}
use Rattle.colormapper.specs.Settings.{or_else}
use Rattle.linear.specs.Made.{empty_linear}
use Rattle.banded_columns.specs.declared.LegendBand.{LegendBand}
use Rattle.banded_lists.specs.Padded.{blank_band}
use Rattle.banded.specs.Record.{banded_of, banded_refusal}
use Rattle.categoric_build.specs.Categories.{Category, keys_of, colors_of}
use Rattle.categoric_build.specs.Table.{table_size, table}
use Rattle.categoric_build.proofs.Tables.{size_few}
use Rattle.catgegoric.specs.Made.{empty_categoric, record_of, categoric_refusal}
use Rattle.legend.specs.declared.LegendKind.{LegendKind}
use Rattle.legend.specs.declared.LegendKind.TheVariants as kind
use Rattle.legend.specs.declared.Legend.{Legend}
use Rattle.legend.specs.Record.{kind_number, kind_numbered, stored_in, stored_refusal}
use Rattle.card_bytes.specs.Numbers.{Bytes}
use Rattle.card_bytes.specs.Entries.{All, entries_of, entries_in}
use Rattle.card_bytes.proofs.Numbers.{Bytes-take, Bytes-drop, number_at-below}
use Rattle.card_bytes.proofs.Entries as entries
use Rattle.card_layout.specs.Fields.{Fields, bytes_of_fields, title_length, title_in, after_title, fields_in}
use Rattle.card_layout.specs.Settings.{flags_of, settings_in, settings_fit}
use Rattle.card_layout.specs.Entries.{band_bytes, band_in, category_bytes, category_in, bounds_canonical}
use Rattle.card_layout.specs.Stored.{keys_in_order, same_words, table_of_keys, in_order_in, in_order}
use Rattle.card_layout.specs.Cards.{count_in, entries_from, fields_of, card_of, entries_fit_in, legend_from, fields_fit, legend_of, legend_in}
use Rattle.card_layout.specs.Refusals.{bounds_refusal, known, well_formed, read_refusal, too_long, write_refusal}
use Rattle.claim_cards.specs.Held.{Word, Key, HeldSettings, HeldLinear, HeldBand, HeldBanded, HeldCategoric, Held}
use Rattle.claim_cards.proofs.Settings.{both, three, settings_held, flags_again, low_again, high_again}
use Rattle.claim_cards.proofs.Fields.{kind-known, title-long, fields_again}
use Rattle.claim_cards.proofs.Entries.{all-entries, linear_held, linear_again, band_held, band_again}
use Rattle.claim_cards.proofs.Entries.{HeldCategory, category_held, category_again}
use Rattle.claim_cards.proofs.Lists.{same_itself, counted-record, keys_recorded, colors_recorded, table_recorded}

-- ---- records of the types' own values
module _ {A : Type 0} (P : A → Type 0) where
  all_replicate : (n : ℕ) (z : A) → P z → All P (replicate n z)
  unfolding All
  all_replicate zero z h = tt
  all_replicate (suc n) z h = (h, all_replicate n z h)

  all_append : (xs ys : List A) → All P xs → All P ys → All P (xs ++ ys)
  unfolding All
  all_append [] ys h g = g
  all_append (x ∷ xs) ys h g = (h.0, all_append xs ys h.1 g)

  all-padded : (z : A) (n : ℕ) (xs : List A) → P z → All P xs → All P (padded z n xs)
  unfolding padded
  all-padded z n xs h g = all_append xs (replicate (n - length xs) z) g (all_replicate (n - length xs) z h)

  pub all_mapped : {B : Type 0} (Q : B → Type 0) (g : B → A) → ((x : B) → Q x → P (g x)) → (xs : List B) → All Q xs → All P (map g xs)
  unfolding All
  all_mapped Q g h [] a = tt
  all_mapped Q g h (x ∷ xs) a = (h x a.0, all_mapped Q g h xs a.1)

nought_single : T (fits binary32 nought)
nought_single = unfold fits in tt

blank_held : HeldBand blank_band
blank_held = record { start = nought_single; end = nought_single; color = omega arith }

empty-linear_held : HeldLinear empty_linear
empty-linear_held =
    record {
      start = nought_single;
      end = nought_single;
      places = length-replicate {A = ℕ} 256 0;
      colors = all_replicate Word 256 0 (omega arith);
    }

module _ (bs : List LegendBand) (few : length bs ≤ 64) (held : All HeldBand bs) where
  banded_held : HeldBanded (banded_of bs)
  unfolding banded_of
  banded_held = record { places = length-padded blank_band 64 bs few; bands = all-padded HeldBand blank_band 64 bs blank_held held }

module _ (cs : List Category) (many : length cs ≤ 256) (held : All HeldCategory cs) where
  categoric_held : HeldCategoric (record_of cs)
  unfolding record_of
  categoric_held =
      record {
        places = length-padded (pos 0) 256 (keys_of cs) (omega (arith, many, length-map cs (λ (c : Category). c.key)));
        keys = all-padded Key (pos 0) 256 (keys_of cs) (omega arith) (all_mapped Key HeldCategory (λ (c : Category). c.key) (λ x h. h.key) cs held);
        words = length-padded 0 256 (colors_of cs) (omega (arith, many, length-map cs (λ (c : Category). c.color)));
        colors = all-padded Word 0 256 (colors_of cs) (omega arith) (all_mapped Word HeldCategory (λ (c : Category). c.color) (λ x h. h.color) cs held);
      }

empty-categoric_held : HeldCategoric empty_categoric
empty-categoric_held =
    record {
      places = length-replicate 256 (pos 0);
      keys = all_replicate Key 256 (pos 0) (omega arith);
      words = length-replicate {A = ℕ} 256 0;
      colors = all_replicate Word 256 0 (omega arith);
    }

none_held : HeldBanded (banded_of [])
none_held = banded_held [] (omega arith) (unfold All in tt)

-- ---- of the record that a builder makes of what is read: its counts, its keys and its table are not refused
pub bands-counted : (bs : List LegendBand) → length bs ≤ 64 → banded_refusal (length bs) ≡ Ok tt
unfolding banded_refusal
bands-counted bs few = ap (λ (t : Bool). refuse_if t CountAboveCapacity (Ok tt)) (le-ltb 64 (length bs) few)

pub categories-counted : (cs : List Category) → length cs ≤ 256 → categoric_refusal (length cs) (table_size (keys_of cs)) ≡ Ok tt
unfolding categoric_refusal
categories-counted cs many =
    ap (λ (t : Bool). refuse_if t CountAboveCapacity (Ok tt))
    (ap₂ ◌||◌ (le-ltb 256 (length cs) many) (le-ltb 513 (table_size (keys_of cs)) (size_few (keys_of cs))))

pub table_is : (cs : List Category) → table_of_keys (record_of cs) ≡ true
unfolding table_of_keys record_of
table_is cs =
    let words = take (table_size (keys_of cs)) (padded 0 513 (table (keys_of cs) (colors_of cs))) in
    ap₂ (λ (keys : List ℤ) (colors : List ℕ). eqb (table_size (keys_of cs)) (table_size keys) && same_words words (table keys colors)) (keys_recorded cs)
    (colors_recorded cs)
    ∙ ap₂ ◌&&◌ (eq-eqb (table_size (keys_of cs)) (table_size (keys_of cs)) refl)
    (ap (λ (ws : List ℕ). same_words ws (table (keys_of cs) (colors_of cs))) (table_recorded cs) ∙ same_itself (table (keys_of cs) (colors_of cs)))

-- ---- by kind
module _ (count : ℕ) (e : List ℕ) (bytes : Bytes e) (config : MappingConfig) (settings : HeldSettings config) where
  abbrev bands : List LegendBand
  bands = entries_in 12 count band_in e

  abbrev categories : List Category
  categories = entries_in 12 count category_in e

  bands-long : length bands ≡ count
  bands-long = entries.length-entries_in 12 count band_in e

  categories-long : length categories ≡ count
  categories-long = entries.length-entries_in 12 count category_in e

  -- what the reader has tested
  linear_told : entries_fit_in kind.Linear count e ≡ true → (count ≡ 256) × (length e ≡ 1032) × (bounds_canonical e ≡ true)
  linear_told fit =
      let t = three (eqb count 256) (eqb (length e) 1032) (bounds_canonical e) fit in
      (eqb-true count 256 t.0, eqb-true (length e) 1032 t.1, t.2)

  banded_told : entries_fit_in kind.Banded count e ≡ true
      → (count ≤ 64) × (length e ≡ 12 * count) × (each bounds_canonical (entries_in 12 count (λ entry. entry) e) ≡ true)
  banded_told fit =
      let t = three (leb count 64) (eqb (length e) (12 * count)) (each bounds_canonical (entries_in 12 count (λ entry. entry) e)) fit in
      (leb-true count 64 t.0, eqb-true (length e) (12 * count) t.1, t.2)

  categoric_told : entries_fit_in kind.CategoricNumeric count e ≡ true
      → (count ≤ 256) × (length e ≡ 12 * count) × (keys_in_order (keys_of categories) ≡ true)
  categoric_told fit =
      let t = three (leb count 256) (eqb (length e) (12 * count)) (keys_in_order (keys_of categories)) fit in
      (leb-true count 256 t.0, eqb-true (length e) (12 * count) t.1, t.2)

  kind-is : (k : LegendKind) → (legend_from k count e config).kind ≡ k
  kind-is kind.Linear = refl
  kind-is kind.Banded = refl
  kind-is kind.CategoricNumeric = refl

  settings_are : (k : LegendKind) → (legend_from k count e config).mapping_config ≡ config
  settings_are kind.Linear = refl
  settings_are kind.Banded = refl
  settings_are kind.CategoricNumeric = refl

  count_again : (k : LegendKind) → entries_fit_in k count e ≡ true → count_in k (legend_from k count e config) ≡ count
  unfolding banded_of record_of
  count_again kind.Linear fit = sym (linear_told fit).0
  count_again kind.Banded fit = bands-long
  count_again kind.CategoricNumeric fit = categories-long

  bands_again : entries_fit_in kind.Banded count e ≡ true → entries_of band_bytes bands ≡ e
  unfolding entries_in
  bands_again fit =
      let t = banded_told fit in
      entries.entries_again 12 count band_bytes band_in (λ r. Bytes r × (bounds_canonical r ≡ true)) e t.1
      (λ k h. (Bytes-drop (12 * k) e bytes, each_told bounds_canonical count (λ k. drop (12 * k) e) t.2 k h)) (λ r size kept. band_again r size kept)

  categories_again : entries_fit_in kind.CategoricNumeric count e ≡ true → entries_of category_bytes categories ≡ e
  categories_again fit =
      entries.entries_again 12 count category_bytes category_in Bytes e (categoric_told fit).1 (λ k h. Bytes-drop (12 * k) e bytes)
      (λ r size b. category_again r b size)

  entries_again : (k : LegendKind) → entries_fit_in k count e ≡ true → entries_from k (legend_from k count e config) ≡ e
  unfolding banded_of
  entries_again kind.Linear fit = let t = linear_told fit in linear_again e bytes t.1 t.2
  entries_again kind.Banded fit = ap (entries_of band_bytes) (take-padded blank_band 64 bands) ∙ bands_again fit
  entries_again kind.CategoricNumeric fit = ap (entries_of category_bytes) (counted-record categories) ∙ categories_again fit

  stored_again : (k : LegendKind) → entries_fit_in k count e ≡ true → stored_in k (legend_from k count e config) ≡ Ok tt
  unfolding banded_of record_of
  stored_again kind.Linear fit = refl
  stored_again kind.Banded fit = bands-counted bands (omega (arith, bands-long, (banded_told fit).0))
  stored_again kind.CategoricNumeric fit = categories-counted categories (omega (arith, categories-long, (categoric_told fit).0))

  order_again : (k : LegendKind) → entries_fit_in k count e ≡ true → in_order_in k (legend_from k count e config) ≡ true
  unfolding record_of
  order_again kind.Linear fit = refl
  order_again kind.Banded fit = refl
  order_again kind.CategoricNumeric fit =
      ap₂ ◌&&◌ (ap keys_in_order (keys_recorded categories) ∙ (categoric_told fit).2) (table_is categories)

  held_again : (k : LegendKind) → entries_fit_in k count e ≡ true → Held (legend_from k count e config)
  held_again kind.Linear fit = record { settings = settings; linear = linear_held e bytes; banded = none_held; categoric = empty-categoric_held }
  held_again kind.Banded fit =
      record {
        settings = settings;
        linear = empty-linear_held;
        banded = banded_held bands (omega (arith, bands-long, (banded_told fit).0)) (all-entries HeldBand 12 count band_in e bytes band_held);
        categoric = empty-categoric_held;
      }
  held_again kind.CategoricNumeric fit =
      record {
        settings = settings;
        linear = empty-linear_held;
        banded = none_held;
        categoric =
            categoric_held categories (omega (arith, categories-long, (categoric_told fit).0))
            (all-entries HeldCategory 12 count category_in e bytes category_held);
      }

-- ---- the whole card
kind_again : (n : ℕ) → n < 3 → kind_number (kind_numbered n) ≡ n
kind_again zero h = refl
kind_again (suc zero) h = refl
kind_again (suc (suc zero)) h = refl
kind_again (suc (suc (suc n))) h = absurd (omega arith)

module _ (card : List ℕ) (bytes : Bytes card) (done : read_refusal card ≡ Ok tt) where
  abbrev f : Fields
  f = fields_in card

  abbrev k : LegendKind
  k = kind_numbered f.kind

  abbrev config : MappingConfig
  config = settings_in f.nodata f.flags f.low f.high

  abbrev rest : List ℕ
  rest = after_title card

  -- what the reader's answer tells
  told : (known card ≡ true) × (well_formed card ≡ true) × (bounds_refusal (legend_in card) ≡ Ok tt)
  unfolding read_refusal
  told =
      let last = bounds_refusal (legend_in card) in
      let a = passed (not (known card)) CardUnknown (refuse_if (not (well_formed card)) CardMalformed last) done in
      let b = passed (not (well_formed card)) CardMalformed last a.1 in
      (not-false (known card) a.0, not-false (well_formed card) b.0, b.1)

  formed : (ltb 14 (length rest) ≡ true) × (fields_fit f ≡ true)
  unfolding well_formed
  formed = both (ltb 14 (length rest)) (fields_fit f) told.1

  fit : (settings_fit f.flags f.low f.high ≡ true) × (entries_fit_in k f.count f.entries ≡ true)
  unfolding fields_fit
  fit = both (settings_fit f.flags f.low f.high) (entries_fit_in k f.count f.entries) formed.1

  rest_bytes : Bytes rest
  rest_bytes = Bytes-drop (7 + title_length card) card bytes

  entries_bytes : Bytes f.entries
  unfolding fields_in
  entries_bytes = Bytes-drop 15 rest rest_bytes

  settings : HeldSettings config
  unfolding fields_in
  settings =
      settings_held f.nodata f.flags f.low f.high (number_at-below 0 4 rest rest_bytes) (number_at-below 5 4 rest rest_bytes)
      (number_at-below 9 4 rest rest_bytes)

  legend-is : legend_in card ≡ legend_from k f.count f.entries config
  unfolding legend_in legend_of
  legend-is = refl

  -- the kind of the legend read, wherever a definition goes by it
  by_kind : {A : Type 0} (g : LegendKind → Legend → A) → g (legend_in card).kind (legend_in card) ≡ g k (legend_from k f.count f.entries config)
  by_kind g =
      ap (λ (l : Legend). g l.kind l) legend-is
      ∙ ap (λ (x : LegendKind). g x (legend_from k f.count f.entries config)) (kind-is f.count f.entries entries_bytes config settings k)

  pub held : Held (legend_in card)
  held = subst Held (sym legend-is) (held_again f.count f.entries entries_bytes config settings k fit.1)

  pub title_bytes : Bytes (title_in card)
  title_bytes = Bytes-take (title_length card) (drop 7 card) (Bytes-drop 7 card bytes)

  settings-is : (legend_in card).mapping_config ≡ config
  settings-is = ap (λ (l : Legend). l.mapping_config) legend-is ∙ settings_are f.count f.entries entries_bytes config settings k

  fields_are : fields_of (title_in card) (legend_in card) ≡ f
  unfolding fields_of fields_in settings_in
  fields_are =
      let kind-is = by_kind (λ x l. kind_number x) ∙ kind_again f.kind (kind-known card bytes told.0 formed.0) in
      let nodata-is = ap (λ (s : MappingConfig). s.nodata_color) settings-is in
      let flags-are = ap flags_of settings-is ∙ flags_again f.nodata f.flags f.low f.high fit.0 in
      let low-is =
      ap (λ (s : MappingConfig). or_else s.out_of_range_low_color 0) settings-is ∙ low_again f.nodata f.flags f.low f.high fit.0 in
      let high_is =
      ap (λ (s : MappingConfig). or_else s.out_of_range_high_color 0) settings-is ∙ high_again f.nodata f.flags f.low f.high fit.0 in
      let count-is = by_kind count_in ∙ count_again f.count f.entries entries_bytes config settings k fit.1 in
      let entries_are = by_kind entries_from ∙ entries_again f.count f.entries entries_bytes config settings k fit.1 in
      λ i. record {
        kind = kind-is i;
        title = title_in card;
        nodata = nodata-is i;
        flags = flags-are i;
        low = low-is i;
        high = high_is i;
        count = count-is i;
        entries = entries_are i;
      }

  pub card_again : card_of (title_in card) (legend_in card) ≡ card
  unfolding card_of
  card_again = ap bytes_of_fields fields_are ∙ fields_again card bytes told.0 formed.0

  title-short : length (title_in card) ≤ 255
  title-short = omega (arith, title-long card bytes told.0 formed.0, number_at-below 6 1 card bytes)

  pub write_done : write_refusal (title_in card) (legend_in card) card ≡ Ok tt
  unfolding write_refusal too_long stored_refusal in_order
  write_done =
      let l = legend_in card in
      let a = by_kind stored_in ∙ stored_again f.count f.entries entries_bytes config settings k fit.1 in
      let b = by_kind in_order_in ∙ order_again f.count f.entries entries_bytes config settings k fit.1 in
      let long = ltb 255 (length (title_in card)) in
      let wide = ltb (length card) (length (card_of (title_in card) l)) in
      let last = refuse_if (long || wide) CardTooLong (Ok tt) in
      let d : (long || wide) ≡ false = ap₂ ◌||◌ (le-ltb 255 (length (title_in card)) title-short)
      (le-ltb (length card) (length (card_of (title_in card) l)) (omega (arith, ap length card_again))) in
      ap (λ (x : Answer). first_of x (refuse_if (not (in_order l)) CountAboveCapacity (first_of (bounds_refusal l) last))) a
      ∙ ap (λ (t : Bool). refuse_if (not t) CountAboveCapacity (first_of (bounds_refusal l) last)) b
      ∙ ap (λ (x : Answer). first_of x last) told.2
      ∙ ap (λ (t : Bool). refuse_if t CardTooLong (Ok tt)) d
