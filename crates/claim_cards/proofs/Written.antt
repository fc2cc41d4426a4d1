-- What the writer writes is accepted, and is given back. Assumes nothing.
use Rattle.std.specs.Prelude.{Option, Some, None, Ok}
use mathlib.Core.Path.{◌≡◌, refl, sym, ap, ap₂, subst, ◌∙◌}
use mathlib.Core.Bool.{Bool, true, not, ◌&&◌, ◌||◌}
use mathlib.Core.List.{List}
use Prim.Native.Nat.{ℕ, ◌*◌, ◌^◌, ◌≤◌, ◌<◌}
use native.Mathlib.Omega.{arith}
use borrow.Author.Tests.{ltb-false, le-leb, eq-eqb, not-false}
use lib.Dec.{ltb, eqb}
use lib.IntN.{pos}
use lib.ListN.{length, take, get_or}
use lib.Seq.{length-take-le}
use Rattle.lists.specs.Each.{each}
use Rattle.lists.specs.Padded.{padded}
use Rattle.lists.proofs.Tabulated.{length-tabulate}
use Rattle.lists.proofs.Padding.{take-padded}
use Rattle.lists.proofs.Entries.{map_rule, tabulate_front}
use Rattle.refusal.specs.declared.Refusal.TheVariants.{CountAboveCapacity, CardTooLong, CardUnknown, CardMalformed}
use Rattle.refusal.specs.Outcome.{refuse_if, first_of}
use Rattle.refusal.proofs.Outcomes.{passed, first_done}
use Rattle.colormapper.specs.declared.MappingConfig.{MappingConfig}
use Rattle.colormapper.specs.Settings.{or_else}
use Rattle.banded_columns.specs.declared.LegendBand.{LegendBand}
use Rattle.banded_lists.specs.Padded.{blank_band}
use Rattle.banded.specs.Record.{banded_of, counted}
use Rattle.categoric_build.specs.Categories.{Category, category, keys_of, colors_of}
use Rattle.categoric_build.specs.Table.{table_size, table}
use Rattle.catgegoric.specs.declared.CategoricNumeric.{CategoricNumeric}
use Rattle.catgegoric.specs.Made.{record_of}
use Rattle.legend.specs.declared.LegendKind.{LegendKind}
use Rattle.legend.specs.declared.LegendKind.TheVariants as kind
use Rattle.legend.specs.declared.Legend.{Legend}
use Rattle.legend.specs.Record.{kind_number, kind_numbered, linear_legend, banded_legend, categoric_legend, stored_refusal}
use Rattle.legend.proofs.Stored.{neither, bands-stored, categories-stored}
use Rattle.card_bytes.specs.Entries.{All, entries_of, entries_in}
use Rattle.card_bytes.proofs.Entries.{length-entries_of, entries_back}
use Rattle.card_layout.specs.Fields.{Fields, title_in, fields_in}
use Rattle.card_layout.specs.Entries.{linear_bytes, band_bytes, band_in, category_bytes, category_in, bounds_canonical}
use Rattle.card_layout.specs.Stored.{counted_categories, keys_in_order, same_words, table_of_keys, in_order_in, in_order, rebuilt_in, rebuilt}
use Rattle.card_layout.specs.Cards.{count_in, entries_from, fields_of, card_of, entries_fit_in, legend_from, fields_fit, legend_of, legend_in}
use Rattle.card_layout.specs.Refusals.{range_refusal_in, bounds_refusal, well_formed, read_refusal, too_long, write_refusal}
use Rattle.card_write.proofs.Lengths.{length-band, length-category}
use Rattle.claim_cards.specs.Held.{Word, Key, HeldColor, HeldBand, Held}
use Rattle.claim_cards.specs.Exact.{SameEntries, GivenBack}
use Rattle.claim_cards.specs.Built.{Writable}
use Rattle.claim_cards.proofs.Settings.{both, settings_back}
use Rattle.claim_cards.proofs.Fields.{Fitting, title_back, fields_back, after_there, card_long, known_there}
use Rattle.claim_cards.proofs.Entries.{all_tabulated, each-written, linear_back, linear_size, linear-canonical}
use Rattle.claim_cards.proofs.Entries.{band_back, band-canonical, HeldCategory, category_back}
use Rattle.claim_cards.proofs.Lists.{all_take, all_at, same_told, counted-record, table_recorded}

-- ---- numbers of kinds, and colours that may be absent
pub kind_back : (k : LegendKind) → kind_numbered (kind_number k) ≡ k
kind_back kind.Linear = refl
kind_back kind.Banded = refl
kind_back kind.CategoricNumeric = refl

kind-below : (k : LegendKind) → kind_number k < 3
kind-below kind.Linear = omega arith
kind-below kind.Banded = omega arith
kind-below kind.CategoricNumeric = omega arith

color_word : (c : Option ℕ) → HeldColor c → or_else c 0 < 256 ^ 4
color_word (Some c) h = h
color_word None h = omega arith

-- ---- what the writer's answer tells
pub record Unrefused (title : List ℕ) (l : Legend) : Type 0 where
  pub writable : Writable l
  pub short : length title ≤ 255

pub unrefused : (title : List ℕ) (l : Legend) (buffer : List ℕ) → write_refusal title l buffer ≡ Ok tt → Unrefused title l
unfolding write_refusal too_long
unrefused title l buffer e =
    let long = ltb 255 (length title) in
    let wide = ltb (length buffer) (length (card_of title l)) in
    let last = refuse_if (long || wide) CardTooLong (Ok tt) in
    let a = first_done (stored_refusal l) (refuse_if (not (in_order l)) CountAboveCapacity (first_of (bounds_refusal l) last)) e in
    let b = passed (not (in_order l)) CountAboveCapacity (first_of (bounds_refusal l) last) a.1 in
    let c = first_done (bounds_refusal l) last b.1 in
    let d = passed (long || wide) CardTooLong (Ok tt) c.1 in
    record {
      writable = record { stored = a.0; ordered = not-false (in_order l) b.0; bounds = c.0 };
      short = ltb-false 255 (length title) (neither long wide d.0).0;
    }

-- ---- the entries, by kind
module _ (l : Legend) (held : Held l) (stored : stored_refusal l ≡ Ok tt) (ordered : in_order l ≡ true) where
  abbrev config : MappingConfig
  config = l.mapping_config

  module _ (is : l.kind ≡ kind.Banded) where
    abbrev bands : List LegendBand
    bands = counted l.banded

    few : l.banded.count ≤ 64
    few = bands-stored l stored is

    bands-long : length bands ≡ l.banded.count
    bands-long = length-take-le l.banded.count l.banded.bands (omega (arith, few, held.banded.places))

    bands_held : All HeldBand bands
    bands_held = all_take HeldBand l.banded.count l.banded.bands held.banded.bands

    banded_fits : entries_fit_in kind.Banded l.banded.count (entries_of band_bytes bands) ≡ true
    banded_fits =
        let n = l.banded.count in
        let a = le-leb n 64 few in
        let b = eq-eqb (length (entries_of band_bytes bands)) (12 * n)
        (length-entries_of 12 band_bytes bands length-band ∙ ap (λ (m : ℕ). 12 * m) bands-long) in
        let c =
        ap (λ (m : ℕ). each bounds_canonical (entries_in 12 m (λ e. e) (entries_of band_bytes bands))) (sym bands-long)
        ∙ each-written 12 band_bytes bounds_canonical HeldBand length-band band-canonical bands bands_held in
        ap₂ ◌&&◌ (ap₂ ◌&&◌ a b) c

    bands_back : entries_in 12 l.banded.count band_in (entries_of band_bytes bands) ≡ bands
    bands_back =
        ap (λ (m : ℕ). entries_in 12 m band_in (entries_of band_bytes bands)) (sym bands-long)
        ∙ entries_back 12 band_bytes band_in HeldBand length-band band_back bands bands_held

  module _ (is : l.kind ≡ kind.CategoricNumeric) where
    abbrev c : CategoricNumeric
    c = l.categoric

    abbrev categories : List Category
    categories = counted_categories c

    many : c.count ≤ 256
    many = (categories-stored l stored is).0

    categories-long : length categories ≡ c.count
    unfolding counted_categories
    categories-long = length-tabulate c.count (λ k. category (get_or c.keys k (pos 0)) (get_or c.colors k 0))

    categories_held : All HeldCategory categories
    unfolding counted_categories
    categories_held =
        all_tabulated HeldCategory c.count (λ k. category (get_or c.keys k (pos 0)) (get_or c.colors k 0))
        (λ k h. record {
          key = all_at Key c.keys k (pos 0) held.categoric.keys (omega (arith, h, many, held.categoric.places));
          color = all_at Word c.colors k 0 held.categoric.colors (omega (arith, h, many, held.categoric.words));
        })

    pub keys-counted : keys_of categories ≡ take c.count c.keys
    unfolding counted_categories
    keys-counted =
        map_rule (λ (x : Category). x.key) c.count (λ k. category (get_or c.keys k (pos 0)) (get_or c.colors k 0))
        ∙ tabulate_front (pos 0) c.count c.keys (omega (arith, many, held.categoric.places))

    colors-counted : colors_of categories ≡ take c.count c.colors
    unfolding counted_categories
    colors-counted =
        map_rule (λ (x : Category). x.color) c.count (λ k. category (get_or c.keys k (pos 0)) (get_or c.colors k 0))
        ∙ tabulate_front 0 c.count c.colors (omega (arith, many, held.categoric.words))

    order_told : (keys_in_order (take c.count c.keys) ≡ true) × (table_of_keys c ≡ true)
    unfolding in_order
    order_told =
        both (keys_in_order (take c.count c.keys)) (table_of_keys c) (sym (ap (λ (k : LegendKind). in_order_in k l) is) ∙ ordered)

    categories_back : entries_in 12 c.count category_in (entries_of category_bytes categories) ≡ categories
    categories_back =
        ap (λ (m : ℕ). entries_in 12 m category_in (entries_of category_bytes categories)) (sym categories-long)
        ∙ entries_back 12 category_bytes category_in HeldCategory length-category category_back categories categories_held

    categoric_fits : entries_fit_in kind.CategoricNumeric c.count (entries_of category_bytes categories) ≡ true
    categoric_fits =
        let n = c.count in
        let bytes = entries_of category_bytes categories in
        let p = le-leb n 256 many in
        let q = eq-eqb (length bytes) (12 * n) (length-entries_of 12 category_bytes categories length-category ∙ ap (λ (m : ℕ). 12 * m) categories-long) in
        let r = ap (λ (cs : List Category). keys_in_order (keys_of cs)) categories_back ∙ ap keys_in_order keys-counted ∙ order_told.0 in
        ap₂ ◌&&◌ (ap₂ ◌&&◌ p q) r

    table_back : take (table_size (keys_of categories)) (padded 0 513 (table (keys_of categories) (colors_of categories))) ≡ take c.lookup_count c.lookup
    unfolding table_of_keys
    table_back =
        let keys = take c.count c.keys in
        let colors = take c.count c.colors in
        let t = both (eqb c.lookup_count (table_size keys)) (same_words (take c.lookup_count c.lookup) (table keys colors)) order_told.1 in
        table_recorded categories ∙ ap₂ table keys-counted colors-counted ∙ sym (same_told (take c.lookup_count c.lookup) (table keys colors) t.1)

  linear_fits_lem : entries_fit_in kind.Linear 256 (linear_bytes l.linear) ≡ true
  linear_fits_lem =
      ap₂ ◌&&◌ (eq-eqb (length (linear_bytes l.linear)) 1032 (linear_size l.linear held.linear)) (linear-canonical l.linear held.linear)

  entries_fit : (k : LegendKind) → l.kind ≡ k → entries_fit_in k (count_in k l) (entries_from k l) ≡ true
  entries_fit kind.Linear is = linear_fits_lem
  entries_fit kind.Banded is = banded_fits is
  entries_fit kind.CategoricNumeric is = categoric_fits is

  legend_from_lem : (k : LegendKind) → l.kind ≡ k → legend_from k (count_in k l) (entries_from k l) config ≡ rebuilt_in k l
  legend_from_lem kind.Linear is = ap (λ x. linear_legend x config) (linear_back l.linear held.linear)
  legend_from_lem kind.Banded is = ap (λ (bs : List LegendBand). banded_legend (banded_of bs) config) (bands_back is)
  legend_from_lem kind.CategoricNumeric is = ap (λ (cs : List Category). categoric_legend (record_of cs) config) (categories_back is)

  few_entries : (k : LegendKind) → l.kind ≡ k → count_in k l ≤ 256
  few_entries kind.Linear is = omega arith
  few_entries kind.Banded is = omega (arith, few is)
  few_entries kind.CategoricNumeric is = many is

  few_bytes : (k : LegendKind) → l.kind ≡ k → length (entries_from k l) ≤ 3072
  few_bytes kind.Linear is = omega (arith, linear_size l.linear held.linear)
  few_bytes kind.Banded is = omega (arith, few is, bands-long is, length-entries_of 12 band_bytes (bands is) length-band)
  few_bytes kind.CategoricNumeric is =
      omega (arith, many is, categories-long is, length-entries_of 12 category_bytes (categories is) length-category)

  same_entries : (k : LegendKind) → l.kind ≡ k → SameEntries k l (rebuilt_in k l)
  unfolding banded_of record_of
  same_entries kind.Linear is = refl
  same_entries kind.Banded is = take-padded blank_band 64 (bands is)
  same_entries kind.CategoricNumeric is = (counted-record (categories is), table_back is)

settings-rebuilt : (k : LegendKind) (l : Legend) → (rebuilt_in k l).mapping_config ≡ l.mapping_config
settings-rebuilt kind.Linear l = refl
settings-rebuilt kind.Banded l = refl
settings-rebuilt kind.CategoricNumeric l = refl

bounds-rebuilt : (k : LegendKind) (l : Legend) → bounds_refusal (rebuilt_in k l) ≡ range_refusal_in k l
unfolding bounds_refusal
bounds-rebuilt kind.Linear l = refl
bounds-rebuilt kind.Banded l = refl
bounds-rebuilt kind.CategoricNumeric l = refl

-- ---- the whole card
module _ (title : List ℕ) (l : Legend) (held : Held l) (u : Unrefused title l) where
  abbrev f : Fields
  f = fields_of title l

  fitting : Fitting f
  unfolding fields_of
  fitting =
      record {
        kind = kind-below l.kind;
        title = omega (arith, u.short);
        nodata = held.settings.nodata;
        flags = (settings_back l.mapping_config).2;
        low = color_word l.mapping_config.out_of_range_low_color held.settings.low;
        high = color_word l.mapping_config.out_of_range_high_color held.settings.high;
        count = omega (arith, few_entries l held u.writable.stored u.writable.ordered l.kind refl);
      }

  back : fields_in (card_of title l) ≡ f
  unfolding card_of
  back = fields_back f fitting

  fit : fields_fit f ≡ true
  unfolding fields_fit fields_of
  fit =
      ap₂ ◌&&◌ (settings_back l.mapping_config).1
      (ap (λ (k : LegendKind). entries_fit_in k (count_in l.kind l) (entries_from l.kind l)) (kind_back l.kind)
      ∙ entries_fit l held u.writable.stored u.writable.ordered l.kind refl)

  rebuilt_back : legend_in (card_of title l) ≡ rebuilt l
  unfolding legend_in legend_of fields_of rebuilt
  rebuilt_back =
      ap legend_of back
      ∙ ap₂ (λ (k : LegendKind) (s : MappingConfig). legend_from k (count_in l.kind l) (entries_from l.kind l) s) (kind_back l.kind)
      (settings_back l.mapping_config).0
      ∙ legend_from_lem l held u.writable.stored u.writable.ordered l.kind refl

  pub read_done : read_refusal (card_of title l) ≡ Ok tt
  unfolding read_refusal well_formed card_of bounds_refusal rebuilt
  read_done =
      let card = card_of title l in
      let last = bounds_refusal (legend_in card) in
      let formed : well_formed card ≡ true = ap₂ ◌&&◌ (after_there f fitting) (ap fields_fit back ∙ fit) in
      ap (λ (t : Bool). refuse_if (not t) CardUnknown (refuse_if (not (well_formed card)) CardMalformed last)) (known_there f fitting)
      ∙ ap (λ (t : Bool). refuse_if (not t) CardMalformed last) formed
      ∙ ap bounds_refusal rebuilt_back ∙ bounds-rebuilt l.kind l ∙ u.writable.bounds

  -- no card has more bytes
  pub longest : length (card_of title l) ≤ 3349
  unfolding card_of fields_of
  longest = omega (arith, card_long f fitting, u.short, few_bytes l held u.writable.stored u.writable.ordered l.kind refl)

  pub title_read : title_in (card_of title l) ≡ title
  unfolding card_of fields_of
  title_read = title_back f fitting

  pub given_back : GivenBack l (legend_in (card_of title l))
  unfolding rebuilt
  given_back =
      record {
        entries = subst (SameEntries l.kind l) (sym rebuilt_back) (same_entries l held u.writable.stored u.writable.ordered l.kind refl);
        settings = ap (λ (x : Legend). x.mapping_config) rebuilt_back ∙ settings-rebuilt l.kind l;
        built = rebuilt_back;
      }
