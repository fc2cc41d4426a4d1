-- What a builder makes, the writer takes. Assumes nothing.
use Rattle.std.specs.Prelude.{Ok, Err}
use Rattle.refusal.specs.Outcome.{Answer, refuse_if, if_done, made_unless, made_into}
use mathlib.Core.Path.{◌≡◌, refl, ap, ap₂, subst, ◌∙◌}
use mathlib.Core.Bool.{Bool, true, false, cond, not, ◌&&◌}
use mathlib.Core.List.{List, [], ◌∷◌}
use Prim.Native.Nat.{ℕ, zero, suc, ◌≤◌}
use native.Mathlib.Omega.{arith}
use borrow.Author.Tests.{ltb-false}
use lib.Dec.{T, ltb, eqb}
use lib.Ieee.{Float, lt}
use lib.IntN.{ℤ, pos, negsuc}
use lib.ListN.{length, get_or, length-take}
use lib.Signed.{lt_z}
use Rattle.refusal.specs.declared.Refusal.TheVariants.{StartAboveEnd, TooManyBands, ColorCountDiffers, EmptyRange, TooManyCategories, RangeTooWide}
use Rattle.refusal.specs.declared.Refusal.TheVariants.{KeyOutOfRange}
use Rattle.refusal.proofs.Outcomes.{passed, not_done}
use Rattle.colormap.specs.Made.{list_refusal}
use Rattle.colormap.specs.Spread.{spread}
use Rattle.colormap.specs.Positions.{ramp_colors}
use Rattle.colormapper.specs.declared.MappingConfig.{MappingConfig}
use Rattle.linear.specs.declared.Linear.{Linear}
use Rattle.linear.specs.Made.{range_refusal, linear_unless, list_then_range}
use Rattle.banded_columns.specs.declared.LegendBand.{LegendBand}
use Rattle.banded_lists.specs.declared.ValueRange.{ValueRange}
use Rattle.banded_lists.specs.declared.ValueRanges.{ValueRanges}
use Rattle.banded_lists.specs.EqualBands.{equal_bands, equal_refusal}
use Rattle.banded_lists.specs.ManualRanges.{ranges_of, first_empty, range_bands, manual_refusal}
use Rattle.banded_lists.proofs.Equal.{equal_length}
use Rattle.banded.specs.declared.Banded.{Banded}
use Rattle.banded.specs.Record.{banded_of, made_banded}
use Rattle.banded.specs.EqualBands.{with_equal_bands}
use Rattle.banded.specs.ManualRanges.{with_manual_ranges}
use Rattle.banded.specs.Given.{given_refusal, with_bands_given}
use Rattle.categoric_lists.specs.Whole.{whole}
use Rattle.categoric_lists.specs.Range.{range_count, too_wide, count_is, range_keys}
use Rattle.categoric_lists.specs.Keys.{outside, outside_from, keys_refusal}
use Rattle.categoric_lists.specs.Ascending.{ascends}
use Rattle.categoric_lists.proofs.Ranges.{length-range}
use Rattle.categoric_build.specs.Categories.{Category, category, inserted, inserted_up_to, categories, keys_of}
use Rattle.categoric_build.proofs.Ascending.{categories_ascend}
use Rattle.catgegoric.specs.declared.CategoricNumeric.{CategoricNumeric}
use Rattle.catgegoric.specs.Made.{record_of, record_unless, many_refusal, values_refusal, wide_refusal, value_range_refusal}
use Rattle.legend.specs.declared.Legend.{Legend}
use Rattle.legend.specs.Record.{linear_legend, banded_legend, categoric_legend, stored_refusal}
use Rattle.legend_builders.specs.Building.{linear_with_settings, banded_with_settings, categoric_with_settings}
use Rattle.card_bytes.specs.Entries.{All}
use Rattle.card_layout.specs.Stored.{keys_in_order, in_order}
use Rattle.card_layout.specs.Refusals.{bounds_refusal}
use Rattle.claim_cards.specs.Built.{Writable, Taken, BuildersTaken}
use Rattle.claim_cards.proofs.Lists.{all_at, keys_recorded}
use Rattle.claim_cards.proofs.Accepted.{all_mapped, bands-counted, categories-counted, table_is}

-- ---- what is made is the record of what is not refused
taken : {A : Type 0} (f : A → Legend) (answer : Answer) (made : A) → (answer ≡ Ok tt → Writable (f made)) → Taken (made_into f (made_unless answer made))
taken f (Ok _) made h legend e = let is : f made ≡ legend = cc in subst Writable is (h refl)
taken f (Err why) made h legend e = absurd (cc)

-- ---- linear
linear_writable : (l : Linear) (config : MappingConfig) → range_refusal l.start l.end ≡ Ok tt → Writable (linear_legend l config)
unfolding stored_refusal in_order bounds_refusal
linear_writable l config e = record { stored = refl; ordered = refl; bounds = e }

linear_taken : (answer : Answer) (start end : Float) (cmap : List ℕ) (config : MappingConfig) → (answer ≡ Ok tt → range_refusal start end ≡ Ok tt)
    → Taken (linear_with_settings (linear_unless answer start end cmap) config)
unfolding linear_with_settings linear_unless
linear_taken answer start end cmap config h =
    let l : Linear = record { start = start; end = end; cmap = cmap } in
    taken (λ (x : Linear). linear_legend x config) answer l (λ e. linear_writable l config (h e))

both_done : (a b : Answer) → if_done a b a ≡ Ok tt → b ≡ Ok tt
both_done (Ok _) b e = e
both_done (Err why) b e = not_done e

-- ---- banded
banded_writable : (bs : List LegendBand) (config : MappingConfig) → length bs ≤ 64 → Writable (banded_legend (banded_of bs) config)
unfolding stored_refusal in_order bounds_refusal banded_of
banded_writable bs config h = record { stored = bands-counted bs h; ordered = refl; bounds = refl }

banded_taken : (answer : Answer) (bs : List LegendBand) (config : MappingConfig) → (answer ≡ Ok tt → length bs ≤ 64)
    → Taken (banded_with_settings (made_banded answer bs) config)
unfolding banded_with_settings made_banded
banded_taken answer bs config h = taken (λ (x : Banded). banded_legend x config) answer (banded_of bs) (λ e. banded_writable bs config (h e))

few_ranges : (rs : List ValueRange) (colors : List ℕ) → length (range_bands rs colors) ≤ length rs
unfolding range_bands
few_ranges [] colors = omega arith
few_ranges (r ∷ rs) [] = omega arith
few_ranges (r ∷ rs) (c ∷ colors) = omega (arith, few_ranges rs colors)

-- ---- categoric: no key of the record is beyond the limit, and there are no more of them than were given
abbrev Near : ℤ → Type 0
Near k = outside k ≡ false

all_near : (i : ℕ) (keys : List ℤ) → outside_from i keys ≡ Ok tt → All Near keys
unfolding outside_from All
all_near i [] e = tt
all_near i (k ∷ ks) e = let p = passed (outside k) (KeyOutOfRange i) (outside_from (suc i) ks) e in (p.0, all_near (suc i) ks p.1)

near_all : (i : ℕ) (keys : List ℤ) → All Near keys → outside_from i keys ≡ Ok tt
unfolding outside_from All
near_all i [] h = refl
near_all i (k ∷ ks) h =
    ap (λ (t : Bool). refuse_if t (KeyOutOfRange i) (outside_from (suc i) ks)) h.0 ∙ near_all (suc i) ks h.1

abbrev NearKey : Category → Type 0
NearKey c = Near c.key

module _ (key : ℤ) (color : ℕ) (near : Near key) where
  put_near : (cs : List Category) → All NearKey cs → All NearKey (inserted key color cs)
  unfolding inserted All
  put_near [] h = (near, tt)
  put_near (c ∷ cs) h = go (put_near cs h.1) (lt_z c.key key) (lt_z key c.key)
    where
      go : All NearKey (inserted key color cs) → (t u : Bool)
          → All NearKey (cond t (c ∷ inserted key color cs) (cond u (category key color ∷ c ∷ cs) (category key color ∷ cs)))
      go rest true u = (h.0, rest)
      go rest false true = (near, h)
      go rest false false = (near, h.1)

  put_few : (cs : List Category) → length (inserted key color cs) ≤ suc (length cs)
  unfolding inserted
  put_few [] = omega arith
  put_few (c ∷ cs) = go (put_few cs) (lt_z c.key key) (lt_z key c.key)
    where
      go : length (inserted key color cs) ≤ suc (length cs) → (t u : Bool)
          → length (cond t (c ∷ inserted key color cs) (cond u (category key color ∷ c ∷ cs) (category key color ∷ cs))) ≤ suc (suc (length cs))
      go rest true u = omega (arith, rest)
      go rest false true = omega arith
      go rest false false = omega arith

module _ (keys : List ℤ) (colors : List ℕ) (near : All Near keys) where
  put_all : (n : ℕ) → n ≤ length keys → All NearKey (inserted_up_to n keys colors) × (length (inserted_up_to n keys colors) ≤ n)
  unfolding inserted_up_to All
  put_all zero h = (tt, omega arith)
  put_all (suc n) h =
      let r = put_all n (omega arith) in
      let k = all_at Near keys n (pos 0) near (omega arith) in
      let cs = inserted_up_to n keys colors in (
        put_near (get_or keys n (pos 0)) (get_or colors n 0) k cs r.0,
        omega (arith, r.1, put_few (get_or keys n (pos 0)) (get_or colors n 0) k cs),
      )

  abbrev cs : List Category
  cs = categories keys colors

  keys-in_order : keys_in_order (keys_of cs) ≡ true
  unfolding keys_in_order
  keys-in_order =
      ap₂ (λ (t : Bool) (a : Answer). t && if_done a true false) (is_true (ascends (keys_of cs) (length (keys_of cs))) (categories_ascend keys colors))
      (near_all 0 (keys_of cs) (all_mapped Near NearKey (λ (c : Category). c.key) (λ c h. h) cs (put_all (length keys) (omega arith)).0))
    where
      is_true : (t : Bool) → T t → t ≡ true
      is_true true h = refl
      is_true false h = elim h [ ]

  categoric_writable : (config : MappingConfig) → length keys ≤ 256 → Writable (categoric_legend (record_of cs) config)
  unfolding stored_refusal in_order bounds_refusal record_of
  categoric_writable config few =
      record {
        stored = categories-counted cs (omega (arith, few, (put_all (length keys) (omega arith)).1));
        ordered = ap₂ ◌&&◌ (ap keys_in_order (keys_recorded cs) ∙ keys-in_order) (table_is cs);
        bounds = refl;
      }

categoric_taken : (answer : Answer) (keys : List ℤ) (colors : List ℕ) (config : MappingConfig)
    → (answer ≡ Ok tt → (keys_refusal keys ≡ Ok tt) × (length keys ≤ 256)) → Taken (categoric_with_settings (record_unless answer keys colors) config)
unfolding categoric_with_settings record_unless
categoric_taken answer keys colors config h =
    taken (λ (x : CategoricNumeric). categoric_legend x config) answer (record_of (categories keys colors))
    (λ e. categoric_writable keys colors (all_near 0 keys (h e).0) config (h e).1)

-- ---- what each builder's answer tells
many_told : (count : ℕ) (rest : Answer) → many_refusal count rest ≡ Ok tt → (rest ≡ Ok tt) × (count ≤ 256)
unfolding many_refusal
many_told count rest e = let p = passed (ltb 256 count) TooManyCategories rest e in (p.1, ltb-false 256 count p.0)

small : (z : ℤ) → lt_z (pos 256) z ≡ false → whole z ≤ 256
small (pos n) e = ltb-false 256 n e
small (negsuc n) e = omega arith

wide_told : (start end : ℤ) (rest : Answer) → wide_refusal start end rest ≡ Ok tt → (rest ≡ Ok tt) × (length (range_keys start end) ≤ 256)
unfolding wide_refusal
wide_told start end rest e =
    let p = passed (too_wide start end) RangeTooWide (refuse_if (lt_z (pos 256) (range_count start end)) TooManyCategories rest) e in
    let q = passed (lt_z (pos 256) (range_count start end)) TooManyCategories rest p.1 in
    (q.1, omega (arith, length-range start end, small (range_count start end) q.0))

equal_few : (count : ℕ) (start end : Float) (colors : List ℕ) → equal_refusal count start end (length colors) ≡ Ok tt
    → length (equal_bands count start end colors) ≤ 64
unfolding equal_refusal
equal_few count start end colors e =
    let last = refuse_if (not (eqb (length colors) count)) ColorCountDiffers (Ok tt) in
    let p = passed (lt end start) StartAboveEnd (refuse_if (ltb 64 count) TooManyBands last) e in
    omega (arith, equal_length count start end colors, ltb-false 64 count (passed (ltb 64 count) TooManyBands last p.1).0)

manual_few : (values : ValueRanges) (colors : List ℕ) → manual_refusal values (length colors) ≡ Ok tt → length (range_bands (ranges_of values) colors) ≤ 64
unfolding manual_refusal
manual_few values colors e =
    let n = values.count in
    let first = first_empty (ranges_of values) in
    let last = refuse_if (ltb first n) (EmptyRange first) (refuse_if (not (eqb (length colors) n)) ColorCountDiffers (Ok tt)) in
    omega (arith, few_ranges (ranges_of values) colors, length-take n values.ranges, ltb-false 64 n (passed (ltb 64 n) TooManyBands last e).0)

given_few : (bands : List LegendBand) → given_refusal (length bands) ≡ Ok tt → length bands ≤ 64
unfolding given_refusal
given_few bands e = ltb-false 64 (length bands) (passed (ltb 64 (length bands)) TooManyBands (Ok tt) e).0

values_told : (values : List ℤ) (colors : List ℕ) → values_refusal (length values) (length colors) (keys_refusal values) ≡ Ok tt
    → (keys_refusal values ≡ Ok tt) × (length values ≤ 256)
unfolding values_refusal
values_told values colors e =
    let rest = refuse_if (not (eqb (length values) (length colors))) ColorCountDiffers (keys_refusal values) in
    let p = many_told (length values) rest e in
    ((passed (not (eqb (length values) (length colors))) ColorCountDiffers (keys_refusal values) p.0).1, p.1)

range_told : (start end : ℤ) (colors : List ℕ) → value_range_refusal start end (length colors) (keys_refusal (range_keys start end)) ≡ Ok tt
    → (keys_refusal (range_keys start end) ≡ Ok tt) × (length (range_keys start end) ≤ 256)
unfolding value_range_refusal
range_told start end colors e =
    let keys = keys_refusal (range_keys start end) in
    let differs = not (count_is (range_count start end) (length colors)) in
    let p = wide_told start end (refuse_if differs ColorCountDiffers keys) e in
    ((passed differs ColorCountDiffers keys p.0).1, p.1)

-- ---- THE LAW
pub builders_taken : (config : MappingConfig) → BuildersTaken config
unfolding with_equal_bands with_manual_ranges with_bands_given
builders_taken config =
    record {
      of_ramp = λ start end cmap. linear_taken (range_refusal start end) start end cmap config (λ e. e);
      of_list = λ start end colors.
          linear_taken (list_then_range (length colors) start end) start end (spread colors) config
          (λ e. both_done (list_refusal (length colors)) (range_refusal start end) e);
      equal_bands_lem = λ count start end colors.
          banded_taken (equal_refusal count start end (length colors)) (equal_bands count start end colors) config (λ e. equal_few count start end colors e);
      manual_ranges_lem = λ values colors.
          banded_taken (manual_refusal values (length colors)) (range_bands (ranges_of values) colors) config (λ e. manual_few values colors e);
      bands-given = λ bands. banded_taken (given_refusal (length bands)) bands config (λ e. given_few bands e);
      values = λ values colors.
          categoric_taken (values_refusal (length values) (length colors) (keys_refusal values)) values colors config (λ e. values_told values colors e);
      values_of_ramp = λ values cmap.
          categoric_taken (many_refusal (length values) (keys_refusal values)) values (ramp_colors (length values) cmap) config
          (λ e. many_told (length values) (keys_refusal values) e);
      range = λ start end colors.
          categoric_taken (value_range_refusal start end (length colors) (keys_refusal (range_keys start end))) (range_keys start end) colors config
          (λ e. range_told start end colors e);
      range_of_ramp = λ start end cmap.
          categoric_taken (wide_refusal start end (keys_refusal (range_keys start end))) (range_keys start end)
          (ramp_colors (whole (range_count start end)) cmap) config (λ e. wide_told start end (keys_refusal (range_keys start end)) e);
    }
