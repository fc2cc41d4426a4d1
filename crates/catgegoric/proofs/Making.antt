-- What a builder makes, and its checks, with what follows where they refuse nothing. Assumes nothing.
use Rattle.std.specs.Prelude.{Result, Ok, Err}
use Rattle.refusal.specs.Outcome.{Answer, refuse_if, if_done}
use mathlib.Core.Bool.{Bool, true, false, not, true≢false}
use mathlib.Core.List.{List}
use mathlib.Core.Path.{◌≡◌, refl, sym, ap, ap₂, ◌∙◌}
use Prim.Native.Nat.{ℕ, ◌≤◌}
use borrow.Author.Tests.{ltb-false, eqb-true, not-false}
use lib.Dec.{ltb, eqb}
use lib.IntN.{ℤ, pos, negsuc}
use lib.ListN.{length, take, length-map}
use lib.Signed.{lt_z}
use Rattle.refusal.specs.declared.Refusal.{Refusal}
use Rattle.refusal.specs.declared.Refusal.TheVariants.{TooManyCategories, ColorCountDiffers, RangeTooWide}
use Rattle.refusal.proofs.Outcomes.{not_done, passed, when_done, when_refused, not_made}
use Rattle.lists.specs.Padded.{padded}
use native.Mathlib.Omega.{arith}
use Rattle.lists.proofs.Padding.{take-padded, length-padded}
use Rattle.lists.proofs.Tabulated.{length-tabulate}
use Rattle.colormap.specs.Positions.{position, ramp_colors}
use Rattle.lookup.specs.Entries.{plain_entry, entry_color}
use Rattle.catgegoric.specs.declared.CategoricNumeric.{CategoricNumeric}
use Rattle.categoric_build.specs.Categories.{Category, categories, keys_of, colors_of}
use Rattle.categoric_lists.specs.Whole.{whole}
use Rattle.categoric_build.specs.Table.{table_size, table}
use Rattle.categoric_lists.specs.Range.{range_count, too_wide, count_is, range_keys}
use Rattle.categoric_lists.specs.Keys.{keys_refusal}
use Rattle.categoric_build.specs.forms.Insertion.{HoldsCategories}
use Rattle.catgegoric.specs.Made.{record_of, record_unless, many_refusal, values_refusal, wide_refusal, value_range_refusal, for_values, for_values_from_ramp, for_value_range, for_value_range_from_ramp}
use Rattle.categoric_lists.proofs.Numbers.{up_to}
use Rattle.categoric_build.proofs.Inserting.{counted}

-- ---- the record
-- the arrays that hold some categories, with the table of what is counted in them
pub recorded : {cs : List Category} {keys : List ℤ} {colors : List ℕ} {count : ℕ} → HoldsCategories cs keys colors count
    → ◌≡◌ {A =
    CategoricNumeric} (record {
      keys = keys;
      colors = colors;
      count = count;
      lookup = padded 0 513 (table (take count keys) (take count colors));
      lookup_count = table_size (take count keys);
    }) (record_of cs)
unfolding record_of
recorded {cs} {keys} {colors} {count} s =
    let k : take count keys ≡ keys_of cs = counted s in
    let l : take count colors ≡ colors_of cs = ap₂ take (s.count-is ∙ sym (length-map cs (λ c. c.color))) s.colors_are ∙ take-padded 0 256 (colors_of cs) in
    ap₂ (λ (a : List ℤ) (b : List ℕ). record { keys = keys; colors = colors; count = count; lookup = padded 0 513 (table a b); lookup_count = table_size a }) k
    l
    ∙ ap₂ (λ (a : List ℤ) (b : List ℕ). record
    { keys = a; colors = b; count = count; lookup = padded 0 513 (table (keys_of cs) (colors_of cs)); lookup_count = table_size (keys_of cs) }) s.keys_are
    s.colors_are
    ∙ ap (λ (n : ℕ). record {
      keys = padded (pos 0) 256 (keys_of cs);
      colors = padded 0 256 (colors_of cs);
      count = n;
      lookup = padded 0 513 (table (keys_of cs) (colors_of cs));
      lookup_count = table_size (keys_of cs);
    }) s.count-is

-- ---- the checks before that of the keys
-- the checks F, then the rest
abbrev Checks : (Answer → Answer) → Type 0
Checks F = (rest : Answer) → F rest ≡ if_done (F (Ok tt)) rest (F (Ok tt))

check : (b : Bool) (why : Refusal) → Checks (refuse_if b why)
check true why rest = refl
check false why rest = refl

then : (F G : Answer → Answer) → Checks F → Checks G → Checks (λ rest. F (G rest))
then F G f g rest =
    f (G rest) ∙ ap (λ (b : Answer). if_done (F (Ok tt)) b (F (Ok tt))) (g rest) ∙ both (F (Ok tt)) (G (Ok tt)) ∙ sym (ap (λ (x : Answer). if_done x rest x) (f (G (Ok tt))))
  where
    both : (x y : Answer) → if_done x (if_done y rest y) x ≡ if_done (if_done x y x) rest (if_done x y x)
    both (Ok _) y = refl
    both (Err why) y = refl

pub many_checks : (count : ℕ) → Checks (many_refusal count)
unfolding many_refusal
many_checks count = check (ltb 256 count) TooManyCategories

pub values_checks : (count colors : ℕ) → Checks (values_refusal count colors)
unfolding values_refusal
values_checks count colors =
    then (many_refusal count) (refuse_if (not (eqb count colors)) ColorCountDiffers) (many_checks count) (check (not (eqb count colors)) ColorCountDiffers)

pub wide_checks : (start end : ℤ) → Checks (wide_refusal start end)
unfolding wide_refusal
wide_checks start end =
    then (refuse_if (too_wide start end) RangeTooWide) (refuse_if (lt_z (pos 256) (range_count start end)) TooManyCategories)
    (check (too_wide start end) RangeTooWide) (check (lt_z (pos 256) (range_count start end)) TooManyCategories)

pub range_checks : (start end : ℤ) (colors : ℕ) → Checks (value_range_refusal start end colors)
unfolding value_range_refusal
range_checks start end colors =
    then (wide_refusal start end) (refuse_if (not (count_is (range_count start end) colors)) ColorCountDiffers)
    (wide_checks start end) (check (not (count_is (range_count start end) colors)) ColorCountDiffers)

module _ (F : Answer → Answer) (checks : Checks F) (rest : Answer) where
  -- what they refuse stays
  pub stopped : {b : Answer} {why : Refusal} → b ≡ F (Ok tt) → b ≡ Err why → b ≡ F rest
  stopped e f = e ∙ sym (checks rest ∙ when_refused rest (F (Ok tt)) (sym e ∙ f))

  pub cleared : F (Ok tt) ≡ Ok tt → F rest ≡ rest
  cleared e = checks rest ∙ when_done rest (F (Ok tt)) e

  -- nothing is refused: neither by them nor by the rest
  all_clear : F rest ≡ Ok tt → (F (Ok tt) ≡ Ok tt) × (rest ≡ Ok tt)
  all_clear e = go (F (Ok tt)) refl (sym (checks rest) ∙ e)
    where
      go : (x : Answer) → F (Ok tt) ≡ x → if_done (F (Ok tt)) rest (F (Ok tt)) ≡ Ok tt → (F (Ok tt) ≡ Ok tt) × (rest ≡ Ok tt)
      go (Ok _) f h = (f, sym (when_done rest (F (Ok tt)) f) ∙ h)
      go (Err why) f h = not_done (sym (when_refused rest (F (Ok tt)) f ∙ f) ∙ h)

-- what the checks refuse, and the record made of the keys and colours past them
module _ (F : Answer → Answer) (checks : Checks F) (keys : List ℤ) (colors : List ℕ) where
  pub refused : {why : Refusal} → F (Ok tt) ≡ Err why → Err why ≡ record_unless (F (keys_refusal keys)) keys colors
  unfolding record_unless
  refused e = sym (not_made (record_of (categories keys colors)) (sym (stopped F checks (keys_refusal keys) (sym e) refl)))

  pub built : {given : List ℤ} {words : List ℕ} {r : Result CategoricNumeric Refusal} → F (Ok tt) ≡ Ok tt
      → given ≡ keys → words ≡ colors → r ≡ record_unless (keys_refusal given) given words → r ≡ record_unless (F (keys_refusal keys)) keys colors
  built e k l m =
      m ∙ ap₂ (λ a b. record_unless (keys_refusal a) a b) k l ∙ ap (λ a. record_unless a keys colors) (sym (cleared F checks (keys_refusal keys) e))

-- the checks of a range that is too wide, or has too many keys, before others
pub wide_stopped : (start end : ℤ) (rest : Answer) {why : Refusal} → wide_refusal start end (Ok tt) ≡ Err why → wide_refusal start end rest ≡ Err why
wide_stopped start end rest e = sym (stopped (wide_refusal start end) (wide_checks start end) rest (sym e) refl)

pub wide_cleared : (start end : ℤ) (rest : Answer) → wide_refusal start end (Ok tt) ≡ Ok tt → wide_refusal start end rest ≡ rest
wide_cleared start end rest e = cleared (wide_refusal start end) (wide_checks start end) rest e

pub values_refused : (values : List ℤ) (colors : List ℕ) {why : Refusal} → values_refusal (length values) (length colors) (Ok tt) ≡ Err why
    → for_values values colors ≡ Err why
values_refused values colors e = sym (refused (values_refusal (length values) (length colors)) (values_checks (length values) (length colors)) values colors e)

pub values_ramp_refused : (values : List ℤ) (cmap : List ℕ) {why : Refusal} → many_refusal (length values) (Ok tt) ≡ Err why
    → for_values_from_ramp values cmap ≡ Err why
values_ramp_refused values cmap e = sym (refused (many_refusal (length values)) (many_checks (length values)) values (ramp_colors (length values) cmap) e)

pub range_refused : (start end : ℤ) (colors : List ℕ) {why : Refusal} → value_range_refusal start end (length colors) (Ok tt) ≡ Err why
    → for_value_range start end colors ≡ Err why
range_refused start end colors e =
    sym (refused (value_range_refusal start end (length colors)) (range_checks start end (length colors)) (range_keys start end) colors e)

pub range_ramp_refused : (start end : ℤ) (cmap : List ℕ) {why : Refusal} → wide_refusal start end (Ok tt) ≡ Err why
    → for_value_range_from_ramp start end cmap ≡ Err why
range_ramp_refused start end cmap e =
    sym (refused (wide_refusal start end) (wide_checks start end) (range_keys start end) (ramp_colors (whole (range_count start end)) cmap) e)

-- ---- what the checks leave
pub few : (count : ℕ) → many_refusal count (Ok tt) ≡ Ok tt → count ≤ 256
unfolding many_refusal
few count e = ltb-false 256 count (passed (ltb 256 count) TooManyCategories (Ok tt) e).0

module _ (count colors : ℕ) (e : values_refusal count colors (Ok tt) ≡ Ok tt) where
  clear : (many_refusal count (Ok tt) ≡ Ok tt) × (refuse_if (not (eqb count colors)) ColorCountDiffers (Ok tt) ≡ Ok tt)
  unfolding values_refusal
  clear = all_clear (many_refusal count) (many_checks count) (refuse_if (not (eqb count colors)) ColorCountDiffers (Ok tt)) e

  pub values_few : count ≤ 256
  values_few = few count clear.0

  pub values_match : count ≡ colors
  values_match = eqb-true count colors (not-false (eqb count colors) (passed (not (eqb count colors)) ColorCountDiffers (Ok tt) clear.1).0)

module _ (start end : ℤ) (e : wide_refusal start end (Ok tt) ≡ Ok tt) where
  wide_clear : (too_wide start end ≡ false) × (refuse_if (lt_z (pos 256) (range_count start end)) TooManyCategories (Ok tt) ≡ Ok tt)
  unfolding wide_refusal
  wide_clear = passed (too_wide start end) RangeTooWide (refuse_if (lt_z (pos 256) (range_count start end)) TooManyCategories (Ok tt)) e

  pub wide-narrow : too_wide start end ≡ false
  wide-narrow = wide_clear.0

  pub wide_few : whole (range_count start end) ≤ 256
  wide_few = up_to (range_count start end) 256 (passed (lt_z (pos 256) (range_count start end)) TooManyCategories (Ok tt) wide_clear.1).0

module _ (start end : ℤ) (colors : ℕ) (e : value_range_refusal start end colors (Ok tt) ≡ Ok tt) where
  range_clear : (wide_refusal start end (Ok tt) ≡ Ok tt) × (refuse_if (not (count_is (range_count start end) colors)) ColorCountDiffers (Ok tt) ≡ Ok tt)
  unfolding value_range_refusal
  range_clear = all_clear (wide_refusal start end) (wide_checks start end) (refuse_if (not (count_is (range_count start end) colors)) ColorCountDiffers (Ok tt)) e

  pub range-wide : wide_refusal start end (Ok tt) ≡ Ok tt
  range-wide = range_clear.0

  pub range_match : whole (range_count start end) ≡ colors
  range_match =
      same (range_count start end)
      (not-false (count_is (range_count start end) colors) (passed (not (count_is (range_count start end) colors)) ColorCountDiffers (Ok tt) range_clear.1).0)
    where
      same : (z : ℤ) → count_is z colors ≡ true → whole z ≡ colors
      same (pos n) h = eqb-true n colors h
      same (negsuc n) h = absurd (true≢false (sym h))

-- the counted places of an array that holds a list
pub counted_list : {A : Type 0} (z : A) (n count : ℕ) (xs : List A) {a : List A} → count ≡ length xs → a ≡ padded z n xs → take count a ≡ xs
counted_list z n count xs e p = ap₂ take e p ∙ take-padded z n xs

-- and how many they are
pub counted_length : {A : Type 0} (z : A) (n count : ℕ) (xs : List A) {a : List A} → count ≡ length xs → count ≤ n → a ≡ padded z n xs
    → (count ≤ length a) × (count ≡ length (take count a))
counted_length z n count xs e h p =
    (omega (arith, ap length p, length-padded z n xs (omega arith)), e ∙ sym (ap length (counted_list z n count xs e p)))

pub length-ramp : (count : ℕ) (cmap : List ℕ) → length (ramp_colors count cmap) ≡ count
unfolding ramp_colors
length-ramp count cmap = length-tabulate count (λ k. entry_color cmap (plain_entry (position count k)))
