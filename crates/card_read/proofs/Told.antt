-- What a card that keeps to the layout tells: its title and its fields are there, and how many entries it has in how many bytes, by kind. Assumes nothing.
use Rattle.std.specs.Prelude.{Ok}
use Prim.Native.Nat.{ℕ, ◌+◌, ◌*◌, ◌≤◌}
use mathlib.Core.Path.{◌≡◌, refl, sym, ap, ◌∙◌}
use mathlib.Core.Bool.{true, not, ◌&&◌}
use mathlib.Core.List.{List}
use native.Mathlib.Omega.{arith}
use borrow.Author.Tests.{ltb-true, leb-true, eqb-true, not-false}
use lib.Dec.{leb, eqb}
use lib.ListN.{length, drop, length-drop}
use Rattle.refusal.specs.declared.Refusal.TheVariants.{CardUnknown, CardMalformed}
use Rattle.refusal.specs.Outcome.{refuse_if}
use Rattle.refusal.proofs.Outcomes.{passed}
use Rattle.categoric_lists.proofs.Numbers.{both}
use Rattle.legend.specs.declared.LegendKind.{LegendKind}
use Rattle.legend.specs.declared.LegendKind.TheVariants as kind
use Rattle.legend.specs.Record.{kind_numbered}
use Rattle.card_bytes.specs.Numbers.{number_at}
use Rattle.card_layout.specs.Fields.{title_length, after_title}
use Rattle.card_layout.specs.Entries.{bounds_canonical}
use Rattle.card_layout.specs.Cards.{entries_fit_in, legend_in}
use Rattle.card_layout.specs.Refusals.{known, well_formed, bounds_refusal, read_refusal}
use Rattle.card_read.proofs.Found.{from_on, settings_fit_at, fits_at, by_entries}

-- at most so many entries, 12 bytes each
abbrev pub Counted : (most count : ℕ) (entries : List ℕ) → Type 0
Counted most count entries = (count ≤ most) × (length entries ≡ 12 * count)

abbrev pub Told : LegendKind → (count : ℕ) (entries : List ℕ) → Type 0
Told kind.Linear count entries = length entries ≡ 1032
Told kind.Banded count entries = Counted 64 count entries
Told kind.CategoricNumeric count entries = Counted 256 count entries

counted : (most count : ℕ) (entries : List ℕ) → (leb count most && eqb (length entries) (12 * count)) ≡ true → Counted most count entries
counted most count entries e =
    let t = both (leb count most) (eqb (length entries) (12 * count)) e in
    (leb-true count most t.0, eqb-true (length entries) (12 * count) t.1)

entries_told : (k : LegendKind) (count : ℕ) (entries : List ℕ) → entries_fit_in k count entries ≡ true → Told k count entries
entries_told kind.Linear count entries e =
    let t = both (eqb count 256 && eqb (length entries) 1032) (bounds_canonical entries) e in
    eqb-true (length entries) 1032 (both (eqb count 256) (eqb (length entries) 1032) t.0).1
entries_told kind.Banded count entries e = counted 64 count entries (both _ _ e).0
entries_told kind.CategoricNumeric count entries e = counted 256 count entries (both _ _ e).0

module _ (card : List ℕ) (e : well_formed card ≡ true) where
  pub rest_told : {rest : List ℕ} → rest ≡ after_title card → 15 ≤ length rest
  unfolding well_formed
  rest_told is = omega (arith, ap length is, ltb-true 14 (length (after_title card)) (both _ _ e).0)

  -- the title is there, and with it the byte of the kind
  pub title_told : 7 + title_length card ≤ length card
  title_told = omega (arith, rest_told refl, length-drop (7 + title_length card) card)

  pub told : (k : LegendKind) → k ≡ kind_numbered (number_at 5 1 card) → Told k (number_at 13 2 (after_title card)) (drop 15 (after_title card))
  told k is =
      let s = (both (settings_fit_at (after_title card)) _ (sym (fits_at card (rest_told refl)) ∙ e)).0 in
      entries_told k (number_at 13 2 (after_title card)) (drop 15 (after_title card)) (sym (by_entries card (rest_told refl) k is s) ∙ e)

-- ---- for the check's own search: the same, by the card alone
pub rest_long : (card : List ℕ) → well_formed card ≡ true → 15 ≤ length (after_title card)
rest_long card e = rest_told card e refl

pub title_there : (card : List ℕ) → well_formed card ≡ true → 7 + title_length card ≤ length card
title_there card e = title_told card e

module _ (card : List ℕ) (e : well_formed card ≡ true) where
  pub long_linear : kind.Linear ≡ kind_numbered (number_at 5 1 card) → length (drop 15 (after_title card)) ≡ 1032
  long_linear is = told card e kind.Linear is

  pub few_bands : kind.Banded ≡ kind_numbered (number_at 5 1 card) → number_at 13 2 (after_title card) ≤ 64
  few_bands is = (told card e kind.Banded is).0

  pub long_bands : kind.Banded ≡ kind_numbered (number_at 5 1 card) → length (drop 15 (after_title card)) ≡ 12 * number_at 13 2 (after_title card)
  long_bands is = (told card e kind.Banded is).1

  pub few_categories : kind.CategoricNumeric ≡ kind_numbered (number_at 5 1 card) → number_at 13 2 (after_title card) ≤ 256
  few_categories is = (told card e kind.CategoricNumeric is).0

  pub long_categories : kind.CategoricNumeric ≡ kind_numbered (number_at 5 1 card)
      → length (drop 15 (after_title card)) ≡ 12 * number_at 13 2 (after_title card)
  long_categories is = (told card e kind.CategoricNumeric is).1

pub ruleset telling = (from_on, rest_long, title_there, long_linear, few_bands, long_bands, few_categories, long_categories)

-- a card that is not refused keeps to the layout
pub not_refused : (card : List ℕ) → read_refusal card ≡ Ok tt → well_formed card ≡ true
unfolding read_refusal
not_refused card e =
    let bounds = bounds_refusal (legend_in card) in
    let rest = (passed (not (known card)) CardUnknown (refuse_if (not (well_formed card)) CardMalformed bounds) e).1 in
    not-false (well_formed card) (passed (not (well_formed card)) CardMalformed bounds rest).0
