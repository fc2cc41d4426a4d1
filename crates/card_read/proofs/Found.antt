-- What is found on a card: what follows the title, the kind, the count and the entries; and the test of the card and its legend by these. Assumes nothing.
use Prim.Native.Nat.{ℕ, ◌+◌, ◌-◌, ◌≤◌, ◌<◌}
use mathlib.Core.Path.{◌≡◌, sym, ap, ◌∙◌}
use mathlib.Core.Bool.{Bool, true, false, ◌&&◌}
use mathlib.Core.List.{List}
use native.Mathlib.Omega.{arith}
use borrow.Author.Tests.{lt-ltb, le-ltb}
use lib.ListN.{length, take, drop, length-drop}
use borrow.Author.Rules.{part_to_end}
use Rattle.colormapper.specs.declared.MappingConfig.{MappingConfig}
use Rattle.legend.specs.declared.LegendKind.{LegendKind}
use Rattle.legend.specs.Record.{kind_numbered}
use Rattle.card_bytes.specs.Numbers.{number_at}
use Rattle.card_layout.specs.Fields.{title_length, after_title, fields_in}
use Rattle.card_layout.specs.Settings.{settings_in, settings_fit}
use Rattle.card_layout.specs.Cards.{entries_fit_in, legend_from, fields_fit, legend_of, legend_in}
use Rattle.card_layout.specs.Refusals.{well_formed}

-- a slice from a place on
pub from_on : {l r : List ℕ} (start : ℕ) → l ≡ r → take (length l - start) (drop start l) ≡ drop start r
from_on {l} start e = part_to_end l start ∙ ap (drop start) e

-- the settings, by their places in what follows the title
abbrev pub settings_fit_at : (rest : List ℕ) → Bool
settings_fit_at rest = settings_fit (number_at 4 1 rest) (number_at 5 4 rest) (number_at 9 4 rest)

abbrev pub settings_at : (rest : List ℕ) → MappingConfig
settings_at rest = settings_in (number_at 0 4 rest) (number_at 4 1 rest) (number_at 5 4 rest) (number_at 9 4 rest)

-- the kind, the count and the entries, by theirs
abbrev entries_fit_on : (card : List ℕ) → Bool
entries_fit_on card = entries_fit_in (kind_numbered (number_at 5 1 card)) (number_at 13 2 (after_title card)) (drop 15 (after_title card))

-- where the fields are there, the settings and the entries decide
pub fits_at : (card : List ℕ) → 15 ≤ length (after_title card) → well_formed card ≡ (settings_fit_at (after_title card) && entries_fit_on card)
unfolding well_formed fields_fit fields_in
fits_at card h = ap (λ (t : Bool). t && fields_fit (fields_in card)) (lt-ltb 14 (length (after_title card)) h)

-- ---- the test
pub too_short : (card : List ℕ) → length (after_title card) < 15 → well_formed card ≡ false
unfolding well_formed
too_short card h = ap (λ (t : Bool). t && fields_fit (fields_in card)) (le-ltb 14 (length (after_title card)) (omega arith))

module _ (card : List ℕ) (h : 15 ≤ length (after_title card)) where
  pub misfit_settings : settings_fit_at (after_title card) ≡ false → well_formed card ≡ false
  misfit_settings e = fits_at card h ∙ ap (λ (t : Bool). t && entries_fit_on card) e

  pub by_entries : (k : LegendKind) → k ≡ kind_numbered (number_at 5 1 card) → settings_fit_at (after_title card) ≡ true
      → well_formed card ≡ entries_fit_in k (number_at 13 2 (after_title card)) (drop 15 (after_title card))
  by_entries k is e =
      fits_at card h ∙ ap (λ (t : Bool). t && entries_fit_on card) e
      ∙ ap (λ (x : LegendKind). entries_fit_in x (number_at 13 2 (after_title card)) (drop 15 (after_title card))) (sym is)

-- ---- the legend
pub by_legend : (card : List ℕ) (k : LegendKind) → k ≡ kind_numbered (number_at 5 1 card)
    → legend_in card ≡ legend_from k (number_at 13 2 (after_title card)) (drop 15 (after_title card)) (settings_at (after_title card))
unfolding legend_in legend_of fields_in
by_legend card k is =
    ap (λ (x : LegendKind). legend_from x (number_at 13 2 (after_title card)) (drop 15 (after_title card)) (settings_at (after_title card))) (sym is)

-- for the check's own search
pub title_before : (card : List ℕ) → length (after_title card) ≡ length card - (7 + title_length card)
title_before card = length-drop (7 + title_length card) card

pub ruleset misfits = (too_short, misfit_settings, title_before)
