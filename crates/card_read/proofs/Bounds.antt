-- What 7 is asked of: the bounds of a linear card, and nothing of the others. Assumes nothing.
use Rattle.std.specs.Prelude.{Ok}
use Prim.Native.Nat.{ℕ, ◌+◌}
use mathlib.Core.Path.{◌≡◌, refl, sym, ap, ap₂, ◌∙◌}
use mathlib.Core.Bool.{Bool, true, false, cond, true≢false}
use mathlib.Core.List.{List}
use native.Mathlib.Omega.{arith}
use lib.Dec.{eqb}
use lib.Ieee.{Float}
use lib.ListN.{length, drop, length-drop}
use Rattle.words.specs.Values.{float_of}
use Rattle.colormapper.specs.declared.MappingConfig.{MappingConfig}
use Rattle.linear.specs.Made.{range_refusal}
use Rattle.legend.specs.declared.LegendKind.TheVariants as kind
use Rattle.legend.specs.Record.{kind_numbered}
use Rattle.card_bytes.specs.Numbers.{number_at}
use Rattle.card_bytes.proofs.Numbers.{number_at-drop}
use Rattle.card_layout.specs.Fields.{after_title, fields_in}
use Rattle.card_layout.specs.Entries.{linear_in}
use Rattle.card_layout.specs.Cards.{legend_from, legend_of, legend_in}
use Rattle.card_layout.specs.Refusals.{bounds_refusal, well_formed}
use Rattle.card_read.proofs.Found.{settings_at, by_legend}
use Rattle.card_read.proofs.Told.{told}

-- the kinds from 1 on
none : (zero one : Bool) (count : ℕ) (entries : List ℕ) (config : MappingConfig) → zero ≡ false
    → (Ok tt) ≡ bounds_refusal (legend_from (cond zero kind.Linear (cond one kind.Banded kind.CategoricNumeric)) count entries config)
unfolding bounds_refusal
none true one count entries config e = absurd (true≢false e)
none false true count entries config e = refl
none false false count entries config e = refl

pub no_bounds : (card : List ℕ) → eqb (number_at 5 1 card) 0 ≡ false → (Ok tt) ≡ bounds_refusal (legend_in card)
unfolding legend_in legend_of fields_in
no_bounds card e =
    let rest = after_title card in
    none (eqb (number_at 5 1 card) 0) (eqb (number_at 5 1 card) 1) (number_at 13 2 rest) (drop 15 rest) (settings_at rest) e

-- a linear card
module _ (card : List ℕ) (n : number_at 5 1 card ≡ 0) {rest : List ℕ} (is : rest ≡ after_title card) where
  linear : kind.Linear ≡ kind_numbered (number_at 5 1 card)
  linear = sym (ap kind_numbered n)

  pub linear-long : well_formed card ≡ true → length rest ≡ 1047
  linear-long e = omega (arith, ap length is, told card e kind.Linear linear, length-drop 15 (after_title card))

  place : (k : ℕ) → number_at (15 + k) 4 rest ≡ number_at k 4 (drop 15 (after_title card))
  place k = ap (number_at (15 + k) 4) is ∙ sym (number_at-drop 15 k 4 (after_title card))

  pub linear-bounds : {a b : Float} → a ≡ float_of (number_at 15 4 rest) → b ≡ float_of (number_at 19 4 rest)
      → range_refusal a b ≡ bounds_refusal (legend_in card)
  unfolding bounds_refusal linear_in
  linear-bounds e f = ap₂ range_refusal (e ∙ ap float_of (place 0)) (f ∙ ap float_of (place 4)) ∙ ap bounds_refusal (sym (by_legend card kind.Linear linear))
