-- What follows where the writer refuses nothing. Assumes nothing.
use Rattle.std.specs.Prelude.{Ok}
use Rattle.refusal.specs.Outcome.{Answer, refuse_if, first_of}
use Prim.Native.Nat.{ℕ, ◌≤◌}
use mathlib.Core.Path.{◌≡◌}
use mathlib.Core.Bool.{not, ◌||◌}
use borrow.Author.Tests.{ltb-false}
use lib.Dec.{ltb}
use Rattle.refusal.specs.declared.Refusal.TheVariants.{CountAboveCapacity, CardTooLong}
use Rattle.refusal.proofs.Outcomes.{passed, first_done}
use Rattle.legend.specs.declared.Legend.{Legend}
use Rattle.legend.specs.Record.{stored_refusal}
use Rattle.legend.proofs.Stored.{neither}
use Rattle.card_layout.specs.Stored.{in_order}
use Rattle.card_layout.specs.Refusals.{bounds_refusal}
use Rattle.card_write.specs.forms.Length.{card_length, lengths_refusal}

module _ (title : ℕ) (l : Legend) (capacity : ℕ) where
  -- the checks behind each
  abbrev long : Answer
  long = refuse_if (ltb 255 title || ltb capacity (card_length title l)) CardTooLong (Ok tt)

  abbrev bounds : Answer
  bounds = first_of (bounds_refusal l) long

  abbrev ordered : Answer
  ordered = refuse_if (not (in_order l)) CountAboveCapacity bounds

  -- ---- where nothing is refused
  pub nothing_refused : lengths_refusal title l capacity ≡ Ok tt → (stored_refusal l ≡ Ok tt) × (title ≤ 255) × (card_length title l ≤ capacity)
  unfolding lengths_refusal
  nothing_refused e =
      let stored = first_done (stored_refusal l) ordered e in
      let order = passed (not (in_order l)) CountAboveCapacity bounds stored.1 in
      let range = first_done (bounds_refusal l) long order.1 in
      let short = passed (ltb 255 title || ltb capacity (card_length title l)) CardTooLong (Ok tt) range.1 in
      let fits = neither (ltb 255 title) (ltb capacity (card_length title l)) short.0 in
      (stored.0, ltb-false 255 title fits.0, ltb-false capacity (card_length title l) fits.1)
