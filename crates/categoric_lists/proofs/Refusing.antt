-- The refusal of a key, as the search for it goes. Assumes nothing.
use Rattle.std.specs.Prelude.{Ok, Err}
use mathlib.Core.Bool.{Bool, true, false}
use mathlib.Core.List.{List}
use mathlib.Core.Path.{◌≡◌, sym, ap, ◌∙◌}
use Prim.Native.Nat.{ℕ, suc, ◌+◌, ◌≤◌, ◌<◌}
use native.Mathlib.Numerals.{add-one}
use lib.IntN.{ℤ, pos}
use lib.ListN.{length, get_or, drop, drop_of_length-le}
use lib.Seq.{drop-cons}
use Rattle.refusal.specs.declared.Refusal.TheVariants.{KeyOutOfRange}
use Rattle.refusal.specs.Outcome.{refuse_if}
use Rattle.categoric_lists.specs.Keys.{outside, outside_from, keys_refusal}

-- ---- the first key outside
module _ (keys : List ℤ) (i : ℕ) (so_far : keys_refusal keys ≡ outside_from i (drop i keys)) where
  here : i < length keys → keys_refusal keys ≡ refuse_if (outside (get_or keys i (pos 0))) (KeyOutOfRange i) (outside_from (suc i) (drop (suc i) keys))
  unfolding outside_from
  here h = so_far ∙ ap (outside_from i) (drop-cons keys i (pos 0) h)

  pub key_refused : i < length keys → outside (get_or keys i (pos 0)) ≡ true → Err (KeyOutOfRange i) ≡ keys_refusal keys
  key_refused h e = sym (here h ∙ ap (λ (t : Bool). refuse_if t (KeyOutOfRange i) (outside_from (suc i) (drop (suc i) keys))) e)

  pub key_passed : i < length keys → outside (get_or keys i (pos 0)) ≡ false → keys_refusal keys ≡ outside_from (i + 1) (drop (i + 1) keys)
  key_passed h e = rw add-one (here h ∙ ap (λ (t : Bool). refuse_if t (KeyOutOfRange i) (outside_from (suc i) (drop (suc i) keys))) e)

  pub keys_passed : length keys ≤ i → (Ok tt) ≡ keys_refusal keys
  unfolding outside_from
  keys_passed h = sym (so_far ∙ ap (outside_from i) (drop_of_length-le keys {i = i} h))
