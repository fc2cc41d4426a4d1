-- Entries read one by one from their places: a number at the start of a part, and a field of each entry. Assumes nothing.
use Prim.Native.Nat.{ℕ, ◌+◌, ◌*◌}
use mathlib.Core.Path.{◌≡◌, refl, sym}
use mathlib.Core.List.{List, map}
use lib.ListN.{drop}
use Rattle.lists.specs.Tabulate.{tabulate}
use Rattle.lists.proofs.Entries.{map_rule}
use Rattle.card_bytes.specs.Numbers.{number_at}
use Rattle.card_bytes.specs.Entries.{entries_in}
use Rattle.card_bytes.proofs.Numbers.{number_at-drop}
use Rattle.card_bytes.proofs.Entries.{length-entries_in}

-- a number from a place on starts the part from there on
pub number_here : (at w : ℕ) (bytes : List ℕ) → number_at at w bytes ≡ number_at 0 w (drop at bytes)
unfolding number_at
number_here at w bytes = refl

pub number_past : (b a w : ℕ) (bytes : List ℕ) → number_at (b + a) w bytes ≡ number_at a w (drop b bytes)
number_past b a w bytes = sym (number_at-drop b a w bytes)

-- for the check's own search
pub ruleset places = (number_here, number_past)

module _ {A : Type 0} (w n : ℕ) (read : List ℕ → A) (bytes : List ℕ) where
  -- a field of each
  pub field_of_each : {B : Type 0} (g : A → B) → tabulate n (λ k. g (read (drop (w * k) bytes))) ≡ map g (entries_in w n read bytes)
  unfolding entries_in
  field_of_each g = sym (map_rule g n (λ k. read (drop (w * k) bytes)))

pub ruleset counted_entries = (length-entries_in)
