-- The mark of a card, and a loop that lays entries one after the other. Assumes nothing.
use Prim.Native.Nat.{ℕ, ◌+◌, ◌*◌, ◌≤◌, ◌<◌}
use mathlib.Core.Path.{◌≡◌, refl, sym, ap, ◌∙◌}
use mathlib.Core.List.{List, [], ◌∷◌, ◌++◌}
use lib.ListN.{length, get_or, take, length-append}
use lib.Seq.{length-take-le}
use Rattle.std.proofs.lemmas.List.{take_more}
use Rattle.banded_columns.specs.declared.LegendBand.{LegendBand}
use Rattle.card_layout.specs.Fields.{mark}
use Rattle.card_layout.specs.Entries.{band_bytes}
use Rattle.card_write.proofs.Behind.{overwritten_after}
use Rattle.card_write.proofs.Lengths.{length-band}
use Rattle.card_bytes.specs.Numbers.{bytes_of, overwritten}
use Rattle.card_bytes.specs.Entries.{entries_of}
use Rattle.card_bytes.proofs.Numbers.{length-bytes_of}
use Rattle.card_bytes.proofs.Overwriting.{overwritten_nothing}
use Rattle.card_bytes.proofs.Entries.{entries_of_more, length-entries_of}

-- the mark's three bytes
pub mark_bytes : (76 ∷ 71 ∷ 67 ∷ []) ≡ bytes_of 3 mark
unfolding bytes_of
mark_bytes = refl

-- ---- a loop that lays entries: none, and one more
module _ {A : Type 0} where
  pub no_entries : (at : ℕ) (write : A → List ℕ) (l : List ℕ) → overwritten at (entries_of write []) l ≡ l
  unfolding entries_of
  no_entries at write l = overwritten_nothing at l

  pub entries_more : (write : A → List ℕ) (xs : List A) (i : ℕ) (d : A) → i < length xs
      → entries_of write (take i xs) ++ write (get_or xs i d) ≡ entries_of write (take (i + 1) xs)
  entries_more write xs i d h = sym (ap (entries_of write) (take_more xs i d h) ∙ entries_of_more write (take i xs) (get_or xs i d))

  length_first : (write : A → List ℕ) (w : ℕ) (xs : List A) (i : ℕ) → ((x : A) → length (write x) ≡ w) → i ≤ length xs
      → length (entries_of write (take i xs)) ≡ w * i
  length_first write w xs i wide h = length-entries_of w write (take i xs) wide ∙ ap (λ (k : ℕ). w * k) (length-take-le i xs h)

pub length_colors : (xs : List ℕ) (i : ℕ) → i ≤ length xs → length (entries_of (bytes_of 4) (take i xs)) ≡ 4 * i
length_colors xs i = length_first (bytes_of 4) 4 xs i (length-bytes_of 4)

pub length_bands : (xs : List LegendBand) (i : ℕ) → i ≤ length xs → length (entries_of band_bytes (take i xs)) ≡ 12 * i
length_bands xs i = length_first band_bytes 12 xs i length-band

pub ruleset laying = (overwritten_after, length-append, length-bytes_of)

pub ruleset laying_entries = (overwritten_after, no_entries, entries_more, length_colors, length_bands)
