-- A loop that stores what it reads of each entry in the places of an array: none, and one more. Assumes nothing.
use Prim.Native.Nat.{ℕ, ◌+◌, ◌*◌, ◌<◌}
use mathlib.Core.Path.{◌≡◌, sym, ap, ◌∙◌}
use mathlib.Core.List.{List, [], ◌∷◌, ◌++◌, map, map-append}
use lib.ListN.{drop, set, replicate, length-map}
use Rattle.lists.specs.Padded.{padded}
use Rattle.lists.proofs.Padding.{padded-none, padded-full, padded_more, tabulate_more}
use Rattle.card_bytes.specs.Entries.{entries_in}
use Rattle.card_bytes.proofs.Entries.{length-entries_in, entries_in-none}
use Rattle.card_read.proofs.Entries.{places}

module _ {A : Type 0} where
  -- one entry more
  pub entries_in_more : (w i : ℕ) (read : List ℕ → A) (bytes : List ℕ)
      → entries_in w (i + 1) read bytes ≡ entries_in w i read bytes ++ (read (drop (w * i) bytes) ∷ [])
  unfolding entries_in
  entries_in_more w i read bytes = tabulate_more i (λ k. read (drop (w * k) bytes))

  -- ---- the entries themselves
  pub none_stored : (z : A) (n w : ℕ) (read : List ℕ → A) (bytes : List ℕ) → padded z n (entries_in w 0 read bytes) ≡ replicate n z
  none_stored z n w read bytes = ap (padded z n) (entries_in-none w read bytes) ∙ padded-none z n

  pub one_stored : (z : A) (n w i : ℕ) (read : List ℕ → A) (bytes : List ℕ) (x : A) → x ≡ read (drop (w * i) bytes) → i < n
      → set (padded z n (entries_in w i read bytes)) i x ≡ padded z n (entries_in w (i + 1) read bytes)
  one_stored z n w i read bytes x e h =
      padded_more z n (entries_in w i read bytes) x i (length-entries_in w i read bytes) h
      ∙ ap (λ (y : A). padded z n (entries_in w i read bytes ++ (y ∷ []))) e ∙ ap (padded z n) (sym (entries_in_more w i read bytes))

  pub all_stored : (z : A) (n w : ℕ) (read : List ℕ → A) (bytes : List ℕ) → padded z n (entries_in w n read bytes) ≡ entries_in w n read bytes
  all_stored z n w read bytes = padded-full z n (entries_in w n read bytes) (length-entries_in w n read bytes)

  -- ---- a field of each
  module _ {B : Type 0} where
    pub no_field_stored : (z : B) (n w : ℕ) (g : A → B) (read : List ℕ → A) (bytes : List ℕ) → padded z n (map g (entries_in w 0 read bytes)) ≡ replicate n z
    no_field_stored z n w g read bytes = ap (λ (xs : List A). padded z n (map g xs)) (entries_in-none w read bytes) ∙ padded-none z n

    pub one_field_stored : (z : B) (n w i : ℕ) (g : A → B) (read : List ℕ → A) (bytes : List ℕ) (x : B) → x ≡ g (read (drop (w * i) bytes)) → i < n
        → set (padded z n (map g (entries_in w i read bytes))) i x ≡ padded z n (map g (entries_in w (i + 1) read bytes))
    one_field_stored z n w i g read bytes x e h =
        let xs = entries_in w i read bytes in
        padded_more z n (map g xs) x i (length-map xs g ∙ length-entries_in w i read bytes) h
        ∙ ap (λ (y : B). padded z n (map g xs ++ (y ∷ []))) e
        ∙ ap (padded z n) (sym (ap (map g) (entries_in_more w i read bytes) ∙ map-append g xs (read (drop (w * i) bytes) ∷ [])))

-- for the check's own search
pub ruleset storing_entries = (none_stored, one_stored, all_stored, places, entries_in-none)

pub ruleset storing_fields = (no_field_stored, one_field_stored, places)
