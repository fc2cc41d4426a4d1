-- Room for n more in each count (`has_room`): at one count, and as the code tests them. Assumes nothing.
use Prim.Native.Nat.{ℕ, ◌+◌, ◌-◌, ◌^◌, ◌<◌}
use mathlib.Core.Path.{◌≡◌, refl, sym, ap, ap₂, ◌∙◌}
use mathlib.Core.Bool.{true, ◌&&◌}
use mathlib.Core.List.{List, [], ◌∷◌}
use Rattle.std.specs.List.{list_all}
use mathlib.Core.Logic.{inl, inr}
use native.Mathlib.Omega.{arith}
use borrow.Author.Tests.{ltb-true, lt-ltb, le-ltb, le-leb, lt-leb}
use lib.Dec.{leb, ltb}
use lib.ListN.{length, get_or}
use Rattle.lists.specs.Each.{each}
use Rattle.lists.proofs.Numbers.{lt_or_le}
use Rattle.lists.proofs.Tabulated.{tabulate_own}
use Rattle.lists.proofs.Each.{each_told}
use Rattle.tally.specs.Counts.{has_room}

-- at the count of k
pub room_at : (counts : List ℕ) (n : ℕ) → has_room counts n ≡ true → (k : ℕ) → k < length counts → get_or counts k 0 + n < 2 ^ 64
unfolding has_room
room_at counts n e k h =
    ltb-true (get_or counts k 0 + n) (2 ^ 64)
    (each_told (λ c. ltb (c + n) (2 ^ 64)) (length counts) (λ j. get_or counts j 0) (ap (λ (cs : List ℕ). has_room cs n) (tabulate_own 0 counts) ∙ e) k h)

-- the code's test of a count, which does not wrap
room_test : (c n : ℕ) → n < 2 ^ 64 → leb c (2 ^ 64 - 1 - n) ≡ ltb (c + n) (2 ^ 64)
room_test c n f =
    elim (lt_or_le (c + n) (2 ^ 64)) [
      | inl h ↦ le-leb c (2 ^ 64 - 1 - n) (omega arith) ∙ sym (lt-ltb (c + n) (2 ^ 64) h)
      | inr h ↦ lt-leb c (2 ^ 64 - 1 - n) (omega arith) ∙ sym (le-ltb (c + n) (2 ^ 64) h)
    ]

-- the code's test of each count
pub room_all : (counts : List ℕ) (n : ℕ) → n < 2 ^ 64 → list_all (λ c. leb c (2 ^ 64 - 1 - n)) counts ≡ has_room counts n
unfolding has_room each
room_all [] n f = refl
room_all (c ∷ cs) n f = ap₂ ◌&&◌ (room_test c n f) (room_all cs n f)
