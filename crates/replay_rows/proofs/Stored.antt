-- An array of n places of z into whose places 0, 1, .. a loop stores what a rule gives: before the first, with one more, and with all. Assumes nothing.
use mathlib.Core.List.{List, [], ◌∷◌, ◌++◌}
use mathlib.Core.Path.{◌≡◌, sym, ap, ◌∙◌}
use Prim.Native.Nat.{ℕ, ◌+◌, ◌-◌, ◌<◌}
use lib.ListN.{drop, set, replicate}
use Rattle.std.proofs.lemmas.List.{drop-replicate}
use Rattle.lists.specs.Padded.{padded}
use Rattle.lists.specs.Tabulate.{tabulate}
use Rattle.lists.proofs.Padding.{padded-none, padded-full, padded_more, tabulate_more}
use Rattle.lists.proofs.Tabulated.{length-tabulate}

module _ {A : Type 0} (z : A) (n : ℕ) (f : ℕ → A) where
  pub stored_none : padded z n (tabulate 0 f) ≡ replicate n z
  unfolding tabulate
  stored_none = padded-none z n

  pub stored_more : (i : ℕ) (x : A) → i < n → x ≡ f i → set (padded z n (tabulate i f)) i x ≡ padded z n (tabulate (i + 1) f)
  stored_more i x h e =
      padded_more z n (tabulate i f) x i (length-tabulate i f) h ∙ ap (λ (y : A). padded z n (tabulate i f ++ (y ∷ []))) e
      ∙ ap (padded z n) (sym (tabulate_more i f))

  pub stored_all : (m : ℕ) → m ≡ n → padded z n (tabulate m f) ≡ tabulate n f
  stored_all m e = ap (λ (k : ℕ). padded z n (tabulate k f)) e ∙ padded-full z n (tabulate n f) (length-tabulate n f)

  -- the first m at once
  pub stored_front : (m : ℕ) → padded z n (tabulate m f) ≡ tabulate m f ++ drop m (replicate n z)
  unfolding padded
  stored_front m =
      ap (λ (r : List A). tabulate m f ++ r)
      (ap (λ (k : ℕ). replicate (n - k) z) (length-tabulate m f) ∙ sym (drop-replicate m n z))

pub ruleset storing = (stored_none, stored_more, stored_all)
