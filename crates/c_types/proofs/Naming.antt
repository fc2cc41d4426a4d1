-- A result that fits what arguments are known to be fits the arguments. Assumes nothing.
use mathlib.Core.Path.{◌≡◌, sym, ap, ◌∙◌}

pub known : {A B : Type 0} (f : A → B) {r : B} {a b : A} → a ≡ b → r ≡ f b → r ≡ f a
known f e h = h ∙ sym (ap f e)

pub with_both : {A B C : Type 0} (u : A → B → C) {r : C} {a a' : A} {b b' : B} → r ≡ u a b → a ≡ a' → b ≡ b' → r ≡ u a' b'
with_both u e f h = e ∙ (λ j. u (f j) (h j))
