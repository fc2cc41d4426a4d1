-- What follows from a call's answer: of its checks, and of what it gives. Assumes nothing.
use Rattle.std.specs.Prelude.{Ok, Err}
use mathlib.Core.Path.{◌≡◌, refl, ap}
use mathlib.Core.Bool.{Bool, true, false}
use native.Mathlib.Omega.{arith}
use Rattle.refusal.specs.declared.Refusal.{Refusal}
use Rattle.refusal.specs.declared.Refusal.TheVariants.{EmptyText, NotHexColor, NotHexByte, TooFewColors, TooManyColors, NoSuchPalette, StartAboveEnd}
use Rattle.refusal.specs.declared.Refusal.TheVariants.{TooManyBands, ColorCountDiffers, EmptyRange, TooManyCategories, RangeTooWide}
use Rattle.refusal.specs.declared.Refusal.TheVariants.{OutputLengthDiffers, NoSuchLaneCount, ScratchTooShort, CountAboveCapacity, KeyOutOfRange}
use Rattle.refusal.specs.declared.Refusal.TheVariants.{CardUnknown, CardMalformed, CardTooLong, BadFlag, BadKind}
use Rattle.refusal.specs.Outcome.{Answer, refuse_if, if_done, first_of, made_unless}
use Rattle.refusal.specs.Table.{answer_number}

abbrev refused : Refusal → Answer
refused why = Err why

-- a refusal is not done
pub not_done : {why : Refusal} {A : Type 0} → refused why ≡ Ok tt → A
not_done e = cc

-- where nothing is refused, no check applies
pub passed : (b : Bool) (why : Refusal) (rest : Answer) → refuse_if b why rest ≡ Ok tt → (b ≡ false) × (rest ≡ Ok tt)
passed true why rest e = not_done e
passed false why rest e = (refl, e)

pub when_done : {A : Type 0} {a : Answer} (made otherwise : A) → a ≡ Ok tt → if_done a made otherwise ≡ made
when_done made otherwise e = ap (λ x. if_done x made otherwise) e

pub when_refused : {A : Type 0} {a : Answer} {why : Refusal} (made otherwise : A) → a ≡ Err why → if_done a made otherwise ≡ otherwise
when_refused made otherwise e = ap (λ x. if_done x made otherwise) e

-- where neither of two checks applies
pub first_done : (a b : Answer) → first_of a b ≡ Ok tt → (a ≡ Ok tt) × (b ≡ Ok tt)
first_done (Ok _) b e = (refl, e)
first_done (Err why) b e = not_done e

-- no refusal has the number 0
numbered : (why : Refusal) → answer_number (Err why) ≡ 0 → ⊥
numbered EmptyText e = omega arith
numbered NotHexColor e = omega arith
numbered (NotHexByte i) e = omega arith
numbered TooFewColors e = omega arith
numbered TooManyColors e = omega arith
numbered NoSuchPalette e = omega arith
numbered StartAboveEnd e = omega arith
numbered TooManyBands e = omega arith
numbered ColorCountDiffers e = omega arith
numbered (EmptyRange i) e = omega arith
numbered TooManyCategories e = omega arith
numbered RangeTooWide e = omega arith
numbered OutputLengthDiffers e = omega arith
numbered NoSuchLaneCount e = omega arith
numbered ScratchTooShort e = omega arith
numbered CountAboveCapacity e = omega arith
numbered (KeyOutOfRange i) e = omega arith
numbered CardUnknown e = omega arith
numbered CardMalformed e = omega arith
numbered CardTooLong e = omega arith
numbered BadFlag e = omega arith
numbered BadKind e = omega arith

pub zero-done : (a : Answer) → answer_number a ≡ 0 → a ≡ Ok tt
zero-done (Ok _) e = refl
zero-done (Err why) e = absurd (numbered why e)

-- what is made was not refused, and what is not made was
module _ {A : Type 0} where
  pub made_done : (a : Answer) (made : A) {x : A} → made_unless a made ≡ Ok x → (a ≡ Ok tt) × (made ≡ x)
  made_done (Ok _) made e = (refl, cc)
  made_done (Err why) made e = absurd (cc)

  pub made_refused : (a : Answer) (made : A) {why : Refusal} → made_unless a made ≡ Err why → a ≡ Err why
  made_refused (Ok _) made e = absurd (cc)
  made_refused (Err why) made e = cc

  pub made_when : {a : Answer} (made : A) → a ≡ Ok tt → made_unless a made ≡ Ok made
  made_when made e = ap (λ x. made_unless x made) e

  pub not_made : {a : Answer} {why : Refusal} (made : A) → a ≡ Err why → made_unless a made ≡ Err why
  not_made made e = ap (λ x. made_unless x made) e
