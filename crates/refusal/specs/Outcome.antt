-- The checks of a call in the order of the table's rows, and what a call gives where none applies. Definitions only.
use Rattle.std.specs.Prelude.{Bool, true, false, Result, Ok, Err}
use Rattle.refusal.specs.declared.Refusal.{Refusal}

-- what a call answers whose result stands in a lent buffer, or beside the answer: done, or the refusal
abbrev pub Answer : Type 0
Answer = Result Unit Refusal

abbrev pub Done : Answer
Done = Ok tt

-- refused where the condition applies, else what the rows below it say
abbrev pub refuse_if : Bool → Refusal → Answer → Answer
refuse_if true why rest = Err why
refuse_if false why rest = rest

-- what is made where nothing is refused
abbrev pub made_unless : {A : Type 0} → Answer → A → Result A Refusal
made_unless (Ok _) made = Ok made
made_unless (Err why) made = Err why

-- what a call that makes something answers
abbrev pub answer_of : {A : Type 0} → Result A Refusal → Answer
answer_of (Ok made) = Ok tt
answer_of (Err why) = Err why

-- what was made, in another form; beside a refusal nothing
abbrev pub made_into : {A B : Type 0} → (A → B) → Result A Refusal → Result B Refusal
made_into f (Ok made) = Ok (f made)
made_into f (Err why) = Err why

-- what was made, else what stands in for it: the empty record, or zeros
abbrev pub made_or : {A : Type 0} → Result A Refusal → A → A
made_or (Ok made) otherwise = made
made_or (Err why) otherwise = otherwise

-- what is made where nothing is refused, else what stands in for it: the empty record, or what a buffer held
abbrev pub if_done : {A : Type 0} → Answer → A → A → A
if_done (Ok _) made otherwise = made
if_done (Err why) made otherwise = otherwise

-- the first refusal of two checks
abbrev pub first_of : Answer → Answer → Answer
first_of (Ok _) rest = rest
first_of (Err why) rest = Err why
