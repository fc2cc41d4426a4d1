-- A list of colours that is refused, as C reads it. Assumes nothing.
use Rattle.std.specs.Prelude.{Ok, Err, Result}
use Rattle.std.specs.Result.{result_and}
use mathlib.Core.Path.{◌≡◌, refl}
use mathlib.Core.List.{List}
use Prim.Native.Nat.{ℕ}
use lib.ListN.{replicate}
use Rattle.refusal.specs.declared.Refusal.{Refusal}
use Rattle.refusal.specs.Outcome.{Answer}
use Rattle.c_types.specs.Answers.{answer_to_c}
use Rattle.c_answers.specs.declared.uses.LegendColorList.{LegendColorList}
use Rattle.c_answers.specs.Uses.{list_to_c}

pub list_refused : (first : Answer) (list : Result (List ℕ) Refusal) {why : Refusal} → result_and first list ≡ Err why
    → list_to_c first list ≡ record { answer = answer_to_c (Err why); colors = replicate 256 0 }
unfolding list_to_c
list_refused (Ok _) (Ok colors) e = absurd (cc)
list_refused (Ok _) (Err why) e = cc
list_refused (Err why) list e = cc
