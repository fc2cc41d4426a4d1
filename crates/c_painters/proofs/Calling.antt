-- A painting as C calls it, from what the code found: its own arguments refused, or a painting's answer. Assumes nothing.
use Rattle.std.specs.Prelude.{Option, Ok, Err}
use Rattle.refusal.specs.Outcome.{Answer}
use Prim.Native.Nat.{ℕ}
use mathlib.Core.Path.{◌≡◌, refl, sym, ap, ap₂, subst, ◌∙◌}
use mathlib.Core.List.{List}
use lib.Ieee.{Float}
use lib.ListN.{length}
use Rattle.refusal.specs.declared.Refusal.{Refusal}
use Rattle.painting.specs.Paintings.{refused_first, plain_answer, lane_answer, PlainPainting, LanePainting}
use Rattle.painting.proofs.Refusals.{plain-stored, lane-stored}
use Rattle.painting.proofs.Whole.{plain_refused, lane_refused}
use Rattle.legend.specs.declared.Legend.{Legend}
use Rattle.legend.specs.Painters.{painter}
use Rattle.c_types.specs.declared.answer.LegendAnswer.{LegendAnswer}
use Rattle.c_types.specs.Answers.{answer_to_c}
use Rattle.c_painters.specs.Painting.{PlainOutcome, LaneOutcome}

-- the call's own arguments are refused by `asked`, and the legend and the nodata value are what its contract names
module _ (l : Legend) (v : Option Float) {asked first : Answer} (f : first ≡ asked) {why : Refusal} (e : first ≡ Err why)
    {result : LegendAnswer} (r : result ≡ answer_to_c (Err why)) where
  stored : (refused_first asked (painter l v)).stored ≡ Err why
  stored = ap (λ a. (refused_first a (painter l v)).stored) (sym f ∙ e)

  pub plain_arguments : {xs : List Float} {out : List ℕ} → PlainOutcome (refused_first asked (painter l v)) xs out result out
  plain_arguments {xs} {out} =
      let p = refused_first asked (painter l v) in
      let a : Err why ≡ plain_answer p xs out = plain-stored (length xs) (length out) stored in
      record { answer = r ∙ ap answer_to_c a; painting = plain_refused p xs out refl refl (sym a) }

  pub lane_arguments : {L : ℕ} {xs : List Float} {out scratch : List ℕ} → LaneOutcome (refused_first asked (painter l v)) L xs out scratch result out scratch
  lane_arguments {L} {xs} {out} {scratch} =
      let p = refused_first asked (painter l v) in
      let a : Err why ≡ lane_answer p L xs out scratch = lane-stored L (length scratch) (length xs) (length out) stored in
      record { answer = r ∙ ap answer_to_c a; painting = lane_refused p xs out refl L scratch refl (sym a) }

-- the legend that is lent and the nodata value that the code made are those that the contract names
module _ {asked first : Answer} (f : first ≡ asked) (e : first ≡ Ok tt) {k l : Legend} (el : k ≡ l) {v v' : Option Float} (ev : v' ≡ v) where
  same : painter k v' ≡ refused_first asked (painter l v)
  same = ap₂ painter el ev ∙ ap (λ b. refused_first b (painter l v)) (sym e ∙ f)

  pub plain_painted : {a : Answer} {xs : List Float} {out out' : List ℕ} {result : LegendAnswer} → result ≡ answer_to_c a
      → PlainPainting (painter k v') xs out a out' → PlainOutcome (refused_first asked (painter l v)) xs out result out'
  plain_painted {xs = xs} {out} {out'} {result} r g =
      subst (λ q. PlainOutcome q xs out result out') same
      (record { answer = r ∙ ap answer_to_c g.answered; painting = subst (λ b. PlainPainting (painter k v') xs out b out') g.answered g })

  pub lanes_painted : {a : Answer} {L : ℕ} {xs : List Float} {out out' scratch scratch' : List ℕ} {result : LegendAnswer} → result ≡ answer_to_c a
      → LanePainting (painter k v') L xs out scratch a out' scratch' → LaneOutcome (refused_first asked (painter l v)) L xs out scratch result out' scratch'
  lanes_painted {L = L} {xs} {out} {out'} {scratch} {scratch'} {result} r g =
      subst (λ q. LaneOutcome q L xs out scratch result out' scratch') same
      (record {
        answer = r ∙ ap answer_to_c g.answered;
        painting = subst (λ b. LanePainting (painter k v') L xs out scratch b out' scratch') g.answered g;
      })
