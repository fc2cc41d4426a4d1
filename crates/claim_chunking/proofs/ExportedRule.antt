-- THE CHUNKING RULE holds of the exported painters: of any outcomes that their contracts allow, for one legend and nodata value, answered 0. Assumes nothing.
use Rattle.std.specs.Prelude.{Option, Some, None, Ok}
use Rattle.refusal.specs.Outcome.{Answer, first_of}
use mathlib.Core.Path.{◌≡◌, refl, sym, ap, subst, ◌∙◌}
use mathlib.Core.List.{List}
use Prim.Native.Nat.{ℕ}
use lib.Dec.{T}
use lib.Ieee.{Float, binary32, fits, of_bits}
use lib.Ieee.Bits.{of_bits-fits}
use lib.ListN.{length}
use Rattle.refusal.specs.Table.{answer_number, answer_index}
use Rattle.refusal.proofs.Outcomes.{first_done, zero-done}
use Rattle.painting.specs.Paintings.{Painter, refused_first, plain_answer, lane_answer, PlainPainting, LanePainting}
use Rattle.painting.proofs.Refusals.{plain_free, lane_free}
use Rattle.c_types.specs.declared.answer.LegendAnswer.{LegendAnswer}
use Rattle.c_types.specs.Answers.{with_index, answer_to_c}
use Rattle.legend.specs.Painters.{painter}
use Rattle.c_types.specs.Refusals.{use_refusal}
use Rattle.c_records.specs.Views.{view_from_c}
use Rattle.claim_chunking.specs.Rule.{Raster, samples, Lawful, ChunkingRule, PlainDone, LanesDone}
use Rattle.claim_chunking.specs.Exported.{Handed, handed_legend, handed_painter, IsF32, BoundsAreF32, PlainCalled, LanesCalled}
use Rattle.claim_chunking.proofs.Demand3.{chunking_rule}

-- ---- the number 0 says that nothing was refused
number_is : (n : ℕ) (i : Option ℕ) → (with_index n i).number ≡ n
number_is n (Some k) = refl
number_is n None = refl

answered : (a : Answer) {r : LegendAnswer} → r ≡ answer_to_c a → r.number ≡ 0 → a ≡ Ok tt
answered a e z = zero-done a (sym (ap (λ (r : LegendAnswer). r.number) e ∙ number_is (answer_number a) (answer_index a)) ∙ z)

-- ---- a painting that is not refused is one by the painter whose own arguments are not looked at
module _ (first : Answer) (p : Painter) where
  without : first ≡ Ok tt → refused_first first p ≡ p
  without e = ap (λ a. refused_first a p) e

  plain_own : {xs : List Float} {out out' : List ℕ} → PlainPainting (refused_first first p) xs out (Ok tt) out' → PlainPainting p xs out (Ok tt) out'
  plain_own {xs} {out} {out'} h =
      let f = plain_free (first_of first p.stored) (length xs) (length out) (sym h.answered) in
      subst (λ q. PlainPainting q xs out (Ok tt) out') (without (first_done first p.stored f.0).0) h

  lane_own : {L : ℕ} {xs : List Float} {out scratch out' scratch' : List ℕ} → LanePainting (refused_first first p) L xs out scratch (Ok tt) out' scratch'
      → LanePainting p L xs out scratch (Ok tt) out' scratch'
  lane_own {L} {xs} {out} {scratch} {out'} {scratch'} h =
      let f = lane_free (first_of first p.stored) L (length scratch) (length xs) (length out) (sym h.answered) in
      subst (λ q. LanePainting q L xs out scratch (Ok tt) out' scratch') (without (first_done first p.stored f.sound).0) h

-- ---- what a call leaves is what a painting leaves
module _ (h : Handed) where
  -- what the call's own arguments are refused by
  abbrev asked : Answer
  asked = use_refusal h.view.settings h.view.kind h.nodata_given

  plain_done : (nodata : Option Float) (r : Raster) (output : List ℕ) → PlainCalled h nodata r output → PlainDone (handed_legend h) nodata r output
  plain_done nodata r output c =
      let p = handed_painter h nodata in
      let d : plain_answer p (samples r) c.before ≡ Ok tt = answered _ c.outcome.answer c.done in
      record {
        before = c.before;
        painting = plain_own asked (painter (handed_legend h) nodata)
            (subst (λ a. PlainPainting p (samples r) c.before a output) d c.outcome.painting);
      }

  lanes-done : (nodata : Option Float) (L : ℕ) (r : Raster) (output : List ℕ) → LanesCalled h nodata L r output → LanesDone (handed_legend h) nodata L r output
  lanes-done nodata L r output c =
      let p = handed_painter h nodata in
      let d : lane_answer p L (samples r) c.before c.scratch ≡ Ok tt = answered _ c.outcome.answer c.done in
      record {
        before = c.before;
        scratch = c.scratch;
        scratch_after = c.scratch_after;
        painting = lane_own asked (painter (handed_legend h) nodata)
            (subst (λ a. LanePainting p L (samples r) c.before c.scratch a output c.scratch_after) d c.outcome.painting);
      }

bound_fits : {x : Float} → IsF32 x → T (fits binary32 x)
bound_fits (bits, e) = subst (λ x. T (fits binary32 x)) (sym e) (of_bits-fits binary32 bits)

pub exported_rule : (h : Handed) → BoundsAreF32 h → Lawful (handed_legend h) → ChunkingRule (handed_legend h) (PlainCalled h) (LanesCalled h)
unfolding view_from_c
exported_rule h bounds lawful =
    let rule = chunking_rule (handed_legend h) (bound_fits bounds.0) (bound_fits bounds.1) lawful in
    record {
      same = λ nodata L r plain lanes P Q. rule.same nodata L r plain lanes (plain_done h nodata r plain P) (lanes-done h nodata L r lanes Q);
      differs = λ nodata L r plain lanes P Q. rule.differs nodata L r plain lanes (plain_done h nodata r plain P) (lanes-done h nodata L r lanes Q);
      alone = λ nodata L r s out out' P Q. rule.alone nodata L r s out out' (lanes-done h nodata L r out P) (lanes-done h nodata L s out' Q);
    }
