-- `paint::lanes` meets its contract. Assumes nothing.
use borrow.Author.Rules.{rules}
use mathlib.Core.Path.{sym, ap, ◌∙◌}
use Prim.Native.Nat.{◌%◌}
use lib.ListN.{get_or}
use Rattle.cast.specs.Samples.{of_u8, of_i16}
use Rattle.words.specs.Values.{float_of, short_of}
use Rattle.replay_paintings.specs.Samples.{sample_of, samples_as}
use Rattle.replay_paintings.specs.Paintings.{lane_words}
use Rattle.replay_paintings.proofs.Painting.{converted, other_samples}
use Rattle.replay_paintings.proofs.paint.lanes.Goals as goal

pub returns-in-0 : goal.returns-in-0
unfolding sample_of
returns-in-0 c =
    let a = c.args in
    c.lanes.ensures ∙ ap (lane_words _ _) (converted (λ v. v) float_of a.count a.row.now c.floats.ensures ∙ ap (λ n. samples_as n a.count a.row.now) (sym c.in-0.is))

pub returns-in-1 : goal.returns-in-1
unfolding sample_of
returns-in-1 c =
    let a = c.args in
    c.lanes-in-1.ensures
    ∙ ap (lane_words _ _) (converted of_u8 (λ w. w % 256) a.count a.row.now c.bytes.ensures ∙ ap (λ n. samples_as n a.count a.row.now) (sym c.in-1.is))

pub returns-in_default : goal.returns-in_default
unfolding sample_of
returns-in_default c =
    let a = c.args in
    c.lanes-in_default.ensures
    ∙ ap (lane_words _ _) (converted of_i16 short_of a.count a.row.now c.shorts.ensures ∙ sym (other_samples (get_or a.row.now 8 0) a.count a.row.now (search rules) (search rules)))
