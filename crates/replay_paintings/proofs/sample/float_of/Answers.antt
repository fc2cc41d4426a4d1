-- `sample::float_of` meets its contract. Assumes nothing.
use mathlib.Core.Path.{sym, ap, ◌∙◌}
use Rattle.cast.specs.Samples.{of_u8, of_i16}
use Rattle.replay_paintings.specs.Samples.{sample_of}
use Rattle.replay_paintings.proofs.Painting.{other_sample}
use borrow.Author.Rules.{rules}
use Rattle.replay_paintings.proofs.sample.float_of.Goals as goal

pub returns-in-0 : goal.returns-in-0
unfolding sample_of
returns-in-0 c = let a = c.args in c.float.ensures ∙ sym (ap (λ n. sample_of n a.word) c.in-0.is)

pub returns-in-1 : goal.returns-in-1
unfolding sample_of
returns-in-1 c =
    let a = c.args in
    c.u8_to_f32.ensures ∙ ap of_u8 c.byte.ensures ∙ sym (ap (λ n. sample_of n a.word) c.in-1.is)

pub returns-in_default : goal.returns-in_default
returns-in_default c =
    let a = c.args in
    c.i16_to_f32.ensures ∙ ap of_i16 (search rules) ∙ sym (other_sample a.number a.word (search rules) (search rules))
