-- `words_plain` meets its contract. Assumes nothing.
use borrow.Author.Rules.{rules}
use Rattle.lists.proofs.LanesOf.{lanes_all}
use Rattle.banded_chunk.proofs.MaskedWords.{plain-masked}
use Rattle.banded_chunk.proofs.words_plain.Goals as goal

pub returns : goal.returns
returns c =
    let a = c.args in
    let s = c.colors_for_numeric_values-c in
    plain-masked _ a.p a.v {colors = s.result} c.masked_simd.ensures (lanes_all 0 0 (search rules) s.ensures)
