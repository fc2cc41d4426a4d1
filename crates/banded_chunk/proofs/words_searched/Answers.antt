-- `words_searched` meets its contract. Assumes nothing.
use Rattle.banded_chunk.proofs.MaskedWords.{plain-masked}
use Rattle.banded_chunk.proofs.words_searched.Goals as goal

pub returns : goal.returns
returns c = let a = c.args in plain-masked _ a.p a.v c.masked_simd.ensures c.colors_for_numeric_values-c.ensures
