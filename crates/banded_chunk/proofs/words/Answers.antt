-- `words` meets its contract. Assumes nothing.
use Rattle.banded_chunk.proofs.words.Goals as goal

pub words_searched-requires : goal.words_searched-requires
words_searched-requires c = c.requires c.if-search.true
