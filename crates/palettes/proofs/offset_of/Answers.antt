-- `offset_of` meets its contract. Assumes nothing.
use Rattle.palettes.proofs.InTable.{offsets_are}
use borrow.Author.Rules.{rules}
use Rattle.palettes.proofs.offset_of.Goals as goal

pub returns : goal.returns
returns c = offsets_are _ (search rules)
