-- `half` meets its contract. Assumes nothing.
use borrow.Author.Rules.{rules}
use mathlib.Core.Path.{refl}
use Rattle.categoric_search.proofs.Steps.{halved}
use Rattle.categoric_search.proofs.half.Goals as goal

pub returns : goal.returns
returns c = halved c.args.narrow.now c.args.key c.args.step c.args.index (search rules) (search rules) refl
