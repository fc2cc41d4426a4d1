-- `optional` meets its contract. Assumes nothing.
use mathlib.Core.Path.{sym, ap}
use mathlib.Core.Bool.{Bool}
use Rattle.replay_legends.specs.Asked.{optional_of}
use Rattle.replay_legends.proofs.build.optional.Goals as goal

pub returns-then-given : goal.returns-then-given
returns-then-given c = sym (ap (λ (t : Bool). optional_of t c.args.color) c.if-given.true)

pub returns-else-given : goal.returns-else-given
returns-else-given c = sym (ap (λ (t : Bool). optional_of t c.args.color) c.if-given.false)
