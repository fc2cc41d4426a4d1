-- `is_within` meets its contract: its two tests are the one of the size. Assumes nothing.
use Rattle.banded_rule.proofs.Edges.{within-is}
use Rattle.banded_rule.proofs.is_within.Goals as goal

pub returns : goal.returns
returns c = within-is c.args.edge c.args.value
