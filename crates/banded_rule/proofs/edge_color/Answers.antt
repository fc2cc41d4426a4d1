-- `edge_color` meets its contract: its selects are the plain rule's edges. Assumes nothing.
use Rattle.banded_rule.proofs.Forms.{edge_chain}
use Rattle.banded_rule.proofs.edge_color.Goals as goal

pub returns : goal.returns
returns c =
    simp (
      c.pick.ensures,
      c.is_within-2.ensures,
      c.pick-z.ensures,
      c.pick-y.ensures,
      c.is_within.ensures,
      c.pick-x.ensures,
      edge_chain c.args.u c.args.first c.args.last c.args.value,
    )
