use lib.ListN.{drop}
use Rattle.painting.proofs.Lists.{Copied}
use Rattle.painting.proofs.copied.Given as goal

abbrev pub invariant-loop-i : goal.invariant-loop-i
invariant-loop-i l = Copied l.initial.to 0 (drop l.at l.from) l.l l.i l.to
