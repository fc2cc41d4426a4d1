-- `first_step` meets its contract. Assumes nothing.
use borrow.Author.Rules.{rules}
use mir.Syntax.{w32}
use mir.Val.{SFits}
use Rattle.categoric_search.proofs.Steps.{reaches-is, leading-is}
use Rattle.categoric_search.proofs.first_step.Goals as goal

pub returns : goal.returns
returns c =
    let a = c.args in
    let f : SFits w32 a.key = search rules in
    leading-is a.narrow.now a.key
    (reaches-is a.narrow.now a.key 32 f (search rules) c.reached-a.ensures.0)
    (reaches-is a.narrow.now a.key 64 f (search rules) c.reached-b.ensures.0)
    (reaches-is a.narrow.now a.key 96 f (search rules) c.reached-c.ensures.0)
    (reaches-is a.narrow.now a.key 128 f (search rules) c.reached-d.ensures.0)
    (reaches-is a.narrow.now a.key 160 f (search rules) c.reached-e.ensures.0)
    (reaches-is a.narrow.now a.key 192 f (search rules) c.reached-f.ensures.0)
    (reaches-is a.narrow.now a.key 224 f (search rules) c.reached-g.ensures.0)
