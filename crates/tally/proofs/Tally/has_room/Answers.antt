-- `has_room` meets its contract. Assumes nothing.
use Rattle.std.proofs.Common.{rules, tests, ℕ, ◌-◌, ◌∙◌}
use Rattle.std.proofs.lemmas.Iterator.{YieldsList-from_slice}
use Rattle.std.proofs.lemmas.Iterator.Search.{all_from_yields_List}
use lib.Dec.{leb}
use Rattle.tally.proofs.Room.{room_all}
use Rattle.tally.proofs.Tally.has_room.Goals as goal

pub returns : goal.returns
returns c =
    let counts = c.args.self.counts in
    let test = λ (x : ℕ). leb x (18446744073709551615 - c.args.n) in
    all_from_yields_List test _ _ _ c.all.ensures.ran (YieldsList-from_slice counts (search rules)) (λ x b q k. search (rules, tests))
    ∙ room_all counts c.args.n (search rules)
