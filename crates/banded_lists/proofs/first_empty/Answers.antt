-- `first_empty` meets its contract. Assumes nothing.
use Rattle.std.proofs.Common.{rules, tests, ap, ◌∙◌, length}
use Rattle.std.proofs.lemmas.Iterator.{YieldsList-from_slice}
use Rattle.std.proofs.lemmas.Iterator.Search.{position_from_yields_List}
use Rattle.std.specs.Option.{unwrap_or}
use Rattle.banded_lists.specs.ManualRanges.{is_empty}
use Rattle.banded_lists.proofs.Manual.{first_found}
use Rattle.banded_lists.proofs.first_empty.Goals as goal

pub returns : goal.returns
returns c =
    let ranges = c.args.ranges.now in
    c.unwrap_or.ensures
    ∙ ap (λ o. unwrap_or o (length ranges))
    (position_from_yields_List is_empty _ _ _ c.position.ensures.ran (YieldsList-from_slice ranges (search rules)) (λ x b q k. search (rules, tests)))
    ∙ first_found ranges
