-- `insertion_index` meets its contract. Assumes nothing.
use Rattle.std.proofs.Common.{rules, tests, ap, ◌∙◌, length}
use Rattle.std.proofs.lemmas.Iterator.{YieldsList-from_slice}
use Rattle.std.proofs.lemmas.Iterator.Search.{position_from_yields_List}
use Rattle.std.specs.Option.{unwrap_or}
use lib.Signed.{le_z}
use Rattle.categoric_build.proofs.Inserting.{place_found}
use Rattle.categoric_build.proofs.sorted.insertion_index.Goals as goal

pub returns : goal.returns
returns c =
    let keys = c.args.keys.now in
    c.unwrap_or.ensures
    ∙ ap (λ o. unwrap_or o (length keys))
    (position_from_yields_List (le_z c.args.key) _ _ _ c.position.ensures.ran (YieldsList-from_slice keys (search rules)) (λ x b q k. search (rules, tests)))
    ∙ place_found c.args.key keys
