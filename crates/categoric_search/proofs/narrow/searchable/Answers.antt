-- `searchable` meets its contract. Assumes nothing.
use Rattle.categoric_search.specs.forms.Searchable.{searchable}
use Rattle.categoric_search.proofs.narrow.searchable.Goals as goal

pub returns : goal.returns
unfolding searchable
returns c = cc
