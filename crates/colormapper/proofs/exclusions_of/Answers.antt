-- `exclusions_of` meets its contract. Assumes nothing.
use Rattle.colormapper.proofs.exclusions_of.Goals as goal

pub returns : goal.returns
returns c = λ j. record { nodata = c.value_or_nan.ensures j; zero = c.zero_or_nan.ensures j }
