-- `is_unmappable` meets its contract. Assumes nothing.
use Rattle.colormapper.proofs.Excluding.{excluded-is}
use Rattle.colormapper.specs.forms.Exclusions.{excluded}
use mathlib.Core.Path.{ap, ◌∙◌}
use Rattle.colormapper.proofs.is_unmappable.Goals as goal

pub returns : goal.returns
returns c = c.excludes.ensures ∙ ap (λ e. excluded e c.args.value) c.exclusions_of.ensures ∙ excluded-is _ _ _
