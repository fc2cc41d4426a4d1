-- `key_sample` meets its contract. Assumes nothing.
use mathlib.Core.Path.{ap, ◌∙◌}
use Rattle.colormapper.specs.forms.Exclusions.{excluded}
use mathlib.Core.Bool.{cond}
use Rattle.categoric_paint.proofs.keys.key_sample.Goals as goal

pub returns : goal.returns
returns c =
    c.masked.ensures ∙ ap (λ w. cond (excluded c.args.p.exclusions c.args.value) c.args.p.nodata
    w) c.key_color-color.ensures
