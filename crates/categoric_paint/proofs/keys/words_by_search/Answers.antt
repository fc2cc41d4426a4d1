-- `words_by_search` meets its contract. Assumes nothing.
use borrow.Author.Rules.{rules}
use mathlib.Core.Path.{ap, ◌∙◌}
use lib.Ieee.{nan}
use lib.ListN.{take}
use Rattle.lists.proofs.LanesOf.{lane_at_lem}
use Rattle.colormapper.specs.forms.Exclusions.{excluded}
use Rattle.categoric_search.specs.forms.Bisection.{search_color}
use Rattle.painting.specs.Masked.{masked}
use Rattle.painting.proofs.Lists.{lanes_list}
use Rattle.painting.proofs.Masking.{lanes-masked, masked-map}
use Rattle.categoric_paint.proofs.keys.words_by_search.Goals as goal

pub returns : goal.returns
returns c =
    let a = c.args in
    let found = c.colors_for_numeric_values-c in
    let e = excluded a.p.exclusions in
    lanes-masked e a.p.nodata 16 c.masked_simd.result a.v found.result (search rules) (search rules) (search rules)
    (lane_at_lem c.masked_simd.ensures 0)
    ∙ ap (masked e a.p.nodata (take 16 a.v)) (lanes_list nan 0 (search_color a.narrow.now a.colors.now a.p.nodata) 16 found.result a.v
    (search rules) (search rules) found.ensures)
    ∙ masked-map _ _ _ _
