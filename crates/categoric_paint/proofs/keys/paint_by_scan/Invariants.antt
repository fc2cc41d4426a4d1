use mathlib.Core.List.{map}
use Rattle.painting.proofs.Steps.{Plainly}
use Rattle.categoric_paint.specs.forms.KeySamples.{key_sample}
use Rattle.categoric_paint.proofs.keys.paint_by_scan.Given as goal

abbrev pub invariant-loop-i : goal.invariant-loop-i
invariant-loop-i l =
    let sample = key_sample l.keys.keys.now l.keys.colors.now l.keys.count l.p in Plainly (map sample l.src) sample l.src l.i l.out
