-- `new` meets its contract: the arrays hold what the loop has put in. Assumes nothing.
use Rattle.std.proofs.Common.{ap, ◌∙◌, ◌+◌, ◌≡◌, length, get_or, arith, rules}
use lib.IntN.{pos}
use mir.Syntax.{w64}
use mir.Val.{to_z, of_z}
use Rattle.catgegoric.specs.Made.{record_of}
use Rattle.categoric_build.specs.Categories.{inserted_up_to}
use Rattle.catgegoric.proofs.Making.{recorded}
use Rattle.categoric_build.proofs.Inserting.{holds-none, holds_next, length-first_of, keys-long, colors-long}
use Rattle.categoric_build.proofs.Putting.{holds_put}
use Rattle.catgegoric.proofs.new.Goals as goal

pub loop-i-init : goal.loop-i-init
unfolding inserted_up_to
loop-i-init c = (omega arith, holds-none)

pub insert-count-requires : goal.insert-count-requires
insert-count-requires c =
    let held = c.loop-i.invariant.1 in
    (omega arith, keys-long held (omega (arith, held.count-is)), colors-long held (omega (arith, held.count-is)))

pub loop-i-preserved : goal.loop-i-preserved
loop-i-preserved c =
    let i = c.loop-i.i in
    let given = c.args.given.now in
    let read : to_z w64 (of_z w64 (get_or given i (pos 0))) ≡ get_or given i (pos 0) = search rules in
    let held = holds_next i given c.args.words.now _ read (holds_put (omega arith) c.loop-i.invariant.1 c.insert-count.ensures) in
    (omega (arith, held.count-is, length-first_of (i + 1) given c.args.words.now), held)

pub returns : goal.returns
returns c =
    let all : c.loop-i.i ≡ length c.args.given.now = omega arith in
    c.with_lookup.ensures ∙ recorded c.loop-i.invariant.1 ∙ ap (λ m. record_of (inserted_up_to m c.args.given.now c.args.words.now)) all
