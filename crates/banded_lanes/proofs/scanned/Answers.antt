-- `scanned` meets its contract: the invariant says that the bands from i on make of the lanes so far what all bands make of the chunk. Assumes nothing.
use native.Mathlib.Omega.{arith}
use borrow.Author.Rules.{rules}
use Rattle.banded_lanes.proofs.Chunk.{scanning_start, scanning_turn, scanning_finished, scanning_end}
use Rattle.banded_lanes.proofs.scanned.Goals as goal

pub loop-i-init : goal.loop-i-init
loop-i-init c =
    let b = c.args.columns in
    scanning_start b.starts.now b.ends.now b.colors.now b.count c.args.nodata c.args.lanes c.args.value _ (search rules) (search rules)
    c.nodata_lanes-result.ensures

pub enter-requires : goal.enter-requires
enter-requires c = (omega arith, c.loop-i.invariant.colored, c.loop-i.invariant.insides)

pub returns-then-enter : goal.returns-then-enter
returns-then-enter c =
    let b = c.args.columns in
    let e = c.enter in
    scanning_finished b.starts.now b.ends.now b.colors.now b.count c.args.nodata c.args.lanes c.args.value e.new.inside e.new.words
    c.loop-i.invariant (omega arith) c.band_at-band.ensures e.ensures.colored e.ensures.entered e.ensures.all_inside c.if-enter.true

pub loop-i-preserved : goal.loop-i-preserved
loop-i-preserved c =
    let b = c.args.columns in
    let e = c.enter in
    scanning_turn b.starts.now b.ends.now b.colors.now b.count c.args.nodata c.args.lanes c.args.value e.new.inside e.new.words
    c.loop-i.invariant (omega arith) c.band_at-band.ensures e.ensures.colored e.ensures.entered e.ensures.all_inside c.if-enter.false

pub returns : goal.returns
returns c =
    let b = c.args.columns in
    scanning_end b.starts.now b.ends.now b.colors.now b.count c.args.nodata c.args.lanes c.args.value c.loop-i.invariant (omega arith)
