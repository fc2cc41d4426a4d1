-- `add` meets its contract: the invariant says that what is left of the totals goes to the counts so far. Assumes nothing.
use borrow.Author.Rules.{rules}
use mathlib.Core.Path.{◌≡◌}
use native.Mathlib.Omega.{arith}
use lib.ListN.{length, get_or}
use Rattle.tally.proofs.Spreading.{spreading_start, spreading_fits, spreading_turn, spreading_end}
use Rattle.tally.proofs.Tally.add.Goals as goal

pub loop-s-init : goal.loop-s-init
loop-s-init c = let a = c.args in spreading_start a.self.counts a.rules a.totals c.requires.1

pub bounds-counts-rule : goal.bounds-counts-rule
bounds-counts-rule c = let l = c in omega (arith, l.requires.0 l.loop-s.s (omega arith))

pub offset_bounds-counts-rule : goal.offset_bounds-counts-rule
offset_bounds-counts-rule c = omega (arith, bounds-counts-rule c)

pub overflow_add-counts : goal.overflow_add-counts
overflow_add-counts c =
    let long : length c.args.self.counts ≡ 12 = search rules in
    let all : length c.args.totals ≡ 7 = search rules in
    let rule = get_or c.args.rules c.loop-s.s 0 in
    record {
      fits = spreading_fits c.args.self.counts c.args.rules c.args.totals c.loop-s.invariant (omega arith) rule
          (omega (arith, c.requires.0 c.loop-s.s (omega arith)));
    }

pub loop-s-preserved : goal.loop-s-preserved
loop-s-preserved c =
    let each : length c.args.rules ≡ 7 = search rules in
    let all : length c.args.totals ≡ 7 = search rules in
    spreading_turn c.args.self.counts c.args.rules c.args.totals c.loop-s.invariant (omega arith) (omega arith)

pub returns : goal.returns
returns c =
    let each : length c.args.rules ≡ 7 = search rules in
    spreading_end c.args.self.counts c.args.rules c.args.totals c.loop-s.invariant (omega arith)
