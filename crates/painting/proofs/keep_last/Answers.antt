-- `keep_last` meets its contract. Assumes nothing.
use native.Mathlib.Omega.{arith}
use mathlib.Core.Path.{◌∙◌}
use lib.ListN.{length}
use native.Mathlib.Nat.{div-mul-le_self}
use Rattle.painting.proofs.Scratch.{le_full, kept_none, kept_last}
use borrow.Author.Rules.{rules}
use Rattle.painting.proofs.keep_last.Goals as goal

pub returns-then-n-l : goal.returns-then-n-l
returns-then-n-l c = kept_none _ _ _ c.if-n-l.true

pub overflow_mul-full : goal.overflow_mul-full
overflow_mul-full c = omega (arith, div-mul-le_self (length c.args.painted.now) c.args.l)

pub overflow_sub-full : goal.overflow_sub-full
overflow_sub-full c = le_full _ _ (search rules) c.if-n-l.false

pub copied-requires : goal.copied-requires
copied-requires c = (
  omega (
    arith,
    le_full (length c.args.painted.now) c.args.l (search rules)
        (search rules),
    div-mul-le_self (length c.args.painted.now) c.args.l,
  ),
  search
      rules,
)

pub returns : goal.returns
returns c = c.copied.ensures ∙ kept_last _ _ _ (search rules)
