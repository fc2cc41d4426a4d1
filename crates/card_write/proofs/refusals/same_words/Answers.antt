-- `same_words` meets its contract. The loop's invariant at i: the first i words are the same. Assumes nothing.
use borrow.Author.Count.{below_none, below_more}
use native.Mathlib.Omega.{arith}
use mathlib.Core.Path.{sym}
use Rattle.card_write.proofs.Comparing.{words_same, words_differ}
use Rattle.card_write.proofs.refusals.same_words.Goals as goal

pub loop-i-init : goal.loop-i-init
loop-i-init c = below_none _

pub returns-then-words-i : goal.returns-then-words-i
returns-then-words-i c =
    sym (words_differ c.args.n c.loop-i.i c.args.words.now c.args.others.now c.loop-i-test.true
    (omega (arith, c.loop-i-test.true, c.requires.0, c.requires.1)) (omega (arith, c.loop-i-test.true, c.requires.0, c.requires.2)) c.if-words-i.true)

pub loop-i-preserved : goal.loop-i-preserved
loop-i-preserved c = below_more _ _ c.loop-i.invariant c.if-words-i.false

pub returns : goal.returns
returns c =
    let l = c.loop-i in
    sym (words_same c.args.n c.args.words.now c.args.others.now (omega (arith, c.requires.0, c.requires.1)) (omega (arith, c.requires.0, c.requires.2))
    (λ k q. l.invariant k (omega (arith, q, c.loop-i-test.false))))
