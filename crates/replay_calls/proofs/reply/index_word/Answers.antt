-- `index_word` meets its contract. Assumes nothing.
use mathlib.Core.Path.{sym, ap}
use Rattle.replay_calls.specs.Replies.{index_word}
use Rattle.replay_calls.proofs.reply.index_word.Goals as goal

pub returns-in-Some : goal.returns-in-Some
returns-in-Some c = sym (ap index_word c.in-Some.is)
