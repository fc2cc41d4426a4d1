-- `head_words` meets its contract. Assumes nothing.
use Rattle.replay_calls.specs.Records.{head_words}
use Rattle.replay_calls.proofs.record.head_words.Goals as goal

pub returns : goal.returns
unfolding head_words
returns c =
    cc (
      c.number.ensures,
      c.flags_word.ensures,
      c.unwrap_or.ensures,
      c.unwrap_or-2.ensures,
      c.bits.ensures,
      c.bits-2.ensures,
      c.count_word.ensures,
      c.count_word-2.ensures,
      c.count_word-3.ensures,
    )
