-- `flags_word` meets its contract. Assumes nothing.
use native.Mathlib.Omega.{arith}
use Rattle.replay_calls.specs.Records.{flags_word}
use Rattle.replay_calls.proofs.Words.{flag_most}
use Rattle.replay_calls.proofs.record.flags_word.Goals as goal

pub overflow_mul-result-2 : goal.overflow_mul-result-2
overflow_mul-result-2 c = record { fits = omega (arith, flag_most c.args.config.zero_is_nodata) }

pub overflow_add-result-2 : goal.overflow_add-result-2
overflow_add-result-2 c =
    record {
      fits = omega (arith, flag_most c.args.config.zero_is_nodata, c.given_word-low.ensures.1, c.given_word-high.ensures.1);
    }

pub returns : goal.returns
unfolding flags_word
returns c = cc (c.given_word-low.ensures.0, c.given_word-high.ensures.0)
