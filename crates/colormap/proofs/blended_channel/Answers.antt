-- `blended_channel` meets its contract. Assumes nothing.
use native.Mathlib.Omega.{arith}
use mathlib.Core.Path.{refl}
use Rattle.colormap.specs.Spread.{channel}
use Rattle.colormap.proofs.Channels.{near_fits, far_fits, sum_fits, channel_fits}
use borrow.Author.Rules.{rules}
use Rattle.colormap.proofs.blended_channel.Goals as goal

pub overflow_mul-result : goal.overflow_mul-result
overflow_mul-result c = omega (arith, near_fits c.args.r c.args.c c.args.d (search rules) (search rules) (search rules))

pub overflow_mul-result-2 : goal.overflow_mul-result-2
overflow_mul-result-2 c = omega (arith, far_fits c.args.r c.args.c c.args.d (search rules) (search rules) (search rules))

pub overflow_add-result : goal.overflow_add-result
overflow_add-result c = omega (arith, sum_fits c.args.r c.args.c c.args.d (search rules) (search rules) (search rules))

pub overflow_add-result-2 : goal.overflow_add-result-2
overflow_add-result-2 c = omega (arith, sum_fits c.args.r c.args.c c.args.d (search rules) (search rules) (search rules))

pub overflow_cast-result-3 : goal.overflow_cast-result-3
overflow_cast-result-3 c = omega (arith, channel_fits c.args.r c.args.c c.args.d (search rules) (search rules) (search rules))

pub returns : goal.returns
unfolding channel
returns c = refl
