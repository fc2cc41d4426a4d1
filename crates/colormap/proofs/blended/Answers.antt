-- `blended` meets its contract. Assumes nothing.
use Rattle.colormap.specs.Spread.{blend}
use Rattle.colormap.proofs.blended.Goals as goal

pub returns : goal.returns
unfolding blend
returns c =
    λ j. record {
      r = c.blended_channel.ensures j;
      g = c.blended_channel-2.ensures j;
      b = c.blended_channel-3.ensures j;
      a = c.blended_channel-4.ensures j;
    }
