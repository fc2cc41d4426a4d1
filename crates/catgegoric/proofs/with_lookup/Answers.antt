-- `with_lookup` meets its contract: its fields are those of its callees. Assumes nothing.
use mathlib.Core.Path.{ap₂}
use Rattle.catgegoric.proofs.with_lookup.Goals as goal

pub returns : goal.returns
returns c =
    ap₂ (λ l n. record { keys = c.args.keys; colors = c.args.colors; count = c.args.count; lookup = l; lookup_count = n }) c.create_fast_lookup-lookup.ensures
    c.lookup_size-lookup_count.ensures
