-- `apply_to_data_scalar` meets its contract. Assumes nothing.
use Rattle.std.proofs.Common.{rules}
use lib.ListN.{length-map}
use Rattle.legend_scalar.proofs.Calls.{plainly_free, plainly_refused, plainly_done}
use Rattle.legend_scalar.proofs.apply_to_data_scalar.Goals as goal

pub returns-in_err-plain_refusal : goal.returns-in_err-plain_refusal
returns-in_err-plain_refusal g c =
    plainly_refused _ _ (simp length-map) c.stored_refusal.ensures c.plain_refusal.ensures c.in_err-plain_refusal.was (search rules)

pub paint-requires : goal.paint-requires
paint-requires g c = plainly_free _ c.stored_refusal.ensures c.plain_refusal.ensures c.in_ok-plain_refusal.was

pub returns : goal.returns
returns g c = plainly_done _ _ (simp length-map) c.stored_refusal.ensures c.plain_refusal.ensures c.in_ok-plain_refusal.was c.paint.ensures
