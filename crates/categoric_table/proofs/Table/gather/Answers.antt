-- `gather` meets its contract. Assumes nothing.
use mathlib.Core.Path.{sym, ap, subst}
use native.Mathlib.Omega.{arith}
use lib.Dec.{T}
use lib.Ieee.{nan}
use lib.ListN.{get_or}
use Rattle.floats.specs.RampIndex.{floor_of}
use Rattle.lists.proofs.LanesOf.{lane_at_lem, lanes_agree}
use Rattle.categoric_table.specs.forms.InTable.{is_index}
use Rattle.categoric_table.proofs.TableTest.{kept_place}
use Rattle.categoric_table.proofs.Table.gather.Goals as goal

pub words_at-requires : goal.words_at-requires
words_at-requires c =
    let t = c.args.self in
    let clamped = lane_at_lem c.clamped_lanes-places.ensures nan in
    (omega arith, λ k q. subst (λ x. T (is_index x)) (sym (clamped k q)) (kept_place t.size t.capacity (get_or c.args.value k nan)))

pub returns : goal.returns
returns c =
    lanes_agree c.words_at.ensures
    (λ k q. ap (λ x. get_or c.args.self.lookup.now (floor_of x) 0) (lane_at_lem c.clamped_lanes-places.ensures nan k q))
