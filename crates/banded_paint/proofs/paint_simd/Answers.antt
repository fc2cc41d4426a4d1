-- `paint_simd` meets its contract. Assumes nothing.
use borrow.Author.Rules.{rules}
use native.Mathlib.Omega.{arith}
use native.Mathlib.Nat.{mul-div-le}
use borrow.Author.Tests.{ltb-true}
use lib.Dec.{T, ltb}
use lib.ListN.{length}
use mathlib.Core.Path.{◌≡◌, sym, subst, ◌∙◌}
use mathlib.Core.Bool.{Bool, true, false, ◌&&◌}
use Rattle.banded_lanes.proofs.LaneLaw.{lane-length}
use Rattle.painting.proofs.Refusals.{lane_sizes}
use Rattle.painting.proofs.Masking.{length-masked}
use Rattle.banded_columns.specs.Order.{ascending_disjoint}
use Rattle.banded_rule.specs.declared.columns.Columns.{Columns}
use Rattle.banded_rule.specs.forms.Columns.{bands_of}
use Rattle.banded_chunk.specs.forms.Searchable.{Searchable}
use Rattle.banded_paint.proofs.Numbered.{chunk_room, numbered_start, numbered_turn, numbered_end}
use Rattle.banded_paint.proofs.paint_simd.Goals as goal
use Rattle.banded_paint.proofs.paint_simd.Goals.{then-search, else-search}

-- what the two tests tell where both hold
both-asked : {columns : Columns} {asked : Bool} → asked ≡ ascending_disjoint (bands_of columns) → (asked && ltb 0 columns.count) ≡ true → Searchable columns
both-asked {columns} {asked = true} e h = record { some = ltb-true 0 columns.count h; ordered = sym e }
both-asked {asked = false} e h = absurd (subst T (sym h) tt)

pub loop-k-init : goal.loop-k-init
loop-k-init c = numbered_start (search rules)

pub chunk_searched-requires : goal.chunk_searched-requires
chunk_searched-requires c =
    let sizes = lane_sizes c.args.l c.requires.0 in
    let room = chunk_room c.args.l (length c.args.src.now) c.loop-k.k sizes.0 in
    (both-asked (c.ascending_disjoint.ensures _) c.if-search.true, c.requires.0, omega arith, omega arith)

pub chunk-requires : goal.chunk-requires
chunk-requires c =
    let sizes = lane_sizes c.args.l c.requires.0 in
    let room = chunk_room c.args.l (length c.args.src.now) c.loop-k.k sizes.0 in
    (c.requires.0, omega arith, omega arith)

pub loop-k-preserved : goal.loop-k-preserved
loop-k-preserved c =
    numbered_turn c.loop-k.invariant
    (elim c.if-search.branch [ then-search w ↦ w.out-is ∙ w.chunk_searched.ensures | else-search w ↦ w.out-is ∙ w.chunk.ensures ])
    (λ xs. length-masked _ _ xs _ (lane-length _ _ xs)) (lane_sizes _ c.requires.0).0 (omega arith)

pub rest-requires : goal.rest-requires
rest-requires c =
    let sizes = lane_sizes c.args.l c.requires.0 in (
      λ h. (both-asked {columns = c.args.columns} (c.ascending_disjoint.ensures _) h).ordered,
      omega (arith, mul-div-le (length c.args.src.now) c.args.l),
      omega arith,
      search rules,
    )

pub returns : goal.returns
returns c = c.rest.ensures ∙ numbered_end c.loop-k.invariant (lane_sizes c.args.l c.requires.0).0 (omega arith)
