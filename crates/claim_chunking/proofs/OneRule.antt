-- One painter used twice does not meet the rule: where lane paintings are plain paintings, a legend from 0 to 1 refutes it at the fraction with the bits
-- 3B008080. Assumes nothing.
use Rattle.std.specs.Prelude.{Float, Option, None, Ok}
use mathlib.Core.Path.{◌≡◌, refl, sym, ◌∙◌}
use mathlib.Core.List.{List, [], ◌∷◌, map}
use Prim.Native.Nat.{ℕ, zero, suc}
use native.Mathlib.Omega.{arith}
use lib.Ieee.{binary32, of_bits, to_bits, is_nan, eq, lt, le, add, sub, neg, div, round, size, units}
use lib.ListN.{get_or}
use Rattle.floats.specs.RampIndex.{nought, one}
use Rattle.lists.specs.Tabulate.{tabulate}
use Rattle.lists.proofs.Tabulated.{get_d_tabulate}
use Rattle.colormapper.specs.Settings.{no_settings}
use Rattle.colormapper.specs.Unmappable.{unmappable}
use Rattle.interpolate.specs.Fraction.{fraction}
use Rattle.painting.specs.Paintings.{plain_refusal, PlainPainting}
use Rattle.legend.specs.declared.Legend.{Legend}
use Rattle.legend.specs.Record.{linear_legend}
use Rattle.legend.specs.Painters.{linear_painter, painter}
use Rattle.claim_chunking.specs.Rule.{Raster, f32, samples, RoundingException, ChunkingRule, PlainDone}

-- entry k of the ramp is k
abbrev steps : Legend
steps = linear_legend (record { start = nought; end = one; cmap = tabulate 256 (λ k. k) }) no_settings

-- a full chunk of that fraction
abbrev chunk : Raster
chunk = f32 (0x3B00_8080 ∷ 0x3B00_8080 ∷ 0x3B00_8080 ∷ 0x3B00_8080 ∷ [])

abbrev painted : List ℕ
painted = map (painter steps None).plain (samples chunk)

unrefused : plain_refusal (painter steps None).stored 4 4 ≡ Ok tt
unfolding plain_refusal painter linear_painter
unrefused = refl

plainly : PlainDone steps None chunk painted
plainly = record { before = 0 ∷ 0 ∷ 0 ∷ 0 ∷ []; painting = record { answered = sym unrefused; output = refl } }

odd : RoundingException steps None (of_bits binary32 0x3B00_8080)
unfolding unmappable fraction is_nan eq lt le add sub neg div of_bits to_bits
odd = (refl, refl)

-- lane paintings that are plain paintings
abbrev pub PlainTwice : Legend → Option Float → ℕ → Raster → List ℕ → Type 0
PlainTwice l nodata L r output = PlainDone l nodata r output

pub one_rule_fails : ChunkingRule steps (PlainDone steps) (PlainTwice steps) → ⊥
one_rule_fails rule =
    let d = rule.differs None 4 chunk painted painted plainly plainly 0 (omega arith) odd in
    let e : get_or (tabulate 256 (λ k. k)) 1 0 ≡ get_or (tabulate 256 (λ k. k)) 0 0 = sym d.0 ∙ d.1 in
    let z : ◌≡◌ {A = ℕ} 1 0 = sym (get_d_tabulate 256 (λ k. k) 1 0 (omega arith)) ∙ e ∙ get_d_tabulate 256 (λ k. k) 0 0 (omega arith) in
    omega arith
