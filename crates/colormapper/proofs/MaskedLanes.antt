-- Colours that a rule gives lane by lane, masked: nodata for the lanes of unmappable samples, and the rule's colour for others. Assumes nothing.
use mathlib.Core.Path.{ap}
use mathlib.Core.Bool.{cond}
use mathlib.Core.List.{List}
use Prim.Native.Nat.{ℕ}
use lib.Ieee.{Float, nan}
use lib.ListN.{get_or}
use Rattle.lists.specs.Lanes.{LanesOf}
use Rattle.lists.proofs.LanesOf.{lane_at_lem, lanes_agree}
use Rattle.colormapper.specs.declared.Exclusions.{Exclusions}
use Rattle.colormapper.specs.forms.Exclusions.{excluded}

pub masked-lanes : (e : Exclusions) (nodata : ℕ) (rule : Float → ℕ) (v : List Float) (c : List ℕ) {l : ℕ} {d : List ℕ}
    → LanesOf 0 l (λ k. rule (get_or v k nan)) c
    → LanesOf 0 l (λ k. cond (excluded e (get_or v k nan)) nodata (get_or c k 0)) d
    → LanesOf 0 l (λ k. cond (excluded e (get_or v k nan)) nodata (rule (get_or v k nan))) d
masked-lanes e nodata rule v c colors masks = lanes_agree masks (λ k h. ap (cond (excluded e (get_or v k nan)) nodata) (lane_at_lem colors 0 k h))
