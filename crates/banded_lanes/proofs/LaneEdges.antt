-- The edges of a chunk that stands in arrays, after its bands: the lane rule's colours. Assumes nothing.
use Prim.Native.Nat.{ℕ, ◌-◌, ◌≤◌, ◌<◌}
use mathlib.Core.Path.{◌≡◌, sym, ap, ap₂, ◌∙◌}
use mathlib.Core.Logic.{inl, inr}
use mathlib.Core.Bool.{Bool, true, false, cond}
use mathlib.Core.List.{List, map, map-map, map-id}
use native.Mathlib.Nat.{eq-zero-or-pos}
use native.Mathlib.Omega.{arith}
use lib.Ieee.{Float, nan}
use lib.ListN.{length, get_or, take, length-map, get_or-map}
use lib.Seq.{length-take-le, get_or-take}
use Rattle.lists.specs.Lanes.{LanesOf}
use Rattle.lists.specs.Padded.{padded}
use Rattle.lists.specs.Tabulate.{tabulate}
use Rattle.lists.proofs.Tabulated.{tabulate_own}
use Rattle.lists.proofs.Padding.{get_or-padded}
use Rattle.lists.proofs.LanesOf.{lanes_agree}
use Rattle.colormapper.specs.declared.UnmappableColors.{UnmappableColors}
use Rattle.banded_columns.specs.declared.LegendBand.{LegendBand}
use Rattle.banded_lanes.specs.declared.Scan.{Scan}
use Rattle.banded_lanes.specs.Edges.{Lane, edged, lane_edge_color}
use Rattle.banded_lanes.specs.LaneRule.{started, Sweep, swept, chunk_colors, lane_colors}
use Rattle.banded_rule.specs.forms.Columns.{band_at, from_columns}
use Rattle.banded_lanes.specs.forms.Scanning.{Scanned}
use Rattle.banded_rule.proofs.Forms.{drop-end}
use Rattle.banded_lanes.proofs.LaneForms.{lane-none, lane_columns}
use Rattle.lists.proofs.Entries.{map_rule}
use Rattle.banded_lanes.proofs.Chunk.{values_kept}

module _ (starts ends : List Float) (colors : List ℕ) (count : ℕ) (u : UnmappableColors) (n : ℕ) (value : List Float) where
  abbrev f : ℕ → LegendBand
  f = band_at starts ends colors

  abbrev bands : List LegendBand
  bands = from_columns starts ends colors count

  abbrev chunk : List Lane
  chunk = map (started u.nodata) (take n value)

  lasts : List Lane
  lasts = (swept bands chunk).lanes

  values_are : map (λ (l : Lane). l.value) lasts ≡ take n value
  unfolding lasts
  values_are = values_kept bands chunk ∙ map-map (λ (l : Lane). l.value) (started u.nodata) (take n value) ∙ map-id (take n value)

  module _ {scan : Scan} (s : Scanned n bands u.nodata value scan) where
    none : count ≡ 0 → swept bands chunk ≡ record { finished = false; lanes = chunk }
    unfolding swept
    none e = ap (λ (bs : List LegendBand). swept bs chunk) (drop-end starts ends colors count 0 (omega arith))

    pub settled_none : count ≡ 0 → scan.colors ≡ padded 0 16 (lane_colors bands u (take n value))
    settled_none e =
        s.colors ∙ ap (λ (w : Sweep). padded 0 16 (map (λ (l : Lane). l.color) w.lanes)) (none e)
        ∙ ap (padded 0 16) (map-map (λ (l : Lane). l.color) (started u.nodata) (take n value) ∙ sym (lane-none starts ends colors count u (take n value) e))

    abbrev edge : Lane → ℕ
    edge = edged u (f 0) (f (count - 1))

    by_edges : (t : Bool) → 0 < count → scan.finished ≡ t → lane_colors bands u (take n value) ≡ cond t (map (λ (l : Lane). l.color) lasts) (map edge lasts)
    unfolding chunk_colors lasts
    by_edges t p e =
        lane_columns starts ends colors count u (take n value) p
        ∙ ap (λ (b : Bool). cond b (map (λ (l : Lane). l.color) (swept bands chunk).lanes) (map edge (swept bands chunk).lanes)) (sym s.finished ∙ e)

    -- no bands finish no chunk
    some : scan.finished ≡ true → 0 < count
    some e = elim (eq-zero-or-pos count) [
      | inl z ↦ absurd (differ (sym (s.finished ∙ ap (λ (w : Sweep). w.finished) (none z)) ∙ e))
      | inr p ↦ p
    ]
      where
        differ : false ≡ true → ⊥
        differ e = let z : ◌≡◌ {A = ℕ} 0 1 = ap (λ (b : Bool). cond b 1 0) e in omega arith

    pub settled_finished : scan.finished ≡ true → scan.colors ≡ padded 0 16 (lane_colors bands u (take n value))
    unfolding lasts
    settled_finished e = s.colors ∙ ap (padded 0 16) (sym (by_edges true (some e) e))

    -- lane k of the last lanes, by the arrays
    blank : Lane
    blank = record { value = nan; inside = false; color = 0 }

    value_at_lem : (k : ℕ) → k < n → get_or value k nan ≡ (get_or lasts k blank).value
    unfolding blank
    value_at_lem k q =
        sym (get_or-take n value k nan q) ∙ sym (ap (λ (vs : List Float). get_or vs k nan) values_are) ∙ get_or-map (λ (l : Lane). l.value) lasts k blank

    module _ (l : n ≤ length value) where
      long : length lasts ≡ n
      long = sym (length-map lasts (λ (l : Lane). l.value)) ∙ ap length values_are ∙ length-take-le n value l

      color_at_lem : (k : ℕ) → k < n → get_or scan.colors k 0 ≡ (get_or lasts k blank).color
      unfolding blank lasts
      color_at_lem k q =
          let colors = map (λ (l : Lane). l.color) lasts in
          let m : k < length colors = omega (arith, long, length-map lasts (λ (l : Lane). l.color)) in
          ap (λ (cs : List ℕ). get_or cs k 0) s.colors ∙ get_or-padded 0 16 colors k 0 m ∙ get_or-map (λ (l : Lane). l.color) lasts k blank

      lasts_are : tabulate n (λ k. get_or lasts k blank) ≡ lasts
      lasts_are = ap (λ (m : ℕ). tabulate m (λ k. get_or lasts k blank)) (sym long) ∙ tabulate_own blank lasts

      pub settled_edges : {r : List ℕ} {first last : LegendBand} → scan.finished ≡ false → 0 < count → first ≡ f 0 → last ≡ f (count - 1) →
          LanesOf 0 n (λ k. lane_edge_color first last u (get_or value k nan) (get_or scan.colors k 0)) r → r ≡ padded 0 16 (lane_colors bands u (take n value))
      unfolding edged
      settled_edges {r} {first} {last} e p a b h =
          (lanes_agree h lane).is
          ∙ ap (padded 0 16) (sym (map_rule edge n (λ k. get_or lasts k blank)) ∙ ap (map edge) lasts_are ∙ sym (by_edges false p e))
        where
          lane : (k : ℕ) → k < n → lane_edge_color first last u (get_or value k nan) (get_or scan.colors k 0) ≡ edge (get_or lasts k blank)
          lane k q =
              ap₂ (λ (x y : LegendBand). lane_edge_color x y u (get_or value k nan) (get_or scan.colors k 0)) a b
              ∙ ap₂ (λ (v : Float) (c : ℕ). lane_edge_color (f 0) (f (count - 1)) u v c) (value_at_lem k q) (color_at_lem k q)
