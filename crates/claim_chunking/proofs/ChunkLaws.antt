-- The law of one chunk for each kind of legend, for any lane count. Assumes nothing.
use Rattle.std.specs.Prelude.{Option}
use mathlib.Core.Path.{◌≡◌, refl, sym, ap, ap₂, ◌∙◌}
use mathlib.Core.Logic.{◌⊎◌, inl, inr, ⊎_elim}
use mathlib.Core.Bool.{Bool, true, false, not, cond, ◌||◌, true≢false}
use mathlib.Core.List.{List, map}
use Prim.Native.Nat.{ℕ, ◌<◌}
use native.Mathlib.Omega.{arith}
use borrow.Author.Tests.{ltb-true}
use lib.Dec.{T}
use lib.IntN.{pos}
use lib.Ieee.{Float, nan, fin, is_nan, fits, binary32}
use lib.ListN.{length, get_or, length-map}
use Rattle.colormapper.specs.Unmappable.{is_nodata, unmappable}
use Rattle.painting.specs.Masked.{masked, masked_color}
use Rattle.painting.specs.forms.ChunkLaw.{Terms, ChunkLaw, PainterLaw}
use Rattle.painting.proofs.Lists.{get_or-map_in}
use Rattle.painting.proofs.Masking.{length-masked, get_or-masked, masked-map}
use Rattle.linear.specs.Made.{linear_colors}
use Rattle.linear_rule.specs.Rule as linear
use Rattle.linear_rule.proofs.LaneLaw as linear-law
use Rattle.banded_rule.specs.PlainRule as bands
use Rattle.banded_lanes.specs.LaneRule as lanes
use Rattle.banded_lanes.proofs.LaneLaw as band-law
use Rattle.banded.specs.Record.{counted}
use Rattle.banded.specs.Unmappable.{banded_unmappable}
use Rattle.categoric_table.specs.Rule as words
use Rattle.categoric_keys.specs.Rule as categories
use Rattle.categoric_keys.proofs.Rules.{with_table}
use Rattle.legend.specs.declared.Legend.{Legend}
use Rattle.legend.specs.declared.LegendKind.{LegendKind}
use Rattle.legend.specs.declared.LegendKind.TheVariants as kind
use Rattle.legend.specs.Painters.{linear_painter, bands_painter, categoric_painter, painter_in}
use Rattle.claim_chunking.specs.Rule.{LawfulIn, RoundingExceptionIn}
use Rattle.claim_chunking.proofs.Alike.{Alike, one, zeros}
use Rattle.claim_chunking.proofs.Zeros.{unmappable_zeros, lane_zeros, plain_zeros, banded_zeros, categoric_zeros}

-- ---- how the lanes of a kind may differ: at the samples of the exception, with the two colours x and y
abbrev terms : (RoundingException : Float → Type 0) (x y : ℕ) → Terms
terms RoundingException x y = record { Alike = Alike; RoundingException = RoundingException; lane-color = x; plain-color = y }

module _ (test : Float → Bool) (nodata : ℕ) (test_alike : (v w : Float) → Alike v w → test v ≡ test w) where
  -- unmappable samples get nodata, the others the colour of a rule
  masked_alike : (rule : Float → ℕ) → ((v w : Float) → Alike v w → rule v ≡ rule w) → (v w : Float) → Alike v w → masked_color test nodata rule v
      ≡ masked_color test nodata rule w
  masked_alike rule g v w a = ap₂ (λ (b : Bool) (c : ℕ). cond b nodata c) (test_alike v w a) (g v w a)

  -- ---- lanes with a rule each: from the law of one mappable sample
  module _ (RoundingException : Float → Type 0) (x y : ℕ) (lane plain : Float → ℕ)
      (law : (v : Float) → test v ≡ false → (lane v ≡ plain v) ⊎ RoundingException v)
      (odd : (v : Float) → RoundingException v → (test v ≡ false) × (lane v ≡ x) × (plain v ≡ y)) (lane-alike : (v w : Float) → Alike v w → lane v ≡ lane w)
      (L : ℕ) where
    abbrev chunk : List Float → List ℕ
    chunk vs = masked test nodata vs (map lane vs)

    at : (c : List Float) (k : ℕ) → k < length c → get_or (chunk c) k 0 ≡ masked_color test nodata lane (get_or c k nan)
    at c k h = ap (λ (w : List ℕ). get_or w k 0) (masked-map test nodata lane c) ∙ sym (get_or-map_in (masked_color test nodata lane) c k nan 0 h)

    either : (v : Float) (b : Bool) → test v ≡ b → (cond b nodata (lane v) ≡ cond b nodata (plain v)) ⊎ RoundingException v
    either v true e = inl refl
    either v false e = law v e

    mapped : (v : Float) (rule : Float → ℕ) → test v ≡ false → masked_color test nodata rule v ≡ rule v
    mapped v rule e = rw e

    pub by_lanes : ChunkLaw L chunk (masked_color test nodata plain) (terms RoundingException x y)
    by_lanes =
        record {
          long = λ c e. length-masked test nodata c (map lane c) (length-map c lane) ∙ e;
          lane = λ c e k h. let v : Float = get_or c k nan in ⊎_elim (λ same. inl (at c k (omega arith) ∙ same)) (λ o. inr o) (either v (test v) refl);
          exception = λ c e k h o.
              let v : Float = get_or c k nan in let d = odd v o in
              (at c k (omega arith) ∙ mapped v lane d.0 ∙ d.1, mapped v plain d.0 ∙ d.2);
          by_sample = λ c d e f k h a. at c k (omega arith) ∙ masked_alike lane lane-alike (get_or c k nan) (get_or d k nan) a ∙ sym (at d k (omega arith));
        }

  -- ---- lanes that look at the whole chunk: from the law of each mappable lane. There is no exception
  module _ (x y : ℕ) (colors : List Float → List ℕ) (plain : Float → ℕ) (long : (c : List Float) → length (colors c) ≡ length c)
      (law : (c : List Float) (k : ℕ) → k < length c → test (get_or c k nan) ≡ false → get_or (colors c) k 0 ≡ plain (get_or c k nan))
      (plain-alike : (v w : Float) → Alike v w → plain v ≡ plain w) (L : ℕ) where
    is_plain : (c : List Float) (k : ℕ) → k < length c → get_or (masked test nodata c (colors c)) k 0 ≡ masked_color test nodata plain (get_or c k nan)
    is_plain c k h = get_or-masked test nodata c (colors c) k h (long c) ∙ go (test (get_or c k nan)) refl
      where
        go : (b : Bool) → test (get_or c k nan) ≡ b → cond b nodata (get_or (colors c) k 0) ≡ cond b nodata (plain (get_or c k nan))
        go true e = refl
        go false e = law c k h e

    pub by_chunk : ChunkLaw L (λ vs. masked test nodata vs (colors vs)) (masked_color test nodata plain) (terms (λ v. ⊥) x y)
    by_chunk =
        record {
          long = λ c e. length-masked test nodata c (colors c) (long c) ∙ e;
          lane = λ c e k h. inl (is_plain c k (omega arith));
          exception = λ c e k h o. absurd o;
          by_sample = λ c d e f k h a. is_plain c k (omega arith) ∙ masked_alike plain plain-alike (get_or c k nan) (get_or d k nan) a
              ∙ sym (is_plain d k (omega arith));
        }

-- a mappable sample is no NaN
neither : (a b c : Bool) → ((a || b) || c) ≡ false → T (not a)
neither true b c e = absurd (true≢false e)
neither false b c e = tt

real : (nodata : Option Float) (flag : Bool) (v : Float) → unmappable nodata flag v ≡ false → T (not (is_nan v))
unfolding unmappable
real nodata flag v e = neither (is_nan v) (is_nodata nodata v) _ e

-- a rule that gives the two zeros one colour
zeros_alike : {A : Type 0} (rule : Float → A) → ((s t : Bool) → rule (fin s 0 (pos 0)) ≡ rule (fin t 0 (pos 0))) → {v w : Float} → Alike v w → rule v ≡ rule w
zeros_alike rule h one = refl
zeros_alike rule h (zeros s t) = h s t

by_zeros : {A : Type 0} (rule : Float → A) → ((s t : Bool) → rule (fin s 0 (pos 0)) ≡ rule (fin t 0 (pos 0))) → (v w : Float) → Alike v w → rule v ≡ rule w
by_zeros rule h v w a = zeros_alike rule h a

-- ---- each kind
module _ (l : Legend) (nodata : Option Float) (L : ℕ) where
  abbrev flag : Bool
  flag = l.mapping_config.zero_is_nodata

  abbrev test : Float → Bool
  test = unmappable nodata flag

  test_alike : (v w : Float) → Alike v w → test v ≡ test w
  test_alike = by_zeros test (λ s t. unmappable_zeros s t nodata flag)

  abbrev pub terms_in : LegendKind → Terms
  terms_in k = terms (RoundingExceptionIn k l nodata) (get_or l.linear.cmap 1 0) (get_or l.linear.cmap 0 0)

  pub of_kind : (k : LegendKind) → T (fits binary32 l.linear.start) → T (fits binary32 l.linear.end) → LawfulIn k l
      → PainterLaw (painter_in k l nodata) L (terms_in k)
  unfolding linear_painter bands_painter categoric_painter
  of_kind kind.Linear f g h =
      let m = l.linear in let u = linear_colors m.cmap l.mapping_config in let nd = l.mapping_config.nodata_color in
      let lane = linear.lane_color m.cmap m.start m.end u in let plain = linear.plain_color m.cmap m.start m.end u in
      record {
        chunks = λ s. by_lanes test nd test_alike (RoundingExceptionIn kind.Linear l nodata) _ _ lane plain
            (λ v e. ⊎_elim (λ q. inl q) (λ o. inr (e, o)) (linear-law.lane_law m.start m.end v h m.cmap u))
            (λ v o. let d = linear-law.odd_law m.start m.end v h m.cmap u f g o.1 in (o.0, d.0, d.1))
            (by_zeros lane (λ s t. lane_zeros s t m.cmap m.start m.end u)) L;
        exception-in_lanes = λ v o. refl;
        plain_by_sample = masked_alike test nd test_alike plain (by_zeros plain (λ s t. plain_zeros s t m.cmap m.start m.end u));
      }
  of_kind kind.Banded f g h =
      let bs = counted l.banded in let u = banded_unmappable bs l.mapping_config in let nd = l.mapping_config.nodata_color in
      let plain-alike = by_zeros (bands.plain_color bs u) (λ s t. banded_zeros s t bs u) in
      record {
        chunks = λ s. by_chunk test nd test_alike _ _ (lanes.lane_colors bs u) (bands.plain_color bs u)
            (band-law.lane-length bs u) (λ c k q e. band-law.lane_law bs h u c k (real nodata flag (get_or c k nan) e)) plain-alike L;
        exception-in_lanes = λ v o. absurd o;
        plain_by_sample = masked_alike test nd test_alike (bands.plain_color bs u) plain-alike;
      }
  of_kind kind.CategoricNumeric f g h =
      let m = l.categoric in let nd = l.mapping_config.nodata_color in
      let plain = categories.plain_color m.keys m.colors m.count m.lookup m.lookup_count nd in
      let plain-alike = by_zeros plain (λ s t. categoric_zeros s t m.keys m.colors m.count m.lookup m.lookup_count nd) in
      record {
        chunks = λ s. by_chunk test nd test_alike _ _ (words.lane_colors m.lookup m.lookup_count nd) plain
            (λ c. length-map c _)
            (λ c k q e. sym (get_or-map_in (words.table_color m.lookup m.lookup_count nd) c k nan 0 q)
            ∙ with_table m.keys m.colors m.count m.lookup m.lookup_count nd (ltb-true 0 m.lookup_count s) (get_or c k nan)) plain-alike L;
        exception-in_lanes = λ v o. absurd o;
        plain_by_sample = masked_alike test nd test_alike plain plain-alike;
      }
