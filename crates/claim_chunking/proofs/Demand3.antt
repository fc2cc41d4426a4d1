-- THE CHUNKING RULE holds of every lawful legend. Assumes nothing.
use Rattle.std.specs.Prelude.{Option}
use mathlib.Core.List.{List, [], ◌∷◌, map}
use Prim.Native.Nat.{ℕ, zero, suc}
use lib.IntN.{pos}
use lib.Dec.{T}
use lib.Ieee.{Float, nan, binary32, fits, of_bits}
use lib.Ieee.Bits.{of_bits-fits}
use lib.Ieee.Fits.{of_int-fits}
use lib.ListN.{get_or}
use Rattle.cast.specs.Samples.{of_u8, of_i16}
use Rattle.painting.specs.forms.ChunkLaw.{PainterLaw}
use Rattle.painting.proofs.Chunks.{pixel_same, pixel_differs, pixel_alone}
use Rattle.legend.specs.declared.Legend.{Legend}
use Rattle.legend.specs.Painters.{painter}
use Rattle.claim_chunking.specs.Rule.{Raster, f32, u8, i16, samples, sample_at, Lawful, ChunkingRule, PlainDone, LanesDone}
use Rattle.claim_chunking.proofs.ChunkLaws.{of_kind, terms_in}
use Rattle.claim_chunking.proofs.Alike.{alike}

-- ---- the samples of a raster are f32s
each_fits : {A : Type 0} (f : A → Float) → ((a : A) → T (fits binary32 (f a))) → (xs : List A) (i : ℕ) → T (fits binary32 (get_or (map f xs) i nan))
each_fits f h [] i = unfold fits in tt
each_fits f h (x ∷ xs) zero = h x
each_fits f h (x ∷ xs) (suc i) = each_fits f h xs i

pub sample_fits : (r : Raster) (i : ℕ) → T (fits binary32 (sample_at r i))
sample_fits (f32 bits) i = each_fits (of_bits binary32) (of_bits-fits binary32) bits i
sample_fits (u8 xs) i = each_fits of_u8 (λ n. of_int-fits binary32 (pos n)) xs i
sample_fits (i16 xs) i = each_fits of_i16 (of_int-fits binary32) xs i

-- ---- THE RULE, for a linear legend with bounds that are f32s, as a record's are
module _ (l : Legend) (start : T (fits binary32 l.linear.start)) (end : T (fits binary32 l.linear.end)) (h : Lawful l) where
  painter_law : (nodata : Option Float) (L : ℕ) → PainterLaw (painter l nodata) L (terms_in l nodata L l.kind)
  unfolding painter
  painter_law nodata L = of_kind l nodata L l.kind start end h

  pub chunking_rule : ChunkingRule l (PlainDone l) (LanesDone l)
  chunking_rule =
      record {
        same = λ nodata L r plain lanes P Q. pixel_same (painter l nodata) L _ (painter_law nodata L) P.painting Q.painting;
        differs = λ nodata L r plain lanes P Q. pixel_differs (painter l nodata) L _ (painter_law nodata L) P.painting Q.painting;
        alone = λ nodata L r s out out' P Q e i n same.
            pixel_alone (painter l nodata) L _ (painter_law nodata L) P.painting Q.painting e i n
            (alike (sample_at r i) (sample_at s i) (sample_fits r i) (sample_fits s i) same);
      }
