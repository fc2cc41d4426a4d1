-- A band at least E wide: from its end on no sample is within E of its start, and up to its start none is within E of its end. Bounds and samples may be
-- infinite. Assumes nothing.
use mathlib.Core.Bool.{Bool, true, false, not}
use lib.Dec.{T}
use lib.Ieee.{Float, nan, inf, fin, binary32, lt, le, sub, add, neg, eq, is_nan, of_bits}
use Rattle.floats.specs.Size.{abs}
use Rattle.floats.proofs.Order.{lt_not_le}
use Rattle.floats.proofs.Distance.{beyond, before}
use Rattle.colormapper.specs.Tolerance.{E, within}

-- nothing is within E of an infinity, or of a NaN
no_edge : (v : Float) → T (within nan v) → ⊥
unfolding sub add neg lt of_bits
no_edge nan w = absurd w
no_edge (inf s) w = absurd w
no_edge (fin s m e) w = absurd w

far_edge : (s : Bool) (v : Float) → T (within (inf s) v) → ⊥
unfolding sub add neg lt of_bits
far_edge s nan w = absurd w
far_edge true (inf true) w = absurd w
far_edge true (inf false) w = absurd w
far_edge false (inf true) w = absurd w
far_edge false (inf false) w = absurd w
far_edge true (fin t m e) w = absurd w
far_edge false (fin t m e) w = absurd w

pub past_end : (start end v : Float) → T (le E (sub binary32 end start)) → T (le end v) → T (within start v) → ⊥
past_end nan end v wide h w = no_edge v w
past_end (inf s) end v wide h w = far_edge s v w
past_end (fin s m e) nan v wide h w = absurd (unfold le lt eq in h)
past_end (fin s m e) (inf true) v wide h w = absurd (unfold le lt eq sub add neg of_bits in wide)
past_end (fin s m e) (inf false) nan wide h w = absurd (unfold le lt eq in h)
past_end (fin s m e) (inf false) (inf true) wide h w = absurd (unfold le lt eq in h)
past_end (fin s m e) (inf false) (inf false) wide h w = absurd (unfold sub add neg lt of_bits in w)
past_end (fin s m e) (inf false) (fin t n d) wide h w = absurd (unfold le lt eq in h)
past_end (fin s m e) (fin t n d) v wide h w = lt_not_le (abs (sub binary32 v (fin s m e))) E w (beyond binary32 E (fin s m e) (fin t n d) v tt tt wide h)

pub up_to_start : (start end v : Float) → T (not (is_nan v)) → T (le E (sub binary32 end start)) → T (le v start) → T (within end v) → ⊥
up_to_start start nan v n wide h w = no_edge v w
up_to_start start (inf s) v n wide h w = far_edge s v w
up_to_start nan (fin t m e) v n wide h w = absurd (unfold le lt eq sub add neg of_bits in wide)
up_to_start (inf false) (fin t m e) v n wide h w = absurd (unfold le lt eq sub add neg of_bits in wide)
up_to_start (inf true) (fin t m e) nan n wide h w = absurd (unfold is_nan in n)
up_to_start (inf true) (fin t m e) (inf true) n wide h w = absurd (unfold sub add neg lt of_bits in w)
up_to_start (inf true) (fin t m e) (inf false) n wide h w = absurd (unfold le lt eq in h)
up_to_start (inf true) (fin t m e) (fin u k d) n wide h w = absurd (unfold le lt eq in h)
up_to_start (fin s k d) (fin t m e) v n wide h w = lt_not_le (abs (sub binary32 v (fin t m e))) E w (before binary32 E (fin s k d) (fin t m e) v tt tt n wide h)
