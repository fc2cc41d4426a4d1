-- THE CHUNKING RULE over whole outputs, for any lane count above 0 and any kind: from a law of one chunk to what the two contracts promise. Assumes nothing.
use Rattle.std.specs.Prelude.{Ok}
use mathlib.Core.Path.{◌≡◌, refl, sym, ap, subst, subst₂, ◌∙◌}
use mathlib.Core.Logic.{◌⊎◌, inl, inr, ⊎_elim}
use mathlib.Core.Bool.{Bool, true, false, cond, true≢false}
use mathlib.Core.List.{List, ◌++◌, map}
use Prim.Native.Nat.{ℕ, zero, suc, ◌+◌, ◌-◌, ◌*◌, ◌/◌, ◌≤◌, ◌<◌}
use native.Mathlib.Nat.{div-mul-le_self, lt_of_lt_of_le, suc-mul}
use native.Mathlib.Omega.{arith}
use lib.Ieee.{Float, nan}
use lib.ListN.{length, take, drop, get_or, length-drop, get_or-append}
use lib.Seq.{length-take-le, get_or-take, get_or-drop, get_or-append-add}
use Rattle.lists.proofs.Numbers.{lt_or_le}
use Rattle.painting.specs.Painted.{chunked, full, lane_painted}
use Rattle.painting.specs.Paintings.{Painter, PlainPainting, LanePainting}
use Rattle.painting.specs.forms.ChunkLaw.{Terms, ChunkLaw, PainterLaw}
use Rattle.painting.proofs.Lists.{get_or-map_in}

-- an element of a join: of the first list, or of the second, by its place there
in_first : (s t : List ℕ) (i : ℕ) → i < length s → get_or (s ++ t) i 0 ≡ get_or s i 0
in_first s t i h = get_or-append s t 0 i h

in_second : (s t : List ℕ) (i : ℕ) → length s ≤ i → get_or (s ++ t) i 0 ≡ get_or t (i - length s) 0
in_second s t i h = ap (λ (n : ℕ). get_or (s ++ t) n 0) e ∙ get_or-append-add s t (i - length s) 0
  where
    e : i ≡ length s + (i - length s)
    e = omega arith

module _ (L : ℕ) (chunk : List Float → List ℕ) (plain : Float → ℕ) (t : Terms) (law : ChunkLaw L chunk plain t)
    (alike : (v w : Float) → t.Alike v w → plain v ≡ plain w) where
  -- the first of k + 1 chunks, and the others, in a raster that is long enough
  module _ (k : ℕ) (xs : List Float) (h : suc k * L ≤ length xs) where
    abbrev first : List Float
    first = take L xs

    abbrev later : List ℕ
    later = chunked k L chunk plain (drop L xs)

    more : suc k * L ≡ k * L + L
    more = suc-mul k L

    first_long : length first ≡ L
    first_long = length-take-le L xs (omega (arith, more))

    painted-long : length (chunk first) ≡ L
    painted-long = law.long first first_long

    in_first_chunk : (i : ℕ) → i < L → (get_or (chunk first ++ later) i 0 ≡ get_or (chunk first) i 0) × (get_or first i nan ≡ get_or xs i nan)
    in_first_chunk i b = (in_first (chunk first) later i (omega (arith, painted-long)), get_or-take L xs i nan b)

    in_later_chunk : (i : ℕ) → L ≤ i → (get_or (chunk first ++ later) i 0 ≡ get_or later (i - L) 0) × (get_or (drop L xs) (i - L) nan ≡ get_or xs i nan)
    in_later_chunk i b =
        let back : L + (i - L) ≡ i = omega arith in (
          in_second (chunk first) later i (omega (arith, painted-long)) ∙ ap (λ (m : ℕ). get_or later (i - m) 0) painted-long,
          get_or-drop L xs (i - L) nan
              ∙ ap (λ (m : ℕ). get_or xs m nan) back,
        )

  -- k chunks, then the rest plainly
  same-chunked : (k : ℕ) (xs : List Float) → k * L ≤ length xs → (i : ℕ) → i < length xs
      → (get_or (chunked k L chunk plain xs) i 0 ≡ plain (get_or xs i nan)) ⊎ ((i < k * L) × t.RoundingException (get_or xs i nan))
  unfolding chunked
  same-chunked zero xs h i l = inl (sym (get_or-map_in plain xs i nan 0 l))
  same-chunked (suc k) xs h i l = ⊎_elim
      (λ (b : i < L).
      let at = in_first_chunk k xs h i b in
      ⊎_elim (λ e. inl (at.0 ∙ e ∙ ap plain at.1)) (λ o. inr (omega (arith, more k xs h), subst t.RoundingException at.1 o))
      (law.lane (first k xs h) (first_long k xs h) i b))
      (λ (b : L ≤ i).
      let at = in_later_chunk k xs h i b in
      ⊎_elim (λ e. inl (at.0 ∙ e ∙ ap plain at.1)) (λ o. inr (omega (arith, more k xs h), subst t.RoundingException at.1 o.1))
      (same-chunked k (drop L xs) (omega (arith, more k xs h, length-drop L xs)) (i - L) (omega (arith, length-drop L xs))))
      (lt_or_le i L)

  differs-chunked : (k : ℕ) (xs : List Float) → k * L ≤ length xs → (i : ℕ) → i < k * L → t.RoundingException (get_or xs i nan)
      → (get_or (chunked k L chunk plain xs) i 0 ≡ t.lane-color) × (plain (get_or xs i nan) ≡ t.plain-color)
  unfolding chunked
  differs-chunked zero xs h i l o = absurd (omega arith)
  differs-chunked (suc k) xs h i l o = ⊎_elim
      (λ (b : i < L).
      let at = in_first_chunk k xs h i b in
      let d = law.exception (first k xs h) (first_long k xs h) i b (subst t.RoundingException (sym at.1) o) in
      (at.0 ∙ d.0, ap plain (sym at.1) ∙ d.1))
      (λ (b : L ≤ i).
      let at = in_later_chunk k xs h i b in
      let d = differs-chunked k (drop L xs) (omega (arith, more k xs h, length-drop L xs)) (i - L) (omega (arith, more k xs h))
      (subst t.RoundingException (sym at.1) o) in
      (at.0 ∙ d.0, ap plain (sym at.1) ∙ d.1))
      (lt_or_le i L)

  alone-chunked : (k : ℕ) (xs ys : List Float) → k * L ≤ length xs → k * L ≤ length ys → (i : ℕ) → i < length xs → i < length ys
      → t.Alike (get_or xs i nan) (get_or ys i nan)
      → get_or (chunked k L chunk plain xs) i 0 ≡ get_or (chunked k L chunk plain ys) i 0
  unfolding chunked
  alone-chunked zero xs ys h g i l m a = sym (get_or-map_in plain xs i nan 0 l) ∙ alike (get_or xs i nan) (get_or ys i nan) a ∙ get_or-map_in plain ys i nan 0 m
  alone-chunked (suc k) xs ys h g i l m a = ⊎_elim
      (λ (b : i < L).
      let x = in_first_chunk k xs h i b in
      let y = in_first_chunk k ys g i b in
      x.0 ∙ law.by_sample (first k xs h) (first k ys g) (first_long k xs h) (first_long k ys g) i b (subst₂ t.Alike (sym x.1) (sym y.1) a)
      ∙ sym y.0)
      (λ (b : L ≤ i).
      let x = in_later_chunk k xs h i b in
      let y = in_later_chunk k ys g i b in
      x.0
      ∙ alone-chunked k (drop L xs) (drop L ys) (omega (arith, more k xs h, length-drop L xs)) (omega (arith, more k xs h, length-drop L ys)) (i - L)
      (omega (arith, length-drop L xs)) (omega (arith, length-drop L ys))
      (subst₂ t.Alike (sym x.1) (sym y.1) a)
      ∙ sym y.0)
      (lt_or_le i L)

-- ---- what the contracts promise where nothing is refused
module _ (p : Painter) (L : ℕ) (t : Terms) (law : PainterLaw p L t) where
  -- the output of a lane painting, with a rule for lanes or without
  abbrev in_lanes_lem : Bool → List Float → List ℕ
  in_lanes_lem b xs = cond b (lane_painted L p.chunk p.plain xs) (map p.plain xs)

  plain_at : {xs : List Float} {o o' : List ℕ} → PlainPainting p xs o (Ok tt) o' → (i : ℕ) → i < length xs → get_or o' i 0 ≡ p.plain (get_or xs i nan)
  plain_at {xs} {o} P i l = ap (λ w. get_or w i 0) P.output ∙ sym (get_or-map_in p.plain xs i nan 0 l)

  lane_at_lem : {xs : List Float} {q q' s s' : List ℕ} → LanePainting p L xs q s (Ok tt) q' s' → (i : ℕ) → get_or q' i 0 ≡ get_or (in_lanes_lem p.simd xs) i 0
  lane_at_lem P i = ap (λ w. get_or w i 0) P.output

  -- at one pixel
  same_at : (b : Bool) → (b ≡ true → ChunkLaw L p.chunk p.plain t) → (xs : List Float) (i : ℕ) → i < length xs
      → (get_or (in_lanes_lem b xs) i 0 ≡ p.plain (get_or xs i nan)) ⊎ ((i < full L (length xs)) × t.RoundingException (get_or xs i nan))
  unfolding lane_painted
  same_at true h xs i l = same-chunked L p.chunk p.plain t (h refl) law.plain_by_sample (length xs / L) xs (div-mul-le_self (length xs) L) i l
  same_at false h xs i l = inl (sym (get_or-map_in p.plain xs i nan 0 l))

  differs_at : (b : Bool) → (b ≡ true → ChunkLaw L p.chunk p.plain t) → b ≡ true → (xs : List Float) (i : ℕ) → i < full L (length xs)
      → t.RoundingException (get_or xs i nan)
      → (get_or (in_lanes_lem b xs) i 0 ≡ t.lane-color) × (p.plain (get_or xs i nan) ≡ t.plain-color)
  unfolding lane_painted
  differs_at true h e xs i l o =
      differs-chunked L p.chunk p.plain t (h refl) law.plain_by_sample (length xs / L) xs (div-mul-le_self (length xs) L) i l o
  differs_at false h e xs i l o = absurd (true≢false (sym e))

  alone_at : (b : Bool) → (b ≡ true → ChunkLaw L p.chunk p.plain t) → (xs ys : List Float) → length xs ≡ length ys → (i : ℕ) → i < length xs
      → t.Alike (get_or xs i nan) (get_or ys i nan)
      → get_or (in_lanes_lem b xs) i 0 ≡ get_or (in_lanes_lem b ys) i 0
  unfolding lane_painted
  alone_at true h xs ys e i l a =
      alone-chunked L p.chunk p.plain t (h refl) law.plain_by_sample (length xs / L) xs ys (div-mul-le_self (length xs) L)
      (subst (λ (n : ℕ). n / L * L ≤ length ys) (sym e) (div-mul-le_self (length ys) L)) i l (omega arith) a
      ∙ ap (λ (n : ℕ). get_or (chunked (n / L) L p.chunk p.plain ys) i 0) e
  alone_at false h xs ys e i l a =
      sym (get_or-map_in p.plain xs i nan 0 l) ∙ law.plain_by_sample (get_or xs i nan) (get_or ys i nan) a ∙ get_or-map_in p.plain ys i nan 0 (omega arith)

  -- ---- of any two calls that keep their contracts and are not refused, whatever output and scratch held before
  pub pixel_same : {xs : List Float} {o o' q q' s s' : List ℕ} → PlainPainting p xs o (Ok tt) o' → LanePainting p L xs q s (Ok tt) q' s' → (i : ℕ) → i < length xs
      → (get_or q' i 0 ≡ get_or o' i 0) ⊎ ((i < full L (length xs)) × t.RoundingException (get_or xs i nan))
  pixel_same {xs} P Q i l = ⊎_elim (λ e. inl (lane_at_lem Q i ∙ e ∙ sym (plain_at P i l))) (λ o. inr o) (same_at p.simd law.chunks xs i l)

  pub pixel_differs : {xs : List Float} {o o' q q' s s' : List ℕ} → PlainPainting p xs o (Ok tt) o' → LanePainting p L xs q s (Ok tt) q' s'
      → (i : ℕ) → i < full L (length xs) → t.RoundingException (get_or xs i nan) → (get_or q' i 0 ≡ t.lane-color) × (get_or o' i 0 ≡ t.plain-color)
  pixel_differs {xs} P Q i l o =
      let d = differs_at p.simd law.chunks (law.exception-in_lanes (get_or xs i nan) o) xs i l o in
      (lane_at_lem Q i ∙ d.0, plain_at P i (lt_of_lt_of_le l (div-mul-le_self (length xs) L)) ∙ d.1)

  -- the lane paintings of two rasters of one length
  pub pixel_alone : {xs ys : List Float} {q q' s s' r r' u u' : List ℕ} → LanePainting p L xs q s (Ok tt) q' s' → LanePainting p L ys r u (Ok tt) r' u'
      → length xs ≡ length ys → (i : ℕ) → i < length xs → t.Alike (get_or xs i nan) (get_or ys i nan) → get_or q' i 0 ≡ get_or r' i 0
  pixel_alone {xs} {ys} P Q e i l a = lane_at_lem P i ∙ alone_at p.simd law.chunks xs ys e i l a ∙ sym (lane_at_lem Q i)
