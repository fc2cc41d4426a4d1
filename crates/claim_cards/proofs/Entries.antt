-- The entries of a card there and back, for each kind. Assumes nothing.
use mathlib.Core.Path.{◌≡◌, refl, sym, ap, ap₂, ◌∙◌}
use mathlib.Core.Bool.{Bool, true, ◌&&◌}
use mathlib.Core.List.{List, [], ◌∷◌, ◌++◌, append_assoc}
use Prim.Native.Nat.{ℕ, zero, suc, ◌+◌, ◌*◌, ◌≤◌, ◌<◌}
use native.Mathlib.Omega.{arith}
use lib.Ieee.{Float}
use lib.ListN.{length, take, drop, length-append, length-drop, take-append-drop}
use lib.Seq.{take-add, drop_at}
use Rattle.lists.specs.Each.{each}
use Rattle.lists.specs.Tabulate.{tabulate}
use Rattle.words.specs.Values.{float_of, bits_of, signed_of, unsigned_of}
use Rattle.linear.specs.declared.Linear.{Linear}
use Rattle.banded_columns.specs.declared.LegendBand.{LegendBand}
use Rattle.categoric_build.specs.Categories.{Category}
use Rattle.card_bytes.specs.Numbers.{Bytes, bytes_of, number_at}
use Rattle.card_bytes.specs.Entries.{All, entries_of, entries_in}
use Rattle.card_bytes.proofs.Numbers.{length-bytes_of, Bytes-drop, number_at_front, number_at-below, number_at-drop, part_back}
use Rattle.card_bytes.proofs.Entries.{length-entries_of, length-entries_in, entries_in-none, entries_in_first, entries_back, entries_again}
use Rattle.card_layout.specs.Entries.{linear_bytes, linear_in, band_bytes, band_in, category_bytes, category_in, canonical, bounds_canonical}
use Rattle.claim_cards.specs.Held.{Word, Single, Key, HeldLinear, HeldBand}
use Rattle.claim_cards.proofs.Values.{float_single, bits_word, bits_back, bits_canonical, bits_again, key_bits, key_back, key_again}
use Rattle.claim_cards.proofs.Settings.{both}
use Rattle.claim_cards.proofs.Fields.{skip, past, long}

-- ---- of all entries
module _ {A : Type 0} where
  pub all_tabulated : (P : A → Type 0) (n : ℕ) (f : ℕ → A) → ((k : ℕ) → k < n → P (f k)) → All P (tabulate n f)
  unfolding tabulate All
  all_tabulated P zero f h = tt
  all_tabulated P (suc n) f h = (h zero (omega arith), all_tabulated P n (λ k. f (suc k)) (λ k q. h (suc k) (omega arith)))

  pub all-entries : (P : A → Type 0) (w n : ℕ) (read : List ℕ → A) (bytes : List ℕ) → Bytes bytes → ((e : List ℕ) → Bytes e → P (read e))
      → All P (entries_in w n read bytes)
  unfolding entries_in
  all-entries P w n read bytes b h = all_tabulated P n (λ k. read (drop (w * k) bytes)) (λ k q. h (drop (w * k) bytes) (Bytes-drop (w * k) bytes b))

  -- what each entry that is written passes
  pub each-written : (w : ℕ) (write : A → List ℕ) (test : List ℕ → Bool) (P : A → Type 0) → ((x : A) → length (write x) ≡ w)
      → ((x : A) → P x → (rest : List ℕ) → test (write x ++ rest) ≡ true)
      → (xs : List A) → All P xs → each test (entries_in w (length xs) (λ e. e) (entries_of write xs)) ≡ true
  unfolding entries_of All each
  each-written w write test P size passes [] h = ap (each test) (entries_in-none w (λ e. e) [])
  each-written w write test P size passes (x ∷ xs) h =
      let rest = entries_of write xs in
      ap (each test) (entries_in_first w (length xs) (λ e. e) (write x ++ rest))
      ∙ ap₂ ◌&&◌ (passes x h.0 rest)
      (ap (λ (r : List ℕ). each test (entries_in w (length xs) (λ e. e) r)) (drop_at (write x) rest w (size x))
      ∙ each-written w write test P size passes xs h.1)

-- ---- the two bounds that linear and banded entries start with
abbrev bounds : (start end : Float) → List ℕ
bounds start end = bytes_of 4 (bits_of start) ++ bytes_of 4 (bits_of end)

module _ (start end : Float) (a : Single start) (b : Single end) (rest : List ℕ) where
  abbrev on : List ℕ
  on = bounds start end ++ rest

  nested : on ≡ bytes_of 4 (bits_of start) ++ (bytes_of 4 (bits_of end) ++ rest)
  nested = append_assoc (bytes_of 4 (bits_of start)) (bytes_of 4 (bits_of end)) rest

  start_at : number_at 0 4 on ≡ bits_of start
  start_at = ap (number_at 0 4) nested ∙ number_at_front 4 (bits_of start) (bytes_of 4 (bits_of end) ++ rest) (bits_word start a)

  end_at : number_at 4 4 on ≡ bits_of end
  end_at = ap (number_at 4 4) nested ∙ skip 4 (bits_of start) (bytes_of 4 (bits_of end) ++ rest) 0 4 ∙ number_at_front 4 (bits_of end) rest (bits_word end b)

  start_back : float_of (number_at 0 4 on) ≡ start
  start_back = ap float_of start_at ∙ bits_back start a

  end_back : float_of (number_at 4 4 on) ≡ end
  end_back = ap float_of end_at ∙ bits_back end b

  after_bounds : (k : ℕ) → drop (8 + k) on ≡ drop k rest
  after_bounds k =
      ap (drop (8 + k)) nested ∙ ap (λ (j : ℕ). drop j (bytes_of 4 (bits_of start) ++ (bytes_of 4 (bits_of end) ++ rest))) (eight k)
      ∙ past 4 (bits_of start) (bytes_of 4 (bits_of end) ++ rest) (4 + k) ∙ past 4 (bits_of end) rest k
    where
      eight : (k : ℕ) → 8 + k ≡ 4 + (4 + k)
      eight k = omega arith

  bounds-canonical : bounds_canonical on ≡ true
  unfolding bounds_canonical
  bounds-canonical = ap₂ ◌&&◌ (ap canonical start_at ∙ bits_canonical start a) (ap canonical end_at ∙ bits_canonical end b)

-- read and written
module _ (e : List ℕ) (bytes : Bytes e) (size : 8 ≤ length e) (kept : bounds_canonical e ≡ true) where
  bounds_again : bounds (float_of (number_at 0 4 e)) (float_of (number_at 4 4 e)) ≡ take 8 e
  unfolding bounds_canonical
  bounds_again =
      let k = both (canonical (number_at 0 4 e)) (canonical (number_at 4 4 e)) kept in
      let a = ap (bytes_of 4) (bits_again (number_at 0 4 e) (number_at-below 0 4 e bytes) k.0) ∙ part_back 0 4 e bytes (omega (arith, size)) in
      let b = ap (bytes_of 4) (bits_again (number_at 4 4 e) (number_at-below 4 4 e bytes) k.1) ∙ part_back 4 4 e bytes (omega (arith, size)) in
      ap₂ ◌++◌ a b ∙ sym (take-add 4 4 e)

-- ---- linear
module _ (l : Linear) (held : HeldLinear l) where
  abbrev colors : List ℕ
  colors = entries_of (bytes_of 4) l.cmap

  ramp_back : entries_in 4 256 (number_at 0 4) colors ≡ l.cmap
  ramp_back =
      ap (λ (n : ℕ). entries_in 4 n (number_at 0 4) colors) (sym held.places)
      ∙ entries_back 4 (bytes_of 4) (number_at 0 4) Word (length-bytes_of 4) (λ x h rest. number_at_front 4 x rest h) l.cmap held.colors

  pub linear_back : linear_in (linear_bytes l) ≡ l
  unfolding linear_in linear_bytes
  linear_back =
      let a = start_back l.start l.end held.start held.end colors in
      let b = end_back l.start l.end held.start held.end colors in
      let c = ap (entries_in 4 256 (number_at 0 4)) (after_bounds l.start l.end held.start held.end colors 0) ∙ ramp_back in
      λ i. record { start = a i; end = b i; cmap = c i }

  pub linear_size : length (linear_bytes l) ≡ 1032
  unfolding linear_bytes
  linear_size =
      let whole : length (linear_bytes l) ≡ length (bounds l.start l.end ++ colors) = refl in
      omega (
        arith,
        whole,
        held.places,
        length-append (bounds l.start l.end) colors,
        long 4 (bits_of l.start) (bytes_of 4 (bits_of l.end)),
        length-bytes_of 4 (bits_of l.end),
        length-entries_of 4 (bytes_of 4) l.cmap (length-bytes_of 4),
      )

  pub linear-canonical : bounds_canonical (linear_bytes l) ≡ true
  unfolding linear_bytes
  linear-canonical = bounds-canonical l.start l.end held.start held.end colors

module _ (e : List ℕ) (bytes : Bytes e) where
  pub linear_held : HeldLinear (linear_in e)
  unfolding linear_in
  linear_held =
      record {
        start = float_single (number_at 0 4 e);
        end = float_single (number_at 4 4 e);
        places = length-entries_in 4 256 (number_at 0 4) (drop 8 e);
        colors = all-entries Word 4 256 (number_at 0 4) (drop 8 e) (Bytes-drop 8 e bytes) (λ r b. number_at-below 0 4 r b);
      }

  pub linear_again : length e ≡ 1032 → bounds_canonical e ≡ true → linear_bytes (linear_in e) ≡ e
  unfolding linear_bytes linear_in
  linear_again size kept =
      ap₂ ◌++◌ (bounds_again e bytes (omega (arith, size)) kept)
      (entries_again 4 256 (bytes_of 4) (number_at 0 4) Bytes (drop 8 e) (omega (arith, size, length-drop 8 e))
      (λ k h. Bytes-drop (4 * k) (drop 8 e) (Bytes-drop 8 e bytes)) (λ r h b. part_back 0 4 r b h))
      ∙ take-append-drop 8 e

-- ---- banded
module _ (b : LegendBand) (held : HeldBand b) (rest : List ℕ) where
  abbrev color_on : List ℕ
  color_on = bytes_of 4 b.color ++ rest

  band_nested : band_bytes b ++ rest ≡ bounds b.start b.end ++ color_on
  unfolding band_bytes
  band_nested = append_assoc (bounds b.start b.end) (bytes_of 4 b.color) rest

  pub band_back : band_in (band_bytes b ++ rest) ≡ b
  unfolding band_in
  band_back =
      let s = ap (λ (r : List ℕ). float_of (number_at 0 4 r)) band_nested ∙ start_back b.start b.end held.start held.end color_on in
      let e = ap (λ (r : List ℕ). float_of (number_at 4 4 r)) band_nested ∙ end_back b.start b.end held.start held.end color_on in
      let c =
      ap (number_at 8 4) band_nested ∙ sym (number_at-drop 8 0 4 (bounds b.start b.end ++ color_on))
      ∙ ap (number_at 0 4) (after_bounds b.start b.end held.start held.end color_on 0) ∙ number_at_front 4 b.color rest held.color in
      λ i. record { start = s i; end = e i; color = c i }

  pub band-canonical : bounds_canonical (band_bytes b ++ rest) ≡ true
  band-canonical = ap bounds_canonical band_nested ∙ bounds-canonical b.start b.end held.start held.end color_on

module _ (e : List ℕ) where
  pub band_held : Bytes e → HeldBand (band_in e)
  unfolding band_in
  band_held b = record { start = float_single (number_at 0 4 e); end = float_single (number_at 4 4 e); color = number_at-below 8 4 e b }

  pub band_again : 12 ≤ length e → Bytes e × (bounds_canonical e ≡ true) → band_bytes (band_in e) ≡ take 12 e
  unfolding band_bytes band_in
  band_again size kept =
      ap₂ ◌++◌ (bounds_again e kept.0 (omega (arith, size)) kept.1) (part_back 8 4 e kept.0 (omega (arith, size))) ∙ sym (take-add 8 4 e)

-- ---- categoric
pub record HeldCategory (c : Category) : Type 0 where
  pub key : Key c.key
  pub color : Word c.color

module _ (c : Category) (held : HeldCategory c) (rest : List ℕ) where
  pub category_back : category_in (category_bytes c ++ rest) ≡ c
  unfolding category_in category_bytes
  category_back =
      let nest = append_assoc (bytes_of 8 (unsigned_of c.key)) (bytes_of 4 c.color) rest in
      let color_on = bytes_of 4 c.color ++ rest in
      let k =
      ap (λ (r : List ℕ). signed_of (number_at 0 8 r)) nest ∙ ap signed_of (number_at_front 8 (unsigned_of c.key) color_on (key_bits c.key held.key))
      ∙ key_back c.key held.key in
      let w =
      ap (number_at 8 4) nest ∙ skip 8 (unsigned_of c.key) color_on 0 4 ∙ number_at_front 4 c.color rest held.color in
      λ i. record { key = k i; color = w i }

module _ (e : List ℕ) (bytes : Bytes e) where
  pub category_held : HeldCategory (category_in e)
  unfolding category_in
  category_held = record { key = (key_again (number_at 0 8 e) (number_at-below 0 8 e bytes)).1; color = number_at-below 8 4 e bytes }

  pub category_again : 12 ≤ length e → category_bytes (category_in e) ≡ take 12 e
  unfolding category_bytes category_in
  category_again size =
      ap (λ (n : ℕ). bytes_of 8 n ++ bytes_of 4 (number_at 8 4 e)) (key_again (number_at 0 8 e) (number_at-below 0 8 e bytes)).0
      ∙ ap₂ ◌++◌ (part_back 0 8 e bytes (omega (arith, size))) (part_back 8 4 e bytes (omega (arith, size)))
      ∙ sym (take-add 8 4 e)
