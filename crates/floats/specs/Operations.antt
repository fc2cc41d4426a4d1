-- Sum, difference, product and quotient in a binary format b, on every operand, written from IEEE 754-2019, and not from the library's algorithms.
-- 5.1: of finite operands each is the exact result, rounded once. A finite datum `fin s m e` is ±(m * up e) / down e, a zero where m is 0.
-- 6.2: a NaN operand gives a NaN. 7.2: so does an operation that has no result. There is one `nan`. Definitions only.
use Rattle.std.specs.Prelude.{◌≡◌, ℕ, zero, suc, ◌+◌, ◌*◌, Bool, true, false, not, ◌&&◌, Float}
use Rattle.std.specs.Float.{nan, inf, fin}
use Rattle.std.specs.Float.Ieee.{up, down, unlike}
use Rattle.std.specs.Float.Ieee.Exact.{HasValue}
use Rattle.floats.specs.Signed.{positive, negative}
use Rattle.floats.specs.Formats.{Binary}
use Rattle.floats.specs.Rounding.{Rounds}

-- ±a + ±b = ±n, with each negative number on the other side. 6.3: a zero is negative only where both operands are
pub record Sum (s : Bool) (a : ℕ) (t : Bool) (b : ℕ) (u : Bool) (n : ℕ) : Type 0 where
  pub exact : positive s a + positive t b + negative u n ≡ negative s a + negative t b + positive u n
  pub zero : n ≡ 0 → u ≡ (s && t)

-- 5.4.1 addition: r is x + y. 6.1: an infinity and a finite number, or one of the same sign, make that infinity; 7.2 d: opposite infinities have no sum
abbrev pub Adds : Binary → Float → Float → Float → Type 0
Adds b nan y r = r ≡ nan
Adds b (inf s) nan r = r ≡ nan
Adds b (inf true) (inf true) r = r ≡ inf true
Adds b (inf true) (inf false) r = r ≡ nan
Adds b (inf false) (inf true) r = r ≡ nan
Adds b (inf false) (inf false) r = r ≡ inf false
Adds b (inf s) (fin t n d) r = r ≡ inf s
Adds b (fin s m e) nan r = r ≡ nan
Adds b (fin s m e) (inf t) r = r ≡ inf t
Adds b (fin s m e) (fin t n d) r = (u : Bool) × (k : ℕ) × Sum s (m * up e * down d) t (n * up d * down e) u k × Rounds b u k (down e * down d) r

-- 5.5.1 negate: the other sign. A NaN has none here, and stays one
abbrev pub opposite : Float → Float
opposite nan = nan
opposite (inf s) = inf (not s)
opposite (fin s m e) = fin (not s) m e

-- 5.4.1 subtraction: r is x - y, which 6.3 regards as x + (-y)
abbrev pub Subtracts : Binary → Float → Float → Float → Type 0
Subtracts b x y r = Adds b x (opposite y) r

-- 5.4.1 multiplication: r is x * y. 6.3: negative where one operand is and the other is not. 6.1, 7.2 b: zero times infinity has no product
abbrev pub Multiplies : Binary → Float → Float → Float → Type 0
Multiplies b nan y r = r ≡ nan
Multiplies b (inf s) nan r = r ≡ nan
Multiplies b (inf s) (inf t) r = r ≡ inf (unlike s t)
Multiplies b (inf s) (fin t zero d) r = r ≡ nan
Multiplies b (inf s) (fin t (suc n) d) r = r ≡ inf (unlike s t)
Multiplies b (fin s m e) nan r = r ≡ nan
Multiplies b (fin s zero e) (inf t) r = r ≡ nan
Multiplies b (fin s (suc m) e) (inf t) r = r ≡ inf (unlike s t)
Multiplies b (fin s m e) (fin t n d) r = Rounds b (unlike s t) (m * up e * (n * up d)) (down e * down d) r

-- 5.4.1 division: r is x / y, with the sign of 6.3. 6.1: by an infinity it is a zero; 7.3: by a zero an infinity;
-- 7.2 e: 0 / 0 and infinity / infinity have no quotient
abbrev pub Divides : Binary → Float → Float → Float → Type 0
Divides b nan y r = r ≡ nan
Divides b (inf s) nan r = r ≡ nan
Divides b (inf s) (inf t) r = r ≡ nan
Divides b (inf s) (fin t n d) r = r ≡ inf (unlike s t)
Divides b (fin s m e) nan r = r ≡ nan
Divides b (fin s m e) (inf t) r = HasValue r (unlike s t) 0 1
Divides b (fin s zero e) (fin t zero d) r = r ≡ nan
Divides b (fin s (suc m) e) (fin t zero d) r = r ≡ inf (unlike s t)
Divides b (fin s m e) (fin t (suc n) d) r = Rounds b (unlike s t) (m * up e * down d) (suc n * up d * down e) r
