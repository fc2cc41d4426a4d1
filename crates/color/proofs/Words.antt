-- Colours of bytes and words below 2 ^ 32 are the same thing twice: `word_of` and `color_of` undo each other. Assumes nothing.
use Prim.Native.Nat.{ℕ, ◌+◌, ◌*◌, ◌/◌, ◌%◌, ◌^◌, ◌<◌}
use mathlib.Core.Path.{◌≡◌, refl}
use native.Mathlib.Nat.{div-div-eq-div-mul}
use native.Mathlib.Omega.{arith}
use Rattle.color.specs.declared.Color.{Color}
use Rattle.color.specs.Word.{word_of, color_of, transparent, Bytes}

pub word_below : (c : Color) → Bytes c → word_of c < 2 ^ 32
word_below c h = omega arith

pub color_bytes : (w : ℕ) → Bytes (color_of w)
unfolding color_of
color_bytes w =
    record { r = omega arith; g = omega arith; b = omega arith; a = omega arith }

pub word_of-color : (w : ℕ) → w < 2 ^ 32 → word_of (color_of w) ≡ w
unfolding color_of
word_of-color w h =
    let top : w / 16777216 / 256 ≡ 0 = omega arith
    in omega (arith, div-div-eq-div-mul w 256 256, div-div-eq-div-mul w 65536 256)

-- two colours are equal by their channels
same-color :
    (c d : Color) → c.r ≡ d.r → c.g ≡ d.g → c.b ≡ d.b → c.a ≡ d.a → c ≡ d
same-color c d r g b a = λ i. record { r = r i; g = g i; b = b i; a = a i }

pub color_of_word : (c : Color) → Bytes c → color_of (word_of c) ≡ c
unfolding color_of
color_of_word c h =
    same-color (color_of (word_of c)) c (omega arith) (omega arith) (omega arith) (omega arith)

pub word_transparent : word_of transparent ≡ 0
word_transparent = refl
