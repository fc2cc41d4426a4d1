-- `Color::hex_form` meets its contract: a text of 7 or 9 bytes has a first one to look at. Assumes nothing.
use mathlib.Core.Logic.{⊎_elim}
use mathlib.Core.Path.{sym}
use native.Mathlib.Omega.{arith}
use Rattle.color.proofs.Form.{right_length, wrong_length}
use Rattle.color.proofs.Color.hex_form.Goals as goal

pub bounds-text-0 : goal.bounds-text-0
bounds-text-0 c = ⊎_elim (λ w. omega arith) (λ w. omega arith) c.in-7.is

pub returns-in-7 : goal.returns-in-7
returns-in-7 c = sym (right_length _ c.in-7.is)

pub returns-in_default : goal.returns-in_default
returns-in_default c = sym (wrong_length _ c.in_default.in_default-own.rest.1)
