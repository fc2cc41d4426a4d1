-- `Color::hex_digit` meets its contract: the tests leave one of seven stretches of bytes. Assumes nothing.
use mathlib.Core.Path.{sym}
use native.Mathlib.Omega.{arith}
use Rattle.color.proofs.Digits.{decimal, upper, lower, no_digit}
use Rattle.color.proofs.Color.hex_digit.Goals as goal

pub returns-in-48-to-57 : goal.returns-in-48-to-57
returns-in-48-to-57 c = sym (decimal _ (omega arith) (omega arith))

pub returns-in-65-to-70 : goal.returns-in-65-to-70
returns-in-65-to-70 c = sym (upper _ (omega arith) (omega arith))

pub returns-in-97-to-102 : goal.returns-in-97-to-102
returns-in-97-to-102 c = sym (lower _ (omega arith) (omega arith))

pub returns-in_default : goal.returns-in_default
returns-in_default c = sym (no_digit _ (λ p q. omega arith) (λ p q. omega arith) (λ p q. omega arith))

pub returns-in_default-2 : goal.returns-in_default-2
returns-in_default-2 c = sym (no_digit _ (λ p q. omega arith) (λ p q. omega arith) (λ p q. omega arith))

pub returns-in_default-3 : goal.returns-in_default-3
returns-in_default-3 c = sym (no_digit _ (λ p q. omega arith) (λ p q. omega arith) (λ p q. omega arith))

pub returns-in_default-4 : goal.returns-in_default-4
returns-in_default-4 c = sym (no_digit _ (λ p q. omega arith) (λ p q. omega arith) (λ p q. omega arith))
