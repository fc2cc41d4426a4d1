-- `entries_length` meets its contract. Assumes nothing.
use native.Mathlib.Omega.{arith}
use mathlib.Core.Path.{sym, ap}
use Rattle.legend.proofs.Stored.{bands-stored, categories-stored}
use Rattle.card_write.specs.forms.Length.{entries_length_in, entries_length}
use Rattle.card_write.proofs.refusals.entries_length.Goals as goal

pub overflow_mul-result : goal.overflow_mul-result
overflow_mul-result c =
    record { fits = omega (arith, bands-stored c.args.legend c.requires c.in-Banded.is) }

pub overflow_mul-result-in-CategoricNumeric : goal.overflow_mul-result-in-CategoricNumeric
overflow_mul-result-in-CategoricNumeric c =
    record { fits = omega (arith, (categories-stored c.args.legend c.requires c.in-CategoricNumeric.is).0) }

pub returns-in-Linear : goal.returns-in-Linear
unfolding entries_length
returns-in-Linear c =
    let l = c.args.legend in
    record {
      byte_count = sym (ap (λ k. entries_length_in k l) c.in-Linear.is);
      upper_bound = omega arith;
    }

pub returns-in-Banded : goal.returns-in-Banded
unfolding entries_length
returns-in-Banded c =
    let l = c.args.legend in
    record {
      byte_count = sym (ap (λ k. entries_length_in k l) c.in-Banded.is);
      upper_bound = omega (arith, bands-stored l c.requires c.in-Banded.is);
    }

pub returns-in-CategoricNumeric : goal.returns-in-CategoricNumeric
unfolding entries_length
returns-in-CategoricNumeric c =
    let l = c.args.legend in
    record {
      byte_count = sym (ap (λ k. entries_length_in k l) c.in-CategoricNumeric.is);
      upper_bound = omega (arith, (categories-stored l c.requires c.in-CategoricNumeric.is).0);
    }
