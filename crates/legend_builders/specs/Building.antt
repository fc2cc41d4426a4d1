-- The builders of legends: a kind's builder and the settings. Definitions only.
use Rattle.std.specs.Prelude.{Result}
use Rattle.refusal.specs.declared.Refusal.{Refusal}
use Rattle.refusal.specs.Outcome.{made_into}
use Rattle.colormapper.specs.declared.MappingConfig.{MappingConfig}
use Rattle.linear.specs.declared.Linear.{Linear}
use Rattle.banded.specs.declared.Banded.{Banded}
use Rattle.catgegoric.specs.declared.CategoricNumeric.{CategoricNumeric}
use Rattle.legend.specs.declared.Legend.{Legend}
use Rattle.legend.specs.Record.{linear_legend, banded_legend, categoric_legend}

unfoldable pub linear_with_settings : Result Linear Refusal → MappingConfig → Result Legend Refusal
linear_with_settings made config = made_into (λ linear. linear_legend linear config) made

unfoldable pub banded_with_settings : Result Banded Refusal → MappingConfig → Result Legend Refusal
banded_with_settings made config = made_into (λ banded. banded_legend banded config) made

unfoldable pub categoric_with_settings : Result CategoricNumeric Refusal → MappingConfig → Result Legend Refusal
categoric_with_settings made config = made_into (λ categoric. categoric_legend categoric config) made
