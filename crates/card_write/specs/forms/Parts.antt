-- The fields of a card before its entries, in two parts: up to the title, and the settings with the count. The rule is `bytes_of_fields`; the law is
-- `card_parts` (proofs/Lengths.antt). And the categories of a list of keys and a list of colours. The rule is `counted_categories`; the law is
-- `paired_counted` (proofs/Pairing.antt). Definitions only.
use Rattle.std.specs.Prelude.{ℕ, ℤ, List, [], ◌∷◌, ◌++◌, length}
use Rattle.categoric_build.specs.Categories.{Category, category}
use Rattle.colormapper.specs.declared.MappingConfig.{MappingConfig}
use Rattle.colormapper.specs.Settings.{or_else}
use Rattle.card_bytes.specs.Numbers.{bytes_of}
use Rattle.card_layout.specs.Fields.{mark, version}
use Rattle.card_layout.specs.Settings.{flags_of}

unfoldable pub head_bytes : (kind : ℕ) (title : List ℕ) → List ℕ
head_bytes kind title = bytes_of 3 mark ++ bytes_of 2 version ++ bytes_of 1 kind ++ bytes_of 1 (length title) ++ title

unfoldable pub settings_bytes : MappingConfig → (count : ℕ) → List ℕ
settings_bytes config count =
    bytes_of 4 config.nodata_color
    ++ bytes_of 1 (flags_of config)
    ++ bytes_of 4 (or_else config.out_of_range_low_color 0)
    ++ bytes_of 4 (or_else config.out_of_range_high_color 0)
    ++ bytes_of 2 count

-- each key with the colour at its place
unfoldable pub paired : (keys : List ℤ) (colors : List ℕ) → List Category
paired [] colors = []
paired (key ∷ keys) [] = []
paired (key ∷ keys) (color ∷ colors) = category key color ∷ paired keys colors
