-- What of a record goes on a card, and which records the writer takes (docs/RULES.md, "Cards"). Definitions only.
use Rattle.std.specs.Prelude.{ℕ, Bool, true, false, ◌&&◌, List, [], ◌∷◌, eqb, ℤ, pos, length, take, get_or}
use Rattle.lists.specs.Tabulate.{tabulate}
use Rattle.refusal.specs.Outcome.{if_done}
use Rattle.banded.specs.Record.{banded_of, counted}
use Rattle.categoric_lists.specs.Ascending.{ascends}
use Rattle.categoric_lists.specs.Keys.{keys_refusal}
use Rattle.categoric_build.specs.Categories.{Category, category}
use Rattle.categoric_build.specs.Table.{table_size, table}
use Rattle.catgegoric.specs.declared.CategoricNumeric.{CategoricNumeric}
use Rattle.catgegoric.specs.Made.{record_of}
use Rattle.legend.specs.declared.LegendKind.{LegendKind}
use Rattle.legend.specs.declared.LegendKind.TheVariants as kind
use Rattle.legend.specs.declared.Legend.{Legend}
use Rattle.legend.specs.Record.{linear_legend, banded_legend, categoric_legend}

-- the categories that a record counts
unfoldable pub counted_categories : CategoricNumeric → List Category
counted_categories c = tabulate c.count (λ k. category (get_or c.keys k (pos 0)) (get_or c.colors k 0))

-- strictly ascending, and none beyond the limit of 17
unfoldable pub keys_in_order : (keys : List ℤ) → Bool
keys_in_order keys = ascends keys (length keys) && if_done (keys_refusal keys) true false

-- two lists of words
unfoldable pub same_words : (words others : List ℕ) → Bool
same_words [] [] = true
same_words (w ∷ ws) (o ∷ os) = eqb w o && same_words ws os
same_words [] (o ∷ os) = false
same_words (w ∷ ws) [] = false

-- the table is what the keys give
unfoldable pub table_of_keys : CategoricNumeric → Bool
table_of_keys c =
    let keys = take c.count c.keys in
    eqb c.lookup_count (table_size keys) && same_words (take c.lookup_count c.lookup) (table keys (take c.count c.colors))

abbrev pub in_order_in : LegendKind → Legend → Bool
in_order_in kind.Linear l = true
in_order_in kind.Banded l = true
in_order_in kind.CategoricNumeric l = keys_in_order (take l.categoric.count l.categoric.keys) && table_of_keys l.categoric

-- a categoric record's keys are in order, and its table is theirs
unfoldable pub in_order : Legend → Bool
in_order l = in_order_in l.kind l

-- the record that a builder makes of what a legend counts
abbrev pub rebuilt_in : LegendKind → Legend → Legend
rebuilt_in kind.Linear l = linear_legend l.linear l.mapping_config
rebuilt_in kind.Banded l = banded_legend (banded_of (counted l.banded)) l.mapping_config
rebuilt_in kind.CategoricNumeric l = categoric_legend (record_of (counted_categories l.categoric)) l.mapping_config

unfoldable pub rebuilt : Legend → Legend
rebuilt l = rebuilt_in l.kind l
