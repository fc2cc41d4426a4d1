-- The kinds of rows by their numbers. Definitions only.
use Rattle.std.specs.Prelude.{ℕ, List, [], ◌∷◌, Option, slice_get}
use Rattle.replay_rows.specs.declared.kind.RowKind.{RowKind}
use Rattle.replay_rows.specs.declared.kind.RowKind.TheVariants as kind

-- in the order of their numbers, from 0 on
abbrev pub kinds : List RowKind
kinds =
    kind.Palette
    ∷ kind.HexText
    ∷ kind.RampLookups
    ∷ kind.WholeNumbers
    ∷ kind.Linear
    ∷ kind.EqualBands
    ∷ kind.ManualRanges
    ∷ kind.BandsGiven
    ∷ kind.CategoriesByValues
    ∷ kind.CategoriesByRange
    ∷ kind.LinearStored
    ∷ kind.CategoriesStored
    ∷ []

-- by a row's first word; from 12 on a word is no kind
abbrev pub kind_from : ℕ → Option RowKind
kind_from word = slice_get kinds word

abbrev pub number_of : RowKind → ℕ
number_of kind.Palette = 0
number_of kind.HexText = 1
number_of kind.RampLookups = 2
number_of kind.WholeNumbers = 3
number_of kind.Linear = 4
number_of kind.EqualBands = 5
number_of kind.ManualRanges = 6
number_of kind.BandsGiven = 7
number_of kind.CategoriesByValues = 8
number_of kind.CategoriesByRange = 9
number_of kind.LinearStored = 10
number_of kind.CategoriesStored = 11
