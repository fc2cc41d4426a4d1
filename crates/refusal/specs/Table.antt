-- The table of refusals (docs/RULES.md, "Where each call says no"): each case's number, and its index where the table names one. Definitions only.
use Rattle.std.specs.Prelude.{ℕ, Option, Some, None, Ok, Err}
use Rattle.refusal.specs.Outcome.{Answer}
use Rattle.refusal.specs.declared.Refusal.{Refusal}
use Rattle.refusal.specs.declared.Refusal.TheVariants.{EmptyText, NotHexColor, NotHexByte, TooFewColors, TooManyColors, NoSuchPalette, StartAboveEnd}
use Rattle.refusal.specs.declared.Refusal.TheVariants.{TooManyBands, ColorCountDiffers, EmptyRange, TooManyCategories, RangeTooWide}
use Rattle.refusal.specs.declared.Refusal.TheVariants.{OutputLengthDiffers, NoSuchLaneCount, ScratchTooShort, CountAboveCapacity, KeyOutOfRange}
use Rattle.refusal.specs.declared.Refusal.TheVariants.{CardUnknown, CardMalformed, CardTooLong, BadFlag, BadKind}

abbrev pub number_of : Refusal → ℕ
-- hex colour
number_of EmptyText = 1
number_of NotHexColor = 2
number_of (NotHexByte pair) = 3
-- ramps
number_of TooFewColors = 4
number_of TooManyColors = 5
number_of NoSuchPalette = 6
-- builders
number_of StartAboveEnd = 7
number_of TooManyBands = 8
number_of ColorCountDiffers = 9
number_of (EmptyRange range) = 10
number_of TooManyCategories = 11
number_of RangeTooWide = 12
-- painting
number_of OutputLengthDiffers = 13
number_of NoSuchLaneCount = 14
number_of ScratchTooShort = 15
-- records and keys
number_of CountAboveCapacity = 16
number_of (KeyOutOfRange key) = 17
-- cards
number_of CardUnknown = 18
number_of CardMalformed = 19
number_of CardTooLong = 20
-- the interface for C
number_of BadFlag = 100
number_of BadKind = 101

-- the first bad pair, range or key, counted from 0
abbrev pub index_of : Refusal → Option ℕ
index_of EmptyText = None
index_of NotHexColor = None
index_of (NotHexByte pair) = Some pair
index_of TooFewColors = None
index_of TooManyColors = None
index_of NoSuchPalette = None
index_of StartAboveEnd = None
index_of TooManyBands = None
index_of ColorCountDiffers = None
index_of (EmptyRange range) = Some range
index_of TooManyCategories = None
index_of RangeTooWide = None
index_of OutputLengthDiffers = None
index_of NoSuchLaneCount = None
index_of ScratchTooShort = None
index_of CountAboveCapacity = None
index_of (KeyOutOfRange key) = Some key
index_of CardUnknown = None
index_of CardMalformed = None
index_of CardTooLong = None
index_of BadFlag = None
index_of BadKind = None

-- 0 and no index where nothing is refused
abbrev pub answer_number : Answer → ℕ
answer_number (Ok _) = 0
answer_number (Err why) = number_of why

abbrev pub answer_index : Answer → Option ℕ
answer_index (Ok _) = None
answer_index (Err why) = index_of why
