-- The refusals of document 01 by their numbers. Assumes nothing: these are definitions.
use Rattle.std.specs.Prelude.{ℕ}
use Rattle.book.specs.declared.refusal.Cause.{Cause}
use Rattle.book.specs.declared.refusal.Cause.TheVariants as why
use Rattle.book.specs.declared.refusal.Refusal.{Refusal}

-- "A refusal returns its number and a place": the number
abbrev pub number_of : Cause → ℕ
number_of why.BookTooLong = 1
number_of why.CutShort = 2
number_of why.UnknownKind = 3
number_of why.Misplaced = 4
number_of why.NumberNotAbove = 5
number_of why.BadBody = 6
number_of why.TooMany = 7
number_of why.LimitsOutside = 8
number_of why.RoomTooShort = 9
number_of why.RoomBroken = 10
number_of why.AlreadyPresent = 11
number_of why.NotPresent = 12
number_of why.TooManyReadings = 13
number_of why.TooManyTokens = 14
number_of why.BufferTooShort = 15
number_of why.NoSuchComplaint = 16
number_of why.NoSuchRule = 17
number_of why.NoSuchFile = 18
number_of why.OutputTooShort = 19

-- refused for this cause, at this place
abbrev pub refusal : Cause → ℕ → Refusal
refusal cause place = record { cause = cause; place = place }
