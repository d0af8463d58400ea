-- The number of each refusal, and answers as replies of the definitions; clauses 9.3 and 10.1 to 10.21 of docs/FORMAT.md.
use Rattle.std.specs.Prelude.{ℕ, Result, Ok, Err}
use Rattle.meaning.specs.Reply.{Reply, reply}
use Rattle.refusal.specs.declared.refused.Refusal.{Refusal}
use Rattle.refusal.specs.declared.refused.Refusal.TheVariants.{TextTooLong, TextNotEnded, NoLine, FieldLineMisplaced, NoOddPrime, NumberOffRange, NameNotMade, TooManyValues, TooManyCells, DigitsTooWide, SumOffRange, NothingShared, TableLength, CellTooGreat, RowFails, InputCount, InputOffRange, StatementFalse, DeskDamaged, DeskFull, BufferTooShort}
use Rattle.refusal.specs.declared.refused.Refused.{Refused}

-- clause 10.n is refusal n
abbrev pub number_of : Refusal → ℕ
number_of TextTooLong = 1
number_of TextNotEnded = 2
number_of NoLine = 3
number_of FieldLineMisplaced = 4
number_of NoOddPrime = 5
number_of NumberOffRange = 6
number_of NameNotMade = 7
number_of TooManyValues = 8
number_of TooManyCells = 9
number_of DigitsTooWide = 10
number_of SumOffRange = 11
number_of NothingShared = 12
number_of TableLength = 13
number_of CellTooGreat = 14
number_of RowFails = 15
number_of InputCount = 16
number_of InputOffRange = 17
number_of StatementFalse = 18
number_of DeskDamaged = 19
number_of DeskFull = 20
number_of BufferTooShort = 21

-- a refusal with its place is the reply of its number and place
abbrev pub refused_reply : Refused → Reply
refused_reply r = reply (number_of r.refusal) r.place

-- what is answered with a place where it is accepted. FORMAT 9.3
abbrev pub answered : Result ℕ Refused → Reply
answered (Ok place) = reply 0 place
answered (Err r) = refused_reply r
