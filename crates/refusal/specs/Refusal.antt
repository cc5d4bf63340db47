-- A refusal's number, and a call's.
use Rattle.std.specs.Prelude.{ℕ, Result, Ok, Err}
use Rattle.refusal.specs.declared.Refusal.{Refusal}
use Rattle.refusal.specs.declared.Refusal.TheVariants.{ImageShort, ImageLong, WorkShort, NoValid, OutputShort, NotSound, NotValid, Full, SystemLimit, CommonLimit, LastMove, MovedOver, BankOver, BankLength, ValueLong, LogNumber, LogOrder, LogLength, RateRange, LogWindow}

abbrev pub number : Refusal → ℕ
number ImageShort = 1
number ImageLong = 2
number WorkShort = 3
number NoValid = 4
number OutputShort = 5
number NotSound = 6
number NotValid = 7
number Full = 8
number SystemLimit = 9
number CommonLimit = 10
number LastMove = 11
number MovedOver = 12
number BankOver = 13
number BankLength = 14
number ValueLong = 15
number LogNumber = 16
number LogOrder = 17
number LogLength = 18
number RateRange = 19
number LogWindow = 20

-- 0 where the call is accepted
abbrev pub number_of : {A : Type 0} → Result A Refusal → ℕ
number_of (Ok x) = 0
number_of (Err r) = number r
