-- The table of refusals (RULES 10), by its numbers. Assumes nothing.
use Rattle.std.specs.Prelude.{Result, Ok, Err, List, [], ◌∷◌, ℕ, ◌-◌, get_or}
use Rattle.answer.specs.declared.Refusal.{Refusal}
use Rattle.answer.specs.declared.Refusal.TheVariants.{
  NoDataByte,
  FrameWaits,
  InputEnded,
  NoFrame,
  Width,
  OtherType,
  ZCount,
  WordCount,
  NoEntry,
  Field,
  Character,
  EntryCount,
  ShortBuffer,
  NoMark,
  CutShort,
  BadRecord,
  Parity,
  FullReport,
  FullCount,
  OutsideProfile,
  ManySatellites,
  TwiceASatellite,
  OtherSystem,
}

-- every number of the table; a new refusal adds its own at the end
abbrev pub table_numbers : List ℕ
table_numbers = 1 ∷ 2 ∷ 3 ∷ 4 ∷ 5 ∷ 6 ∷ 7 ∷ 8 ∷ 9 ∷ 10 ∷ 11 ∷ 12 ∷ 13 ∷ 14 ∷ 15 ∷ 16 ∷ 17 ∷ 18 ∷ 19 ∷ 20 ∷ 21 ∷ 22 ∷ 23 ∷ []

-- the number of a refusal
abbrev pub refusal_number : Refusal → ℕ
refusal_number NoDataByte = 1
refusal_number FrameWaits = 2
refusal_number InputEnded = 3
refusal_number NoFrame = 4
refusal_number Width = 5
refusal_number OtherType = 6
refusal_number ZCount = 7
refusal_number WordCount = 8
refusal_number NoEntry = 9
refusal_number Field = 10
refusal_number Character = 11
refusal_number EntryCount = 12
refusal_number ShortBuffer = 13
refusal_number NoMark = 14
refusal_number CutShort = 15
refusal_number BadRecord = 16
refusal_number Parity = 17
refusal_number FullReport = 18
refusal_number FullCount = 19
refusal_number OutsideProfile = 20
refusal_number ManySatellites = 21
refusal_number TwiceASatellite = 22
refusal_number OtherSystem = 23

-- the refusals, by their numbers
abbrev pub refusals : List Refusal
refusals = NoDataByte ∷ FrameWaits ∷ InputEnded ∷ NoFrame ∷ Width ∷ OtherType ∷ ZCount ∷ WordCount ∷ NoEntry ∷ Field ∷ Character ∷ EntryCount
    ∷ ShortBuffer ∷ NoMark ∷ CutShort ∷ BadRecord ∷ Parity ∷ FullReport ∷ FullCount ∷ OutsideProfile ∷ ManySatellites ∷ TwiceASatellite ∷ OtherSystem ∷ []

-- the refusal of a number; a number that is none of the table's has no meaning, and here the last
abbrev pub refusal_of : ℕ → Refusal
refusal_of n = get_or refusals (n - 1) OtherSystem

-- a call refuses with a number of the table
abbrev pub refused : {A : Type 0} → ℕ → Result A Refusal
refused n = Err (refusal_of n)

-- a call grants what is asked and has nothing more to say
abbrev pub granted : Result (Unit {0}) Refusal
granted = Ok tt
