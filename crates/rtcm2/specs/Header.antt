-- The header of a frame that is made, from its five numbers. Assumes nothing.
use Rattle.std.specs.Prelude.{[], ◌∷◌, ℕ, ltb}
use Rattle.answer.specs.Order.{Says, refuses, answers, in_order}
use Rattle.frame.specs.Header.{state_of}
use Rattle.frame.specs.declared.Header.{Header}
use Rattle.rtcm2.specs.declared.header.Headed.{Headed}
use Rattle.rtcm2.specs.declared.header.Headed.TheVariants as of

-- HEADER: 5 for a health over 7, which no state has
abbrev pub headed_by : ℕ → ℕ → ℕ → ℕ → ℕ → Headed
headed_by kind station z sequence health =
    in_order ((ltb 7 health, 5) ∷ []) of.Refused
    (of.Header (record { kind = kind; station = station; z = z; sequence = sequence; state = state_of health }))

-- in the table's terms
abbrev pub says_headed : Headed → Says Header
says_headed (of.Header h) = answers h
says_headed (of.Refused n) = refuses n

abbrev pub headed : ℕ → ℕ → ℕ → ℕ → ℕ → Says Header
headed kind station z sequence health = says_headed (headed_by kind station z sequence health)
