-- General corrections, types 41 and 42, and the null frame of type 42: what counting, reading and making say. Assumes nothing.
use Rattle.std.specs.Prelude.{List, ℕ, length}
use Rattle.answer.specs.Order.{Says}
use Rattle.frame.specs.declared.Frame.{Frame}
use Rattle.frame.specs.declared.Header.{Header}
use Rattle.record_stages.specs.Stages.{says_count, says_made}
use Rattle.record_generals.specs.declared.GeneralHead.{GeneralHead}
use Rattle.record_generals.specs.declared.General.{General}
use Rattle.record_generals.specs.Generals.{count_generals, read_head, general_at, make_generals, says_head_read, says_general_read}
use Rattle.record_generals.specs.GeneralNulls.{read_general_null, make_general_null, says_general_null_read}
use Rattle.rtcm2_rows.specs.Rows.{row_size, count_of, entries_from}
use Rattle.rtcm2_rows.specs.Generals.{row}
use Rattle.rtcm2.specs.Answer.{and_then}

-- COUNT: the refusal that there was, or 6, 7, 8, 23, 8
abbrev pub count_said : Says Frame → Says ℕ
count_said said = and_then said (λ f. says_count (count_generals f))

-- HEAD: the refusal that there was, or 6, 7, 8, 23, 8; its five numbers
abbrev pub head_said : Says Frame → Says GeneralHead
head_said said = and_then said (λ f. says_head_read (read_head f))

abbrev pub system_said : GeneralHead → ℕ
system_said a = a.system

abbrev pub signal_said : GeneralHead → ℕ
signal_said a = a.signal

abbrev pub ephemeris_said : GeneralHead → ℕ
ephemeris_said a = a.ephemeris

abbrev pub period_said : GeneralHead → ℕ
period_said a = a.period

abbrev pub ionosphere_said : GeneralHead → ℕ
ionosphere_said a = a.ionosphere

-- and the head of five numbers
abbrev pub head_of : ℕ → ℕ → ℕ → ℕ → ℕ → GeneralHead
head_of system signal ephemeris period ionosphere =
    record { system = system; signal = signal; ephemeris = ephemeris; period = period; ionosphere = ionosphere }

-- SATELLITE: the refusal that there was, or 6, 7, 8, 23, 8, 9, 10
abbrev pub entry_said : Says Frame → ℕ → Says General
entry_said said i = and_then said (λ f. says_general_read (general_at f i))

-- MAKING: the refusal that there was, or 5, 6, 7, 23, 12, 10
abbrev pub made_said : Says Header → GeneralHead → List ℕ → Says Frame
made_said said a bytes = and_then said (λ h. says_made (make_generals h a (entries_from row 22 bytes) (count_of (row_size row) (length bytes))))

-- NULL FRAME: the refusal that there was, or 6, 7, 8, 23; its N and its system
abbrev pub general_null_said : Says Frame → Says (ℕ × ℕ)
general_null_said said = and_then said (λ f. says_general_null_read (read_general_null f))

abbrev pub words_left : ℕ × ℕ → ℕ
words_left r = r.0

abbrev pub system_left : ℕ × ℕ → ℕ
system_left r = r.1

-- MAKING with N words: the refusal that there was, or 5, 6, 7, 23, 12
abbrev pub general_null_made : Says Header → ℕ → ℕ → Says Frame
general_null_made said n system = and_then said (λ h. says_made (make_general_null h n system))
