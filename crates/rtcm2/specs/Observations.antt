-- Raw observations, types 18 and 19: what counting, reading and making say, the last two by edition. Assumes nothing.
use Rattle.std.specs.Prelude.{cond, List, [], ◌∷◌, ℕ, ltb, eqb, length}
use Rattle.answer.specs.Order.{Says, refuses, answers, in_order}
use Rattle.frame.specs.declared.Frame.{Frame}
use Rattle.frame.specs.declared.Header.{Header}
use Rattle.record_stages.specs.Stages.{says_count, says_made}
use Rattle.record_observations.specs.declared.Edition.{Edition}
use Rattle.record_observations.specs.declared.Edition.TheVariants.{Gost, Bd}
use Rattle.record_observations.specs.declared.Epoch.{Epoch}
use Rattle.record_observations.specs.declared.Observation.{Observation}
use Rattle.record_observations.specs.Observations.{count_observations, read_epoch, observation_at, make_observations, says_epoch_read, says_observation_read}
use Rattle.rtcm2_rows.specs.Rows.{row_size, count_of, entries_from}
use Rattle.rtcm2_rows.specs.Observations.{row}
use Rattle.rtcm2.specs.Answer.{and_then}
use Rattle.rtcm2.specs.declared.observation.Named.{Named}
use Rattle.rtcm2.specs.declared.observation.Named.TheVariants as named

-- THE EDITION of a number: 0 is GOST, 1 is BD; 5 for another number
unfoldable pub edition_named : ℕ → Edition
edition_named e = cond (eqb e 0) Gost Bd

abbrev pub edition_by : ℕ → Named
edition_by e = in_order ((ltb 1 e, 5) ∷ []) named.Refused (named.Edition (edition_named e))

abbrev pub says_named : Named → Says Edition
says_named (named.Edition e) = answers e
says_named (named.Refused n) = refuses n

abbrev pub edition_said : ℕ → Says Edition
edition_said e = says_named (edition_by e)

-- COUNT: the refusal that there was, or 6, 7, 8
abbrev pub count_said : Says Frame → Says ℕ
count_said said = and_then said (λ f. says_count (count_observations f))

-- HEAD: the refusal that there was, or 6, 7, 8, 10; its three numbers
abbrev pub epoch_said : Says Frame → Says Epoch
epoch_said said = and_then said (λ f. says_epoch_read (read_epoch f))

abbrev pub frequency_said : Epoch → ℕ
frequency_said a = a.frequency

abbrev pub smoothing_said : Epoch → ℕ
smoothing_said a = a.smoothing

abbrev pub time_said : Epoch → ℕ
time_said a = a.time

-- SATELLITE: the refusal that there was, or 5 for the edition, 6, 7, 8, 9, 10
abbrev pub read_said : ℕ → Frame → ℕ → Says Observation
read_said e f i = and_then (edition_said e) (λ x. says_observation_read (observation_at x f i))

abbrev pub entry_said : ℕ → Says Frame → ℕ → Says Observation
entry_said e said i = and_then said (λ f. read_said e f i)

-- MAKING: 5 for the edition, the refusal that there was, or 5, 6, 7, 12, 10
abbrev pub rows_made : Edition → Header → Epoch → List ℕ → Says Frame
rows_made x h a bytes = says_made (make_observations x h a (entries_from row 15 bytes) (count_of (row_size row) (length bytes)))

abbrev pub made_said : ℕ → Says Header → ℕ → ℕ → ℕ → List ℕ → Says Frame
made_said e said frequency smoothing time bytes =
    and_then (edition_said e) (λ x. and_then said (λ h. rows_made x h (record { frequency = frequency; smoothing = smoothing; time = time }) bytes))
