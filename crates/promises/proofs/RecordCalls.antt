-- Each contract is an equation, asks nothing, and was met as its crate was checked. Assumes nothing.
use Rattle.record_fields.proofs as record-fields
use Rattle.record_stages.proofs as record-stages
use Rattle.record_corrections.proofs as record-corrections
use Rattle.record_healths.proofs as record-healths
use Rattle.record_positions.proofs as record-positions
use Rattle.record_nulls.proofs as record-nulls
use Rattle.record_texts.proofs as record-texts
use Rattle.record_observations.proofs as record-observations
use Rattle.profile.proofs as profile
use Rattle.record_values.proofs as record-values
use Rattle.promises.specs.RecordCalls.{RecordCalls}

pub record-calls : RecordCalls
record-calls = record {
  field = record { asks_nothing = λ κs a. tt; settles = λ κs a z e p. p.0; ends = record-fields.field.Met.met };
  fields = record { asks_nothing = λ κs a. tt; settles = λ κs a z e p. p; ends = record-fields.fields.Met.met };
  no-rows = record { asks_nothing = λ κs a. tt; settles = λ κs a z e p. p; ends = record-fields.no_rows.Met.met };
  put-row = record { asks_nothing = λ κs a. tt; settles = λ κs a z e p. p; ends = record-fields.put_row.Met.met };
  fill-up = record { asks_nothing = λ κs a. tt; settles = λ κs a z e p. p; ends = record-fields.fill_up.Met.met };
  row-out = record { asks_nothing = λ κs a. tt; settles = λ κs a z e p. p; ends = record-fields.table.row_out.Met.met };
  signed8 = record { asks_nothing = λ κs a. tt; settles = λ κs a z e p. p; ends = record-fields.signed8.Met.met };
  signed16 = record { asks_nothing = λ κs a. tt; settles = λ κs a z e p. p; ends = record-fields.signed16.Met.met };
  signed32 = record { asks_nothing = λ κs a. tt; settles = λ κs a z e p. p; ends = record-fields.signed32.Met.met };
  code8 = record { asks_nothing = λ κs a. tt; settles = λ κs a z e p. p; ends = record-fields.code8.Met.met };
  code16 = record { asks_nothing = λ κs a. tt; settles = λ κs a z e p. p; ends = record-fields.code16.Met.met };
  code32 = record { asks_nothing = λ κs a. tt; settles = λ κs a z e p. p; ends = record-fields.code32.Met.met };
  satellite-of = record { asks_nothing = λ κs a. tt; settles = λ κs a z e p. p; ends = record-fields.satellite_of.Met.met };
  asked-of = record { asks_nothing = λ κs a. tt; settles = λ κs a z e p. p; ends = record-stages.asked_of.Met.met };
  count-in = record { asks_nothing = λ κs a. tt; settles = λ κs a z e p. p; ends = record-stages.count_in.Met.met };
  entry-place = record { asks_nothing = λ κs a. tt; settles = λ κs a z e p. p; ends = record-stages.entry_place.Met.met };
  size-of = record { asks_nothing = λ κs a. tt; settles = λ κs a z e p. p; ends = record-stages.size_of.Met.met };
  make-frame = record { asks_nothing = λ κs a. tt; settles = λ κs a z e p. p; ends = record-stages.make_frame.Met.met };
  issue-of = record { asks_nothing = λ κs a. tt; settles = λ κs a z e p. p; ends = record-corrections.issue_of.Met.met };
  count-corrections = record { asks_nothing = λ κs a. tt; settles = λ κs a z e p. p; ends = record-corrections.count_corrections.Met.met };
  correction-at = record { asks_nothing = λ κs a. tt; settles = λ κs a z e p. p; ends = record-corrections.correction_at.Met.met };
  make-corrections = record { asks_nothing = λ κs a. tt; settles = λ κs a z e p. p; ends = record-corrections.make_corrections.Met.met };
  condition-of = record { asks_nothing = λ κs a. tt; settles = λ κs a z e p. p; ends = record-healths.condition_of.Met.met };
  count-healths = record { asks_nothing = λ κs a. tt; settles = λ κs a z e p. p; ends = record-healths.count_healths.Met.met };
  health-at = record { asks_nothing = λ κs a. tt; settles = λ κs a z e p. p; ends = record-healths.health_at.Met.met };
  make-healths = record { asks_nothing = λ κs a. tt; settles = λ κs a z e p. p; ends = record-healths.make_healths.Met.met };
  read-position = record { asks_nothing = λ κs a. tt; settles = λ κs a z e p. p; ends = record-positions.read_position.Met.met };
  make-position = record { asks_nothing = λ κs a. tt; settles = λ κs a z e p. p; ends = record-positions.make_position.Met.met };
  read-null = record { asks_nothing = λ κs a. tt; settles = λ κs a z e p. p; ends = record-nulls.read_null.Met.met };
  make-null = record { asks_nothing = λ κs a. tt; settles = λ κs a z e p. p; ends = record-nulls.make_null.Met.met };
  read-text = record { asks_nothing = λ κs a. tt; settles = λ κs a z e p. p.0; leaves = λ κs a z e p. p.1; ends = record-texts.read_text.Met.met };
  make-text = record { asks_nothing = λ κs a. tt; settles = λ κs a z e p. p; ends = record-texts.make_text.Met.met };
  quantity-of = record { asks_nothing = λ κs a. tt; settles = λ κs a z e p. p; ends = record-observations.quantity_of.Met.met };
  count-observations = record { asks_nothing = λ κs a. tt; settles = λ κs a z e p. p; ends = record-observations.count_observations.Met.met };
  read-epoch = record { asks_nothing = λ κs a. tt; settles = λ κs a z e p. p; ends = record-observations.read_epoch.Met.met };
  observation-at = record { asks_nothing = λ κs a. tt; settles = λ κs a z e p. p; ends = record-observations.observation_at.Met.met };
  make-observations = record { asks_nothing = λ κs a. tt; settles = λ κs a z e p. p; ends = record-observations.make_observations.Met.met };
  frequency-of = record { asks_nothing = λ κs a. tt; settles = λ κs a z e p. p; ends = record-observations.meanings.frequency_of.Met.met };
  phase-step = record { asks_nothing = λ κs a. tt; settles = λ κs a z e p. p; ends = record-observations.meanings.phase_step.Met.met };
  check-profile = record { asks_nothing = λ κs a. tt; settles = λ κs a z e p. p; ends = profile.check_profile.Met.met };
  cut-corrections = record { asks_nothing = λ κs a. tt; settles = λ κs a z e p. p; ends = profile.cut_corrections.Met.met };
  prc-mm = record { asks_nothing = λ κs a. tt; settles = λ κs a z e p. p; ends = record-values.prc_mm.Met.met };
  rrc-mm-s = record { asks_nothing = λ κs a. tt; settles = λ κs a z e p. p; ends = record-values.rrc_mm_s.Met.met };
  stops = record { asks_nothing = λ κs a. tt; settles = λ κs a z e p. p; ends = record-values.stops.Met.met };
  udre-limit = record { asks_nothing = λ κs a. tt; settles = λ κs a z e p. p; ends = record-values.udre_limit.Met.met };
  cn0-dbhz = record { asks_nothing = λ κs a. tt; settles = λ κs a z e p. p; ends = record-values.cn0_dbhz.Met.met };
  value-minutes = record { asks_nothing = λ κs a. tt; settles = λ κs a z e p. p; ends = record-values.minutes.Met.met };
  z-tenths = record { asks_nothing = λ κs a. tt; settles = λ κs a z e p. p; ends = record-values.z_tenths.Met.met };
  letter-of = record { asks_nothing = λ κs a. tt; settles = λ κs a z e p. p; ends = record-values.letter_of.Met.met };
}
