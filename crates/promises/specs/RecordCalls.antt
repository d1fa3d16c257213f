-- DEMAND 1, call by call: records, what they share, and what their numbers stand for. Assumes nothing.
use Rattle.std.specs.Prelude.{◌%◌}
use Rattle.record_fields.specs.Packing.{field_in, filled_up}
use Rattle.record_fields.specs.Tables.{row, fields_in, no_rows, put_row, row_out}
use Rattle.bits.specs.Signed.{signed as signed_of, code as code_of}
use Rattle.record_fields.specs.Satellites.{satellite_of}
use Rattle.record_stages.specs.Stages.{asked_of, count_after, place_after, size_of, made_by}
use Rattle.record_corrections.specs.Issues.{issue_in}
use Rattle.record_corrections.specs.Corrections.{count_corrections, correction_at, make_corrections}
use Rattle.record_healths.specs.Conditions.{condition_of}
use Rattle.record_healths.specs.Healths.{count_healths, health_at, make_healths}
use Rattle.record_positions.specs.Positions.{read_position, make_position}
use Rattle.record_nulls.specs.Nulls.{read_null, make_null}
use Rattle.record_texts.specs.Texts.{read_text, buffer_after, make_text}
use Rattle.record_observations.specs.Editions.{quantity_of}
use Rattle.record_observations.specs.Observations.{count_observations, read_epoch, observation_at, make_observations}
use Rattle.record_observations.specs.Meanings.{frequency_of, phase_step}
use Rattle.profile.specs.Profile.{check_profile}
use Rattle.profile.specs.Cutting.{cut_corrections}
use Rattle.record_values.specs.Values.{stops_use}
use Rattle.record_values.specs.Answer.{prc_mm, rrc_mm_s, udre_limit, cn0_db_hz, minutes_of, z_tenths, letter_of}
use Rattle.record_fields.proofs.field
use Rattle.record_fields.proofs.fields
use Rattle.record_fields.proofs.no_rows
use Rattle.record_fields.proofs.put_row
use Rattle.record_fields.proofs.fill_up
use Rattle.record_fields.proofs.table.row_out
use Rattle.record_fields.proofs.signed8
use Rattle.record_fields.proofs.signed16
use Rattle.record_fields.proofs.signed32
use Rattle.record_fields.proofs.code8
use Rattle.record_fields.proofs.code16
use Rattle.record_fields.proofs.code32
use Rattle.record_fields.proofs.satellite_of
use Rattle.record_stages.proofs.asked_of
use Rattle.record_stages.proofs.count_in
use Rattle.record_stages.proofs.entry_place
use Rattle.record_stages.proofs.size_of
use Rattle.record_stages.proofs.make_frame
use Rattle.record_corrections.proofs.issue_of
use Rattle.record_corrections.proofs.count_corrections
use Rattle.record_corrections.proofs.correction_at
use Rattle.record_corrections.proofs.make_corrections
use Rattle.record_healths.proofs.condition_of
use Rattle.record_healths.proofs.count_healths
use Rattle.record_healths.proofs.health_at
use Rattle.record_healths.proofs.make_healths
use Rattle.record_positions.proofs.read_position
use Rattle.record_positions.proofs.make_position
use Rattle.record_nulls.proofs.read_null
use Rattle.record_nulls.proofs.make_null
use Rattle.record_texts.proofs.read_text
use Rattle.record_texts.proofs.make_text
use Rattle.record_observations.proofs.quantity_of
use Rattle.record_observations.proofs.count_observations
use Rattle.record_observations.proofs.read_epoch
use Rattle.record_observations.proofs.observation_at
use Rattle.record_observations.proofs.make_observations
use Rattle.record_observations.proofs.meanings.frequency_of
use Rattle.record_observations.proofs.meanings.phase_step
use Rattle.profile.proofs.check_profile
use Rattle.profile.proofs.cut_corrections
use Rattle.record_values.proofs.prc_mm
use Rattle.record_values.proofs.rrc_mm_s
use Rattle.record_values.proofs.stops
use Rattle.record_values.proofs.udre_limit
use Rattle.record_values.proofs.cn0_dbhz
use Rattle.record_values.proofs.minutes as value-minutes
use Rattle.record_values.proofs.z_tenths
use Rattle.record_values.proofs.letter_of
use Rattle.promises.specs.Answered.{Answered, AnsweredLent}

pub record RecordCalls : Type 2 where
  -- record_fields
  pub field : Answered field.Reads.Asked field.Reads.Learnt field.Statement.statement
      (λ κs (words, (offset, (width, _))). field_in words offset width)
  pub fields : Answered fields.Reads.Asked fields.Reads.Learnt fields.Statement.statement
      (λ κs (words, (at, (widths, _))). row (fields_in words widths.now at))
  pub no-rows : Answered no_rows.Reads.Asked no_rows.Reads.Learnt no_rows.Statement.statement
      (λ κs a. no_rows)
  pub put-row : Answered put_row.Reads.Asked put_row.Reads.Learnt put_row.Statement.statement
      (λ κs (rows, (values, (widths, (least, (most, _))))). put_row widths.now least.now most.now values rows)
  pub fill-up : Answered fill_up.Reads.Asked fill_up.Reads.Learnt fill_up.Statement.statement
      (λ κs (packer, (pattern, _)). filled_up pattern packer)
  pub row-out : Answered row_out.Reads.Asked row_out.Reads.Learnt row_out.Statement.statement
      (λ κs (values, (least, (most, _))). row_out least.now most.now values)
  pub signed8 : Answered signed8.Reads.Asked signed8.Reads.Learnt signed8.Statement.statement
      (λ κs (n, _). signed_of 7 (n % 256))
  pub signed16 : Answered signed16.Reads.Asked signed16.Reads.Learnt signed16.Statement.statement
      (λ κs (n, _). signed_of 15 (n % 65536))
  pub signed32 : Answered signed32.Reads.Asked signed32.Reads.Learnt signed32.Statement.statement
      (λ κs (n, _). signed_of 31 n)
  pub code8 : Answered code8.Reads.Asked code8.Reads.Learnt code8.Statement.statement
      (λ κs (z, _). code_of 7 z)
  pub code16 : Answered code16.Reads.Asked code16.Reads.Learnt code16.Statement.statement
      (λ κs (z, _). code_of 15 z)
  pub code32 : Answered code32.Reads.Asked code32.Reads.Learnt code32.Statement.statement
      (λ κs (z, _). code_of 31 z)
  pub satellite-of : Answered satellite_of.Reads.Asked satellite_of.Reads.Learnt satellite_of.Statement.statement
      (λ κs (code, _). satellite_of (code % 32))
  -- record_stages
  pub asked-of : Answered asked_of.Reads.Asked asked_of.Reads.Learnt asked_of.Statement.statement
      (λ κs (layout, (kind, _)). asked_of layout kind)
  pub count-in : Answered count_in.Reads.Asked count_in.Reads.Learnt count_in.Statement.statement
      (λ κs (layout, (head, (width, (frame, _)))). count_after layout head width frame)
  pub entry-place : Answered entry_place.Reads.Asked entry_place.Reads.Learnt entry_place.Statement.statement
      (λ κs (layout, (head, (width, (frame, (index, _))))). place_after layout head width frame index)
  pub size-of : Answered size_of.Reads.Asked size_of.Reads.Learnt size_of.Statement.statement
      (λ κs (wanted, (n, _)). size_of wanted n)
  pub make-frame : Answered make_frame.Reads.Asked make_frame.Reads.Learnt make_frame.Statement.statement
      (λ κs (layout, (most, (fill, (header, (count, (rows, _)))))). made_by layout most fill header count rows)
  -- record_corrections
  pub issue-of : Answered issue_of.Reads.Asked issue_of.Reads.Learnt issue_of.Statement.statement
      (λ κs (system, (last, _)). issue_in system last)
  pub count-corrections : Answered count_corrections.Reads.Asked count_corrections.Reads.Learnt count_corrections.Statement.statement
      (λ κs (frame, _). count_corrections frame)
  pub correction-at : Answered correction_at.Reads.Asked correction_at.Reads.Learnt correction_at.Statement.statement
      (λ κs (frame, (index, _)). correction_at frame index)
  pub make-corrections : Answered make_corrections.Reads.Asked make_corrections.Reads.Learnt make_corrections.Statement.statement
      (λ κs (header, (entries, (count, _))). make_corrections header entries count)
  -- record_healths
  pub condition-of : Answered condition_of.Reads.Asked condition_of.Reads.Learnt condition_of.Statement.statement
      (λ κs (system, (three, _)). condition_of system three)
  pub count-healths : Answered count_healths.Reads.Asked count_healths.Reads.Learnt count_healths.Statement.statement
      (λ κs (frame, _). count_healths frame)
  pub health-at : Answered health_at.Reads.Asked health_at.Reads.Learnt health_at.Statement.statement
      (λ κs (frame, (index, _)). health_at frame index)
  pub make-healths : Answered make_healths.Reads.Asked make_healths.Reads.Learnt make_healths.Statement.statement
      (λ κs (header, (entries, (count, _))). make_healths header entries count)
  -- record_positions
  pub read-position : Answered read_position.Reads.Asked read_position.Reads.Learnt read_position.Statement.statement
      (λ κs (frame, _). read_position frame)
  pub make-position : Answered make_position.Reads.Asked make_position.Reads.Learnt make_position.Statement.statement
      (λ κs (header, (position, _)). make_position header position)
  -- record_nulls
  pub read-null : Answered read_null.Reads.Asked read_null.Reads.Learnt read_null.Statement.statement
      (λ κs (frame, _). read_null frame)
  pub make-null : Answered make_null.Reads.Asked make_null.Reads.Learnt make_null.Statement.statement
      (λ κs (header, (n, _)). make_null header n)
  -- record_texts
  pub read-text : AnsweredLent read_text.Reads.Asked read_text.Reads.Learnt read_text.Statement.statement
      (λ κs (frame, (buffer, _)). read_text frame buffer.now)
      (λ κs (_, (buffer, _)). buffer.now) (λ κs (frame, (buffer, _)). buffer_after frame buffer.now)
  pub make-text : Answered make_text.Reads.Asked make_text.Reads.Learnt make_text.Statement.statement
      (λ κs (header, (text, _)). make_text header text.now)
  -- record_observations
  pub quantity-of : Answered quantity_of.Reads.Asked quantity_of.Reads.Learnt quantity_of.Statement.statement
      (λ κs (kind, _). quantity_of kind)
  pub count-observations : Answered count_observations.Reads.Asked count_observations.Reads.Learnt count_observations.Statement.statement
      (λ κs (frame, _). count_observations frame)
  pub read-epoch : Answered read_epoch.Reads.Asked read_epoch.Reads.Learnt read_epoch.Statement.statement
      (λ κs (frame, _). read_epoch frame)
  pub observation-at : Answered observation_at.Reads.Asked observation_at.Reads.Learnt observation_at.Statement.statement
      (λ κs (edition, (frame, (index, _))). observation_at edition frame index)
  pub make-observations : Answered make_observations.Reads.Asked make_observations.Reads.Learnt make_observations.Statement.statement
      (λ κs (edition, (header, (epoch, (entries, (count, _))))). make_observations edition header epoch entries count)
  pub frequency-of : Answered frequency_of.Reads.Asked frequency_of.Reads.Learnt frequency_of.Statement.statement
      (λ κs (edition, (kind, (code, _))). frequency_of edition kind code)
  pub phase-step : Answered phase_step.Reads.Asked phase_step.Reads.Learnt phase_step.Statement.statement
      (λ κs (edition, (kind, (mark, _))). phase_step edition kind mark)
  -- profile
  pub check-profile : Answered check_profile.Reads.Asked check_profile.Reads.Learnt check_profile.Statement.statement
      (λ κs (frame, _). check_profile frame)
  pub cut-corrections : Answered cut_corrections.Reads.Asked cut_corrections.Reads.Learnt cut_corrections.Statement.statement
      (λ κs (header, (entries, (count, _))). cut_corrections header entries count)
  -- record_values
  pub prc-mm : Answered prc_mm.Reads.Asked prc_mm.Reads.Learnt prc_mm.Statement.statement
      (λ κs (scale, (prc, _)). prc_mm scale prc)
  pub rrc-mm-s : Answered rrc_mm_s.Reads.Asked rrc_mm_s.Reads.Learnt rrc_mm_s.Statement.statement
      (λ κs (scale, (rrc, _)). rrc_mm_s scale rrc)
  pub stops : Answered stops.Reads.Asked stops.Reads.Learnt stops.Statement.statement
      (λ κs (prc, (rrc, _)). stops_use prc rrc)
  pub udre-limit : Answered udre_limit.Reads.Asked udre_limit.Reads.Learnt udre_limit.Statement.statement
      (λ κs (state, (udre, _)). udre_limit state udre)
  pub cn0-dbhz : Answered cn0_dbhz.Reads.Asked cn0_dbhz.Reads.Learnt cn0_dbhz.Statement.statement
      (λ κs (code, _). cn0_db_hz code)
  pub value-minutes : Answered value-minutes.Reads.Asked value-minutes.Reads.Learnt value-minutes.Statement.statement
      (λ κs (code, _). minutes_of code)
  pub z-tenths : Answered z_tenths.Reads.Asked z_tenths.Reads.Learnt z_tenths.Statement.statement
      (λ κs (z, _). z_tenths z)
  pub letter-of : Answered letter_of.Reads.Asked letter_of.Reads.Learnt letter_of.Statement.statement
      (λ κs (code, _). letter_of code)
