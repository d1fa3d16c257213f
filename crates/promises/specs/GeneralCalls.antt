-- DEMAND 1, types 41 and 42: of each function the definition that its answer is, that it asks nothing, and that it returns. Assumes nothing.
use Rattle.std.specs.Prelude.{◌%◌}
use Rattle.bits.specs.Signed.{signed as signed_of}
use Rattle.record_fields.specs.Narrow.{code_within}
use Rattle.record_generals.specs.Generals.{count_generals, read_head, general_at, make_generals}
use Rattle.record_generals.specs.GeneralNulls.{read_general_null, make_general_null}
use Rattle.record_values.specs.GeneralAnswer.{general_prc_mm, delay_mm, general_udre, use_seconds}
use Rattle.record_fields.proofs.signed14
use Rattle.record_fields.proofs.code14
use Rattle.record_generals.proofs.count_generals
use Rattle.record_generals.proofs.read_head
use Rattle.record_generals.proofs.general_at
use Rattle.record_generals.proofs.make_generals
use Rattle.record_generals.proofs.read_general_null
use Rattle.record_generals.proofs.make_general_null
use Rattle.record_values.proofs.general.general_prc_mm
use Rattle.record_values.proofs.general.delay_mm
use Rattle.record_values.proofs.general.general_udre
use Rattle.record_values.proofs.general.use_seconds
use Rattle.promises.specs.Answered.{Answered}

pub record GeneralCalls : Type 2 where
  -- record_fields
  pub signed14 : Answered signed14.Reads.Asked signed14.Reads.Learnt signed14.Statement.statement
      (λ κs (n, _). signed_of 13 (n % 16384))
  pub code14 : Answered code14.Reads.Asked code14.Reads.Learnt code14.Statement.statement
      (λ κs (z, _). code_within 13 z)
  -- record_generals
  pub count-generals : Answered count_generals.Reads.Asked count_generals.Reads.Learnt count_generals.Statement.statement
      (λ κs (frame, _). count_generals frame)
  pub read-head : Answered read_head.Reads.Asked read_head.Reads.Learnt read_head.Statement.statement
      (λ κs (frame, _). read_head frame)
  pub general-at : Answered general_at.Reads.Asked general_at.Reads.Learnt general_at.Statement.statement
      (λ κs (frame, (index, _)). general_at frame index)
  pub make-generals : Answered make_generals.Reads.Asked make_generals.Reads.Learnt make_generals.Statement.statement
      (λ κs (header, (head, (entries, (count, _)))). make_generals header head entries count)
  pub read-general-null : Answered read_general_null.Reads.Asked read_general_null.Reads.Learnt read_general_null.Statement.statement
      (λ κs (frame, _). read_general_null frame)
  pub make-general-null : Answered make_general_null.Reads.Asked make_general_null.Reads.Learnt make_general_null.Statement.statement
      (λ κs (header, (n, (system, _))). make_general_null header n system)
  -- record_values
  pub general-prc-mm : Answered general_prc_mm.Reads.Asked general_prc_mm.Reads.Learnt general_prc_mm.Statement.statement
      (λ κs (prc, _). general_prc_mm prc)
  pub delay-mm : Answered delay_mm.Reads.Asked delay_mm.Reads.Learnt delay_mm.Statement.statement
      (λ κs (delay, _). delay_mm delay)
  pub general-udre : Answered general_udre.Reads.Asked general_udre.Reads.Learnt general_udre.Statement.statement
      (λ κs (state, (udre, _)). general_udre state udre)
  pub use-seconds : Answered use_seconds.Reads.Asked use_seconds.Reads.Learnt use_seconds.Statement.statement
      (λ κs (code, _). use_seconds code)
