-- `corrections_in` meets its contract: by what each call of its closure made. Assumes nothing.
use Rattle.std.proofs.Common.{rules}
use Rattle.rtcm2_rows.specs.Corrections.{row}
use Rattle.rtcm2_rows.proofs.RowLaws.{made_entries}
use Rattle.rtcm2_rows.proofs.correction.corrections_in.Goals as goal

pub returns : goal.returns
returns c = made_entries (row c.args.system) _ _ c.args.bytes.now c.from_fn.result 18 (λ i e q k. search rules) c.from_fn.ensures.items
