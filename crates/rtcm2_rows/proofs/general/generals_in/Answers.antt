-- `generals_in` meets its contract: by what each call of its closure made. Assumes nothing.
use Rattle.std.proofs.Common.{rules}
use Rattle.rtcm2_rows.specs.Generals.{row}
use Rattle.rtcm2_rows.proofs.RowLaws.{made_entries}
use Rattle.rtcm2_rows.proofs.general.generals_in.Goals as goal

pub returns : goal.returns
returns c = made_entries row _ _ c.args.bytes.now c.from_fn.result 22 (λ i e q k. search rules) c.from_fn.ensures.items
