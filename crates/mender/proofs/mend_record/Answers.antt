-- `mend_record` meets its contract: the copy holds the record after mending; where that reads it is put back, else nothing is. Assumes nothing.
use Rattle.std.proofs.Common.{length, replicate, sym, ap, ◌∙◌, arith, rules}
use Rattle.mender.specs.Records.{reads}
use Rattle.mender.proofs.FewLaws.{are-bytes}
use Rattle.mender.proofs.StepLaws.{record-long, copied, lost-judged, lost-steps, whole-judged, whole-steps, changes-room}
use Rattle.mender.proofs.mend_record.Goals as goal

pub slice_bounds-is_read-end : goal.slice_bounds-is_read-end
slice_bounds-is_read-end c =
    let bs = c.args.bytes.now in
    sym (ap length (copied c.args.n bs (replicate 135 0) (omega arith) c.requires.n_bound c.put_record.ensures) ∙ record-long c.args.n bs)

pub returns-then-not-is_read : goal.returns-then-not-is_read
returns-then-not-is_read c =
    let a = c.args in
    let bs = a.bytes.now in
    let same = copied a.n bs (replicate 135 0) (omega arith) c.requires.n_bound c.put_record.ensures in
    let lost = lost-judged a.n bs (c.is_read.ensures ∙ ap reads same) c.if-not-is_read.true in
    let said = lost-steps a.n bs lost a.searching a.at a.output.now c.missed.ensures.value c.missed.ensures.output_after in
    record { value = said.0; bytes_after = said.1.0; output_after = said.1.1 }

pub slice_bounds-put_changes-end : goal.slice_bounds-put_changes-end
slice_bounds-put_changes-end c =
    let bs = c.args.bytes.now in
    sym (ap length (copied c.args.n bs (replicate 135 0) (omega arith) c.requires.n_bound c.put_record.ensures) ∙ record-long c.args.n bs)

pub put_changes-written-requires : goal.put_changes-written-requires
put_changes-written-requires c =
    let a = c.args in
    let bs = a.bytes.now in
    let same = copied a.n bs (replicate 135 0) (omega arith) c.requires.n_bound c.put_record.ensures in
    let said = changes-room a.n bs a.at (are-bytes bs (λ i. search rules))
    c.requires.n_bound c.requires.n_in_bounds c.requires.bytes_value same c.requires.report_room_in_bounds in
    record { whole_in_bounds = said.0; whole_in_bounds_2 = said.1 }

pub returns : goal.returns
returns c =
    let a = c.args in
    let bs = a.bytes.now in
    let same = copied a.n bs (replicate 135 0) (omega arith) c.requires.n_bound c.put_record.ensures in
    let whole = whole-judged a.n bs (c.is_read.ensures
    ∙ ap reads same) c.if-not-is_read.false in
    let said = whole-steps a.n bs a.searching whole c.requires.n_value a.at a.output.now same c.put_changes-written.ensures.value
    c.put_changes-written.ensures.bytes_after c.put_changes-written.ensures.output_after in
    record { value = said.0; bytes_after = said.1.0; output_after = said.1.1 }
