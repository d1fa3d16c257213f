-- `mend` meets its contract: room, a byte, a mark, and then by where the record ends. Assumes nothing.
use Rattle.std.specs.Prelude.{Err}
use Rattle.std.proofs.Common.{sym, refl, ap, ◌∙◌, eqb-true}
use Rattle.std.proofs.lemmas.Bool.{eqb-false}
use Rattle.mender.specs.declared.Step.TheVariants.{Cut, Numberless}
use Rattle.mender.proofs.StepLaws.{missed-steps, step_end, step-passed, step-judged, refused-mends, steps-mend, place-n}
use Rattle.mender.proofs.mend.Goals as goal

pub returns-then-output-lt-REPORT_ROOM : goal.returns-then-output-lt-REPORT_ROOM
returns-then-output-lt-REPORT_ROOM c =
    let a = c.args in
    let said = refused-mends a.searching a.bytes.now a.at a.output.now c.if-output-lt-REPORT_ROOM.true in
    record { value = said.0; bytes_after = said.1.0; output_after = said.1.1 }

pub returns-then-is_empty : goal.returns-then-is_empty
returns-then-is_empty c =
    let a = c.args in
    let said = steps-mend a.searching a.bytes.now a.at a.output.now c.if-output-lt-REPORT_ROOM.false
    (step_end a.searching a.bytes.now (eqb-true _ 0 (sym c.is_empty.ensures ∙ c.if-is_empty.true))) (c.quiet.ensures, (refl, refl)) in
    record { value = said.0; bytes_after = said.1.0; output_after = said.1.1 }

pub returns-then-is_unmarked : goal.returns-then-is_unmarked
returns-then-is_unmarked c =
    let a = c.args in
    let said = steps-mend a.searching a.bytes.now a.at a.output.now c.if-output-lt-REPORT_ROOM.false
    (step-passed a.searching a.bytes.now (eqb-false _ 0 (sym c.is_empty.ensures ∙ c.if-is_empty.false)) (sym c.is_unmarked.ensures
    ∙ c.if-is_unmarked.true))
    (c.quiet-then-is_unmarked.ensures, (refl, refl)) in
    record { value = said.0; bytes_after = said.1.0; output_after = said.1.1 }

pub mend_record-requires : goal.mend_record-requires
mend_record-requires c =
    let a = c.args in
    let n = place-n a.bytes.now (sym c.extent_of.ensures ∙ c.in-Ok.is) in
    record {
      n_value = n.0;
      n_bound = n.1.0;
      n_in_bounds = n.1.1;
      bytes_value = sym c.is_unmarked.ensures
          ∙ c.if-is_unmarked.false;
      report_room_in_bounds = c.if-output-lt-REPORT_ROOM.false;
    }

pub returns-in-Ok : goal.returns-in-Ok
returns-in-Ok c =
    let a = c.args in
    let said = steps-mend a.searching a.bytes.now a.at a.output.now
    c.if-output-lt-REPORT_ROOM.false
    (step-judged a.searching a.bytes.now
    (eqb-false _ 0 (sym c.is_empty.ensures ∙ c.if-is_empty.false))
    (sym c.is_unmarked.ensures
    ∙ c.if-is_unmarked.false)
    (sym c.in-Ok.is
    ∙ c.extent_of.ensures)) (c.mend_record.ensures.value, (c.mend_record.ensures.bytes_after, c.mend_record.ensures.output_after)) in
    record { value = said.0; bytes_after = said.1.0; output_after = said.1.1 }

pub returns-in-Err-Cut : goal.returns-in-Err-Cut
returns-in-Err-Cut c =
    let a = c.args in
    let said = steps-mend a.searching a.bytes.now a.at a.output.now
    c.if-output-lt-REPORT_ROOM.false
    (step-judged a.searching a.bytes.now (eqb-false _ 0 (sym c.is_empty.ensures ∙ c.if-is_empty.false))
    (sym c.is_unmarked.ensures
    ∙ c.if-is_unmarked.false)
    (ap Err (sym c.in-Err-Cut.field-0-is) ∙ sym c.in-Err-Cut.is ∙ c.extent_of.ensures))
    (missed-steps Cut tt a.searching a.at a.bytes.now a.output.now c.missed.ensures.value c.missed.ensures.output_after) in
    record { value = said.0; bytes_after = said.1.0; output_after = said.1.1 }

pub returns-in-Err-Numberless : goal.returns-in-Err-Numberless
returns-in-Err-Numberless c =
    let a = c.args in
    let said = steps-mend a.searching a.bytes.now a.at a.output.now
    c.if-output-lt-REPORT_ROOM.false
    (step-judged a.searching a.bytes.now (eqb-false _ 0 (sym c.is_empty.ensures ∙ c.if-is_empty.false))
    (sym c.is_unmarked.ensures
    ∙ c.if-is_unmarked.false)
    (ap Err (sym c.in-Err-Numberless.field-0-is) ∙ sym c.in-Err-Numberless.is ∙ c.extent_of.ensures))
    (missed-steps Numberless tt a.searching a.at a.bytes.now a.output.now c.missed-in-Err-Numberless.ensures.value c.missed-in-Err-Numberless.ensures.output_after) in
    record { value = said.0; bytes_after = said.1.0; output_after = said.1.1 }
