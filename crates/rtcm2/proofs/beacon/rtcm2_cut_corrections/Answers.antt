-- `rtcm2_cut_corrections` meets its contract: the header's refusal, or what keeping the frames leaves. Assumes nothing.
use mathlib.Core.Path.{sym, ap, subst, ◌∙◌}
use Prim.Native.Nat.{◌≤◌}
use native.Mathlib.Omega.{arith}
use lib.ListN.{length}
use Rattle.frame.specs.declared.System.TheVariants.{Gps}
use Rattle.profile.specs.Cutting.{says_cut}
use Rattle.profile.proofs.Said.{cut-whole}
use Rattle.rtcm2_rows.specs.Rows.{row_size, count_of, entries_from}
use Rattle.rtcm2_rows.specs.Corrections.{row}
use Rattle.rtcm2_rows.proofs.RowLaws.{length-entries}
use Rattle.rtcm2.specs.Header.{says_headed}
use Rattle.rtcm2.specs.Beacon.{cut_said, CutStorable}
use Rattle.rtcm2.proofs.BeaconLaws.{kept-refused, kept-as}
use Rattle.rtcm2.proofs.beacon.rtcm2_cut_corrections.Goals as goal

-- what is cut can be kept
pub keep_cut-requires : goal.keep_cut-requires
keep_cut-requires c =
    let a = c.args in
    let bytes = a.corrections.now in
    let full : 18 ≤ length (entries_from (row Gps) 18 bytes) = omega (arith, length-entries (row Gps) 18 bytes) in
    subst CutStorable (sym c.cut_of.ensures) (cut-whole _ (entries_from (row Gps) 18 bytes) (count_of (row_size (row Gps)) (length bytes)) full)

pub returns-in-Header : goal.returns-in-Header
returns-in-Header c =
    let a = c.args in
    let said = kept-as a.frames.now a.length.now
    (ap says_cut c.cut_of.ensures
    ∙ ap (λ s. cut_said s a.corrections.now) (ap says_headed (sym c.in-Header.is ∙ c.header_of.ensures)))
    (c.keep_cut.ensures.value, (c.keep_cut.ensures.frames_after, c.keep_cut.ensures.length_after)) in
    record { value = said.0; frames_after = said.1.0; length_after = said.1.1 }

pub returns-in-Refused : goal.returns-in-Refused
returns-in-Refused c =
    let a = c.args in
    let said = kept-refused a.frames.now a.length.now
    (ap (λ s. cut_said s a.corrections.now) (ap says_headed (sym c.in-Refused.is ∙ c.header_of.ensures))) in
    record { value = said.0; frames_after = said.1.0; length_after = said.1.1 }
