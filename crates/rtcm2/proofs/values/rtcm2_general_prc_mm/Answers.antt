-- `rtcm2_general_prc_mm` meets its contract: each answer of the value, as a flag and a number. Assumes nothing.
use mathlib.Core.Path.{◌≡◌, sym, ap, ◌∙◌}
use mir.Syntax.{w16, w32}
use mir.Val.{to_z, of_z}
use mir.ValLaws.{to_z-of_z}
use borrow.Author.Rules.{rules}
use Rattle.record_values.specs.Answer.{says_distance}
use Rattle.record_values.specs.GeneralAnswer.{general_prc_mm}
use Rattle.rtcm2.specs.Values.{stop_flag, exact_or0}
use Rattle.rtcm2.proofs.AnswerLaws.{number-as, left_as, two-left}
use Rattle.rtcm2.proofs.values.rtcm2_general_prc_mm.Goals as goal

pub returns-in-Millimetres : goal.returns-in-Millimetres
returns-in-Millimetres c =
    let v = c.in-Millimetres.exact in
    let a = c.args in
    let e = ap says_distance
    (sym c.in-Millimetres.is ∙ c.general_prc_mm.ensures ∙ ap general_prc_mm (to_z-of_z w16 a.prc c.ranges.prc)) in
    let exact : to_z w32 (of_z w32 v) ≡ v = search rules in
    record { value = number-as e; stop_after = left_as stop_flag a.stop.now e; mm_after = exact ∙ left_as exact_or0 a.mm.now e }

pub returns-in-Stop : goal.returns-in-Stop
returns-in-Stop c =
    let a = c.args in
    let e = ap says_distance
    (sym c.in-Stop.is ∙ c.general_prc_mm.ensures ∙ ap general_prc_mm (to_z-of_z w16 a.prc c.ranges.prc)) in
    let said = two-left stop_flag exact_or0 a.stop.now a.mm.now e in
    record { value = said.0; stop_after = said.1.0; mm_after = said.1.1 }

pub returns-in-Refused : goal.returns-in-Refused
returns-in-Refused c =
    let a = c.args in
    let e = ap says_distance
    (sym c.in-Refused.is ∙ c.general_prc_mm.ensures ∙ ap general_prc_mm (to_z-of_z w16 a.prc c.ranges.prc)) in
    let said = two-left stop_flag exact_or0 a.stop.now a.mm.now e in
    record { value = said.0; stop_after = said.1.0; mm_after = said.1.1 }
