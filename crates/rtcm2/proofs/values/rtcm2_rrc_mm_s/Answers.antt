-- `rtcm2_rrc_mm_s` meets its contract: each answer of the value, as a flag and a number. Assumes nothing.
use mathlib.Core.Path.{◌≡◌, sym, ap, ◌∙◌}
use mir.Syntax.{w8, w32}
use mir.Val.{to_z, of_z}
use mir.ValLaws.{to_z-of_z}
use borrow.Author.Rules.{rules}
use Rattle.record_values.specs.Answer.{rrc_mm_s, says_rate}
use Rattle.rtcm2.specs.Values.{stop_flag, exact_or0}
use Rattle.rtcm2.proofs.AnswerLaws.{number-as, left_as, two-left}
use Rattle.rtcm2.proofs.values.rtcm2_rrc_mm_s.Goals as goal

pub returns-in-MillimetresPerSecond : goal.returns-in-MillimetresPerSecond
returns-in-MillimetresPerSecond c =
    let v = c.in-MillimetresPerSecond.exact in
    let a = c.args in
    let e = ap says_rate (sym c.in-MillimetresPerSecond.is ∙ c.rrc_mm_s.ensures
    ∙ ap (rrc_mm_s a.scale) (to_z-of_z w8 a.rrc c.ranges.rrc)) in
    let exact : to_z w32 (of_z w32 v) ≡ v = search rules in
    record { value = number-as e; stop_after = left_as stop_flag a.stop.now e; rate_after = exact ∙ left_as exact_or0 a.rate.now e }

pub returns-in-Stop : goal.returns-in-Stop
returns-in-Stop c =
    let a = c.args in
    let e = ap says_rate (sym c.in-Stop.is ∙ c.rrc_mm_s.ensures ∙ ap (rrc_mm_s a.scale) (to_z-of_z w8 a.rrc c.ranges.rrc)) in
    let said = two-left stop_flag exact_or0 a.stop.now a.rate.now e in
    record { value = said.0; stop_after = said.1.0; rate_after = said.1.1 }

pub returns-in-Refused : goal.returns-in-Refused
returns-in-Refused c =
    let a = c.args in
    let e = ap says_rate (sym c.in-Refused.is ∙ c.rrc_mm_s.ensures
    ∙ ap (rrc_mm_s a.scale) (to_z-of_z w8 a.rrc c.ranges.rrc)) in
    let said = two-left stop_flag exact_or0 a.stop.now a.rate.now e in
    record { value = said.0; stop_after = said.1.0; rate_after = said.1.1 }
