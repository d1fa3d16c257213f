-- `rtcm2_general_udre` meets its contract: the test of the health, then each answer of the value, as a flag and a number. Assumes nothing.
use mathlib.Core.Path.{◌≡◌, sym, ap, ◌∙◌}
use Prim.Native.Nat.{ℕ, ◌≤◌, ◌<◌}
use borrow.Author.Tests.{lt-ltb, le-ltb}
use Rattle.answer.specs.Order.{refuses}
use Rattle.frame.specs.Header.{state_of}
use Rattle.frame.specs.declared.State.{State}
use Rattle.record_values.specs.GeneralAnswer.{general_udre, says_general_limit}
use Rattle.record_values.specs.declared.GeneralLimit.{GeneralLimit}
use Rattle.rtcm2.specs.Values.{general_limit_said, limit_flag, limit_or0}
use Rattle.rtcm2.proofs.AnswerLaws.{two-left}
use Rattle.rtcm2.proofs.HealthLaws.{state-told}
use Rattle.rtcm2.proofs.values.rtcm2_general_udre.Goals as goal

-- what is said of a health over 7, and of any other
over : (health udre : ℕ) → 7 < health → refuses 5 ≡ general_limit_said health udre
over health udre h = rw (lt-ltb 7 health h)

within : (health udre : ℕ) {s : State} {l : GeneralLimit} → health ≤ 7 → s ≡ state_of health → l ≡ general_udre s udre
    → says_general_limit l ≡ general_limit_said health udre
within health udre h e f = rw (le-ltb 7 health h) (ap says_general_limit (f ∙ ap (λ t. general_udre t udre) e))

pub returns-then-health-gt7 : goal.returns-then-health-gt7
returns-then-health-gt7 c =
    let a = c.args in
    let e = over a.health a.udre c.if-health-gt7.true in
    let said = two-left limit_flag limit_or0 a.limited.now a.hundredths.now e in
    record { value = said.0; limited_after = said.1.0; hundredths_after = said.1.1 }

pub returns-in-Hundredths : goal.returns-in-Hundredths
returns-in-Hundredths c =
    let stated : c.state_of-state.result ≡ state_of c.args.health = state-told c.if-health-gt7.false c.state_of-state.ensures in
    let said : (l : GeneralLimit) → c.general_udre.result ≡ l
    → says_general_limit l ≡ general_limit_said c.args.health c.args.udre = λ l e. let a = c.args in
    within a.health a.udre c.if-health-gt7.false stated (sym e ∙ c.general_udre.ensures) in
    let a = c.args in
    let e = said _ c.in-Hundredths.is in
    let both = two-left limit_flag limit_or0 a.limited.now a.hundredths.now e in
    record { value = both.0; limited_after = both.1.0; hundredths_after = both.1.1 }

pub returns-in-NoLimit : goal.returns-in-NoLimit
returns-in-NoLimit c =
    let stated : c.state_of-state.result ≡ state_of c.args.health = state-told c.if-health-gt7.false c.state_of-state.ensures in
    let said : (l : GeneralLimit) → c.general_udre.result ≡ l
    → says_general_limit l ≡ general_limit_said c.args.health c.args.udre = λ l e. let a = c.args in
    within a.health a.udre c.if-health-gt7.false stated (sym e ∙ c.general_udre.ensures) in
    let a = c.args in
    let e = said _ c.in-NoLimit.is in
    let both = two-left limit_flag limit_or0 a.limited.now a.hundredths.now e in
    record { value = both.0; limited_after = both.1.0; hundredths_after = both.1.1 }

pub returns-in-Refused : goal.returns-in-Refused
returns-in-Refused c =
    let stated : c.state_of-state.result ≡ state_of c.args.health = state-told c.if-health-gt7.false c.state_of-state.ensures in
    let said : (l : GeneralLimit) → c.general_udre.result ≡ l
    → says_general_limit l ≡ general_limit_said c.args.health c.args.udre = λ l e. let a = c.args in
    within a.health a.udre c.if-health-gt7.false stated (sym e ∙ c.general_udre.ensures) in
    let a = c.args in
    let e = said _ c.in-Refused.is in
    let both = two-left limit_flag limit_or0 a.limited.now a.hundredths.now e in
    record { value = both.0; limited_after = both.1.0; hundredths_after = both.1.1 }
