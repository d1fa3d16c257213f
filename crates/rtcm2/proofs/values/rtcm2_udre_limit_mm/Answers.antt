-- `rtcm2_udre_limit_mm` meets its contract: the test of the health, then each answer of the value, as a flag and a number. Assumes nothing.
use mathlib.Core.Path.{◌≡◌, sym, ap, ◌∙◌}
use Prim.Native.Nat.{ℕ, ◌≤◌, ◌<◌}
use borrow.Author.Tests.{lt-ltb, le-ltb}
use Rattle.answer.specs.Order.{refuses}
use Rattle.frame.specs.Header.{state_of}
use Rattle.frame.specs.declared.State.{State}
use Rattle.record_values.specs.Answer.{udre_limit, says_limit}
use Rattle.record_values.specs.declared.Limit.{Limit}
use Rattle.rtcm2.specs.Values.{limit_said, limit_flag, limit_or0}
use Rattle.rtcm2.proofs.AnswerLaws.{two-left}
use Rattle.rtcm2.proofs.HealthLaws.{state-told}
use Rattle.rtcm2.proofs.values.rtcm2_udre_limit_mm.Goals as goal

-- what is said of a health over 7, and of any other
over : (health udre : ℕ) → 7 < health → refuses 5 ≡ limit_said health udre
over health udre h = rw (lt-ltb 7 health h)

within : (health udre : ℕ) {s : State} {l : Limit} → health ≤ 7 → s ≡ state_of health → l ≡ udre_limit s udre → says_limit l ≡ limit_said health udre
within health udre h e f = rw (le-ltb 7 health h) (ap says_limit (f ∙ ap (λ t. udre_limit t udre) e))

pub returns-then-health-gt7 : goal.returns-then-health-gt7
returns-then-health-gt7 c =
    let a = c.args in
    let e = over a.health a.udre c.if-health-gt7.true in
    let said = two-left limit_flag limit_or0 a.limited.now a.mm.now e in
    record { value = said.0; limited_after = said.1.0; mm_after = said.1.1 }

pub returns-in-Millimetres : goal.returns-in-Millimetres
returns-in-Millimetres c =
    let stated : c.state_of-state.result ≡ state_of c.args.health = state-told c.if-health-gt7.false c.state_of-state.ensures in
    let said : (l : Limit) → c.udre_limit.result ≡ l → says_limit l ≡ limit_said c.args.health c.args.udre = λ l e. let a = c.args in
    within a.health a.udre c.if-health-gt7.false stated (sym e ∙ c.udre_limit.ensures) in
    let a = c.args in
    let e = said _ c.in-Millimetres.is in
    let both = two-left limit_flag limit_or0 a.limited.now a.mm.now e in
    record { value = both.0; limited_after = both.1.0; mm_after = both.1.1 }

pub returns-in-NoLimit : goal.returns-in-NoLimit
returns-in-NoLimit c =
    let stated : c.state_of-state.result ≡ state_of c.args.health = state-told c.if-health-gt7.false c.state_of-state.ensures in
    let said : (l : Limit) → c.udre_limit.result ≡ l → says_limit l ≡ limit_said c.args.health c.args.udre = λ l e. let a = c.args in
    within a.health a.udre c.if-health-gt7.false stated (sym e ∙ c.udre_limit.ensures) in
    let a = c.args in
    let e = said _ c.in-NoLimit.is in
    let both = two-left limit_flag limit_or0 a.limited.now a.mm.now e in
    record { value = both.0; limited_after = both.1.0; mm_after = both.1.1 }

pub returns-in-Refused : goal.returns-in-Refused
returns-in-Refused c =
    let stated : c.state_of-state.result ≡ state_of c.args.health = state-told c.if-health-gt7.false c.state_of-state.ensures in
    let said : (l : Limit) → c.udre_limit.result ≡ l → says_limit l ≡ limit_said c.args.health c.args.udre = λ l e. let a = c.args in
    within a.health a.udre c.if-health-gt7.false stated (sym e ∙ c.udre_limit.ensures) in
    let a = c.args in
    let e = said _ c.in-Refused.is in
    let both = two-left limit_flag limit_or0 a.limited.now a.mm.now e in
    record { value = both.0; limited_after = both.1.0; mm_after = both.1.1 }
