-- `rtcm2_counts` meets its contract: no state held, or the counters of the reader. Assumes nothing.
use mathlib.Core.Path.{sym, ap, ◌∙◌}
use Rattle.reader.specs.declared.Tally.{Tally}
use Rattle.reader.specs.declared.Reader.{Reader}
use Rattle.rtcm2.proofs.LineLaws.{number-refused, number-answered, left_alone, left-put, counts-none, counts-held}
use Rattle.rtcm2.proofs.listening.rtcm2_counts.Goals as goal

pub returns-then-not-holds_state : goal.returns-then-not-holds_state
returns-then-not-holds_state c =
    let a = c.args in
    let e = counts-none a.state.now (sym c.holds_state.ensures ∙ c.if-not-holds_state.true) in
    record { value = number-refused e; odd_after = left_alone (λ (t : Tally). t.odd) a.odd.now e; even_after = left_alone (λ (t : Tally). t.even) a.even.now e }

pub returns : goal.returns
returns c =
    let a = c.args in
    let e = counts-held a.state.now (sym c.holds_state.ensures ∙ c.if-not-holds_state.false) in
    let is = ap (λ (r : Reader). r.candidate.tally) c.state_in-reader.ensures in
    record { value = number-answered e; odd_after = left-put (λ (t : Tally). t.odd) a.odd.now e (ap (λ (t : Tally). t.odd) is); even_after = left-put (λ (t : Tally). t.even) a.even.now e (ap (λ (t : Tally). t.even) is) }
