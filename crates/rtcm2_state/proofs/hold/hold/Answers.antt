-- `hold` meets its contract: no state held, a reader that takes no bits, a byte without bits, nothing told, or six bits put in. Assumes nothing.
use mathlib.Core.Path.{◌≡◌, sym, ap, ap₂, ◌∙◌}
use mathlib.Core.Bool.{true}
use mathlib.Core.List.{List}
use Prim.Native.Nat.{ℕ}
use native.Mathlib.Omega.{arith}
use lib.ListN.{drop}
use Rattle.bits.specs.Bits.{number}
use Rattle.bits.specs.Fields.{AreBytes}
use Rattle.line.specs.Line.{is_data, six}
use Rattle.line.proofs.LineLaws.{six-lt, six-bits, six-refused}
use Rattle.reader.specs.declared.Candidate.{Candidate}
use Rattle.reader.specs.declared.Reader.{Reader}
use Rattle.reader.proofs.Accepted.{Accepted, to-accepted}
use Rattle.rtcm2_state.specs.Numbers.{numbers_in}
use Rattle.rtcm2_state.specs.State.{start_size, holds_state, state_in}
use Rattle.rtcm2_state.specs.Holding.{takes_six, after_six, six_put}
use Rattle.rtcm2_state.proofs.StateLaws.{held-long, read_is}
use Rattle.rtcm2_state.proofs.Holding.{all-bytes, cells_are}
use Rattle.rtcm2_state.proofs.Quiet.{Takes, takes_told, none-held, takes_none, no_bits, not-told, known_on, whole-on}
use borrow.Author.Rules.{rules}
use Rattle.rtcm2_state.proofs.hold.hold.Goals as goal

pub returns-then-not-holds_state : goal.returns-then-not-holds_state
returns-then-not-holds_state c =
    let a = c.args in
    let said = none-held a.bytes.now a.byte (sym c.holds_state.ensures ∙ c.if-not-holds_state.true) in
    record { value = said.0; bytes_after = said.1 }

pub returns-then-not-takes : goal.returns-then-not-takes
returns-then-not-takes c =
    let held : holds_state c.args.bytes.now ≡ true = sym c.holds_state.ensures ∙ c.if-not-holds_state.false in
    let counts : c.candidate_at-c.result ≡ (state_in c.args.bytes.now).candidate = c.candidate_at-c.ensures
    ∙ ap (λ (r : Reader). r.candidate) (sym (read_is c.args.bytes.now held)) in
    let asked : c.takes.result ≡ takes_six (state_in c.args.bytes.now).candidate (state_in c.args.bytes.now).ended = c.takes.ensures
    ∙ ap₂ takes_six counts
    (c.ended_at.ensures ∙ ap (λ (r : Reader). r.ended) (sym (read_is c.args.bytes.now held))) in
    let a = c.args in
    let said = takes_none a.bytes.now a.byte held (sym asked ∙ c.if-not-takes.true) in
    record { value = said.0; bytes_after = said.1 }

pub returns-in_default : goal.returns-in_default
returns-in_default c =
    let a = c.args in
    let said = no_bits a.bytes.now a.byte (six-refused a.byte _ (sym c.six_of-line.ensures ∙ c.in_default.is)) in
    record { value = said.0; bytes_after = said.1 }

pub tell-requires : goal.tell-requires
tell-requires c =
    let data_is : (is_data c.args.byte ≡ true) × (c.in-Ok.six ≡ number (six c.args.byte)) = six-bits c.args.byte _ (sym c.six_of-line.ensures ∙ c.in-Ok.is) in
    let held : holds_state c.args.bytes.now ≡ true = sym c.holds_state.ensures ∙ c.if-not-holds_state.false in
    let bs : List ℕ = c.args.bytes.now in
    let counts : c.candidate_at-c.result ≡ (state_in c.args.bytes.now).candidate = c.candidate_at-c.ensures
    ∙ ap (λ (r : Reader). r.candidate) (sym (read_is c.args.bytes.now held)) in
    let asked : c.takes.result ≡ takes_six (state_in c.args.bytes.now).candidate (state_in c.args.bytes.now).ended = c.takes.ensures
    ∙ ap₂ takes_six counts
    (c.ended_at.ensures ∙ ap (λ (r : Reader). r.ended) (sym (read_is c.args.bytes.now held))) in
    let takes-it : takes_six (state_in bs).candidate (state_in bs).ended ≡ true = sym asked ∙ c.if-not-takes.false in
    let takes : Takes (state_in bs).candidate (state_in bs).ended = takes_told (state_in bs).candidate (state_in bs).ended takes-it in
    let accepted : Accepted (state_in bs).candidate = to-accepted (state_in bs).candidate takes.fine in
    let counted : Candidate = c.candidate_at-c.result in
    let end_is : counted.end ≡ (state_in bs).candidate.end = ap (λ (k : Candidate). k.end) counts in
    let held-is : counted.held ≡ (state_in bs).candidate.held = ap (λ (k : Candidate). k.held) counts in
    let words_are : counted.words ≡ (state_in bs).candidate.words = ap (λ (k : Candidate). k.words) counts in (
      held-long bs held,
      omega (arith, end_is, takes.room),
      omega (arith, end_is, held-is, accepted.low),
      omega (arith, words_are, accepted.few),
      omega (arith, data_is.1, six-lt c.args.byte),
    )

pub put_six-requires : goal.put_six-requires
put_six-requires c =
    let data_is : (is_data c.args.byte ≡ true) × (c.in-Ok.six ≡ number (six c.args.byte)) = six-bits c.args.byte _ (sym c.six_of-line.ensures ∙ c.in-Ok.is) in
    let held : holds_state c.args.bytes.now ≡ true = sym c.holds_state.ensures ∙ c.if-not-holds_state.false in
    let bs : List ℕ = c.args.bytes.now in
    let counts : c.candidate_at-c.result ≡ (state_in c.args.bytes.now).candidate = c.candidate_at-c.ensures
    ∙ ap (λ (r : Reader). r.candidate) (sym (read_is c.args.bytes.now held)) in
    let asked : c.takes.result ≡ takes_six (state_in c.args.bytes.now).candidate (state_in c.args.bytes.now).ended = c.takes.ensures
    ∙ ap₂ takes_six counts
    (c.ended_at.ensures ∙ ap (λ (r : Reader). r.ended) (sym (read_is c.args.bytes.now held))) in
    let takes-it : takes_six (state_in bs).candidate (state_in bs).ended ≡ true = sym asked ∙ c.if-not-takes.false in
    let takes : Takes (state_in bs).candidate (state_in bs).ended = takes_told (state_in bs).candidate (state_in bs).ended takes-it in
    let accepted : Accepted (state_in bs).candidate = to-accepted (state_in bs).candidate takes.fine in
    let counted : Candidate = c.candidate_at-c.result in
    let end_is : counted.end ≡ (state_in bs).candidate.end = ap (λ (k : Candidate). k.end) counts in
    let held-is : counted.held ≡ (state_in bs).candidate.held = ap (λ (k : Candidate). k.held) counts in (
      held-long bs held,
      omega (arith, data_is.1, six-lt c.args.byte),
      omega (arith, end_is, takes.room),
      omega (arith, held-is, takes.room, accepted.low),
    )

pub put_six-requires-in-Whole : goal.put_six-requires-in-Whole
put_six-requires-in-Whole c =
    let data_is : (is_data c.args.byte ≡ true) × (c.in-Ok.six ≡ number (six c.args.byte)) = six-bits c.args.byte _ (sym c.six_of-line.ensures ∙ c.in-Ok.is) in
    let held : holds_state c.args.bytes.now ≡ true = sym c.holds_state.ensures ∙ c.if-not-holds_state.false in
    let bs : List ℕ = c.args.bytes.now in
    let counts : c.candidate_at-c.result ≡ (state_in c.args.bytes.now).candidate = c.candidate_at-c.ensures
    ∙ ap (λ (r : Reader). r.candidate) (sym (read_is c.args.bytes.now held)) in
    let asked : c.takes.result ≡ takes_six (state_in c.args.bytes.now).candidate (state_in c.args.bytes.now).ended = c.takes.ensures
    ∙ ap₂ takes_six counts
    (c.ended_at.ensures ∙ ap (λ (r : Reader). r.ended) (sym (read_is c.args.bytes.now held))) in
    let takes-it : takes_six (state_in bs).candidate (state_in bs).ended ≡ true = sym asked ∙ c.if-not-takes.false in
    let takes : Takes (state_in bs).candidate (state_in bs).ended = takes_told (state_in bs).candidate (state_in bs).ended takes-it in
    let accepted : Accepted (state_in bs).candidate = to-accepted (state_in bs).candidate takes.fine in
    let counted : Candidate = c.candidate_at-c.result in
    let end_is : counted.end ≡ (state_in bs).candidate.end = ap (λ (k : Candidate). k.end) counts in
    let held-is : counted.held ≡ (state_in bs).candidate.held = ap (λ (k : Candidate). k.held) counts in (
      held-long bs held,
      omega (arith, data_is.1, six-lt c.args.byte),
      omega (arith, end_is, takes.room),
      omega (arith, held-is, takes.room, accepted.low),
    )

pub returns-in-Known : goal.returns-in-Known
returns-in-Known c =
    let data_is : (is_data c.args.byte ≡ true) × (c.in-Ok.six ≡ number (six c.args.byte)) = six-bits c.args.byte _ (sym c.six_of-line.ensures ∙ c.in-Ok.is) in
    let held : holds_state c.args.bytes.now ≡ true = sym c.holds_state.ensures ∙ c.if-not-holds_state.false in
    let bytes-are : AreBytes c.args.bytes.now = all-bytes c.args.bytes.now (λ i. search rules) in
    let counts : c.candidate_at-c.result ≡ (state_in c.args.bytes.now).candidate = c.candidate_at-c.ensures
    ∙ ap (λ (r : Reader). r.candidate) (sym (read_is c.args.bytes.now held)) in
    let bs : List ℕ = c.args.bytes.now in
    let asked : c.takes.result ≡ takes_six (state_in c.args.bytes.now).candidate (state_in c.args.bytes.now).ended = c.takes.ensures
    ∙ ap₂ takes_six counts
    (c.ended_at.ensures ∙ ap (λ (r : Reader). r.ended) (sym (read_is c.args.bytes.now held))) in
    let takes-it : takes_six (state_in bs).candidate (state_in bs).ended ≡ true = sym asked ∙ c.if-not-takes.false in
    let told_is : c.tell.result ≡ after_six (state_in bs).cells (state_in bs).candidate (number (six c.args.byte)) = c.tell.ensures
    ∙ ap₂ (λ (k : Candidate) n. after_six (numbers_in 40 (drop start_size bs)) k n) counts data_is.1
    ∙ ap (λ cells. after_six cells (state_in bs).candidate (number (six c.args.byte)))
    (sym (cells_are bs bytes-are held)) in
    let said = known_on bs c.args.byte bytes-are held takes-it data_is.0 c.in-Known.words (sym told_is ∙ c.in-Known.is)
    (c.put_six.ensures ∙ ap₂ (λ (k : Candidate) n. six_put bs k.end k.held c.in-Known.words 0 n) counts data_is.1) in
    record { value = said.0; bytes_after = said.1 }

pub returns-in-Whole : goal.returns-in-Whole
returns-in-Whole c =
    let data_is : (is_data c.args.byte ≡ true) × (c.in-Ok.six ≡ number (six c.args.byte)) = six-bits c.args.byte _ (sym c.six_of-line.ensures ∙ c.in-Ok.is) in
    let held : holds_state c.args.bytes.now ≡ true = sym c.holds_state.ensures ∙ c.if-not-holds_state.false in
    let bytes-are : AreBytes c.args.bytes.now = all-bytes c.args.bytes.now (λ i. search rules) in
    let counts : c.candidate_at-c.result ≡ (state_in c.args.bytes.now).candidate = c.candidate_at-c.ensures
    ∙ ap (λ (r : Reader). r.candidate) (sym (read_is c.args.bytes.now held)) in
    let bs : List ℕ = c.args.bytes.now in
    let asked : c.takes.result ≡ takes_six (state_in c.args.bytes.now).candidate (state_in c.args.bytes.now).ended = c.takes.ensures
    ∙ ap₂ takes_six counts
    (c.ended_at.ensures ∙ ap (λ (r : Reader). r.ended) (sym (read_is c.args.bytes.now held))) in
    let takes-it : takes_six (state_in bs).candidate (state_in bs).ended ≡ true = sym asked ∙ c.if-not-takes.false in
    let told_is : c.tell.result ≡ after_six (state_in bs).cells (state_in bs).candidate (number (six c.args.byte)) = c.tell.ensures
    ∙ ap₂ (λ (k : Candidate) n. after_six (numbers_in 40 (drop start_size bs)) k n) counts data_is.1
    ∙ ap (λ cells. after_six cells (state_in bs).candidate (number (six c.args.byte)))
    (sym (cells_are bs bytes-are held)) in
    let said = whole-on bs c.args.byte bytes-are held takes-it data_is.0 (sym told_is ∙ c.in-Whole.is)
    (c.put_six-in-Whole.ensures ∙ ap₂ (λ (k : Candidate) n. six_put bs k.end k.held 0 1 n) counts data_is.1) in
    record { value = said.0; bytes_after = said.1 }

pub returns-in-Untold : goal.returns-in-Untold
returns-in-Untold c =
    let data_is : (is_data c.args.byte ≡ true) × (c.in-Ok.six ≡ number (six c.args.byte)) = six-bits c.args.byte _ (sym c.six_of-line.ensures ∙ c.in-Ok.is) in
    let bs : List ℕ = c.args.bytes.now in
    let held : holds_state c.args.bytes.now ≡ true = sym c.holds_state.ensures ∙ c.if-not-holds_state.false in
    let bytes-are : AreBytes c.args.bytes.now = all-bytes c.args.bytes.now (λ i. search rules) in
    let counts : c.candidate_at-c.result ≡ (state_in c.args.bytes.now).candidate = c.candidate_at-c.ensures
    ∙ ap (λ (r : Reader). r.candidate) (sym (read_is c.args.bytes.now held)) in
    let told_is : c.tell.result ≡ after_six (state_in bs).cells (state_in bs).candidate (number (six c.args.byte)) = c.tell.ensures
    ∙ ap₂ (λ (k : Candidate) n. after_six (numbers_in 40 (drop start_size bs)) k n) counts data_is.1
    ∙ ap (λ cells. after_six cells (state_in bs).candidate (number (six c.args.byte)))
    (sym (cells_are bs bytes-are held)) in
    let said = not-told bs c.args.byte (sym told_is ∙ c.in-Untold.is) in
    record { value = said.0; bytes_after = said.1 }

pub candidate_at-c-requires : goal.candidate_at-c-requires
candidate_at-c-requires c =
    let held : holds_state c.args.bytes.now ≡ true = sym c.holds_state.ensures ∙ c.if-not-holds_state.false in
    held-long c.args.bytes.now held

pub ended_at-requires : goal.ended_at-requires
ended_at-requires c =
    let held : holds_state c.args.bytes.now ≡ true = sym c.holds_state.ensures ∙ c.if-not-holds_state.false in
    held-long c.args.bytes.now held
