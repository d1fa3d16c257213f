-- `rtcm2_take` meets its contract: no state held, no frame that waits, the reader's refusal, a frame that is not kept, or the frame kept and the state
-- that is left.
-- Assumes nothing.
use mathlib.Core.Path.{◌≡◌, refl, sym, ap, ◌∙◌}
use mathlib.Core.Bool.{true, false}
use mathlib.Core.List.{List}
use Prim.Native.Nat.{ℕ}
use borrow.Author.Tests.{not-true}
use Rattle.answer.specs.Order.{refuses, answers}
use Rattle.reader.specs.Reading.{past_of, taken_by}
use Rattle.reader.specs.declared.Candidate.{Candidate}
use Rattle.reader.specs.declared.Taken.{Taken}
use Rattle.journal.specs.Journal.{recorded_by, recorded_to, kept_by, held_by}
use Rattle.journal.proofs.PutLaws.{keep-within}
use Rattle.rtcm2_state.specs.State.{holds_state, state_in, start_put}
use Rattle.rtcm2.specs.Answer.{left}
use Rattle.rtcm2.specs.Line.{read_by, taken_in}
use Rattle.rtcm2.proofs.LineLaws.{
  number-refused,
  number-answered,
  left_alone,
  left-put,
  read_none,
  read-refused,
  read_done,
  take-refused,
  take-unkept,
  take_done,
  take_past,
  take_none,
  taken-within,
  unkept-alone,
}
use Rattle.rtcm2.proofs.listening.rtcm2_take.Goals as goal

-- the length of the record, and what taking left; what goes into each place
abbrev Both : Type 0
Both = ℕ × Taken

abbrev state_of : List ℕ → Both → List ℕ
state_of state v = start_put v.1.reader.candidate v.1.reader.ended state

abbrev record_of : List ℕ → Both → List ℕ
record_of frame v = held_by v.1.frame frame

-- where it is refused, every place but the record's is as it was
module _ (state frame : List ℕ) {n : ℕ} (e : taken_in state frame ≡ refuses n) (size at d29 d30 : ℕ) where
  numbers-alone : (size ≡ left (taken_in state frame) (λ (v : Both). v.0) size)
      × ((at ≡ left (taken_in state frame) (λ (v : Both). v.1.at) at)
      × ((d29 ≡ left (taken_in state frame) (λ (v : Both). v.1.frame.carried.d29) d29)
      × (d30 ≡ left (taken_in state frame) (λ (v : Both). v.1.frame.carried.d30) d30)))
  numbers-alone = (
    left_alone (λ (v : Both). v.0) size e,
    (
      left_alone (λ (v : Both). v.1.at) at e,
      (left_alone (λ (v : Both). v.1.frame.carried.d29) d29 e, left_alone (λ (v : Both). v.1.frame.carried.d30) d30 e),
    ),
  )

pub returns-then-not-holds_state : goal.returns-then-not-holds_state
returns-then-not-holds_state c =
    let a = c.args in
    let state = a.state.now in
    let frame = a.frame.now in
    let e = take-refused state frame (read_none (λ (t : Taken). t.answer) taken_by state (sym c.holds_state.ensures ∙ c.if-not-holds_state.true)) in
    let numbers = numbers-alone state frame e a.length.now a.at.now a.d29.now a.d30.now in
    record { value = number-refused e; state_after = left_alone (state_of state) state e; frame_after = left_alone (record_of frame) frame e; length_after = numbers.0; at_after = numbers.1.0; d29_after = numbers.1.1.0; d30_after = numbers.1.1.1 }

pub returns-then-past : goal.returns-then-past
returns-then-past c =
    let held : holds_state c.args.state.now ≡ true = sym c.holds_state.ensures ∙ c.if-not-holds_state.false in
    let counts : past_of (state_in c.args.state.now).candidate ≡ c.past.result = ap past_of (sym c.candidate_in-there.ensures) ∙ sym c.past.ensures in
    let a = c.args in
    let state = a.state.now in
    let frame = a.frame.now in
    let e = take-refused state frame (read-refused (λ (t : Taken). t.answer) taken_by state held refl (take_past (state_in state) (counts ∙ c.if-past.true))) in
    let numbers = numbers-alone state frame e a.length.now a.at.now a.d29.now a.d30.now in
    record { value = number-refused e; state_after = left_alone (state_of state) state e; frame_after = left_alone (record_of frame) frame e; length_after = numbers.0; at_after = numbers.1.0; d29_after = numbers.1.1.0; d30_after = numbers.1.1.1 }

pub returns-then-not-there : goal.returns-then-not-there
returns-then-not-there c =
    let held : holds_state c.args.state.now ≡ true = sym c.holds_state.ensures ∙ c.if-not-holds_state.false in
    let counts : past_of (state_in c.args.state.now).candidate ≡ c.past.result = ap past_of (sym c.candidate_in-there.ensures) ∙ sym c.past.ensures in
    let free : (state_in c.args.state.now).candidate.waits ≡ false = ap (λ (k : Candidate). k.waits) (sym c.candidate_in-there.ensures) ∙ not-true _ c.if-not-there.true in
    let a = c.args in
    let state = a.state.now in
    let frame = a.frame.now in
    let e = take-refused state frame (read-refused (λ (t : Taken). t.answer) taken_by state held refl (take_none (state_in state) (counts ∙ c.if-past.false) free)) in
    let numbers = numbers-alone state frame e a.length.now a.at.now a.d29.now a.d30.now in
    record { value = number-refused e; state_after = left_alone (state_of state) state e; frame_after = left_alone (record_of frame) frame e; length_after = numbers.0; at_after = numbers.1.0; d29_after = numbers.1.1.0; d30_after = numbers.1.1.1 }

pub returns-in-Refused : goal.returns-in-Refused
returns-in-Refused c =
    let held : holds_state c.args.state.now ≡ true = sym c.holds_state.ensures ∙ c.if-not-holds_state.false in
    let called : c.take-taken.result
    ≡ taken_by (state_in c.args.state.now) = c.take-taken.ensures ∙ ap taken_by c.state_in.ensures in
    let a = c.args in
    let state = a.state.now in
    let frame = a.frame.now in
    let e = take-refused state frame (read-refused (λ (t : Taken). t.answer) taken_by state held called c.in-Refused.is) in
    let numbers = numbers-alone state frame e a.length.now a.at.now a.d29.now a.d30.now in
    record { value = number-refused e; state_after = left_alone (state_of state) state e; frame_after = left_alone (record_of frame) frame e; length_after = numbers.0; at_after = numbers.1.0; d29_after = numbers.1.1.0; d30_after = numbers.1.1.1 }

pub returns-in-Refused-put_frame : goal.returns-in-Refused-put_frame
returns-in-Refused-put_frame c =
    let held : holds_state c.args.state.now ≡ true = sym c.holds_state.ensures ∙ c.if-not-holds_state.false in
    let called : c.take-taken.result
    ≡ taken_by (state_in c.args.state.now) = c.take-taken.ensures ∙ ap taken_by c.state_in.ensures in
    let taken : read_by (λ (t : Taken). t.answer) taken_by c.args.state.now
    ≡ answers c.take-taken.result = read_done (λ (t : Taken). t.answer) taken_by c.args.state.now held called c.in_default.is in
    let within : (frame : List ℕ)
    → (recorded_by c.take-taken.result.frame frame ≡ kept_by c.take-taken.result.frame frame)
    × (recorded_to c.take-taken.result.frame frame ≡ held_by c.take-taken.result.frame frame) = λ frame. keep-within c.take-taken.result.frame frame
    (taken-within (state_in c.args.state.now) c.take-taken.result called c.in_default.is) in
    let a = c.args in
    let state = a.state.now in
    let frame = a.frame.now in
    let w = within frame in
    let u = sym (c.put_frame.ensures.value ∙ w.0) ∙ c.in-Refused-put_frame.is in
    let e = take-unkept state frame taken u in
    let kept = c.put_frame.ensures.buffer_after ∙ w.1 ∙ unkept-alone c.take-taken.result.frame frame u ∙ left_alone (record_of frame) frame e in
    let numbers = numbers-alone state frame e a.length.now a.at.now a.d29.now a.d30.now in
    record { value = number-refused e; state_after = left_alone (state_of state) state e; frame_after = kept; length_after = numbers.0; at_after = numbers.1.0; d29_after = numbers.1.1.0; d30_after = numbers.1.1.1 }

pub returns-in-Done : goal.returns-in-Done
returns-in-Done c =
    let held : holds_state c.args.state.now ≡ true = sym c.holds_state.ensures ∙ c.if-not-holds_state.false in
    let called : c.take-taken.result
    ≡ taken_by (state_in c.args.state.now) = c.take-taken.ensures ∙ ap taken_by c.state_in.ensures in
    let taken : read_by (λ (t : Taken). t.answer) taken_by c.args.state.now
    ≡ answers c.take-taken.result = read_done (λ (t : Taken). t.answer) taken_by c.args.state.now held called c.in_default.is in
    let within : (frame : List ℕ)
    → (recorded_by c.take-taken.result.frame frame ≡ kept_by c.take-taken.result.frame frame)
    × (recorded_to c.take-taken.result.frame frame ≡ held_by c.take-taken.result.frame frame) = λ frame. keep-within c.take-taken.result.frame frame
    (taken-within (state_in c.args.state.now) c.take-taken.result called c.in_default.is) in
    let a = c.args in
    let state = a.state.now in
    let frame = a.frame.now in
    let w = within frame in
    let e = take_done state frame taken (sym (c.put_frame.ensures.value ∙ w.0) ∙ c.in-Done.is) in
    record { value = number-answered e; state_after = left-put (state_of state) state e c.put_start.ensures.bytes_after; frame_after = left-put (record_of frame) frame e (c.put_frame.ensures.buffer_after ∙ w.1); length_after = left-put (λ (v : Both). v.0) a.length.now e refl; at_after = left-put (λ (v : Both). v.1.at) a.at.now e refl; d29_after = left-put (λ (v : Both). v.1.frame.carried.d29) a.d29.now e refl; d30_after = left-put (λ (v : Both). v.1.frame.carried.d30) a.d30.now e refl }
