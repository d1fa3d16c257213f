-- What the library writes is the stream that the package writes, whose frames are those sent; and what it hands out of a stream that ended is the
-- stream's frames. Assumes nothing.
use mathlib.Core.Path.{◌≡◌, refl, ap, ◌∙◌}
use mathlib.Core.Bool.{cond}
use mathlib.Core.List.{List, [], ◌∷◌, ◌++◌, map}
use Prim.Native.Nat.{ℕ, ◌≤◌}
use lib.ListN.{length, take, drop}
use Rattle.answer.specs.Order.{Says, refuses, answers}
use Rattle.answer.proofs.OrderLaws.{refuses-apart}
use Rattle.line.specs.Line.{line_bits}
use Rattle.frame.specs.declared.Frame.{Frame}
use Rattle.stream.specs.Standing.{frames_in}
use Rattle.stream.specs.Verdict.{decided}
use Rattle.journal.proofs.RoundTrip.{reread}
use Rattle.writer.specs.Answer.{opened_to, written_by, written_to, says_written}
use Rattle.writer.specs.Streams.{Writable, AllWritable, stream_bytes, behind, written_all, stream_to}
use Rattle.writer.specs.declared.Written.{Written}
use Rattle.writer.specs.declared.Written.TheVariants.{Done, Refused}
use Rattle.record_fields.specs.Coding.{Each}
use Rattle.rtcm2.specs.Answer.{and_then}
use Rattle.rtcm2.specs.Frames.{recall_said}
use Rattle.rtcm2.specs.Send.{pair_of, write_said, line_lent}
use Rattle.promises.specs.Calls.{Outcome, reported}
use Rattle.promises.proofs.CarriesItsNumber.{says-inj}
use Rattle.promises.proofs.ThoseOfRtcm.{frames-of-rtcm}
use Rattle.rtcm2_state.specs.State.{state_size}
use Rattle.rtcm2_promises.specs.LineCalls.{outcome_in}
use Rattle.rtcm2_promises.specs.LineBack.{Sends, behind_in, written_in, stream_in, LineGivesBack}
use Rattle.rtcm2_promises.proofs.Demand3.{library-demand-3}

-- a record that is recalled is of a frame that can be written
writable : (bytes : List ℕ) (f : Frame) → Sends (bytes, f) → Writable f
writable bytes f s = go (recall_said bytes) refl s.is
  where
    go : (q : Says (ℕ × Frame)) → recall_said bytes ≡ q → and_then q (λ r. answers r.1) ≡ answers f → Writable f
    go (refuses n) e x = absurd (refuses-apart n f x)
    go (answers r) e x =
        let t = reread bytes s.fits f r.0 (e ∙ ap (λ g. answers (r.0, g)) (says-inj x)) in
        record { full = t.full; within = t.inside; in-time = s.in-time }

all-writable : (sent : List (List ℕ × Frame)) → Each Sends sent → AllWritable (map (λ p. p.1) sent)
all-writable [] a = tt
all-writable (p ∷ sent) a = (writable p.0 p.1 a.0, all-writable sent a.1)

-- the library's stream is the package's
written_same : (sent : List (List ℕ × Frame)) → Each Sends sent → (d29 d30 : ℕ) (line : List ℕ)
    → written_in (map (λ p. p.0) sent) d29 d30 line ≡ written_all (map (λ p. p.1) sent) (pair_of d29 d30) line
written_same [] a d29 d30 line = refl
written_same (p ∷ sent) a d29 d30 line =
    ap (λ s. behind_in (write_said s d29 d30 line) (line_lent s d29 d30 line) (written_in (map (λ q. q.0) sent))) a.0.is
    ∙ go (written_by p.1 (pair_of d29 d30) line) (written_to p.1 (pair_of d29 d30) line) (written_same sent a.1)
  where
    go : (w : Written) (after : List ℕ)
        → ((e f : ℕ) (l : List ℕ) → written_in (map (λ q. q.0) sent) e f l ≡ written_all (map (λ q. q.1) sent) (pair_of e f) l)
        → behind_in (says_written w) after (written_in (map (λ q. q.0) sent)) ≡ behind w after (written_all (map (λ q. q.1) sent))
    go (Done k on) after next = ap (λ l. take k after ++ l) (next on.d29 on.d30 (drop k after))
    go (Refused n) after next = refl

pub line-gives-back : (state : List ℕ) → state_size ≤ length state → LineGivesBack state
line-gives-back state h sent a line cs room long bits ended none =
    ((library-demand-3 state h).only cs room).given
    ∙ ap (map reported) ((library-demand-3 state h).nothing-lost cs room none ∙ whole ∙ ap frames_in bits
    ∙ ap (λ l. frames_in (line_bits (take (stream_bytes fs) l))) same ∙ (frames-of-rtcm.stream fs line (all-writable sent a) long).places)
  where
    fs : List Frame
    fs = map (λ p. p.1) sent

    o : Outcome
    o = outcome_in state cs

    whole : cond o.reader.ended (frames_in o.bits) (decided 0 2 o.bits) ≡ frames_in o.bits
    whole = ap (λ t. cond t (frames_in o.bits) (decided 0 2 o.bits)) ended

    same : stream_in (map (λ p. p.0) sent) line ≡ stream_to fs line
    same = ap (λ l. take 1 (opened_to line) ++ l) (written_same sent a 0 0 (drop 1 (opened_to line)))
