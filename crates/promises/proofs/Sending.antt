-- What is made within its widths and in the hour is written, and reads back from the line after every pair: one lemma for every layout.
-- Assumes nothing.
use mathlib.Core.Path.{◌≡◌, sym, ap, subst, ◌∙◌}
use mathlib.Core.Bool.{false}
use mathlib.Core.List.{List}
use Prim.Native.Nat.{ℕ, ◌≤◌, ◌<◌}
use native.Mathlib.Omega.{arith}
use lib.ListN.{length}
use borrow.Author.Tests.{le-ltb, lt-leb}
use Rattle.answer.specs.Order.{Check, in_order, NoneApplies}
use Rattle.answer.proofs.OrderLaws.{order-told}
use Rattle.frame.specs.Frames.{framed, after_pair}
use Rattle.frame.specs.Widths.{pair_outside, outside}
use Rattle.frame.specs.declared.Header.{Header}
use Rattle.frame.specs.declared.Carried.{Carried}
use Rattle.frame.specs.declared.Frame.{Frame}
use Rattle.frame.proofs.FrameLaws.{n_within, length-framed}
use Rattle.record_stages.specs.Stages.{refused_made, done_made, IsMade, says_made}
use Rattle.record_stages.proofs.StageLaws.{done-apart, done-frame}
use Rattle.writer.specs.Sending.{bits_after, carried_on, line_length}
use Rattle.writer.specs.Answer.{write_checks, written_by, says_written}
use Rattle.writer.specs.OneFrame.{Wrote}
use Rattle.writer.specs.declared.Written.TheVariants.{Done}
use Rattle.writer.proofs.Answers.{write-answers}
use Rattle.writer.proofs.Wrote.{wrote}
use Rattle.promises.specs.ReadsBack.{ReadsBack}

-- a frame that is made within its widths has 31 words
made-full : (cs : List Check) (h : Header) (ws : List ℕ) (f : Frame) → in_order cs refused_made (done_made (framed h ws)) ≡ done_made f
    → outside f ≡ false → length f.words ≡ 31
unfolding framed
made-full cs h ws f e within = ap (λ g. length g.words) (sym same) ∙ length-framed h ws few
  where
    same : framed h ws ≡ f
    same = done-frame (order-told refused_made (done_made (framed h ws)) (done_made f) (λ n. done-apart n f) cs e).1

    few : length ws ≤ 31
    few = subst (λ g. g.n ≤ 31) (sym same) (n_within f within)

-- WHAT IS SENT in the hour IS WRITTEN AND READS BACK: no check of the writer applies
pub sent-reads-back : (h : Header) (cs : List Check) (ws : List ℕ) (Reads Back : Frame → Type 0) (to : (f : Frame) → Reads f → Back f)
    (unseen : (k : Carried) → pair_outside k ≡ false → (f : Frame) → Back f → Back (after_pair k f))
    (s : IsMade (in_order cs refused_made (done_made (framed h ws))) Reads)
    → h.z < 6000 → s.frame.header ≡ h → outside s.frame ≡ false → ReadsBack (in_order cs refused_made (done_made (framed h ws))) Back
sent-reads-back h cs ws Reads Back to unseen s early header within c buffer p q room = record {
  frame = f;
  made = unfold done_made in ap says_made s.done;
  reads = to f s.reads;
  count = line_length f;
  on = carried_on (bits_after c f);
  answer = ap says_written done;
  wrote = written;
  back = λ rest. subst Back (sym (written.is rest)) (unseen c pair f (to f s.reads));
}
  where
    f : Frame
    f = s.frame

    hour : f.header.z < 6000
    hour = subst (λ x. x.z < 6000) (sym header) early

    pair : pair_outside c ≡ false
    pair = unfold pair_outside in rw (le-ltb 1 c.d29 p, le-ltb 1 c.d30 q)

    none : NoneApplies (write_checks f c buffer)
    none = (
      le-ltb 1 c.d29 p,
      (le-ltb 1 c.d30 q, (within, (lt-leb 6000 f.header.z hour, (le-ltb (length buffer) (line_length f) (omega (arith, room, n_within f within)), tt)))),
    )

    done : written_by f c buffer ≡ Done (line_length f) (carried_on (bits_after c f))
    done = sym (write-answers f c buffer none).0

    written : Wrote f c buffer (line_length f) (carried_on (bits_after c f))
    written = wrote f (made-full cs h ws f s.done within) c buffer (line_length f) (carried_on (bits_after c f)) done
