-- ONE CALL on the bytes of a reader that was started and called: it replies as the reader does, and leaves the bytes of the reader that is left.
-- Assumes nothing.
use mathlib.Core.Path.{◌≡◌, refl, sym, ap, ◌∙◌}
use mathlib.Core.Bool.{Bool, false}
use mathlib.Core.List.{List, [], append-nil}
use Prim.Native.Nat.{ℕ, ◌+◌, ◌*◌, ◌≤◌}
use native.Mathlib.Omega.{arith}
use lib.ListN.{length, take}
use borrow.Author.Tests.{le-ltb}
use Rattle.answer.specs.Order.{Says, answers}
use Rattle.answer.proofs.OrderLaws.{order-answers}
use Rattle.frame.specs.Widths.{outside}
use Rattle.frame.specs.declared.Frame.{Frame}
use Rattle.frame.specs.Frames.{after_pair, bare}
use Rattle.frame.proofs.FrameLaws.{n_within}
use Rattle.stream.specs.Standing.{frame_at}
use Rattle.stream.proofs.Data.{frame-within, frame-full}
use Rattle.reader.specs.Reading.{fed_by, fed_all_by, ended_by, taken_by, says_answer, carrying}
use Rattle.reader.specs.declared.Reader.{Reader}
use Rattle.reader.specs.declared.Answer.{Answer}
use Rattle.reader.specs.declared.Answer.TheVariants.{Done, Refused}
use Rattle.reader.specs.declared.Next.{Next}
use Rattle.reader.specs.declared.FedAll.{FedAll}
use Rattle.reader.specs.declared.Taken.{Taken}
use Rattle.journal.specs.Journal.{keep_order, kept_by, held_by, says_kept}
use Rattle.journal.specs.declared.Kept.TheVariants as kept-as
use Rattle.rtcm2_state.specs.State.{state_size, start_put, state_put}
use Rattle.rtcm2_state.proofs.Storable.{storable-fed, storable-fed-all}
use Rattle.rtcm2.specs.Answer.{left, and_then}
use Rattle.rtcm2.specs.Frames.{frame_said}
use Rattle.rtcm2.specs.Line.{done_by, fed_in, fed_all_in, ended_in, taken_in}
use Rattle.rtcm2.proofs.LineStorable.{call-storable, left-storable, ended-left, taken-left}
use Rattle.promises.specs.ChangesNeither.{Keeps}
use Rattle.promises.specs.Calls.{replied, used, took, reply_to, after}
use Rattle.promises.proofs.CarriesItsNumber.{carries-its-number}
use Rattle.promises.proofs.ChangesNeither.{changes-neither}
use Rattle.promises.proofs.Demand2.{reads-back-equal}
use Rattle.rtcm2_promises.specs.LineCalls.{LineCall, feed, feed-all, line-end, line-take, HasRoom, asks, pair_left, says_record, reply_in, after_in}
use Rattle.rtcm2_promises.proofs.Told.{number-told, left-told, no_value}
use Rattle.rtcm2_promises.proofs.Called.{Called, handed-stood}

pub record Same (r : Reader) (state : List ℕ) (c : LineCall) : Type 0 where
  pub reply : reply_in (state_put r state) c ≡ reply_to r (asks c)
  pub leaves : after_in (state_put r state) c ≡ state_put (after r (asks c)) state

module _ (r : Reader) (k : Called r) (state : List ℕ) (h : state_size ≤ length state) where
  abbrev held : List ℕ
  held = state_put r state

  -- where the reader is left as it was, so are the bytes
  same_bytes : {A : Type 0} {s : Says A} {next : Reader} → Keeps s next r → Keeps s (state_put next state) held
  same_bytes keeps n e = ap (λ q. state_put q state) (keeps n e)

  same-feed : (b : ℕ) → Same r state (feed b)
  unfolding reply_in after_in reply_to after fed_in
  same-feed b = record {
    reply = ap replied (number-told x.answer x is (carries-its-number.feed r b) (λ s. tt) ∙ no_value x.answer);
    leaves = left-told x.answer x is (λ (n : Next). state_put n.reader held) held (state_put x.reader state)
        (left-storable r k.storable state h x.reader (storable-fed r k.storable b)) (same_bytes (changes-neither.feed r b));
  }
    where
      x : Next
      x = fed_by r b

      is : fed_in held b ≡ done_by (fed_by r b).answer (fed_by r b)
      is = call-storable r k.storable state h (λ (n : Next). n.answer) (λ q. fed_by q b)

  same-all : (bs : List ℕ) (u p : ℕ) → Same r state (feed-all bs u p)
  unfolding reply_in after_in reply_to after fed_all_in
  same-all bs u p = record {
    reply = ap used (number-told x.answer x is (carries-its-number.feed-all r bs) (λ s. (left s (λ f. f.used) u, left s (λ f. f.passed) p)));
    leaves = left-told x.answer x is (λ (f : FedAll). state_put f.reader held) held (state_put x.reader state)
        (left-storable r k.storable state h x.reader (storable-fed-all r k.storable bs)) (same_bytes (changes-neither.feed-all r bs));
  }
    where
      x : FedAll
      x = fed_all_by r bs

      is : fed_all_in held bs ≡ done_by (fed_all_by r bs).answer (fed_all_by r bs)
      is = call-storable r k.storable state h (λ (f : FedAll). f.answer) (λ q. fed_all_by q bs)

  same_end : Same r state line-end
  unfolding reply_in after_in reply_to after ended_in
  same_end = record {
    reply = ap replied (number-told x.answer x is (carries-its-number.reader-end r) (λ s. tt) ∙ no_value x.answer);
    leaves = left-told x.answer x is (λ (n : Next). start_put n.reader.candidate n.reader.ended held) held (state_put x.reader state)
        (ended-left r k.storable state h) (same_bytes (changes-neither.reader-end r));
  }
    where
      x : Next
      x = ended_by r

      is : ended_in held ≡ done_by (ended_by r).answer (ended_by r)
      is = call-storable r k.storable state h (λ (n : Next). n.answer) ended_by

  -- a frame is the one without its pair, after that pair
  own : (g : Frame) → after_pair g.carried (bare g) ≡ g
  own g = unfold after_pair in refl

  -- taking, into bytes with room for the longest record: keeping adds no refusal, and the record recalled is the frame
  module _ (lent : List ℕ) (long : 102 ≤ length lent) where
    abbrev f : Frame
    f = (taken_by r).frame

    abbrev size : ℕ
    size = 3 * (taken_by r).frame.n + 9

    record Recorded : Type 0 where
      kept : says_kept (kept_by f lent) ≡ answers size
      back : frame_said (take size (held_by f lent)) ≡ answers (bare f)

    recorded : (taken_by r).answer ≡ Done → Recorded
    recorded e = record {
      kept = kept;
      back = ap frame_said (sym (append-nil (take size (held_by f lent))))
          ∙ ap (λ s. and_then s (λ v. answers v.1)) (reads-back-equal.recalled f lent [] size full kept).1;
    }
      where
        stood : (d : List Bool) × (f ≡ frame_at d)
        stood = handed-stood r k (taken_by r).at f (ap (λ a. carrying ((taken_by r).at, f) (says_answer a)) e)

        inside : outside f ≡ false
        inside = ap outside stood.1 ∙ frame-within stood.0

        full : length f.words ≡ 31
        full = ap (λ (g : Frame). length g.words) stood.1 ∙ frame-full stood.0

        kept : says_kept (kept_by f lent) ≡ answers size
        kept = ap says_kept (order-answers kept-as.Refused (kept-as.Done size) (keep_order f lent)
            (inside, (le-ltb (length lent) size (omega (arith, n_within f inside)), tt)))

    same-take : (n at d29 d30 : ℕ) → Same r state (line-take lent n at d29 d30)
    unfolding reply_in after_in reply_to after taken_in
    same-take n at d29 d30 = record {
      reply = ap (λ s. took (and_then s says_record)) (number-told x.answer (size, x) (is x.answer refl) (carries-its-number.reader-take r)
          (λ s. (left s (λ v. held_by v.1.frame lent) lent, (left s (λ v. v.0) n, (left s (λ v. v.1.at) at, pair_left s d29 d30)))))
          ∙ ap took (read x.answer refl);
      leaves = left-told x.answer (size, x) (is x.answer refl)
          (λ (v : ℕ × Taken). start_put v.1.reader.candidate v.1.reader.ended held) held (state_put x.reader state)
          (taken-left r k.storable state h) (same_bytes (changes-neither.reader-take r));
    }
      where
        x : Taken
        x = taken_by r

        keep : Taken → Says (ℕ × Taken)
        keep v = and_then (says_kept (kept_by v.frame lent)) (λ m. answers (m, v))

        by : (a : Answer) → (taken_by r).answer ≡ a → and_then (done_by a (taken_by r)) keep ≡ done_by {A = ℕ × Taken} a (size, taken_by r)
        by Done e = ap (λ s. and_then s (λ m. answers (m, taken_by r))) (recorded e).kept
        by (Refused m) e = refl

        is : (a : Answer) → (taken_by r).answer ≡ a → taken_in held lent ≡ done_by {A = ℕ × Taken} a (size, taken_by r)
        is a e =
            ap (λ s. and_then s keep) (call-storable r k.storable state h (λ (v : Taken). v.answer) taken_by ∙ ap (λ b. done_by b (taken_by r)) e) ∙ by a e

        read : (a : Answer) → (taken_by r).answer ≡ a
            → and_then (carrying (held_by f lent, (size, ((taken_by r).at, f.carried))) (says_answer a)) says_record ≡ carrying ((taken_by r).at, f) (says_answer a)
        read Done e =
            ap (λ s. and_then s (λ g. answers ((taken_by r).at, after_pair f.carried g))) (recorded e).back
            ∙ ap (λ g. answers ((taken_by r).at, g)) (own f)
        read (Refused m) e = refl

  pub same-call : (c : LineCall) → HasRoom c → Same r state c
  same-call (feed b) room = same-feed b
  same-call (feed-all bs u p) room = same-all bs u p
  same-call line-end room = same_end
  same-call (line-take lent n at d29 d30) room = same-take lent room n at d29 d30
