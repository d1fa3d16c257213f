-- THE LIBRARY'S READER IS THE PACKAGE'S: any list of calls after rtcm2_start comes to what the same calls of the package's reader come to.
-- Assumes nothing.
use mathlib.Core.Path.{◌≡◌, refl, ap, ap₂, ◌∙◌}
use mathlib.Core.List.{List, [], ◌∷◌, ◌++◌}
use Prim.Native.Nat.{ℕ, ◌≤◌}
use lib.ListN.{length}
use Rattle.record_fields.specs.Coding.{Each}
use Rattle.reader.specs.Reading.{started}
use Rattle.reader.specs.declared.Reader.{Reader}
use Rattle.rtcm2_state.specs.State.{state_size, state_in, state_put}
use Rattle.rtcm2_state.proofs.RoundTrip.{put-read}
use Rattle.rtcm2_state.proofs.Storable.{storable-fit}
use Rattle.rtcm2.specs.Answer.{left}
use Rattle.rtcm2.proofs.LineLaws.{start-done}
use Rattle.promises.specs.Calls.{after, bits_given, frame_given, after_all, replies, bits_taken, handed_out, Outcome, outcome}
use Rattle.rtcm2_promises.specs.LineCalls.{LineCall, HasRoom, asks, asked, after_all_in, replies_in, bits_taken_in, handed_out_in, begun_in, outcome_in}
use Rattle.rtcm2_promises.specs.Demand3.{IsReader}
use Rattle.rtcm2_promises.proofs.Called.{Called, called-started, called-call}
use Rattle.rtcm2_promises.proofs.OneCall.{Same, same-call}

-- ---- call after call, on the bytes of a reader that was started and called

pub record SameAll (r : Reader) (state : List ℕ) (cs : List LineCall) : Type 0 where
  pub reply : replies_in (state_put r state) cs ≡ replies r (asked cs)
  pub bits : bits_taken_in (state_put r state) cs ≡ bits_taken r (asked cs)
  pub out : handed_out_in (state_put r state) cs ≡ handed_out r (asked cs)
  pub leaves : after_all_in (state_put r state) cs ≡ state_put (after_all r (asked cs)) state
  pub called : Called (after_all r (asked cs))

module _ (state : List ℕ) (h : state_size ≤ length state) where
  pub same-calls : (cs : List LineCall) (r : Reader) → Called r → Each HasRoom cs → SameAll r state cs
  unfolding replies_in replies bits_taken_in bits_taken handed_out_in handed_out after_all_in after_all
  same-calls [] r k room = record { reply = refl; bits = refl; out = refl; leaves = refl; called = k }
  same-calls (c ∷ cs) r k room = later (same-call r k state h c room.0) (same-calls cs (after r (asks c)) (called-call r k (asks c)) room.1)
    where
      later : Same r state c → SameAll (after r (asks c)) state cs → SameAll r state (c ∷ cs)
      later s v = record {
        reply = ap₂ ◌∷◌ s.reply (ap (λ b. replies_in b cs) s.leaves ∙ v.reply);
        bits = ap₂ ◌++◌ (ap (bits_given (asks c)) s.reply) (ap (λ b. bits_taken_in b cs) s.leaves ∙ v.bits);
        out = ap₂ ◌++◌ (ap frame_given s.reply) (ap (λ b. handed_out_in b cs) s.leaves ∙ v.out);
        leaves = ap (λ b. after_all_in b cs) s.leaves ∙ v.leaves;
        called = v.called;
      }

  -- ---- after rtcm2_start

  pub begun-is : begun_in state ≡ state_put started state
  begun-is = ap (λ s. left s (λ r. state_put r state) state) (start-done state h)

  module _ (cs : List LineCall) (room : Each HasRoom cs) where
    v : SameAll started state cs
    v = same-calls cs started called-started room

    held : state_in (after_all_in (state_put started state) cs) ≡ after_all started (asked cs)
    held = ap state_in v.leaves ∙ put-read (after_all started (asked cs)) state h (storable-fit (after_all started (asked cs)) v.called.storable)

    same_outcome : outcome_in state cs ≡ outcome (asked cs)
    same_outcome = ap (λ b. came b) begun-is ∙ (λ i. record { replies = v.reply i; bits = v.bits i; out = v.out i; reader = held i })
      where
        came : List ℕ → Outcome
        came b = record { replies = replies_in b cs; bits = bits_taken_in b cs; out = handed_out_in b cs; reader = state_in (after_all_in b cs) }

    pub is-reader : IsReader state cs
    is-reader = record { starts = start-done state h; same = same_outcome; bytes = ap (λ b. after_all_in b cs) begun-is ∙ v.leaves }
