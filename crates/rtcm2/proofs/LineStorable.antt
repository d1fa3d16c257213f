-- THE LIBRARY'S READER IS THE READER. Bytes that were started hold a fresh reader; on bytes that hold a reader that was started and called, each
-- call says what the reader's call says, and leaves bytes that hold what that call left. Assumes nothing.
use mathlib.Core.Path.{◌≡◌, refl, sym, ap}
use mathlib.Core.Bool.{true, not}
use mathlib.Core.List.{List, [], ◌∷◌}
use Prim.Native.Nat.{ℕ, ◌≤◌}
use lib.ListN.{length}
use Rattle.frame.specs.Frames.{blank}
use Rattle.stream.specs.Standing.{frame_at}
use Rattle.reader.specs.Reading.{bits_of, past, frame_waits, busy, end_to, take_to, ended_by, taken_by}
use Rattle.reader.specs.declared.Reader.{Reader}
use Rattle.reader.specs.declared.Answer.{Answer}
use Rattle.reader.specs.declared.Answer.TheVariants.{Done, Refused}
use Rattle.reader.specs.declared.Next.{Next}
use Rattle.reader.specs.declared.Taken.{Taken}
use Rattle.rtcm2_state.specs.State.{state_size, start_put, state_put}
use Rattle.rtcm2_state.proofs.RoundTrip.{put-held, put-read, put-again, start-put}
use Rattle.rtcm2_state.proofs.Storable.{StorableReader, storable-narrow, storable-fit, storable-ended, storable-taken, order-holds}
use Rattle.rtcm2.specs.Line.{done_by, read_by}
use Rattle.rtcm2.proofs.LineLaws.{read-by}

-- ending and taking leave the cells as they are
module _ (r : Reader) where
  ended-cells : (ended_by r).reader.cells ≡ r.cells
  unfolding ended_by
  ended-cells =
      order-holds (λ (x : Next). x.reader.cells ≡ r.cells) (busy r) (λ n. record { answer = Refused n; reader = r })
      (record { answer = Done; reader = record { cells = r.cells; candidate = end_to r.cells r.candidate; ended = true } }) (λ n. refl)
      (λ none. refl)

  taken-cells : (taken_by r).reader.cells ≡ r.cells
  unfolding taken_by
  taken-cells =
      order-holds (λ (x : Taken). x.reader.cells ≡ r.cells) ((past r, 5) ∷ (not (frame_waits r), 4) ∷ [])
      (λ n. record { answer = Refused n; at = 0; frame = blank; reader = r }) (record {
        answer = Done;
        at = r.candidate.at;
        frame = frame_at (bits_of r);
        reader = record { cells = r.cells; candidate = take_to r.cells r.candidate r.ended; ended = r.ended };
      }) (λ n. refl) (λ none. refl)

module _ (r : Reader) (k : StorableReader r) (state : List ℕ) (h : state_size ≤ length state) where
  -- every call: feed, feed all, end and take are this at their own answer and call
  pub call-storable : {A : Type 0} (answer : A → Answer) (call : Reader → A) → read_by answer call (state_put r state) ≡ done_by (answer (call r)) (call r)
  call-storable answer call =
      read-by answer call (state_put r state) (put-held r state h (storable-fit r k)) {x = call r} (ap call (sym (put-read r state h (storable-fit r k))))

  -- the bytes after feeding that left `next`
  pub left-storable : (next : Reader) → StorableReader next → state_put next (state_put r state) ≡ state_put next state
  left-storable next n = put-again r state h (storable-fit r k) next (storable-narrow next n)

  -- the bytes after ending and after taking: only their start is put
  pub ended-left : start_put (ended_by r).reader.candidate (ended_by r).reader.ended (state_put r state) ≡ state_put (ended_by r).reader state
  ended-left = start-put r state h (storable-fit r k) (ended_by r).reader (storable-narrow (ended_by r).reader (storable-ended r k)) (ended-cells r)

  pub taken-left : start_put (taken_by r).reader.candidate (taken_by r).reader.ended (state_put r state) ≡ state_put (taken_by r).reader state
  taken-left = start-put r state h (storable-fit r k) (taken_by r).reader (storable-narrow (taken_by r).reader (storable-taken r k)) (taken-cells r)
