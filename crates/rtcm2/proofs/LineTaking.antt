-- TAKE refuses in the order 5, 4, 13, and keeping adds no other refusal: a frame that was taken is within its widths. Assumes nothing.
use mathlib.Core.Path.{◌≡◌, refl, ap, ◌∙◌}
use mathlib.Core.Bool.{Bool, false, cond, not}
use mathlib.Core.List.{List, [], ◌∷◌}
use Prim.Native.Nat.{ℕ, ◌+◌, ◌*◌}
use lib.Dec.{ltb}
use lib.ListN.{length}
use Rattle.answer.specs.Order.{Says, refuses, answers, Check, in_order}
use Rattle.answer.proofs.OrderLaws.{order-map}
use Rattle.frame.specs.Frames.{blank}
use Rattle.frame.specs.Widths.{outside}
use Rattle.frame.specs.declared.Frame.{Frame}
use Rattle.stream.specs.Standing.{frame_at}
use Rattle.stream.proofs.Data.{frame-within}
use Rattle.reader.specs.Reading.{bits_of, past, frame_waits, take_to, taken_by}
use Rattle.reader.specs.declared.Reader.{Reader}
use Rattle.reader.specs.declared.Answer.TheVariants.{Done, Refused}
use Rattle.reader.specs.declared.Taken.{Taken}
use Rattle.journal.specs.Journal.{kept_by, says_kept}
use Rattle.journal.specs.declared.Kept.{Kept}
use Rattle.journal.specs.declared.Kept.TheVariants as kept
use Rattle.rtcm2_state.specs.State.{state_in}
use Rattle.rtcm2.specs.Answer.{and_then}
use Rattle.rtcm2.specs.Line.{read_by, taken_in}
use Rattle.rtcm2.specs.Orders.{short_for, held_order, take_order}
use Rattle.rtcm2.proofs.LineOrders.{held-order}

-- what taking leaves of a reader in which a frame waits
abbrev pub taken : Reader → Taken
taken r = record {
  answer = Done;
  at = r.candidate.at;
  frame = frame_at (bits_of r);
  reader = record { cells = r.cells; candidate = take_to r.cells r.candidate r.ended; ended = r.ended };
}

-- the reader's own checks
abbrev waiting : Reader → List Check
waiting r = (past r, 5) ∷ (not (frame_waits r), 4) ∷ []

-- a frame within its widths is refused by a short buffer alone
kept-order : (f : Frame) (frame : List ℕ) (t : Taken) → outside f ≡ false
    → and_then {B = ℕ × Taken} (says_kept (kept_by f frame)) (λ size. answers (size, t))
    ≡ in_order (short_for f frame ∷ []) refuses (answers (3 * f.n + 9, t))
kept-order f frame t e =
    ap (λ b. after (cond b (kept.Refused 5) (cond short (kept.Refused 13) (kept.Done (3 * f.n + 9))))) e
    ∙ order-map after ((short, 13) ∷ []) kept.Refused (kept.Done (3 * f.n + 9))
  where
    short : Bool
    short = ltb (length frame) (3 * f.n + 9)

    after : Kept → Says (ℕ × Taken)
    after a = and_then (says_kept a) (λ size. answers (size, t))

module _ (state : List ℕ) where
  reached : read_by (λ (t : Taken). t.answer) taken_by state
      ≡ in_order (held_order state (waiting (state_in state))) refuses (answers (taken (state_in state)))
  unfolding taken_by
  reached =
      held-order (λ (t : Taken). t.answer) taken_by state (waiting (state_in state))
      (λ n. record { answer = Refused n; at = 0; frame = blank; reader = state_in state }) (taken (state_in state)) (λ n. refl) refl refl

  -- the whole order: 5 for bytes that hold no state, 5, 4, and 13 for a buffer shorter than the record
  pub take-order : (frame : List ℕ)
      → taken_in state frame
      ≡ in_order (take_order state frame) refuses (answers (3 * (frame_at (bits_of (state_in state))).n + 9, taken (state_in state)))
  unfolding taken_in
  take-order frame =
      ap (λ s. and_then s keep) reached
      ∙ order-map (λ (s : Says Taken). and_then s keep) (held_order state (waiting r)) refuses (answers (taken r))
      ∙ ap (λ s. in_order (held_order state (waiting r)) refuses s) (kept-order (frame_at (bits_of r)) frame (taken r) (frame-within (bits_of r)))
    where
      r : Reader
      r = state_in state

      keep : Taken → Says (ℕ × Taken)
      keep t = and_then (says_kept (kept_by t.frame frame)) (λ size. answers (size, t))
