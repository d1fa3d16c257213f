-- Late joiners agree: what a reader has handed out is the frames of its bits, and of two streams with a common end these are the same behind a
-- common frame. Assumes nothing.
use mathlib.Core.Path.{◌≡◌, refl, sym, ap, ap₂, subst, ◌∙◌}
use mathlib.Core.Bool.{Bool}
use mathlib.Core.List.{List, ◌++◌, map, Memᴰ}
use Prim.Native.Nat.{ℕ}
use lib.ListN.{length, drop}
use lib.Seq.{drop_at}
use Rattle.line.specs.Line.{line_bits}
use Rattle.stream.specs.Joining.{frames_by, on_line, later_than}
use Rattle.stream.proofs.Joining.{joined}
use Rattle.reader.specs.Reading.{started}
use Rattle.promises.specs.Calls.{Call, after_all, bits_taken, outcome}
use Rattle.promises.specs.Demand3.{found}
use Rattle.promises.specs.LateJoiners.{LateJoiner, FromAByteOn, LateJoiners}
use Rattle.promises.proofs.Demand3.{nothing-lost, fresh-served, last-ended, last_none, last-bits}
use Rattle.promises.proofs.Telling.{bits-after}

pub late-joiner : (k : ℕ) (cs ds : List Call) → LateJoiner k (outcome cs) (outcome ds)
late-joiner k cs ds j h h' m m' e = record {
  frame = both.0;
  later = ap (later_than h.at) first ∙ both.1 ∙ sym (ap (λ l. map (on_line k) (later_than h'.at l)) second);
}
  where
    ended : Bool
    ended = (after_all started cs).ended

    s : List Bool
    s = bits_taken started cs

    first : found (outcome cs) ≡ frames_by (after_all started cs).ended (bits_taken started cs)
    first = nothing-lost cs j.none

    second : found (outcome ds) ≡ frames_by (after_all started cs).ended (drop k (bits_taken started cs))
    second = nothing-lost ds j.none-late ∙ ap₂ frames_by j.end j.line

    both : (h ≡ on_line k h') × (later_than h.at (frames_by ended s) ≡ map (on_line k) (later_than h'.at (frames_by ended (drop k s))))
    both = joined ended s k h h' (subst (Memᴰ h) first m) (subst (Memᴰ h') second m') e

-- ---- one stream of bytes

module _ (pre bs : List ℕ) where
  its-line : line_bits bs ≡ drop (length (line_bits pre)) (line_bits (pre ++ bs))
  its-line = sym (ap (drop (length (line_bits pre))) (bits-after pre bs) ∙ drop_at (line_bits pre) (line_bits bs) (length (line_bits pre)) refl)

  pub from-a-byte-on : FromAByteOn pre bs
  from-a-byte-on =
      let first = fresh-served (pre ++ bs) in
      let late = fresh-served bs in
      record {
        goes = record {
          line = late.bits ∙ its-line ∙ ap (drop (length (line_bits pre))) (sym first.bits);
          end = late.goes ∙ sym first.goes;
          none = first.none;
          none-late = late.none;
        };
        ended = record {
          line = last-bits bs ∙ its-line ∙ ap (drop (length (line_bits pre))) (sym (last-bits (pre ++ bs)));
          end = last-ended bs ∙ sym (last-ended (pre ++ bs));
          none = last_none (pre ++ bs);
          none-late = last_none bs;
        };
      }

pub late-joiners : LateJoiners
late-joiners = record { calls = late-joiner; bytes = from-a-byte-on }
