-- The refusals of the calls that write the line. A frame that was recalled is within its widths, so writing's 5 is for a carried bit alone.
-- Assumes nothing.
use mathlib.Core.Path.{◌≡◌, refl}
use mathlib.Core.List.{List, [], ◌∷◌}
use Prim.Native.Nat.{ℕ}
use lib.Dec.{ltb}
use lib.ListN.{length}
use Rattle.answer.specs.Order.{refuses, answers, in_order}
use Rattle.answer.proofs.OrderLaws.{says-order}
use Rattle.bits.specs.Fields.{AreBytes}
use Rattle.frame.specs.Widths.{late}
use Rattle.writer.specs.Sending.{bits_after, carried_on, line_length}
use Rattle.writer.specs.Answer.{open_checks, write_checks, written_by, says_opened, says_written}
use Rattle.writer.specs.declared.Opened.TheVariants as opened
use Rattle.writer.specs.declared.Written.TheVariants as written
use Rattle.rtcm2.specs.Frames.{frame_said}
use Rattle.rtcm2.specs.Send.{open_said, pair_of, write_said}
use Rattle.rtcm2.specs.Orders.{frame_from, write_order}
use Rattle.rtcm2.proofs.ReadOrders.{read-order}

-- OPEN: 13
pub open_order : (line : List ℕ) → open_said line ≡ in_order ((ltb (length line) 1, 13) ∷ []) refuses (answers tt)
open_order line = says-order says_opened opened.Refused (λ n. refl) opened.Done (open_checks line) refl

-- WRITE: 14, 15, 16, 15, 16, 5 for either carried bit, 7, 13
pub write-order : (bs : List ℕ) → AreBytes bs → (d29 d30 : ℕ) (line : List ℕ)
    → write_said (frame_said bs) d29 d30 line
    ≡ in_order (write_order bs d29 d30 line) refuses (answers (line_length (frame_from bs), carried_on (bits_after (pair_of d29 d30) (frame_from bs))))
write-order bs fits d29 d30 line =
    let f = frame_from bs in
    let c = pair_of d29 d30 in
    read-order bs fits (λ g. says_written (written_by g c line)) ((ltb 1 d29, 5) ∷ (ltb 1 d30, 5) ∷ [])
    ((late f.header.z, 7) ∷ (ltb (length line) (line_length f), 13) ∷ []) (line_length f, carried_on (bits_after c f))
    (says-order says_written written.Refused (λ n. refl) (written.Done (line_length f) (carried_on (bits_after c f))) (write_checks f c line) refl)
