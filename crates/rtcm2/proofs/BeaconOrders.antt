-- The refusals of checking the profile and of cutting, each in ONE order. A frame that was recalled is within its widths, so 5 never comes when
-- it is checked. Assumes nothing.
use mathlib.Core.Path.{◌≡◌, refl, sym, ap, ◌∙◌}
use mathlib.Core.List.{List, [], ◌∷◌}
use Prim.Native.Nat.{ℕ}
use lib.Dec.{ltb}
use lib.ListN.{length}
use Rattle.answer.specs.Order.{refuses, answers, in_order}
use Rattle.answer.proofs.OrderLaws.{order-append, order-map, says-order}
use Rattle.bits.specs.Fields.{AreBytes}
use Rattle.frame.specs.Widths.{late}
use Rattle.frame.specs.declared.Frame.{Frame}
use Rattle.frame.specs.declared.System.TheVariants.{Gps}
use Rattle.record_corrections.specs.declared.Correction.{Correction}
use Rattle.profile.specs.Profile.{type_order, profile_order, check_profile, says_profile}
use Rattle.profile.specs.Cutting.{cut_order, cut_corrections, says_cut}
use Rattle.profile.specs.declared.Profile.TheVariants.{Inside, Refused}
use Rattle.profile.proofs.Said.{cut-said}
use Rattle.rtcm2_rows.specs.Rows.{row_size, count_of, entries_from}
use Rattle.rtcm2_rows.specs.Corrections.{row}
use Rattle.rtcm2.specs.Header.{headed}
use Rattle.rtcm2.specs.Frames.{frame_said}
use Rattle.rtcm2.specs.Beacon.{profile_said, cut_said, records_of, kept_all}
use Rattle.rtcm2.specs.Orders.{frame_from, header_with, profile_read_order, cut_kept_frames, cut_kept_order}
use Rattle.rtcm2.proofs.ReadOrders.{read-order}
use Rattle.rtcm2.proofs.MakeOrders.{headed-order}

-- CHECKING: 14, 15, 16, 15, 16, then 7, 20, 8, 10 or 11, 21, 22
pub profile-order : (bs : List ℕ) → AreBytes bs → profile_said (frame_said bs) ≡ in_order (profile_read_order bs) refuses (answers tt)
unfolding check_profile
profile-order bs fits =
    read-order bs fits (λ f. says_profile (check_profile f)) [] ((late (frame_from bs).header.z, 7) ∷ type_order (frame_from bs).header.kind (frame_from bs)) tt
    (says-order says_profile Refused (λ n. refl) Inside (profile_order (frame_from bs)) refl)

-- CUTTING: 5, 6, 7, 12, 10, 22, 13
pub cut-order : (kind station z sequence code : ℕ) (bs buffer : List ℕ) → kept_all (cut_said (headed kind station z sequence code) bs) buffer
    ≡ in_order (cut_kept_order kind station z sequence code bs buffer) refuses (answers (length (records_of (cut_kept_frames kind station z sequence code bs))))
cut-order kind station z sequence code bs buffer =
    ap (λ s. kept_all s buffer)
    (headed-order kind station z sequence code (λ h. says_cut (cut_corrections h es c))
    ∙ ap (in_order ((ltb 7 code, 5) ∷ []) refuses) (cut-said (header_with kind station z sequence code) es c))
    ∙ order-map (λ s. kept_all s buffer) ((ltb 7 code, 5) ∷ cut_order (header_with kind station z sequence code) es c) refuses (answers fs)
    ∙ sym (order-append ((ltb 7 code, 5) ∷ cut_order (header_with kind station z sequence code) es c) ((ltb (length buffer) (length (records_of fs)), 13) ∷ [])
    refuses (answers (length (records_of fs))))
  where
    es : List Correction
    es = entries_from (row Gps) 18 bs

    c : ℕ
    c = count_of (row_size (row Gps)) (length bs)

    fs : List Frame
    fs = cut_kept_frames kind station z sequence code bs
