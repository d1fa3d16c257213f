-- The refusals of a call that makes or keeps a frame, in ONE order: 5, 6, 7, the layout's own, 13. A frame that was made is within its
-- widths, so keeping it adds 13 alone. Assumes nothing.
use mathlib.Core.Path.{◌≡◌, refl, ap, ◌∙◌}
use mathlib.Core.Bool.{Bool, true, false, not}
use mathlib.Core.List.{List, [], ◌∷◌, ◌++◌}
use Prim.Native.Nat.{ℕ, zero, suc, ◌+◌, ◌*◌, ◌/◌, ◌%◌, ◌≤◌}
use native.Mathlib.Omega.{arith}
use lib.Dec.{ltb, eqb}
use lib.IntN.{ℤ}
use lib.ListN.{length, drop, replicate, length-replicate}
use borrow.Author.Tests.{ltb-false}
use Rattle.answer.specs.Order.{Says, refuses, answers, Check, in_order, NoneApplies}
use Rattle.answer.proofs.OrderLaws.{order-map, says-order}
use Rattle.bits.specs.Fields.{span}
use Rattle.frame.specs.Frames.{framed, Below}
use Rattle.frame.specs.Widths.{header_outside, outside}
use Rattle.frame.specs.declared.Frame.{Frame}
use Rattle.frame.specs.declared.Header.{Header}
use Rattle.frame.specs.declared.Layout.{Layout}
use Rattle.frame.specs.declared.Layout.TheVariants as layout
use Rattle.frame.specs.Layout.{system_of}
use Rattle.frame.proofs.FrameLaws.{framed-inside}
use Rattle.frame.proofs.WidthLaws.{both_false}
use Rattle.journal.specs.Bytes.{words_from}
use Rattle.journal.specs.Journal.{keep_order, says_kept}
use Rattle.journal.specs.declared.Kept.TheVariants as kept
use Rattle.journal.proofs.WordLaws.{length-words, fit_words}
use Rattle.record_fields.specs.Coding.{Coding, frame_with}
use Rattle.record_fields.proofs.Round.{made_inside}
use Rattle.record_stages.specs.Stages.{make_order, refused_made, done_made, says_made}
use Rattle.record_stages.specs.declared.Made.{Made}
use Rattle.record_positions.specs.Positions as position
use Rattle.record_positions.specs.declared.Position.{Position}
use Rattle.record_nulls.specs.Nulls as null
use Rattle.record_texts.specs.Texts as text
use Rattle.rtcm2.specs.Header.{headed, says_headed}
use Rattle.rtcm2.specs.declared.header.Headed.TheVariants as of
use Rattle.rtcm2.specs.Answer.{and_then}
use Rattle.rtcm2.specs.Frames.{kept_to, words_said, keep_said}
use Rattle.rtcm2.specs.Positions as positions
use Rattle.rtcm2.specs.Nulls as nulls
use Rattle.rtcm2.specs.Texts as texts
use Rattle.rtcm2.specs.Orders.{short_for, header_with, made_order, text_checks}
use Rattle.rtcm2.specs.Orders.{position_frame, position_made_order}
use Rattle.rtcm2.specs.Orders.{null_frame, null_made_order, text_frame, text_made_order, words_frame, kept_order}
use Rattle.rtcm2.proofs.Orders.{after-order, pass-five}

-- keeping after an order: 5, 13
kept-after : (cs : List Check) (f : Frame) (buffer : List ℕ)
    → kept_to (in_order cs refuses (answers f)) buffer ≡ in_order cs refuses (in_order (keep_order f buffer) refuses (answers (3 * f.n + 9)))
kept-after cs f buffer =
    order-map (λ s. kept_to s buffer) cs refuses (answers f)
    ∙ ap (in_order cs refuses) (says-order says_kept kept.Refused (λ n. refl) (kept.Done (3 * f.n + 9)) (keep_order f buffer) refl)

-- a health over 7 comes first
pub headed-order : {A : Type 0} (kind station z sequence code : ℕ) (next : Header → Says A)
    → and_then (headed kind station z sequence code) next ≡ in_order ((ltb 7 code, 5) ∷ []) refuses (next (header_with kind station z sequence code))
headed-order kind station z sequence code next =
    ap (λ s. and_then s next)
    (says-order says_headed of.Refused (λ n. refl) (of.Header (header_with kind station z sequence code)) ((ltb 7 code, 5) ∷ []) refl)
    ∙ order-map (λ s. and_then s next) ((ltb 7 code, 5) ∷ []) refuses (answers (header_with kind station z sequence code))

module _ (kind station z sequence code : ℕ) (buffer : List ℕ) where
  abbrev H : Header
  H = header_with kind station z sequence code

  -- what follows the five numbers is kept in its order
  kept-headed : (next : Header → Says Frame) (cs : List Check) (f : Frame) → next H ≡ in_order cs refuses (answers f)
      → kept_to (and_then (headed kind station z sequence code) next) buffer
      ≡ in_order ((ltb 7 code, 5) ∷ cs) refuses (in_order (keep_order f buffer) refuses (answers (3 * f.n + 9)))
  kept-headed next cs f is =
      ap (λ s. kept_to s buffer) (headed-order kind station z sequence code next ∙ ap (in_order ((ltb 7 code, 5) ∷ []) refuses) is)
      ∙ kept-after ((ltb 7 code, 5) ∷ cs) f buffer

  -- made in an order of its own: 5 for a health over 7 before it, 13 behind it
  module _ (cs : List Check) (made : Frame) (make : Header → Made) (is : make H ≡ in_order cs refused_made (done_made made))
      (within : NoneApplies cs → outside made ≡ false) where
    pub own-order : kept_to (and_then (headed kind station z sequence code) (λ h. says_made (make h))) buffer
        ≡ in_order ((ltb 7 code, 5) ∷ (cs ++ (short_for made buffer ∷ []))) refuses (answers (3 * made.n + 9))
    unfolding refused_made done_made
    own-order =
        kept-headed (λ h. says_made (make h)) cs made
        (ap says_made is ∙ says-order says_made refused_made (λ n. refl) (done_made made) cs refl)
        ∙ pass-five ((ltb 7 code, 5) ∷ cs) [] (outside made) (short_for made buffer ∷ []) (answers (3 * made.n + 9)) (λ none. within none.1)

  -- MAKING: 5, 6, 7, the layout's own, 13
  module _ (asked : Layout) (more : List Check) (made : Frame) (make : Header → Made)
      (is : make H ≡ in_order (make_order asked H more) refused_made (done_made made))
      (within : NoneApplies (make_order asked H more) → outside made ≡ false) where
    pub make-order : kept_to (and_then (headed kind station z sequence code) (λ h. says_made (make h))) buffer
        ≡ in_order (made_order kind station z sequence code asked more made buffer) refuses (answers (3 * made.n + 9))
    make-order = own-order (make_order asked H more) made make is within

  -- of entries that fit a frame, once the layout's own checks have passed
  module _ {A : Type 0} (asked : Layout) (k : Coding A) (pattern : ℕ) (es : List A) (more : List Check) (make : Header → Made)
      (is : make H ≡ in_order (make_order asked H more) refused_made (done_made (frame_with pattern k H es)))
      (fits : NoneApplies more → length es * span k.widths ≤ 744) where
    pub entries-order : kept_to (and_then (headed kind station z sequence code) (λ h. says_made (make h))) buffer
        ≡ in_order (made_order kind station z sequence code asked more (frame_with pattern k H es) buffer) refuses
        (answers (3 * (frame_with pattern k H es).n + 9))
    entries-order = make-order asked more (frame_with pattern k H es) make is (λ none. made_inside k pattern H es none.0 (fits none.1.1.1))

  -- ---- a position: 5, 6, 7, 10, 13

  pub position-made : (x y up : ℤ) → let p : Position = record { x = x; y = y; z = up } in
      kept_to (positions.make_said kind station z sequence code x y up) buffer
      ≡ in_order (position_made_order kind station z sequence code p buffer) refuses (answers (3 * (position_frame kind station z sequence code p).n + 9))
  unfolding position.make_position
  position-made x y up =
      let p : Position = record { x = x; y = y; z = up } in
      entries-order layout.Position position.coding position.fill (p ∷ []) ((position.out_of_range p, 10) ∷ []) (λ h. position.make_position h p) refl
      (λ none. omega arith)

  -- ---- a text: 5, 6, 7, 12, 11, 13

  pub text-made : (t : List ℕ) → kept_to (texts.make_said kind station z sequence code t) buffer
      ≡ in_order (text_made_order kind station z sequence code t buffer) refuses (answers (3 * (text_frame kind station z sequence code t).n + 9))
  unfolding text.make_text
  text-made t =
      entries-order layout.Text text.coding text.fill t (text_checks (system_of kind) t) (λ h. text.make_text h t) refl
      (λ none. omega (arith, ltb-false 90 (length t) (both_false (eqb (length t) 0) (ltb 90 (length t)) none.0).1))

  -- ---- the null frame: 5, 6, 7, 12, 13

  -- a word of fill is within its width
  filled : (n : ℕ) → Below (replicate n null.fill)
  filled zero = tt
  filled (suc n) = (omega arith, filled n)

  pub null-made : (n : ℕ) → kept_to (nulls.make_said kind station z sequence code n) buffer
      ≡ in_order (null_made_order kind station z sequence code n buffer) refuses (answers (3 * (null_frame kind station z sequence code n).n + 9))
  unfolding null.make_null
  null-made n =
      make-order layout.Null ((null.too_many n, 12) ∷ []) (framed H (replicate n null.fill)) (λ h. null.make_null h n) refl
      (λ none. framed-inside H (replicate n null.fill) none.0 (filled n)
      (omega (arith, length-replicate {A = ℕ} n null.fill, ltb-false null.most_words n none.1.1.1.0)))

  -- ---- a frame of any type: 5, 13

  below : (n : ℕ) (bs : List ℕ) → Below (words_from 3 n bs)
  unfolding words_from
  below zero bs = tt
  below (suc n) bs = ((fit_words 3 (suc n) bs).0, below n (drop 3 bs))

  header-outside : (ws : List ℕ) → header_outside H ≡ true → outside (framed H ws) ≡ true
  unfolding framed outside
  header-outside ws e = rw e

  -- words within their widths: the frame is outside exactly when its header is
  outside-framed : (ws : List ℕ) → Below ws → length ws ≤ 31 → outside (framed H ws) ≡ header_outside H
  outside-framed ws b l = go (header_outside H) refl
    where
      go : (t : Bool) → header_outside H ≡ t → outside (framed H ws) ≡ t
      go false e = framed-inside H ws e b l
      go true e = header-outside ws e

  pub keep-order : (bs : List ℕ) → kept_to (keep_said kind station z sequence code bs) buffer
      ≡ in_order (kept_order kind station z sequence code bs buffer) refuses (answers (3 * (words_frame kind station z sequence code bs).n + 9))
  keep-order bs =
      kept-headed (λ h. words_said h bs) whole f refl
      ∙ after-order ((ltb 7 code, 5) ∷ whole) (in_order (keep_order f buffer) refuses (answers (3 * f.n + 9)))
      (in_order ((header_outside H, 5) ∷ short_for f buffer ∷ []) refuses (answers (3 * f.n + 9)))
      (λ none. ap (λ t. in_order ((t, 5) ∷ short_for f buffer ∷ []) refuses (answers (3 * f.n + 9)))
      (outside-framed words (below n bs) (omega (arith, length-words 3 n bs, ltb-false 31 n none.1.1.0))))
    where
      n : ℕ
      n = length bs / 3

      words : List ℕ
      words = words_from 3 n bs

      f : Frame
      f = framed H words

      whole : List Check
      whole = (not (eqb (length bs % 3) 0), 5) ∷ (ltb 31 n, 5) ∷ []
