-- The refusals of the calls on the record of words. A frame that was recalled is within its widths, so keeping's 5 is for a carried bit alone.
-- Assumes nothing.
use mathlib.Core.Path.{◌≡◌, refl, sym, ap, ap₂, ◌∙◌}
use mathlib.Core.Logic.{◌⊎◌, inl, inr}
use mathlib.Core.Bool.{Bool, true, false}
use mathlib.Core.List.{List, [], ◌∷◌}
use Prim.Native.Nat.{ℕ, ◌+◌, ◌*◌}
use lib.Dec.{ltb}
use lib.ListN.{length}
use Rattle.answer.specs.Order.{Says, refuses, answers, Check, in_order, NoneApplies, FirstIs}
use Rattle.answer.proofs.OrderLaws.{order-answers, order-refuses, order-append, order-map, first_or_none, says-order}
use Rattle.bits.specs.Fields.{AreBytes}
use Rattle.frame.specs.Frames.{after_pair}
use Rattle.frame.specs.Widths.{pair_outside, outside}
use Rattle.frame.specs.declared.Carried.{Carried}
use Rattle.frame.specs.declared.Frame.{Frame}
use Rattle.frame.proofs.FrameLaws.{pair-within, after-inside}
use Rattle.journal.specs.Forms.{n_byte, words_after}
use Rattle.journal.specs.Journal.{recall_order, refused_recall, keep_order, says_kept, says_recalled}
use Rattle.journal.specs.Words.{kept_words, recall_words_order, found_words}
use Rattle.journal.specs.Words as words
use Rattle.journal.specs.declared.Kept.TheVariants as kept
use Rattle.journal.proofs.WordsTrip.{live_inside, after-n}
use Rattle.rtcm2.specs.Answer.{and_then}
use Rattle.rtcm2.specs.Frames.{frame_said}
use Rattle.rtcm2.specs.Send.{pair_of}
use Rattle.rtcm2.specs.Words.{words_kept, live_said, back_said}
use Rattle.rtcm2.specs.Orders.{frame_from, keep_words_order, live_from, restore_order}
use Rattle.rtcm2.proofs.ReadOrders.{frame-order, within}

-- what comes behind an order may be said in another way where none of the order applies
order-under : {A : Type 0} (cs : List Check) (refuse : ℕ → A) {x y : A} → (NoneApplies cs → x ≡ y) → in_order cs refuse x ≡ in_order cs refuse y
order-under {A} cs refuse {x} {y} same = go (first_or_none cs)
  where
    go : NoneApplies cs ⊎ ((n : ℕ) × FirstIs cs n) → in_order cs refuse x ≡ in_order cs refuse y
    go (inl none) = order-answers refuse x cs none ∙ same none ∙ sym (order-answers refuse y cs none)
    go (inr (n, first)) = order-refuses refuse x cs n first ∙ sym (order-refuses refuse y cs n first)

after-within : (k : Carried) (f : Frame) → outside (after_pair k f) ≡ false → pair_outside k ≡ false
unfolding after_pair
after-within k f e = pair-within (after_pair k f) e

-- a frame within its widths after a pair is outside them where the pair is
after-outside : (k : Carried) (f : Frame) → outside f ≡ false → outside (after_pair k f) ≡ pair_outside k
after-outside k f e = go (pair_outside k) refl (outside (after_pair k f)) refl
  where
    go : (p : Bool) → pair_outside k ≡ p → (o : Bool) → outside (after_pair k f) ≡ o → o ≡ p
    go true ep true eo = refl
    go true ep false eo = sym (after-within k f eo) ∙ ep
    go false ep o eo = sym eo ∙ after-inside k f ep e

-- KEEP WORDS: 14, 15, 16, 15, 16, 5 for either carried bit, 13
pub keep-words-order : (bs : List ℕ) → AreBytes bs → (d29 d30 : ℕ) (buffer : List ℕ)
    → words_kept (frame_said bs) d29 d30 buffer ≡ in_order (keep_words_order bs d29 d30 buffer) refuses (answers (4 * (frame_from bs).n + 11))
keep-words-order bs fits d29 d30 buffer =
    ap (λ s. and_then s say) (frame-order bs)
    ∙ order-map (λ s. and_then s say) (recall_order bs) refuses (answers (frame_from bs))
    ∙ order-under (recall_order bs) refuses told
    ∙ sym (order-append (recall_order bs) rest refuses (answers (4 * (frame_from bs).n + 11)))
  where
    say : Frame → Says ℕ
    say f = says_kept (kept_words (after_pair (pair_of d29 d30) f) buffer)

    rest : List Check
    rest = (pair_outside (pair_of d29 d30), 5) ∷ (ltb (length buffer) (4 * (frame_from bs).n + 11), 13) ∷ []

    told : NoneApplies (recall_order bs) → say (frame_from bs) ≡ in_order rest refuses (answers (4 * (frame_from bs).n + 11))
    told none =
        let g = after_pair (pair_of d29 d30) (frame_from bs) in
        says-order says_kept kept.Refused (λ n. refl) (kept.Done (4 * g.n + 11)) (words.keep_words_order g buffer) refl
        ∙ ap₂ (λ (o : Bool) (n : ℕ). in_order ((o, 5) ∷ (ltb (length buffer) (4 * n + 11), 13) ∷ []) refuses (answers (4 * n + 11)))
        (after-outside (pair_of d29 d30) (frame_from bs) (within bs fits none)) (sym (after-n (pair_of d29 d30) (frame_from bs)))

-- RECALL WORDS: 14, 15, 16, 15, 16, 17, then 13
pub restore-order : (bs buffer : List ℕ)
    → back_said (live_said bs) buffer
    ≡ in_order (restore_order bs buffer) refuses (answers (3 * (live_from bs).n + 9, (4 * n_byte bs + 11, live_from bs)))
restore-order bs buffer =
    ap (λ s. back_said s buffer) (says-order says_recalled refused_recall (λ n. refl) (found_words (n_byte bs) (words_after 4 bs)) (recall_words_order bs) refl)
    ∙ order-map (λ s. back_said s buffer) (recall_words_order bs) refuses (answers (4 * n_byte bs + 11, live_from bs))
    ∙ order-under (recall_words_order bs) refuses told
    ∙ sym (order-append (recall_words_order bs) ((ltb (length buffer) (3 * (live_from bs).n + 9), 13) ∷ []) refuses _)
  where
    told : NoneApplies (recall_words_order bs)
        → back_said (answers (4 * n_byte bs + 11, live_from bs)) buffer
        ≡ in_order ((ltb (length buffer) (3 * (live_from bs).n + 9), 13) ∷ []) refuses (answers (3 * (live_from bs).n + 9, (4 * n_byte bs + 11, live_from bs)))
    told none =
        let r : ℕ × Frame = (4 * n_byte bs + 11, live_from bs) in
        ap (λ s. and_then s (λ k. answers (k, r)))
        (says-order says_kept kept.Refused (λ n. refl) (kept.Done (3 * (live_from bs).n + 9)) (keep_order (live_from bs) buffer) refl)
        ∙ order-map (λ s. and_then s (λ k. answers (k, r))) (keep_order (live_from bs) buffer) refuses (answers (3 * (live_from bs).n + 9))
        ∙ ap (λ (o : Bool). in_order ((o, 5) ∷ (ltb (length buffer) (3 * (live_from bs).n + 9), 13) ∷ []) refuses (answers (3 * (live_from bs).n + 9, r)))
        (live_inside bs none)
