-- A record read in one form and kept in the other: what the move answers and what the buffer then holds, by what was read. Assumes nothing.
use mathlib.Core.Path.{◌≡◌, sym, ap, ap₂, ◌∙◌}
use mathlib.Core.Bool.{Bool, false}
use mathlib.Core.List.{List, [], ◌∷◌, ◌++◌}
use Prim.Native.Nat.{ℕ, ◌+◌, ◌*◌}
use native.Mathlib.Omega.{arith}
use lib.Dec.{ltb}
use lib.ListN.{length, drop}
use Rattle.answer.specs.Order.{Check, in_order, NoneApplies}
use Rattle.answer.proofs.OrderLaws.{order-answers, order-append, order-map, order-told}
use Rattle.frame.specs.Frames.{after_pair, frame_of}
use Rattle.frame.specs.Widths.{outside}
use Rattle.frame.specs.declared.Carried.{Carried}
use Rattle.frame.specs.declared.Frame.{Frame}
use Rattle.frame.proofs.FrameLaws.{words-after}
use Rattle.journal.specs.Forms.{record_with, n_byte, words_after}
use Rattle.journal.specs.Journal.{record_of, kept_by, held_by, refused_recall, recalled_by, recall_order}
use Rattle.journal.specs.Words.{pair_numbered, carried_in, data_in, words_record, kept_words, held_words, recalled_words, recall_words_order}
use Rattle.journal.specs.declared.Kept.{Kept}
use Rattle.journal.specs.declared.Kept.TheVariants as kept
use Rattle.journal.specs.declared.Found.{Found}
use Rattle.journal.specs.declared.Found.TheVariants as found
use Rattle.journal.specs.declared.Recalled.{Recalled}
use Rattle.journal.proofs.RoundTrip.{read-own}
use Rattle.journal.proofs.WordsTrip.{live_own, live_inside, after-n}
use Rattle.journal_moves.specs.Moving.{moved_by, moved_to}
use Rattle.journal_moves.specs.declared.Way.TheVariants.{New, Old}
use Rattle.journal_moves.specs.declared.Moved.{Moved}
use Rattle.journal_moves.specs.declared.Moved.TheVariants.{Done, Refused}

-- what is answered for a record of `read` bytes, by what keeping answered
abbrev pub move_from : ℕ → Kept → Moved
move_from read (kept.Done written) = Done read written
move_from read (kept.Refused number) = Refused number

apart : (number size : ℕ) {f : Found} → f ≡ found.Record size → found.Refused number ≡ f → ⊥
apart number size e h = let z : ◌≡◌ {A = ℕ} 0 1 = cc (e, h) in omega arith

-- ---- over the order of reading, the frame that is read, its bytes, and the record of it that is kept

module _ (os : List Check) (read : ℕ) (f : Frame) (buffer : List ℕ) {r : Recalled}
    (e : r ≡ in_order os refused_recall (record { answer = found.Record read; frame = f })) where
  -- refused: nothing is kept
  pub move-refused : {A : Type 0} (cs : List Check) (refuse : ℕ → A) (answer : A) {number : ℕ} → r.answer ≡ found.Refused number
      → refuse number ≡ in_order (os ++ cs) refuse answer
  move-refused {A} cs refuse answer h =
      ap go (sym h) ∙ ap (λ x. go x.answer) e
      ∙ order-map (λ (x : Recalled). go x.answer) os refused_recall (record { answer = found.Record read; frame = f })
      ∙ sym (order-append os cs refuse answer)
    where
      go : Found → A
      go (found.Record k) = in_order cs refuse answer
      go (found.Refused n) = refuse n

  module _ {size : ℕ} (h : r.answer ≡ found.Record size) where
    told : NoneApplies os × (record { answer = found.Record read; frame = f } ≡ r)
    told = order-told refused_recall (record { answer = found.Record read; frame = f }) r (λ n q. apart n size h (ap (λ x. x.answer) q)) os (sym e)

    pub move-clear : NoneApplies os
    move-clear = told.0

    pub move-frame : r.frame ≡ f
    move-frame = sym (ap (λ x. x.frame) told.1)

    pub move-size : size ≡ read
    move-size = let a = ap (λ x. x.answer) told.1 in cc (a, h)

    -- a frame within its widths: what keeping answers, and what it leaves in the buffer
    module _ (o : outside f ≡ false) (written : ℕ) where
      pub move-kept : {k : Kept} → k ≡ in_order ((outside r.frame, 5) ∷ (ltb (length buffer) written, 13) ∷ []) kept.Refused (kept.Done written)
          → move_from size k ≡ in_order (os ++ ((ltb (length buffer) written, 13) ∷ [])) Refused (Done read written)
      move-kept q =
          ap (move_from size) q
          ∙ order-map (move_from size) ((outside r.frame, 5) ∷ (ltb (length buffer) written, 13) ∷ []) kept.Refused (kept.Done written)
          ∙ ap₂ (λ (b : Bool) (j : ℕ). in_order ((b, 5) ∷ (ltb (length buffer) written, 13) ∷ []) Refused (Done j written)) (ap outside move-frame ∙ o) move-size
          ∙ after Refused (Done read written)
        where
          after : {A : Type 0} (refuse : ℕ → A) (answer : A)
              → in_order ((ltb (length buffer) written, 13) ∷ []) refuse answer ≡ in_order (os ++ ((ltb (length buffer) written, 13) ∷ [])) refuse answer
          after refuse answer =
              sym (order-append os ((ltb (length buffer) written, 13) ∷ []) refuse answer ∙ order-answers refuse _ os move-clear)

      pub move-held : (whole : List ℕ) {held : List ℕ}
          → held ≡ in_order ((outside r.frame, 5) ∷ (ltb (length buffer) written, 13) ∷ []) (λ n. buffer) whole
          → held ≡ in_order (os ++ ((ltb (length buffer) written, 13) ∷ [])) (λ n. buffer) whole
      move-held whole q =
          q
          ∙ ap (λ (b : Bool). in_order ((b, 5) ∷ (ltb (length buffer) written, 13) ∷ []) (λ n. buffer) whole) (ap outside move-frame ∙ o)
          ∙ sym (order-append os ((ltb (length buffer) written, 13) ∷ []) (λ n. buffer) whole ∙ order-answers (λ n. buffer) _ os move-clear)

-- ---- renew

module _ (bs buffer : List ℕ) {r : Recalled} (e : r ≡ recalled_by bs) where
  pub renew-refused : {number : ℕ} → r.answer ≡ found.Refused number
      → (Refused number ≡ moved_by New bs (length buffer)) × (buffer ≡ moved_to New bs buffer)
  renew-refused h = (
    move-refused (recall_order bs) (3 * n_byte bs + 9) (frame_of (words_after 3 bs)) buffer e ((ltb (length buffer) (4 * n_byte bs + 11), 13) ∷ []) Refused
        (Done (3 * n_byte bs + 9) (4 * n_byte bs + 11)) h,
    move-refused (recall_order bs) (3 * n_byte bs + 9) (frame_of (words_after 3 bs)) buffer e ((ltb (length buffer) (4 * n_byte bs + 11), 13) ∷ [])
        (λ n. buffer) (words_record (frame_of (words_after 3 bs)) ++ drop (4 * n_byte bs + 11) buffer) h,
  )

  module _ {size : ℕ} (h : r.answer ≡ found.Record size) where
    clear : NoneApplies (recall_order bs)
    clear = move-clear (recall_order bs) (3 * n_byte bs + 9) (frame_of (words_after 3 bs)) buffer e h

    same : r.frame ≡ frame_of (words_after 3 bs)
    same = move-frame (recall_order bs) (3 * n_byte bs + 9) (frame_of (words_after 3 bs)) buffer e h

    count : r.frame.n ≡ n_byte bs
    count = ap (λ g. g.n) same ∙ (read-own bs clear).count

    pub renew-moved : {k : Kept} {held : List ℕ} → k ≡ kept_words r.frame buffer → held ≡ held_words r.frame buffer
        → (move_from size k ≡ moved_by New bs (length buffer)) × (held ≡ moved_to New bs buffer)
    renew-moved p q = (
      move-kept (recall_order bs) (3 * n_byte bs + 9) (frame_of (words_after 3 bs)) buffer e h (read-own bs clear).inside (4 * n_byte bs + 11)
          (p ∙ ap (λ m. in_order ((outside r.frame, 5) ∷ (ltb (length buffer) (4 * m + 11), 13) ∷ []) kept.Refused (kept.Done (4 * m + 11))) count),
      move-held (recall_order bs) (3 * n_byte bs + 9) (frame_of (words_after 3 bs)) buffer e h (read-own bs clear).inside (4 * n_byte bs + 11) _
          (q ∙ ap₂ (λ m g. in_order ((outside r.frame, 5) ∷ (ltb (length buffer) (4 * m + 11), 13) ∷ []) (λ n. buffer) (words_record g ++ drop
          (4 * m + 11) buffer))
          count same),
    )

-- ---- restore

pub record-after : (k : Carried) (g : Frame) → record_of (after_pair k g) ≡ record_of g
unfolding record_of
record-after k g = ap₂ (record_with 0x32 3) (sym (after-n k g)) (words-after k g)

module _ (bs buffer : List ℕ) {r : Recalled} (e : r ≡ recalled_words bs) where
  pub restore-refused : {number : ℕ} → r.answer ≡ found.Refused number
      → (Refused number ≡ moved_by Old bs (length buffer)) × (buffer ≡ moved_to Old bs buffer)
  restore-refused h = (
    move-refused (recall_words_order bs) (4 * n_byte bs + 11) _ buffer e ((ltb (length buffer) (3 * n_byte bs + 9), 13) ∷ []) Refused
        (Done (4 * n_byte bs + 11) (3 * n_byte bs + 9)) h,
    move-refused (recall_words_order bs) (4 * n_byte bs + 11) _ buffer e ((ltb (length buffer) (3 * n_byte bs + 9), 13) ∷ [])
        (λ n. buffer) (record_of (frame_of (data_in (words_after 4 bs))) ++ drop (3 * n_byte bs + 9) buffer) h,
  )

  module _ {size : ℕ} (h : r.answer ≡ found.Record size) where
    clear-words : NoneApplies (recall_words_order bs)
    clear-words = move-clear (recall_words_order bs) (4 * n_byte bs + 11) _ buffer e h

    same-words : r.frame ≡ after_pair (pair_numbered (carried_in (words_after 4 bs))) (frame_of (data_in (words_after 4 bs)))
    same-words = move-frame (recall_words_order bs) (4 * n_byte bs + 11) _ buffer e h

    count-words : r.frame.n ≡ n_byte bs
    count-words =
        ap (λ x. x.n) same-words ∙ sym (after-n (pair_numbered (carried_in (words_after 4 bs))) (frame_of (data_in (words_after 4 bs))))
        ∙ (live_own bs clear-words).count

    kept-words : record_of r.frame ≡ record_of (frame_of (data_in (words_after 4 bs)))
    kept-words = ap record_of same-words ∙ record-after (pair_numbered (carried_in (words_after 4 bs))) (frame_of (data_in (words_after 4 bs)))

    pub restore-moved : {k : Kept} {held : List ℕ} → k ≡ kept_by r.frame buffer → held ≡ held_by r.frame buffer
        → (move_from size k ≡ moved_by Old bs (length buffer)) × (held ≡ moved_to Old bs buffer)
    restore-moved p q = (
      move-kept (recall_words_order bs) (4 * n_byte bs + 11) _ buffer e h (live_inside bs clear-words) (3 * n_byte bs + 9)
          (p ∙ ap (λ m. in_order ((outside r.frame, 5) ∷ (ltb (length buffer) (3 * m + 9), 13) ∷ []) kept.Refused (kept.Done (3 * m + 9))) count-words),
      move-held (recall_words_order bs) (4 * n_byte bs + 11) _ buffer e h (live_inside bs clear-words) (3 * n_byte bs + 9) _
          (q ∙ ap₂ (λ m b. in_order ((outside r.frame, 5) ∷ (ltb (length buffer) (3 * m + 9), 13) ∷ []) (λ n. buffer) (b ++ drop (3 * m + 9) buffer))
          count-words kept-words),
    )
