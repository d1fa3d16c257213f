-- THE PROMISES OF MOVES over whole journals: by induction on the frames, and on how many bytes are left. Assumes nothing.
use mathlib.Core.Path.{◌≡◌, refl, sym, ap, ap₂, ◌∙◌}
use mathlib.Core.Bool.{false}
use mathlib.Core.List.{List, [], ◌∷◌, ◌++◌, map}
use Prim.Native.Nat.{ℕ, zero, suc, ◌+◌, ◌-◌, ◌*◌, ◌≤◌, ◌<◌}
use native.Mathlib.Omega.{arith}
use lib.Dec.{ltb}
use lib.ListN.{length, take, drop, length-append, length-drop, take-append-drop}
use lib.Seq.{drop_at}
use borrow.Author.Tests.{le-ltb}
use Rattle.answer.specs.Order.{NoneApplies}
use Rattle.answer.proofs.OrderLaws.{order-answers, none-append}
use Rattle.bits.specs.Fields.{AreBytes}
use Rattle.bits.proofs.FieldLaws.{fit-drop}
use Rattle.frame.specs.Frames.{zero_pair, after_pair, bare, frame_of}
use Rattle.frame.specs.Widths.{pair_outside}
use Rattle.frame.specs.declared.Frame.{Frame}
use Rattle.frame.proofs.FrameLaws.{frame-words, after-after, after-inside}
use Rattle.journal.specs.Forms.{n_byte, words_after}
use Rattle.journal.specs.Journal.{record_of, recall_order, recalled, refused_recall, says_recalled}
use Rattle.journal.specs.Words.{pair_numbered, words_record, data_in, carried_in, recall_words_order, found_words}
use Rattle.journal.proofs.KeepLaws.{length-record}
use Rattle.journal.proofs.LiveLaws.{length-live}
use Rattle.journal.proofs.RoundTrip.{recall-clear, words_back, reread, recalled-bare}
use Rattle.journal.proofs.WordsTrip.{live-clear, live-data, after-n, after-full, reread-words}
use Rattle.journal_moves.specs.Moving.{size_read, size_written, read_order, move_order, other_record, moved_by, MovedJournal, before, moved_journal}
use Rattle.journal_moves.specs.Journals.{Keepable, AllKeepable, record_in, journal_in, from, wrote, Moves}
use Rattle.journal_moves.specs.declared.Way.{Way}
use Rattle.journal_moves.specs.declared.Way.TheVariants.{New, Old}
use Rattle.journal_moves.specs.declared.Moved.{Moved}
use Rattle.journal_moves.specs.declared.Moved.TheVariants.{Done, Refused}
use Rattle.journal_moves.specs.declared.Stop.TheVariants as stop
use Rattle.journal_moves.proofs.MoveLaws.{record-after}
use Rattle.journal_moves.proofs.RunLaws.{step_of, run_end, run-refused, run_moved}

-- ---- a frame without its pair

pub bare-keepable : (f : Frame) → Keepable f → Keepable (bare f)
bare-keepable f k = record { full = after-full zero_pair f k.full; within = after-inside zero_pair f zero-inside k.within }
  where
    zero-inside : pair_outside zero_pair ≡ false
    zero-inside = unfold pair_outside in refl

-- ---- one record of a keepable frame, whatever follows

pub sizes : (w : Way) (f : Frame) → Keepable f → length (record_in (from w) f) ≡ size_read w f.n
sizes New f k = length-record f k.within k.full
sizes Old f k = length-live f k.within k.full

pub sizes-made : (w : Way) (f : Frame) → Keepable f → length (record_in w (bare f)) ≡ size_written w f.n
sizes-made New f k = let b = bare-keepable f k in length-live (bare f) b.within b.full ∙ ap (λ n. 4 * n + 11) (sym (after-n zero_pair f))
sizes-made Old f k = let b = bare-keepable f k in length-record (bare f) b.within b.full ∙ ap (λ n. 3 * n + 9) (sym (after-n zero_pair f))

module _ (f : Frame) (k : Keepable f) (rest : List ℕ) where
  reads : (w : Way) → NoneApplies (read_order w (record_in (from w) f ++ rest))
  reads New = recall-clear f k.full k.within rest
  reads Old = live-clear f k.full k.within rest

  n-is : (w : Way) → n_byte (record_in (from w) f ++ rest) ≡ f.n
  n-is New = unfold record_of in refl
  n-is Old = unfold words_record in refl

  other : (w : Way) → other_record w (record_in (from w) f ++ rest) ≡ record_in w (bare f)
  other New = ap (λ ws. words_record (frame_of ws)) (words_back f k.full k.within rest) ∙ ap words_record (frame-words f k.within k.full)
  other Old = ap (λ ws. record_of (frame_of ws)) (live-data f k.full k.within rest) ∙ ap record_of (frame-words f k.within k.full)

  moved-one : (w : Way) (room : ℕ) → size_written w f.n ≤ room
      → moved_by w (record_in (from w) f ++ rest) room ≡ Done (size_read w f.n) (size_written w f.n)
  moved-one w room h =
      order-answers Refused (Done (size_read w (n_byte bs)) (size_written w (n_byte bs))) (move_order w bs room)
      (none-append (read_order w bs) ((ltb room (size_written w (n_byte bs)), 13) ∷ []) (reads w)
      (ap (λ n. ltb room (size_written w n)) (n-is w) ∙ le-ltb room (size_written w f.n) h, tt))
      ∙ ap (λ n. Done (size_read w n) (size_written w n)) (n-is w)
    where
      bs : List ℕ
      bs = record_in (from w) f ++ rest

-- ---- GIVEN THE ROOM, a journal is moved to its end

pub all-bare : (fs : List Frame) → AllKeepable fs → AllKeepable (map bare fs)
all-bare [] k = tt
all-bare (f ∷ fs) k = (bare-keepable f k.0, all-bare fs k.1)

module _ (w : Way) (read : ℕ) (made : List ℕ) (bs js out : List ℕ) (l : length bs ≡ read + length js) where
  before-wrote : before read made (wrote js out) ≡ wrote bs (made ++ out)
  before-wrote = ap (λ n. record { read = n; bytes = made ++ out; stop = stop.End }) (sym l)

sizes-some : (w : Way) (n : ℕ) → 0 < size_read w n
sizes-some New n = omega arith
sizes-some Old n = omega arith

pub run-moves : (w : Way) (fs : List Frame) (room : ℕ) → AllKeepable fs → length (journal_in w (map bare fs)) ≤ room
    → moved_journal w (journal_in (from w) fs) room ≡ wrote (journal_in (from w) fs) (journal_in w (map bare fs))
run-moves w [] room k h = run_end w room
run-moves w (f ∷ fs) room k h =
    run_moved w (record_in (from w) f ++ rest) room (size_read w f.n) (size_written w f.n) some (moved-one f k.0 rest w room fits)
    ∙ ap₂ (λ made l. before (size_read w f.n) made (moved_journal w l (room - size_written w f.n))) (other f k.0 rest w)
    (drop_at (record_in (from w) f) rest (size_read w f.n) (sizes w f k.0))
    ∙ ap (before (size_read w f.n) (record_in w (bare f))) (run-moves w fs (room - size_written w f.n) k.1 more)
    ∙ before-wrote w (size_read w f.n) (record_in w (bare f)) (record_in (from w) f ++ rest) rest (journal_in w (map bare fs)) long
  where
    rest : List ℕ
    rest = journal_in (from w) fs

    long : length (record_in (from w) f ++ rest) ≡ size_read w f.n + length rest
    long = length-append (record_in (from w) f) rest ∙ ap (λ n. n + length rest) (sizes w f k.0)

    some : 0 < length (record_in (from w) f ++ rest)
    some = omega (arith, long, sizes-some w f.n)

    split : length (record_in w (bare f) ++ journal_in w (map bare fs)) ≡ size_written w f.n + length (journal_in w (map bare fs))
    split = length-append (record_in w (bare f)) (journal_in w (map bare fs)) ∙ ap (λ n. n + length (journal_in w (map bare fs))) (sizes-made w f k.0)

    fits : size_written w f.n ≤ room
    fits = omega (arith, h, split)

    more : length (journal_in w (map bare fs)) ≤ room - size_written w f.n
    more = omega (arith, h, split)

-- ---- WHAT CAME TO ITS END is such a journal

-- the frame of a record that reads
record Held (w : Way) (bs : List ℕ) : Type 0 where
  frame : Frame
  keepable : Keepable frame
  bytes : record_in (from w) frame ≡ take (size_read w (n_byte bs)) bs
  made : other_record w bs ≡ record_in w (bare frame)

held : (w : Way) (bs : List ℕ) → AreBytes bs → NoneApplies (read_order w bs) → Held w bs
held New bs fits clear =
    let f = frame_of (words_after 3 bs) in
    let h = ap says_recalled (order-answers refused_recall (recalled (n_byte bs) (words_after 3 bs)) (recall_order bs) clear) in
    let r = reread bs fits f (3 * n_byte bs + 9) h in
    record {
      frame = f;
      keepable = record { full = r.full; within = r.inside };
      bytes = r.bytes-are;
      made = ap words_record (sym (recalled-bare bs fits f (3 * n_byte bs + 9) h));
    }
held Old bs fits clear =
    let k = pair_numbered (carried_in (words_after 4 bs)) in
    let g = frame_of (data_in (words_after 4 bs)) in
    let h = ap says_recalled (order-answers refused_recall (found_words (n_byte bs) (words_after 4 bs)) (recall_words_order bs) clear) in
    let r = reread-words bs fits (after_pair k g) (4 * n_byte bs + 11) h in
    record {
      frame = after_pair k g;
      keepable = record { full = r.full; within = r.inside };
      bytes = r.bytes-are;
      made = sym (ap record_of (after-after zero_pair k g) ∙ record-after zero_pair g);
    }

apart : (number : ℕ) → stop.At number ≡ stop.End → ⊥
apart number e = let z : ◌≡◌ {A = ℕ} 0 1 = cc e in omega arith

-- a run of no bytes; and by its first record, where those of fewer bytes are known
run_none : (w : Way) (room : ℕ) → Moves w [] (moved_journal w [] room)
run_none w room = record { frames = []; keepable = tt; was = refl; is = run_end w room }

run-first : (w : Way) (most : ℕ) (bs : List ℕ) (room : ℕ) → length bs ≤ suc most → AreBytes bs → (moved_journal w bs room).stop ≡ stop.End
    → ((l : List ℕ) (room : ℕ) → length l ≤ most → AreBytes l → (moved_journal w l room).stop ≡ stop.End → Moves w l (moved_journal w l room))
    → Moves w bs (moved_journal w bs room)
run-first w most [] room l fits e later = run_none w room
run-first w most (b ∷ bs) room l fits e later = go (moved_by w (b ∷ bs) room) refl
  where
    some : 0 < length (b ∷ bs)
    some = omega arith

    go : (m : Moved) → moved_by w (b ∷ bs) room ≡ m → Moves w (b ∷ bs) (moved_journal w (b ∷ bs) room)
    go (Refused number) q = absurd (apart number (sym (ap (λ (x : MovedJournal). x.stop) (run-refused w (b ∷ bs) room some q)) ∙ e))
    go (Done read written) q =
        let all = run_moved w (b ∷ bs) room read written some q in
        let s = step_of w (b ∷ bs) room q in
        let f = held w (b ∷ bs) fits s.clear in
        let less : length (drop read (b ∷ bs)) ≤ most = omega (arith, length-drop read (b ∷ bs), s.some) in
        let m = later (drop read (b ∷ bs)) (room - written) less (fit-drop read (b ∷ bs) fits) (sym (ap (λ (x : MovedJournal). x.stop) all) ∙ e) in
        let long : length (b ∷ bs) ≡ read + length (drop read (b ∷ bs)) = omega (arith, length-drop read (b ∷ bs), s.inside) in
        record {
          frames = f.frame ∷ m.frames;
          keepable = (f.keepable, m.keepable);
          was = sym (ap₂ ◌++◌ (f.bytes ∙ ap (λ n. take n (b ∷ bs)) (sym s.read_is)) (sym m.was) ∙ take-append-drop read (b ∷ bs));
          is =
              all ∙ ap₂ (before read) f.made m.is
              ∙ before-wrote w read (record_in w (bare f.frame)) (b ∷ bs) (drop read (b ∷ bs)) (journal_in w (map bare m.frames)) long;
        }

run-frames : (w : Way) (most : ℕ) (bs : List ℕ) (room : ℕ) → length bs ≤ most → AreBytes bs → (moved_journal w bs room).stop ≡ stop.End
    → Moves w bs (moved_journal w bs room)
run-frames w zero [] room l fits e = run_none w room
run-frames w zero (b ∷ bs) room l fits e = absurd (omega arith)
run-frames w (suc most) bs room l fits e = run-first w most bs room l fits e (λ k. run-frames w most k)

pub run_ends : (w : Way) (bs : List ℕ) (room : ℕ) → AreBytes bs → (moved_journal w bs room).stop ≡ stop.End → Moves w bs (moved_journal w bs room)
run_ends w bs room fits e = run-frames w (length bs) bs room (omega arith) fits e
