-- THERE AND BACK: a journal moved from one form to the other and back, over the frames that it keeps. Assumes nothing.
use mathlib.Core.Path.{◌≡◌, refl, sym, ap, ap₂, ◌∙◌}
use mathlib.Core.List.{List, [], ◌∷◌, ◌++◌, map, append-nil}
use Prim.Native.Nat.{ℕ, ◌+◌, ◌≤◌}
use native.Mathlib.Omega.{arith}
use lib.ListN.{length, length-append}
use Rattle.bits.specs.Fields.{AreBytes}
use Rattle.frame.specs.Frames.{zero_pair, after_pair, bare, words_of}
use Rattle.frame.specs.declared.Frame.{Frame}
use Rattle.frame.proofs.FrameLaws.{words-after}
use Rattle.journal.specs.Forms.{words_after}
use Rattle.journal.specs.Words.{words_record, data_in}
use Rattle.journal.proofs.WordsTrip.{live-data}
use Rattle.journal_moves.specs.Moving.{MovedJournal, moved_journal}
use Rattle.journal_moves.specs.Journals.{Keepable, AllKeepable, record_in, journal_in, wrote, Moves, Alike, AllAlike, Journals}
use Rattle.journal_moves.specs.declared.Way.TheVariants.{New, Old}
use Rattle.journal_moves.specs.declared.Stop.TheVariants as stop
use Rattle.journal_moves.proofs.MoveLaws.{record-after}
use Rattle.journal_moves.proofs.JournalLaws.{bare-keepable, sizes, sizes-made, all-bare, run-moves, run_ends}

-- ---- there and back

-- the form of data keeps no pair
bare-data : (fs : List Frame) → journal_in Old (map bare fs) ≡ journal_in Old fs
bare-data [] = refl
bare-data (f ∷ fs) = ap₂ ◌++◌ (record-after zero_pair f) (bare-data fs)

pub there_and_back : (bs : List ℕ) (room back : ℕ) → AreBytes bs → (moved_journal New bs room).stop ≡ stop.End → length bs ≤ back
    → moved_journal Old (moved_journal New bs room).bytes back ≡ wrote (moved_journal New bs room).bytes bs
there_and_back bs room back fits e h =
    ap (λ k. moved_journal Old k back) out ∙ run-moves Old (map bare m.frames) back (all-bare m.frames m.keepable) (omega (arith, ap length again, h))
    ∙ ap₂ wrote (sym out) again
  where
    m : Moves New bs (moved_journal New bs room)
    m = run_ends New bs room fits e

    out : (moved_journal New bs room).bytes ≡ journal_in New (map bare m.frames)
    out = ap (λ (x : MovedJournal). x.bytes) m.is

    again : journal_in Old (map bare (map bare m.frames)) ≡ bs
    again = bare-data (map bare m.frames) ∙ bare-data m.frames ∙ sym m.was

own-zero : (f : Frame) → f.carried ≡ zero_pair → bare f ≡ f
unfolding after_pair
own-zero f e = ap (λ k. after_pair k f) (sym e)

pub alike : (f : Frame) → Keepable f → Alike f
alike f k = record {
  long = sizes-made New f k ∙ sym (sizes Old f k);
  start = unfold words_record after_pair in refl;
  data-same = data-of (bare f) (bare-keepable f k) ∙ words-after zero_pair f ∙ sym (data-of f k);
  bytes_same = λ e. ap words_record (own-zero f e);
}
  where
    data-of : (g : Frame) → Keepable g → data_in (words_after 4 (words_record g)) ≡ words_of g
    data-of g kg = ap (λ l. data_in (words_after 4 l)) (sym (append-nil (words_record g))) ∙ live-data g kg.full kg.within []

all_alike : (fs : List Frame) → AllKeepable fs → AllAlike fs
all_alike [] k = tt
all_alike (f ∷ fs) k = (alike f k.0, all_alike fs k.1)

alike-long : (fs : List Frame) → AllKeepable fs → length (journal_in New (map bare fs)) ≡ length (journal_in New fs)
alike-long [] k = refl
alike-long (f ∷ fs) k =
    length-append (record_in New (bare f)) (journal_in New (map bare fs)) ∙ ap₂ ◌+◌ (alike f k.0).long (alike-long fs k.1)
    ∙ sym (length-append (record_in New f) (journal_in New fs))

pub journals : Journals
journals = record {
  moved = run-moves;
  ends = run_ends;
  old-new-old = there_and_back;
  new-old-new = λ bs room back fits e h.
      let m = run_ends Old bs room fits e in
      let out = ap (λ (x : MovedJournal). x.bytes) m.is ∙ bare-data m.frames in
      let fit : length (journal_in New (map bare m.frames)) ≤ back = omega (arith, alike-long m.frames m.keepable, ap length m.was, h) in (
        m.frames,
        (
          m.keepable,
          (
            m.was,
            (
              ap (λ k. moved_journal New k back) out ∙ run-moves New m.frames back m.keepable fit
                  ∙ ap (λ k. wrote k (journal_in New (map bare m.frames))) (sym out),
              all_alike m.frames m.keepable,
            ),
          ),
        ),
      );
}
