-- Whole journals, over the frames that they keep: what is promised of moving one and moving it back. Assumes nothing.
use Rattle.std.specs.Prelude.{◌≡◌, false, List, [], ◌∷◌, ◌++◌, map, ℕ, ◌≤◌, length, take}
use Rattle.bits.specs.Fields.{AreBytes}
use Rattle.frame.specs.Frames.{zero_pair, bare}
use Rattle.frame.specs.Widths.{outside}
use Rattle.frame.specs.declared.Frame.{Frame}
use Rattle.journal.specs.Forms.{words_after}
use Rattle.journal.specs.Journal.{record_of}
use Rattle.journal.specs.Words.{words_record, data_in}
use Rattle.journal_moves.specs.Moving.{MovedJournal, moved_journal}
use Rattle.journal_moves.specs.declared.Way.{Way}
use Rattle.journal_moves.specs.declared.Way.TheVariants.{New, Old}
use Rattle.journal_moves.specs.declared.Stop.TheVariants.{End}

-- a value of the type Frame that is not refused
pub record Keepable (f : Frame) : Type 0 where
  pub full : length f.words ≡ 31
  pub within : outside f ≡ false

abbrev pub AllKeepable : List Frame → Type 0
AllKeepable [] = Unit {0}
AllKeepable (f ∷ fs) = Keepable f × AllKeepable fs

-- A JOURNAL OF A FORM: the records of frames, one after the other
abbrev pub record_in : Way → Frame → List ℕ
record_in New f = words_record f
record_in Old f = record_of f

abbrev pub journal_in : Way → List Frame → List ℕ
journal_in w [] = []
journal_in w (f ∷ fs) = record_in w f ++ journal_in w fs

-- the form that is moved from
abbrev pub from : Way → Way
from New = Old
from Old = New

-- a run that read all of its bytes, and what it wrote
abbrev pub wrote : List ℕ → List ℕ → MovedJournal
wrote bs out = record { read = length bs; bytes = out; stop = End }

-- A RUN THAT CAME TO THE END: its bytes are a journal, and it wrote the same frames without their pairs in the other form
pub record Moves (w : Way) (bs : List ℕ) (run : MovedJournal) : Type 0 where
  pub frames : List Frame
  pub keepable : AllKeepable frames
  pub was : bs ≡ journal_in (from w) frames
  pub is : run ≡ wrote bs (journal_in w (map bare frames))

-- THE RECORD OF A FRAME AFTER 00 beside its record after its own pair: the same length, mark and N, and the same data of every word, so that only
-- carried bits, turned bits and parity bits may differ; the same bytes where the pair is 00
pub record Alike (f : Frame) : Type 0 where
  pub long : length (words_record (bare f)) ≡ length (words_record f)
  pub start : take 3 (words_record (bare f)) ≡ take 3 (words_record f)
  pub data-same : data_in (words_after 4 (words_record (bare f))) ≡ data_in (words_after 4 (words_record f))
  pub bytes_same : f.carried ≡ zero_pair → words_record (bare f) ≡ words_record f

abbrev pub AllAlike : List Frame → Type 0
AllAlike [] = Unit {0}
AllAlike (f ∷ fs) = Alike f × AllAlike fs

-- WHAT IS PROMISED of moves over whole journals
pub record Journals : Type 0 where
  -- a journal whose records all read is moved to its end, given the room
  pub moved : (w : Way) (fs : List Frame) (room : ℕ) → AllKeepable fs → length (journal_in w (map bare fs)) ≤ room
      → moved_journal w (journal_in (from w) fs) room ≡ wrote (journal_in (from w) fs) (journal_in w (map bare fs))
  -- and only such a one: what was moved to its end is a journal whose records all read
  pub ends : (w : Way) (bs : List ℕ) (room : ℕ) → AreBytes bs → (moved_journal w bs room).stop ≡ End → Moves w bs (moved_journal w bs room)
  -- OLD TO NEW TO OLD: every byte
  pub old-new-old : (bs : List ℕ) (room back : ℕ) → AreBytes bs → (moved_journal New bs room).stop ≡ End → length bs ≤ back
      → moved_journal Old (moved_journal New bs room).bytes back ≡ wrote (moved_journal New bs room).bytes bs
  -- NEW TO OLD TO NEW: the same frames, each after 00, in records that are alike
  pub new-old-new : (bs : List ℕ) (room back : ℕ) → AreBytes bs → (moved_journal Old bs room).stop ≡ End → length bs ≤ back
      → (fs : List Frame) × (AllKeepable fs × ((bs ≡ journal_in New fs)
      × ((moved_journal New (moved_journal Old bs room).bytes back ≡ wrote (moved_journal Old bs room).bytes (journal_in New (map bare fs))) × AllAlike fs)))
