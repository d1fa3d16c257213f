-- A JOURNAL THAT KEEPS THE WORDS: what is kept is read back with its pair, what is read is kept again, and whole journals move between the two
-- forms. Assumes nothing.
use Rattle.std.specs.Prelude.{◌≡◌, List, ◌++◌, ℕ, ◌+◌, ◌*◌, ◌≤◌, length, take, drop}
use Rattle.answer.specs.Order.{answers}
use Rattle.bits.specs.Fields.{AreBytes}
use Rattle.frame.specs.declared.Frame.{Frame}
use Rattle.journal.specs.Journal.{says_kept, says_recalled}
use Rattle.journal.specs.Words.{kept_words, held_words, recalled_words}
use Rattle.journal_moves.specs.Journals.{Journals}

pub record WordsKept : Type 0 where
  -- a frame that is kept is recalled with its length and its own pair, whatever follows
  pub recalled : (f : Frame) (buffer rest : List ℕ) (k : ℕ) → length f.words ≡ 31 → says_kept (kept_words f buffer) ≡ answers k
      → (k ≡ 4 * f.n + 11) × (says_recalled (recalled_words (take k (held_words f buffer) ++ rest)) ≡ answers (k, f))
  -- and every byte of a record that is recalled is kept again: no altered byte passes
  pub kept_again : (bs : List ℕ) (f : Frame) (k : ℕ) (buffer : List ℕ) → AreBytes bs → says_recalled (recalled_words bs) ≡ answers (k, f)
      → k ≤ length buffer → (says_kept (kept_words f buffer) ≡ answers k) × (held_words f buffer ≡ take k bs ++ drop k buffer)
  -- WHOLE JOURNALS, moved from one form to the other and back
  pub journals : Journals
