-- THE MENDER, sentence by sentence: of a word, of a step, and of the run over a whole journal. Assumes nothing.
use Rattle.std.specs.Prelude.{◌≡◌, Bool, true, ℕ, ◌-◌, ◌^◌, ◌≤◌, ◌<◌, length, take, drop, get_or}
use mathlib.Core.List.{List, [], ◌++◌, Memᴰ}
use Rattle.bits.specs.Bits.{odd, differ, bits}
use Rattle.word.specs.Word.{passes}
use Rattle.word.specs.Answer.{remainder_at}
use Rattle.mender_words.specs.Words.{own_remainders, place_of, mended_by}
use Rattle.mender_words.specs.declared.MendedWord.TheVariants.{Mended, Broken}
use Rattle.mender.specs.Records.{count_of, windows_of, reads}
use Rattle.mender.specs.Report.{changes_from}
use Rattle.mender.specs.Steps.{step_by, bytes_after, report_of}
use Rattle.mender.specs.Run.{LostAt, mended_journal}
use Rattle.mender.specs.Damage.{AllTurned, joined_all}
use Rattle.mender.specs.declared.Step.TheVariants.{Whole}

pub record Mending : Type 0 where
  -- "every one of the 32 positions has its own odd remainder": the list has them, D29* first, and each odd remainder has its place there
  pub own : (i : ℕ) → i < 32 → remainder_at (2 ^ (31 - i)) ≡ get_or own_remainders i 0
  pub every : (r : ℕ) → r < 64 → odd (bits 6 r) ≡ true → (place_of r < 32) × (get_or own_remainders (place_of r) 0 ≡ r)
  -- "a remainder of odd weight gets one bit turned back": what is mended passes, and one bit was turned
  pub mended : (v u : ℕ) → mended_by v ≡ Mended u → (passes (bits 32 u) ≡ true) × (differ (bits 32 v) (bits 32 u) ≡ 1)
  -- of a window that passed: with one bit turned it comes back, with two it is not touched
  pub one : (u v : ℕ) → u < 2 ^ 32 → v < 2 ^ 32 → passes (bits 32 u) ≡ true → differ (bits 32 u) (bits 32 v) ≡ 1 → mended_by v ≡ Mended u
  pub two : (u v : ℕ) → u < 2 ^ 32 → v < 2 ^ 32 → passes (bits 32 u) ≡ true → differ (bits 32 u) (bits 32 v) ≡ 2 → mended_by v ≡ Broken
  -- "Reading a word with two turned bits at its own place never alters it": a step at its record is not whole and changes no byte
  pub two-turned : (s : Bool) (bs : List ℕ) (k u : ℕ) → k < length (windows_of (count_of bs) bs) → u < 2 ^ 32 → get_or (windows_of (count_of bs) bs) k 0 < 2 ^ 32
      → passes (bits 32 u) ≡ true → differ (bits 32 u) (bits 32 (get_or (windows_of (count_of bs) bs) k 0)) ≡ 2
      → ((size : ℕ) → step_by s bs ≡ Whole size → ⊥) × (bytes_after (step_by s bs) bs ≡ bs)
  -- a step on 135 bytes of a journal is the step on the journal: what it finds, the bytes after it, and its report
  pub windowed : (w e : List ℕ) → 135 ≤ length w → (s : Bool) → step_by s (w ++ e) ≡ step_by s w
  pub windowed-bytes : (w e : List ℕ) → 135 ≤ length w → (s : Bool) → bytes_after (step_by s (w ++ e)) (w ++ e) ≡ bytes_after (step_by s w) w ++ e
  pub windowed-report : (w e : List ℕ) → 135 ≤ length w → (s : Bool) (at : ℕ) → report_of at (step_by s (w ++ e)) (w ++ e) ≡ report_of at (step_by s w) w
  -- OVER A WHOLE JOURNAL. "Where marks and N bytes are sound and no word has more than one turned bit, the result equals what was first kept", and
  -- nothing is lost or passed over
  pub first-kept : (rs rs' : List (List ℕ)) → AllTurned rs rs' → (mended_journal (joined_all rs')).bytes ≡ joined_all rs
  pub none-lost : (rs rs' : List (List ℕ)) → AllTurned rs rs' → ((mended_journal (joined_all rs')).lost ≡ []) × ((mended_journal (joined_all rs')).passed ≡ [])
  -- "No byte of a lost record changes": those that count as its own
  pub lost-stays : (j : List ℕ) (l : LostAt) → Memᴰ l (mended_journal j).lost
      → take l.size (drop l.offset (mended_journal j).bytes) ≡ take l.size (drop l.offset j)
  -- "Print each change: byte offset, old, new": the changes are exactly where the journal and what came of it differ, and both are of one length
  pub long : (j : List ℕ) → length (mended_journal j).bytes ≡ length j
  pub told : (j : List ℕ) → (mended_journal j).changes ≡ changes_from 0 j (mended_journal j).bytes
  -- a record that is called whole reads from what came of the journal
  pub whole-reads : (j : List ℕ) (p : ℕ) → Memᴰ p (mended_journal j).whole → reads (drop p (mended_journal j).bytes) ≡ true
