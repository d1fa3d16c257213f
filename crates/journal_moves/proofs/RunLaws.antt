-- A run over a journal: what one move tells, and what a run is by its first record. Assumes nothing.
use mathlib.Core.Path.{◌≡◌, refl, sym, ap, ap₂, ◌∙◌}
use mathlib.Core.List.{List, [], ◌∷◌, ◌++◌, append_assoc}
use Prim.Native.Nat.{ℕ, zero, suc, ◌+◌, ◌-◌, ◌*◌, ◌≤◌, ◌<◌}
use native.Mathlib.Omega.{arith}
use lib.Dec.{ltb}
use lib.ListN.{length, drop}
use borrow.Author.Tests.{ltb-false, le-ltb}
use Rattle.answer.specs.Order.{NoneApplies}
use Rattle.answer.proofs.OrderLaws.{order-answers, order-map, none-append, none-parts, says_none}
use Rattle.frame.specs.Frames.{frame_of}
use Rattle.journal.specs.Forms.{n_byte, words_after, start_order}
use Rattle.journal.specs.Journal.{data_order}
use Rattle.journal.specs.Words.{data_in, live_order}
use Rattle.journal.proofs.FormLaws.{start-whole}
use Rattle.journal.proofs.KeepLaws.{length-record}
use Rattle.journal.proofs.LiveLaws.{length-live}
use Rattle.journal.proofs.RoundTrip.{read-own}
use Rattle.journal.proofs.WordsTrip.{live_own}
use Rattle.journal_moves.specs.Moving.{size_read, size_written, read_order, move_order, other_record, moved_by, moved_to}
use Rattle.journal_moves.specs.Moving.{says_moved, MovedJournal, stopped, before, onwards, moved_from, moved_journal}
use Rattle.journal_moves.specs.declared.Way.{Way}
use Rattle.journal_moves.specs.declared.Way.TheVariants.{New, Old}
use Rattle.journal_moves.specs.declared.Moved.{Moved}
use Rattle.journal_moves.specs.declared.Moved.TheVariants.{Done, Refused}
use Rattle.journal_moves.specs.declared.Stop.TheVariants as stop

-- ---- one record that was moved

reads-inside : (w : Way) (bs : List ℕ) → NoneApplies (read_order w bs) → size_read w (n_byte bs) ≤ length bs
reads-inside New bs h = start-whole 0x32 3 bs (none-parts (start_order 0x32 3 bs) (data_order (n_byte bs) (words_after 3 bs)) h).0
reads-inside Old bs h = start-whole 0x34 4 bs (none-parts (start_order 0x34 4 bs) (live_order (n_byte bs) (words_after 4 bs)) h).0

reads-some : (w : Way) (n : ℕ) → 0 < size_read w n
reads-some New n = omega arith
reads-some Old n = omega arith

writes-long : (w : Way) (bs : List ℕ) → NoneApplies (read_order w bs) → length (other_record w bs) ≡ size_written w (n_byte bs)
writes-long New bs h =
    let o = read-own bs h in
    length-live (frame_of (words_after 3 bs)) o.inside o.full ∙ ap (λ n. 4 * n + 11) o.count
writes-long Old bs h =
    let o = live_own bs h in
    length-record (frame_of (data_in (words_after 4 bs))) o.inside o.full ∙ ap (λ n. 3 * n + 9) o.count

-- ---- what the buffer then holds

pub moved-unchanged : (w : Way) (bs buffer : List ℕ) {number : ℕ} → moved_by w bs (length buffer) ≡ Refused number → moved_to w bs buffer ≡ buffer
moved-unchanged w bs buffer {number} e =
    sym (order-map held (move_order w bs (length buffer)) Refused (Done (size_read w (n_byte bs)) (size_written w (n_byte bs))))
    ∙ ap held e
  where
    held : Moved → List ℕ
    held (Done read written) = other_record w bs ++ drop (size_written w (n_byte bs)) buffer
    held (Refused n) = buffer

pub record Stepped (w : Way) (bs : List ℕ) (room read written : ℕ) : Type 0 where
  pub clear : NoneApplies (read_order w bs)
  pub read_is : read ≡ size_read w (n_byte bs)
  pub written_is : written ≡ size_written w (n_byte bs)
  pub long : length (other_record w bs) ≡ written
  pub fits : written ≤ room
  pub inside : read ≤ length bs
  pub some : 0 < read

pub step_of : (w : Way) (bs : List ℕ) (room : ℕ) {read written : ℕ} → moved_by w bs room ≡ Done read written → Stepped w bs room read written
step_of w bs room {read} {written} e = record {
  clear = clear;
  read_is = one;
  written_is = two;
  long = writes-long w bs clear ∙ sym two;
  fits = omega (arith, two, ltb-false room (size_written w (n_byte bs)) parts.1.0);
  inside = omega (arith, one, reads-inside w bs clear);
  some = omega (arith, one, reads-some w (n_byte bs));
}
  where
    none : NoneApplies (move_order w bs room)
    none = says_none says_moved Refused (λ n. refl) (Done (size_read w (n_byte bs)) (size_written w (n_byte bs))) (move_order w bs room) (ap says_moved e)

    parts : NoneApplies (read_order w bs) × NoneApplies ((ltb room (size_written w (n_byte bs)), 13) ∷ [])
    parts = none-parts (read_order w bs) ((ltb room (size_written w (n_byte bs)), 13) ∷ []) none

    clear : NoneApplies (read_order w bs)
    clear = parts.0

    told : Done (size_read w (n_byte bs)) (size_written w (n_byte bs)) ≡ Done read written
    told = sym (order-answers Refused (Done (size_read w (n_byte bs)) (size_written w (n_byte bs))) (move_order w bs room) none) ∙ e

    one : read ≡ size_read w (n_byte bs)
    one = cc told

    two : written ≡ size_written w (n_byte bs)
    two = cc told

pub moved-held : (w : Way) (bs buffer : List ℕ) {read written : ℕ} → moved_by w bs (length buffer) ≡ Done read written
    → moved_to w bs buffer ≡ other_record w bs ++ drop written buffer
moved-held w bs buffer e =
    let s = step_of w bs (length buffer) e in
    order-answers (λ n. buffer) (other_record w bs ++ drop (size_written w (n_byte bs)) buffer) (move_order w bs (length buffer))
    (none-append (read_order w bs) ((ltb (length buffer) (size_written w (n_byte bs)), 13) ∷ []) s.clear
    (le-ltb (length buffer) (size_written w (n_byte bs)) (omega (arith, s.fits, s.written_is)), tt))
    ∙ ap (λ j. other_record w bs ++ drop j buffer) (sym s.written_is)

-- ---- a run by its first record

run-skip : (w : Way) (bs : List ℕ) (room skip : ℕ) → moved_from w bs room skip ≡ moved_journal w (drop skip bs) room
unfolding moved_from
run-skip w [] room zero = refl
run-skip w [] room (suc skip) = refl
run-skip w (b ∷ bs) room zero = refl
run-skip w (b ∷ bs) room (suc skip) = run-skip w bs room skip

pub run_end : (w : Way) (room : ℕ) → moved_journal w [] room ≡ stopped stop.End
unfolding moved_from
run_end w room = refl

pub run-refused : (w : Way) (bs : List ℕ) (room : ℕ) {number : ℕ} → 0 < length bs → moved_by w bs room ≡ Refused number
    → moved_journal w bs room ≡ stopped (stop.At number)
unfolding moved_from
run-refused w [] room h e = absurd (omega arith)
run-refused w (b ∷ bs) room h e = ap (λ m. onwards m (other_record w (b ∷ bs)) (λ written read. moved_from w bs (room - written) (read - 1))) e

pub run_moved : (w : Way) (bs : List ℕ) (room read written : ℕ) → 0 < length bs → moved_by w bs room ≡ Done read written
    → moved_journal w bs room ≡ before read (other_record w bs) (moved_journal w (drop read bs) (room - written))
unfolding moved_from
run_moved w [] room read written h e = absurd (omega arith)
run_moved w (b ∷ bs) room zero written h e = absurd (omega (arith, (step_of w (b ∷ bs) room e).some))
run_moved w (b ∷ bs) room (suc read) written h e =
    ap (λ m. onwards m (other_record w (b ∷ bs)) (λ written read. moved_from w bs (room - written) (read - 1))) e
    ∙ ap (before (suc read) (other_record w (b ∷ bs))) (ap (moved_from w bs (room - written)) lower ∙ run-skip w bs (room - written) read)
  where
    lower : suc read - 1 ≡ read
    lower = omega arith

-- a run goes on after what was moved
pub before-before : (r₁ r₂ : ℕ) (b₁ b₂ : List ℕ) (x : MovedJournal) → before r₁ b₁ (before r₂ b₂ x) ≡ before (r₁ + r₂) (b₁ ++ b₂) x
before-before r₁ r₂ b₁ b₂ x =
    ap₂ (λ n bs. record { read = n; bytes = bs; stop = x.stop }) sum (sym (append_assoc b₁ b₂ x.bytes))
  where
    sum : r₁ + (r₂ + x.read) ≡ r₁ + r₂ + x.read
    sum = omega arith
