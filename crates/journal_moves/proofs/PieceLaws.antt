-- What one turn of `move_all` leaves: how far the run has come, and where it stops. Assumes nothing.
use mathlib.Core.Path.{◌≡◌, refl, sym, ap, ap₂, ◌∙◌}
use mathlib.Core.List.{List, [], ◌++◌, append_assoc, append-nil}
use Prim.Native.Nat.{ℕ, ◌+◌, ◌-◌, ◌≤◌, ◌<◌}
use native.Mathlib.Omega.{arith}
use native.Mathlib.Nat.{zero-add, add-zero}
use lib.ListN.{length, take, drop, length-append, length-drop, take-append-drop, drop_of_length-le}
use lib.Seq.{length-take-le, take_all, take_at, drop_at, drop-drop}
use Rattle.journal_moves.specs.Moving.{other_record, moved_by, moved_to, MovedJournal, stopped, before, moved_journal, piece_by, piece_to}
use Rattle.journal_moves.specs.declared.Way.{Way}
use Rattle.journal_moves.specs.declared.Moved.{Moved}
use Rattle.journal_moves.specs.declared.Moved.TheVariants.{Done, Refused}
use Rattle.journal_moves.specs.declared.Stop.{Stop}
use Rattle.journal_moves.specs.declared.Stop.TheVariants as stop
use Rattle.journal_moves.proofs.RunLaws.{Stepped, step_of, moved-held, moved-unchanged, run_end, run-refused, run_moved, before-before}

-- ---- lists from a place on, as they are lent: with as many elements as there are

tail_all : (n : ℕ) (l : List ℕ) → take (length l - n) (drop n l) ≡ drop n l
tail_all n l = take_all (length l - n) (drop n l) (omega (arith, length-drop n l))

module _ (w : Way) (bytes buffer : List ℕ) (read written : ℕ) where
  pub part-told : {m : Moved}
      → m ≡ moved_by w (take (length bytes - read) (drop read bytes)) (length (take (length buffer - written) (drop written buffer)))
      → moved_by w (drop read bytes) (length (drop written buffer)) ≡ m
  part-told e = sym (e ∙ ap₂ (λ x y. moved_by w x (length y)) (tail_all read bytes) (tail_all written buffer))

  pub part_held : {held : List ℕ}
      → held ≡ moved_to w (take (length bytes - read) (drop read bytes)) (take (length buffer - written) (drop written buffer))
      → take written buffer ++ (held ++ drop (length buffer - written) (drop written buffer))
      ≡ take written buffer ++ moved_to w (drop read bytes) (drop written buffer)
  part_held {held} e =
      ap (λ r. take written buffer ++ r)
      (ap (λ r. held ++ r) (drop_of_length-le (drop written buffer) none) ∙ append-nil held
      ∙ e ∙ ap₂ (moved_to w) (tail_all read bytes) (tail_all written buffer))
    where
      none : length (drop written buffer) ≤ length buffer - written
      none = omega (arith, length-drop written buffer)

-- ---- how far a run has come: what is left, after what was read and written, is the whole run

pub record SoFar (w : Way) (bytes start buffer : List ℕ) (read written : ℕ) : Type 0 where
  pub run : moved_journal w bytes (length start) ≡ before read (take written buffer) (moved_journal w (drop read bytes) (length start - written))
  pub inside : read ≤ length bytes
  pub room : written ≤ length buffer
  pub same : length buffer ≡ length start
  pub rest : drop written buffer ≡ drop written start

before-none : (x : MovedJournal) → x ≡ before 0 [] x
before-none x = ap (λ n. record { read = n; bytes = x.bytes; stop = x.stop }) (sym (zero-add x.read))

pub so-none : (w : Way) (bytes buffer : List ℕ) → SoFar w bytes buffer buffer 0 0
so-none w bytes buffer = record {
  run = ap (moved_journal w bytes) all ∙ before-none (moved_journal w bytes (length buffer - 0));
  inside = omega arith;
  room = omega arith;
  same = refl;
  rest = refl;
}
  where
    all : length buffer ≡ length buffer - 0
    all = omega arith

module _ (w : Way) (bytes start buffer : List ℕ) (read written : ℕ) (s : SoFar w bytes start buffer read written) where
  left : length (drop written buffer) ≡ length start - written
  left = length-drop written buffer ∙ ap (λ n. n - written) s.same

  -- one record more
  module _ (here : read < length bytes) (more new : ℕ) (e : moved_by w (drop read bytes) (length (drop written buffer)) ≡ Done more new) where
    pub stepped : Stepped w (drop read bytes) (length (drop written buffer)) more new
    stepped = step_of w (drop read bytes) (length (drop written buffer)) e

    front : length (take written buffer) ≡ written
    front = length-take-le written buffer s.room

    pub so-turn : {held : List ℕ} → held ≡ take written buffer ++ moved_to w (drop read bytes) (drop written buffer)
        → SoFar w bytes start held (read + more) (written + new)
    so-turn {held} q = record {
      run =
          s.run ∙ ap (before read (take written buffer)) first
          ∙ before-before read more (take written buffer) (other_record w (drop read bytes)) _
          ∙ ap₂ (λ b x. before (read + more) b x) (sym taken) (ap₂ (λ l n. moved_journal w l n) (drop-drop more read bytes) less);
      inside = omega (arith, stepped.inside, length-drop read bytes);
      room = omega (arith, whole, fits);
      same = whole ∙ s.same;
      rest =
          ap (drop (written + new)) is
          ∙ drop_at (take written buffer ++ other_record w (drop read bytes)) (drop (written + new) buffer) (written + new) size
          ∙ sym (drop-drop new written buffer) ∙ ap (drop new) s.rest ∙ drop-drop new written start;
    }
      where
        is : held ≡ (take written buffer ++ other_record w (drop read bytes)) ++ drop (written + new) buffer
        is =
            q ∙ ap (λ r. take written buffer ++ r) (moved-held w (drop read bytes) (drop written buffer) e)
            ∙ sym (append_assoc (take written buffer) (other_record w (drop read bytes)) (drop new (drop written buffer)))
            ∙ ap (λ r. (take written buffer ++ other_record w (drop read bytes)) ++ r) (drop-drop new written buffer)

        size : length (take written buffer ++ other_record w (drop read bytes)) ≡ written + new
        size = length-append (take written buffer) (other_record w (drop read bytes)) ∙ ap₂ ◌+◌ front stepped.long

        ahead : 0 < length (drop read bytes)
        ahead = omega (arith, length-drop read bytes)

        first : moved_journal w (drop read bytes) (length start - written)
            ≡ before more (other_record w (drop read bytes)) (moved_journal w (drop more (drop read bytes)) (length start - written - new))
        first =
            ap (moved_journal w (drop read bytes)) (sym left) ∙ run_moved w (drop read bytes) (length (drop written buffer)) more new ahead e
            ∙ ap (λ n. before more (other_record w (drop read bytes)) (moved_journal w (drop more (drop read bytes)) (n - new))) left

        fits : written + new ≤ length buffer
        fits = omega (arith, stepped.fits, length-drop written buffer, s.room)

        whole : length held ≡ length buffer
        whole =
            ap length is ∙ length-append (take written buffer ++ other_record w (drop read bytes)) (drop (written + new) buffer)
            ∙ omega (arith, size, fits, length-drop (written + new) buffer)

        taken : take (written + new) held ≡ take written buffer ++ other_record w (drop read bytes)
        taken = ap (take (written + new)) is
            ∙ take_at (take written buffer ++ other_record w (drop read bytes)) (drop (written + new) buffer) (written + new) size

        less : length start - written - new ≡ length start - (written + new)
        less = omega arith

  -- refused: the buffer is as it was
  pub so-refused : {held : List ℕ} {number : ℕ} → moved_by w (drop read bytes) (length (drop written buffer)) ≡ Refused number
      → held ≡ take written buffer ++ moved_to w (drop read bytes) (drop written buffer) → held ≡ buffer
  so-refused e q =
      q ∙ ap (λ r. take written buffer ++ r) (moved-unchanged w (drop read bytes) (drop written buffer) e) ∙ take-append-drop written buffer

  -- THE ANSWER, where the run stops here
  module _ (why : Stop) (e : moved_journal w (drop read bytes) (length start - written) ≡ stopped why) where
    is : moved_journal w bytes (length start) ≡ record { read = read; bytes = take written buffer; stop = why }
    is =
        s.run ∙ ap (before read (take written buffer)) e
        ∙ ap₂ (λ n b. record { read = n; bytes = b; stop = why }) (add-zero read) (append-nil (take written buffer))

    pub so-piece : record { read = read; written = written; stop = why } ≡ piece_by w bytes (length start)
    unfolding piece_by
    so-piece =
        sym (ap (λ (x : MovedJournal). record { read = x.read; written = length x.bytes; stop = x.stop }) is
        ∙ ap (λ n. record { read = read; written = n; stop = why }) (length-take-le written buffer s.room))

    pub so-held : buffer ≡ piece_to w bytes start
    unfolding piece_to
    so-held =
        sym (ap (λ (x : MovedJournal). x.bytes ++ drop (length x.bytes) start) is
        ∙ ap (λ n. take written buffer ++ drop n start) (length-take-le written buffer s.room)
        ∙ ap (λ r. take written buffer ++ r) (sym s.rest)
        ∙ take-append-drop written buffer)

  -- at the end of the bytes
  pub so-end : length bytes ≤ read → moved_journal w (drop read bytes) (length start - written) ≡ stopped stop.End
  so-end h = ap (λ l. moved_journal w l (length start - written)) (drop_of_length-le bytes h) ∙ run_end w (length start - written)

  -- at a record that is refused
  pub so-stop : {number : ℕ} → read < length bytes → moved_by w (drop read bytes) (length (drop written buffer)) ≡ Refused number
      → moved_journal w (drop read bytes) (length start - written) ≡ stopped (stop.At number)
  so-stop h e = ap (moved_journal w (drop read bytes)) (sym left)
      ∙ run-refused w (drop read bytes) (length (drop written buffer)) (omega (arith, length-drop read bytes)) e
