-- What the calls that read the line say, by what the reader's call and keeping the frame answer. Assumes nothing.
use mathlib.Core.Path.{◌≡◌, refl, sym, ap, subst, ◌∙◌}
use mathlib.Core.Bool.{Bool, true, false, cond, not}
use mathlib.Core.List.{List, [], ◌∷◌}
use Prim.Native.Nat.{ℕ, ◌≤◌, ◌<◌}
use native.Mathlib.Omega.{arith}
use lib.ListN.{length}
use borrow.Author.Tests.{lt-ltb, le-ltb}
use Rattle.answer.specs.Order.{Says, refuses, answers, Check, in_order}
use Rattle.stream.specs.Standing.{frame_at}
use Rattle.stream.proofs.Data.{frame-within}
use Rattle.reader.specs.Reading.{bits_of, started, past_of, past, frame_waits, take_to, refused_taking, taken_by}
use Rattle.reader.specs.Rows.{rows_put, Turns, rows_order, rows_turns, no_rows, some_rows, rows_by, rows_to}
use Rattle.reader.specs.declared.Tally.{Tally}
use Rattle.reader.specs.declared.Reader.{Reader}
use Rattle.reader.specs.declared.Answer.{Answer}
use Rattle.reader.specs.declared.Answer.TheVariants as reads
use Rattle.reader.specs.declared.Taken.{Taken}
use Rattle.frame.specs.Widths.{outside}
use Rattle.frame.specs.declared.Frame.{Frame}
use Rattle.journal.specs.Journal.{kept_by, held_by, says_kept}
use Rattle.journal.specs.declared.Kept.TheVariants as kept
use Rattle.journal.proofs.RoundTrip.{refused-unchanged}
use Rattle.rtcm2_state.specs.State.{state_size, holds_state, state_in}
use Rattle.rtcm2.specs.Answer.{number_of, left, and_then}
use Rattle.rtcm2.specs.Line.{done_by, read_by, started_in, counts_in, taken_in}

-- ---- the number, and a lent place after a refusal and after an answer

module _ {A : Type 0} {s : Says A} where
  pub number-refused : {n : ℕ} → s ≡ refuses n → n ≡ number_of s
  number-refused e = ap number_of (sym e)

  pub number-answered : {a : A} → s ≡ answers a → 0 ≡ number_of s
  number-answered e = ap number_of (sym e)

  module _ {B : Type 0} (put : A → B) (held : B) where
    pub left_alone : {n : ℕ} → s ≡ refuses n → held ≡ left s put held
    left_alone e = ap (λ t. left t put held) (sym e)

    pub left-put : {a : A} {new : B} → s ≡ answers a → new ≡ put a → new ≡ left s put held
    left-put e h = h ∙ ap (λ t. left t put held) (sym e)

-- ---- START

pub start-short : (state : List ℕ) → length state < state_size → started_in state ≡ refuses 13
unfolding started_in
start-short state h = rw (lt-ltb (length state) state_size h)

pub start-done : (state : List ℕ) → state_size ≤ length state → started_in state ≡ answers started
unfolding started_in
start-done state h = rw (le-ltb (length state) state_size h)

-- ---- COUNTS

module _ (state : List ℕ) where
  abbrev told : Bool → Says Tally
  told b = and_then (cond b (answers (state_in state)) (refuses 5)) (λ r. answers r.candidate.tally)

  pub counts-none : holds_state state ≡ false → counts_in state ≡ refuses 5
  unfolding counts_in
  counts-none h = ap told h

  pub counts-held : holds_state state ≡ true → counts_in state ≡ answers (state_in state).candidate.tally
  unfolding counts_in
  counts-held h = ap told h

-- ---- a call of the reader that is held

module _ {A : Type 0} (answer : A → Answer) (call : Reader → A) (state : List ℕ) where
  abbrev by : (b : Bool) → Says A
  by b = and_then (cond b (answers (state_in state)) (refuses 5)) (λ r. done_by (answer (call r)) (call r))

  pub read_none : holds_state state ≡ false → read_by answer call state ≡ refuses 5
  read_none h = ap by h

  -- x is what the call left
  module _ (h : holds_state state ≡ true) {x : A} (e : x ≡ call (state_in state)) where
    pub read-by : read_by answer call state ≡ done_by (answer x) x
    read-by = ap by h ∙ ap (λ y. done_by (answer y) y) (sym e)

    pub read-refused : {n : ℕ} → answer x ≡ reads.Refused n → read_by answer call state ≡ refuses n
    read-refused a = read-by ∙ ap (λ y. done_by y x) a

    pub read_done : answer x ≡ reads.Done → read_by answer call state ≡ answers x
    read_done a = read-by ∙ ap (λ y. done_by y x) a

-- ---- READ

-- where reading rows is refused, they are as they were
pub unread-alone : (r : Reader) (bytes rows : List ℕ) {n : ℕ} → (rows_by r bytes rows).answer ≡ reads.Refused n → rows_to r bytes rows ≡ rows
unfolding rows_by rows_to
unread-alone r bytes rows {n} = by (rows_order r rows)
  where
    t : Turns
    t = rows_turns r bytes rows

    by : (cs : List Check) → (in_order cs (no_rows r) (some_rows t)).answer ≡ reads.Refused n → in_order cs (λ m. rows) (rows_put 0 t.frames rows) ≡ rows
    by [] e = absurd (let z : ◌≡◌ {A = ℕ} 0 1 = cc in omega arith)
    by (c ∷ cs) e = pick c.0 (by cs) e
      where
        pick : (b : Bool) → ((in_order cs (no_rows r) (some_rows t)).answer ≡ reads.Refused n → in_order cs (λ m. rows) (rows_put 0 t.frames rows) ≡ rows)
            → (in_order ((b, c.1) ∷ cs) (no_rows r) (some_rows t)).answer ≡ reads.Refused n
            → in_order ((b, c.1) ∷ cs) (λ m. rows) (rows_put 0 t.frames rows) ≡ rows
        pick true later h = refl
        pick false later h = later h

-- ---- TAKE

module _ (state frame : List ℕ) where
  abbrev then : Says Taken → Says (ℕ × Taken)
  then s = and_then s (λ t. and_then (says_kept (kept_by t.frame frame)) (λ size. answers (size, t)))

  pub take-refused : {n : ℕ} → read_by (λ (t : Taken). t.answer) taken_by state ≡ refuses n → taken_in state frame ≡ refuses n
  unfolding taken_in
  take-refused e = ap then e

  module _ {t : Taken} (e : read_by (λ (t : Taken). t.answer) taken_by state ≡ answers t) where
    pub take-unkept : {n : ℕ} → kept_by t.frame frame ≡ kept.Refused n → taken_in state frame ≡ refuses n
    unfolding taken_in
    take-unkept k = ap then e ∙ ap (λ a. and_then (says_kept a) (λ size. answers (size, t))) k

    pub take_done : {size : ℕ} → kept_by t.frame frame ≡ kept.Done size → taken_in state frame ≡ answers (size, t)
    unfolding taken_in
    take_done k = ap then e ∙ ap (λ a. and_then (says_kept a) (λ size. answers (size, t))) k

-- a frame that is not kept leaves the buffer as it was
pub unkept-alone : (f : Frame) (frame : List ℕ) {n : ℕ} → kept_by f frame ≡ kept.Refused n → held_by f frame ≡ frame
unkept-alone f frame {n} k = refused-unchanged f frame n (ap says_kept k)

-- ---- what taking answers by the reader's counts alone, and of what it hands out

module _ (r : Reader) where
  pub take_past : past_of r.candidate ≡ true → (taken_by r).answer ≡ reads.Refused 5
  unfolding taken_by
  take_past e = rw e

  pub take_none : past_of r.candidate ≡ false → r.candidate.waits ≡ false → (taken_by r).answer ≡ reads.Refused 4
  unfolding taken_by frame_waits
  take_none e w = rw (e, w)

  -- a frame that was taken is within its widths
  pub taken-within : (t : Taken) → t ≡ taken_by r → t.answer ≡ reads.Done → outside t.frame ≡ false
  unfolding taken_by
  taken-within t e d =
      subst (λ (x : Taken). outside x.frame ≡ false) (sym e) (go (past r) (not (frame_waits r)) (ap (λ (x : Taken). x.answer) (sym e) ∙ d))
    where
      next : Taken
      next = record {
        answer = reads.Done;
        at = r.candidate.at;
        frame = frame_at (bits_of r);
        reader = record { cells = r.cells; candidate = take_to r.cells r.candidate r.ended; ended = r.ended };
      }

      go : (p w : Bool) → (in_order ((p, 5) ∷ (w, 4) ∷ []) (refused_taking r) next).answer ≡ reads.Done
          → outside (in_order ((p, 5) ∷ (w, 4) ∷ []) (refused_taking r) next).frame ≡ false
      go true w h = absurd (let z : ◌≡◌ {A = ℕ} 0 1 = cc in omega arith)
      go false true h = absurd (let z : ◌≡◌ {A = ℕ} 0 1 = cc in omega arith)
      go false false h = frame-within (bits_of r)
