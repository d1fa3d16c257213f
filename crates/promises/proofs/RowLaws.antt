-- Where rows were put each frame stands in its own, and nothing stands past the last but what stood there. Assumes nothing.
use mathlib.Core.Path.{◌≡◌, refl, sym, ap, subst, subst₂, ◌∙◌}
use mathlib.Core.Bool.{Bool, true, false}
use mathlib.Core.List.{List, [], ◌∷◌, ◌++◌, append_assoc}
use Prim.Native.Nat.{ℕ, zero, suc, ◌+◌, ◌-◌, ◌*◌, ◌/◌, ◌≤◌}
use native.Mathlib.Omega.{arith}
use native.Mathlib.Nat.{zero-add}
use lib.ListN.{length, take, drop, length-append, take-append-drop}
use lib.Seq.{sets, sets-eq, length-sets, take-take, take_at, drop_at, drop-drop, length-take-le}
use Rattle.answer.specs.Order.{answers, Check, in_order}
use Rattle.frame.specs.Frames.{bare}
use Rattle.frame.specs.Widths.{outside}
use Rattle.frame.specs.declared.Frame.{Frame}
use Rattle.frame.proofs.FrameLaws.{n_within}
use Rattle.stream.proofs.Data.{frame-within, frame-full}
use Rattle.record_fields.specs.Coding.{Each}
use Rattle.journal.specs.Journal.{recalled_by, says_recalled}
use Rattle.journal.proofs.KeepLaws.{length-record}
use Rattle.journal.proofs.RoundTrip.{recall-record}
use Rattle.reader.specs.Reading.{bits_of, past, frame_waits, fed_all_by, taken_by}
use Rattle.reader.specs.Rows.{row_size, row_of, rows_put, Turns, stopped, went_on, taken_or, in_turns, rows_order, rows_turns, no_rows, some_rows, rows_by, rows_to}
use Rattle.reader.specs.declared.Reader.{Reader}
use Rattle.reader.specs.declared.Answer.{Answer}
use Rattle.reader.specs.declared.Answer.TheVariants.{Done, Refused}
use Rattle.reader.specs.declared.Taken.{Taken}
use Rattle.promises.specs.Turns.{row_frames, RowHolds, RowsHold}
use Rattle.promises.specs.ChangesNeither.{OnlyFirst, OnlyBetween}
use Rattle.promises.proofs.Runs.{not_done, given, taken-by}
use Rattle.promises.proofs.Owning.{between-stored}
use Rattle.promises.proofs.Turns.{turns-are-calls, turn_is}

-- ---- the frames

-- within its widths, with all its words
abbrev Whole : ℕ × Frame → Type 0
Whole h = (outside h.1 ≡ false) × (length h.1.words ≡ 31)

taken-whole : (r : Reader) → (taken_by r).answer ≡ Done → Whole ((taken_by r).at, (taken_by r).frame)
taken-whole r e = go (past r) refl (frame_waits r) refl
  where
    P : Taken → Type 0
    P t = (outside t.frame ≡ false) × (length t.frame.words ≡ 31)

    go : (p : Bool) → past r ≡ p → (w : Bool) → frame_waits r ≡ w → P (taken_by r)
    go true ep w ew = not_done 5 (sym (ap (λ (t : Taken). t.answer) (taken-by r true w ep ew)) ∙ e)
    go false ep false ew = not_done 4 (sym (ap (λ (t : Taken). t.answer) (taken-by r false false ep ew)) ∙ e)
    go false ep true ew = subst P (sym (taken-by r false true ep ew)) (unfold given in (frame-within (bits_of r), frame-full (bits_of r)))

turns-whole : (k : ℕ) (r : Reader) (bs : List ℕ) → Each Whole (in_turns k r bs).frames
turns-whole zero r bs = unfold in_turns in tt
turns-whole (suc k) r bs =
    subst (λ (x : Turns). Each Whole x.frames) (sym (turn_is k r bs))
    (go next.answer refl (turns-whole k (taken_by (fed_all_by r bs).reader).reader (drop (fed_all_by r bs).used bs)))
  where
    next : Taken
    next = taken_by (fed_all_by r bs).reader

    rest : Turns
    rest = in_turns k (taken_by (fed_all_by r bs).reader).reader (drop (fed_all_by r bs).used bs)

    go : (a : Answer) → next.answer ≡ a → Each Whole rest.frames
        → Each Whole (taken_or a (went_on (fed_all_by r bs) next rest) (stopped (fed_all_by r bs))).frames
    go Done e v = (taken-whole (fed_all_by r bs).reader e, v)
    go (Refused n) e v = tt

-- ---- a row

row-long : (h : ℕ × Frame) → Whole h → length (row_of h.0 h.1) ≤ row_size
unfolding row_of
row-long h w = omega (arith, length-record h.1 w.0 w.1, n_within h.1 w.0)

row-recalled : (h : ℕ × Frame) → Whole h → (rest : List ℕ)
    → says_recalled (recalled_by (drop 6 (row_of h.0 h.1 ++ rest))) ≡ answers (3 * h.1.n + 9, bare h.1)
unfolding row_of
row-recalled h w rest = ap says_recalled (recall-record h.1 w.1 w.0 rest)

-- bytes from a place on
stored : (row : List ℕ) (start : ℕ) (rows whole : List ℕ) (n : ℕ) → start + length row ≤ length rows → length row ≤ n
    → take (start + n) whole ≡ take (start + n) (sets rows start row) → drop start whole ≡ row ++ drop (start + length row) whole
stored row start rows whole n fits small e =
    ap (drop start) (sym (take-append-drop (start + length row) whole) ∙ ap (λ l. l ++ behind) front ∙ append_assoc (take start rows) row behind)
    ∙ drop_at (take start rows) (row ++ behind) start head
  where
    behind : List ℕ
    behind = drop (start + length row) whole

    head : length (take start rows) ≡ start
    head = length-take-le start rows (omega arith)

    both : length (take start rows ++ row) ≡ start + length row
    both = omega (arith, length-append (take start rows) row, head)

    less : start + length row ≤ start + n
    less = omega arith

    front : take (start + length row) whole ≡ take start rows ++ row
    front =
        sym (take-take (start + length row) (start + n) whole less) ∙ ap (take (start + length row)) e
        ∙ take-take (start + length row) (start + n) (sets rows start row) less
        ∙ ap (take (start + length row)) (sets-eq row rows start fits)
        ∙ take_at (take start rows ++ row) (drop (start + length row) rows) (start + length row) both

-- what two lists share past a place they share past a later one
rest-past : (a n : ℕ) (x y : List ℕ) → a ≤ n → drop a x ≡ drop a y → drop n x ≡ drop n y
rest-past a n x y le e =
    ap (λ j. drop j x) is ∙ sym (drop-drop (n - a) a x) ∙ ap (drop (n - a)) e ∙ drop-drop (n - a) a y ∙ ap (λ j. drop j y) (sym is)
  where
    is : n ≡ a + (n - a)
    is = omega arith

-- ---- rows

-- nothing before the first row changes, and nothing past the last
put-between : (hs : List (ℕ × Frame)) (start : ℕ) (rows : List ℕ) → Each Whole hs → start + row_size * length hs ≤ length rows
    → OnlyBetween start (start + row_size * length hs) (rows_put start hs rows) rows
unfolding rows_put
put-between [] start rows w fits = record { long = refl; front = refl; rest = refl }
put-between (h ∷ hs) start rows w fits =
    go (put-between hs (start + row_size) (sets rows start (row_of h.0 h.1)) w.1 room) (between-stored (row_of h.0 h.1) start rows one)
  where
    row : List ℕ
    row = row_of h.0 h.1

    small : length (row_of h.0 h.1) ≤ row_size
    small = row-long h w.0

    one : start + length (row_of h.0 h.1) ≤ length rows
    one = omega (arith, small, fits)

    room : start + row_size + row_size * length hs ≤ length (sets rows start (row_of h.0 h.1))
    room = omega (arith, fits, length-sets rows start (row_of h.0 h.1))

    whole : List ℕ
    whole = rows_put (start + row_size) hs (sets rows start (row_of h.0 h.1))

    last : start + row_size * suc (length hs) ≡ start + row_size + row_size * length hs
    last = omega arith

    go : OnlyBetween (start + row_size) (start + row_size + row_size * length hs) whole (sets rows start row)
        → OnlyBetween start (start + length row) (sets rows start row) rows
        → OnlyBetween start (start + row_size * suc (length hs)) whole rows
    go v b = record {
      long = v.long ∙ b.long;
      front =
          sym (take-take start (start + row_size) whole (omega arith)) ∙ ap (take start) v.front
          ∙ take-take start (start + row_size) (sets rows start row) (omega arith) ∙ b.front;
      rest =
          ap (λ n. drop n whole) last ∙ v.rest
          ∙ rest-past (start + length row) (start + row_size + row_size * length hs) (sets rows start row) rows (omega (arith, small)) b.rest
          ∙ ap (λ n. drop n rows) (sym last);
    }

-- the row of a frame that has so many before it
put-row : (before behind : List (ℕ × Frame)) (h : ℕ × Frame) (start : ℕ) (rows : List ℕ) → Each Whole (before ++ (h ∷ behind))
    → start + row_size * length (before ++ (h ∷ behind)) ≤ length rows
    → RowHolds h (drop (start + row_size * length before) (rows_put start (before ++ (h ∷ behind)) rows))
unfolding rows_put
put-row [] behind h start rows w fits =
    let front = (put-between behind (start + row_size) (sets rows start row) w.1 room).front in
    let is = ap (λ n. drop n whole) first ∙ stored row start rows whole row_size one small front in
    record {
      rest = drop (start + length row) whole;
      is = is;
      fits = small;
      recalled = ap (λ l. says_recalled (recalled_by (drop 6 l))) is ∙ row-recalled h w.0 (drop (start + length row) whole);
    }
  where
    row : List ℕ
    row = row_of h.0 h.1

    whole : List ℕ
    whole = rows_put (start + row_size) behind (sets rows start (row_of h.0 h.1))

    first : start + row_size * 0 ≡ start
    first = omega arith

    small : length row ≤ row_size
    small = row-long h w.0

    one : start + length row ≤ length rows
    one = omega (arith, small, fits)

    room : start + row_size + row_size * length behind ≤ length (sets rows start row)
    room = omega (arith, fits, length-sets rows start row)
put-row (b ∷ before) behind h start rows w fits =
    subst (λ n. RowHolds h (drop n (rows_put (start + row_size) (before ++ (h ∷ behind)) (sets rows start (row_of b.0 b.1))))) further
    (put-row before behind h (start + row_size) (sets rows start (row_of b.0 b.1)) w.1 room)
  where
    further : start + row_size + row_size * length before ≡ start + row_size * suc (length before)
    further = omega arith

    room : start + row_size + row_size * length (before ++ (h ∷ behind)) ≤ length (sets rows start (row_of b.0 b.1))
    room = omega (arith, fits, length-sets rows start (row_of b.0 b.1))

-- from the start
first_rows : (hs : List (ℕ × Frame)) (rows : List ℕ) → Each Whole hs → row_size * length hs ≤ length rows
    → OnlyFirst (row_size * length hs) (rows_put 0 hs rows) rows
first_rows hs rows w fits = record { long = all.long; rest = all.rest }
  where
    room : 0 + row_size * length hs ≤ length rows
    room = omega (arith, fits)

    all : OnlyBetween 0 (row_size * length hs) (rows_put 0 hs rows) rows
    all = subst (λ n. OnlyBetween 0 n (rows_put 0 hs rows) rows) (zero-add (row_size * length hs)) (put-between hs 0 rows w room)

first-row : (before behind : List (ℕ × Frame)) (h : ℕ × Frame) (rows : List ℕ) → Each Whole (before ++ (h ∷ behind))
    → row_size * length (before ++ (h ∷ behind)) ≤ length rows → RowHolds h (drop (row_size * length before) (rows_put 0 (before ++ (h ∷ behind)) rows))
first-row before behind h rows w fits =
    subst (λ n. RowHolds h (drop n (rows_put 0 (before ++ (h ∷ behind)) rows))) (zero-add (row_size * length before)) (put-row before behind h 0 rows w room)
  where
    room : 0 + row_size * length (before ++ (h ∷ behind)) ≤ length rows
    room = omega (arith, fits)

-- ---- READ ROWS

module _ (r : Reader) (bytes rows : List ℕ) where
  abbrev frames : List (ℕ × Frame)
  frames = (rows_turns r bytes rows).frames

  -- what was put, by the checks
  record Put (count : ℕ) (out : List (ℕ × Frame)) (left : List ℕ) : Type 0 where
    as_many : count ≡ length out
    whole : Each Whole out
    room : row_size * length out ≤ length rows
    is : left ≡ rows_put 0 out rows

  put-by : (cs : List Check)
      → Put (in_order cs (no_rows r) (some_rows (rows_turns r bytes rows))).count (in_order cs (λ n. []) frames) (in_order cs (λ n. rows) (rows_put 0 frames rows))
  put-by [] = record {
    as_many = refl;
    whole = turns-whole (length rows / row_size) r bytes;
    room = omega (arith, (turns-are-calls (length rows / row_size) r bytes).room);
    is = refl;
  }
  put-by (c ∷ cs) = pick c.0 (put-by cs)
    where
      pick : (b : Bool)
          → Put (in_order cs (no_rows r) (some_rows (rows_turns r bytes rows))).count (in_order cs (λ n. []) frames)
          (in_order cs (λ n. rows) (rows_put 0 frames rows))
          → Put (in_order ((b, c.1) ∷ cs) (no_rows r) (some_rows (rows_turns r bytes rows))).count (in_order ((b, c.1) ∷ cs) (λ n. []) frames)
          (in_order ((b, c.1) ∷ cs) (λ n. rows) (rows_put 0 frames rows))
      pick true v = record { as_many = refl; whole = tt; room = omega arith; is = unfold rows_put in refl }
      pick false v = v

  pub rows-hold : RowsHold r bytes rows
  rows-hold = record {
    count = v.as_many;
    only = subst₂ (λ n l. OnlyFirst (row_size * n) l rows) (sym v.as_many) (sym v.is)
        (first_rows (row_frames r bytes rows) rows v.whole v.room);
    each = λ before behind h e.
        subst (λ l. RowHolds h (drop (row_size * length before) l)) (sym (v.is ∙ ap (λ f. rows_put 0 f rows) e))
        (first-row before behind h rows (subst (Each Whole) e v.whole) (subst (λ f. row_size * length f ≤ length rows) e v.room));
  }
    where
      v : Put (rows_by r bytes rows).count (row_frames r bytes rows) (rows_to r bytes rows)
      v = unfold rows_by row_frames rows_to in put-by (rows_order r rows)
