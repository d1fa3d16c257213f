-- Feeding and taking in turns: what `take_row` and a turn of the loop of `turns` leave. Assumes nothing.
use Rattle.std.proofs.Common.{◌≡◌, ℕ, suc, ◌+◌, ◌-◌, ◌*◌, ◌<◌, ◌≤◌, Bool, true, false, cond, ◌&&◌, List, [], ◌∷◌, length, take, drop, sym, refl, ap, ◌∙◌, subst, ap₂, add-zero, add_assoc, zero-add, arith, length-drop, take_all, drop-drop}
use mathlib.Core.Bool.{and-eq-true_iff}
use lib.Seq.{sets}
use Rattle.answer.specs.Order.{in_order}
use Rattle.bits.specs.Bits.{bits, number}
use Rattle.line.specs.Line.{is_data, six}
use Rattle.frame.specs.Header.{n_of}
use Rattle.frame.specs.declared.Frame.{Frame}
use Rattle.word.specs.Word.{data_of}
use Rattle.stream.specs.Standing.{n_at, size, Stands, stands, frame_at}
use Rattle.stream.proofs.Words.{n-lt}
use Rattle.stream.proofs.Stand.{stands-long, test-stands}
use Rattle.reader.specs.Hunting.{hunt_of}
use Rattle.reader.specs.Reading.{candidate_bits, past_of, frame_waits, moved_to, step_cells, step_to, Run, run_to, ran_by, fed_all_by, take_to, taken_by}
use Rattle.reader.specs.Rows.{row_size, row_of, rows_put, Turns, stopped, went_on, taken_or, in_turns, going, after_turns}
use Rattle.reader.specs.Rows.{some_rows}
use Rattle.reader.specs.declared.hunt.Halt.{Halt}
use Rattle.reader.specs.declared.Candidate.{Candidate}
use Rattle.reader.specs.declared.Reader.{Reader}
use Rattle.reader.specs.declared.Answer.{Answer}
use Rattle.reader.specs.declared.Answer.TheVariants.{Done, Refused}
use Rattle.reader.specs.declared.FedAll.{FedAll}
use Rattle.reader.specs.declared.Taken.{Taken}
use Rattle.reader.proofs.Accepted.{Accepted, length-step, accepted-step}
use Rattle.reader.proofs.Buffer.{length-held}
use Rattle.reader.proofs.Steps.{seen, n-is}
use Rattle.reader.proofs.Running.{run-waits, run_on, run-over}
use Rattle.reader.proofs.TakeChecks.{given, by-checks}

-- ---- A RUN OVER BYTES

-- it leaves a reader that is not past
pub record Sound (x : Run) : Type 0 where
  pub long : length x.cells ≡ 40
  pub fine : Accepted x.candidate

pub run_sound : (bs cells : List ℕ) → length cells ≡ 40 → (c : Candidate) → Accepted c → Sound (run_to cells c bs)
run_sound [] cells l c a = unfold run_to in record { long = l; fine = a }
run_sound (b ∷ bs) cells l c a =
    go c.waits refl (is_data b) refl
    (λ w. run_sound bs (step_cells cells c (number (six b))) (length-step cells l c a w (number (six b))) (step_to cells c (number (six b)))
    (accepted-step cells l c a w (number (six b))))
    (run_sound bs cells l c a)
  where
    go : (w : Bool) → c.waits ≡ w → (d : Bool) → is_data b ≡ d
        → (c.waits ≡ false → Sound (run_to (step_cells cells c (number (six b))) (step_to cells c (number (six b))) bs))
        → Sound (run_to cells c bs) → Sound (run_to cells c (b ∷ bs))
    go true ew d ed on over = subst Sound (sym (run-waits cells c (b ∷ bs) ew)) (record { long = l; fine = a })
    go false ew true ed on over = subst Sound (sym (run_on cells c b bs ew ed)) (record { long = (on ew).long; fine = (on ew).fine })
    go false ew false ed on over = subst Sound (sym (run-over cells c b bs ew ed)) (record { long = over.long; fine = over.fine })

-- bytes from place u on, as a slice lends them
pub run-tail : (cells : List ℕ) (c : Candidate) (bs : List ℕ) (u : ℕ) (x : Run) → x ≡ run_to cells c (take (length bs - u) (drop u bs))
    → x ≡ run_to cells c (drop u bs)
run-tail cells c bs u x e = e ∙ ap (run_to cells c) (take_all (length bs - u) (drop u bs) all)
  where
    all : length (drop u bs) ≤ length bs - u
    all = omega (arith, length-drop u bs)

-- ---- A FRAME THAT STANDS

module _ (cells : List ℕ) (len : length cells ≡ 40) (c : Candidate) (top : c.end ≤ 1280) (low : c.held ≤ c.end)
    (is : stands (candidate_bits cells c) ≡ true) where
  there : Stands (candidate_bits cells c)
  there = test-stands (candidate_bits cells c) is

  long-here : length (candidate_bits cells c) ≡ c.held
  unfolding candidate_bits
  long-here = length-held cells c.end c.held len top low

  pub header-come : 62 ≤ c.held
  header-come = omega (arith, stands-long (candidate_bits cells c) there, long-here)

  -- N, by the window of the second word
  pub count-here : (w n : ℕ) → w ≡ seen cells (c.end - c.held + 30) → n ≡ n_of (data_of (bits 32 w)) → n ≡ n_at (candidate_bits cells c)
  unfolding candidate_bits
  count-here w n ew en = n-is cells len c.end top c.held low w n header-come ew en

  module _ (n : ℕ) (en : n ≡ n_at (candidate_bits cells c)) where
    pub all_come : (n < 32) × (30 * (n + 2) ≤ c.held)
    all_come = (omega (arith, en, n-lt (candidate_bits cells c)), omega (arith, en, there.taken, long-here))

    -- the hunt goes on at the bit after its last word
    pub goes_on : (h : Halt) → h ≡ hunt_of cells c.end (c.held - 30 * (n + 2)) 0 false c.tally
        → (r : Candidate) → r ≡ moved_to c.at c.end c.held h → r ≡ take_to cells c false
    unfolding take_to
    goes_on h eh r er = er ∙ ap (moved_to c.at c.end c.held) (eh ∙ ap (λ m. hunt_of cells c.end (c.held - 30 * m) 0 false c.tally) words)
      where
        words : n + 2 ≡ size (candidate_bits cells c)
        words = omega (arith, en)

-- ---- ONE TURN

-- what feeding bytes is where a run comes to x
abbrev fed_as : Answer → Run → FedAll
fed_as a x = record { answer = a; used = x.used; passed = x.passed; reader = going x.cells x.candidate }

-- a frame that waits is refused with 2, and the run over no byte leaves the same reader
fed-run : (cells : List ℕ) (c : Candidate) (bs : List ℕ) → past_of c ≡ false
    → fed_all_by (going cells c) bs ≡ fed_as (cond c.waits (Refused 2) Done) (run_to cells c bs)
fed-run cells c bs p = go c.waits refl
  where
    by : (w : Bool) → c.waits ≡ w
        → fed_all_by (going cells c) bs
        ≡ cond w (record { answer = Refused 2; used = 0; passed = 0; reader = going cells c }) (ran_by (going cells c) (run_to cells c bs))
    by w e = unfold fed_all_by in
        ap₂ (λ p w. in_order ((p, 5) ∷ (false, 3) ∷ (w, 2) ∷ []) (λ n. record { answer = Refused n; used = 0; passed = 0; reader = going cells c })
        (ran_by (going cells c) (run_to cells c bs))) p e

    go : (w : Bool) → c.waits ≡ w → fed_all_by (going cells c) bs ≡ fed_as (cond w (Refused 2) Done) (run_to cells c bs)
    go true e = by true e ∙ ap (fed_as (Refused 2)) (sym (run-waits cells c bs e))
    go false e = by false e

module _ (left k : ℕ) (more : left ≡ suc k) (cells : List ℕ) (c : Candidate) (p : past_of c ≡ false) (bs : List ℕ) (x : Run) (is : x ≡ run_to cells c bs) where
  abbrev next : Reader
  next = going x.cells x.candidate

  turn : FedAll → Taken → Turns
  turn fed taken = taken_or taken.answer (went_on fed taken (in_turns k taken.reader (drop fed.used bs))) (stopped fed)

  a : Answer
  a = cond c.waits (Refused 2) Done

  by_turn : in_turns left (going cells c) bs ≡ turn (fed_as a x) (taken_by next)
  unfolding turn a in_turns
  by_turn =
      ap (λ n. in_turns n (going cells c) bs) more
      ∙ ap (λ fed. turn fed (taken_by fed.reader)) (fed-run cells c bs p ∙ ap (fed_as (cond c.waits (Refused 2) Done)) (sym is))

  module _ (fine : past_of x.candidate ≡ false) where
    -- none waits, or none stands
    pub turn-none : frame_waits next ≡ false
        → in_turns left (going cells c) bs ≡ record { reader = next; used = x.used; passed = x.passed; frames = [] }
    unfolding turn
    turn-none w = by_turn ∙ ap (turn (fed_as a x)) (by-checks next false false fine w)

    -- a frame is taken, and the turns go on
    pub turn_on : frame_waits next ≡ true → (c' : Candidate) → c' ≡ take_to x.cells x.candidate false
        → in_turns left (going cells c) bs ≡ record {
          reader = (in_turns k (going x.cells c') (drop x.used bs)).reader;
          used = x.used + (in_turns k (going x.cells c') (drop x.used bs)).used;
          passed = x.passed + (in_turns k (going x.cells c') (drop x.used bs)).passed;
          frames = (x.candidate.at, frame_at (candidate_bits x.cells x.candidate)) ∷ (in_turns k (going x.cells c') (drop x.used bs)).frames;
        }
    unfolding turn given
    turn_on w c' e =
        by_turn ∙ ap (turn (fed_as a x)) (by-checks next false true fine w)
        ∙ ap (λ d. went_on (fed_as a x) (given next) (in_turns k (going x.cells d) (drop x.used bs))) (sym e)

-- whether a frame waits, by the flag and by what stands
pub no_flag : (cells : List ℕ) (c : Candidate) → c.waits ≡ false → false ≡ frame_waits (going cells c)
unfolding frame_waits
no_flag cells c w = sym (ap (λ t. t && stands (candidate_bits cells c)) w)

pub flag-set : (cells : List ℕ) (c : Candidate) → c.waits ≡ true → stands (candidate_bits cells c) ≡ frame_waits (going cells c)
unfolding frame_waits
flag-set cells c w = sym (ap (λ t. t && stands (candidate_bits cells c)) w)

-- then one stands
pub waits-stands : (cells : List ℕ) (c : Candidate) → frame_waits (going cells c) ≡ true → stands (candidate_bits cells c) ≡ true
unfolding frame_waits
waits-stands cells c e = ((and-eq-true_iff c.waits (stands (candidate_bits cells c))).0 e).1

-- ---- THE LOOP

-- how far it has come: what is left of the turns, after the bytes used, those passed over and the rows put
pub record Far (whole : Turns) (rows₀ rows : List ℕ) (used passed count : ℕ) (rest : Turns) : Type 0 where
  pub ends : whole.reader ≡ rest.reader
  pub uses : whole.used ≡ used + rest.used
  pub passes : whole.passed ≡ passed + rest.passed
  pub counts : length whole.frames ≡ count + length rest.frames
  pub puts : rows_put 0 whole.frames rows₀ ≡ rows_put (row_size * count) rest.frames rows

pub far-start : (room left : ℕ) → left ≡ room → (r : Reader) (bs rows : List ℕ) → Far (in_turns room r bs) rows rows 0 0 0 (in_turns left r bs)
far-start room left e r bs rows =
    subst (λ n. Far (in_turns room r bs) rows rows 0 0 0 (in_turns n r bs)) (sym e) (record {
      ends = refl;
      uses = sym (zero-add x.used);
      passes = sym (zero-add x.passed);
      counts = sym (zero-add (length x.frames));
      puts = refl;
    })
  where
    x : Turns
    x = in_turns room r bs

module _ (whole : Turns) (rows₀ rows : List ℕ) (used passed count : ℕ) (rest : Turns) (far : Far whole rows₀ rows used passed count rest) where
  -- a row was put
  pub far-on : (next : Turns) (u p at : ℕ) (f : Frame) (rows' : List ℕ) → rows' ≡ sets rows (row_size * count) (row_of at f)
      → rest ≡ record { reader = next.reader; used = u + next.used; passed = p + next.passed; frames = (at, f) ∷ next.frames }
      → Far whole rows₀ rows' (used + u) (passed + p) (count + 1) next
  far-on next u p at f rows' o e = record {
    ends = far.ends ∙ ap (λ (x : Turns). x.reader) e;
    uses = far.uses ∙ ap (λ (x : Turns). used + x.used) e ∙ sym (add_assoc used u next.used);
    passes = far.passes ∙ ap (λ (x : Turns). passed + x.passed) e ∙ sym (add_assoc passed p next.passed);
    counts = omega (arith, far.counts ∙ ap (λ (x : Turns). count + length x.frames) e);
    puts = unfold rows_put in
        far.puts ∙ ap (λ (x : Turns). rows_put (row_size * count) x.frames rows) e
        ∙ ap₂ (λ j r. rows_put j next.frames r) further (sym o);
  }
    where
      further : row_size * count + row_size ≡ row_size * (count + 1)
      further = omega arith

  -- nothing is left
  pub far-end : (cells : List ℕ) (c : Candidate) (u p : ℕ) → rest ≡ record { reader = going cells c; used = u; passed = p; frames = [] }
      → (after_turns cells (record { candidate = c; used = used + u; passed = passed + p; count = count }) ≡ some_rows whole)
      × (rows ≡ rows_put 0 whole.frames rows₀)
  far-end cells c u p e = (
    (λ i. record { answer = Done; used = sym uses i; passed = sym passes i; count = sym counts i; reader = sym ends i }),
    sym (unfold rows_put in far.puts ∙ ap (λ (x : Turns). rows_put (row_size * count) x.frames rows) e),
  )
    where
      uses : whole.used ≡ used + u
      uses = far.uses ∙ ap (λ (x : Turns). used + x.used) e

      passes : whole.passed ≡ passed + p
      passes = far.passes ∙ ap (λ (x : Turns). passed + x.passed) e

      counts : length whole.frames ≡ count
      counts = far.counts ∙ ap (λ (x : Turns). count + length x.frames) e ∙ add-zero count

      ends : whole.reader ≡ going cells c
      ends = far.ends ∙ ap (λ (x : Turns). x.reader) e

-- there is no room for a row
pub far-full : (whole : Turns) (rows₀ rows : List ℕ) (used passed count left : ℕ) (cells : List ℕ) (c : Candidate) (bs : List ℕ) → left ≡ 0
    → Far whole rows₀ rows used passed count (in_turns left (going cells c) bs)
    → (after_turns cells (record { candidate = c; used = used; passed = passed; count = count }) ≡ some_rows whole) × (rows ≡ rows_put 0 whole.frames rows₀)
unfolding in_turns
far-full whole rows₀ rows used passed count left cells c bs e far =
    let x = far-end whole rows₀ rows used passed count (in_turns left (going cells c) bs) far cells c 0 0 (ap (λ k. in_turns k (going cells c) bs) e) in
    (ap₂ (λ u p. after_turns cells (record { candidate = c; used = u; passed = p; count = count })) (sym (add-zero used)) (sym (add-zero passed)) ∙ x.0, x.1)

-- the bytes left, counted from the start
pub far-drop : {whole : Turns} {rows₀ rows : List ℕ} {used passed count : ℕ} (k : ℕ) (r : Reader) (u v : ℕ) (bs : List ℕ)
    → Far whole rows₀ rows used passed count (in_turns k r (drop u (drop v bs))) → Far whole rows₀ rows used passed count (in_turns k r (drop (v + u) bs))
far-drop {whole} {rows₀} {rows} {used} {passed} {count} k r u v bs far =
    subst (λ rest. Far whole rows₀ rows used passed count (in_turns k r rest)) (drop-drop u v bs) far
