-- Bytes fed one after the other: what the loop of `run` goes by. Assumes nothing.
use Rattle.std.proofs.Common.{◌≡◌, ℕ, suc, ◌+◌, ◌<◌, ◌≤◌, Bool, true, false, cond, List, [], ◌∷◌, length, get_or, drop, sym, refl, ap, ◌∙◌, ap₂, add-zero, add_assoc, zero-add, add-one, arith, drop_of_length-le, drop-cons}
use Rattle.bits.specs.Bits.{number}
use Rattle.line.specs.Line.{is_data, six}
use Rattle.reader.specs.Reading.{step_cells, step_to, Run, spent, run_to}
use Rattle.reader.specs.declared.Candidate.{Candidate}

-- nothing used
abbrev pub stopped : List ℕ → Candidate → Run
stopped cells c = record { cells = cells; candidate = c; used = 0; passed = 0 }

pub spent-none : (x : Run) → x ≡ spent 0 0 x
spent-none x = λ i. record { cells = x.cells; candidate = x.candidate; used = sym (zero-add x.used) i; passed = sym (zero-add x.passed) i }

spent-again : (u p v q : ℕ) (x : Run) → spent u p (spent v q x) ≡ spent (u + v) (p + q) x
spent-again u p v q x =
    λ i. record { cells = x.cells; candidate = x.candidate; used = sym (add_assoc u v x.used) i; passed = sym (add_assoc p q x.passed) i }

spent-stopped : (u p : ℕ) (cells : List ℕ) (c : Candidate) → spent u p (stopped cells c) ≡ record { cells = cells; candidate = c; used = u; passed = p }
spent-stopped u p cells c = λ i. record { cells = cells; candidate = c; used = add-zero u i; passed = add-zero p i }

-- ---- one byte

pub run-waits : (cells : List ℕ) (c : Candidate) (bs : List ℕ) → c.waits ≡ true → run_to cells c bs ≡ stopped cells c
unfolding run_to
run-waits cells c [] w = refl
run-waits cells c (b ∷ bs) w =
    ap (λ t. cond t (stopped cells c)
    (cond (is_data b) (spent 1 0 (run_to (step_cells cells c (number (six b))) (step_to cells c (number (six b))) bs)) (spent 1 1 (run_to cells c bs)))) w

module _ (cells : List ℕ) (c : Candidate) (b : ℕ) (bs : List ℕ) (w : c.waits ≡ false) where
  by_byte : run_to cells c (b ∷ bs)
      ≡ cond (is_data b) (spent 1 0 (run_to (step_cells cells c (number (six b))) (step_to cells c (number (six b))) bs)) (spent 1 1 (run_to cells c bs))
  unfolding run_to
  by_byte =
      ap (λ t. cond t (stopped cells c)
      (cond (is_data b) (spent 1 0 (run_to (step_cells cells c (number (six b))) (step_to cells c (number (six b))) bs)) (spent 1 1 (run_to cells c bs)))) w

  pub run_on : is_data b ≡ true → run_to cells c (b ∷ bs) ≡ spent 1 0 (run_to (step_cells cells c (number (six b))) (step_to cells c (number (six b))) bs)
  run_on d =
      by_byte ∙ ap (λ t. cond t (spent 1 0 (run_to (step_cells cells c (number (six b))) (step_to cells c (number (six b))) bs)) (spent 1 1 (run_to cells c bs))) d

  pub run-over : is_data b ≡ false → run_to cells c (b ∷ bs) ≡ spent 1 1 (run_to cells c bs)
  run-over d =
      by_byte ∙ ap (λ t. cond t (spent 1 0 (run_to (step_cells cells c (number (six b))) (step_to cells c (number (six b))) bs)) (spent 1 1 (run_to cells c bs))) d

-- ---- its counts

-- no more bytes are used than there are, nor passed over than used
pub run-counts : (bs cells : List ℕ) (c : Candidate) → ((run_to cells c bs).used ≤ length bs) × ((run_to cells c bs).passed ≤ (run_to cells c bs).used)
unfolding run_to
run-counts [] cells c = (omega arith, omega arith)
run-counts (b ∷ bs) cells c =
    go c.waits (is_data b) (run-counts bs (step_cells cells c (number (six b))) (step_to cells c (number (six b)))) (run-counts bs cells c)
  where
    on : Run
    on = run_to (step_cells cells c (number (six b))) (step_to cells c (number (six b))) bs

    next : Bool → Bool → Run
    next w d = cond w (stopped cells c) (cond d (spent 1 0 on) (spent 1 1 (run_to cells c bs)))

    go : (w d : Bool) → (on.used ≤ length bs) × (on.passed ≤ on.used)
        → ((run_to cells c bs).used ≤ length bs) × ((run_to cells c bs).passed ≤ (run_to cells c bs).used)
        → ((next w d).used ≤ suc (length bs)) × ((next w d).passed ≤ (next w d).used)
    go true d h k = (omega arith, omega arith)
    go false true h k = (omega (arith, h.0), omega (arith, h.1))
    go false false h k = (omega (arith, k.0), omega (arith, k.1))

-- ---- the loop: the run from the start is what was used, and the run from here

module _ (whole : Run) (bytes : List ℕ) (cells : List ℕ) (c : Candidate) (used passed : ℕ)
    (is : whole ≡ spent used passed (run_to cells c (drop used bytes))) where
  pub loop-waits : c.waits ≡ true → record { cells = cells; candidate = c; used = used; passed = passed } ≡ whole
  loop-waits w = sym (is ∙ ap (spent used passed) (run-waits cells c (drop used bytes) w) ∙ spent-stopped used passed cells c)

  pub loop-ends : length bytes ≤ used → record { cells = cells; candidate = c; used = used; passed = passed } ≡ whole
  unfolding run_to
  loop-ends h = sym (is ∙ ap (λ l. spent used passed (run_to cells c l)) (drop_of_length-le bytes {i = used} h) ∙ spent-stopped used passed cells c)

  module _ (w : c.waits ≡ false) (h : used < length bytes) where
    b : ℕ
    b = get_or bytes used 0

    first : drop used bytes ≡ b ∷ drop (used + 1) bytes
    unfolding b
    first = drop-cons bytes used 0 h ∙ ap (λ n. get_or bytes used 0 ∷ drop n bytes) (sym (add-one used))

    pub loop-on : is_data (get_or bytes used 0) ≡ true → (after : List ℕ) → after ≡ step_cells cells c (number (six (get_or bytes used 0)))
        → (next : Candidate) → next ≡ step_to cells c (number (six (get_or bytes used 0)))
        → whole ≡ spent (used + 1) passed (run_to after next (drop (used + 1) bytes))
    unfolding b
    loop-on d after ea next en =
        is ∙ ap (λ l. spent used passed (run_to cells c l)) first
        ∙ ap (spent used passed) (run_on cells c b (drop (used + 1) bytes) w d ∙ ap₂ (λ x y. spent 1 0 (run_to x y (drop (used + 1) bytes))) (sym ea) (sym en))
        ∙ spent-again used passed 1 0 (run_to after next (drop (used + 1) bytes))
        ∙ ap (λ p. spent (used + 1) p (run_to after next (drop (used + 1) bytes))) (add-zero passed)

    pub loop-over : is_data (get_or bytes used 0) ≡ false → whole ≡ spent (used + 1) (passed + 1) (run_to cells c (drop (used + 1) bytes))
    unfolding b
    loop-over d =
        is ∙ ap (λ l. spent used passed (run_to cells c l)) first
        ∙ ap (spent used passed) (run-over cells c b (drop (used + 1) bytes) w d)
        ∙ spent-again used passed 1 1 (run_to cells c (drop (used + 1) bytes))
