-- The checks of `read_rows`: 5, 3, 13, and whether a reader is stuck. Assumes nothing.
use Rattle.std.proofs.Common.{◌≡◌, ℕ, ◌<◌, ◌≤◌, Bool, true, false, not, ◌&&◌, ltb, List, [], ◌∷◌, length, sym, refl, ap, ◌∙◌, ap₂, le-ltb, lt-ltb}
use Rattle.answer.specs.Order.{in_order}
use Rattle.stream.specs.Standing.{stands}
use Rattle.reader.specs.Reading.{candidate_bits, past, frame_waits}
use Rattle.reader.specs.Rows.{row_size, rows_put, stuck, going, after_turns, rows_turns}
use Rattle.reader.specs.Rows.{no_rows, some_rows, rows_by, rows_to}
use Rattle.reader.specs.declared.Candidate.{Candidate}
use Rattle.reader.specs.declared.Reader.{Reader}
use Rattle.reader.specs.declared.Answer.TheVariants.{Done}
use Rattle.reader.specs.declared.rows.RowsRead.{RowsRead}
use Rattle.reader.specs.declared.rows.TurnsMade.{TurnsMade}
use Rattle.reader.proofs.Turning.{flag-set}

-- ---- whether a reader is stuck

pub not_stuck : (cells : List ℕ) (c : Candidate) → c.waits ≡ false → false ≡ stuck (going cells c)
unfolding stuck
not_stuck cells c w = sym (ap (λ t. t && not (stands (candidate_bits cells c))) w)

pub stuck-by : (cells : List ℕ) (c : Candidate) → c.waits ≡ true → (s : Bool) → s ≡ frame_waits (going cells c) → not s ≡ stuck (going cells c)
unfolding stuck
stuck-by cells c w s e = ap not (e ∙ sym (flag-set cells c w)) ∙ sym (ap (λ t. t && not (stands (candidate_bits cells c))) w)

-- the input's end has no part in it
pub stuck-same : (r : Reader) → stuck (going r.cells r.candidate) ≡ stuck r
unfolding stuck
stuck-same r = refl

-- ---- READ ROWS: 5, 3, 13

module _ (r : Reader) (bs rows : List ℕ) where
  abbrev done : RowsRead
  done = some_rows (rows_turns r bs rows)

  abbrev put : List ℕ
  put = rows_put 0 (rows_turns r bs rows).frames rows

  -- by the four checks
  ordered : {A : Type 0} → (ℕ → A) → A → Bool → Bool → Bool → Bool → A
  ordered refuse answer p s e l = in_order ((p, 5) ∷ (s, 5) ∷ (e, 3) ∷ (l, 13) ∷ []) refuse answer

  module _ (p s e l : Bool) (ep : past r ≡ p) (es : stuck r ≡ s) (ee : r.ended ≡ e) (el : ltb (length rows) row_size ≡ l) where
    by_order : {A : Type 0} (refuse : ℕ → A) (answer : A)
        → ordered refuse answer (past r) (stuck r) r.ended (ltb (length rows) row_size) ≡ ordered refuse answer p s e l
    by_order refuse answer =
        ap₂ (λ x y. ordered refuse answer x y r.ended (ltb (length rows) row_size)) ep es ∙ ap₂ (ordered refuse answer p s) ee el

    rows-by : rows_by r bs rows ≡ ordered (no_rows r) done p s e l
    unfolding rows_by ordered
    rows-by = by_order (no_rows r) done

    rows-to : rows_to r bs rows ≡ ordered (λ n. rows) put p s e l
    unfolding rows_to ordered
    rows-to = by_order (λ n. rows) put

  pub rows-past : past r ≡ true → (x : RowsRead) → x ≡ no_rows r 5 → (x ≡ rows_by r bs rows) × (rows ≡ rows_to r bs rows)
  unfolding ordered
  rows-past p x e = (e ∙ sym (rows-by true _ _ _ p refl refl refl), sym (rows-to true _ _ _ p refl refl refl))

  module _ (p : past r ≡ false) where
    pub rows-stuck : stuck r ≡ true → (x : RowsRead) → x ≡ no_rows r 5 → (x ≡ rows_by r bs rows) × (rows ≡ rows_to r bs rows)
    unfolding ordered
    rows-stuck s x e = (e ∙ sym (rows-by false true _ _ p s refl refl), sym (rows-to false true _ _ p s refl refl))

    module _ (s : stuck r ≡ false) where
      pub rows-ended : r.ended ≡ true → (x : RowsRead) → x ≡ no_rows r 3 → (x ≡ rows_by r bs rows) × (rows ≡ rows_to r bs rows)
      unfolding ordered
      rows-ended n x e = (e ∙ sym (rows-by false false true _ p s n refl), sym (rows-to false false true _ p s n refl))

      module _ (n : r.ended ≡ false) where
        pub rows_short : length rows < row_size → (x : RowsRead) → x ≡ no_rows r 13 → (x ≡ rows_by r bs rows) × (rows ≡ rows_to r bs rows)
        unfolding ordered
        rows_short h x e =
            let l = lt-ltb (length rows) row_size h in
            (e ∙ sym (rows-by false false false true p s n l), sym (rows-to false false false true p s n l))

        pub rows-done : row_size ≤ length rows → (cells : List ℕ) (t : TurnsMade)
            → after_turns cells t ≡ some_rows (rows_turns (going r.cells r.candidate) bs rows)
            → (rows' : List ℕ) → rows' ≡ rows_put 0 (rows_turns (going r.cells r.candidate) bs rows).frames rows
            → (record {
              answer = Done;
              used = t.used;
              passed = t.passed;
              count = t.count;
              reader = record { cells = cells; candidate = t.candidate; ended = r.ended };
            } ≡ rows_by r bs rows) × (rows' ≡ rows_to r bs rows)
        unfolding ordered
        rows-done h cells t e rows' o =
            let l = le-ltb (length rows) row_size h in (
              ap (ended-as t cells) n ∙ e ∙ ap (λ (x : Reader). some_rows (rows_turns x bs rows)) (sym same) ∙ sym (rows-by false false false false p s n l),
              o ∙ ap (λ (x : Reader). rows_put 0 (rows_turns x bs rows).frames rows) (sym same) ∙ sym (rows-to false false false false p s n l),
            )
          where
            ended-as : TurnsMade → List ℕ → Bool → RowsRead
            ended-as t cells b = record {
              answer = Done;
              used = t.used;
              passed = t.passed;
              count = t.count;
              reader = record { cells = cells; candidate = t.candidate; ended = b };
            }

            same : r ≡ going r.cells r.candidate
            same = λ i. record { cells = r.cells; candidate = r.candidate; ended = n i }
