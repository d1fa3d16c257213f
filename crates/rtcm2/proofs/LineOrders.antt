-- The refusals of the calls that read the line: 5 for bytes that hold no state, then those of the reader's call. Assumes nothing.
use mathlib.Core.Path.{◌≡◌, refl, ap, ◌∙◌}
use mathlib.Core.Bool.{Bool, true, false, cond, not}
use mathlib.Core.List.{List, []}
use Prim.Native.Nat.{ℕ}
use Rattle.answer.specs.Order.{Says, refuses, answers, Check, in_order}
use Rattle.answer.proofs.OrderLaws.{says-order}
use Rattle.reader.specs.Reading.{started, busy, ran_by, run_to, fed_all_by, end_to, ended_by}
use Rattle.reader.specs.Rows.{rows_order, rows_turns, no_rows, some_rows, rows_by}
use Rattle.reader.specs.declared.Reader.{Reader}
use Rattle.reader.specs.declared.Answer.{Answer}
use Rattle.reader.specs.declared.Answer.TheVariants.{Done, Refused}
use Rattle.reader.specs.declared.Next.{Next}
use Rattle.reader.specs.declared.FedAll.{FedAll}
use Rattle.reader.specs.declared.rows.RowsRead.{RowsRead}
use Rattle.rtcm2_state.specs.State.{holds_state, state_in}
use Rattle.rtcm2.specs.Answer.{and_then}
use Rattle.rtcm2.specs.Line.{done_by, read_by, started_in, counts_in, fed_all_in, rows_in, ended_in}
use Rattle.rtcm2.specs.Orders.{started_order, held_order}

-- a call of the reader in its order, on the bytes that hold the reader
module _ {A : Type 0} (answer : A → Answer) (call : Reader → A) (state : List ℕ) (checks : List Check) (refuse : ℕ → A) (next : A)
    (refusal : (n : ℕ) → answer (refuse n) ≡ Refused n) (ready : answer next ≡ Done) (is : call (state_in state) ≡ in_order checks refuse next) where
  pub held-order : read_by answer call state ≡ in_order (held_order state checks) refuses (answers next)
  held-order = go (holds_state state)
    where
      says : A → Says A
      says x = done_by (answer x) x

      go : (t : Bool) → and_then (cond t (answers (state_in state)) (refuses 5)) (λ r. says (call r))
          ≡ cond (not t) (refuses 5) (in_order checks refuses (answers next))
      go true =
          ap says is ∙ says-order says refuse (λ n. ap (λ a. done_by a (refuse n)) (refusal n)) next checks (ap (λ a. done_by a next) ready)
      go false = refl

-- START: 13
pub start-order : (state : List ℕ) → started_in state ≡ in_order (started_order state) refuses (answers started)
unfolding started_in
start-order state = refl

-- COUNTS: 5
pub counts-order : (state : List ℕ) → counts_in state ≡ in_order (held_order state []) refuses (answers (state_in state).candidate.tally)
unfolding counts_in
counts-order state = go (holds_state state)
  where
    go : (t : Bool) → and_then (cond t (answers (state_in state)) (refuses 5)) (λ r. answers r.candidate.tally)
        ≡ cond (not t) (refuses 5) (answers (state_in state).candidate.tally)
    go true = refl
    go false = refl

module _ (state : List ℕ) where
  abbrev R : Reader
  R = state_in state

  -- FEED ALL: 5, 3, 2
  pub feed-all-order : (bs : List ℕ) → fed_all_in state bs
      ≡ in_order (held_order state (busy (state_in state))) refuses
      (answers (ran_by (state_in state) (run_to (state_in state).cells (state_in state).candidate bs)))
  unfolding fed_all_in fed_all_by
  feed-all-order bs =
      held-order (λ (x : FedAll). x.answer) (λ r. fed_all_by r bs) state (busy R)
      (λ n. record { answer = Refused n; used = 0; passed = 0; reader = R }) (ran_by R (run_to R.cells R.candidate bs)) (λ n. refl) refl refl

  -- READ: 5, then 5, 3, 13
  pub read-order : (bytes rows : List ℕ) → rows_in state bytes rows
      ≡ in_order (held_order state (rows_order (state_in state) rows)) refuses (answers (some_rows (rows_turns (state_in state) bytes rows)))
  unfolding rows_in rows_by
  read-order bytes rows =
      held-order (λ (x : RowsRead). x.answer) (λ r. rows_by r bytes rows) state (rows_order R rows) (no_rows R) (some_rows (rows_turns R bytes rows))
      (λ n. refl) refl refl

  -- END: 5, 3, 2
  pub end-order : ended_in state
      ≡ in_order (held_order state (busy (state_in state))) refuses
      (answers (record {
        answer = Done;
        reader = record { cells = (state_in state).cells; candidate = end_to (state_in state).cells (state_in state).candidate; ended = true };
      }))
  unfolding ended_in ended_by
  end-order =
      held-order (λ (x : Next). x.answer) ended_by state (busy R) (λ n. record { answer = Refused n; reader = R })
      (record { answer = Done; reader = record { cells = R.cells; candidate = end_to R.cells R.candidate; ended = true } })
      (λ n. refl) refl refl
