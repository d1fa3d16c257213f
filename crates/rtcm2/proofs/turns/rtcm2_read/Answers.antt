-- `rtcm2_read` meets its contract: no state held, the reader's refusal, or the rows and the state that is left. Assumes nothing.
use mathlib.Core.Path.{◌≡◌, refl, sym, ap, ◌∙◌}
use mathlib.Core.Bool.{true}
use mathlib.Core.List.{List}
use Prim.Native.Nat.{ℕ}
use Rattle.answer.specs.Order.{refuses}
use Rattle.reader.specs.Rows.{rows_by, rows_to}
use Rattle.reader.specs.declared.rows.RowsRead.{RowsRead}
use Rattle.rtcm2_state.specs.State.{holds_state, state_in, state_put}
use Rattle.rtcm2.specs.Answer.{left}
use Rattle.rtcm2.specs.Line.{rows_in}
use Rattle.rtcm2.proofs.LineLaws.{number-refused, number-answered, left_alone, left-put, read_none, read-refused, read_done, unread-alone}
use Rattle.rtcm2.proofs.turns.rtcm2_read.Goals as goal

-- where it is refused, the numbers are as they were
module _ (state bytes rows : List ℕ) {n : ℕ} (e : rows_in state bytes rows ≡ refuses n) (used passed count : ℕ) where
  numbers-alone : (used ≡ left (rows_in state bytes rows) (λ (x : RowsRead). x.used) used)
      × ((passed ≡ left (rows_in state bytes rows) (λ (x : RowsRead). x.passed) passed)
      × (count ≡ left (rows_in state bytes rows) (λ (x : RowsRead). x.count) count))
  numbers-alone = (
    left_alone (λ (x : RowsRead). x.used) used e,
    (left_alone (λ (x : RowsRead). x.passed) passed e, left_alone (λ (x : RowsRead). x.count) count e),
  )

-- what goes into the two places of bytes
abbrev state_of : List ℕ → RowsRead → List ℕ
state_of state x = state_put x.reader state

abbrev rows_of : List ℕ → List ℕ → List ℕ → RowsRead → List ℕ
rows_of state bytes rows x = rows_to (state_in state) bytes rows

pub returns-then-not-holds_state : goal.returns-then-not-holds_state
unfolding rows_in
returns-then-not-holds_state c =
    let a = c.args in
    let state = a.state.now in
    let bytes = a.bytes.now in
    let rows = a.rows.now in
    let e = read_none (λ (x : RowsRead). x.answer) (λ r. rows_by r bytes rows) state (sym c.holds_state.ensures ∙ c.if-not-holds_state.true) in
    let numbers = numbers-alone state bytes rows e a.used.now a.passed.now a.count.now in
    record {
      value = number-refused e;
      state_after = left_alone (state_of state) state e;
      rows_after = left_alone (rows_of state bytes rows) rows e;
      used_after = numbers.0;
      passed_after = numbers.1.0;
      count_after = numbers.1.1;
    }

pub returns-in-Refused : goal.returns-in-Refused
unfolding rows_in
returns-in-Refused c =
    let held : holds_state c.args.state.now ≡ true = sym c.holds_state.ensures ∙ c.if-not-holds_state.false in
    let called : c.read_rows-read.result
    ≡ rows_by (state_in c.args.state.now) c.args.bytes.now c.args.rows.now = let a = c.args in
    c.read_rows-read.ensures.value ∙ ap (λ r. rows_by r a.bytes.now a.rows.now) c.state_in.ensures in
    let put : c.read_rows-read.new.rows
    ≡ rows_to (state_in c.args.state.now) c.args.bytes.now c.args.rows.now = let a = c.args in
    c.read_rows-read.ensures.rows_after ∙ ap (λ r. rows_to r a.bytes.now a.rows.now) c.state_in.ensures in
    let a = c.args in
    let state = a.state.now in
    let bytes = a.bytes.now in
    let rows = a.rows.now in
    let told = c.in-Refused.is in
    let e = read-refused (λ (x : RowsRead). x.answer) (λ r. rows_by r bytes rows) state held called told in
    let same = put ∙ unread-alone (state_in state) bytes rows (ap (λ (x : RowsRead). x.answer) (sym called) ∙ told) in
    let numbers = numbers-alone state bytes rows e a.used.now a.passed.now a.count.now in
    record {
      value = number-refused e;
      state_after = left_alone (state_of state) state e;
      rows_after = same ∙ left_alone (rows_of state bytes rows) rows e;
      used_after = numbers.0;
      passed_after = numbers.1.0;
      count_after = numbers.1.1;
    }

pub returns : goal.returns
unfolding rows_in
returns c =
    let held : holds_state c.args.state.now ≡ true = sym c.holds_state.ensures ∙ c.if-not-holds_state.false in
    let called : c.read_rows-read.result
    ≡ rows_by (state_in c.args.state.now) c.args.bytes.now c.args.rows.now = let a = c.args in
    c.read_rows-read.ensures.value ∙ ap (λ r. rows_by r a.bytes.now a.rows.now) c.state_in.ensures in
    let put : c.read_rows-read.new.rows
    ≡ rows_to (state_in c.args.state.now) c.args.bytes.now c.args.rows.now = let a = c.args in
    c.read_rows-read.ensures.rows_after ∙ ap (λ r. rows_to r a.bytes.now a.rows.now) c.state_in.ensures in
    let a = c.args in
    let state = a.state.now in
    let bytes = a.bytes.now in
    let rows = a.rows.now in
    let e = read_done (λ (x : RowsRead). x.answer) (λ r. rows_by r bytes rows) state held called c.in_default.is in
    record { value = number-answered e; state_after = left-put (state_of state) state e c.put_state.ensures.bytes_after; rows_after = left-put (rows_of state bytes rows) rows e put; used_after = left-put (λ (x : RowsRead). x.used) a.used.now e refl; passed_after = left-put (λ (x : RowsRead). x.passed) a.passed.now e refl; count_after = left-put (λ (x : RowsRead). x.count) a.count.now e refl }
