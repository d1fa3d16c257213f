-- What the calls on reports of a season put is read back from the bytes and is never refused with 5; a row that is put says the row that was read.
-- Assumes nothing.
use mathlib.Core.Path.{◌≡◌, refl, sym, ap, subst, ◌∙◌}
use mathlib.Core.Bool.{Bool, true, false, true≢false, cond, not}
use mathlib.Core.List.{List, ◌++◌}
use Prim.Native.Nat.{ℕ, ◌-◌, ◌≤◌, ◌<◌}
use lib.Dec.{leb}
use lib.ListN.{length, drop, get_or, replicate, get_or-append}
use borrow.Author.Tests.{le-ltb, leb-false}
use Rattle.answer.specs.Order.{Says, refuses, answers, Check, in_order, NoneApplies}
use Rattle.answer.proofs.OrderLaws.{order-told, refuses-apart}
use Rattle.record_fields.specs.Coding.{Each}
use Rattle.season_reports.specs.Rows.{blank_row}
use Rattle.season_reports.specs.Gathering.{gathered}
use Rattle.season_reports.specs.Reports.{most_rows, rows_in, report_with, report_out, journal_rows}
use Rattle.season_reports.specs.Tables.{SoundRow}
use Rattle.season_reports.specs.declared.Row.{Row}
use Rattle.season_reports.specs.declared.Report.{Report}
use Rattle.season_reports.specs.declared.Added.{Added}
use Rattle.season_reports.specs.declared.JournalReport.{JournalReport}
use Rattle.season_reports.proofs.PlaceLaws.{each_append, each_at}
use Rattle.season_reports.proofs.TableLaws.{rows_back, SoundRows}
use Rattle.rtcm2_rows.specs.Rows.{row_size, entry_of, entries_from}
use Rattle.rtcm2_season.specs.Rows.{report_row}
use Rattle.rtcm2_season.specs.Reports.{report_size, used_in, holds_report, report_of, report_in, report_put}
use Rattle.rtcm2_season.proofs.ReportLaws.{held-long, read_held}
use Rattle.rtcm2_season.proofs.RowLaws.{bytes_back}
use Rattle.rtcm2_season.proofs.Back.{put-held, put-read}
use Rattle.rtcm2.specs.Rows.{row_held}
use Rattle.rtcm2.specs.Season.{report_held, journal_said, add_said, row_said, season_journal_order, season_add_order, season_read_order}
use Rattle.rtcm2.proofs.SeasonOrders.{journal_sum, add_sum, row_found, journal-order, add-order, row-said}
use Rattle.rtcm2_promises.specs.SeasonBack.{HoldsRight}
use Rattle.rtcm2_promises.proofs.SeasonEntries.{journal-sound}
use Rattle.rtcm2_promises.proofs.SeasonSound.{rows-typed, report-sound, gathered-sound, report-right, row_fits, all_fit}

-- ---- a report that is put comes back

module _ (rows : List Row) (bs : List ℕ) (s : SoundRows rows) (room : report_size ≤ length bs) where
  pub held_back : report_held (report_put (report_with rows) bs) ≡ answers (report_with rows)
  held_back =
      ap (λ b. cond b (answers (report_in (report_put (report_with rows) bs))) (refuses 5)) (put-held rows bs s.few room (all_fit rows s.each))
      ∙ ap answers (put-read rows bs s.few room (all_fit rows s.each))

  pub put_right : HoldsRight (report_put (report_with rows) bs) (report_with rows)
  put_right = record { held = held_back; right = report-right rows s }

-- ---- one call

module _ (bs : List ℕ) (held : not (holds_report bs) ≡ false) where
  is_held : holds_report bs ≡ true
  is_held = go (holds_report bs) held
    where
      go : (b : Bool) → not b ≡ false → b ≡ true
      go true e = refl
      go false e = absurd (true≢false e)

  has_room : report_size ≤ length bs
  has_room = held-long bs is_held

  sound-in : report_out (report_in bs) ≡ false → Each SoundRow (rows_in (report_in bs))
  sound-in e = report-sound (report_in bs) (rows-typed bs) e

pub same : {A : Type 0} {a b : A} → answers a ≡ answers b → a ≡ b
same q = cc

-- what an order answered: no check applied, and the answer is the one that was ready
told : {A : Type 0} (cs : List Check) (ready value : A) (said : Says A) → said ≡ in_order cs refuses (answers ready) → said ≡ answers value
    → NoneApplies cs × (answers ready ≡ answers value)
told cs ready value said q e = order-told refuses (answers ready) (answers value) (λ n. refuses-apart n value) cs (sym q ∙ e)

pub journal-right : (bs bytes : List ℕ) (j : JournalReport) → journal_said bs bytes ≡ answers j → HoldsRight (report_put j.report bs) j.report
unfolding journal_sum
journal-right bs bytes j e =
    let t = told (season_journal_order bs bytes) (journal_sum bs bytes) j (journal_said bs bytes) (journal-order bs bytes) e in
    let rows = rows_in (report_in bs) ++ journal_rows bytes in
    let each = each_append SoundRow (rows_in (report_in bs)) (journal_rows bytes) (sound-in bs t.0.0 t.0.1.0) (journal-sound bytes) in
    let s = gathered-sound rows each t.0.1.1.0 t.0.1.1.1.0 in
    subst (λ (x : JournalReport). HoldsRight (report_put x.report bs) x.report) (same t.1) (put_right (gathered rows) bs s (has_room bs t.0.0))

pub add_right : (first second : List ℕ) (a : Added) → add_said first second ≡ answers a → HoldsRight (report_put a.report first) a.report
unfolding add_sum
add_right first second a e =
    let t = told (season_add_order first second) (add_sum first second) a (add_said first second) (add-order first second) e in
    let rows = rows_in (report_in first) ++ rows_in (report_in second) in
    let each = each_append SoundRow (rows_in (report_in first)) (rows_in (report_in second)) (sound-in first t.0.0 t.0.1.1.0)
    (sound-in second t.0.1.0 t.0.1.1.1.0) in
    let s = gathered-sound rows each t.0.1.1.1.1.0 t.0.1.1.1.1.1.0 in
    subst (λ (x : Added). HoldsRight (report_put x.report first) x.report) (same t.1) (put_right (gathered rows) first s (has_room first t.0.0))

-- ---- a row

-- row number `index` of a report of sound rows
row_of : (rows : List Row) (index : ℕ) → Each SoundRow rows → leb (report_with rows).used index ≡ false → SoundRow (get_or (report_with rows).rows index blank_row)
unfolding report_with
row_of rows index q h =
    let l : index < length rows = leb-false (length rows) index h in
    subst SoundRow (sym (get_or-append rows (replicate (most_rows - length rows) blank_row) blank_row index l)) (each_at SoundRow rows index blank_row q l)

row-sound : (index : ℕ) (r : Report) (rows : List Row) → r ≡ report_with rows → Each SoundRow (rows_in r) → leb r.used index ≡ false
    → SoundRow (get_or r.rows index blank_row)
row-sound index r rows e q h =
    subst (λ (x : Report). SoundRow (get_or x.rows index blank_row)) (sym e)
    (row_of rows index (subst (Each SoundRow) (ap rows_in e ∙ rows_back rows) q) (ap (λ (x : Report). leb x.used index) (sym e) ∙ h))

row-found : (bs : List ℕ) (index : ℕ) (r : Row) → row_said bs index ≡ answers r → SoundRow r
unfolding row_found report_of
row-found bs index r e =
    let t = told (season_read_order bs index) (row_found bs index) r (row_said bs index) (row-said bs index) e in
    subst SoundRow (same t.1)
    (row-sound index (report_in bs) (entries_from report_row (used_in bs) (drop 4 bs)) (read_held bs (is_held bs t.0.0)) (sound-in bs t.0.0 t.0.1.0)
    t.0.1.1.0)

pub row_back : (bs : List ℕ) (index : ℕ) (lent : List ℕ) → row_size report_row ≤ length lent → (r : Row) → row_said bs index ≡ answers r
    → entry_of report_row (row_held report_row (row_said bs index) lent) ≡ r
row_back bs index lent room r e =
    ap (λ s. entry_of report_row (row_held report_row s lent)) e
    ∙ rw (le-ltb (length lent) 29 room) (bytes_back r (row_fits r (row-found bs index r e)) (drop 29 lent))
