-- Reports: none of these calls leaves one that is refused with 5; a run meets no refusal exactly where all its rows have room, and its report is
-- then that of them all; split in two and added it is the same. Assumes nothing.
use mathlib.Core.Path.{◌≡◌, refl, sym, ap, ap₂, subst, ◌∙◌}
use mathlib.Core.Bool.{Bool, true, false, ◌||◌, true≢false}
use mathlib.Core.Logic.{◌⊎◌, inl, inr}
use mathlib.Core.List.{List, [], ◌∷◌, ◌++◌, map, append-nil, append_assoc}
use Prim.Native.Nat.{ℕ, ◌≤◌}
use native.Mathlib.Omega.{arith}
use lib.Dec.{ltb}
use lib.ListN.{length}
use borrow.Author.Tests.{le-ltb}
use Rattle.answer.specs.Order.{Check, in_order, NoneApplies, FirstIs}
use Rattle.answer.proofs.OrderLaws.{order-answers, order-refuses, order-map, order-told, first_or_none}
use Rattle.frame.specs.Widths.{any_of}
use Rattle.season_reports.specs.Rows.{wrong_sum, over_count}
use Rattle.season_reports.specs.Gathering.{new_after, first_seen, key_twice, keys_of, gathered}
use Rattle.season_reports.specs.Season.{entry_row}
use Rattle.season_reports.specs.Journals.{contents_of}
use Rattle.season_reports.specs.Reports.{most_rows, rows_in, report_with, report_out}
use Rattle.season_reports.specs.Reports.{add_order, refused_add, added_by, journal_rows, journal_order, journal_added}
use Rattle.season_reports.specs.Running.{go_on, after_journals, season_run, season_entries}
use Rattle.season_reports.specs.declared.Row.{Row}
use Rattle.season_reports.specs.declared.Report.{Report}
use Rattle.season_reports.specs.declared.Adding.{Adding}
use Rattle.season_reports.specs.declared.Adding.TheVariants.{Done, Refused}
use Rattle.season_reports.specs.declared.Added.{Added}
use Rattle.season_reports.specs.declared.JournalReport.{JournalReport}
use Rattle.season_reports.proofs.SeenLaws.{seen_apart}
use Rattle.season_reports.proofs.TotalLaws.{map-append, gathered-keys, split}
use Rattle.season_reports.proofs.TableLaws.{rows_back}
use Rattle.season_reports.proofs.RunLaws.{gathered-length}
use Rattle.promises.proofs.SeasonRuns.{none-gathered, gathered-front, RowsFit, room-order, order-room, room-front, room-behind}
use Rattle.promises.proofs.SeasonRuns.{none-wrong, entries-right, both_right, journal-right}

-- ---- never 5

-- what holds of every refusal and of the answer holds of an order
order-either : {A : Type 0} (P : A → Type 0) (cs : List Check) (refuse : ℕ → A) (answer : A) → ((n : ℕ) → P (refuse n)) → (NoneApplies cs → P answer)
    → P (in_order cs refuse answer)
order-either P cs refuse answer refused answered = go (first_or_none cs)
  where
    go : NoneApplies cs ⊎ ((n : ℕ) × FirstIs cs n) → P (in_order cs refuse answer)
    go (inl none) = subst P (sym (order-answers refuse answer cs none)) (answered none)
    go (inr (n, first)) = subst P (sym (order-refuses refuse answer cs n first)) (refused n)

all-false : (a b c : Bool) → a ≡ false → b ≡ false → c ≡ false → a || b || c ≡ false
all-false a b c e f g = rw (e, f, g)

last-false : (a b c : Bool) → a || b || c ≡ false → c ≡ false
last-false true b c e = absurd (true≢false e)
last-false false true c e = absurd (true≢false e)
last-false false false c e = e

rows_right : (a : Report) → report_out a ≡ false → any_of wrong_sum (rows_in a) ≡ false
unfolding report_out
rows_right a e = last-false (ltb most_rows a.used) (key_twice (keys_of (rows_in a))) (any_of wrong_sum (rows_in a)) e

pub gathered-in : (p : List Row) → length (first_seen (keys_of p)) ≤ most_rows → any_of wrong_sum p ≡ false → report_out (report_with (gathered p)) ≡ false
gathered-in p few right =
    unfold report_out report_with in
    all-false _ _ _
    (le-ltb most_rows (length (gathered p)) (omega (arith, gathered-length p, few)))
    (ap (λ l. key_twice (keys_of l)) (rows_back (gathered p)) ∙ ap key_twice (gathered-keys p) ∙ seen_apart (keys_of p))
    (ap (any_of wrong_sum) (rows_back (gathered p)) ∙ right-too)
  where
    right-too : any_of wrong_sum (gathered p) ≡ false
    right-too = unfold gathered in none-wrong p (first_seen (keys_of p)) right

pub none_in : report_out (report_with []) ≡ false
none_in = ap (λ l. report_out (report_with l)) none-gathered ∙ gathered-in [] (unfold new_after in omega arith) refl

pub added-in : (a b : Report) → report_out a ≡ false → report_out (added_by a b).report ≡ false
unfolding added_by
added-in a b e =
    order-either (λ (x : Added). report_out x.report ≡ false) (add_order a b) (refused_add a) _ (λ n. e)
    (λ none. gathered-in (rows_in a ++ rows_in b) (order-room (rows_in a ++ rows_in b) none.1.1).few
    (both_right (rows_in a) (rows_in b) (rows_right a e) (rows_right b none.1.0)))

abbrev refused_journal : Report → ℕ → JournalReport
refused_journal a n = record { answer = Refused n; report = a; used = 0 }

pub journal-in : (a : Report) (bs : List ℕ) → report_out a ≡ false → report_out (journal_added a bs).report ≡ false
unfolding journal_added
journal-in a bs e =
    order-either (λ (x : JournalReport). report_out x.report ≡ false) (journal_order a bs) (refused_journal a) _ (λ n. e)
    (λ none. gathered-in (rows_in a ++ journal_rows bs) (order-room (rows_in a ++ journal_rows bs) none.1).few
    (both_right (rows_in a) (journal_rows bs) (rows_right a e) (journal-right bs)))

run_in : (a : Report) (js : List (List ℕ)) → report_out a ≡ false → report_out (after_journals a js).report ≡ false
unfolding after_journals
run_in a [] e = e
run_in a (j ∷ js) e = go (journal_added a j).answer (run_in (journal_added a j).report js (journal-in a j e))
  where
    go : (x : Adding) → report_out (after_journals (journal_added a j).report js).report ≡ false
        → report_out (go_on x (journal_added a j).report (after_journals (journal_added a j).report js)).report ≡ false
    go Done h = h
    go (Refused n) h = journal-in a j e

pub season-in : (js : List (List ℕ)) → report_out (season_run js).report ≡ false
season-in js = run_in (report_with []) js none_in

-- ---- runs

abbrev pub done_with : List Row → Added
done_with rows = record { answer = Done; report = report_with rows }

abbrev pub rows_read : List (List ℕ) → List Row
rows_read js = map entry_row (season_entries js)

rows-cons : (j : List ℕ) (js : List (List ℕ)) → rows_read (j ∷ js) ≡ journal_rows j ++ rows_read js
unfolding journal_rows
rows-cons j js = map-append entry_row (contents_of j).entries (season_entries js)

rows_both : (js ks : List (List ℕ)) → rows_read (js ++ ks) ≡ rows_read js ++ rows_read ks
rows_both [] ks = refl
rows_both (j ∷ js) ks =
    rows-cons j (js ++ ks) ∙ ap (λ l. journal_rows j ++ l) (rows_both js ks) ∙ sym (append_assoc (journal_rows j) (rows_read js) (rows_read ks))
    ∙ ap (λ l. l ++ rows_read ks) (sym (rows-cons j js))

read_right : (js : List (List ℕ)) → any_of wrong_sum (rows_read js) ≡ false
read_right js = entries-right (season_entries js)

-- the checks of a sum, by its gathered rows
abbrev Clear : List Row → Type 0
Clear g = (ltb most_rows (length g) ≡ false) × ((any_of over_count g ≡ false) × Unit {0})

module _ (p : List Row) (j : List ℕ) where
  same : gathered (rows_in (report_with (gathered p)) ++ journal_rows j) ≡ gathered (p ++ journal_rows j)
  same = ap (λ l. gathered (l ++ journal_rows j)) (rows_back (gathered p)) ∙ gathered-front p (journal_rows j)

  abbrev after : JournalReport
  after = journal_added (report_with (gathered p)) j

  journal-done : any_of wrong_sum p ≡ false → RowsFit p → RowsFit (p ++ journal_rows j)
      → after ≡ record { answer = Done; report = report_with (gathered (p ++ journal_rows j)); used = (contents_of j).used }
  unfolding journal_added
  journal-done right room more =
      order-answers (refused_journal (report_with (gathered p))) _ (journal_order (report_with (gathered p)) j)
      (gathered-in p room.few right, subst Clear (sym same) (room-order (p ++ journal_rows j) more))
      ∙ ap (λ rows. record { answer = Done; report = report_with rows; used = (contents_of j).used }) same

  journal-told : after.answer ≡ Done → RowsFit (p ++ journal_rows j)
  unfolding journal_added
  journal-told e =
      order-room (p ++ journal_rows j) (subst Clear same (order-told Refused Done Done apart (journal_order (report_with (gathered p)) j)
      (sym (order-map (λ (x : JournalReport). x.answer) (journal_order (report_with (gathered p)) j) (refused_journal (report_with (gathered p)))
      (record { answer = Done; report = report_with (gathered (rows_in (report_with (gathered p)) ++ journal_rows j)); used = (contents_of j).used })) ∙ e)).0.1)
    where
      apart : (n : ℕ) → ◌≡◌ {A = Adding} (Refused n) Done → ⊥
      apart n z = let w : ◌≡◌ {A = ℕ} 0 1 = cc in omega arith

assoc-read : (p : List Row) (j : List ℕ) (js : List (List ℕ)) → (p ++ journal_rows j) ++ rows_read js ≡ p ++ rows_read (j ∷ js)
assoc-read p j js = append_assoc p (journal_rows j) (rows_read js) ∙ ap (λ l. p ++ l) (sym (rows-cons j js))

run-told : (p : List Row) (js : List (List ℕ)) → any_of wrong_sum p ≡ false → RowsFit p → (after_journals (report_with (gathered p)) js).answer ≡ Done
    → RowsFit (p ++ rows_read js)
unfolding after_journals
run-told p [] right room e = subst RowsFit (sym (append-nil p)) (room)
run-told p (j ∷ js) right room e = go (after p j).answer refl e (run-told (p ++ journal_rows j) js (both_right p (journal_rows j) right (journal-right j)))
  where
    go : (x : Adding) → (after p j).answer ≡ x → (go_on x (after p j).report (after_journals (after p j).report js)).answer ≡ Done
        → (RowsFit (p ++ journal_rows j) → (after_journals (report_with (gathered (p ++ journal_rows j))) js).answer ≡ Done
        → RowsFit ((p ++ journal_rows j) ++ rows_read js))
        → RowsFit (p ++ rows_read (j ∷ js))
    go (Refused n) q d again = let z : ◌≡◌ {A = Adding} (Refused n) Done = d in let w : ◌≡◌ {A = ℕ} 0 1 = cc in absurd (omega arith)
    go Done q d again =
        let more = journal-told p j q in
        subst RowsFit (assoc-read p j js)
        (again more (sym (ap (λ (x : JournalReport). (after_journals x.report js).answer) (journal-done p j right room more)) ∙ d))

run-done : (p : List Row) (js : List (List ℕ)) → any_of wrong_sum p ≡ false → RowsFit (p ++ rows_read js)
    → after_journals (report_with (gathered p)) js ≡ done_with (gathered (p ++ rows_read js))
unfolding after_journals
run-done p [] right room = ap (λ l. done_with (gathered l)) (sym (append-nil p))
run-done p (j ∷ js) right room =
    let whole = subst RowsFit (sym (assoc-read p j js)) room in
    let more = room-front (p ++ journal_rows j) (rows_read js) whole in
    ap (λ (x : JournalReport). go_on x.answer x.report (after_journals x.report js)) (journal-done p j right (room-front p (journal_rows j) more) more)
    ∙ run-done (p ++ journal_rows j) js (both_right p (journal_rows j) right (journal-right j)) whole
    ∙ ap (λ l. done_with (gathered l)) (assoc-read p j js)

started : (js : List (List ℕ)) → season_run js ≡ after_journals (report_with (gathered [])) js
started js = ap (λ l. after_journals (report_with l) js) none-gathered

no_room : RowsFit []
no_room = order-room [] (unfold gathered new_after in (refl, (refl, tt)))

pub season-told : (js : List (List ℕ)) → (season_run js).answer ≡ Done → RowsFit (rows_read js)
season-told js e = run-told [] js refl no_room (sym (ap (λ (x : Added). x.answer) (started js)) ∙ e)

pub season-done : (js : List (List ℕ)) → RowsFit (rows_read js) → season_run js ≡ done_with (gathered (rows_read js))
season-done js room = started js ∙ run-done [] js refl room

-- ---- split in two

added-done : (p q : List Row) → any_of wrong_sum p ≡ false → any_of wrong_sum q ≡ false → RowsFit (p ++ q)
    → added_by (report_with (gathered p)) (report_with (gathered q)) ≡ done_with (gathered (p ++ q))
unfolding added_by
added-done p q e f room =
    order-answers (refused_add (report_with (gathered p))) _ (add_order (report_with (gathered p)) (report_with (gathered q))) (
      gathered-in p (room-front p q room).few e,
      (gathered-in q (room-behind p q room).few f, subst Clear (sym both) (room-order (p ++ q) room)),
    )
    ∙ ap done_with both
  where
    both : gathered (rows_in (report_with (gathered p)) ++ rows_in (report_with (gathered q))) ≡ gathered (p ++ q)
    both = ap₂ (λ l m. gathered (l ++ m)) (rows_back (gathered p)) (rows_back (gathered q)) ∙ split p q

module _ (js ks : List (List ℕ)) (e : (season_run (js ++ ks)).answer ≡ Done) where
  whole_room : RowsFit (rows_read js ++ rows_read ks)
  whole_room = subst RowsFit (rows_both js ks) (season-told (js ++ ks) e)

  first_run : season_run js ≡ done_with (gathered (rows_read js))
  first_run = season-done js (room-front (rows_read js) (rows_read ks) whole_room)

  second_run : season_run ks ≡ done_with (gathered (rows_read ks))
  second_run = season-done ks (room-behind (rows_read js) (rows_read ks) whole_room)

  pub first_done : (season_run js).answer ≡ Done
  first_done = ap (λ (x : Added). x.answer) first_run

  pub second-done : (season_run ks).answer ≡ Done
  second-done = ap (λ (x : Added). x.answer) second_run

  pub sum_done : added_by (season_run js).report (season_run ks).report ≡ season_run (js ++ ks)
  sum_done =
      ap₂ (λ (x y : Added). added_by x.report y.report) first_run second_run
      ∙ added-done (rows_read js) (rows_read ks) (read_right js) (read_right ks) whole_room
      ∙ ap (λ l. done_with (gathered l)) (sym (rows_both js ks))
      ∙ sym (season-done (js ++ ks) (season-told (js ++ ks) e))
