-- A table to which all rows were added one after the other says what is defined over all of them: their totals, or which refusal. Assumes nothing.
use mathlib.Core.Path.{◌≡◌, refl, sym, ap, ap₂, subst, ◌∙◌}
use mathlib.Core.Bool.{Bool, true, false, cond, ◌||◌, true≢false}
use mathlib.Core.List.{List, [], ◌∷◌, ◌++◌, append_assoc, append-nil}
use Prim.Native.Nat.{ℕ, zero, suc, ◌<◌}
use native.Mathlib.Omega.{arith}
use lib.Dec.{ltb}
use lib.ListN.{length, get_or, set, length-append, length-map}
use borrow.Author.Tests.{lt-ltb, le-ltb}
use Rattle.answer.specs.Order.{in_order}
use Rattle.frame.specs.Widths.{any_of}
use Rattle.frame.proofs.WidthLaws.{both_false}
use Rattle.record_fields.specs.Coding.{Each}
use Rattle.season_reports.specs.Rows.{same_key, blank_row, together, over_count}
use Rattle.season_reports.specs.Gathering.{new_after, first_seen, keys_of, total_of, gathered}
use Rattle.season_reports.specs.Reports.{most_rows, report_with, sum_order, refused_add}
use Rattle.season_reports.specs.Tables.{over_both, merged, with_row, with_rows, no_table, finished_by, SoundRow}
use Rattle.season_reports.specs.declared.Row.{Row}
use Rattle.season_reports.specs.declared.Report.{Report}
use Rattle.season_reports.specs.declared.Adding.TheVariants.{Done}
use Rattle.season_reports.specs.declared.Added.{Added}
use Rattle.season_reports.specs.declared.table.Table.{Table}
use Rattle.season_reports.proofs.RowLaws.{key-eq}
use Rattle.season_reports.proofs.RightLaws.{counts-fit}
use Rattle.season_reports.proofs.SeenLaws.{among, seen-seen, seen-new, seen-longer, seen-among}
use Rattle.season_reports.proofs.TotalLaws.{keys-append}
use Rattle.season_reports.proofs.TableLaws.{table_of, SoundRows, none_rows, Step, old, new, none, stepped}
use Rattle.season_reports.proofs.SoundLaws.{old-keys, old-sound, new-sound}
use Rattle.season_reports.proofs.RunLaws.{gathered-length, map_at, gathered-at, gathered-old, gathered-new, over-stays}

-- ---- on the way, after the rows p

pub record Running (p rows : List Row) (o f : Bool) : Type 0 where
  pub sound : SoundRows rows
  pub keys : f ≡ false → keys_of rows ≡ first_seen (keys_of p)
  pub totals : f ≡ false → o ≡ false → rows ≡ gathered p
  pub passed : o ≡ true → any_of over_count (gathered p) ≡ true
  pub filled : f ≡ true → most_rows < length (gathered p)

pub record RunsTo (p : List Row) (t : Table) : Type 0 where
  pub rows : List Row
  pub over : Bool
  pub full : Bool
  pub is : t ≡ table_of rows over full
  pub run : Running p rows over full

any-set : (xs : List Row) (i : ℕ) (x : Row) → i < length xs → over_count x ≡ true → any_of over_count (set xs i x) ≡ true
any-set [] i x h e = absurd (omega arith)
any-set (y ∷ xs) zero x h e = ap (λ b. b || any_of over_count xs) e
any-set (y ∷ xs) (suc i) x h e = ap (λ b. over_count y || b) (any-set xs i x (omega arith) e) ∙ last (over_count y)
  where
    last : (u : Bool) → u || true ≡ true
    last true = refl
    last false = refl

over-both : (a b : Row) → over_count (together a b) ≡ over_both a b
unfolding over_count together
over-both a b = refl

longer : (p : List Row) (r : Row) → most_rows < length (gathered p) → most_rows < length (gathered (p ++ (r ∷ [])))
longer p r h =
    omega (
      arith,
      gathered-length p,
      gathered-length (p ++ (r ∷ [])),
      ap (λ l. length (first_seen l)) (keys-append p (r ∷ [])),
      seen-longer (keys_of p) (r.key ∷ []),
    )

module _ (p rows : List Row) (o : Bool) (r : Row) (q : SoundRow r) (n : Running p rows o false) where
  -- the key is in the table exactly where it was read
  seen : among r.key (keys_of rows) ≡ among r.key (keys_of p)
  seen = ap (among r.key) (n.keys refl) ∙ seen-among r.key (keys_of p)

  module _ (i : ℕ) (h : i < length rows) (e : same_key r.key (get_or rows i blank_row).key ≡ true) (m : among r.key (keys_of rows) ≡ true) where
    own : r.key ≡ (get_or rows i blank_row).key
    own = key-eq r.key (get_or rows i blank_row).key e

    -- of rows that are the totals so far: what one row more makes of them
    one_more : o ≡ false → (rows ≡ gathered p) × (gathered (p ++ (r ∷ [])) ≡ set rows i (together (get_or rows i blank_row) r))
    one_more z = (is, gathered-old p r i inside at (sym seen ∙ m) ∙ ap₂ (λ l x. set l i (together x r)) (sym is) (sym total))
      where
        is : rows ≡ gathered p
        is = n.totals refl z

        inside : i < length (gathered p)
        inside = omega (arith, ap length is)

        total : get_or rows i blank_row ≡ total_of r.key p
        total =
            ap (λ l. get_or l i blank_row) is ∙ gathered-at p i inside
            ∙ ap (λ l. total_of (get_or l i blank_row).key p) (sym is) ∙ ap (λ k. total_of k p) (sym own)

        at : get_or (keys_of (gathered p)) i r.key ≡ r.key
        at = map_at (λ x. x.key) (gathered p) i blank_row r.key inside ∙ ap (λ l. (get_or l i blank_row).key) (sym is) ∙ sym own

    run-old : Running (p ++ (r ∷ [])) (set rows i (merged (get_or rows i blank_row) r)) (o || over_both (get_or rows i blank_row) r) false
    run-old = record {
      sound = old-sound rows i r n.sound q h e;
      keys = λ f. old-keys rows i r e ∙ n.keys refl ∙ sym (ap first_seen (keys-append p (r ∷ [])) ∙ seen-seen (keys_of p) r.key (sym seen ∙ m));
      totals = λ f g. joined (both_false o (over_both (get_or rows i blank_row) r) g);
      passed = λ g. by o refl g;
      filled = λ g. absurd (true≢false (sym g));
    }
      where
        joined : (o ≡ false) × (over_both (get_or rows i blank_row) r ≡ false) → set rows i (merged (get_or rows i blank_row) r) ≡ gathered (p ++ (r ∷ []))
        joined b =
            ap (λ t. set rows i (cond t (get_or rows i blank_row) (together (get_or rows i blank_row) r))) b.1 ∙ sym (one_more b.0).1

        by : (t : Bool) → o ≡ t → o || over_both (get_or rows i blank_row) r ≡ true → any_of over_count (gathered (p ++ (r ∷ []))) ≡ true
        by true z g = over-stays p r (n.passed z)
        by false z g =
            ap (any_of over_count) (one_more z).1
            ∙ any-set rows i (together (get_or rows i blank_row) r) h
            (over-both (get_or rows i blank_row) r ∙ sym (ap (λ u. u || over_both (get_or rows i blank_row) r) z) ∙ g)

  run-new : among r.key (keys_of rows) ≡ false → length rows < most_rows → Running (p ++ (r ∷ [])) (rows ++ (r ∷ [])) o false
  run-new e h = record {
    sound = new-sound rows r n.sound q h e;
    keys = λ f. keys-append rows (r ∷ []) ∙ ap (λ l. l ++ (r.key ∷ [])) (n.keys refl)
        ∙ sym (ap first_seen (keys-append p (r ∷ [])) ∙ seen-new (keys_of p) r.key (sym seen ∙ e));
    totals = λ f g. ap (λ l. l ++ (r ∷ [])) (n.totals refl g) ∙ sym (gathered-new p r (sym seen ∙ e));
    passed = λ g. over-stays p r (n.passed g);
    filled = λ g. absurd (true≢false (sym g));
  }

  run_none : among r.key (keys_of rows) ≡ false → length rows ≡ most_rows → Running (p ++ (r ∷ [])) rows o true
  run_none e h = record {
    sound = n.sound;
    keys = λ f. absurd (true≢false f);
    totals = λ f g. absurd (true≢false f);
    passed = λ g. over-stays p r (n.passed g);
    filled = λ g. omega (
      arith,
      gathered-length (p ++ (r ∷ [])),
      ap length (ap first_seen (keys-append p (r ∷ [])) ∙ seen-new (keys_of p) r.key (sym seen ∙ e)),
      length-append (first_seen (keys_of p)) (r.key ∷ []),
      ap length (n.keys refl),
      length-map rows (λ x. x.key),
    );
  }

  run_step : (t : Table) → Step rows o r t → RunsTo (p ++ (r ∷ [])) t
  run_step t (old i h e m) = record { rows = _; over = _; full = false; is = refl; run = run-old i h e m }
  run_step t (new e h) = record { rows = _; over = o; full = false; is = refl; run = run-new e h }
  run_step t (none e h) = record { rows = rows; over = o; full = true; is = refl; run = run_none e h }

run-full : (p rows : List Row) (o : Bool) (r : Row) → Running p rows o true → Running (p ++ (r ∷ [])) rows o true
run-full p rows o r n = record {
  sound = n.sound;
  keys = λ f. absurd (true≢false f);
  totals = λ f g. absurd (true≢false f);
  passed = λ g. over-stays p r (n.passed g);
  filled = λ g. longer p r (n.filled refl);
}

run_row : (p : List Row) (t : Table) (r : Row) → RunsTo p t → SoundRow r → RunsTo (p ++ (r ∷ [])) (with_row t r)
run_row p t r s q = subst (λ x. RunsTo (p ++ (r ∷ [])) (with_row x r)) (sym s.is) (go s.full s.run)
  where
    go : (f : Bool) → Running p s.rows s.over f → RunsTo (p ++ (r ∷ [])) (with_row (table_of s.rows s.over f) r)
    go true n = record { rows = s.rows; over = s.over; full = true; is = refl; run = run-full p s.rows s.over r n }
    go false n = run_step p s.rows s.over r q n _ (stepped s.rows s.over r n.sound q)

pub run-rows : (p : List Row) (t : Table) (rows : List Row) → RunsTo p t → Each SoundRow rows → RunsTo (p ++ rows) (with_rows t rows)
unfolding with_rows
run-rows p t [] s q = subst (λ l. RunsTo l t) (sym (append-nil p)) s
run-rows p t (r ∷ rows) s q =
    subst (λ l. RunsTo l (with_rows (with_row t r) rows)) (append_assoc p (r ∷ []) rows)
    (run-rows (p ++ (r ∷ [])) (with_row t r) rows (run_row p t r s q.0) q.1)

pub run-start : RunsTo [] no_table
unfolding no_table gathered new_after
run-start = record {
  rows = [];
  over = false;
  full = false;
  is = refl;
  run = record {
    sound = none_rows;
    keys = λ f. refl;
    totals = λ f g. refl;
    passed = λ g. absurd (true≢false (sym g));
    filled = λ g. absurd (true≢false (sym g));
  };
}

-- ---- at the end

none_over : (rows : List Row) → Each SoundRow rows → any_of over_count rows ≡ false
none_over [] q = refl
none_over (r ∷ rows) q = rw (counts-fit r q.0.typed) (none_over rows q.1)

abbrev done_with : List Row → Added
done_with rows = record { answer = Done; report = report_with rows }

-- WHAT A TABLE SAYS once all rows are in it
pub table-says : (a : Report) (rows : List Row) → Each SoundRow rows
    → finished_by a (with_rows no_table rows) ≡ in_order (sum_order rows) (refused_add a) (record { answer = Done; report = report_with (gathered rows) })
table-says a rows q = ap (finished_by a) s.is ∙ go s.full s.over s.run
  where
    s : RunsTo rows (with_rows no_table rows)
    s = run-rows [] no_table rows run-start q

    few : (o : Bool) → Running rows s.rows o false → ltb most_rows (length (gathered rows)) ≡ false
    few o n =
        le-ltb most_rows (length (gathered rows))
        (omega (arith, gathered-length rows, ap length (n.keys refl), length-map s.rows (λ x. x.key), n.sound.few))

    go : (f o : Bool) → Running rows s.rows o f → finished_by a (table_of s.rows o f) ≡ in_order (sum_order rows) (refused_add a) (done_with (gathered rows))
    go true o n = rw (lt-ltb most_rows (length (gathered rows)) (n.filled refl))
    go false true n = rw (few true n, n.passed refl)
    go false false n = rw (few false n, clear) (ap done_with is)
      where
        is : s.rows ≡ gathered rows
        is = n.totals refl refl

        clear : any_of over_count (gathered rows) ≡ false
        clear = ap (any_of over_count) (sym is) ∙ none_over s.rows n.sound.each

-- by its flags
module _ (a : Report) (t : Table) where
  pub finished-full : t.full ≡ true → finished_by a t ≡ refused_add a 18
  finished-full e = ap (λ f. in_order ((f, 18) ∷ (t.over, 19) ∷ []) (refused_add a) (record { answer = Done; report = t.report })) e

  pub finished-over : t.full ≡ false → t.over ≡ true → finished_by a t ≡ refused_add a 19
  finished-over e g = ap₂ (λ f o. in_order ((f, 18) ∷ (o, 19) ∷ []) (refused_add a) (record { answer = Done; report = t.report })) e g

  pub finished-done : t.full ≡ false → t.over ≡ false → finished_by a t ≡ record { answer = Done; report = t.report }
  finished-done e g = ap₂ (λ f o. in_order ((f, 18) ∷ (o, 19) ∷ []) (refused_add a) (record { answer = Done; report = t.report })) e g
