-- `gather` meets its contract: by a loop, a row a turn; once one finds no room, it stops. Assumes nothing.
use mathlib.Core.Path.{◌≡◌, refl, sym, ap, subst, ◌∙◌}
use mathlib.Core.Bool.{◌||◌}
use Prim.Native.Nat.{◌<◌}
use native.Mathlib.Omega.{arith}
use lib.Dec.{eqb}
use lib.ListN.{length, take, get_or, length-take, drop_of_length-le}
use lib.Seq.{get_or-take}
use borrow.Author.Rules.{rules}
use Rattle.season_reports.specs.Rows.{blank_row}
use Rattle.season_reports.specs.Tables.{first_index, place_of_key, with_rows, rows_of_batch, SoundRow, SoundTable}
use Rattle.season_reports.proofs.PlaceLaws.{each_at}
use Rattle.season_reports.proofs.SoundLaws.{any-sound}
use Rattle.season_reports.proofs.GatherLaws.{table_with, full-stays, place_is, turn-full, after_turn}
use Rattle.season_reports.proofs.table.gather.Goals as goal

pub returns-then-table : goal.returns-then-table
returns-then-table c = sym (full-stays c.args.table (rows_of_batch c.args.batch) c.if-table.true)

pub loop-i-init : goal.loop-i-init
loop-i-init c =
    let open_is : let t = c.args.table in t ≡ table_with t.report.used t.report.rows t.over = let t = c.args.table in ap (λ f. record { report = t.report; over = t.over; full = f }) c.if-table.false in (
      record {
        same = refl;
        sound = subst SoundTable open_is c.requires.sound_table;
        long = search rules;
        coded = c.codes_of-codes.ensures;
      },
      omega arith,
    )

pub returns-then-at-ge512 : goal.returns-then-at-ge512
returns-then-at-ge512 c =
    let full : length c.args.batch.rows ≡ 18 = search rules in
    let open_is : let t = c.args.table in t ≡ table_with t.report.used t.report.rows t.over = let t = c.args.table in ap (λ f. record { report = t.report; over = t.over; full = f }) c.if-table.false in
    let inside : let b = c.args.batch in c.loop-i.i < length (take b.count b.rows) = let b = c.args.batch in
    let size = full in
    let taken = c.loop-i-test.true in
    omega (arith, length-take b.count b.rows, size, c.requires.count_bound.0, taken) in
    let row_is : let b = c.args.batch in
    get_or (take b.count b.rows) c.loop-i.i blank_row ≡ get_or b.rows c.loop-i.i blank_row = let b = c.args.batch in
    get_or-take b.count b.rows c.loop-i.i blank_row c.loop-i-test.true in
    let sound : SoundRow (get_or c.args.batch.rows c.loop-i.i blank_row) = let b = c.args.batch in
    subst SoundRow row_is (each_at SoundRow (take b.count b.rows) c.loop-i.i blank_row c.requires.count_bound.1 inside) in
    let place : c.place_of-at.result ≡ place_of_key (table_with c.loop-i.used c.loop-i.rows c.loop-i.over) (get_or c.args.batch.rows c.loop-i.i blank_row).key = let b = c.args.batch in
    c.place_of-at.ensures.value ∙ ap (λ n. first_index (eqb n) (take c.loop-i.used c.loop-i.codes)) c.code_of-code.ensures
    ∙ place_is _ (take b.count b.rows) c.loop-i.codes (table_with c.loop-i.used c.loop-i.rows c.loop-i.over) c.loop-i.i _ c.loop-i.invariant.0 refl inside row_is sound in
    let b = c.args.batch in
    sym (ap (λ t. with_rows t (rows_of_batch b)) open_is
    ∙ turn-full _ (take b.count b.rows) c.loop-i.codes (table_with c.loop-i.used c.loop-i.rows c.loop-i.over) c.loop-i.i _ c.loop-i.invariant.0 refl inside row_is sound
    (omega (arith, place, c.if-at-ge512.true)))

pub merged_row-requires : goal.merged_row-requires
merged_row-requires c =
    let full : length c.args.batch.rows ≡ 18 = search rules in
    let inside : let b = c.args.batch in c.loop-i.i < length (take b.count b.rows) = let b = c.args.batch in
    let size = full in
    let taken = c.loop-i-test.true in
    omega (arith, length-take b.count b.rows, size, c.requires.count_bound.0, taken) in
    let row_is : let b = c.args.batch in
    get_or (take b.count b.rows) c.loop-i.i blank_row ≡ get_or b.rows c.loop-i.i blank_row = let b = c.args.batch in
    get_or-take b.count b.rows c.loop-i.i blank_row c.loop-i-test.true in
    let sound : SoundRow (get_or c.args.batch.rows c.loop-i.i blank_row) = let b = c.args.batch in
    subst SoundRow row_is (each_at SoundRow (take b.count b.rows) c.loop-i.i blank_row c.requires.count_bound.1 inside) in
    record { sound_row = any-sound (table_with c.loop-i.used c.loop-i.rows c.loop-i.over) c.place_of-at.result c.loop-i.invariant.0.sound; sound_row_2 = sound }

pub loop-i-preserved : goal.loop-i-preserved
loop-i-preserved c =
    let full : length c.args.batch.rows ≡ 18 = search rules in
    let inside : let b = c.args.batch in c.loop-i.i < length (take b.count b.rows) = let b = c.args.batch in
    let size = full in
    let taken = c.loop-i-test.true in
    omega (arith, length-take b.count b.rows, size, c.requires.count_bound.0, taken) in
    let row_is : let b = c.args.batch in
    get_or (take b.count b.rows) c.loop-i.i blank_row ≡ get_or b.rows c.loop-i.i blank_row = let b = c.args.batch in
    get_or-take b.count b.rows c.loop-i.i blank_row c.loop-i-test.true in
    let sound : SoundRow (get_or c.args.batch.rows c.loop-i.i blank_row) = let b = c.args.batch in
    subst SoundRow row_is (each_at SoundRow (take b.count b.rows) c.loop-i.i blank_row c.requires.count_bound.1 inside) in
    let place : c.place_of-at.result ≡ place_of_key (table_with c.loop-i.used c.loop-i.rows c.loop-i.over) (get_or c.args.batch.rows c.loop-i.i blank_row).key = let b = c.args.batch in
    c.place_of-at.ensures.value ∙ ap (λ n. first_index (eqb n) (take c.loop-i.used c.loop-i.codes)) c.code_of-code.ensures
    ∙ place_is _ (take b.count b.rows) c.loop-i.codes (table_with c.loop-i.used c.loop-i.rows c.loop-i.over) c.loop-i.i _ c.loop-i.invariant.0 refl inside row_is sound in
    let b = c.args.batch in (
      after_turn _ (take b.count b.rows) c.loop-i.codes (table_with c.loop-i.used c.loop-i.rows c.loop-i.over) c.loop-i.i _ c.loop-i.invariant.0 refl inside row_is sound
          c.place_of-at.result c.code_of-code.result c.max-used.result c.merged_row.result (c.loop-i.over || c.is_over-over.result)
          place c.if-at-ge512.false c.code_of-code.ensures c.max-used.ensures
          c.merged_row.ensures (ap (λ t. c.loop-i.over || t) c.is_over-over.ensures),
      omega (arith, c.loop-i-test.true),
    )

pub returns : goal.returns
unfolding with_rows
returns c =
    let full : length c.args.batch.rows ≡ 18 = search rules in
    let open_is : let t = c.args.table in t ≡ table_with t.report.used t.report.rows t.over = let t = c.args.table in ap (λ f. record { report = t.report; over = t.over; full = f }) c.if-table.false in
    let b = c.args.batch in
    sym (ap (λ t. with_rows t (rows_of_batch b)) open_is ∙ c.loop-i.invariant.0.same
    ∙ ap (with_rows (table_with c.loop-i.used c.loop-i.rows c.loop-i.over))
    (drop_of_length-le (take b.count b.rows) {i = c.loop-i.i} (omega (arith, length-take b.count b.rows, c.loop-i-test.false))))

pub codes_of-codes-requires : goal.codes_of-codes-requires
codes_of-codes-requires c = c.requires.sound_table.few

pub offset_bounds-more-i : goal.offset_bounds-more-i
offset_bounds-more-i c = omega (arith, c.requires.count_bound.0)

pub bounds-more-i : goal.bounds-more-i
bounds-more-i c = omega (arith, c.requires.count_bound.0)

pub place_of-at-requires : goal.place_of-at-requires
place_of-at-requires c = (c.loop-i.invariant.0.long, c.loop-i.invariant.0.sound.few)

pub offset_bounds-rows-at : goal.offset_bounds-rows-at
offset_bounds-rows-at c =
    let small : c.place_of-at.result < 512 = c.if-at-ge512.false in
    omega (arith, small)

pub bounds-rows-at : goal.bounds-rows-at
bounds-rows-at c =
    let small : c.place_of-at.result < 512 = c.if-at-ge512.false in
    small

pub offset_bounds-rows-at-in-loop-i : goal.offset_bounds-rows-at-in-loop-i
offset_bounds-rows-at-in-loop-i c =
    let small : c.place_of-at.result < 512 = c.if-at-ge512.false in
    omega (arith, small)

pub bounds-rows-at-in-loop-i : goal.bounds-rows-at-in-loop-i
bounds-rows-at-in-loop-i c =
    let small : c.place_of-at.result < 512 = c.if-at-ge512.false in
    small

pub offset_bounds-codes-at : goal.offset_bounds-codes-at
offset_bounds-codes-at c =
    let small : c.place_of-at.result < 512 = c.if-at-ge512.false in
    omega (arith, small)

pub bounds-codes-at : goal.bounds-codes-at
bounds-codes-at c =
    let small : c.place_of-at.result < 512 = c.if-at-ge512.false in
    small

pub overflow_add-at : goal.overflow_add-at
overflow_add-at c =
    let small : c.place_of-at.result < 512 = c.if-at-ge512.false in
    omega (arith, small)
