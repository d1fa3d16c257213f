-- `rows_of` meets its contract: by a loop, an entry a turn, of which one that is refused adds nothing. Assumes nothing.
use mathlib.Core.Path.{◌≡◌, refl, sym, ap, subst, ◌∙◌}
use mathlib.Core.List.{[], ◌∷◌, ◌++◌, map, append-nil}
use Prim.Native.Nat.{◌+◌, ◌<◌}
use native.Mathlib.Omega.{arith}
use lib.ListN.{length, take, length-set}
use Rattle.record_fields.specs.Coding.{Each}
use Rattle.record_corrections.specs.Corrections.{correction_at}
use Rattle.record_corrections.specs.declared.CorrectionRead.TheVariants as read
use Rattle.season_reports.specs.Season.{reading_of, reading_row, entry_row}
use Rattle.season_reports.specs.Journals.{entry_under, entries_after}
use Rattle.season_reports.specs.Tables.{SoundRow}
use Rattle.season_reports.proofs.PlaceLaws.{each_append}
use Rattle.season_reports.proofs.LoopLaws.{put_next}
use Rattle.season_reports.proofs.JournalLaws.{entry-scale, left_of, left-all, left-entry, left-refused, left-none, row-behind, entries-counted}
use Rattle.season_reports.proofs.reading.rows_of.Goals as goal

pub loop-i-init : goal.loop-i-init
loop-i-init c =
    let a = c.args in
    (left-all a.frame a.count, (omega arith, (omega arith, (refl, tt))))

pub entry_row-requires : goal.entry_row-requires
entry_row-requires c =
    let entry-is : correction_at c.args.frame c.loop-i.i ≡ read.Entry c.in-Entry.e = sym c.correction_at.ensures ∙ c.in-Entry.is in
    entry-scale c.args.frame c.loop-i.i c.in-Entry.e entry-is

pub loop-i-preserved : goal.loop-i-preserved
loop-i-preserved c =
    let entry-is : correction_at c.args.frame c.loop-i.i ≡ read.Entry c.in-Entry.e = sym c.correction_at.ensures ∙ c.in-Entry.is in
    let room : c.loop-i.found < 18 = omega (arith, c.requires.0, c.loop-i-test.true, c.loop-i.invariant.1.0) in
    let a = c.args in
    let x = c.in-Entry.e in
    let taken = c.loop-i-test.true in
    let room : c.loop-i.found < length c.loop-i.rows = omega (arith, c.requires.0, taken) in
    let is : c.entry_row.result ≡ entry_row (entry_under a.frame x) =
    c.entry_row.ensures.value
    ∙ ap (λ y. reading_row (record { system = y; station = a.frame.header.station; satellite = x.satellite }) (reading_of x)) c.system_of.ensures in (
      row-behind c.loop-i.rows c.loop-i.found c.entry_row.result (left_of a.frame a.count (c.loop-i.i + 1))
          (map entry_row (entries_after a.frame a.count 0)) room
          (ap (λ y. take c.loop-i.found c.loop-i.rows ++ (y ∷ left_of a.frame a.count (c.loop-i.i + 1))) is
          ∙ ap (λ y. take c.loop-i.found c.loop-i.rows ++ y) (sym (left-entry a.frame a.count c.loop-i.i x taken entry-is)) ∙ c.loop-i.invariant.0),
      (
        omega arith,
        (
          omega arith,
          (
            length-set c.loop-i.rows c.loop-i.found c.entry_row.result ∙ c.loop-i.invariant.1.1.1.0,
            subst (Each SoundRow) (sym (put_next c.loop-i.rows c.loop-i.found c.entry_row.result room))
                (each_append SoundRow (take c.loop-i.found c.loop-i.rows) (c.entry_row.result ∷ []) c.loop-i.invariant.1.1.1.1 (c.entry_row.ensures.sound_row, tt)),
          ),
        ),
      ),
    )

pub loop-i-preserved-in_default : goal.loop-i-preserved-in_default
loop-i-preserved-in_default c =
    let a = c.args in
    let taken = c.loop-i-test.true in (
      ap (λ y. take c.loop-i.found c.loop-i.rows ++ y)
          (sym (left-refused a.frame a.count c.loop-i.i _ taken (sym c.correction_at.ensures ∙ c.in_default.is))) ∙ c.loop-i.invariant.0,
      (omega arith, (omega arith, (c.loop-i.invariant.1.1.1.0, c.loop-i.invariant.1.1.1.1))),
    )

pub returns : goal.returns
returns c =
    let a = c.args in
    let all : c.loop-i.i ≡ a.count = omega arith in
    record {
      count_bound = (
        omega (arith, c.requires.0),
        sym (append-nil (take c.loop-i.found c.loop-i.rows))
            ∙ ap (λ y. take c.loop-i.found c.loop-i.rows ++ y) (sym (ap (left_of a.frame a.count) all ∙ left-none a.frame a.count))
            ∙ c.loop-i.invariant.0 ∙ ap (map entry_row) (sym (entries-counted a.frame a.count c.requires.1)),
      );
      each = c.loop-i.invariant.1.1.1.1;
    }

pub offset_bounds-rows-found : goal.offset_bounds-rows-found
offset_bounds-rows-found c =
    let room : c.loop-i.found < 18 = omega (arith, c.requires.0, c.loop-i-test.true, c.loop-i.invariant.1.0) in
    omega (arith, room)

pub bounds-rows-found : goal.bounds-rows-found
bounds-rows-found c =
    let room : c.loop-i.found < 18 = omega (arith, c.requires.0, c.loop-i-test.true, c.loop-i.invariant.1.0) in
    room

pub overflow_add-found : goal.overflow_add-found
overflow_add-found c =
    let room : c.loop-i.found < 18 = omega (arith, c.requires.0, c.loop-i-test.true, c.loop-i.invariant.1.0) in
    omega (arith, room)
