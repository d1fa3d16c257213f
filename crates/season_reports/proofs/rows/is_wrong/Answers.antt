-- `is_wrong` meets its contract: by whether least and largest are there. Assumes nothing.
use mathlib.Core.Path.{◌≡◌, sym, ap, ap₂, subst, ◌∙◌}
use native.Mathlib.Omega.{arith}
use borrow.Author.Rules.{rules}
use mir.Syntax.{w32, w64}
use mir.Val.{SFits}
use mir.ValLaws.{to_z-of_z}
use Rattle.season_reports.specs.Rows.{wrong_ends, wrong_sum}
use Rattle.season_reports.specs.Tables.{EndsTyped, TypedRow}
use Rattle.season_reports.specs.declared.Extremes.TheVariants.{Absent, Present}
use Rattle.season_reports.proofs.rows.is_wrong.Goals as goal

pub returns-in-Absent : goal.returns-in-Absent
unfolding wrong_sum
returns-in-Absent c =
    let typed : EndsTyped c.args.row.extremes → TypedRow c.args.row = λ e. record { station = omega arith; satellite = omega arith; usable = omega arith; stops = omega arith; ends = e } in
    let r = c.args.row in
    let absent : r.extremes ≡ Absent = c.in-Absent.is in
    record {
      value = c.is_left.ensures ∙ ap (λ z. wrong_ends r.usable z Absent) (to_z-of_z w64 r.sum (search rules))
          ∙ ap (wrong_ends r.usable r.sum) (sym absent);
      typed_row = typed (subst EndsTyped (sym absent) tt);
    }

pub returns-in-Present : goal.returns-in-Present
unfolding wrong_sum
returns-in-Present c =
    let typed : EndsTyped c.args.row.extremes → TypedRow c.args.row = λ e. record { station = omega arith; satellite = omega arith; usable = omega arith; stops = omega arith; ends = e } in
    let r = c.args.row in
    let least : SFits w32 c.in-Present.least = search rules in
    let largest : SFits w32 c.in-Present.largest = search rules in
    let sum = to_z-of_z w64 r.sum (search rules) in
    let both = ap₂ Present (to_z-of_z w32 c.in-Present.least least) (to_z-of_z w32 c.in-Present.largest largest) in
    record { value = c.is_beyond.ensures ∙ ap₂ (wrong_ends r.usable) sum (both ∙ sym c.in-Present.is); typed_row = typed (subst EndsTyped (sym c.in-Present.is) (least.sfits, largest.sfits)) }
