-- Exactly the types that have a record have a layout other than plain; and each plain list layout has what a layout owes. Assumes nothing.
use mathlib.Core.Path.{◌≡◌, refl}
use mathlib.Core.Bool.{Bool, true, false, not, ◌||◌, cond}
use Prim.Native.Nat.{ℕ}
use lib.Dec.{eqb}
use Rattle.frame.specs.Layout.{layout_of}
use Rattle.frame.specs.Widths.{any_of}
use Rattle.frame.specs.declared.Layout.{Layout}
use Rattle.frame.specs.declared.Layout.TheVariants as layout
use Rattle.record_stages.specs.Stages.{is_of, other_layout}
use Rattle.record_laws.proofs.PlainLists.{OwedList}
use Rattle.record_laws.proofs.CorrectionTrips.{corrections-owed}
use Rattle.record_laws.proofs.HealthTrips.{healths-owed}
use Rattle.promises.specs.RecordLayouts.{record_types, PlainList, of_corrections, of_healths, list_of}

pub owed-of : (l : PlainList) → OwedList (list_of l)
owed-of of_corrections = corrections-owed
owed-of of_healths = healths-owed

-- type number by type number, in the order of the decision
pub record-types : (kind : ℕ) → other_layout layout.Plain kind ≡ any_of (eqb kind) record_types
unfolding other_layout layout_of
record-types kind =
    go (eqb kind 1) (eqb kind 9) (eqb kind 31) (eqb kind 34) (eqb kind 3) (eqb kind 32) (eqb kind 5) (eqb kind 33) (eqb kind 6) (eqb kind 16)
    (eqb kind 36) (eqb kind 18) (eqb kind 19) (eqb kind 41) (eqb kind 42)
  where
    found : (a b c d e f g h i j k l m n o : Bool) → Layout
    found a b c d e f g h i j k l m n o =
        cond (a || b || c) layout.Correction
        (cond d layout.CorrectionOrNull
        (cond (e || f) layout.Position (cond (g || h) layout.Health (cond i layout.Null
        (cond (j || k) layout.Text (cond (l || m) layout.Observation (cond (n || o) layout.General layout.Plain)))))))

    go : (a b c d e f g h i j k l m n o : Bool)
        → not (is_of (found a b c d e f g h i j k l m n o) layout.Plain)
        ≡ (a || (b || (c || (d || (e || (f || (g || (h || (i || (j || (k || (l || (m || (n || (o || false)))))))))))))))
    go true b c d e f g h i j k l m n o = refl
    go false true c d e f g h i j k l m n o = refl
    go false false true d e f g h i j k l m n o = refl
    go false false false true e f g h i j k l m n o = refl
    go false false false false true f g h i j k l m n o = refl
    go false false false false false true g h i j k l m n o = refl
    go false false false false false false true h i j k l m n o = refl
    go false false false false false false false true i j k l m n o = refl
    go false false false false false false false false true j k l m n o = refl
    go false false false false false false false false false true k l m n o = refl
    go false false false false false false false false false false true l m n o = refl
    go false false false false false false false false false false false true m n o = refl
    go false false false false false false false false false false false false true n o = refl
    go false false false false false false false false false false false false false true o = refl
    go false false false false false false false false false false false false false false true = refl
    go false false false false false false false false false false false false false false false = refl
