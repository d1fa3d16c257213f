-- Types 5 and 33, once over the system: what the layout owes. Assumes nothing.
use mathlib.Core.Path.{◌≡◌, refl, ap₂}
use mathlib.Core.Bool.{Bool, true, false, cond}
use mathlib.Core.List.{List}
use Prim.Native.Nat.{ℕ, ◌+◌, ◌*◌, ◌/◌, ◌%◌, ◌^◌, ◌≤◌, ◌<◌}
use native.Mathlib.Omega.{arith}
use lib.Dec.{ltb}
use lib.ListN.{get_or}
use borrow.Author.Tests.{le-ltb, ltb-false}
use Rattle.answer.specs.Order.{answers}
use Rattle.answer.proofs.OrderLaws.{refuses-apart}
use Rattle.bits.specs.Fields.{Fit}
use Rattle.frame.specs.declared.System.{System}
use Rattle.frame.specs.declared.System.TheVariants.{Gps, Glonass}
use Rattle.record_fields.specs.Tables.{row}
use Rattle.record_fields.proofs.Faithful.{Faithful, Fine}
use Rattle.record_fields.proofs.TableRound.{Below, places_from, numbers_of, tables-faithful, tables-left}
use Rattle.record_fields.proofs.TableLaws.{row_fine, row_told}
use Rattle.record_fields.proofs.SatelliteLaws.{satellite-back}
use Rattle.record_healths.specs.declared.Condition.{Condition}
use Rattle.record_healths.specs.declared.Condition.TheVariants.{Code, Data}
use Rattle.record_healths.specs.declared.SatelliteHealth.{SatelliteHealth}
use Rattle.record_healths.specs.declared.HealthRead.{HealthRead}
use Rattle.record_healths.specs.declared.HealthRead.TheVariants as read
use Rattle.record_healths.specs.Conditions.{condition_of, data_number, condition_number, ConditionInRange}
use Rattle.record_healths.specs.Healths.{widths, meant, coding, least, most, numbers, out_of_range, says_health_read, InRange, health_layout}
use Rattle.record_laws.proofs.PlainLists.{OwedList}

-- ---- the three health bits: all that the systems don't share

data-fine : (d r : ℕ) → r ≤ 3 → data_number d r ≡ d * 4 + r
unfolding data_number
data-fine d r l = rw (le-ltb 3 r l)

data-told : (d r : ℕ) → data_number d r ≤ 7 → (d < 2 ^ 1) × (r < 2 ^ 2)
unfolding data_number
data-told d r = go (ltb 3 r) refl
  where
    go : (b : Bool) → ltb 3 r ≡ b → cond b 8 (d * 4 + r) ≤ 7 → (d < 2 ^ 1) × (r < 2 ^ 2)
    go true e h = absurd (omega arith)
    go false e h = (omega arith, omega (arith, ltb-false 3 r e))

-- what is sent of a condition means it, and what is read has the number that was sent
condition-back : (s : System) (c : Condition) → ConditionInRange s c → condition_of s (condition_number s c) ≡ c
unfolding condition_of condition_number
condition-back Gps (Code v) h = refl
condition-back Gps (Data d r) h = absurd h
condition-back Glonass (Code v) h = absurd h
condition-back Glonass (Data d r) h = rw (data-fine d r (omega (arith, h.1))) (ap₂ Data (omega (arith, h.1)) (omega (arith, h.1)))

pub number-back : (s : System) (v : ℕ) → condition_number s (condition_of s v) ≡ v
unfolding condition_of condition_number
number-back Gps v = refl
number-back Glonass v = rw (data-fine (v / 4) (v % 4) (omega arith)) (omega arith)

-- its range, both ways
condition-fine : (s : System) (c : Condition) → ConditionInRange s c → condition_number s c ≤ 7
unfolding condition_number
condition-fine Gps (Code v) h = omega (arith, h)
condition-fine Gps (Data d r) h = absurd h
condition-fine Glonass (Code v) h = absurd h
condition-fine Glonass (Data d r) h = omega (arith, data-fine d r (omega (arith, h.1)), h.0, h.1)

condition-told : (s : System) (c : Condition) → condition_number s c ≤ 7 → ConditionInRange s c
unfolding condition_number
condition-told Gps (Code v) h = omega arith
condition-told Gps (Data d r) h = absurd (omega arith)
condition-told Glonass (Code v) h = absurd (omega arith)
condition-told Glonass (Data d r) h = data-told d r h

module _ (s : System) where
  -- what refusal 10 says of an entry, both ways
  range-fine : (e : SatelliteHealth) → InRange s e → out_of_range s e ≡ false
  range-fine e r =
      row_fine least most (numbers s e) (
        omega arith,
        omega (arith, r.reserved),
        (
          r.some,
          r.few,
          (
            omega arith,
            omega (arith, r.link),
            (
              omega arith,
              condition-fine s e.health r.health,
              (
                omega arith,
                omega (arith, r.cn0),
                (
                  omega arith,
                  omega (arith, r.enable),
                  (
                    omega arith,
                    omega (arith, r.new),
                    (
                      omega arith,
                      omega (arith, r.loss),
                      (
                        omega arith,
                        omega (arith, r.time),
                        (omega arith, omega (arith, r.spare), tt),
                      ),
                    ),
                  ),
                ),
              ),
            ),
          ),
        ),
      )

  range-told : (e : SatelliteHealth) → out_of_range s e ≡ false → InRange s e
  range-told e o =
      let r = row_told least most (numbers s e) o in
      let cn0 = r.2.2.2.2 in
      let loss = cn0.2.2.2 in
      record {
        reserved = omega (arith, r.1);
        link = omega (arith, r.2.2.1);
        health = condition-told s e.health r.2.2.2.1;
        cn0 = omega (arith, cn0.1);
        enable = omega (arith, cn0.2.1);
        new = omega (arith, cn0.2.2.1);
        loss = omega (arith, loss.1);
        time = omega (arith, loss.2.1);
        spare = omega (arith, loss.2.2.1);
        some = r.2.0;
        few = r.2.1;
      }

  -- ---- what the tables owe; the types say nothing of an entry

  -- the numbers of what is read are those of its codes
  again : (vs : List ℕ) → Below widths vs → numbers s (meant s vs) ≡ row (numbers_of least widths (places_from 0 widths vs))
  again vs at = rw (number-back s (get_or vs 3 0))

  -- the codes of what can be sent mean it
  faithful : Faithful (coding s) (Fine (λ e. Unit {0}) (out_of_range s))
  faithful =
      tables-faithful least widths least most (meant s) (numbers s) (omega arith) again (λ e. Unit {0})
      (λ e t o. let r = range-told e o in rw (satellite-back e.satellite r.some r.few, condition-back s e.health r.health))

  -- what is read is in range
  in-range : (vs : List ℕ) → Fit widths vs → out_of_range s (meant s vs) ≡ false
  in-range vs f = tables-left least widths least most (meant s) (numbers s) (omega arith) again vs f

-- what a reader says, and its answer
says-told : (x : HealthRead) (e : SatelliteHealth) → says_health_read x ≡ answers e → x ≡ read.Entry e
says-told (read.Entry a) e q = cc
says-told (read.Refused n) e q = absurd (refuses-apart n e q)

pub healths-owed : OwedList health_layout
healths-owed = record {
  says-refused = λ n. refl;
  says-entry = λ e. refl;
  says-told = says-told;
  faithful = faithful;
  room = λ s c few. omega arith;
  told = λ s c some few. omega arith;
  bounded = λ s n l. omega arith;
  range-fine = λ s e t r. range-fine s e r;
  range-told = range-told;
  read-late = in-range;
  quiet = λ q e. refl;
}
