-- What the layout of types 18 and 19 owes, once over the edition and over what the type measures: its codes are faithful, and its ranges are
-- those in words. Only the first bit goes by the edition, only the width of the quality and what is measured by the type. Assumes nothing.
use mathlib.Core.Path.{◌≡◌, refl, ap, ◌∙◌}
use mathlib.Core.Bool.{true, false, or-false}
use mathlib.Core.List.{List}
use Prim.Native.Nat.{ℕ, ◌-◌, ◌%◌, ◌^◌, ◌≤◌, ◌<◌}
use native.Mathlib.Nat.{mod-eq_of_lt}
use native.Mathlib.Omega.{arith}
use lib.Dec.{ltb}
use lib.Pow.{pow_pos}
use lib.ListN.{get_or}
use borrow.Author.Tests.{lt-ltb}
use Rattle.bits.specs.Fields.{Fit}
use Rattle.bits.proofs.SignedLaws.{code-signed}
use Rattle.record_fields.specs.Tables.{row}
use Rattle.record_fields.proofs.Faithful.{Faithful, Fine}
use Rattle.record_fields.proofs.TableRound.{Below, places_from, numbers_of, codes_within, signed_low, tables-faithful, tables-left}
use Rattle.record_fields.proofs.TableLaws.{row_fine, row_told}
use Rattle.record_fields.proofs.SatelliteLaws.{satellite-back}
use Rattle.record_observations.specs.declared.Edition.{Edition}
use Rattle.record_observations.specs.declared.Edition.TheVariants.{Gost, Bd}
use Rattle.record_observations.specs.declared.Quantity.{Quantity}
use Rattle.record_observations.specs.declared.Quantity.TheVariants as quantity
use Rattle.record_observations.specs.declared.Mark.{Mark}
use Rattle.record_observations.specs.declared.Mark.TheVariants.{Half, Reserved, More}
use Rattle.record_observations.specs.declared.Measured.{Measured}
use Rattle.record_observations.specs.declared.Measured.TheVariants as measured
use Rattle.record_observations.specs.declared.Epoch.{Epoch}
use Rattle.record_observations.specs.declared.Observation.{Observation}
use Rattle.record_observations.specs.Editions.{quality_width, mark_of, which_mark, which_of, mark_bit, mark_number, measured_of, beside_of, amount_of}
use Rattle.record_observations.specs.Editions.{MeasuredTyped, MarkInRange, MeasuredInRange}
use Rattle.record_observations.specs.Observations.{epoch_widths, epoch_meant, epoch_numbers, epoch_coding, epoch_least, epoch_most, epoch_out, late_time}
use Rattle.record_observations.specs.Observations.{widths, meant, numbers, coding, least, most, out_of_range, Typed, EpochInRange, InRange}

-- ---- the head

pub epoch-faithful : Faithful epoch_coding (Fine (λ a. Unit {0}) epoch_out)
epoch-faithful =
    tables-faithful epoch_least epoch_widths epoch_least epoch_most epoch_meant epoch_numbers (omega arith) (λ vs at. refl) (λ a. Unit {0}) (λ a t o. refl)

pub epoch-fine : (a : Epoch) → EpochInRange a → epoch_out a ≡ false
epoch-fine a r =
    row_fine epoch_least epoch_most (epoch_numbers a) (omega arith, r.frequency, (omega arith, r.smoothing, (omega arith, r.time, tt)))

pub epoch-told : (a : Epoch) → epoch_out a ≡ false → EpochInRange a
epoch-told a o = let r = row_told epoch_least epoch_most (epoch_numbers a) o in record { frequency = r.1; smoothing = r.2.1; time = r.2.2.1 }

-- of a head that is read the widths leave nothing to say but of the time
pub epoch-late : (vs : List ℕ) → Fit epoch_widths vs → epoch_out (epoch_meant vs) ≡ late_time (epoch_meant vs)
epoch-late vs f =
    tables-left epoch_least epoch_widths epoch_least epoch_most epoch_meant epoch_numbers (omega arith) (λ us at. refl) vs f ∙ or-false (ltb 599999 (get_or vs 2 0))

-- ---- the first bit

pub bit-back : (e : Edition) (q : Quantity) (b : ℕ) → mark_bit (mark_of e q b) ≡ b
unfolding mark_of mark_bit
bit-back Gost quantity.Phase b = refl
bit-back Gost quantity.Range b = refl
bit-back Bd q b = refl

mark-back : (e : Edition) (q : Quantity) (b : ℕ) → mark_number e q (mark_of e q b) ≡ b
unfolding mark_of mark_number mark_bit which_mark which_of
mark-back Gost quantity.Phase b = refl
mark-back Gost quantity.Range b = refl
mark-back Bd q b = refl

-- an edition's own mark for the type, in words and by its number
mark-fine : (e : Edition) (q : Quantity) (m : Mark) → MarkInRange e q m → mark_number e q m ≤ 1
unfolding mark_number mark_bit which_mark which_of
mark-fine Gost quantity.Phase (Half b) r = r
mark-fine Gost quantity.Range (Reserved b) r = r
mark-fine Bd q (More b) r = r
mark-fine Gost quantity.Phase (Reserved b) r = absurd r
mark-fine Gost quantity.Phase (More b) r = absurd r
mark-fine Gost quantity.Range (Half b) r = absurd r
mark-fine Gost quantity.Range (More b) r = absurd r
mark-fine Bd q (Half b) r = absurd r
mark-fine Bd q (Reserved b) r = absurd r

mark-told : (e : Edition) (q : Quantity) (m : Mark) → mark_number e q m ≤ 1 → MarkInRange e q m × (mark_of e q (mark_number e q m) ≡ m)
unfolding mark_of mark_number mark_bit which_mark which_of
mark-told Gost quantity.Phase (Half b) h = (h, refl)
mark-told Gost quantity.Range (Reserved b) h = (h, refl)
mark-told Bd q (More b) h = (h, refl)
mark-told Gost quantity.Phase (Reserved b) h = absurd (omega arith)
mark-told Gost quantity.Phase (More b) h = absurd (omega arith)
mark-told Gost quantity.Range (Half b) h = absurd (omega arith)
mark-told Gost quantity.Range (More b) h = absurd (omega arith)
mark-told Bd q (Half b) h = absurd (omega arith)
mark-told Bd q (Reserved b) h = absurd (omega arith)

-- ---- what was measured

beside_back : (q : Quantity) (a b : ℕ) → beside_of q (measured_of q a b) ≡ a
unfolding measured_of beside_of
beside_back quantity.Phase a b = refl
beside_back quantity.Range a b = refl

amount-back : (q : Quantity) (a b : ℕ) → b < 2 ^ 32 → amount_of q (measured_of q a b) ≡ b
unfolding measured_of amount_of
amount-back quantity.Phase a b h = code-signed 31 b h
amount-back quantity.Range a b h = refl

beside-fine : (q : Quantity) (m : Measured) → MeasuredInRange q m → beside_of q m ≤ 2 ^ (8 - quality_width q) - 1
unfolding beside_of
beside-fine quantity.Phase (measured.Phase a z) r = r
beside-fine quantity.Phase (measured.Range a n) r = absurd r
beside-fine quantity.Range (measured.Phase a z) r = absurd r
beside-fine quantity.Range (measured.Range a n) r = r

beside-told : (q : Quantity) (m : Measured) → beside_of q m ≤ 2 ^ (8 - quality_width q) - 1 → MeasuredInRange q m
unfolding beside_of
beside-told quantity.Phase (measured.Phase a z) h = h
beside-told quantity.Phase (measured.Range a n) h = absurd (omega arith)
beside-told quantity.Range (measured.Phase a z) h = absurd (omega arith)
beside-told quantity.Range (measured.Range a n) h = h

-- the low 32 bits of what is sent mean it
measured-told : (q : Quantity) (m : Measured) → MeasuredTyped m → MeasuredInRange q m → measured_of q (beside_of q m) (amount_of q m % 2 ^ 32) ≡ m
unfolding measured_of beside_of amount_of
measured-told quantity.Phase (measured.Phase a z) t r = ap (measured.Phase a) (signed_low 31 z t)
measured-told quantity.Phase (measured.Range a n) t r = absurd r
measured-told quantity.Range (measured.Phase a z) t r = absurd r
measured-told quantity.Range (measured.Range a n) t r = ap (measured.Range a) (mod-eq_of_lt t)

-- ---- a satellite

-- a most that is all ones is within its width
all_ones : (w : ℕ) → ltb (2 ^ w - 1) (2 ^ w) ≡ true
all_ones w = lt-ltb (2 ^ w - 1) (2 ^ w) (omega (arith, pow_pos w))

module _ (e : Edition) (q : Quantity) where
  pub range-fine : (o : Observation) → InRange e q o → out_of_range e q o ≡ false
  range-fine o r =
      row_fine least (most q) (numbers e q o) (
        omega arith,
        mark-fine e q o.mark r.mark,
        (
          omega arith,
          r.code,
          (
            omega arith,
            r.system,
            (
              r.least,
              r.most,
              (omega arith, omega (arith, r.quality), (omega arith, beside-fine q o.measured r.measured, tt)),
            ),
          ),
        ),
      )

  pub range-told : (o : Observation) → out_of_range e q o ≡ false → InRange e q o
  range-told o out =
      let r = row_told least (most q) (numbers e q o) out in
      let s = r.2.2.2 in
      record {
        mark = (mark-told e q o.mark r.1).0;
        code = r.2.1;
        system = r.2.2.1;
        least = s.0;
        most = s.1;
        quality = omega (arith, s.2.1, pow_pos (quality_width q));
        measured = beside-told q o.measured s.2.2.1;
      }

  -- the numbers of what is read are those of its codes
  again : (vs : List ℕ) → Below (widths q) vs → numbers e q (meant e q vs) ≡ row (numbers_of least (widths q) (places_from 0 (widths q) vs))
  again vs at = rw (mark-back e q (get_or vs 0 0), beside_back q (get_or vs 5 0) (get_or vs 6 0), amount-back q (get_or vs 5 0) (get_or vs 6 0) (at 6))

  -- the codes of what can be sent mean it
  back : (o : Observation) → Typed o → out_of_range e q o ≡ false → meant e q (codes_within (widths q) (most q) (numbers e q o)) ≡ o
  back o t out =
      let r = range-told o out in
      rw (
        all_ones (quality_width q),
        all_ones (8 - quality_width q),
        (mark-told e q o.mark (mark-fine e q o.mark r.mark)).1,
        satellite-back o.satellite r.least r.most,
        measured-told q o.measured t r.measured,
      )

  pub faithful : Faithful (coding e q) (Fine Typed (out_of_range e q))
  faithful = tables-faithful least (widths q) least (most q) (meant e q) (numbers e q) (omega arith) again Typed back

-- of what is read nothing is out of range: the widths say it all
pub read-in : (e : Edition) (q : Quantity) (vs : List ℕ) → Fit (widths q) vs → out_of_range e q (meant e q vs) ≡ false
read-in e quantity.Phase vs f =
    tables-left least (widths quantity.Phase) least (most quantity.Phase) (meant e quantity.Phase) (numbers e quantity.Phase) (omega arith)
    (again e quantity.Phase) vs f
read-in e quantity.Range vs f =
    tables-left least (widths quantity.Range) least (most quantity.Range) (meant e quantity.Range) (numbers e quantity.Range) (omega arith)
    (again e quantity.Range) vs f
