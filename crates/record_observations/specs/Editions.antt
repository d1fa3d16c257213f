-- What the editions and the two types tell differently: the first bit of a satellite is the edition's, the width of the quality and what is
-- measured are the type's. `Gost` is GOST R 53612-2009, `Bd` BD 410002-2015. Assumes nothing.
use Rattle.std.specs.Prelude.{cond, ℕ, ◌^◌, ◌≤◌, ◌<◌, eqb}
use Rattle.std.specs.Int.Signed.{mag}
use Rattle.bits.specs.Signed.{signed, code}
use Rattle.record_observations.specs.declared.Edition.{Edition}
use Rattle.record_observations.specs.declared.Edition.TheVariants.{Gost, Bd}
use Rattle.record_observations.specs.declared.Quantity.{Quantity}
use Rattle.record_observations.specs.declared.Quantity.TheVariants as quantity
use Rattle.record_observations.specs.declared.Mark.{Mark}
use Rattle.record_observations.specs.declared.Mark.TheVariants.{Half, Reserved, More}
use Rattle.record_observations.specs.declared.Measured.{Measured}
use Rattle.record_observations.specs.declared.Measured.TheVariants as measured

-- WHAT A TYPE MEASURES: 18 phases, 19 ranges
unfoldable pub quantity_of : ℕ → Quantity
quantity_of kind = cond (eqb kind 18) quantity.Phase quantity.Range

-- THE WIDTH OF THE QUALITY, the one number in which the layouts of the types differ
abbrev pub quality_width : Quantity → ℕ
quality_width quantity.Phase = 3
quality_width quantity.Range = 4

-- ---- the first bit

-- what it says: half a wavelength or reserved in GOST, by the type; that more frames follow in BD
unfoldable pub mark_of : Edition → Quantity → ℕ → Mark
mark_of Gost quantity.Phase b = Half b
mark_of Gost quantity.Range b = Reserved b
mark_of Bd q b = More b

-- the marks by number, and which one an edition has for a type
unfoldable pub which_mark : Mark → ℕ
which_mark (Half b) = 0
which_mark (Reserved b) = 1
which_mark (More b) = 2

unfoldable pub which_of : Edition → Quantity → ℕ
which_of Gost quantity.Phase = 0
which_of Gost quantity.Range = 1
which_of Bd q = 2

unfoldable pub mark_bit : Mark → ℕ
mark_bit (Half b) = b
mark_bit (Reserved b) = b
mark_bit (More b) = b

-- the number of a mark; for a mark of another edition or type one that a bit can't hold
unfoldable pub mark_number : Edition → Quantity → Mark → ℕ
mark_number e q m = cond (eqb (which_mark m) (which_of e q)) (mark_bit m) 2

-- ---- what was measured

-- losses of continuity and a phase, two's complement; or a multipath error and a range
unfoldable pub measured_of : Quantity → ℕ → ℕ → Measured
measured_of quantity.Phase a b = measured.Phase a (signed 31 b)
measured_of quantity.Range a b = measured.Range a b

-- its two numbers; for what the other type measures, a first one that eight bits can't hold
unfoldable pub beside_of : Quantity → Measured → ℕ
beside_of quantity.Phase (measured.Phase a z) = a
beside_of quantity.Phase (measured.Range a n) = 256
beside_of quantity.Range (measured.Phase a z) = 256
beside_of quantity.Range (measured.Range a n) = a

unfoldable pub amount_of : Quantity → Measured → ℕ
amount_of quantity.Phase (measured.Phase a z) = code 31 z
amount_of quantity.Phase (measured.Range a n) = 0
amount_of quantity.Range (measured.Phase a z) = 0
amount_of quantity.Range (measured.Range a n) = n

-- ---- what can be sent

-- what the types of the fields say
abbrev pub MeasuredTyped : Measured → Type 0
MeasuredTyped (measured.Phase a z) = mag z < 2 ^ 31
MeasuredTyped (measured.Range a n) = n < 2 ^ 32

-- IN RANGE: an edition's own mark for the type, its bit 0 or 1
abbrev pub MarkInRange : Edition → Quantity → Mark → Type 0
MarkInRange Gost quantity.Phase (Half b) = b ≤ 1
MarkInRange Gost quantity.Phase (Reserved b) = ⊥
MarkInRange Gost quantity.Phase (More b) = ⊥
MarkInRange Gost quantity.Range (Half b) = ⊥
MarkInRange Gost quantity.Range (Reserved b) = b ≤ 1
MarkInRange Gost quantity.Range (More b) = ⊥
MarkInRange Bd q (Half b) = ⊥
MarkInRange Bd q (Reserved b) = ⊥
MarkInRange Bd q (More b) = b ≤ 1

-- what the type measures: 0 to 31 losses and any phase, or a multipath error of 0 to 15 and any range
abbrev pub MeasuredInRange : Quantity → Measured → Type 0
MeasuredInRange quantity.Phase (measured.Phase a z) = a ≤ 31
MeasuredInRange quantity.Phase (measured.Range a n) = ⊥
MeasuredInRange quantity.Range (measured.Phase a z) = ⊥
MeasuredInRange quantity.Range (measured.Range a n) = a ≤ 15
