-- What the readers of records say, and their answers: a value that is said is the one that was answered. Assumes nothing.
use mathlib.Core.Path.{◌≡◌, refl, ap}
use mathlib.Core.Bool.{Bool, true, false, cond}
use Prim.Native.Nat.{ℕ}
use Rattle.answer.specs.Order.{refuses, answers}
use Rattle.answer.proofs.OrderLaws.{refuses-apart}
use Rattle.record_observations.specs.Observations.{says_epoch_read, says_observation_read}
use Rattle.record_observations.specs.declared.Epoch.{Epoch}
use Rattle.record_observations.specs.declared.Observation.{Observation}
use Rattle.record_observations.specs.declared.EpochRead.{EpochRead}
use Rattle.record_observations.specs.declared.EpochRead.TheVariants as epoch
use Rattle.record_observations.specs.declared.ObservationRead.{ObservationRead}
use Rattle.record_observations.specs.declared.ObservationRead.TheVariants as observation
use Rattle.record_positions.specs.Positions.{says_position_read}
use Rattle.record_positions.specs.declared.Position.{Position}
use Rattle.record_positions.specs.declared.PositionRead.{PositionRead}
use Rattle.record_positions.specs.declared.PositionRead.TheVariants as position
use Rattle.record_nulls.specs.Nulls.{says_null_read}
use Rattle.record_nulls.specs.declared.NullRead.{NullRead}
use Rattle.record_nulls.specs.declared.NullRead.TheVariants as null
use Rattle.promises.proofs.CarriesItsNumber.{says-inj}

-- ---- what a reader says, and its answer

pub epoch-told : (x : EpochRead) (a : Epoch) → says_epoch_read x ≡ answers a → x ≡ epoch.At a
epoch-told (epoch.At b) a h = ap epoch.At (says-inj h)
epoch-told (epoch.Refused n) a h = absurd (refuses-apart n a h)

pub observation-told : (x : ObservationRead) (o : Observation) → says_observation_read x ≡ answers o → x ≡ observation.Entry o
observation-told (observation.Entry p) o h = ap observation.Entry (says-inj h)
observation-told (observation.Refused n) o h = absurd (refuses-apart n o h)

pub position-told : (x : PositionRead) (p : Position) → says_position_read x ≡ answers p → x ≡ position.At p
position-told (position.At a) p h = ap position.At (says-inj h)
position-told (position.Refused n) p h = absurd (refuses-apart n p h)

pub null-told : (x : NullRead) (n : ℕ) → says_null_read x ≡ answers n → x ≡ null.Null n
null-told (null.Null m) n h = ap null.Null (says-inj h)
null-told (null.Refused m) n h = absurd (refuses-apart m n h)

-- ---- held to a range, in the table's terms

pub epoch-says : (b : Bool) (a : Epoch) → says_epoch_read (cond b (epoch.Refused 10) (epoch.At a)) ≡ cond b (refuses 10) (answers a)
epoch-says true a = refl
epoch-says false a = refl

pub observation-says : (b : Bool) (o : Observation)
    → says_observation_read (cond b (observation.Refused 10) (observation.Entry o)) ≡ cond b (refuses 10) (answers o)
observation-says true o = refl
observation-says false o = refl
