-- A satellite's health and the numbers of its row: those of the layout, where bytes say it, and faithful. Assumes nothing.
use mathlib.Core.Path.{◌≡◌, refl, ap₂}
use mathlib.Core.List.{List}
use Prim.Native.Nat.{ℕ}
use native.Mathlib.Omega.{arith}
use lib.ListN.{get_or}
use Rattle.frame.specs.declared.System.{System}
use Rattle.frame.specs.declared.System.TheVariants.{Gps, Glonass}
use Rattle.record_fields.proofs.Faithful.{Faithful}
use Rattle.record_healths.specs.declared.Condition.{Condition}
use Rattle.record_healths.specs.declared.Condition.TheVariants.{Code, Data}
use Rattle.record_healths.specs.declared.SatelliteHealth.{SatelliteHealth}
use Rattle.record_healths.specs.Conditions.{condition_of}
use Rattle.record_healths.specs.Healths as health
use Rattle.record_laws.proofs.HealthTrips.{number-back}
use Rattle.rtcm2_state.specs.Numbers.{number_in}
use Rattle.rtcm2_rows.specs.Sizes.{sized_in}
use Rattle.rtcm2_rows.specs.Tables.{few}
use Rattle.rtcm2_rows.proofs.SizeLaws.{Within}
use Rattle.rtcm2_rows.proofs.TableRows.{table-faithful}
use Rattle.rtcm2.specs.Healths.{sizes, meant, health_bits, numbers, row, Byte}

-- the layout's numbers of what bytes say are those of the bytes
pub numbers-said : (s : System) (bs : List ℕ) → health.numbers s (meant s (sized_in (few sizes) bs)) ≡ sized_in (few sizes) bs
unfolding sized_in number_in
numbers-said s bs = rw (number-back s (get_or (sized_in (few sizes) bs) 3 0))

-- the health bits and what they say
bits_back : (s : System) (c : Condition) → Byte s c → condition_of s (health_bits c) ≡ c
unfolding condition_of health_bits
bits_back Gps (Code v) h = refl
bits_back Gps (Data d r) h = absurd h
bits_back Glonass (Code v) h = absurd h
bits_back Glonass (Data d r) h = ap₂ Data (omega (arith, h.0, h.1)) (omega (arith, h.0, h.1))

back-bits : (s : System) (v : ℕ) → health_bits (condition_of s v) ≡ v
unfolding condition_of health_bits
back-bits Gps v = refl
back-bits Glonass v = omega arith

-- what the types of the fields say of every entry, and that its health is a byte of the system
abbrev pub Typed : System → SatelliteHealth → Type 0
Typed s e = Within (few sizes) (numbers e) × Byte s e.health

again : (s : System) (bs : List ℕ) → numbers (meant s (sized_in (few sizes) bs)) ≡ sized_in (few sizes) bs
unfolding sized_in number_in
again s bs = rw (back-bits s (get_or (sized_in (few sizes) bs) 3 0))

pub faithful : (s : System) → Faithful (row s) (Typed s)
faithful s = table-faithful sizes (meant s) numbers (Typed s) (λ e t. t.0) (λ e t. rw (bits_back s e.health t.1)) (again s)
