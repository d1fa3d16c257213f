-- What numbers of types 18 and 19 stand for where the editions or the types tell it differently. Assumes nothing.
use Rattle.std.specs.Prelude.{cond, not, [], ◌∷◌, ℕ, ltb, eqb}
use Rattle.answer.specs.Order.{Says, refuses, answers, in_order}
use Rattle.frame.specs.declared.Layout.TheVariants as layout
use Rattle.record_stages.specs.Stages.{other_layout}
use Rattle.record_observations.specs.declared.Edition.{Edition}
use Rattle.record_observations.specs.declared.Edition.TheVariants.{Gost, Bd}
use Rattle.record_observations.specs.declared.Quantity.{Quantity}
use Rattle.record_observations.specs.declared.Quantity.TheVariants as quantity
use Rattle.record_observations.specs.declared.Mark.{Mark}
use Rattle.record_observations.specs.declared.Mark.TheVariants.{Half, Reserved, More}
use Rattle.record_observations.specs.declared.meanings.Frequency.{Frequency}
use Rattle.record_observations.specs.declared.meanings.Frequency.TheVariants as frequency
use Rattle.record_observations.specs.declared.meanings.Step.{Step}
use Rattle.record_observations.specs.declared.meanings.Step.TheVariants as step
use Rattle.record_observations.specs.Editions.{quantity_of, mark_number}

-- FREQUENCY CODES: 0 is L1 and 2 is L2 in both editions; 1 and 3 are reserved in BD, and have a meaning in GOST
unfoldable pub first_code : Quantity → Frequency
first_code quantity.Phase = frequency.Difference
first_code quantity.Range = frequency.IonosphereFree

unfoldable pub other_band : Edition → Quantity → ℕ → Frequency
other_band Gost q c = cond (eqb c 3) frequency.Special (first_code q)
other_band Bd q c = frequency.Reserved

abbrev pub band_of : Edition → Quantity → ℕ → Frequency
band_of e q c = cond (eqb c 0) frequency.L1 (cond (eqb c 2) frequency.L2 (other_band e q c))

-- of a type: 6, 10
unfoldable pub frequency_of : Edition → ℕ → ℕ → Frequency
frequency_of e kind c = in_order ((other_layout layout.Observation kind, 6) ∷ (ltb 3 c, 10) ∷ []) frequency.Refused (band_of e (quantity_of kind) c)

-- THE STEP OF A PHASE: a 256th of a wavelength, but where the mark says half a wavelength
abbrev pub half_step : ℕ → Step
half_step b = cond (eqb b 1) step.HalfWavelength128 step.Wavelength256

unfoldable pub step_of : Mark → Step
step_of (Half b) = half_step b
step_of (Reserved b) = step.Wavelength256
step_of (More b) = step.Wavelength256

-- of a type: 6 for one that has no phase, 10 for a mark that a phase does not have in the edition
unfoldable pub phase_step : Edition → ℕ → Mark → Step
phase_step e kind m = in_order ((not (eqb kind 18), 6) ∷ (ltb 1 (mark_number e quantity.Phase m), 10) ∷ []) step.Refused (step_of m)

-- ---- in the table's terms

abbrev pub says_frequency : Frequency → Says Frequency
says_frequency frequency.L1 = answers frequency.L1
says_frequency frequency.L2 = answers frequency.L2
says_frequency frequency.Difference = answers frequency.Difference
says_frequency frequency.IonosphereFree = answers frequency.IonosphereFree
says_frequency frequency.Special = answers frequency.Special
says_frequency frequency.Reserved = answers frequency.Reserved
says_frequency (frequency.Refused n) = refuses n

abbrev pub says_step : Step → Says Step
says_step step.Wavelength256 = answers step.Wavelength256
says_step step.HalfWavelength128 = answers step.HalfWavelength128
says_step (step.Refused n) = refuses n
