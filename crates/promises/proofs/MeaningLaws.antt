-- What the values of types 18 and 19 say, in the order of their refusals. Assumes nothing.
use mathlib.Core.Path.{◌≡◌, refl}
use mathlib.Core.Bool.{Bool, true, false, not, cond}
use mathlib.Core.List.{[], ◌∷◌}
use Prim.Native.Nat.{ℕ}
use lib.Dec.{ltb, eqb}
use Rattle.answer.specs.Order.{refuses, answers, in_order}
use Rattle.answer.proofs.OrderLaws.{says-order}
use Rattle.frame.specs.declared.Layout.TheVariants as layout
use Rattle.record_stages.specs.Stages.{other_layout}
use Rattle.record_observations.specs.declared.Edition.{Edition}
use Rattle.record_observations.specs.declared.Edition.TheVariants.{Gost, Bd}
use Rattle.record_observations.specs.declared.Quantity.{Quantity}
use Rattle.record_observations.specs.declared.Quantity.TheVariants as quantity
use Rattle.record_observations.specs.declared.Mark.{Mark}
use Rattle.record_observations.specs.declared.Mark.TheVariants.{Half, Reserved, More}
use Rattle.record_observations.specs.declared.meanings.Frequency.TheVariants as frequency
use Rattle.record_observations.specs.declared.meanings.Step.TheVariants as step
use Rattle.record_observations.specs.Editions.{quantity_of, mark_number}
use Rattle.record_observations.specs.Meanings.{first_code, other_band, band_of, frequency_of, step_of, phase_step, says_frequency, says_step}

-- a band is no refusal
as-band : (e : Edition) (q : Quantity) (c : ℕ) → says_frequency (band_of e q c) ≡ answers (band_of e q c)
unfolding first_code other_band
as-band Gost q c = go (eqb c 0) (eqb c 2) (eqb c 3) q
  where
    go : (a b d : Bool) (p : Quantity)
        → let x = cond a frequency.L1 (cond b frequency.L2 (cond d frequency.Special (first_code p))) in says_frequency x ≡ answers x
    go true b d p = refl
    go false true d p = refl
    go false false true p = refl
    go false false false quantity.Phase = refl
    go false false false quantity.Range = refl
as-band Bd q c = go (eqb c 0) (eqb c 2)
  where
    go : (a b : Bool) → let x = cond a frequency.L1 (cond b frequency.L2 frequency.Reserved) in says_frequency x ≡ answers x
    go true b = refl
    go false true = refl
    go false false = refl

pub frequency-says : (e : Edition) (kind c : ℕ)
    → says_frequency (frequency_of e kind c)
    ≡ in_order ((other_layout layout.Observation kind, 6) ∷ (ltb 3 c, 10) ∷ []) refuses (answers (band_of e (quantity_of kind) c))
unfolding frequency_of
frequency-says e kind c =
    says-order says_frequency frequency.Refused (λ n. refl) (band_of e (quantity_of kind) c) ((other_layout layout.Observation kind, 6) ∷ (ltb 3 c, 10) ∷ [])
    (as-band e (quantity_of kind) c)

-- nor is a step
as_step : (m : Mark) → says_step (step_of m) ≡ answers (step_of m)
unfolding step_of
as_step (Half b) = go (eqb b 1)
  where
    go : (t : Bool) → says_step (cond t step.HalfWavelength128 step.Wavelength256) ≡ answers (cond t step.HalfWavelength128 step.Wavelength256)
    go true = refl
    go false = refl
as_step (Reserved b) = refl
as_step (More b) = refl

pub step-says : (e : Edition) (kind : ℕ) (m : Mark)
    → says_step (phase_step e kind m) ≡ in_order ((not (eqb kind 18), 6) ∷ (ltb 1 (mark_number e quantity.Phase m), 10) ∷ []) refuses (answers (step_of m))
unfolding phase_step
step-says e kind m =
    says-order says_step step.Refused (λ n. refl) (step_of m) ((not (eqb kind 18), 6) ∷ (ltb 1 (mark_number e quantity.Phase m), 10) ∷ []) (as_step m)
