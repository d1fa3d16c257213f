-- What the layout of types 16 and 36 owes: the three laws on codes, what the check for 11 says of a text of either system, and zeros at the
-- end. Assumes nothing.
use mathlib.Core.Path.{◌≡◌, refl}
use mathlib.Core.Bool.{false}
use mathlib.Core.List.{List, [], ◌∷◌}
use Prim.Native.Nat.{ℕ, zero, suc, ◌*◌, ◌^◌, ◌≤◌, ◌<◌}
use native.Mathlib.Omega.{arith}
use lib.Dec.{ltb}
use lib.ListN.{length, get_or, replicate}
use borrow.Author.Tests.{ltb-false}
use Rattle.bits.specs.Bits.{bits}
use Rattle.bits.specs.Rows.{packed_rows, AllFit, fill_of}
use Rattle.frame.specs.Widths.{any_of}
use Rattle.frame.specs.declared.System.{System}
use Rattle.frame.specs.declared.System.TheVariants.{Gps, Glonass}
use Rattle.frame.proofs.WidthLaws.{both_false}
use Rattle.record_fields.specs.Coding.{rows_of, Each}
use Rattle.record_fields.proofs.Faithful.{Faithful}
use Rattle.record_fields.proofs.TableRound.{fit-places}
use Rattle.record_texts.specs.Texts.{widths, coding, fill, last_code, forbidden}

-- ---- the three laws on codes

abbrev pub Good : ℕ → Type 0
Good c = c < 2 ^ 8

pub faithful : Faithful coding Good
faithful = record { meant-codes = λ c g. refl; fit-codes = λ c g. (g, tt); codes-meant = fit-places widths }

-- every last code is of eight bits
last_fits : (s : System) → last_code s < 2 ^ 8
unfolding last_code
last_fits Gps = omega arith
last_fits Glonass = omega arith

module _ (s : System) where
  pub allowed : (c : ℕ) → forbidden s c ≡ false → (1 ≤ c) × (c ≤ last_code s)
  allowed c e = let b = both_false (ltb c 1) (ltb (last_code s) c) e in (ltb-false c 1 b.0, ltb-false (last_code s) c b.1)

  pub all-good : (t : List ℕ) → any_of (forbidden s) t ≡ false → Each Good t
  all-good [] e = tt
  all-good (c ∷ t) e =
      let b = both_false (forbidden s c) (any_of (forbidden s) t) e in
      (omega (arith, (allowed c b.0).1, last_fits s), all-good t b.1)

  -- a character of an allowed text is not 0
  pub not-zero : (t : List ℕ) (i : ℕ) → any_of (forbidden s) t ≡ false → i < length t → get_or t i 0 ≡ 0 → ⊥
  not-zero [] i e h z = omega arith
  not-zero (c ∷ t) zero e h z = let b = both_false (forbidden s c) (any_of (forbidden s) t) e in omega (arith, (allowed c b.0).0, z)
  not-zero (c ∷ t) (suc i) e h z = let b = both_false (forbidden s c) (any_of (forbidden s) t) e in not-zero t i b.1 (omega arith) z

-- ---- zeros at the end

pub zeros-fit : (k : ℕ) → AllFit widths (rows_of coding (replicate k 0))
zeros-fit zero = tt
zeros-fit (suc k) = ((omega arith, tt), zeros-fit k)

pub zeros-at : (k j : ℕ) → j < k → get_or (rows_of coding (replicate k 0)) j [] ≡ 0 ∷ []
zeros-at zero j h = absurd (omega arith)
zeros-at (suc k) zero h = refl
zeros-at (suc k) (suc j) h = zeros-at k j (omega arith)

-- fill of whole characters is characters 0
pub zeros-fill : (k : ℕ) → k ≤ 2 → fill_of fill (8 * k) ≡ packed_rows widths (rows_of coding (replicate k 0))
unfolding fill_of bits
zeros-fill zero h = refl
zeros-fill (suc zero) h = refl
zeros-fill (suc (suc zero)) h = refl
zeros-fill (suc (suc (suc k))) h = absurd (omega arith)
