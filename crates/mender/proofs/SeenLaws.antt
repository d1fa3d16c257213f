-- What a step saw where it says what it found. Assumes nothing.
use Rattle.std.specs.Prelude.{Ok, Err}
use Rattle.std.proofs.Common.{◌≡◌, ℕ, ◌+◌, ◌*◌, ◌≤◌, Bool, true, false, cond, not, eqb, ltb, List, length, refl, ltb-false, eqb-true}
use mathlib.Core.Bool.{and-eq-true_iff}
use borrow.Author.Tests.{not-true}
use Rattle.journal.specs.Forms.{unmarked}
use Rattle.mender.specs.Records.{count_of, extent_of, reads, windows_of, spoilt, record_for, whole}
use Rattle.mender.specs.Steps.{judged_at, sought, step_by}
use Rattle.mender.specs.declared.record.NoEnd.TheVariants as none
use Rattle.mender.specs.declared.Step.{Step}
use Rattle.mender.specs.declared.Step.TheVariants.{End, Whole, Lost, Cut, Numberless, Passed}

-- a record at a mark whose bytes are all there
pub record AllThere (bs : List ℕ) (size : ℕ) : Type 0 where
  pub marked : unmarked 0x34 bs ≡ false
  pub few : count_of bs ≤ 31
  pub size_is : size ≡ 4 * count_of bs + 11
  pub there : size ≤ length bs

-- what was seen
abbrev pub Saw : List ℕ → Step → Type 0
Saw bs End = length bs ≡ 0
Saw bs (Whole size) = AllThere bs size × (whole (count_of bs) bs ≡ true)
Saw bs (Lost size) = AllThere bs size
Saw bs Cut = Unit {0}
Saw bs Numberless = (unmarked 0x34 bs ≡ false) × (11 ≤ length bs)
Saw bs Passed = Unit {0}

saw-sought : (s : Bool) (bs : List ℕ) (step : Step) → Saw bs step → Saw bs (sought s step)
saw-sought false bs step h = h
saw-sought true bs End h = tt
saw-sought true bs (Whole size) h = h
saw-sought true bs (Lost size) h = tt
saw-sought true bs Cut h = tt
saw-sought true bs Numberless h = tt
saw-sought true bs Passed h = tt

module _ (bs : List ℕ) (m : unmarked 0x34 bs ≡ false) where
  saw-there : count_of bs ≤ 31 → 4 * count_of bs + 11 ≤ length bs → Saw bs (judged_at (Ok (count_of bs)) bs)
  saw-there h l = go (whole (count_of bs) bs) refl
    where
      all : AllThere bs (4 * count_of bs + 11)
      all = record { marked = m; few = h; size_is = refl; there = l }

      go : (t : Bool) → whole (count_of bs) bs ≡ t → Saw bs (cond t (Whole (4 * count_of bs + 11)) (Lost (4 * count_of bs + 11)))
      go true e = (all, e)
      go false e = all

  saw-place : Saw bs (judged_at (extent_of bs) bs)
  unfolding extent_of
  saw-place = go (ltb (length bs) 11) refl (ltb 31 (count_of bs)) refl (ltb (length bs) (4 * count_of bs + 11)) refl
    where
      go : (a : Bool) → ltb (length bs) 11 ≡ a → (b : Bool) → ltb 31 (count_of bs) ≡ b → (c : Bool) → ltb (length bs) (4 * count_of bs + 11) ≡ c
          → Saw bs (judged_at (cond a (Err none.Cut) (cond b (Err none.Numberless) (cond c (Err none.Cut) (Ok (count_of bs))))) bs)
      go true ea b eb c ec = tt
      go false ea true eb c ec = (m, ltb-false (length bs) 11 ea)
      go false ea false eb true ec = tt
      go false ea false eb false ec = saw-there (ltb-false 31 (count_of bs) eb) (ltb-false (length bs) (4 * count_of bs + 11) ec)

-- EVERY STEP saw what it says
pub saw : (s : Bool) (bs : List ℕ) → Saw bs (step_by s bs)
unfolding step_by
saw s bs = go (eqb (length bs) 0) refl (unmarked 0x34 bs) refl
  where
    go : (a : Bool) → eqb (length bs) 0 ≡ a → (u : Bool) → unmarked 0x34 bs ≡ u
        → Saw bs (cond a End (cond u Passed (sought s (judged_at (extent_of bs) bs))))
    go true ea u eu = eqb-true (length bs) 0 ea
    go false ea true eu = tt
    go false ea false eu = saw-sought s bs (judged_at (extent_of bs) bs) (saw-place bs eu)

-- a whole record has no broken word, and reads after mending
pub whole_parts : (n : ℕ) (bs : List ℕ) → whole n bs ≡ true → (spoilt (windows_of n bs) ≡ false) × (reads (record_for n bs) ≡ true)
unfolding whole
whole_parts n bs e =
    let both = (and-eq-true_iff (not (spoilt (windows_of n bs))) (reads (record_for n bs))).0 e in
    (not-true (spoilt (windows_of n bs)) both.0, both.1)
