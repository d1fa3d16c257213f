-- Windows that failed are remembered within a hunt: what passed before them need not be looked at again. Assumes nothing.
use Rattle.std.proofs.Common.{◌≡◌, ℕ, zero, suc, ◌+◌, ◌-◌, ◌*◌, ◌/◌, ◌%◌, ◌<◌, ◌≤◌, Bool, true, false, cond, ◌&&◌, eqb, List, length, get_or, set, replicate, sym, refl, ap, ◌∙◌, subst, arith, length-set, get_or-set_other, get_or-set_same, below_more, eqb-true}
use borrow.Author.Tests.{eqb-false}
use Rattle.bits.specs.Bits.{bits}
use Rattle.word.specs.Word.{data_of, passes}
use Rattle.frame.specs.Header.{preambled}
use Rattle.stream.specs.Standing.{right, n_at}
use Rattle.stream.proofs.Words.{right-later, right-at-first, n-lt}
use Rattle.reader.specs.Cells.{held_bits}
use Rattle.reader.specs.Hunting.{hunt_of, passes_at, Passing, Remembered, remembered_by}
use Rattle.reader.specs.declared.Tally.{Tally}
use Rattle.reader.proofs.Steps.{seen, step-next}

-- ---- what is remembered

-- at the start nothing is
get_d-none : (i m : ℕ) → get_or (replicate {A = ℕ} m 0) i 0 ≡ 0
get_d-none i zero = refl
get_d-none zero (suc m) = refl
get_d-none (suc i) (suc m) = get_d-none i m

pub nothing_yet : (cells : List ℕ) (end bit : ℕ) → Remembered cells end bit (replicate 30 0)
nothing_yet cells end bit x h l = absurd (omega (arith, l, get_d-none (x % 30) 30))

-- from a later bit on it still holds
pub further : (cells : List ℕ) (end bit next : ℕ) (fails : List ℕ) → bit ≤ next → Remembered cells end bit fails → Remembered cells end next fails
further cells end bit next fails h r x l b = r x (omega arith) b

-- one word more passes
pub passing-more : (cells : List ℕ) (bit k w : ℕ) → Passing cells bit k → w ≡ seen cells (bit + 30 * k) → passes (bits 32 w) ≡ true → Passing cells bit (k + 1)
passing-more cells bit k w p e q = below_more (λ j. passes_at cells (bit + 30 * j) ≡ true) k p (ap (λ v. passes (bits 32 v)) (sym e) ∙ q)

pub length-remembered : (fails : List ℕ) (began : Bool) (bit k : ℕ) → length (remembered_by fails began bit k) ≡ length fails
unfolding remembered_by
length-remembered fails true bit k = refl
length-remembered fails false bit k = go (eqb k 0)
  where
    go : (t : Bool) → length (cond t fails (set fails (bit % 30) (bit + 30 * k))) ≡ length fails
    go true = refl
    go false = length-set fails (bit % 30) (bit + 30 * k)

-- A WINDOW MORE, of word k, after k words that pass
module _ (cells : List ℕ) (end bit k : ℕ) (fails : List ℕ) (len : length fails ≡ 30) (come : bit + 30 * k + 32 ≤ end)
    (before : Remembered cells end bit fails) where
  set_here : Passing cells bit k → Remembered cells end (bit + 1) (set fails (bit % 30) (bit + 30 * k))
  set_here pass x l b = go (eqb (x % 30) (bit % 30)) refl
    where
      go : (t : Bool) → eqb (x % 30) (bit % 30) ≡ t → (x + 32 ≤ end) × (passes_at cells x ≡ true)
      go true q = (omega (arith, low), ap (passes_at cells) at ∙ pass ((x - bit) / 30) (omega (arith, low, at)))
        where
          e : x % 30 ≡ bit % 30
          e = eqb-true (x % 30) (bit % 30) q

          low : x < bit + 30 * k
          low =
              subst (λ m. x < m) (ap (λ i. get_or (set fails (bit % 30) (bit + 30 * k)) i 0) e ∙ get_or-set_same fails (bit % 30) (bit + 30 * k) 0 (omega arith)) b

          at : x ≡ bit + 30 * ((x - bit) / 30)
          at = omega (arith, e)
      go false q =
          before x (omega arith) (subst (λ m. x < m) (get_or-set_other fails (bit % 30) (x % 30) (bit + 30 * k) 0 (eqb-false (x % 30) (bit % 30) q)) b)

  pub remembered-more : (began : Bool) → (began ≡ false → Passing cells bit k) → Remembered cells end (bit + 1) (remembered_by fails began bit k)
  unfolding remembered_by
  remembered-more true pass = further cells end bit (bit + 1) fails (omega arith) before
  remembered-more false pass = go (eqb k 0)
    where
      go : (t : Bool) → Remembered cells end (bit + 1) (cond t fails (set fails (bit % 30) (bit + 30 * k)))
      go true = further cells end bit (bit + 1) fails (omega arith) before
      go false = set_here (pass refl)

-- ---- what is known of the next candidate

-- words that pass are right, with the preamble in the first
pub right-known : (k : ℕ) (w : List Bool) → (k ≡ 0 → preambled (data_of w) ≡ true) → passes w ≡ true → right k w ≡ true
right-known zero w h p = right-at-first 0 w refl ∙ ap (λ b. b && passes w) (h refl) ∙ p
right-known (suc k) w h p = right-later (suc k) w (λ z. omega arith) ∙ p

module _ (cells : List ℕ) (len : length cells ≡ 40) (end : ℕ) (top : end ≤ 1280) (left : ℕ) (low : left ≤ end) where
  abbrev Knows : ℕ → Type 0
  Knows r = (r ≤ 32) × Passing cells (end - left) r × ((ended : Bool) (t : Tally) → hunt_of cells end left 0 ended t ≡ hunt_of cells end left r ended t)

  pub knows-none : Knows 0
  knows-none = (omega arith, λ j h. absurd (omega arith), λ ended t. refl)

  module _ (fails : List ℕ) (before : Remembered cells end (end - left) fails) (w n fail r : ℕ) (ew : w ≡ seen cells (end - left))
      (head : preambled (data_of (bits 32 w)) ≡ true) (en : n ≡ n_at (held_bits cells end left)) (ef : fail ≤ get_or fails ((end - left) % 30) 0)
      (inside : r ≤ n + 1) (near : r ≤ (fail - (end - left)) / 30) where
    at : (j : ℕ) → j < r → (end - left + 30 * j + 32 ≤ end) × (passes_at cells (end - left + 30 * j) ≡ true)
    at j h = before (end - left + 30 * j) (omega arith) (subst (λ i. end - left + 30 * j < get_or fails i 0) phase below)
      where
        phase : (end - left) % 30 ≡ (end - left + 30 * j) % 30
        phase = omega arith

        below : end - left + 30 * j < get_or fails ((end - left) % 30) 0
        below = omega arith

    skip : (k : ℕ) → k ≤ r → (ended : Bool) (t : Tally) → hunt_of cells end left 0 ended t ≡ hunt_of cells end left k ended t
    skip zero h ended t = refl
    skip (suc k) h ended t =
        skip k (omega arith) ended t
        ∙ step-next cells len end top left low ended t k (seen cells (end - left + 30 * k)) (omega (arith, n-lt (held_bits cells end left), en))
        (omega (arith, (at k h).0)) refl (right-known k (bits 32 (seen cells (end - left + 30 * k))) first (at k h).1) (omega (arith, en))
      where
        first : k ≡ 0 → preambled (data_of (bits 32 (seen cells (end - left + 30 * k)))) ≡ true
        first z = ap (λ v. preambled (data_of (bits 32 v))) (ap (seen cells) here ∙ sym ew) ∙ head
          where
            here : end - left + 30 * k ≡ end - left
            here = omega (arith, z)

    pub knows_some : Knows r
    knows_some = (omega (arith, n-lt (held_bits cells end left), en), λ j h. (at j h).1, skip r (omega arith))
