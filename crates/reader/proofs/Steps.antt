-- The hunt over the buffer, one test at a time: what the loops of `seek` and `hunt` go by. Assumes nothing.
use Rattle.std.proofs.Common.{◌≡◌, ℕ, suc, ◌+◌, ◌-◌, ◌*◌, ◌<◌, ◌≤◌, Bool, true, false, List, length, take, drop, sym, ap, ◌∙◌, ap₂, arith, take-take}
use Rattle.bits.specs.Bits.{number, bits}
use Rattle.bits.proofs.Numbers.{bits-number}
use Rattle.word.specs.Word.{data_of}
use Rattle.frame.specs.Header.{preambled, n_of}
use Rattle.stream.specs.Standing.{word_at, right, n_at, size}
use Rattle.stream.specs.Verdict.{headless, fault_of, with_fault, hunt}
use Rattle.stream.proofs.Words.{word-long}
use Rattle.stream.proofs.HuntSteps.{hunt-next, hunt-whole, hunt-out, hunt-wait, hunt-cut, hunt-none}
use Rattle.reader.specs.Cells.{cell_bits, held_bits}
use Rattle.reader.specs.Hunting.{counted_by, tallied, halt_of, hunt_of}
use Rattle.reader.specs.declared.Tally.{Tally}
use Rattle.reader.proofs.Buffer.{length-held, held_word, held-bit, held-drop, held_none, drop-take}
use Rattle.reader.proofs.Leaves.{no-preamble}

-- a first word without the preamble is not right
no-first : (w : List Bool) → preambled (data_of w) ≡ false → right 0 w ≡ false
unfolding right
no-first w e = rw e

-- and its position is not counted
no-fault : (w : List Bool) → preambled (data_of w) ≡ false → fault_of 0 w ≡ headless
unfolding fault_of
no-fault w e = rw e

-- what a window reads
abbrev pub seen : List ℕ → ℕ → ℕ
seen cells i = number (take 32 (drop i (cell_bits cells)))

module _ (cells : List ℕ) (len : length cells ≡ 40) (end : ℕ) (top : end ≤ 1280) (left : ℕ) (low : left ≤ end) where
  long : length (held_bits cells end left) ≡ left
  long = length-held cells end left len top low

  -- the bits from the next position on
  next-bits : 0 < left → drop 1 (held_bits cells end left) ≡ held_bits cells end (left - 1)
  next-bits h = ap (λ n. drop 1 (held_bits cells end n)) up ∙ held-drop cells end (left - 1) (omega arith)
    where
      up : left ≡ suc (left - 1)
      up = omega arith

  pub word-is : (k w : ℕ) → 32 + 30 * k ≤ left → w ≡ seen cells (end - left + 30 * k) → bits 32 w ≡ word_at k (held_bits cells end left)
  word-is k w c e =
      rw (e, ← (held_word cells end left (30 * k) (omega arith) low))
      (bits-number 32 (word_at k (held_bits cells end left)) (word-long k (held_bits cells end left) (omega (arith, long))))

  pub n-is : (w n : ℕ) → 62 ≤ left → w ≡ seen cells (end - left + 30) → n ≡ n_of (data_of (bits 32 w)) → n ≡ n_at (held_bits cells end left)
  unfolding n_at
  n-is w n c e f = f ∙ ap (λ x. n_of (data_of x)) (word-is 1 w c e)

  module _ (e : Bool) (t : Tally) (k w : ℕ) (low-k : k ≤ 32) (c : 32 + 30 * k ≤ left) (is : w ≡ seen cells (end - left + 30 * k)) where
    here : 32 + 30 * k ≤ length (held_bits cells end left)
    here = omega (arith, long)

    pub step-next : right k (bits 32 w) ≡ true → suc k < size (held_bits cells end left) → hunt_of cells end left k e t ≡ hunt_of cells end left (suc k) e t
    unfolding hunt_of
    step-next r l = ap (halt_of t) (hunt-next e k low-k (held_bits cells end left) here (ap (right k) (sym (word-is k w c is)) ∙ r) l)

    pub step-whole : right k (bits 32 w) ≡ true → size (held_bits cells end left) ≤ suc k
        → hunt_of cells end left k e t ≡ record { left = left; words = 0; found = true; tally = t }
    unfolding hunt_of halt_of tallied
    step-whole r l = rw (hunt-whole e k low-k (held_bits cells end left) here (ap (right k) (sym (word-is k w c is)) ∙ r) l, long)

    -- and its position is counted
    pub step-out : right k (bits 32 w) ≡ false → hunt_of cells end left k e t ≡ hunt_of cells end (left - 1) 0 e (counted_by t (fault_of k (bits 32 w)))
    unfolding hunt_of halt_of tallied
    step-out r =
        ap (halt_of t)
        (hunt-out e k low-k (held_bits cells end left) here (ap (right k) (sym (word-is k w c is)) ∙ r)
        ∙ ap₂ (λ u d. with_fault (fault_of k u) (hunt e 0 d)) (sym (word-is k w c is)) (next-bits (omega arith)))

  -- no preamble stands at the candidate
  nine-held : 32 ≤ left → number (take 9 (drop (end - left + 1) (cell_bits cells))) ≡ number (take 9 (drop 1 (word_at 0 (held_bits cells end left))))
  nine-held c =
      ap number (sym (ap (take 9) (drop-take 1 31 (held_bits cells end left)) ∙ take-take 9 31 (drop 1 (held_bits cells end left)) (omega arith)
      ∙ held-bit cells end left 1 9 (omega arith) low))

  pub step-seek : (ended : Bool) (y : Tally) (k t : ℕ) → k ≡ 0 → 32 ≤ left → t ≡ number (take 9 (drop (end - left + 1) (cell_bits cells)))
      → (t ≡ 102 → ⊥) → (t ≡ 409 → ⊥)
      → hunt_of cells end left k ended y ≡ hunt_of cells end (left - 1) k ended y
  unfolding hunt_of halt_of tallied
  step-seek ended y k t z c e f g =
      rw z (ap (halt_of y)
      (hunt-out ended 0 (omega arith) (held_bits cells end left) (omega (arith, long)) (no-first (word_at 0 (held_bits cells end left)) none)
      ∙ ap₂ (λ u d. with_fault u (hunt ended 0 d)) (no-fault (word_at 0 (held_bits cells end left)) none) (next-bits (omega arith))))
    where
      is : t ≡ number (take 9 (drop 1 (word_at 0 (held_bits cells end left))))
      is = e ∙ nine-held c

      none : preambled (data_of (word_at 0 (held_bits cells end left))) ≡ false
      none =
          no-preamble (word_at 0 (held_bits cells end left)) (word-long 0 (held_bits cells end left) (omega (arith, long))) (λ x. f (is ∙ x)) (λ x. g (is ∙ x))

  pub step-wait : (t : Tally) (k : ℕ) → k ≤ 32 → left < 32 + 30 * k
      → hunt_of cells end left k false t ≡ record { left = left; words = k; found = false; tally = t }
  unfolding hunt_of halt_of tallied
  step-wait t k h c = rw (hunt-wait k (held_bits cells end left) h (omega (arith, long)), long)

  pub step_cut : (t : Tally) (k : ℕ) → k ≤ 32 → 0 < left → left < 32 + 30 * k → hunt_of cells end left k true t ≡ hunt_of cells end (left - 1) 0 true t
  unfolding hunt_of
  step_cut t k h l c =
      ap (halt_of t) (hunt-cut k (held_bits cells end left) h (omega (arith, long)) (omega (arith, long)) ∙ ap (hunt true 0) (next-bits (omega arith)))

pub step-none : (cells : List ℕ) (end : ℕ) (e : Bool) (t : Tally) (k : ℕ)
    → hunt_of cells end 0 k e t ≡ record { left = 0; words = k; found = false; tally = t }
unfolding hunt_of halt_of tallied
step-none cells end e t k = rw (held_none cells end, hunt-none e k)
