-- Where the next word of a candidate is the last that has come and is right, the hunt stops there. Assumes nothing.
use Rattle.std.proofs.Common.{◌≡◌, ℕ, suc, ◌+◌, ◌-◌, ◌*◌, ◌<◌, ◌≤◌, Bool, true, false, ◌&&◌, eqb, leb, List, length, Some, sym, ap, ◌∙◌, add-one, arith, leb-false, leb-true}
use borrow.Author.Tests.{not-false}
use Rattle.bits.specs.Bits.{bits}
use Rattle.word.specs.Word.{passes}
use Rattle.stream.specs.Standing.{right, size}
use Rattle.stream.proofs.Words.{n-lt}
use Rattle.reader.specs.Cells.{held_bits}
use Rattle.reader.specs.Hunting.{headless_at, GlancedAt}
use Rattle.reader.specs.declared.Tally.{Tally}
use Rattle.reader.specs.declared.hunt.Halt.{Halt}
use Rattle.reader.proofs.Looking.{headless-first}
use Rattle.reader.proofs.Steps.{seen, step-next, step-whole, step-wait}
use Rattle.reader.proofs.Remembering.{right-known}
use Rattle.reader.proofs.TakeLaws.{zero-pass}

-- with all words of its frame there, or with one word more known
abbrev pub stop : ℕ → ℕ → Tally → Bool → Halt
stop left k t true = record { left = left; words = 0; found = true; tally = t }
stop left k t false = record { left = left; words = k + 1; found = false; tally = t }

-- the word w has its preamble, and nothing is left of it when it is divided, beside any other word
module _ (cells : List ℕ) (len : length cells ≡ 40) (end : ℕ) (top : end ≤ 1280) (left : ℕ) (low : left ≤ end) (t : Tally) (k w : ℕ) (few : k ≤ 32)
    (come : 32 + 30 * k ≤ left) (is : w ≡ seen cells (end - left + 30 * k)) (head : headless_at k (bits 32 w) ≡ false)
    (x : ℕ) (beside : Bool) (divided : eqb x 0 ≡ passes (bits 32 w) && beside) (none : x ≡ 0) where
  good : right k (bits 32 w) ≡ true
  good =
      right-known k (bits 32 w) (λ z. not-false _ (headless-first k (bits 32 w) z ∙ head)) (zero-pass x (passes (bits 32 w)) beside divided none).0

  pub stops-here : left < 62 + 30 * k → (all : Bool) → leb (size (held_bits cells end left)) (k + 1) ≡ all
      → GlancedAt cells end left k t (Some (stop left k t all))
  stops-here short true l = (sym (step-whole cells len end top left low false t k w few come is good (omega (arith, whole))), omega arith)
    where
      whole : size (held_bits cells end left) ≤ k + 1
      whole = leb-true (size (held_bits cells end left)) (k + 1) l
  stops-here short false l = (
    ap (λ m. record { left = left; words = m; found = false; tally = t }) (add-one k)
        ∙ sym (step-next cells len end top left low false t k w few come is good (omega (arith, more))
        ∙ step-wait cells len end top left low t (suc k) (omega (arith, more, n-lt (held_bits cells end left))) (omega arith)),
    omega arith,
  )
    where
      more : k + 1 < size (held_bits cells end left)
      more = leb-false (size (held_bits cells end left)) (k + 1) l
