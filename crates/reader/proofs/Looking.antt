-- What a look at a word computes against the definition: the preamble, the test, and the counters. Assumes nothing.
use Rattle.std.proofs.Common.{◌≡◌, ℕ, zero, suc, ◌%◌, Bool, true, false, cond, not, List, Result, Ok, Err, sym, refl, ap, ◌∙◌, arith}
use lib.Count.{ones}
use borrow.Author.Tests.{not-true, not-false}
use Rattle.bits.specs.Bits.{odd, is_nonzero, is_odd}
use Rattle.word.specs.Word.{data_of, remainder_of, passes}
use Rattle.word.specs.Answer.{tested_by}
use Rattle.word.proofs.Testing.{tested-passed, tested-failed, ones_odd}
use Rattle.frame.specs.Header.{preambled}
use Rattle.stream.specs.Standing.{right}
use Rattle.stream.specs.Verdict.{fault_of}
use Rattle.reader.specs.Hunting.{counted_as, counted_by, headless_at, looked_at}
use Rattle.reader.specs.declared.Tally.{Tally}
use Rattle.std.specs.Prelude.{Result, Ok, Err}

-- ---- counting

pub none-odd : (n : ℕ) → n % 2 ≡ 0 → is_odd n ≡ false
none-odd n e = ap is_nonzero e

pub one-odd : (n : ℕ) → (n % 2 ≡ 0 → ⊥) → is_odd n ≡ true
one-odd n f = ap is_nonzero one
  where
    one : n % 2 ≡ 1
    one = omega (arith, f)

-- ---- the look

pub headless-later : (k : ℕ) (w : List Bool) → (k ≡ 0 → ⊥) → false ≡ headless_at k w
headless-later zero w f = absurd (f refl)
headless-later (suc k) w f = refl

pub headless-first : (k : ℕ) (w : List Bool) → k ≡ 0 → not (preambled (data_of w)) ≡ headless_at k w
headless-first k w z = rw z

module _ (k : ℕ) (w : List Bool) (t : Tally) where
  -- without the preamble the word is not right, and its position is not counted
  pub look-headless : headless_at k w ≡ true → Err t ≡ looked_at k w t
  unfolding right fault_of
  look-headless = go k
    where
      go : (k : ℕ) → headless_at k w ≡ true → Err t ≡ looked_at k w t
      go zero e = rw (not-true (preambled (data_of w)) e)
      go (suc k) e = absurd (let z : ◌≡◌ {A = ℕ} 0 1 = cc in omega arith)

  -- else it is right exactly where it passes, and fails with its remainder
  with-head : (k : ℕ) → headless_at k w ≡ false → cond (passes w) (Ok (tt {0})) (Err (counted_as t (odd (remainder_of w)))) ≡ looked_at k w t
  unfolding right fault_of
  with-head zero e = rw (not-false (preambled (data_of w)) e)
  with-head (suc k) e = refl

  module _ (h : headless_at k w ≡ false) (x : Result (Unit {0}) ℕ) (is : x ≡ tested_by w) where
    pub look-right : x ≡ (Ok tt) → Ok (tt {0}) ≡ looked_at k w t
    look-right e = ap (λ p. cond p (Ok (tt {0})) (Err (counted_as t (odd (remainder_of w))))) (sym (tested-passed w (sym is ∙ e))) ∙ with-head k h

    pub look-wrong : (r : ℕ) → x ≡ Err r → (y : Tally) → y ≡ counted_as t (is_odd (ones r)) → Err y ≡ looked_at k w t
    look-wrong r e y ey =
        let f = tested-failed w r (sym is ∙ e) in
        ap Err (ey ∙ ap (counted_as t) (ones_odd r w f.is))
        ∙ ap (λ p. cond p (Ok (tt {0})) (Err (counted_as t (odd (remainder_of w))))) (sym f.fails)
        ∙ with-head k h

  -- what the hunt makes of it
  pub looked-right : (x : Result (Unit {0}) Tally) → x ≡ looked_at k w t → x ≡ Ok (tt {0}) → right k w ≡ true
  looked-right x is e = go (right k w) refl (sym is ∙ e)
    where
      go : (b : Bool) → right k w ≡ b → cond b (Ok (tt {0})) (Err (counted_by t (fault_of k w))) ≡ Ok (tt {0}) → b ≡ true
      go true q f = refl
      go false q f = absurd (let z : ◌≡◌ {A = ℕ} 0 1 = cc in omega arith)

  pub looked-wrong : (x : Result (Unit {0}) Tally) → x ≡ looked_at k w t → (y : Tally) → x ≡ Err y → (right k w ≡ false) × (counted_by t (fault_of k w) ≡ y)
  looked-wrong x is y e = go (right k w) refl (sym is ∙ e)
    where
      go : (b : Bool) → right k w ≡ b → cond b (Ok (tt {0})) (Err (counted_by t (fault_of k w))) ≡ Err y → (b ≡ false) × (counted_by t (fault_of k w) ≡ y)
      go true q f = absurd (let z : ◌≡◌ {A = ℕ} 0 1 = cc in omega arith)
      go false q f = (refl, cc)
