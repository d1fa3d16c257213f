-- The counters count: position after position, they are the numbers of odd and even remainders met, modulo 2^32. Assumes nothing.
use Rattle.std.proofs.Common.{◌≡◌, ℕ, ◌+◌, ◌%◌, ◌^◌, ◌<◌, Bool, true, false, not, List, [], ◌∷◌, ◌++◌, refl, ap, ◌∙◌, ap₂, arith}
use Rattle.bits.specs.Bits.{odd, val}
use Rattle.stream.specs.Verdict.{Fault, headless, failed}
use Rattle.stream.specs.Faults.{odd_in, even_in}
use Rattle.reader.specs.Hunting.{fresh, counted_as, counted_by, tallied}
use Rattle.reader.specs.declared.Tally.{Tally}

-- what is met later is counted on
pub tallied-append : (t : Tally) (a b : List Fault) → tallied t (a ++ b) ≡ tallied (tallied t a) b
unfolding tallied
tallied-append t [] b = refl
tallied-append t (f ∷ a) b = tallied-append (counted_by t f) a b

-- counters of 32 bits stay so
pub record Narrow (t : Tally) : Type 0 where
  pub odd : t.odd < 2 ^ 32
  pub even : t.even < 2 ^ 32

counted-narrow : (t : Tally) (f : Fault) → Narrow t → Narrow (counted_by t f)
counted-narrow t headless n = n
counted-narrow t (failed r) n = go (odd r)
  where
    go : (x : Bool) → Narrow (counted_as t x)
    go true = record { odd = omega arith; even = n.even }
    go false = record { odd = n.odd; even = omega arith }

pub tallied-narrow : (t : Tally) (fs : List Fault) → Narrow t → Narrow (tallied t fs)
unfolding tallied
tallied-narrow t [] n = n
tallied-narrow t (f ∷ fs) n = tallied-narrow (counted_by t f) fs (counted-narrow t f n)

-- counters of a odd and b even ones
unfoldable pub modulo : ℕ → ℕ → Tally
modulo a b = record { odd = a % 2 ^ 32; even = b % 2 ^ 32 }

counted-as : (a b : ℕ) (x : Bool) → counted_as (modulo a b) x ≡ modulo (a + val x) (b + val (not x))
unfolding modulo
counted-as a b true = ap₂ (λ m n. record { odd = m; even = n }) one (ap (λ n. n % 2 ^ 32) none)
  where
    one : (a % 2 ^ 32 + 1) % 2 ^ 32 ≡ (a + 1) % 2 ^ 32
    one = omega arith

    none : b ≡ b + 0
    none = omega arith
counted-as a b false = ap₂ (λ m n. record { odd = m; even = n }) (ap (λ n. n % 2 ^ 32) none) one
  where
    one : (b % 2 ^ 32 + 1) % 2 ^ 32 ≡ (b + 1) % 2 ^ 32
    one = omega arith

    none : a ≡ a + 0
    none = omega arith

-- THE COUNTERS after the faults fs
pub tallied-from : (fs : List Fault) (a b : ℕ) → tallied (modulo a b) fs ≡ modulo (a + odd_in fs) (b + even_in fs)
unfolding tallied odd_in even_in
tallied-from [] a b = ap₂ modulo none-a none-b
  where
    none-a : a ≡ a + 0
    none-a = omega arith

    none-b : b ≡ b + 0
    none-b = omega arith
tallied-from (headless ∷ fs) a b = tallied-from fs a b ∙ ap₂ modulo more-a more-b
  where
    more-a : a + odd_in fs ≡ a + (0 + odd_in fs)
    more-a = omega arith

    more-b : b + even_in fs ≡ b + (0 + even_in fs)
    more-b = omega arith
tallied-from (failed r ∷ fs) a b =
    ap (λ t. tallied t fs) (counted-as a b (odd r)) ∙ tallied-from fs (a + val (odd r)) (b + val (not (odd r))) ∙ ap₂ modulo more-a more-b
  where
    more-a : a + val (odd r) + odd_in fs ≡ a + (val (odd r) + odd_in fs)
    more-a = omega arith

    more-b : b + val (not (odd r)) + even_in fs ≡ b + (val (not (odd r)) + even_in fs)
    more-b = omega arith

-- begun fresh
abbrev pub counts_of : List Fault → Tally
counts_of fs = record { odd = odd_in fs % 2 ^ 32; even = even_in fs % 2 ^ 32 }

pub tallied-counts : (fs : List Fault) → tallied fresh fs ≡ counts_of fs
unfolding modulo
tallied-counts fs = tallied-from fs 0 0 ∙ ap₂ modulo zero_a zero-b
  where
    zero_a : 0 + odd_in fs ≡ odd_in fs
    zero_a = omega arith

    zero-b : 0 + even_in fs ≡ even_in fs
    zero-b = omega arith
