-- The lines of the report: how long they are, and that they are stored part after part. Assumes nothing.
use Rattle.std.proofs.Common.{◌≡◌, ℕ, suc, ◌+◌, ◌/◌, ◌<◌, ◌≤◌, Bool, true, false, cond, ltb, List, [], ◌∷◌, ◌++◌, length, set, sym, ap, ◌∙◌, arith, length-append, length-set, lt-ltb}
use lib.Seq.{sets}
use Rattle.printing.specs.Printing.{digits_up_to, decimal}
use Rattle.printing.proofs.DigitLaws.{length-decimal, decimal-le}
use Rattle.printing.proofs.StoreLaws.{length-stored, stored-then}
use Rattle.mender.specs.Report.{change_line, lost_line}

-- one digit more than a tenth of it has
digits_step : (k n m : ℕ) → 0 < m → digits_up_to k (n / 10) ≤ m → digits_up_to (suc k) n ≤ suc m
unfolding digits_up_to
digits_step k n m p h = go (ltb n 10)
  where
    go : (t : Bool) → cond t 1 (suc (digits_up_to k (n / 10))) ≤ suc m
    go true = omega arith
    go false = omega arith

digit-alone : (k n : ℕ) → n < 10 → digits_up_to (suc k) n ≡ 1
unfolding digits_up_to
digit-alone k n h = ap (λ t. cond t 1 (suc (digits_up_to k (n / 10)))) (lt-ltb n 10 h)

-- a byte has at most three digits
pub byte-short : (b : ℕ) → b < 256 → length (decimal b) ≤ 3
byte-short b h = omega (arith, length-decimal b, digits_step 19 b 2 (omega arith) (digits_step 18 (b / 10) 1 (omega arith) last))
  where
    one : digits_up_to 18 (b / 10 / 10) ≡ 1
    one = digit-alone 17 (b / 10 / 10) (omega arith)

    last : digits_up_to 18 (b / 10 / 10) ≤ 1
    last = omega (arith, one)

-- ---- a change

module _ (at old new : ℕ) where
  pub change-long : length (change_line at old new) ≡ length (decimal at) + suc (length (decimal old)) + suc (length (decimal new)) + 1
  unfolding change_line
  change-long = omega (
    arith,
    length-append (decimal at) ((32 ∷ decimal old) ++ ((32 ∷ decimal new) ++ (10 ∷ []))),
    length-append (decimal old) ((32 ∷ decimal new) ++ (10 ∷ [])),
    length-append (decimal new) (10 ∷ []),
  )

  pub change-short : old < 256 → new < 256 → length (change_line at old new) ≤ 29
  change-short h k = omega (arith, change-long, decimal-le at, byte-short old h, byte-short new k)

  -- room for its last number, and for the newline
  module _ (l : List ℕ) (place : ℕ) (room : place + 29 ≤ length l) (h : old < 256) (g : new < 256) {a b : List ℕ} {i j : ℕ}
      (ei : i ≡ place + length (decimal at)) (ea : a ≡ sets l place (decimal at))
      (ej : j ≡ i + length (32 ∷ decimal old)) (eb : b ≡ sets a i (32 ∷ decimal old)) where
    two-long : length b ≡ length l
    two-long = length-stored a i (32 ∷ decimal old) b eb ∙ length-stored l place (decimal at) a ea

    pub last-room : j + length (32 ∷ decimal new) ≤ length b
    last-room = omega (arith, two-long, decimal-le at, byte-short old h, byte-short new g)

    module _ {c : List ℕ} {k : ℕ} (ek : k ≡ j + length (32 ∷ decimal new)) (ec : c ≡ sets b j (32 ∷ decimal new)) where
      three-long : length c ≡ length l
      three-long = length-stored b j (32 ∷ decimal new) c ec ∙ two-long

      pub newline-room : (k < length l) × (k < length c) × (length (set c k 10) ≡ length l)
      newline-room = (inside, omega (arith, inside, three-long), length-set c k 10 ∙ three-long)
        where
          inside : k < length l
          inside = omega (arith, decimal-le at, byte-short old h, byte-short new g)

  -- its parts stored one after the other
  pub change-stored : (l : List ℕ) (place : ℕ) {a b c : List ℕ} {i j k : ℕ}
      → i ≡ place + length (decimal at) → a ≡ sets l place (decimal at)
      → j ≡ i + length (32 ∷ decimal old) → b ≡ sets a i (32 ∷ decimal old)
      → k ≡ j + length (32 ∷ decimal new) → c ≡ sets b j (32 ∷ decimal new)
      → (k + 1 ≡ place + length (change_line at old new)) × (set c k 10 ≡ sets l place (change_line at old new))
  unfolding change_line
  change-stored l place {a} {b} {c} {i} {j} {k} ei ea ej eb ek ec = (
    omega (arith, change-long),
    sym (stored-then l (decimal at) ((32 ∷ decimal old) ++ ((32 ∷ decimal new) ++ (10 ∷ []))) place i a ei ea
        ∙ stored-then a (32 ∷ decimal old) ((32 ∷ decimal new) ++ (10 ∷ [])) i j b ej eb
        ∙ stored-then b (32 ∷ decimal new) (10 ∷ []) j k c ek ec),
  )

-- ---- a lost record

pub lost-long : (at : ℕ) → length (lost_line at) ≡ 5 + length (decimal at) + 1
unfolding lost_line
lost-long at = omega (arith, length-append (decimal at) (10 ∷ []))

pub lost-stored : (at : ℕ) (l : List ℕ) {a : List ℕ} {i : ℕ} → i ≡ 0 + length (108 ∷ 111 ∷ 115 ∷ 116 ∷ 32 ∷ decimal at)
    → a ≡ sets l 0 (108 ∷ 111 ∷ 115 ∷ 116 ∷ 32 ∷ decimal at) → (i + 1 ≡ length (lost_line at)) × (set a i 10 ≡ sets l 0 (lost_line at))
unfolding lost_line
lost-stored at l {a} {i} ei ea = (
  omega (arith, lost-long at),
  sym (stored-then l (108 ∷ 111 ∷ 115 ∷ 116 ∷ 32 ∷ decimal at) (10 ∷ []) 0 i a ei ea),
)
