-- The four tables of remainders against the six equations: one test over all 256 entries, carried to each; and their sum. Assumes nothing.
use mathlib.Core.Path.{◌≡◌, refl, sym, ap, ap₂, ◌∙◌}
use mathlib.Core.Bool.{Bool, true, false, ◌&&◌, and-eq-true_iff}
use mathlib.Core.List.{List, [], ◌∷◌, ◌++◌}
use Prim.Native.Nat.{ℕ, zero, suc, ◌+◌, ◌*◌, ◌/◌, ◌%◌, ◌^◌, ◌<◌}
use native.Mathlib.Nat.{zero-add, suc-add, le_of_suc-le-suc, not-suc-le-zero}
use native.Mathlib.Omega.{arith}
use lib.Dec.{lit<, eqb}
use lib.Bits.{bit_xor}
use lib.ListN.{length, get_or, replicate}
use borrow.Author.Tests.{eqb-true}
use Rattle.bits.specs.Bits.{◌⊕◌, is_odd, val, bits, number}
use Rattle.bits.proofs.Xor.{xor-false, val-odd}
use Rattle.bits.proofs.Numbers.{length-bits, bits-split, bits-mod, number-xor}
use Rattle.word.specs.Word.{d29*, d30*, rows, parity, data_of}
use Rattle.word.specs.Answer.{remainder_at}
use Rattle.word.specs.Tables.{first, second, third, fourth, entries_of, columns_of, table_parity}
use Rattle.word.proofs.Linearity.{parity-xor}
use Rattle.word.proofs.Computes.{remainder-law}

-- ---- a test of every element of a list, with its place

abbrev every : {A : Type 0} → (ℕ → A → Bool) → List A → Bool
every f [] = true
every f (x ∷ xs) = f zero x && every (λ i. f (suc i)) xs

from : {A : Type 0} (f : ℕ → A → Bool) (xs : List A) (o : A) → every f xs ≡ true → (k : ℕ) → k < length xs → f k (get_or xs k o) ≡ true
from f [] o t k h = absurd (not-suc-le-zero h)
from f (x ∷ xs) o t zero h = ((and-eq-true_iff (f zero x) (every (λ i. f (suc i)) xs)).0 t).0
from f (x ∷ xs) o t (suc k) h =
    from (λ i. f (suc i)) xs o ((and-eq-true_iff (f zero x) (every (λ i. f (suc i)) xs)).0 t).1 k (le_of_suc-le-suc h)

-- ---- THE TEST

-- what the data bits ds ask for after carried bits 00
plain : List Bool → ℕ
plain ds = number (parity false false ds)

-- the six data bits of table t, first of four at 0, where they are v, and all others zero
abbrev alone : ℕ → ℕ → List Bool
alone t v = replicate (6 * t) false ++ bits 6 v

abbrev tables : List (List ℕ)
tables = first ∷ second ∷ third ∷ fourth ∷ []

-- a table has 64 entries, and entry v is what its six bits give alone
right : ℕ → List ℕ → Bool
right t xs = eqb (length xs) 64 && every (λ v x. eqb x (plain (alone t v))) xs

-- ALL 256 at once
all : every right tables ≡ true
unfolding first second third fourth right plain rows parity bits number
all = refl

-- carried to each entry
entry : (t : ℕ) → t < 4 → (v : ℕ) → get_or (get_or tables t []) (v % 64) 0 ≡ plain (alone t v)
unfolding right plain
entry t h v =
    eqb-true (get_or xs (v % 64) 0) (plain (alone t (v % 64))) (from (λ i x. eqb x (plain (alone t i))) xs 0 held.1 (v % 64) short)
    ∙ ap (λ b. plain (replicate (6 * t) false ++ b)) (bits-mod 6 v)
  where
    xs : List ℕ
    xs = get_or tables t []

    held : (eqb (length (get_or tables t [])) 64 ≡ true) × (every (λ i x. eqb x (plain (alone t i))) (get_or tables t []) ≡ true)
    held = (and-eq-true_iff (eqb (length xs) 64) (every (λ i x. eqb x (plain (alone t i))) xs)).0 (from right tables [] all t h)

    short : v % 64 < length xs
    short = omega (arith, eqb-true (length xs) 64 held.0)

-- ---- THE SUM

-- one list after another is the xor of the two, the second after zeros
apart : (a b : List Bool) → a ++ b ≡ a ⊕ (replicate (length a) false ++ b)
apart [] b = refl
apart (x ∷ a) b = ap₂ ◌∷◌ (sym (xor-false x)) (apart a b)

-- zeros before an xor
before : (n : ℕ) (a b : List Bool) → replicate n false ++ (a ⊕ b) ≡ (replicate n false ++ a) ⊕ (replicate n false ++ b)
before zero a b = refl
before (suc n) a b = ap (λ l. false ∷ l) (before n a b)

-- and before zeros
zeros-more : (m n : ℕ) (b : List Bool) → replicate m false ++ (replicate n false ++ b) ≡ replicate (m + n) false ++ b
zeros-more zero n b = ap (λ k. replicate k false ++ b) (sym (zero-add n))
zeros-more (suc m) n b = ap (λ l. false ∷ l) (zeros-more m n b) ∙ ap (λ k. replicate k false ++ b) (sym (suc-add m n))

-- six bits at the place of table t, then the rest
place : (t v : ℕ) (rest : List Bool) → replicate (6 * t) false ++ (bits 6 v ++ rest) ≡ alone t v ⊕ (replicate (6 * suc t) false ++ rest)
place t v rest =
    ap (λ l. replicate (6 * t) false ++ l) (apart (bits 6 v) rest ∙ ap (λ n. bits 6 v ⊕ (replicate n false ++ rest)) (length-bits 6 v))
    ∙ before (6 * t) (bits 6 v) (replicate 6 false ++ rest)
    ∙ ap (λ l. alone t v ⊕ l) (zeros-more (6 * t) 6 rest ∙ ap (λ n. replicate n false ++ rest) next)
  where
    next : 6 * t + 6 ≡ 6 * suc t
    next = omega arith

-- a word's data by its four sixes
sixes : (d : ℕ) → bits 24 d ≡ alone 0 (d / 2 ^ 18) ⊕ (alone 1 (d / 2 ^ 12) ⊕ (alone 2 (d / 2 ^ 6) ⊕ alone 3 d))
sixes d =
    bits-split 6 18 d ∙ ap (λ l. bits 6 (d / 2 ^ 18) ++ l) (bits-split 6 12 d ∙ ap (λ l. bits 6 (d / 2 ^ 12) ++ l) (bits-split 6 6 d))
    ∙ place 0 (d / 2 ^ 18) (bits 6 (d / 2 ^ 12) ++ (bits 6 (d / 2 ^ 6) ++ bits 6 d))
    ∙ ap (λ l. alone 0 (d / 2 ^ 18) ⊕ l)
    (place 1 (d / 2 ^ 12) (bits 6 (d / 2 ^ 6) ++ bits 6 d) ∙ ap (λ l. alone 1 (d / 2 ^ 12) ⊕ l) (place 2 (d / 2 ^ 6) (bits 6 d)))

length-parity : (a b : Bool) (ds : List Bool) → length (parity a b ds) ≡ 6
unfolding rows parity
length-parity a b ds = refl

plain-xor : (a b : List Bool) → plain (a ⊕ b) ≡ bit_xor (plain a) (plain b)
unfolding plain
plain-xor a b =
    ap number (parity-xor false false false false a b)
    ∙ number-xor 6 (parity false false a) (parity false false b) (length-parity false false a) (length-parity false false b)

-- the entries of the four sixes, combined, are what the data give alone
data-sum : (d : ℕ) → entries_of d ≡ plain (bits 24 d)
data-sum d =
    ap₂ bit_xor (entry 0 (lit< tt) (d / 2 ^ 18))
    (ap₂ bit_xor (entry 1 (lit< tt) (d / 2 ^ 12)) (ap₂ bit_xor (entry 2 (lit< tt) (d / 2 ^ 6)) (entry 3 (lit< tt) d)))
    ∙ sym
    (ap plain (sixes d)
    ∙ plain-xor (alone 0 (d / 2 ^ 18)) (alone 1 (d / 2 ^ 12) ⊕ (alone 2 (d / 2 ^ 6) ⊕ alone 3 d))
    ∙ ap (bit_xor (plain (alone 0 (d / 2 ^ 18))))
    (plain-xor (alone 1 (d / 2 ^ 12)) (alone 2 (d / 2 ^ 6) ⊕ alone 3 d)
    ∙ ap (bit_xor (plain (alone 1 (d / 2 ^ 12)))) (plain-xor (alone 2 (d / 2 ^ 6)) (alone 3 d))))

-- what `data_part` computes
pub data-entries : (d : ℕ) {a b e f : ℕ} → a ≡ get_or first (d / 2 ^ 18 % 64) 0 → b ≡ get_or second (d / 2 ^ 12 % 64) 0
    → e ≡ get_or third (d / 2 ^ 6 % 64) 0 → f ≡ get_or fourth (d % 64) 0 → bit_xor a (bit_xor b (bit_xor e f)) ≡ number (parity false false (bits 24 d))
unfolding plain
data-entries d ea eb ee ef = ap₂ bit_xor ea (ap₂ bit_xor eb (ap₂ bit_xor ee ef)) ∙ data-sum d

-- what `carried_part` computes
pub carried-columns : (c : ℕ) → columns_of c ≡ number (parity (d29* (bits 2 c)) (d30* (bits 2 c)) [])
unfolding bits number rows parity
carried-columns c =
    ap₂ (λ x y. bit_xor (x * 0b101001) (y * 0b010110)) (sym (val-odd (c / 2))) (omega (arith, val-odd (c / 1)))
    ∙ go (is_odd (c / 2)) (is_odd (c / 1))
  where
    go : (a b : Bool) → bit_xor (val a * 0b101001) (val b * 0b010110) ≡ number (parity a b [])
    go true true = refl
    go true false = refl
    go false true = refl
    go false false = refl

-- the carried bits apart from the data
both-parts : (a b : Bool) (ds : List Bool) → bit_xor (number (parity a b [])) (number (parity false false ds)) ≡ number (parity a b ds)
both-parts a b ds =
    sym (number-xor 6 (parity a b []) (parity false false ds) (length-parity a b []) (length-parity false false ds))
    ∙ ap number (sym (parity-xor a b false false [] ds))
    ∙ ap₂ (λ x y. number (parity x y ds)) (xor-false a) (xor-false b)

-- THE TABLES AGREE WITH THE SIX EQUATIONS, for every word and carried pair
pub tables_agree : (c d : ℕ) → table_parity c d ≡ number (parity (d29* (bits 2 c)) (d30* (bits 2 c)) (bits 24 d))
unfolding plain
tables_agree c d = ap₂ bit_xor (carried-columns c) (data-sum d) ∙ both-parts (d29* (bits 2 c)) (d30* (bits 2 c)) (bits 24 d)

-- what `remainder` computes
pub remainder-tables : (w d : ℕ) {c p : ℕ} → d ≡ number (data_of (bits 32 w))
    → c ≡ number (parity (d29* (bits 2 (w / 2 ^ 30))) (d30* (bits 2 (w / 2 ^ 30))) []) → p ≡ number (parity false false (bits 24 d))
    → bit_xor (w % 64) (bit_xor c p) ≡ remainder_at w
remainder-tables w d is ec ep =
    ap (bit_xor (w % 64)) (ap₂ bit_xor ec ep ∙ both-parts (d29* (bits 2 (w / 2 ^ 30))) (d30* (bits 2 (w / 2 ^ 30))) (bits 24 d))
    ∙ remainder-law w d is
