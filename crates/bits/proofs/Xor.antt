-- Laws of ⊻ and ⊕, of odd lists, of weights and of single bits as numbers. Assumes nothing.
use mathlib.Core.Path.{◌≡◌, refl, sym, ap, ap₂, ◌∙◌}
use mathlib.Core.Bool.{Bool, true, false, not, ◌&&◌}
use mathlib.Core.List.{List, [], ◌∷◌, map}
use Prim.Native.Nat.{ℕ, zero, suc, ◌+◌, ◌%◌, min, ◌<◌}
use native.Mathlib.Omega.{arith}
use lib.ListN.{length, get_or, replicate}
use lib.Bits.{bit_and, bit_xor, and_step, xor_add_and}
use Rattle.bits.specs.Bits.{◌⊻◌, ◌⊕◌, odd, val, weight, is_nonzero, is_odd}

-- ---- ⊻

pub xor_self : (a : Bool) → a ⊻ a ≡ false
xor_self true = refl
xor_self false = refl

pub xor-false : (a : Bool) → a ⊻ false ≡ a
xor-false true = refl
xor-false false = refl

pub xor-true : (a : Bool) → a ⊻ true ≡ not a
xor-true true = refl
xor-true false = refl

pub xor-cancel : (a b : Bool) → a ⊻ b ⊻ b ≡ a
xor-cancel true true = refl
xor-cancel true false = refl
xor-cancel false true = refl
xor-cancel false false = refl

pub xor-zero : (a b : Bool) → a ⊻ b ≡ false → a ≡ b
xor-zero true true e = refl
xor-zero true false e = e
xor-zero false true e = sym e
xor-zero false false e = refl

pub xor_comm : (a b : Bool) → a ⊻ b ≡ b ⊻ a
xor_comm true true = refl
xor_comm true false = refl
xor_comm false b = sym (xor-false b)

pub xor_assoc : (a b c : Bool) → a ⊻ b ⊻ c ≡ a ⊻ (b ⊻ c)
xor_assoc true true true = refl
xor_assoc true true false = refl
xor_assoc true false c = refl
xor_assoc false b c = refl

xor-left-comm : (a b c : Bool) → a ⊻ (b ⊻ c) ≡ b ⊻ (a ⊻ c)
xor-left-comm a b c = sym (xor_assoc a b c) ∙ ap (λ x. x ⊻ c) (xor_comm a b) ∙ xor_assoc b a c

pub xor-four : (a b c d : Bool) → a ⊻ b ⊻ (c ⊻ d) ≡ a ⊻ c ⊻ (b ⊻ d)
xor-four a b c d = simp (xor_assoc, xor-left-comm)

-- ---- ⊕

pub get_d-xor : (a b : List Bool) (i : ℕ) → get_or (a ⊕ b) i false ≡ get_or a i false ⊻ get_or b i false
get_d-xor [] b i = refl
get_d-xor (x ∷ a) [] i = sym (xor-false (get_or (x ∷ a) i false))
get_d-xor (x ∷ a) (y ∷ b) zero = refl
get_d-xor (x ∷ a) (y ∷ b) (suc i) = get_d-xor a b i

pub map-xor {ℓ} : {A : Type ℓ} (f g h : A → Bool) → ((x : A) → f x ≡ g x ⊻ h x) → (xs : List A) → map f xs ≡ map g xs ⊕ map h xs
map-xor f g h e [] = refl
map-xor f g h e (x ∷ xs) = ap₂ ◌∷◌ (e x) (map-xor f g h e xs)

-- turning every bit is ⊕ with ones
pub turned_ones : (w : List Bool) → map not w ≡ w ⊕ replicate (length w) true
turned_ones [] = refl
turned_ones (true ∷ w) = ap (λ v. false ∷ v) (turned_ones w)
turned_ones (false ∷ w) = ap (λ v. true ∷ v) (turned_ones w)

pub length-xors : (v w : List Bool) → length v ≡ length w → length (v ⊕ w) ≡ length w
length-xors [] w l = refl
length-xors (a ∷ v) [] l = absurd (omega arith)
length-xors (a ∷ v) (b ∷ w) l = ap suc (length-xors v w (omega arith))

pub odd-xors : (a b : List Bool) → odd (a ⊕ b) ≡ odd a ⊻ odd b
odd-xors [] b = refl
odd-xors (x ∷ a) [] = sym (xor-false (odd (x ∷ a)))
odd-xors (x ∷ a) (y ∷ b) = ap (λ r. x ⊻ y ⊻ r) (odd-xors a b) ∙ xor-four x y (odd a) (odd b)

-- ---- bits as numbers

pub one-val : (b : Bool) → is_nonzero (val b) ≡ b
one-val true = refl
one-val false = refl

pub val_inj : {a b : Bool} → val a ≡ val b → a ≡ b
val_inj {a} {b} e = sym (one-val a) ∙ ap is_nonzero e ∙ one-val b

pub val-lt : (b : Bool) → val b < 2
val-lt true = omega arith
val-lt false = omega arith

-- a number that is 0 or 1 is that of a bit
pub val-one : (m : ℕ) → m < 2 → val (is_nonzero m) ≡ m
val-one zero h = refl
val-one (suc zero) h = refl
val-one (suc (suc m)) h = absurd (omega arith)

pub val-odd : (n : ℕ) → val (is_odd n) ≡ n % 2
val-odd n = val-one (n % 2) (omega arith)

pub val-xor : (a b : Bool) → val (a ⊻ b) ≡ (val a + val b) % 2
val-xor true true = refl
val-xor true false = refl
val-xor false true = refl
val-xor false false = refl

val-and : (a b : Bool) → val (a && b) ≡ min (val a) (val b)
val-and true true = refl
val-and true false = refl
val-and false true = refl
val-and false false = refl

pub odd-mod : (a b : ℕ) → a % 2 ≡ b % 2 → is_odd a ≡ is_odd b
odd-mod a b e = ap is_nonzero e

pub odd-add : (a b : ℕ) → is_odd (a + b) ≡ is_odd a ⊻ is_odd b
odd-add a b = val_inj (omega (arith, val-odd (a + b), val-odd a, val-odd b, val-xor (is_odd a) (is_odd b)))

pub odd-xor : (a b : ℕ) → is_odd (bit_xor a b) ≡ is_odd a ⊻ is_odd b
odd-xor a b = odd-mod (bit_xor a b) (a + b) (omega (arith, xor_add_and a b)) ∙ odd-add a b

pub odd-and : (a b : ℕ) → is_odd (bit_and a b) ≡ is_odd a && is_odd b
odd-and a b = val_inj (omega (arith, and_step a b, val-odd (bit_and a b), val-odd a, val-odd b, val-and (is_odd a) (is_odd b)))

pub odd-weight : (bs : List Bool) → is_odd (weight bs) ≡ odd bs
odd-weight [] = refl
odd-weight (b ∷ bs) = odd-add (val b) (weight bs) ∙ ap₂ ◌⊻◌ (odd_val b) (odd-weight bs)
  where
    odd_val : (a : Bool) → is_odd (val a) ≡ a
    odd_val true = refl
    odd_val false = refl
