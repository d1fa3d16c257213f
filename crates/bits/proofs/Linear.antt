-- Maps of bit lists that keep ⊕: such a map is settled by what it gives at one bit set at a time. A mask is one of them.
-- Assumes nothing.
use mathlib.Core.Path.{◌≡◌, refl, ap, ap₂, ◌∙◌}
use mathlib.Core.Bool.{Bool, true, false, ◌&&◌}
use mathlib.Core.List.{List, [], ◌∷◌, ◌++◌}
use Prim.Native.Nat.{ℕ, zero, suc, ◌/◌, ◌^◌, ◌<◌}
use native.Mathlib.Nat.{not-suc-le-zero, le_of_suc-le-suc}
use lib.ListN.{length, get_or, replicate}
use lib.Bits.{bit_and, and_shr}
use Rattle.bits.specs.Bits.{◌⊻◌, ◌⊕◌, odd, is_odd, bits}
use Rattle.bits.proofs.Xor.{odd-and}

-- what a map gives at one bit set at a time, and the map made of that
module _ {A : Type 0} (◌⊞◌ : A → A → A) (z : A) where
  infixl 40 ◌⊞◌
  abbrev pub columns : (List Bool → A) → ℕ → List A
  columns f zero = []
  columns f (suc n) = f (true ∷ []) ∷ columns (λ w. f (false ∷ w)) n

  abbrev pub sum : List Bool → List A → A
  sum [] cs = z
  sum (b ∷ w) [] = z
  sum (false ∷ w) (c ∷ cs) = sum w cs
  sum (true ∷ w) (c ∷ cs) = c ⊞ sum w cs

  pub columns-at : (f : List Bool → A) (n i : ℕ) → i < n → get_or (columns f n) i z ≡ f (replicate i false ++ (true ∷ []))
  columns-at f zero i h = absurd (not-suc-le-zero h)
  columns-at f (suc n) zero h = refl
  columns-at f (suc n) (suc i) h = columns-at (λ w. f (false ∷ w)) n i (le_of_suc-le-suc h)

  pub spanned : (f : List Bool → A) → ((a b : List Bool) → f (a ⊕ b) ≡ f a ⊞ f b) → ((a : List Bool) → f a ⊞ f a ≡ z)
      → (w : List Bool) → f w ≡ sum w (columns f (length w))
  spanned f l s [] = l [] [] ∙ s []
  spanned f l s (false ∷ w) = spanned (λ v. f (false ∷ v)) (λ a b. l (false ∷ a) (false ∷ b)) (λ a. s (false ∷ a)) w
  spanned f l s (true ∷ w) =
      l (true ∷ []) (false ∷ w)
      ∙ ap (λ r. f (true ∷ []) ⊞ r) (spanned (λ v. f (false ∷ v)) (λ a b. l (false ∷ a) (false ∷ b)) (λ a. s (false ∷ a)) w)

  -- two maps that agree at one bit set at a time agree: at a window that is one computed test
  pub agree : (f g : List Bool → A)
      → ((a b : List Bool) → f (a ⊕ b) ≡ f a ⊞ f b) → ((a b : List Bool) → g (a ⊕ b) ≡ g a ⊞ g b)
      → ((a : List Bool) → f a ⊞ f a ≡ z) → ((a : List Bool) → g a ⊞ g a ≡ z)
      → (n : ℕ) → columns f n ≡ columns g n → (w : List Bool) → length w ≡ n → f w ≡ g w
  agree f g lf lg sf sg n e w h = rw (spanned f lf sf w, spanned g lg sg w, h, e)

-- a mask: the odd parity of what it keeps
pub odd-mask : (k n m : ℕ) → odd (bits k (bit_and n m)) ≡ sum ◌⊻◌ false (bits k n) (bits k m)
unfolding bits
odd-mask zero n m = refl
odd-mask (suc k) n m =
    ap₂ ◌⊻◌ (ap is_odd (and_shr n m k) ∙ odd-and (n / 2 ^ k) (m / 2 ^ k)) (odd-mask k n m)
    ∙ step (is_odd (n / 2 ^ k)) (is_odd (m / 2 ^ k)) (bits k n) (bits k m)
  where
    step : (a b : Bool) (xs bs : List Bool) → (a && b) ⊻ sum ◌⊻◌ false xs bs ≡ sum ◌⊻◌ false (a ∷ xs) (b ∷ bs)
    step true b xs bs = refl
    step false b xs bs = refl
