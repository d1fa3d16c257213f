-- The cells once six bits are put in, two by two as numbers. Assumes nothing.
use mathlib.Core.Path.{◌≡◌, sym, ap, ap₂, ◌∙◌}
use mathlib.Core.List.{List}
use Prim.Native.Nat.{ℕ, ◌+◌, ◌*◌, ◌/◌, ◌%◌, ◌^◌, ◌≤◌, ◌<◌}
use native.Mathlib.Nat.{mod-eq_of_lt, mod-lt}
use native.Mathlib.Omega.{arith}
use lib.ListN.{length, take, drop, get_or, set, length-set}
use lib.Seq.{get_or-set_same, get_or-set_other, drop-drop}
use Rattle.reader.specs.Cells.{pair_at, put_pair, put_cells}
use Rattle.rtcm2_state.specs.Numbers.{number_in, numbers_in}
use Rattle.rtcm2_state.specs.State.{start_size}
use Rattle.rtcm2_state.proofs.NumberLaws.{number-of}

-- a cell as it is read
pub cell_at : (bs : List ℕ) (k n at : ℕ) → k < 40 → at ≡ start_size + 4 * k → n ≡ number_in (take 4 (drop at bs))
    → n ≡ get_or (numbers_in 40 (drop start_size bs)) k 0
cell_at bs k n at h e r =
    r ∙ ap (λ i. number_in (take 4 (drop i bs))) e
    ∙ sym (number-of 40 k (drop start_size bs) h ∙ ap (λ l. number_in (take 4 l)) (drop-drop (4 * k) start_size bs))

-- two halves
halves : (x : ℕ) → x < 2 ^ 64 → x ≡ x / 2 ^ 32 % 2 ^ 32 * 2 ^ 32 + x % 2 ^ 32 % 2 ^ 32
halves x h = omega (arith, h)

upper : (x : ℕ) → x < 2 ^ 64 → x / 2 ^ 32 % 2 ^ 32 ≡ x / 2 ^ 32
upper x h = omega (arith, h)

module _ (cells : List ℕ) (full : length cells ≡ 40) (end x : ℕ) (room : end ≤ 1216) where
  abbrev last : ℕ
  last = end / 32

  abbrev both : ℕ
  both = put_pair (get_or cells last 0) (end % 32) x

  wide : both < 2 ^ 64
  wide = mod-lt _ (omega arith)

  before : (i : ℕ) → i < last → get_or (put_cells cells end x) i 0 ≡ get_or cells i 0
  unfolding put_cells
  before i h =
      get_or-set_other (set cells last (both / 2 ^ 32)) (last + 1) i (both % 2 ^ 32) 0 (λ e. omega (arith, e, h))
      ∙ get_or-set_other cells last i (both / 2 ^ 32) 0 (λ e. omega (arith, e, h))

  first : get_or (put_cells cells end x) last 0 ≡ both / 2 ^ 32
  unfolding put_cells
  first =
      get_or-set_other (set cells last (both / 2 ^ 32)) (last + 1) last (both % 2 ^ 32) 0 (λ e. omega (arith, e))
      ∙ get_or-set_same cells last (both / 2 ^ 32) 0 (omega (arith, full, room))

  second : get_or (put_cells cells end x) (last + 1) 0 ≡ both % 2 ^ 32
  unfolding put_cells
  second =
      get_or-set_same (set cells last (both / 2 ^ 32)) (last + 1) (both % 2 ^ 32) 0 (omega (arith, full, room, length-set cells last (both / 2 ^ 32)))

  -- a cell that six bits leave as it is, as a number that was read
  kept : (i a : ℕ) → i < last → a ≡ get_or cells i 0 → a < 2 ^ 32 → a ≡ get_or (put_cells cells end x) i 0 % 2 ^ 32
  kept i a h e l = sym (ap (λ n. n % 2 ^ 32) (before i h ∙ sym e) ∙ mod-eq_of_lt l)

  -- both cells before them, the first of two before them, and the two that they are put into
  pub pair-before : (k a b : ℕ) → k + 1 < last → a ≡ get_or cells k 0 → a < 2 ^ 32 → b ≡ get_or cells (k + 1) 0 → b < 2 ^ 32
      → a * 2 ^ 32 + b ≡ pair_at (put_cells cells end x) k
  pair-before k a b h ea la eb lb = ap₂ (λ u v. u * 2 ^ 32 + v) (kept k a (omega (arith, h)) ea la) (kept (k + 1) b h eb lb)

  pub pair-across : (k a n : ℕ) → k + 1 ≡ last → a ≡ get_or cells k 0 → a < 2 ^ 32 → n ≡ both → a * 2 ^ 32 + n / 2 ^ 32 ≡ pair_at (put_cells cells end x) k
  pair-across k a n h ea la en =
      ap₂ (λ u v. u * 2 ^ 32 + v) (kept k a (omega (arith, h)) ea la)
      (ap (λ m. m / 2 ^ 32) en ∙ sym (ap (λ i. get_or (put_cells cells end x) i 0 % 2 ^ 32) h ∙ ap (λ m. m % 2 ^ 32) first ∙ upper both wide))

  pub pair-last : (k n : ℕ) → k ≡ last → n ≡ both → n ≡ pair_at (put_cells cells end x) k
  pair-last k n h en =
      en ∙ halves both wide
      ∙ sym (ap₂ (λ u v. u % 2 ^ 32 * 2 ^ 32 + v % 2 ^ 32) first second)
      ∙ ap (λ i. pair_at (put_cells cells end x) i) (sym h)
