-- Six bits put in where bits and then zeros stand: the two cells hold those bits, the six, and zeros. Assumes nothing.
use Rattle.std.proofs.Common.{◌≡◌, ℕ, ◌+◌, ◌-◌, ◌*◌, ◌/◌, ◌%◌, ◌^◌, ◌<◌, ◌≤◌, Bool, cond, ltb, List, [], ◌∷◌, ◌++◌, length, get_or, take, drop, set, sym, ap, ◌∙◌, ap₂, append_assoc, add-zero, mod-lt, mod-eq_of_lt, arith, length-append, length-drop, length-take-le, take-take, take_at, get_or-append-add, drop_at, pow_pos, le-ltb, lt-ltb}
use native.Mathlib.Decide.{dec_lt}
use lib.Seq.{take-append-le, drop-append-le}
use Rattle.bits.specs.Bits.{bits, number}
use Rattle.bits.proofs.Numbers.{length-bits, number-bits, bits-number, bits-split}
use Rattle.reader.specs.Cells.{put_pair, put_cells}
use Rattle.reader.proofs.Pushing.{pair-bits, set-two}

-- bits and zeros after them, 64 in all; cells of which two have these
abbrev pub pad : List Bool → List Bool
pad h = h ++ bits (64 - length h) 0

abbrev pub cells_of : List ℕ → List Bool → List ℕ → List ℕ
cells_of p w t = p ++ number (take 32 w) ∷ number (drop 32 w) ∷ t

get_d_at : (p : List ℕ) (c : ℕ) (t : List ℕ) (j : ℕ) → length p ≡ j → get_or (p ++ c ∷ t) j 0 ≡ c
get_d_at p c t j e = ap (λ i. get_or (p ++ c ∷ t) i 0) (sym e ∙ sym (add-zero (length p))) ∙ get_or-append-add p (c ∷ t) 0 0

-- the two halves of 64 bits
pub halves : (v : ℕ) (w : List Bool) → v < 2 ^ 64 → bits 32 (v / 2 ^ 32) ++ bits 32 (v % 2 ^ 32) ≡ w
    → (v / 2 ^ 32 ≡ number (take 32 w)) × (v % 2 ^ 32 ≡ number (drop 32 w))
halves v w h e =
    let a = v / 2 ^ 32 in
    let b = v % 2 ^ 32 in
    let ha : a < 2 ^ 32 = omega (arith, h) in
    let hb : b < 2 ^ 32 = omega arith in (
      sym (ap (λ l. number (take 32 l)) (sym e) ∙ ap number (take_at (bits 32 a) (bits 32 b) 32 (length-bits 32 a)) ∙ number-bits 32 a ∙ mod-eq_of_lt ha),
      sym (ap (λ l. number (drop 32 l)) (sym e) ∙ ap number (drop_at (bits 32 a) (bits 32 b) 32 (length-bits 32 a)) ∙ number-bits 32 b ∙ mod-eq_of_lt hb),
    )

-- SIX BITS PUT IN at bit o of cell j
pub put-at : (p : List ℕ) (c y : ℕ) (t : List ℕ) (end j o x : ℕ) → length p ≡ j → end / 32 ≡ j → end % 32 ≡ o → o < 32 → x < 64
    → put_cells (p ++ c ∷ y ∷ t) end x ≡ cells_of p ((take o (bits 32 c) ++ bits 6 x) ++ bits (58 - o) 0) t
unfolding put_cells
put-at p c y t end j o x e ej eo ho hx =
    ap₂ (λ i k. set (set l i (put_pair (get_or l i 0) k x / 2 ^ 32)) (i + 1) (put_pair (get_or l i 0) k x % 2 ^ 32)) ej eo
    ∙ ap (λ n. set (set l j (put_pair n o x / 2 ^ 32)) (j + 1) (put_pair n o x % 2 ^ 32)) (get_d_at p c (y ∷ t) j e)
    ∙ set-two p c y t j (put_pair c o x / 2 ^ 32) (put_pair c o x % 2 ^ 32) e
    ∙ ap₂ (λ u v. p ++ u ∷ v ∷ t) both.0 both.1
  where
    l : List ℕ
    l = p ++ c ∷ y ∷ t

    both : (put_pair c o x / 2 ^ 32 ≡ number (take 32 ((take o (bits 32 c) ++ bits 6 x) ++ bits (58 - o) 0)))
        × (put_pair c o x % 2 ^ 32 ≡ number (drop 32 ((take o (bits 32 c) ++ bits 6 x) ++ bits (58 - o) 0)))
    both = halves (put_pair c o x) _ (mod-lt _ (pow_pos 64)) (pair-bits c o x ho hx)

module _ (p : List ℕ) (t : List ℕ) (h : List Bool) (n : ℕ) (long : length h ≡ n) (z s end j : ℕ) (e : length p ≡ j) (hs : s < 64) where
  long-pad : n ≤ 64 → length (pad h) ≡ 64
  long-pad l = omega (arith, length-append h (bits (64 - length h) 0), length-bits (64 - length h) 0, long)

  long-more : length (h ++ bits 6 s) ≡ n + 6
  long-more = omega (arith, length-append h (bits 6 s), length-bits 6 s, long)

  -- more of them in the first cell ..
  next_low : n < 32 → end / 32 ≡ j → end % 32 ≡ n → put_cells (cells_of p (pad h) (z ∷ t)) end s ≡ cells_of p (pad (h ++ bits 6 s)) (z ∷ t)
  next_low l ej eo =
      put-at p (number (take 32 (pad h))) (number (drop 32 (pad h))) (z ∷ t) end j n s e ej eo l hs
      ∙ ap (λ w. cells_of p w (z ∷ t)) (ap₂ (λ u k. (u ++ bits 6 s) ++ bits k 0) kept zeros)
    where
      kept : take n (bits 32 (number (take 32 (pad h)))) ≡ h
      kept =
          ap (take n) (bits-number 32 (take 32 (pad h)) (length-take-le 32 (pad h) (omega (arith, long-pad (omega (arith, l))))))
          ∙ take-take n 32 (pad h) (omega (arith, l)) ∙ take_at h (bits (64 - length h) 0) n long

      zeros : 58 - n ≡ 64 - length (h ++ bits 6 s)
      zeros = omega (arith, long-more)

  -- .. and in the second
  next-high : 32 ≤ n → n ≤ 55 → end / 32 ≡ j + 1 → end % 32 ≡ n - 32 → put_cells (cells_of p (pad h) (z ∷ t)) end s ≡ cells_of p (pad (h ++ bits 6 s)) (0 ∷ t)
  next-high l u ej eo =
      ap (λ q. put_cells q end s) (sym (append_assoc p (hi ∷ []) (lo ∷ z ∷ t)))
      ∙ put-at (p ++ (hi ∷ [])) lo z t end (j + 1) (n - 32) s (length-append p (hi ∷ []) ∙ rw e) ej eo (omega (arith, u)) hs
      ∙ append_assoc p (hi ∷ []) (number (take 32 w) ∷ number (drop 32 w) ∷ t)
      ∙ ap₂ (λ a b. p ++ a ∷ b ∷ number (drop 32 w) ∷ t) same-hi same-lo
      ∙ ap (λ a. p ++ number (take 32 (pad (h ++ bits 6 s))) ∷ number (drop 32 (pad (h ++ bits 6 s))) ∷ a ∷ t) none
    where
      hi : ℕ
      hi = number (take 32 (pad h))

      lo : ℕ
      lo = number (drop 32 (pad h))

      w : List Bool
      w = (take (n - 32) (bits 32 lo) ++ bits 6 s) ++ bits (58 - (n - 32)) 0

      k : List Bool
      k = drop 32 h ++ bits 6 s

      same-hi : hi ≡ number (take 32 (pad (h ++ bits 6 s)))
      same-hi =
          ap number (take-append-le 32 h (bits (64 - length h) 0) (omega (arith, long))
          ∙ sym (take-append-le 32 (h ++ bits 6 s) (bits (64 - length (h ++ bits 6 s)) 0) (omega (arith, long-more))
          ∙ take-append-le 32 h (bits 6 s) (omega (arith, long))))

      kept : take (n - 32) (bits 32 lo) ≡ drop 32 h
      kept =
          ap (take (n - 32)) (bits-number 32 (drop 32 (pad h)) (omega (arith, length-drop 32 (pad h), long-pad (omega (arith, u))))
          ∙ drop-append-le 32 h (bits (64 - length h) 0) (omega (arith, long)))
          ∙ take_at (drop 32 h) (bits (64 - length h) 0) (n - 32) (omega (arith, length-drop 32 h, long))

      wide : 58 - (n - 32) ≡ (58 - n) + 32
      wide = omega (arith, l, u)

      w-is : w ≡ (k ++ bits (58 - n) 0) ++ bits 32 0
      w-is =
          ap₂ (λ a b. (a ++ bits 6 s) ++ b) kept (ap (λ m. bits m 0) wide ∙ bits-split (58 - n) 32 0)
          ∙ sym (append_assoc k (bits (58 - n) 0) (bits 32 0))

      long-k : length (k ++ bits (58 - n) 0) ≡ 32
      long-k =
          omega (
            arith,
            length-append k (bits (58 - n) 0),
            length-append (drop 32 h) (bits 6 s),
            length-bits 6 s,
            length-bits (58 - n) 0,
            length-drop 32 h,
            long,
            l,
            u,
          )

      zeros : 58 - n ≡ 64 - length (h ++ bits 6 s)
      zeros = omega (arith, long-more)

      rest : drop 32 (pad (h ++ bits 6 s)) ≡ k ++ bits (58 - n) 0
      rest =
          drop-append-le 32 (h ++ bits 6 s) (bits (64 - length (h ++ bits 6 s)) 0) (omega (arith, long-more))
          ∙ ap₂ (λ a m. a ++ bits m 0) (drop-append-le 32 h (bits 6 s) (omega (arith, long))) (sym zeros)

      same-lo : number (take 32 w) ≡ number (drop 32 (pad (h ++ bits 6 s)))
      same-lo = ap number (ap (take 32) w-is ∙ take_at (k ++ bits (58 - n) 0) (bits 32 0) 32 long-k ∙ sym rest)

      none : number (drop 32 w) ≡ 0
      none = ap number (ap (drop 32) w-is ∙ drop_at (k ++ bits (58 - n) 0) (bits 32 0) 32 long-k) ∙ number-bits 32 0

  pub next : n ≤ 55 → end ≡ 32 * j + n → put_cells (cells_of p (pad h) (z ∷ t)) end s ≡ cells_of p (pad (h ++ bits 6 s)) (cond (ltb n 32) z 0 ∷ t)
  next u at = go (dec_lt n 32)
    where
      go : Dec (n < 32) → put_cells (cells_of p (pad h) (z ∷ t)) end s ≡ cells_of p (pad (h ++ bits 6 s)) (cond (ltb n 32) z 0 ∷ t)
      go (yes l) = next_low l (omega (arith, at, l)) (omega (arith, at, l)) ∙ ap (λ b. cells_of p (pad (h ++ bits 6 s)) (cond b z 0 ∷ t)) (sym (lt-ltb n 32 l))
      go (no l) =
          next-high (omega (arith, l)) u (omega (arith, at, l, u)) (omega (arith, at, l, u))
          ∙ ap (λ b. cells_of p (pad (h ++ bits 6 s)) (cond b z 0 ∷ t)) (sym (le-ltb n 32 (omega (arith, l))))
