-- Five times six bits put in at once leave the cells that they leave one after the other. Assumes nothing.
use Rattle.std.proofs.Common.{◌≡◌, ℕ, suc, ◌+◌, ◌-◌, ◌*◌, ◌/◌, ◌%◌, ◌^◌, ◌<◌, ◌≤◌, Bool, cond, ltb, List, [], ◌∷◌, ◌++◌, length, get_or, take, drop, set, sym, refl, ap, ◌∙◌, ap₂, append_assoc, add-zero, mod-lt, add-one, arith, length-append, take-append-drop, length-take-le, drop-cons, pow_pos, le-ltb, lt-ltb}
use native.Mathlib.Decide.{dec_lt}
use lib.Seq.{set_at}
use Rattle.bits.specs.Bits.{bits, number}
use Rattle.bits.proofs.Numbers.{length-bits, bits-mod, bits-append, bits-take, bits-split}
use Rattle.reader.specs.Cells.{put_cells, put_five}
use Rattle.reader.specs.Five.{six_at}
use Rattle.reader.proofs.Pushing.{set-two}
use Rattle.reader.proofs.PutNext.{pad, cells_of, halves, put-at, next}

abbrev pub thirty : ℕ → ℕ → ℕ → ℕ → ℕ → ℕ
thirty a b c d e = (((a * 64 + b) * 64 + c) * 64 + d) * 64 + e

-- thirty bits are made of their sixes
pub sixes-make : (t : ℕ) → t < 2 ^ 30 → t ≡ thirty (six_at 4 t) (six_at 3 t) (six_at 2 t) (six_at 1 t) (six_at 0 t)
sixes-make t h =
    none
    ∙ ap (λ u. u * 64 + six_at 0 t) (one
    ∙ ap (λ u. u * 64 + six_at 1 t) (two
    ∙ ap (λ u. u * 64 + six_at 2 t) (three
    ∙ ap (λ u. u * 64 + six_at 3 t) four)))
  where
    none : t ≡ t / 2 ^ 6 * 64 + six_at 0 t
    none = omega arith

    one : t / 2 ^ 6 ≡ t / 2 ^ 12 * 64 + six_at 1 t
    one = omega arith

    two : t / 2 ^ 12 ≡ t / 2 ^ 18 * 64 + six_at 2 t
    two = omega arith

    three : t / 2 ^ 18 ≡ t / 2 ^ 24 * 64 + six_at 3 t
    three = omega arith

    four : t / 2 ^ 24 ≡ six_at 4 t
    four = omega arith

abbrev pub wide_pair : ℕ → ℕ → ℕ → ℕ
wide_pair c o v = (c % 2 ^ 32 / 2 ^ (32 - o) * 1073741824 + v) * 2 ^ (34 - o) % 2 ^ 64

wide-bits : (c o x : ℕ) → o < 32 → x < 2 ^ 30
    → bits 32 (wide_pair c o x / 2 ^ 32) ++ bits 32 (wide_pair c o x % 2 ^ 32) ≡ (take o (bits 32 c) ++ bits 30 x) ++ bits (34 - o) 0
wide-bits c o x h l =
    ap (λ (t : List Bool). bits 32 (v % 2 ^ 64 / 2 ^ 32) ++ t) (bits-mod 32 (v % 2 ^ 64)) ∙ sym (bits-split 32 32 (v % 2 ^ 64)) ∙ bits-mod 64 v
    ∙ ap₂ bits wide_is (sym (add-zero v)) ∙ bits-append (o + 30) (34 - o) (k * 1073741824 + x) 0 (pow_pos (34 - o))
    ∙ ap (λ (t : List Bool). t ++ bits (34 - o) 0) (bits-append o 30 k x l ∙ ap (λ (t : List Bool). t ++ bits 30 x) front)
  where
    k : ℕ
    k = c % 2 ^ 32 / 2 ^ (32 - o)

    v : ℕ
    v = (k * 1073741824 + x) * 2 ^ (34 - o)

    wide_is : 32 + 32 ≡ o + 30 + (34 - o)
    wide_is = omega arith

    whole : o + (32 - o) ≡ 32
    whole = omega arith

    front : bits o k ≡ take o (bits 32 c)
    front = sym (bits-take o (32 - o) (c % 2 ^ 32)) ∙ ap (λ (m : ℕ). take o (bits m (c % 2 ^ 32))) whole ∙ ap (take o) (bits-mod 32 c)

thirty-bits : (h : List Bool) (a b c d e : ℕ) → a < 64 → b < 64 → c < 64 → d < 64 → e < 64
    → h ++ bits 30 (thirty a b c d e) ≡ ((((h ++ bits 6 a) ++ bits 6 b) ++ bits 6 c) ++ bits 6 d) ++ bits 6 e
thirty-bits h a b c d e ha hb hc hd he =
    more 24 (((a * 64 + b) * 64 + c) * 64 + d) e he
    ∙ ap (λ l. l ++ bits 6 e) (more 18 ((a * 64 + b) * 64 + c) d hd
    ∙ ap (λ l. l ++ bits 6 d) (more 12 (a * 64 + b) c hc
    ∙ ap (λ l. l ++ bits 6 c) (more 6 a b hb)))
  where
    more : (n u x : ℕ) → x < 64 → h ++ bits (n + 6) (u * 64 + x) ≡ (h ++ bits n u) ++ bits 6 x
    more n u x hx = ap (λ l. h ++ l) (bits-append n 6 u x hx) ∙ sym (append_assoc h (bits n u) (bits 6 x))

-- the cells before a place, the three there, and those after
parts : (cells : List ℕ) (j : ℕ) → j + 2 < length cells
    → cells ≡ take j cells ++ get_or cells j 0 ∷ get_or cells (j + 1) 0 ∷ get_or cells (j + 2) 0 ∷ drop (suc (j + 2)) cells
parts cells j h =
    sym (take-append-drop j cells)
    ∙ ap (λ (t : List ℕ). take j cells ++ t)
    (drop-cons cells j 0 (omega arith) ∙ ap (λ (m : ℕ). get_or cells j 0 ∷ drop m cells) (sym (add-one j))
    ∙ ap (λ (t : List ℕ). get_or cells j 0 ∷ t) (drop-cons cells (j + 1) 0 (omega arith) ∙ ap (λ (m : ℕ). get_or cells (j + 1) 0 ∷ drop m cells) one
    ∙ ap (λ (t : List ℕ). get_or cells (j + 1) 0 ∷ t) (drop-cons cells (j + 2) 0 h)))
  where
    one : suc (j + 1) ≡ j + 2
    one = omega arith

module _ (p : List ℕ) (x y z : ℕ) (t : List ℕ) (end j o : ℕ) (long : length p ≡ j) (ej : end / 32 ≡ j) (eo : end % 32 ≡ o)
    (a b c d e : ℕ) (ha : a < 64) (hb : b < 64) (hc : c < 64) (hd : d < 64) (he : e < 64) where
  at : end ≡ 32 * j + o
  at = omega (arith, ej, eo)

  low : o < 32
  low = omega (arith, eo)

  h₀ : List Bool
  h₀ = take o (bits 32 x)

  long₀ : length h₀ ≡ o
  unfolding h₀
  long₀ = length-take-le o (bits 32 x) (omega (arith, length-bits 32 x, low))

  z₄ : ℕ
  z₄ = cond (ltb (o + 6 + 6 + 6 + 6) 32) (cond (ltb (o + 6 + 6 + 6) 32) (cond (ltb (o + 6 + 6) 32) (cond (ltb (o + 6) 32) z 0) 0) 0) 0

  h₅ : List Bool
  h₅ = ((((h₀ ++ bits 6 a) ++ bits 6 b) ++ bits 6 c) ++ bits 6 d) ++ bits 6 e

  -- one after the other
  by-six : put_five (p ++ x ∷ y ∷ z ∷ t) end a b c d e ≡ cells_of p (pad h₅) (z₄ ∷ t)
  unfolding put_five h₀ z₄ h₅
  by-six =
      ap (λ l. put_cells (put_cells (put_cells (put_cells l (end + 6) b) (end + 12) c) (end + 18) d) (end + 24) e)
      (put-at p x y (z ∷ t) end j o a long ej eo low ha ∙ ap (λ m. cells_of p ((h₀ ++ bits 6 a) ++ bits m 0) (z ∷ t)) zeros)
      ∙ ap (λ l. put_cells (put_cells (put_cells l (end + 12) c) (end + 18) d) (end + 24) e)
      (next p t (h₀ ++ bits 6 a) (o + 6) l₁ z b (end + 6) j long hb (omega (arith, low)) (omega (arith, at)))
      ∙ ap (λ l. put_cells (put_cells l (end + 18) d) (end + 24) e)
      (next p t ((h₀ ++ bits 6 a) ++ bits 6 b) (o + 6 + 6) l₂ _ c (end + 12) j long hc (omega (arith, low)) (omega (arith, at)))
      ∙ ap (λ l. put_cells l (end + 24) e)
      (next p t (((h₀ ++ bits 6 a) ++ bits 6 b) ++ bits 6 c) (o + 6 + 6 + 6) l₃ _ d (end + 18) j long hd (omega (arith, low)) (omega (arith, at)))
      ∙ next p t ((((h₀ ++ bits 6 a) ++ bits 6 b) ++ bits 6 c) ++ bits 6 d) (o + 6 + 6 + 6 + 6) l₄ _ e
      (end + 24) j long he (omega (arith, low)) (omega (arith, at))
    where
      more : (h : List Bool) (n s : ℕ) → length h ≡ n → length (h ++ bits 6 s) ≡ n + 6
      more h n s l = omega (arith, length-append h (bits 6 s), length-bits 6 s, l)

      l₁ : length (h₀ ++ bits 6 a) ≡ o + 6
      l₁ = more h₀ o a long₀

      l₂ : length ((h₀ ++ bits 6 a) ++ bits 6 b) ≡ o + 6 + 6
      l₂ = more (h₀ ++ bits 6 a) (o + 6) b l₁

      l₃ : length (((h₀ ++ bits 6 a) ++ bits 6 b) ++ bits 6 c) ≡ o + 6 + 6 + 6
      l₃ = more ((h₀ ++ bits 6 a) ++ bits 6 b) (o + 6 + 6) c l₂

      l₄ : length ((((h₀ ++ bits 6 a) ++ bits 6 b) ++ bits 6 c) ++ bits 6 d) ≡ o + 6 + 6 + 6 + 6
      l₄ = more (((h₀ ++ bits 6 a) ++ bits 6 b) ++ bits 6 c) (o + 6 + 6 + 6) d l₃

      zeros : 58 - o ≡ 64 - length (h₀ ++ bits 6 a)
      zeros = omega (arith, l₁)

  -- at once
  v : ℕ
  v = wide_pair x o (thirty a b c d e)

  wide_is : (v / 2 ^ 32 ≡ number (take 32 (pad h₅))) × (v % 2 ^ 32 ≡ number (drop 32 (pad h₅)))
  unfolding v h₀ h₅
  wide_is =
      halves (wide_pair x o (thirty a b c d e)) (pad h₅) (mod-lt _ (pow_pos 64))
      (wide-bits x o (thirty a b c d e) low (omega (arith, ha, hb, hc, hd, he))
      ∙ ap (λ l. l ++ bits (34 - o) 0) (thirty-bits h₀ a b c d e ha hb hc hd he) ∙ ap (λ m. h₅ ++ bits m 0) zeros)
    where
      zeros : 34 - o ≡ 64 - length h₅
      zeros =
          omega (
            arith,
            sym (ap length (thirty-bits h₀ a b c d e ha hb hc hd he)),
            length-append h₀ (bits 30 (thirty a b c d e)),
            length-bits 30 (thirty a b c d e),
            long₀,
          )

  at_once : set (set (set (p ++ x ∷ y ∷ z ∷ t) ((end + 24) / 32 + 1) 0) j (v / 2 ^ 32)) (j + 1) (v % 2 ^ 32) ≡ cells_of p (pad h₅) (z₄ ∷ t)
  unfolding z₄
  at_once = go (dec_lt (o + 6 + 6 + 6 + 6) 32)
    where
      second : (n : ℕ) → n ≡ j + 1 → set (p ++ x ∷ y ∷ z ∷ t) n 0 ≡ p ++ x ∷ 0 ∷ z ∷ t
      second n q =
          ap (λ l. set l n 0) (sym (append_assoc p (x ∷ []) (y ∷ z ∷ t)))
          ∙ set_at (p ++ (x ∷ [])) y (z ∷ t) 0 n (length-append p (x ∷ []) ∙ omega (arith, long, q)) ∙ append_assoc p (x ∷ []) (0 ∷ z ∷ t)

      third : (n : ℕ) → n ≡ j + 2 → set (p ++ x ∷ y ∷ z ∷ t) n 0 ≡ p ++ x ∷ y ∷ 0 ∷ t
      third n q =
          ap (λ l. set l n 0) (sym (append_assoc p (x ∷ y ∷ []) (z ∷ t)))
          ∙ set_at (p ++ (x ∷ y ∷ [])) z t 0 n (length-append p (x ∷ y ∷ []) ∙ omega (arith, long, q)) ∙ append_assoc p (x ∷ y ∷ []) (0 ∷ t)

      cells_are : (y' z' : ℕ) → z' ≡ z₄ → set (set (p ++ x ∷ y' ∷ z' ∷ t) j (v / 2 ^ 32)) (j + 1) (v % 2 ^ 32) ≡ cells_of p (pad h₅) (z₄ ∷ t)
      cells_are y' z' q =
          set-two p x y' (z' ∷ t) j (v / 2 ^ 32) (v % 2 ^ 32) long
          ∙ ap₂ (λ f g. p ++ f ∷ g ∷ z' ∷ t) wide_is.0 wide_is.1 ∙ ap (λ f. cells_of p (pad h₅) (f ∷ t)) q

      go : Dec (o + 6 + 6 + 6 + 6 < 32)
          → set (set (set (p ++ x ∷ y ∷ z ∷ t) ((end + 24) / 32 + 1) 0) j (v / 2 ^ 32)) (j + 1) (v % 2 ^ 32) ≡ cells_of p (pad h₅) (z₄ ∷ t)
      go (yes l) =
          ap (λ q. set (set q j (v / 2 ^ 32)) (j + 1) (v % 2 ^ 32)) (second ((end + 24) / 32 + 1) (omega (arith, at, l)))
          ∙ cells_are 0 z
          (sym (rw (
            lt-ltb (o + 6 + 6 + 6 + 6) 32 l,
            lt-ltb (o + 6 + 6 + 6) 32 (omega (arith, l)),
            lt-ltb (o + 6 + 6) 32 (omega (arith, l)),
            lt-ltb (o + 6) 32 (omega (arith, l)),
          )))
      go (no l) =
          ap (λ q. set (set q j (v / 2 ^ 32)) (j + 1) (v % 2 ^ 32)) (third ((end + 24) / 32 + 1) (omega (arith, at, l, low)))
          ∙ cells_are y 0 (sym (rw (le-ltb (o + 6 + 6 + 6 + 6) 32 (omega (arith, l)))))

-- FIVE TIMES SIX BITS PUT IN AT ONCE
pub five-law : (cells : List ℕ) (end a b c d e : ℕ) → length cells ≡ 40 → end ≤ 1192 → a < 64 → b < 64 → c < 64 → d < 64 → e < 64
    → set (set (set cells ((end + 24) / 32 + 1) 0) (end / 32) (wide_pair (get_or cells (end / 32) 0) (end % 32) (thirty a b c d e) / 2 ^ 32)) (end / 32 + 1)
    (wide_pair (get_or cells (end / 32) 0) (end % 32) (thirty a b c d e) % 2 ^ 32)
    ≡ put_five cells end a b c d e
unfolding v
five-law cells end a b c d e len top ha hb hc hd he =
    ap (λ l. set (set (set l ((end + 24) / 32 + 1) 0) (end / 32) (w / 2 ^ 32)) (end / 32 + 1) (w % 2 ^ 32)) are
    ∙ at_once p x y z t end (end / 32) (end % 32) long refl refl a b c d e ha hb hc hd he
    ∙ sym (ap (λ l. put_five l end a b c d e) are ∙ by-six p x y z t end (end / 32) (end % 32) long refl refl a b c d e ha hb hc hd he)
  where
    p : List ℕ
    p = take (end / 32) cells

    x : ℕ
    x = get_or cells (end / 32) 0

    y : ℕ
    y = get_or cells (end / 32 + 1) 0

    z : ℕ
    z = get_or cells (end / 32 + 2) 0

    t : List ℕ
    t = drop (suc (end / 32 + 2)) cells

    w : ℕ
    w = wide_pair x (end % 32) (thirty a b c d e)

    are : cells ≡ p ++ x ∷ y ∷ z ∷ t
    are = parts cells (end / 32) (omega (arith, len, top))

    long : length p ≡ end / 32
    long = length-take-le (end / 32) cells (omega (arith, len, top))
