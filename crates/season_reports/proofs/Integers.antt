-- Signed numbers in order: one that is at most another, by what is to be added; a count times a number; the lesser and the greater of two.
-- Assumes nothing.
use mathlib.Core.Path.{◌≡◌, refl, sym, ap, ap₂, ◌∙◌}
use mathlib.Core.Bool.{Bool, true, false, cond, true≢false}
use Prim.Native.Nat.{ℕ, zero, suc, ◌+◌, ◌*◌, ◌-◌, ◌^◌, ◌≤◌, ◌<◌}
use native.Mathlib.Nat.{add-zero, add-suc, mul-le-mul_right, mul-lt-mul_of_pos_left}
use native.Mathlib.Omega.{arith}
use lib.Dec.{ltb}
use lib.IntN.{ℤ, pos, negsuc, ◌+ℤ◌, ◌*ℤ◌, +ℤ_assoc, +ℤ_comm, +ℤ_idr, zero-*ℤ, suc_ℤ-*ℤ}
use lib.Signed.{mag, lt_z}
use borrow.Author.Tests.{ltb-true, ltb-false, lt-ltb, le-ltb}
use Rattle.season_reports.specs.Rows.{lesser, greater}

-- ---- at most

pub record AtMost (a b : ℤ) : Type 0 where
  pub more : ℕ
  pub is : b ≡ a +ℤ pos more

pub most-refl : (a : ℤ) → AtMost a a
most-refl a = record { more = 0; is = sym (+ℤ_idr a) }

pub most-trans : (a b c : ℤ) → AtMost a b → AtMost b c → AtMost a c
most-trans a b c p q = record {
  more = p.more + q.more;
  is = q.is ∙ ap (λ x. x +ℤ pos q.more) p.is ∙ +ℤ_assoc a (pos p.more) (pos q.more);
}

swap : (a m c n : ℤ) → (a +ℤ m) +ℤ (c +ℤ n) ≡ (a +ℤ c) +ℤ (m +ℤ n)
swap a m c n =
    +ℤ_assoc a m (c +ℤ n)
    ∙ ap (λ x. a +ℤ x) (sym (+ℤ_assoc m c n) ∙ ap (λ x. x +ℤ n) (+ℤ_comm m c) ∙ +ℤ_assoc c m n)
    ∙ sym (+ℤ_assoc a c (m +ℤ n))

pub most-both : (a b c d : ℤ) → AtMost a b → AtMost c d → AtMost (a +ℤ c) (b +ℤ d)
most-both a b c d p q = record {
  more = p.more + q.more;
  is = ap₂ ◌+ℤ◌ p.is q.is ∙ swap a (pos p.more) c (pos q.more);
}

-- by the code's test
pub told-most : (a b : ℤ) → lt_z b a ≡ false → AtMost a b
told-most (pos a) (pos b) e = let h = ltb-false b a e in let s : b ≡ a + (b - a) = omega arith in record { more = b - a; is = ap pos s }
told-most (pos a) (negsuc b) e = absurd (true≢false e)
told-most (negsuc a) (pos b) e =
    let s : b ≡ b + suc a - suc a = omega arith in
    record { more = b + suc a; is = rw (le-ltb (b + suc a) (suc a) (omega arith)) (ap pos s) }
told-most (negsuc a) (negsuc b) e =
    let h = ltb-false a b e in
    let s : b ≡ suc a - suc (a - b) = omega arith in
    record { more = a - b; is = rw (lt-ltb (a - b) (suc a) (omega arith)) (ap negsuc s) }

pub most-told : (a b : ℤ) → AtMost a b → lt_z b a ≡ false
most-told (pos a) b p = rw p.is (le-ltb (a + p.more) a (omega arith))
most-told (negsuc a) b p = ap (λ x. lt_z x (negsuc a)) p.is ∙ go (ltb p.more (suc a)) refl
  where
    go : (t : Bool) → ltb p.more (suc a) ≡ t → lt_z (cond (ltb p.more (suc a)) (negsuc (suc a - suc p.more)) (pos (p.more - suc a))) (negsuc a) ≡ false
    go true e = rw e (le-ltb a (suc a - suc p.more) (omega arith))
    go false e = rw e

less-most : (a b : ℤ) → lt_z a b ≡ true → AtMost a b
less-most a b e = told-most a b (asym a b e)
  where
    asym : (a b : ℤ) → lt_z a b ≡ true → lt_z b a ≡ false
    asym (pos a) (pos b) e = let h = ltb-true a b e in le-ltb b a (omega arith)
    asym (pos a) (negsuc b) e = absurd (true≢false (sym e))
    asym (negsuc a) (pos b) e = refl
    asym (negsuc a) (negsuc b) e = let h = ltb-true b a e in le-ltb a b (omega arith)

-- ---- a count times a number

pub times-add : (z : ℤ) (c d : ℕ) → pos (c + d) *ℤ z ≡ pos c *ℤ z +ℤ pos d *ℤ z
times-add z c zero = ap (λ n. pos n *ℤ z) (add-zero c) ∙ sym (ap (λ x. pos c *ℤ z +ℤ x) (zero-*ℤ z) ∙ +ℤ_idr (pos c *ℤ z))
times-add z c (suc d) =
    ap (λ n. pos n *ℤ z) (add-suc c d) ∙ suc_ℤ-*ℤ (pos (c + d)) z ∙ ap (λ x. x +ℤ z) (times-add z c d)
    ∙ +ℤ_assoc (pos c *ℤ z) (pos d *ℤ z) z ∙ ap (λ x. pos c *ℤ z +ℤ x) (sym (suc_ℤ-*ℤ (pos d) z))

pub times-most : (a b : ℤ) → AtMost a b → (c : ℕ) → AtMost (pos c *ℤ a) (pos c *ℤ b)
times-most a b p zero = rw (zero-*ℤ a, zero-*ℤ b) (most-refl (pos 0))
times-most a b p (suc c) =
    rw (suc_ℤ-*ℤ (pos c) a, suc_ℤ-*ℤ (pos c) b) (most-both (pos c *ℤ a) (pos c *ℤ b) a b (times-most a b p c) p)

-- ---- the lesser and the greater

pub lesser-first : (a b : ℤ) → AtMost (lesser a b) a
lesser-first a b = go (lt_z b a) refl
  where
    go : (t : Bool) → lt_z b a ≡ t → AtMost (cond (lt_z b a) b a) a
    go true e = rw e (less-most b a e)
    go false e = rw e (most-refl a)

pub lesser-second : (a b : ℤ) → AtMost (lesser a b) b
lesser-second a b = go (lt_z b a) refl
  where
    go : (t : Bool) → lt_z b a ≡ t → AtMost (cond (lt_z b a) b a) b
    go true e = rw e (most-refl b)
    go false e = rw e (told-most a b e)

pub greater-first : (a b : ℤ) → AtMost a (greater a b)
greater-first a b = go (lt_z a b) refl
  where
    go : (t : Bool) → lt_z a b ≡ t → AtMost a (cond (lt_z a b) b a)
    go true e = rw e (less-most a b e)
    go false e = rw e (most-refl a)

pub greater-second : (a b : ℤ) → AtMost b (greater a b)
greater-second a b = go (lt_z a b) refl
  where
    go : (t : Bool) → lt_z a b ≡ t → AtMost b (cond (lt_z a b) b a)
    go true e = rw e (most-refl b)
    go false e = rw e (told-most b a e)

-- of three: over the test, since the one is the other's mirror
module _ (before : ℤ → ℤ → Bool) where
  abbrev chosen : ℤ → ℤ → ℤ
  chosen a b = cond (before a b) b a

  module _ (on : (a b c : ℤ) → before a b ≡ true → before b c ≡ true → before a c ≡ true)
      (off : (a b c : ℤ) → before a b ≡ false → before b c ≡ false → before a c ≡ false) where
    chosen-assoc : (a b c : ℤ) → chosen (chosen a b) c ≡ chosen a (chosen b c)
    chosen-assoc a b c = go (before a b) (before b c) refl refl
      where
        go : (s t : Bool) → before a b ≡ s → before b c ≡ t → chosen (chosen a b) c ≡ chosen a (chosen b c)
        go true true e f = rw (e, f, on a b c e f)
        go true false e f = rw (e, f, e)
        go false true e f = rw (e, f)
        go false false e f = rw (e, f, off a b c e f, e)

less-less : (a b c : ℤ) → lt_z a b ≡ true → lt_z b c ≡ true → lt_z a c ≡ true
less-less (pos a) (pos b) (pos c) e f = let h = ltb-true a b e in let k = ltb-true b c f in lt-ltb a c (omega arith)
less-less (pos a) (pos b) (negsuc c) e f = absurd (true≢false (sym f))
less-less (pos a) (negsuc b) c e f = absurd (true≢false (sym e))
less-less (negsuc a) (pos b) (pos c) e f = refl
less-less (negsuc a) (pos b) (negsuc c) e f = absurd (true≢false (sym f))
less-less (negsuc a) (negsuc b) (pos c) e f = refl
less-less (negsuc a) (negsuc b) (negsuc c) e f = let h = ltb-true b a e in let k = ltb-true c b f in lt-ltb c a (omega arith)

not-not : (a b c : ℤ) → lt_z a b ≡ false → lt_z b c ≡ false → lt_z a c ≡ false
not-not a b c e f = most-told c a (most-trans c b a (told-most c b f) (told-most b a e))

pub lesser-assoc : (a b c : ℤ) → lesser (lesser a b) c ≡ lesser a (lesser b c)
lesser-assoc = chosen-assoc (λ a b. lt_z b a) (λ a b c e f. less-less c b a f e) (λ a b c e f. not-not c b a f e)

pub greater-assoc : (a b c : ℤ) → greater (greater a b) c ≡ greater a (greater b c)
greater-assoc = chosen-assoc lt_z less-less not-not

-- ---- what fits

pub lesser-typed : (a b : ℤ) (h : ℕ) → mag a < h → mag b < h → mag (lesser a b) < h
lesser-typed a b h p q = go (lt_z b a)
  where
    go : (t : Bool) → mag (cond t b a) < h
    go true = q
    go false = p

pub greater-typed : (a b : ℤ) (h : ℕ) → mag a < h → mag b < h → mag (greater a b) < h
greater-typed a b h p q = go (lt_z a b)
  where
    go : (t : Bool) → mag (cond t b a) < h
    go true = q
    go false = p

-- a count of 32 bits times a number of 32 bits has room in 64
pub product-room : (c n : ℕ) → c < 2 ^ 32 → n ≤ 2 ^ 31 → c * n < 2 ^ 63
product-room c n h l =
    omega (arith, mul-le-mul_right {m = n} {n = 2 ^ 31} c l, mul-lt-mul_of_pos_left {m = c} {n = 2 ^ 32} {k = 2 ^ 31} h (omega arith))
