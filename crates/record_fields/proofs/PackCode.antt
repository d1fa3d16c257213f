-- Facts that the proofs of the field reader and of the packer's steps cite. Assumes nothing.
use mathlib.Core.Path.{◌≡◌, refl, ap, ap₂, ◌∙◌}
use mathlib.Core.Bool.{Bool, true, false, ◌||◌, cond}
use mathlib.Core.List.{List}
use Prim.Native.Nat.{ℕ, ◌+◌, ◌*◌, ◌-◌, ◌/◌, ◌%◌, ◌^◌, ◌≤◌, ◌<◌}
use native.Mathlib.Nat.{one-mul, mod-lt, mod-eq_of_lt, suc-mul, mul-le-mul_right}
use native.Mathlib.Omega.{arith}
use lib.Dec.{ltb, leb}
use lib.ListN.{length, get_or, set}
use lib.Pow.{field, pow_pos, pow-lt, pow_mono}
use borrow.Author.Tests.{lt-ltb, le-ltb, le-leb, lt-leb, eq-eqb, ne_eqb}
use Rattle.bits.specs.Fields.{field_at}
use Rattle.bits.specs.Rows.{data_bits}
use Rattle.bits.proofs.FieldLaws.{fits-field}
use Rattle.bits.proofs.WordLaws.{three-words}
use Rattle.record_fields.specs.declared.Packer.{Packer}
use Rattle.record_fields.specs.Packing.{field_in, flushed, joined, pushed, filled_up}

-- ---- a field

-- within the words it is the field of their bits
pub field_in_lem : (ws : List ℕ) (o w : ℕ) → w ≤ 32 → o + w ≤ 744 → field_in ws o w ≡ field_at o w (data_bits ws)
unfolding field_in
field_in_lem ws o w h k = rw (le-ltb 32 w h, le-ltb 744 (o + w) k)

pub field-wide : (ws : List ℕ) (o w : ℕ) → 32 < w → field_in ws o w ≡ 0
unfolding field_in
field-wide ws o w h = rw (lt-ltb 32 w h)

pub field_past : (ws : List ℕ) (o w : ℕ) → w ≤ 32 → 744 < o + w → field_in ws o w ≡ 0
unfolding field_in
field_past ws o w h k = rw (le-ltb 32 w h, lt-ltb 744 (o + w) k)

pub field-none : (ws : List ℕ) (o w : ℕ) → w ≡ 0 → field_in ws o w ≡ 0
unfolding field_in
field-none ws o w e = go (ltb 32 w || ltb 744 (o + w)) (omega (arith, fits-field o w (data_bits ws), ap (λ k. 2 ^ k) e))
  where
    go : (b : Bool) → field_at o w (data_bits ws) ≡ 0 → cond b 0 (field_at o w (data_bits ws)) ≡ 0
    go true h = refl
    go false h = h

pub shifted_one : (k : ℕ) → k < 64 → 1 * 2 ^ k % 2 ^ 64 ≡ 2 ^ k
shifted_one k h = rw (one-mul (2 ^ k)) (mod-eq_of_lt (pow-lt {i = k} {j = 64} h))

-- a number below 2^24 times two to at most 32, and a number below that
pub times_below : (a w : ℕ) → a < 2 ^ 24 → w ≤ 32 → a * 2 ^ w + 2 ^ w ≤ 2 ^ 56
times_below a w ha hw = omega (arith, suc-mul-le, pow_mono {i = w} {j = 32} hw)
  where
    suc-mul-le : a * 2 ^ w + 2 ^ w ≤ 2 ^ 24 * 2 ^ w
    suc-mul-le = omega (arith, suc-mul a (2 ^ w), mul-le-mul_right (2 ^ w) ha)

pub flushed-le : (p : Packer) → p.held ≤ 64 → (flushed p).held ≤ 64
unfolding flushed
flushed-le p h = go (ltb p.held 24 || leb 31 p.whole)
  where
    go : (s : Bool) → (cond s p record {
      words = set p.words p.whole (p.rest / 2 ^ (p.held - 24) % 2 ^ 24);
      whole = p.whole + 1;
      held = p.held - 24;
      rest = p.rest % 2 ^ (p.held - 24);
    }).held ≤ 64
    go true = h
    go false = omega arith

pub field-law : (ws : List ℕ) (o w : ℕ) (a b d p q : ℕ) → length ws ≡ 31 → o + w ≤ 744 → w ≤ 32
    → a ≡ get_or ws (o / 24) 0 % 2 ^ 24 → b ≡ get_or ws (o / 24 + 1) 0 % 2 ^ 24 → d ≡ get_or ws (o / 24 + 2) 0 % 2 ^ 24
    → p ≡ 2 ^ (64 - (o % 24 + w)) → q ≡ 2 ^ w
    → (a * 2 ^ 40 + (b * 2 ^ 16 + d / 2 ^ 8)) / p % q ≡ field_at o w (data_bits ws)
field-law ws o w a b d p q l r k ea eb ed ep eq =
    rw (ea, eb, ed, ep, eq, field (get_or ws (o / 24 + 2) 0) 16 8) (three-words ws o w (omega arith) k)

pub field_below : (x w q : ℕ) → w ≤ 32 → q ≡ 2 ^ w → x % q < 2 ^ 32
field_below x w q k e = rw e (omega (arith, mod-lt x (pow_pos w), pow_mono {i = w} {j = 32} k))

-- ---- the packer
pub flush-short : (p : Packer) → p.held < 24 → p ≡ flushed p
unfolding flushed
flush-short p h = rw (lt-ltb p.held 24 h)

pub flush-full : (p : Packer) → 24 ≤ p.held → 31 ≤ p.whole → p ≡ flushed p
unfolding flushed
flush-full p h k = rw (le-ltb p.held 24 h, le-leb 31 p.whole k)

pub flush-one : (p : Packer) (a b : ℕ) → 24 ≤ p.held → p.whole < 31 → a ≡ 2 ^ (p.held - 24) → b ≡ 2 ^ (p.held - 24)
    → record { words = set p.words p.whole (p.rest / a % 2 ^ 24); whole = p.whole + 1; held = p.held - 24; rest = p.rest % b } ≡ flushed p
unfolding flushed
flush-one p a b h k ea eb = rw (le-ltb p.held 24 h, lt-leb 31 p.whole k, ea, eb)

pub push-law : (p : Packer) (w v u a b : ℕ) (f g : Packer) → w ≤ 32 → a ≡ 2 ^ w → b ≡ 2 ^ w → u ≡ v
    → f ≡ flushed (record { words = p.words; whole = p.whole; held = p.held % 24 + w; rest = p.rest % 2 ^ 24 * a + u % b }) → g ≡ flushed f
    → g ≡ pushed p w v
unfolding pushed joined
push-law p w v u a b f g h ea eb eu ef eg =
    rw (le-ltb 32 w h)
    (eg ∙ ap flushed
    (ef ∙ ap₂ (λ (x y : ℕ). flushed (record { words = p.words; whole = p.whole; held = p.held % 24 + w; rest = p.rest % 2 ^ 24 * x + u % y })) ea eb
    ∙ ap (λ (x : ℕ). flushed (record { words = p.words; whole = p.whole; held = p.held % 24 + w; rest = p.rest % 2 ^ 24 * 2 ^ w + x % 2 ^ w })) eu))

pub push-wide : (p : Packer) (w v : ℕ) → 32 < w → p ≡ pushed p w v
unfolding pushed
push-wide p w v h = rw (lt-ltb 32 w h)

pub flush-held : (f p : Packer) → f ≡ flushed p → p.held ≤ 64 → f.held ≤ 64
flush-held f p e h = rw e (flushed-le p h)

pub push-fits : (a v w p q : ℕ) → w ≤ 32 → p ≡ 2 ^ w → q ≡ 2 ^ w → a % 2 ^ 24 * p + v % q < 2 ^ 64
push-fits a v w p q h ep eq = rw (ep, eq) (omega (arith, times_below (a % 2 ^ 24) w (omega arith) h, mod-lt v (pow_pos w)))

pub fill_none : (pattern : ℕ) (p : Packer) → p.held % 24 ≡ 0 → p ≡ filled_up pattern p
unfolding filled_up
fill_none pattern p h = rw (eq-eqb (p.held % 24) 0 h)

pub fill-some : (pattern : ℕ) (p q : Packer) → (p.held % 24 ≡ 0 → ⊥) → q ≡ pushed p (24 - p.held % 24) (pattern / 2 ^ (p.held % 24))
    → q ≡ filled_up pattern p
unfolding filled_up
fill-some pattern p q h e = rw (ne_eqb (p.held % 24) 0 h) e
