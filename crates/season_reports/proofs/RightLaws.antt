-- What is right of a row, and stays so: its sum lies between count times least and count times largest, and so has room in 64 bits. Assumes nothing.
use mathlib.Core.Path.{◌≡◌, refl, sym, ap, ap₂, subst, ◌∙◌}
use mathlib.Core.Bool.{Bool, true, false, ◌||◌, true≢false}
use Prim.Native.Nat.{ℕ, zero, suc, ◌+◌, ◌*◌, ◌^◌, ◌<◌}
use native.Mathlib.Nat.{zero-add, add-zero}
use native.Mathlib.Omega.{arith}
use lib.Dec.{eqb}
use lib.IntN.{ℤ, pos, negsuc, neg_ℤ, ◌+ℤ◌, ◌*ℤ◌, +ℤ_idl, +ℤ_idr}
use lib.Signed.{mag, lt_z}
use borrow.Author.Tests.{eqb-true, eqb-false, ne_eqb, leb-false, lt-leb, ltb-false, not-false}
use Rattle.frame.proofs.WidthLaws.{both_false}
use Rattle.season_reports.specs.Rows.{lesser, greater, widest, blank_row, together, is_zero, wrong_ends, wrong_sum, over_count}
use Rattle.season_reports.specs.Tables.{over_both, merged, EndsTyped, TypedRow, SoundRow}
use Rattle.season_reports.specs.declared.Row.{Row}
use Rattle.season_reports.specs.declared.Extremes.{Extremes}
use Rattle.season_reports.specs.declared.Extremes.TheVariants.{Absent, Present}
use Rattle.season_reports.proofs.Integers.{AtMost, most-trans, most-both, told-most, most-told, times-add, times-most}
use Rattle.season_reports.proofs.Integers.{lesser-first, lesser-second, greater-first, greater-second, lesser-typed, greater-typed}
use Rattle.season_reports.proofs.Integers.{product-room}

-- ---- count, sum and ends

zero-told : (z : ℤ) → is_zero z ≡ true → z ≡ pos 0
zero-told (pos n) e = ap pos (eqb-true n 0 e)
zero-told (negsuc n) e = absurd (true≢false (sym e))

absent-told : (c : ℕ) (s : ℤ) → wrong_ends c s Absent ≡ false → (c ≡ 0) × (s ≡ pos 0)
absent-told c s e =
    let b = both_false _ _ e in
    (eqb-true c 0 (not-false _ b.0), zero-told s (not-false _ b.1))

sides : (c : ℕ) (s l h : ℤ) → wrong_ends c s (Present l h) ≡ false → (lt_z s (pos c *ℤ l) ≡ false) × (lt_z (pos c *ℤ h) s ≡ false)
sides c s l h e =
    both_false (lt_z s (pos c *ℤ l)) (lt_z (pos c *ℤ h) s) (both_false (eqb c 0) (lt_z s (pos c *ℤ l) || lt_z (pos c *ℤ h) s) e).1

pub record Between (c : ℕ) (s l h : ℤ) : Type 0 where
  pub some : (c ≡ 0) → ⊥
  pub above : AtMost (pos c *ℤ l) s
  pub below : AtMost s (pos c *ℤ h)

present-told : (c : ℕ) (s l h : ℤ) → wrong_ends c s (Present l h) ≡ false → Between c s l h
present-told c s l h e =
    let d = sides c s l h e in
    record {
      some = eqb-false c 0 (both_false (eqb c 0) (lt_z s (pos c *ℤ l) || lt_z (pos c *ℤ h) s) e).0;
      above = told-most (pos c *ℤ l) s d.0;
      below = told-most s (pos c *ℤ h) d.1;
    }

pub present-right : (c : ℕ) (s l h : ℤ) → Between c s l h → wrong_ends c s (Present l h) ≡ false
present-right c s l h b =
    rw (ne_eqb c 0 b.some, most-told (pos c *ℤ l) s b.above, most-told s (pos c *ℤ h) b.below)

both-between : (c d : ℕ) (s t l h m g : ℤ) → Between c s l h → Between d t m g → Between (c + d) (s +ℤ t) (lesser l m) (greater h g)
both-between c d s t l h m g p q = record {
  some = λ e. let none : c ≡ 0 = omega arith in p.some none;
  above = subst (λ x. AtMost x (s +ℤ t)) (sym (times-add (lesser l m) c d))
      (most-both (pos c *ℤ lesser l m) s (pos d *ℤ lesser l m) t
      (most-trans _ (pos c *ℤ l) s (times-most (lesser l m) l (lesser-first l m) c) p.above)
      (most-trans _ (pos d *ℤ m) t (times-most (lesser l m) m (lesser-second l m) d) q.above));
  below = subst (λ x. AtMost (s +ℤ t) x) (sym (times-add (greater h g) c d))
      (most-both s (pos c *ℤ greater h g) t (pos d *ℤ greater h g)
      (most-trans s (pos c *ℤ h) _ p.below (times-most h (greater h g) (greater-first h g) c))
      (most-trans t (pos d *ℤ g) _ q.below (times-most g (greater h g) (greater-second h g) d)));
}

ends-right : (c d : ℕ) (s t : ℤ) (x y : Extremes) → wrong_ends c s x ≡ false → wrong_ends d t y ≡ false
    → wrong_ends (c + d) (s +ℤ t) (widest x y) ≡ false
unfolding widest
ends-right c d s t Absent y e f =
    let z = absent-told c s e in
    ap₂ (λ n r. wrong_ends n r y) (ap (λ n. n + d) z.0 ∙ zero-add d) (ap (λ r. r +ℤ t) z.1 ∙ +ℤ_idl t) ∙ f
ends-right c d s t (Present l h) Absent e f =
    let z = absent-told d t f in
    ap₂ (λ n r. wrong_ends n r (Present l h)) (ap (λ n. c + n) z.0 ∙ add-zero c) (ap (λ r. s +ℤ r) z.1 ∙ +ℤ_idr s) ∙ e
ends-right c d s t (Present l h) (Present m g) e f =
    present-right (c + d) (s +ℤ t) (lesser l m) (greater h g)
    (both-between c d s t l h m g (present-told c s l h e) (present-told d t m g f))

widest-typed : (x y : Extremes) → EndsTyped x → EndsTyped y → EndsTyped (widest x y)
unfolding widest
widest-typed Absent y p q = q
widest-typed (Present l h) Absent p q = p
widest-typed (Present l h) (Present m g) p q = (lesser-typed l m (2 ^ 31) p.0 q.0, greater-typed h g (2 ^ 31) p.1 q.1)

-- ---- a sum has room

-- a sum that is at most a product of no sign, and one that is at least minus such a product
most-room : (c : ℕ) (h : ℤ) (m : ℕ) → c < 2 ^ 32 → mag h < 2 ^ 31 → lt_z (pos c *ℤ h) (pos m) ≡ false → m < 2 ^ 63
most-room c (pos n) m k l e = omega (arith, ltb-false (c * n) m e, product-room c n k (omega arith))
most-room c (negsuc n) m k l e = go (c * suc n) e
  where
    go : (p : ℕ) → lt_z (neg_ℤ (pos p)) (pos m) ≡ false → m < 2 ^ 63
    go zero f = omega (arith, ltb-false 0 m f)
    go (suc p) f = absurd (true≢false f)

least-room : (c : ℕ) (l : ℤ) (m : ℕ) → c < 2 ^ 32 → mag l < 2 ^ 31 → lt_z (negsuc m) (pos c *ℤ l) ≡ false → m < 2 ^ 63
least-room c (pos n) m k l e = absurd (true≢false e)
least-room c (negsuc n) m k l e = go (c * suc n) (product-room c (suc n) k (omega arith)) e
  where
    go : (p : ℕ) → p < 2 ^ 63 → lt_z (negsuc m) (neg_ℤ (pos p)) ≡ false → m < 2 ^ 63
    go zero h f = absurd (true≢false f)
    go (suc p) h f = omega (arith, ltb-false p m f)

sum_room : (c : ℕ) (s : ℤ) (x : Extremes) → c < 2 ^ 32 → EndsTyped x → wrong_ends c s x ≡ false → mag s < 2 ^ 63
sum_room c s Absent k t e = subst (λ z. mag z < 2 ^ 63) (sym (absent-told c s e).1) (omega arith)
sum_room c (pos m) (Present l h) k t e = most-room c h m k t.1 (sides c (pos m) l h e).1
sum_room c (negsuc m) (Present l h) k t e = least-room c l m k t.0 (sides c (negsuc m) l h e).0

-- SUMS NEVER OVERFLOW
pub sum_fits : (r : Row) → SoundRow r → mag r.sum < 2 ^ 63
unfolding wrong_sum
sum_fits r s = sum_room r.usable r.sum r.extremes s.typed.usable s.typed.ends s.right

-- ---- rows

pub together-right : (a b : Row) → wrong_sum a ≡ false → wrong_sum b ≡ false → wrong_sum (together a b) ≡ false
unfolding wrong_sum together
together-right a b e f = ends-right a.usable b.usable a.sum b.sum a.extremes b.extremes e f

pub together-sound : (a b : Row) → SoundRow a → SoundRow b → over_both a b ≡ false → SoundRow (together a b)
unfolding together
together-sound a b p q e =
    let o = both_false _ _ e in
    record {
      typed = record {
        station = q.typed.station;
        satellite = q.typed.satellite;
        usable = leb-false (2 ^ 32) (a.usable + b.usable) o.0;
        stops = leb-false (2 ^ 32) (a.stops + b.stops) o.1;
        ends = widest-typed a.extremes b.extremes p.typed.ends q.typed.ends;
      };
      right = together-right a b p.right q.right;
    }

pub merged-sound : (a b : Row) → SoundRow a → SoundRow b → SoundRow (merged a b)
merged-sound a b p q = go (over_both a b) refl
  where
    go : (t : Bool) → over_both a b ≡ t → SoundRow (merged a b)
    go true e = rw e p
    go false e = rw e (together-sound a b p q e)

pub blank-sound : SoundRow blank_row
unfolding wrong_sum
blank-sound = record {
  typed = record { station = omega arith; satellite = omega arith; usable = omega arith; stops = omega arith; ends = tt };
  right = refl;
}

pub counts-fit : (r : Row) → TypedRow r → over_count r ≡ false
unfolding over_count
counts-fit r t = rw (lt-leb (2 ^ 32) r.usable t.usable, lt-leb (2 ^ 32) r.stops t.stops)
