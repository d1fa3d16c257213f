-- What a machine holds of rows: signed numbers are read back as they are, and sums and products have room. Assumes nothing.
use mathlib.Core.Path.{◌≡◌, refl, sym, ap, ap₂, subst, ◌∙◌}
use mathlib.Core.Bool.{Bool, true, false, ◌||◌, true≢false}
use Prim.Native.Nat.{ℕ, zero, suc, ◌+◌, ◌*◌, ◌-◌, ◌^◌, ◌≤◌, ◌<◌}
use native.Mathlib.Omega.{arith}
use lib.Dec.{eqb, leb, ltb}
use lib.IntN.{ℤ, pos, negsuc, neg_ℤ, ◌+ℤ◌, ◌*ℤ◌}
use lib.Signed.{mag, lt_z}
use mir.Syntax.{w32, w64}
use mir.Val.{SFits, to_z, of_z}
use mir.ValLaws.{to_z-of_z, to_z_pos}
use borrow.Author.Tests.{eqb-true, ne_eqb, le-leb, lt-leb, ltb-true, ltb-false}
use Rattle.season_reports.specs.Rows.{widest, together, is_zero, wrong_ends}
use Rattle.season_reports.specs.Tables.{over_both, SoundRow}
use Rattle.season_reports.specs.declared.Row.{Row}
use Rattle.season_reports.specs.declared.Extremes.{Extremes}
use Rattle.season_reports.specs.declared.Extremes.TheVariants.{Present}
use Rattle.season_reports.proofs.Integers.{product-room}
use Rattle.season_reports.proofs.RowLaws.{row_with}
use Rattle.season_reports.proofs.RightLaws.{sum_fits, together-sound}

-- ---- a number read back

abbrev pub held32 : ℤ → ℤ
held32 z = to_z w32 (of_z w32 z)

abbrev pub held64 : ℤ → ℤ
held64 z = to_z w64 (of_z w64 z)

-- the bits of a number are zero exactly where it is
pub zero_held : (z : ℤ) → SFits w64 z → eqb (of_z w64 z) 0 ≡ is_zero z
zero_held z f = go (is_zero z) refl (eqb (of_z w64 z) 0) refl
  where
    is : (z : ℤ) → is_zero z ≡ true → z ≡ pos 0
    is (pos n) e = ap pos (eqb-true n 0 e)
    is (negsuc n) e = absurd (true≢false (sym e))

    go : (s : Bool) → is_zero z ≡ s → (t : Bool) → eqb (of_z w64 z) 0 ≡ t → eqb (of_z w64 z) 0 ≡ is_zero z
    go true e t d = ap (λ x. eqb (of_z w64 x) 0) (is z e) ∙ sym e
    go false e true d =
        let zero : z ≡ pos 0 = sym (to_z-of_z w64 z f) ∙ ap (to_z w64) (eqb-true (of_z w64 z) 0 d) in
        absurd (true≢false (sym (ap is_zero zero) ∙ e))
    go false e false d = d ∙ sym e

-- ---- a count times a distance

times-room : (c : ℕ) (z : ℤ) → c < 2 ^ 32 → mag z < 2 ^ 31 → mag (pos c *ℤ z) < 2 ^ 63
times-room c (pos n) h l = product-room c n h (omega arith)
times-room c (negsuc n) h l = go (c * suc n) (product-room c (suc n) h (omega arith))
  where
    go : (p : ℕ) → p < 2 ^ 63 → mag (neg_ℤ (pos p)) < 2 ^ 63
    go zero k = k
    go (suc p) k = omega arith

module _ (c : ℕ) (z : ℤ) (h : c < 2 ^ 32) (f : SFits w32 z) where
  pub wide_fits : SFits w64 (held32 z)
  wide_fits = rw (to_z-of_z w32 z f) (record { sfits = omega (arith, f.sfits) })

  wide : held64 (held32 z) ≡ z
  wide = to_z-of_z w64 (held32 z) wide_fits ∙ to_z-of_z w32 z f

  operands : to_z w64 c *ℤ held64 (held32 z) ≡ pos c *ℤ z
  operands = ap₂ ◌*ℤ◌ (to_z_pos w64 c (omega arith)) wide

  pub times-fits : SFits w64 (to_z w64 c *ℤ held64 (held32 z))
  times-fits = subst (SFits w64) (sym operands) (record { sfits = times-room c z h f.sfits })

  pub times-is : held64 (to_z w64 c *ℤ held64 (held32 z)) ≡ pos c *ℤ z
  times-is = to_z-of_z w64 _ times-fits ∙ operands

-- ---- two rows

module _ (a b : Row) (p : SoundRow a) (q : SoundRow b) (e : over_both a b ≡ false) where
  pub sums-fit : SFits w64 (held64 a.sum +ℤ held64 b.sum)
  unfolding together
  sums-fit =
      rw (to_z-of_z w64 a.sum (record { sfits = sum_fits a p }), to_z-of_z w64 b.sum (record { sfits = sum_fits b q }))
      (record { sfits = sum_fits (together a b) (together-sound a b p q e) })

  pub joined_is : (x : Extremes) → x ≡ widest a.extremes b.extremes
      → row_with b.key (a.usable + b.usable) (a.stops + b.stops) x (held64 (held64 a.sum +ℤ held64 b.sum)) ≡ together a b
  unfolding together
  joined_is x f =
      ap₂ (row_with b.key (a.usable + b.usable) (a.stops + b.stops)) f
      (to_z-of_z w64 _ sums-fit
      ∙ ap₂ ◌+ℤ◌ (to_z-of_z w64 a.sum (record { sfits = sum_fits a p })) (to_z-of_z w64 b.sum (record { sfits = sum_fits b q })))

-- ---- tests on signed numbers

module _ (count : ℕ) (sum l h : ℤ) (some : count ≡ 0 → ⊥) (f : SFits w64 sum) (x : ℤ) (g : SFits w64 x) (is : x ≡ pos count *ℤ l) where
  test-is : lt_z (held64 sum) (held64 x) ≡ lt_z sum (pos count *ℤ l)
  test-is = ap₂ lt_z (to_z-of_z w64 sum f) (to_z-of_z w64 x g ∙ is)

  pub beyond-first : lt_z (held64 sum) (held64 x) ≡ true → true ≡ wrong_ends count sum (Present l h)
  beyond-first e = sym (rw (ne_eqb count 0 some, sym test-is ∙ e))

  pub beyond-last : lt_z (held64 sum) (held64 x) ≡ false → (y : ℤ) → SFits w64 y → y ≡ pos count *ℤ h
      → lt_z (held64 y) (held64 sum) ≡ wrong_ends count sum (Present l h)
  beyond-last e y k at =
      ap₂ lt_z (to_z-of_z w64 y k ∙ at) (to_z-of_z w64 sum f)
      ∙ sym (ap₂ (λ a b. a || (b || lt_z (pos count *ℤ h) sum)) (ne_eqb count 0 some) (sym test-is ∙ e))

-- ---- a count passes where the other is more than what is left to the most

pub over-usable : (a b : Row) → a.usable < 2 ^ 32 → 4294967295 - a.usable < b.usable → true ≡ over_both a b
over-usable a b h k = sym (rw (le-leb (2 ^ 32) (a.usable + b.usable) (omega arith)))

pub over-stops : (a b : Row) → a.usable < 2 ^ 32 → a.stops < 2 ^ 32 → b.usable ≤ 4294967295 - a.usable
    → ltb (4294967295 - a.stops) b.stops ≡ over_both a b
over-stops a b h k l =
    go (ltb (4294967295 - a.stops) b.stops) refl
    ∙ sym (ap (λ t. t || leb (2 ^ 32) (a.stops + b.stops)) (lt-leb (2 ^ 32) (a.usable + b.usable) (omega arith)))
  where
    go : (t : Bool) → ltb (4294967295 - a.stops) b.stops ≡ t → ltb (4294967295 - a.stops) b.stops ≡ leb (2 ^ 32) (a.stops + b.stops)
    go true e = let m = ltb-true (4294967295 - a.stops) b.stops e in e ∙ sym (le-leb (2 ^ 32) (a.stops + b.stops) (omega arith))
    go false e = let m = ltb-false (4294967295 - a.stops) b.stops e in e ∙ sym (lt-leb (2 ^ 32) (a.stops + b.stops) (omega arith))
