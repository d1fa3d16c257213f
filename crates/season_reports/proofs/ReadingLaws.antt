-- The reading of an entry by the value functions, and the rows of single entries. Assumes nothing.
use mathlib.Core.Path.{◌≡◌, refl, sym, ap, ap₂, subst, ◌∙◌}
use mathlib.Core.Bool.{Bool, true, false, cond, ◌||◌, true≢false}
use Prim.Native.Nat.{ℕ, ◌^◌, ◌≤◌, ◌<◌}
use native.Mathlib.Omega.{arith}
use lib.IntN.{ℤ, pos, ◌+ℤ◌, ◌*ℤ◌, zero-*ℤ, suc_ℤ-*ℤ, +ℤ_idl}
use lib.Signed.{mag}
use mir.Syntax.{w32, w64}
use mir.Val.{SFits}
use mir.ValLaws.{to_z-of_z}
use borrow.Author.Tests.{le-ltb}
use Rattle.frame.proofs.WidthLaws.{both_false}
use Rattle.record_corrections.specs.declared.Correction.{Correction}
use Rattle.record_values.specs.Values.{Reading, exactly, stop, is_lowest, step_of, signed_value, prc_value, stops_use}
use Rattle.record_values.specs.Answer.{distance_of, prc_mm}
use Rattle.record_values.specs.declared.Distance.TheVariants as distance
use Rattle.season_reports.specs.Rows.{wrong_sum}
use Rattle.season_reports.specs.Season.{reading_of, reading_row}
use Rattle.season_reports.specs.Tables.{SoundRow}
use Rattle.season_reports.specs.declared.Key.{Key}
use Rattle.season_reports.specs.declared.Extremes.TheVariants.{Present}
use Rattle.season_reports.proofs.Integers.{AtMost, most-refl}
use Rattle.season_reports.proofs.RowLaws.{row_with}
use Rattle.season_reports.proofs.RightLaws.{present-right}
use Rattle.season_reports.proofs.RowCode.{held32, held64, wide_fits}

-- ---- what is read of a correction

-- either number says stop
pub stops-reading : (e : Correction) → stops_use e.prc e.rrc ≡ true → reading_of e ≡ stop
unfolding stops_use reading_of signed_value
stops-reading e h = go (is_lowest 7 e.rrc) (is_lowest 15 e.prc) refl refl h
  where
    go : (s t : Bool) → is_lowest 7 e.rrc ≡ s → is_lowest 15 e.prc ≡ t → is_lowest 15 e.prc || is_lowest 7 e.rrc ≡ true
        → cond (is_lowest 7 e.rrc) stop (cond (is_lowest 15 e.prc) stop (exactly (e.prc *ℤ pos (step_of 20 320 e.scale)))) ≡ stop
    go true t p q h = rw p
    go false true p q h = rw (p, q)
    go false false p q h = absurd (true≢false (sym h ∙ ap₂ ◌||◌ q p))

-- RRC does not say it: PRC's own reading
rate-free : (e : Correction) → stops_use e.prc e.rrc ≡ false → reading_of e ≡ prc_value e.scale e.prc
unfolding stops_use reading_of
rate-free e h = rw (both_false (is_lowest 15 e.prc) (is_lowest 7 e.rrc) h).1

distance_is : (e : Correction) → e.scale ≤ 1 → prc_mm e.scale e.prc ≡ distance_of (prc_value e.scale e.prc)
distance_is e h = rw (le-ltb 1 e.scale h)

told-mm : (r : Reading) (mm : ℤ) → distance_of r ≡ distance.Millimetres mm → r ≡ exactly mm
told-mm (exactly z) mm q = let w : z ≡ mm = cc in ap exactly w
told-mm stop mm q = absurd (let w : ◌≡◌ {A = ℕ} 0 1 = cc in omega arith)

told-stop : (r : Reading) → distance_of r ≡ distance.Stop → r ≡ stop
told-stop (exactly z) q = absurd (let w : ◌≡◌ {A = ℕ} 0 1 = cc in omega arith)
told-stop stop q = refl

told_none : (r : Reading) (n : ℕ) → distance_of r ≡ distance.Refused n → ⊥
told_none (exactly z) n q = let w : ◌≡◌ {A = ℕ} 0 1 = cc in omega arith
told_none stop n q = let w : ◌≡◌ {A = ℕ} 0 1 = cc in omega arith

module _ (e : Correction) (small : e.scale ≤ 1) (free : stops_use e.prc e.rrc ≡ false) where
  pub mm-reading : (mm : ℤ) → prc_mm e.scale e.prc ≡ distance.Millimetres mm → reading_of e ≡ exactly mm
  mm-reading mm q = rate-free e free ∙ told-mm (prc_value e.scale e.prc) mm (sym (distance_is e small) ∙ q)

  pub stop-reading : prc_mm e.scale e.prc ≡ distance.Stop → reading_of e ≡ stop
  stop-reading q = rate-free e free ∙ told-stop (prc_value e.scale e.prc) (sym (distance_is e small) ∙ q)

  pub never-refused : (n : ℕ) → prc_mm e.scale e.prc ≡ distance.Refused n → ⊥
  never-refused n q = told_none (prc_value e.scale e.prc) n (sym (distance_is e small) ∙ q)

-- ---- the rows of single entries

one-times : (z : ℤ) → pos 1 *ℤ z ≡ z
one-times z = suc_ℤ-*ℤ (pos 0) z ∙ ap (λ x. x +ℤ z) (zero-*ℤ z) ∙ +ℤ_idl z

-- whatever the entry
reading-right : (k : Key) (r : Reading) → wrong_sum (reading_row k r) ≡ false
unfolding wrong_sum
reading-right k (exactly mm) =
    present-right 1 mm mm mm (record {
      some = λ e. omega arith;
      above = subst (λ x. AtMost x mm) (sym (one-times mm)) (most-refl mm);
      below = subst (λ x. AtMost mm x) (sym (one-times mm)) (most-refl mm);
    })
reading-right k stop = refl

module _ (k : Key) (station : k.station < 2 ^ 16) (satellite : k.satellite < 2 ^ 8) where
  pub stop-sound : SoundRow (reading_row k stop)
  stop-sound = record {
    typed = record { station = station; satellite = satellite; usable = omega arith; stops = omega arith; ends = tt };
    right = reading-right k stop;
  }

  pub usable-sound : (mm : ℤ) → mag mm < 2 ^ 31 → SoundRow (reading_row k (exactly mm))
  usable-sound mm h = record {
    typed = record { station = station; satellite = satellite; usable = omega arith; stops = omega arith; ends = (h, h) };
    right = reading-right k (exactly mm);
  }

-- as a machine has it
pub usable-is : (k : Key) (mm : ℤ) → SFits w32 mm → row_with k 1 0 (Present (held32 mm) (held32 mm)) (held64 (held32 mm)) ≡ reading_row k (exactly mm)
usable-is k mm f =
    ap₂ (λ z m. row_with k 1 0 (Present z z) m) (to_z-of_z w32 mm f) (to_z-of_z w64 (held32 mm) (wide_fits 0 mm (omega arith) f) ∙ to_z-of_z w32 mm f)
