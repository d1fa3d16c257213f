-- An observation and its twelve bytes: bytes which name a mark and a number are those of what they say. Assumes nothing.
use mathlib.Core.Path.{◌≡◌, refl, subst}
use mathlib.Core.Bool.{Bool, true, false, cond}
use mathlib.Core.List.{List}
use Prim.Native.Nat.{ℕ, zero, suc, ◌+◌, ◌*◌, ◌-◌, ◌/◌, ◌%◌, ◌^◌, ◌≤◌, ◌<◌}
use native.Mathlib.Nat.{mod-eq_of_lt}
use native.Mathlib.Omega.{arith}
use lib.Dec.{ltb, eqb}
use lib.ListN.{get_or}
use borrow.Author.Tests.{ne_eqb, ltb-true, ltb-false}
use Rattle.bits.specs.Fields.{Fit}
use Rattle.bits.specs.Signed.{signed}
use Rattle.bits.proofs.SignedLaws.{code-signed, mag-signed}
use Rattle.record_fields.proofs.TableRound.{fit-below, fit-places}
use Rattle.record_fields.proofs.TableLaws.{row_told}
use Rattle.record_observations.specs.declared.Edition.{Edition}
use Rattle.record_observations.specs.declared.Edition.TheVariants.{Gost, Bd}
use Rattle.record_observations.specs.declared.Quantity.{Quantity}
use Rattle.record_observations.specs.declared.Quantity.TheVariants as quantity
use Rattle.record_observations.specs.declared.Mark.TheVariants.{More}
use Rattle.record_observations.specs.declared.Measured.TheVariants.{Phase, Range}
use Rattle.record_observations.specs.Editions.{which_mark, which_of, mark_bit, mark_number, beside_of, quality_width, MeasuredTyped}
use Rattle.record_observations.specs.Observations.{least, most, numbers, out_of_range}
use Rattle.rtcm2_rows.specs.Observations.{mark_with, measured_with, which_measured, beside_byte, amount_number, four_bytes, row, meant, codes, Named}

-- ---- bytes that name a mark and a number

mark-again : (w b : ℕ) → w ≤ 2 → (which_mark (mark_with w b) ≡ w) × (mark_bit (mark_with w b) ≡ b)
unfolding mark_with which_mark mark_bit
mark-again zero b h = (refl, refl)
mark-again (suc zero) b h = (refl, refl)
mark-again (suc (suc zero)) b h = (refl, refl)
mark-again (suc (suc (suc w))) b h = absurd (omega arith)

measured-again : (w a n : ℕ) → w ≤ 1 → n < 2 ^ 32
    → (which_measured (measured_with w a n) ≡ w) × (beside_byte (measured_with w a n) ≡ a) × (amount_number (measured_with w a n) ≡ n)
unfolding measured_with which_measured beside_byte amount_number
measured-again zero a n h l = (refl, refl, code-signed 31 n l)
measured-again (suc zero) a n h l = (refl, refl, refl)
measured-again (suc (suc w)) a n h l = absurd (omega arith)

-- four bytes of a number are its bytes
four-small : (a b c d : ℕ) → a < 256 → b < 256 → c < 256 → d < 256 → a + 256 * (b + 256 * (c + 256 * d)) < 2 ^ 32
four-small a b c d ha hb hc hd = omega arith

byte-0 : (a r : ℕ) → a < 256 → (a + 256 * r) % 256 ≡ a
byte-0 a r h = omega arith

byte-1 : (a b r : ℕ) → a < 256 → b < 256 → (a + 256 * (b + 256 * r)) / 256 % 256 ≡ b
byte-1 a b r ha hb = omega arith

byte-2 : (a b c r : ℕ) → a < 256 → b < 256 → c < 256 → (a + 256 * (b + 256 * (c + 256 * r))) / 65536 % 256 ≡ c
byte-2 a b c r ha hb hc = omega arith

byte-3 : (a b c d : ℕ) → a < 256 → b < 256 → c < 256 → d < 256 → (a + 256 * (b + 256 * (c + 256 * d))) / 16777216 % 256 ≡ d
byte-3 a b c d ha hb hc hd = omega arith

pub named_again : (vs : List ℕ) → Fit row.widths vs → Named vs → codes (meant vs) ≡ vs
named_again vs f n =
    let at = fit-below row.widths vs f in
    let a = get_or vs 8 0 in
    let b = get_or vs 9 0 in
    let c = get_or vs 10 0 in
    let d = get_or vs 11 0 in
    let m = mark-again (get_or vs 0 0) (get_or vs 1 0) n.0 in
    let x = measured-again (get_or vs 7 0) (get_or vs 6 0) (four_bytes vs 8) n.1 (four-small a b c d (at 8) (at 9) (at 10) (at 11)) in
    rw (
      m.0,
      m.1,
      x.0,
      x.1,
      x.2,
      mod-eq_of_lt (at 6),
      mod-eq_of_lt (at 7),
      byte-0 a (b + 256 * (c + 256 * d)) (at 8),
      byte-1 a b (c + 256 * d) (at 8) (at 9),
      byte-2 a b c d (at 8) (at 9) (at 10),
      byte-3 a b c d (at 8) (at 9) (at 10) (at 11),
    )
    (fit-places row.widths vs f)

-- ---- other bytes can't be sent

mark-other : (w b : ℕ) → 2 < w → mark_with w b ≡ More 255
unfolding mark_with
mark-other w b h = rw (ne_eqb w 0 (λ e. omega arith), ne_eqb w 1 (λ e. omega arith), ne_eqb w 2 (λ e. omega arith))

mark-none : (e : Edition) (q : Quantity) → mark_number e q (More 255) ≤ 1 → ⊥
unfolding mark_number mark_bit which_mark which_of
mark-none Gost quantity.Phase h = omega arith
mark-none Gost quantity.Range h = omega arith
mark-none Bd q h = omega arith

mark-named : (e : Edition) (q : Quantity) (w b : ℕ) → mark_number e q (mark_with w b) ≤ 1 → w ≤ 2
mark-named e q w b h = go (ltb 2 w) refl
  where
    go : (t : Bool) → ltb 2 w ≡ t → w ≤ 2
    go false s = ltb-false 2 w s
    go true s = absurd (mark-none e q (subst (λ m. mark_number e q m ≤ 1) (mark-other w b (ltb-true 2 w s)) h))

measured-other : (w a n : ℕ) → 1 < w → measured_with w a n ≡ Range 255 n
unfolding measured_with
measured-other w a n h = rw (ne_eqb w 0 (λ e. omega arith), ne_eqb w 1 (λ e. omega arith))

measured-none : (q : Quantity) (n : ℕ) → beside_of q (Range 255 n) ≤ 31 → ⊥
unfolding beside_of
measured-none quantity.Phase n h = omega arith
measured-none quantity.Range n h = omega arith

measured-named : (q : Quantity) (w a n : ℕ) → beside_of q (measured_with w a n) ≤ 31 → w ≤ 1
measured-named q w a n h = go (ltb 1 w) refl
  where
    go : (t : Bool) → ltb 1 w ≡ t → w ≤ 1
    go false s = ltb-false 1 w s
    go true s = absurd (measured-none q n (subst (λ m. beside_of q m ≤ 31) (measured-other w a n (ltb-true 1 w s)) h))

pub sent-named : (e : Edition) (q : Quantity) (vs : List ℕ) → out_of_range e q (meant vs) ≡ false → Named vs
sent-named e q vs out =
    let r = row_told least (most q) (numbers e q (meant vs)) out in
    (mark-named e q (get_or vs 0 0) (get_or vs 1 0) r.1, measured-named q (get_or vs 7 0) (get_or vs 6 0) (four_bytes vs 8) (low q r.2.2.2.2.2.1))
  where
    low : (q : Quantity) → beside_of q (meant vs).measured ≤ 2 ^ (8 - quality_width q) - 1 → beside_of q (meant vs).measured ≤ 31
    low quantity.Phase h = h
    low quantity.Range h = omega (arith, h)

-- what bytes say is of its types
pub measured-typed : (w a n : ℕ) → n < 2 ^ 32 → MeasuredTyped (measured_with w a n)
unfolding measured_with
measured-typed w a n l = go (eqb w 0) (eqb w 1)
  where
    go : (s t : Bool) → MeasuredTyped (cond s (Phase a (signed 31 n)) (cond t (Range a n) (Range 255 n)))
    go true t = mag-signed 31 n l
    go false true = l
    go false false = l
