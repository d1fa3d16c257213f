-- A correction of types 41 and 42 and its seven bytes: what the functions' proofs cite over plain values, and the laws that the row owes.
-- Assumes nothing.
use mathlib.Core.Path.{◌≡◌, ap, ◌∙◌}
use mathlib.Core.List.{List, [], ◌∷◌}
use Prim.Native.Nat.{ℕ, ◌+◌, ◌*◌, ◌/◌, ◌%◌, ◌^◌, ◌<◌}
use native.Mathlib.Nat.{mod-eq_of_lt}
use native.Mathlib.Omega.{arith}
use lib.IntN.{ℤ}
use lib.ListN.{get_or}
use mir.Syntax.{w16}
use Rattle.std.specs.Int.{from_le_bytes}
use Rattle.bits.specs.Fields.{Fit}
use Rattle.bits.specs.Signed.{signed, code}
use Rattle.bits.proofs.SignedLaws.{code-signed, signed-code, code_lt}
use Rattle.record_fields.proofs.Faithful.{Faithful}
use Rattle.record_fields.proofs.TableRound.{fit-below, fit-places}
use Rattle.record_generals.specs.declared.General.{General}
use Rattle.rtcm2_rows.proofs.RowLaws.{two_bytes}
use Rattle.rtcm2_rows.specs.Generals.{row, meant, codes, Typed}

-- seven bytes read are the entry
pub entry-law : (r vs : List ℕ) (prc : ℤ) (n delay : ℕ) → ((j : ℕ) → j < 7 → get_or r j 0 ≡ get_or vs j 0)
    → n ≡ from_le_bytes w16 (get_or r 3 0 ∷ get_or r 4 0 ∷ []) → n < 2 ^ 16 → prc ≡ signed 15 (n % 65536)
    → delay ≡ from_le_bytes w16 (get_or r 5 0 ∷ get_or r 6 0 ∷ [])
    → record { satellite = get_or r 0 0; udre = get_or r 1 0; iod = get_or r 2 0; prc = prc; delay = delay } ≡ meant vs
entry-law r vs prc n delay at e h p d =
    rw (
      at 0 (omega arith),
      at 1 (omega arith),
      at 2 (omega arith),
      p ∙ ap (signed 15) (mod-eq_of_lt h ∙ e ∙ two_bytes r vs 3 4 (at 3 (omega arith)) (at 4 (omega arith))),
      d ∙ two_bytes r vs 5 6 (at 5 (omega arith)) (at 6 (omega arith)),
    )

-- ---- the three laws on bytes

-- two bytes and the number that they are
joined : (c : ℕ) → c < 65536 → c % 256 + 256 * (c / 256 % 256) ≡ c
joined c h = omega arith

low_byte : (x y : ℕ) → x < 256 → (x + 256 * y) % 256 ≡ x
low_byte x y h = omega arith

high_byte : (x y : ℕ) → x < 256 → y < 256 → (x + 256 * y) / 256 % 256 ≡ y
high_byte x y h l = omega arith

whole : (x y : ℕ) → x < 256 → y < 256 → x + 256 * y < 2 ^ 16
whole x y h l = omega arith

pub faithful : Faithful row Typed
faithful = record { meant-codes = meant-codes; fit-codes = fit-codes; codes-meant = codes-meant }
  where
    meant-codes : (e : General) → Typed e → meant (codes e) ≡ e
    meant-codes e t = rw (prc-back, joined e.delay t.delay)
      where
        prc-back : signed 15 (code 15 e.prc % 256 + 256 * (code 15 e.prc / 256 % 256)) ≡ e.prc
        prc-back = ap (signed 15) (joined (code 15 e.prc) (code_lt 15 e.prc t.prc)) ∙ signed-code 15 e.prc t.prc

    fit-codes : (e : General) → Typed e → Fit row.widths (codes e)
    fit-codes e t = (t.satellite, (t.udre, (t.iod, (omega arith, (omega arith, (omega arith, (omega arith, tt)))))))

    codes-meant : (vs : List ℕ) → Fit row.widths vs → codes (meant vs) ≡ vs
    codes-meant vs f =
        let at = fit-below row.widths vs f in
        let x = get_or vs 3 0 in
        let y = get_or vs 4 0 in
        let z = get_or vs 5 0 in
        let w = get_or vs 6 0 in
        rw (
          code-signed 15 (x + 256 * y) (whole x y (at 3) (at 4)),
          low_byte x y (at 3),
          high_byte x y (at 3) (at 4),
          low_byte z w (at 5),
          high_byte z w (at 5) (at 6),
        )
        (fit-places row.widths vs f)
