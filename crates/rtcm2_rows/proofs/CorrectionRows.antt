-- A correction and its seven bytes: what the functions' proofs cite over plain values, and the laws that the row owes. Assumes nothing.
use mathlib.Core.Path.{◌≡◌, ap, ap₂, ◌∙◌}
use mathlib.Core.List.{List, [], ◌∷◌}
use Prim.Native.Nat.{ℕ, ◌+◌, ◌*◌, ◌/◌, ◌%◌, ◌^◌, ◌<◌}
use native.Mathlib.Nat.{mod-eq_of_lt}
use native.Mathlib.Omega.{arith}
use lib.IntN.{ℤ}
use lib.ListN.{get_or}
use mir.Syntax.{w16}
use Rattle.std.specs.Int.{from_le_bytes}
use Rattle.bits.specs.Fields.{Fit}
use Rattle.bits.specs.Signed.{signed, code}
use Rattle.bits.proofs.SignedLaws.{code-signed, signed-code, code_lt}
use Rattle.record_fields.proofs.Faithful.{Faithful}
use Rattle.record_fields.proofs.TableRound.{fit-below, fit-places}
use Rattle.frame.specs.declared.System.{System}
use Rattle.frame.specs.declared.System.TheVariants.{Gps, Glonass}
use Rattle.record_corrections.specs.declared.Issue.{Issue}
use Rattle.record_corrections.specs.declared.Issue.TheVariants.{Iod, Age}
use Rattle.record_corrections.specs.declared.Correction.{Correction}
use Rattle.record_corrections.specs.Issues.{issue_of, issue_in}
use Rattle.rtcm2_rows.proofs.RowLaws.{two_bytes}
use Rattle.rtcm2_rows.specs.Corrections.{last_byte, row, meant, codes, Eight, Typed}

-- eight bits and the issue that they are
last-back : (s : System) (i : Issue) → Eight s i → issue_in s (last_byte i) ≡ i
unfolding issue_of last_byte
last-back Gps (Iod v) h = ap Iod (omega arith)
last-back Gps (Age c t) h = absurd h
last-back Glonass (Iod v) h = absurd h
last-back Glonass (Age c t) h = ap₂ Age (omega (arith, h.0, h.1)) (omega (arith, h.0, h.1))

back_last : (s : System) (v : ℕ) → v < 256 → last_byte (issue_in s v) ≡ v
unfolding issue_of last_byte
back_last Gps v h = omega arith
back_last Glonass v h = omega arith

last-small : (s : System) (i : Issue) → Eight s i → last_byte i < 256
unfolding last_byte
last-small Gps (Iod v) h = h
last-small Gps (Age c t) h = absurd h
last-small Glonass (Iod v) h = absurd h
last-small Glonass (Age c t) h = omega arith

-- seven bytes read are the entry
pub entry-law : (s : System) (r vs : List ℕ) (prc rrc : ℤ) (n : ℕ) (issue : Issue) → ((j : ℕ) → j < 7 → get_or r j 0 ≡ get_or vs j 0)
    → n ≡ from_le_bytes w16 (get_or r 3 0 ∷ get_or r 4 0 ∷ []) → n < 2 ^ 16 → prc ≡ signed 15 (n % 65536)
    → get_or r 5 0 < 256 → rrc ≡ signed 7 (get_or r 5 0 % 256) → issue ≡ issue_in s (get_or r 6 0)
    → record { scale = get_or r 0 0; udre = get_or r 1 0; satellite = get_or r 2 0; prc = prc; rrc = rrc; issue = issue } ≡ meant s vs
entry-law s r vs prc rrc n issue at e h p l q i =
    rw (
      at 0 (omega arith),
      at 1 (omega arith),
      at 2 (omega arith),
      p ∙ ap (signed 15) (mod-eq_of_lt h ∙ e ∙ two_bytes r vs 3 4 (at 3 (omega arith)) (at 4 (omega arith))),
      q ∙ ap (signed 7) (mod-eq_of_lt l ∙ at 5 (omega arith)),
      i ∙ ap (issue_in s) (at 6 (omega arith)),
    )

-- ---- the three laws on bytes

pub faithful : (s : System) → Faithful (row s) (Typed s)
faithful s = record { meant-codes = meant-codes; fit-codes = fit-codes; codes-meant = codes-meant }
  where
    joined : (c : ℕ) → c < 65536 → c % 256 + 256 * (c / 256 % 256) ≡ c
    joined c h = omega arith

    meant-codes : (e : Correction) → Typed s e → meant s (codes e) ≡ e
    meant-codes e t = rw (prc-back, rrc-back, last-back s e.issue t.issue)
      where
        prc-back : signed 15 (code 15 e.prc % 256 + 256 * (code 15 e.prc / 256 % 256)) ≡ e.prc
        prc-back = ap (signed 15) (joined (code 15 e.prc) (code_lt 15 e.prc t.prc)) ∙ signed-code 15 e.prc t.prc

        rrc-back : signed 7 (code 7 e.rrc % 256) ≡ e.rrc
        rrc-back = ap (signed 7) (mod-eq_of_lt (code_lt 7 e.rrc t.rrc)) ∙ signed-code 7 e.rrc t.rrc

    fit-codes : (e : Correction) → Typed s e → Fit (row s).widths (codes e)
    fit-codes e t =
        (t.scale, (t.udre, (t.satellite, (omega arith, (omega arith, (omega arith, (last-small s e.issue t.issue, tt)))))))

    low : (x y : ℕ) → x < 256 → (x + 256 * y) % 256 ≡ x
    low x y h = omega arith

    high : (x y : ℕ) → x < 256 → y < 256 → (x + 256 * y) / 256 % 256 ≡ y
    high x y h l = omega arith

    whole : (x y : ℕ) → x < 256 → y < 256 → x + 256 * y < 2 ^ 16
    whole x y h l = omega arith

    codes-meant : (vs : List ℕ) → Fit (row s).widths vs → codes (meant s vs) ≡ vs
    codes-meant vs f =
        let at = fit-below (row s).widths vs f in
        let x = get_or vs 3 0 in
        let y = get_or vs 4 0 in
        rw (
          code-signed 15 (x + 256 * y) (whole x y (at 3) (at 4)),
          low x y (at 3),
          high x y (at 3) (at 4),
          code-signed 7 (get_or vs 5 0) (at 5),
          mod-eq_of_lt (at 5),
          back_last s (get_or vs 6 0) (at 6),
        )
        (fit-places (row s).widths vs f)
