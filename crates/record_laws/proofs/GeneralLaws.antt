-- What the layout of types 41 and 42 owes, once over the width of the delay: its codes are faithful, its ranges are those in words, and N is
-- the words that a head and its satellites take. Only what counts words goes by the two widths. Assumes nothing.
use mathlib.Core.Path.{◌≡◌, refl, sym, ap, ◌∙◌}
use mathlib.Core.Bool.{Bool, true, false, cond, true≢false, and-false, ◌||◌}
use mathlib.Core.List.{List, [], ◌∷◌}
use Prim.Native.Nat.{ℕ, zero, suc, ◌+◌, ◌*◌, ◌-◌, ◌/◌, ◌^◌, ◌≤◌, ◌<◌}
use native.Mathlib.Omega.{arith}
use lib.Dec.{ltb, eqb}
use lib.IntN.{ℤ}
use lib.Pow.{pow_pos}
use lib.Signed.{mag}
use lib.ListN.{get_or}
use borrow.Author.Tests.{lt-ltb, le-ltb, ltb-true, ltb-false, le-leb, ne_eqb}
use Rattle.bits.specs.Fields.{Fit}
use Rattle.bits.specs.Signed.{signed}
use Rattle.bits.proofs.SignedLaws.{code-signed, signed-code, mag-signed, code_lt}
use Rattle.record_fields.specs.Narrow.{code_within}
use Rattle.record_fields.specs.Tables.{row, row_out}
use Rattle.record_fields.proofs.Faithful.{Faithful, Fine}
use Rattle.record_fields.proofs.NarrowLaws.{within-code, within-told}
use Rattle.record_fields.proofs.TableRound.{Below, places_from, numbers_of, codes_within, left_out, tables-faithful, tables-left}
use Rattle.record_fields.proofs.TableLaws.{row_fine, row_told}
use Rattle.record_stages.specs.Stages.{held_after}
use Rattle.record_generals.specs.declared.GeneralHead.{GeneralHead}
use Rattle.record_generals.specs.declared.General.{General}
use Rattle.record_generals.specs.Generals.{other_system, head_widths, head_meant, head_numbers, head_coding, head_most, head_out, delay_width, widths, meant}
use Rattle.record_generals.specs.Generals.{numbers, coding, least, most, out_of_range, no_satellite, too_short, most_generals}
use Rattle.record_generals.specs.GeneralRounds.{HeadInRange, InRange}
use Rattle.record_generals.specs.GeneralNulls.{system_coding}

-- ---- the system: each of the four is within four bits

pub known_small : (s : ℕ) → other_system s ≡ false → s ≤ 15
unfolding other_system
known_small s e = go (ltb 15 s) refl
  where
    go : (b : Bool) → ltb 15 s ≡ b → s ≤ 15
    go false l = ltb-false 15 s l
    go true l = absurd (true≢false (other ∙ e))
      where
        other : true ≡ other_system s
        other =
            let h = ltb-true 15 s l in
            rw (
              ne_eqb s 1 (λ q. omega (arith, h, q)),
              ne_eqb s 2 (λ q. omega (arith, h, q)),
              ne_eqb s 5 (λ q. omega (arith, h, q)),
              ne_eqb s 6 (λ q. omega (arith, h, q)),
            )

-- the system of a null frame, as a head of its own
abbrev pub system_out : ℕ → Bool
system_out s = row_out [] (15 ∷ []) (row (s ∷ []))

pub system-faithful : Faithful system_coding (Fine (λ s. Unit {0}) system_out)
system-faithful =
    tables-faithful [] (4 ∷ []) [] (15 ∷ []) (λ vs. get_or vs 0 0) (λ s. row (s ∷ [])) (omega arith) (λ vs at. refl) (λ s. Unit {0}) (λ s t o. refl)

pub system-fine : (s : ℕ) → other_system s ≡ false → system_out s ≡ false
system-fine s e = row_fine [] (15 ∷ []) (row (s ∷ [])) (omega arith, known_small s e, tt)

-- ---- the head

pub head-faithful : Faithful head_coding (Fine (λ a. Unit {0}) head_out)
head-faithful = tables-faithful [] head_widths [] head_most head_meant head_numbers (omega arith) (λ vs at. refl) (λ a. Unit {0}) (λ a t o. refl)

pub head-fine : (a : GeneralHead) → HeadInRange a → head_out a ≡ false
head-fine a r =
    row_fine [] head_most (head_numbers a) (
      omega arith,
      known_small a.system r.system,
      (omega arith, r.signal, (omega arith, r.ephemeris, (omega arith, r.period, (omega arith, r.ionosphere, tt)))),
    )

pub head-told : (a : GeneralHead) → other_system a.system ≡ false → head_out a ≡ false → HeadInRange a
head-told a known o =
    let r = row_told [] head_most (head_numbers a) o in
    record { system = known; signal = r.2.1; ephemeris = r.2.2.1; period = r.2.2.2.1; ionosphere = r.2.2.2.2.1 }

-- of a head that is read the widths leave nothing to say
pub head_in_lem : (vs : List ℕ) → Fit head_widths vs → head_out (head_meant vs) ≡ false
head_in_lem vs f = tables-left [] head_widths [] head_most head_meant head_numbers (omega arith) (λ us at. refl) vs f

-- ---- a satellite

-- PRC: its code of 14 bits means it, and back
prc-back : (v : ℕ) → v < 2 ^ 14 → code_within 13 (signed 13 v) ≡ v
prc-back v h = within-code 13 (signed 13 v) (mag-signed 13 v h) ∙ code-signed 13 v h

prc-told : (z : ℤ) → mag z < 2 ^ 13 → signed 13 (code_within 13 z) ≡ z
prc-told z h = ap (signed 13) (within-code 13 z h) ∙ signed-code 13 z h

prc-most : (z : ℤ) → mag z < 2 ^ 13 → code_within 13 z ≤ 16383
prc-most z h = let e = within-code 13 z h in let l = code_lt 13 z h in omega (arith, e, l)

-- a most that is all ones is within its width
all_ones : (w : ℕ) → ltb (2 ^ w - 1) (2 ^ w) ≡ true
all_ones w = lt-ltb (2 ^ w - 1) (2 ^ w) (omega (arith, pow_pos w))

module _ (d : ℕ) where
  pub range-fine : (g : General) → InRange d g → out_of_range d g ≡ false
  range-fine g r =
      row_fine least (most d) (numbers g) (
        r.least,
        r.most,
        (
          omega arith,
          r.udre,
          (omega arith, r.iod, (omega arith, prc-most g.prc r.prc, (omega arith, omega (arith, r.delay), tt))),
        ),
      )

  pub range-told : (g : General) → out_of_range d g ≡ false → InRange d g
  range-told g out =
      let r = row_told least (most d) (numbers g) out in
      let s = r.2.2 in
      record {
        least = r.0;
        most = r.1;
        udre = r.2.1;
        iod = s.1;
        prc = within-told 13 g.prc (omega (arith, s.2.1));
        delay = omega (arith, s.2.2.1, pow_pos d);
      }

  -- the numbers of what is read are those of its codes
  again : (vs : List ℕ) → Below (widths d) vs → numbers (meant vs) ≡ row (numbers_of [] (widths d) (places_from 0 (widths d) vs))
  again vs at = rw (prc-back (get_or vs 3 0) (at 3))

  -- the codes of what can be sent mean it
  back : (g : General) → out_of_range d g ≡ false → meant (codes_within (widths d) (most d) (numbers g)) ≡ g
  back g out = rw (all_ones d, prc-told g.prc (range-told g out).prc)

  pub faithful : Faithful (coding d) (Fine (λ g. Unit {0}) (out_of_range d))
  faithful = tables-faithful [] (widths d) least (most d) meant numbers (omega arith) again (λ g. Unit {0}) (λ g t o. back g o)

  -- of what is read the satellite's number alone can be out of range
  pub read-in : (vs : List ℕ) → Fit (widths d) vs → out_of_range d (meant vs) ≡ no_satellite (meant vs)
  read-in vs f = tables-left [] (widths d) least (most d) meant numbers (omega arith) again vs f ∙ left
    where
      others : (b : Bool) → b || false || false ≡ b
      others true = refl
      others false = refl

      under_one : (n : ℕ) → ltb n 1 ≡ eqb n 0
      under_one zero = refl
      under_one (suc n) = le-ltb (suc n) 1 (omega arith) ∙ sym (ne_eqb (suc n) 0 (λ q. omega arith))

      left : left_out [] (widths d) least (most d) (numbers (meant vs)) ≡ no_satellite (meant vs)
      left = rw (le-leb (2 ^ d - 1) (2 ^ d - 1) (omega arith)) (others (ltb (get_or vs 0 0) 1) ∙ under_one (get_or vs 0 0))

-- ---- N, by the two widths

-- 22 satellites at most
pub most-small : (i : ℕ) → most_generals (delay_width i) ≤ 22
most-small i = go (eqb i 0)
  where
    go : (b : Bool) → most_generals (cond b 0 12) ≤ 22
    go true = omega arith
    go false = omega arith

module _ (i n c : ℕ) where
  abbrev Words : ℕ → Type 0
  Words d = n ≡ (13 + c * (32 + d) + 23) / 24

  -- c satellites are what their words hold
  pub held-is : Words (delay_width i) → held_after 13 (32 + delay_width i) n ≡ c
  held-is = go (eqb i 0)
    where
      go : (b : Bool) → Words (cond b 0 12) → held_after 13 (32 + cond b 0 12) n ≡ c
      go true e = omega arith
      go false e = omega arith

  -- and as many as N words hold, at most 31, are not over the most
  pub held-few : n ≤ 31 → held_after 13 (32 + delay_width i) n ≡ c → c ≤ most_generals (delay_width i)
  held-few l = go (eqb i 0)
    where
      go : (b : Bool) → held_after 13 (32 + cond b 0 12) n ≡ c → c ≤ most_generals (cond b 0 12)
      go true e = omega arith
      go false e = omega arith

  -- a list with a satellite is not too short
  pub long-enough : (kind : ℕ) → 1 ≤ c → Words (delay_width i) → too_short kind n ≡ false
  long-enough kind s e = rw (ne_eqb n 0 (λ q. omega (arith, two, q)), ne_eqb n 1 (λ q. omega (arith, two, q))) (and-false (eqb kind 41))
    where
      go : (b : Bool) → Words (cond b 0 12) → 2 ≤ n
      go true e = omega arith
      go false e = omega arith

      two : 2 ≤ n
      two = go (eqb i 0) e
