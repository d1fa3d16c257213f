-- Types 1, 9, 31 and 34, once over the system: what the layout owes. Assumes nothing.
use mathlib.Core.Path.{◌≡◌, refl, ap, ◌∙◌}
use mathlib.Core.Bool.{true, false, or-false, true≢false}
use mathlib.Core.List.{List}
use Prim.Native.Nat.{ℕ, ◌≤◌, ◌<◌}
use native.Mathlib.Omega.{arith}
use lib.Dec.{ltb}
use lib.ListN.{get_or}
use Rattle.answer.specs.Order.{answers}
use Rattle.answer.proofs.OrderLaws.{refuses-apart}
use Rattle.bits.specs.Fields.{Fit}
use Rattle.bits.proofs.SignedLaws.{code-signed, signed-code, code_lt}
use Rattle.frame.specs.declared.System.{System}
use Rattle.frame.specs.declared.System.TheVariants.{Gps, Glonass}
use Rattle.record_fields.specs.Tables.{row}
use Rattle.record_fields.proofs.Faithful.{Faithful, Fine}
use Rattle.record_fields.proofs.TableRound.{Below, places_from, numbers_of, codes_within, tables-faithful, tables-left}
use Rattle.record_fields.proofs.TableLaws.{row_fine, row_told}
use Rattle.record_fields.proofs.SatelliteLaws.{satellite-back}
use Rattle.record_corrections.specs.declared.Issue.{Issue}
use Rattle.record_corrections.specs.declared.Issue.TheVariants.{Iod, Age}
use Rattle.record_corrections.specs.declared.Correction.{Correction}
use Rattle.record_corrections.specs.declared.CorrectionRead.{CorrectionRead}
use Rattle.record_corrections.specs.declared.CorrectionRead.TheVariants as read
use Rattle.record_corrections.specs.Issues.{issue_of, issue_first, issue_others, last_most, late_tb, IssueTyped, IssueInRange}
use Rattle.record_corrections.specs.Corrections.{widths, meant, coding, least, most, numbers, out_of_range, says_correction_read}
use Rattle.record_corrections.specs.Corrections.{Typed, InRange, correction_layout}
use Rattle.record_laws.proofs.PlainLists.{OwedList}

-- ---- the last eight bits: all that the systems don't share

-- what is sent of an issue means it, and what is read has the numbers that were sent
issue-back : (s : System) (i : Issue) → IssueInRange s i → issue_of s (issue_first s i) (issue_others s i) ≡ i
unfolding issue_of issue_first issue_others
issue-back Gps (Iod v) r = ap Iod (omega arith)
issue-back Gps (Age c t) r = absurd r
issue-back Glonass (Iod v) r = absurd r
issue-back Glonass (Age c t) r = refl

first_back : (s : System) (a b : ℕ) → b < 128 → issue_first s (issue_of s a b) ≡ a
unfolding issue_of issue_first
first_back Gps a b h = omega arith
first_back Glonass a b h = refl

others-back : (s : System) (a b : ℕ) → b < 128 → issue_others s (issue_of s a b) ≡ b
unfolding issue_of issue_others
others-back Gps a b h = omega arith
others-back Glonass a b h = refl

-- its ranges, both ways
issue-fine : (s : System) (i : Issue) → IssueTyped i → IssueInRange s i → (issue_first s i ≤ 1) × (issue_others s i ≤ last_most s)
unfolding issue_first issue_others last_most
issue-fine Gps (Iod v) t r = (omega (arith, t), omega arith)
issue-fine Gps (Age c t) y r = absurd r
issue-fine Glonass (Iod v) t r = absurd r
issue-fine Glonass (Age c t) y r = r

issue-told : (s : System) (i : Issue) → issue_first s i ≤ 1 → issue_others s i ≤ last_most s → IssueInRange s i
unfolding issue_first issue_others last_most
issue-told Gps (Iod v) f o = tt
issue-told Gps (Age c t) f o = absurd (omega arith)
issue-told Glonass (Iod v) f o = absurd (omega arith)
issue-told Glonass (Age c t) f o = (f, o)

last-own : (s : System) → ltb (last_most s) 128 ≡ true
unfolding last_most
last-own Gps = refl
last-own Glonass = refl

module _ (s : System) where
  -- what refusal 10 says of an entry, both ways
  range-fine : (e : Correction) → Typed e × InRange s e → out_of_range s e ≡ false
  range-fine e (t, r) =
      let i = issue-fine s e.issue t.issue r.issue in
      row_fine least (most s) (numbers s e) (
        omega arith,
        r.scale,
        (
          omega arith,
          r.udre,
          (
            r.least,
            r.most,
            (
              omega arith,
              omega (arith, code_lt 15 e.prc t.prc),
              (
                omega arith,
                omega (arith, code_lt 7 e.rrc t.rrc),
                (omega arith, i.0, (omega arith, i.1, tt)),
              ),
            ),
          ),
        ),
      )

  range-told : (e : Correction) → out_of_range s e ≡ false → InRange s e
  range-told e o =
      let r = row_told least (most s) (numbers s e) o in
      let last = r.2.2.2.2.2 in
      record { scale = r.1; udre = r.2.1; least = r.2.2.0; most = r.2.2.1; issue = issue-told s e.issue last.1 last.2.1 }

  -- ---- what the tables owe

  -- the numbers of what is read are those of its codes
  again : (vs : List ℕ) → Below widths vs → numbers s (meant s vs) ≡ row (numbers_of least widths (places_from 0 widths vs))
  again vs at =
      rw (
        code-signed 15 (get_or vs 3 0) (at 3),
        code-signed 7 (get_or vs 4 0) (at 4),
        first_back s (get_or vs 5 0) (get_or vs 6 0) (at 6),
        others-back s (get_or vs 5 0) (get_or vs 6 0) (at 6),
      )

  -- the codes of what can be sent mean it
  back : (e : Correction) → Typed e → out_of_range s e ≡ false → meant s (codes_within widths (most s) (numbers s e)) ≡ e
  back e t o =
      let r = range-told e o in
      rw (
        satellite-back e.satellite r.least r.most,
        signed-code 15 e.prc t.prc,
        signed-code 7 e.rrc t.rrc,
        last-own s,
        issue-back s e.issue r.issue,
      )

  faithful : Faithful (coding s) (Fine Typed (out_of_range s))
  faithful = tables-faithful least widths least (most s) (meant s) (numbers s) (omega arith) again Typed back

-- of what is read the widths leave nothing to say but of tb, and GPS has none
read-late : (s : System) (vs : List ℕ) → Fit widths vs → out_of_range s (meant s vs) ≡ late_tb (meant s vs).issue
unfolding issue_of issue_first issue_others last_most
read-late Gps vs f = tables-left least widths least (most Gps) (meant Gps) (numbers Gps) (omega arith) (again Gps) vs f
read-late Glonass vs f =
    tables-left least widths least (most Glonass) (meant Glonass) (numbers Glonass) (omega arith) (again Glonass) vs f ∙ or-false (ltb 119 (get_or vs 6 0))

-- what a reader says, and its answer
says-told : (x : CorrectionRead) (e : Correction) → says_correction_read x ≡ answers e → x ≡ read.Entry e
says-told (read.Entry a) e q = cc
says-told (read.Refused n) e q = absurd (refuses-apart n e q)

pub corrections-owed : OwedList correction_layout
corrections-owed = record {
  says-refused = λ n. refl;
  says-entry = λ e. refl;
  says-told = says-told;
  faithful = faithful;
  room = λ s c few. omega arith;
  told = λ s c some few. omega arith;
  bounded = λ s n l. omega arith;
  range-fine = λ s e t r. range-fine s e (t, r);
  range-told = range-told;
  read-late = read-late;
  quiet = λ q e. absurd (true≢false q);
}
