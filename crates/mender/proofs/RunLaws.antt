-- THE RUN leaves a journal of the same length, and reports exactly the bytes that differ. Assumes nothing.
use Rattle.std.proofs.Common.{◌≡◌, ℕ, zero, suc, ◌+◌, ◌-◌, ◌≤◌, Bool, false, cond, List, [], ◌∷◌, ◌++◌, length, take, drop, sym, refl, ap, ◌∙◌, ap₂, append-nil, add-zero, arith, length-append, take-append-drop, length-take-le, eq-eqb}
use Rattle.mender.specs.Records.{count_of, record_for}
use Rattle.mender.specs.Report.{changes_from}
use Rattle.mender.specs.Steps.{step_by}
use Rattle.mender.specs.Run.{MendedJournal, skip_of, searches_after, joined, mended_from, mended_journal}
use Rattle.mender.specs.declared.Step.{Step}
use Rattle.mender.specs.declared.Step.TheVariants.{End, Whole, Lost, Cut, Numberless, Passed}
use Rattle.mender.proofs.FewLaws.{changes-append}
use Rattle.mender.proofs.StepLaws.{record-long}
use Rattle.mender.proofs.SeenLaws.{Saw, saw}

-- ---- changes

pub changes-self : (at : ℕ) (xs : List ℕ) → changes_from at xs xs ≡ []
unfolding changes_from
changes-self at [] = refl
changes-self at (x ∷ xs) = ap₂ (λ t r. cond t r (record { offset = at; old = x; new = x } ∷ r)) (eq-eqb x x refl) (changes-self (suc at) xs)

changes-nil : (at : ℕ) (xs : List ℕ) → changes_from at xs [] ≡ []
unfolding changes_from
changes-nil at [] = refl
changes-nil at (x ∷ xs) = refl

-- only as many bytes as the shorter list has are compared
pub changes-front : (at k : ℕ) (xs ys : List ℕ) → k ≤ length xs → length ys ≡ k → changes_from at xs ys ≡ changes_from at (take k xs) ys
changes-front at k xs ys h l =
    ap₂ (changes_from at) (sym (take-append-drop k xs)) (sym (append-nil ys))
    ∙ changes-append at (take k xs) (drop k xs) ys [] (length-take-le k xs h ∙ sym l)
    ∙ ap (λ r. changes_from at (take k xs) ys ++ r) (changes-nil (at + length (take k xs)) (drop k xs)) ∙ append-nil (changes_from at (take k xs) ys)

-- ---- from a place on: the bytes left are as many as there were, and the changes are where they differ

pub record Told (skip at : ℕ) (bs : List ℕ) (r : MendedJournal) : Type 0 where
  pub long : length r.bytes + skip ≡ length bs
  pub told : r.changes ≡ changes_from (at + skip) (drop skip bs) r.bytes

-- k bytes become others, and the run goes on behind them
module _ (b : ℕ) (bs : List ℕ) (at k : ℕ) (h : 1 ≤ k) (l : k ≤ length (b ∷ bs)) (new : List ℕ) (as_long : length new ≡ k) where
  behind : drop k (b ∷ bs) ≡ drop (k - 1) bs
  behind = ap (λ j. drop j (b ∷ bs)) back
    where
      back : k ≡ suc (k - 1)
      back = omega arith

  pub puts : (r next : MendedJournal) → Told (k - 1) (suc at) bs next → r.bytes ≡ new ++ next.bytes
      → r.changes ≡ changes_from at (b ∷ bs) new ++ next.changes → Told 0 at (b ∷ bs) r
  puts r next t eb ec = record {
    long = omega (arith, ap length eb, length-append new next.bytes, t.long);
    told =
        ec ∙ ap₂ ◌++◌ (changes-front at k (b ∷ bs) new l as_long) (t.told ∙ ap₂ (λ o xs. changes_from o xs next.bytes) place (sym behind))
        ∙ sym (changes-append at (take k (b ∷ bs)) (drop k (b ∷ bs)) new next.bytes part)
        ∙ ap₂ (changes_from at) (take-append-drop k (b ∷ bs)) (sym eb)
        ∙ ap (λ o. changes_from o (b ∷ bs) r.bytes) (sym (add-zero at));
  }
    where
      part : length (take k (b ∷ bs)) ≡ length new
      part = length-take-le k (b ∷ bs) l ∙ sym as_long

      place : suc at + (k - 1) ≡ at + length (take k (b ∷ bs))
      place = omega (arith, length-take-le k (b ∷ bs) l)

-- k bytes stay
keeps : (b : ℕ) (bs : List ℕ) (at k : ℕ) → 1 ≤ k → k ≤ length (b ∷ bs) → (r next : MendedJournal) → Told (k - 1) (suc at) bs next
    → r.bytes ≡ take k (b ∷ bs) ++ next.bytes → r.changes ≡ next.changes → Told 0 at (b ∷ bs) r
keeps b bs at k h l r next t eb ec =
    puts b bs at k h l (take k (b ∷ bs)) (length-take-le k (b ∷ bs) l) r next t eb
    (ec ∙ ap (λ c. c ++ next.changes) (sym same))
  where
    same : changes_from at (b ∷ bs) (take k (b ∷ bs)) ≡ []
    same = changes-front at k (b ∷ bs) (take k (b ∷ bs)) l (length-take-le k (b ∷ bs) l) ∙ changes-self at (take k (b ∷ bs))

joined-told : (b : ℕ) (bs : List ℕ) (at : ℕ) (step : Step) → Saw (b ∷ bs) step → (next : MendedJournal)
    → (skip_of step ≤ length bs → Told (skip_of step) (suc at) bs next) → Told 0 at (b ∷ bs) (joined step at (b ∷ bs) next)
joined-told b bs at End s next t = absurd (omega arith)
joined-told b bs at (Whole size) s next t =
    let a = s.0 in
    puts b bs at size (omega (arith, a.size_is)) a.there (record_for (count_of (b ∷ bs)) (b ∷ bs)) (record-long (count_of (b ∷ bs)) (b ∷ bs)
    ∙ sym a.size_is)
    (joined (Whole size) at (b ∷ bs) next) next (t (omega (arith, a.there))) refl refl
joined-told b bs at (Lost size) s next t =
    keeps b bs at size (omega (arith, s.size_is)) s.there (joined (Lost size) at (b ∷ bs) next) next (t (omega (arith, s.there))) refl refl
joined-told b bs at Cut s next t = record {
  long = add-zero (length (b ∷ bs));
  told = sym (changes-self (at + 0) (b ∷ bs));
}
joined-told b bs at Numberless s next t = keeps b bs at 1 (omega arith) (omega arith) (joined Numberless at (b ∷ bs) next) next (t (omega arith)) refl refl
joined-told b bs at Passed s next t = keeps b bs at 1 (omega arith) (omega arith) (joined Passed at (b ∷ bs) next) next (t (omega arith)) refl refl

pub run-told : (s : Bool) (skip at : ℕ) (bs : List ℕ) → skip ≤ length bs → Told skip at bs (mended_from s skip at bs)
unfolding mended_from changes_from
run-told s zero at [] h = record { long = refl; told = refl }
run-told s (suc skip) at [] h = absurd (omega arith)
run-told s (suc skip) at (b ∷ bs) h =
    let t = run-told s skip (suc at) bs (omega arith) in
    let same : suc at + skip ≡ at + suc skip = omega arith in
    record { long = omega (arith, t.long); told = t.told ∙ ap (λ o. changes_from o (drop skip bs) (mended_from s skip (suc at) bs).bytes) same }
run-told s zero at (b ∷ bs) h =
    let step = step_by s (b ∷ bs) in
    joined-told b bs at step (saw s (b ∷ bs)) (mended_from (searches_after step) (skip_of step) (suc at) bs)
    (λ l. run-told (searches_after step) (skip_of step) (suc at) bs l)

-- A WHOLE JOURNAL
pub run_long : (j : List ℕ) → length (mended_journal j).bytes ≡ length j
run_long j = sym (add-zero (length (mended_journal j).bytes)) ∙ (run-told false 0 0 j (omega arith)).long

pub changes-told : (j : List ℕ) → (mended_journal j).changes ≡ changes_from 0 j (mended_journal j).bytes
changes-told j = (run-told false 0 0 j (omega arith)).told
