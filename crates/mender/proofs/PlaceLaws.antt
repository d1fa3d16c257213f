-- The records of a run, by their places: one that it passed as whole reads from what it left, and no byte of a lost one changes. Assumes nothing.
use Rattle.std.proofs.Common.{◌≡◌, ℕ, zero, suc, ◌+◌, ◌-◌, ◌≤◌, Bool, true, false, ◌⊎◌, List, [], ◌∷◌, ◌++◌, map, length, take, drop, replicate, sym, refl, ap, ◌∙◌, subst, inl, inr, add-zero, arith, length-take-le}
use mathlib.Core.List.Memᴰ
use mathlib.Core.List.{Memᴰ}
use lib.Seq.{drop-append-add}
use Rattle.answer.specs.Order.{NoneApplies}
use Rattle.answer.proofs.OrderLaws.{none-append, none-parts}
use Rattle.bits.specs.Fields.{Fit}
use Rattle.journal.specs.Forms.{record_with, words_after, start_order}
use Rattle.journal.specs.Words.{live_order}
use Rattle.journal.proofs.WordLaws.{fit_words}
use Rattle.journal.proofs.FormLaws.{record-starts, record-words}
use Rattle.mender_words.specs.Words.{mended_to}
use Rattle.mender.specs.Records.{count_of, reads, windows_of, record_for}
use Rattle.mender.specs.Steps.{step_by}
use Rattle.mender.specs.Run.{MendedJournal, skip_of, searches_after, joined, mended_from, mended_journal}
use Rattle.mender.specs.declared.Step.{Step}
use Rattle.mender.specs.declared.Step.TheVariants.{End, Whole, Lost, Cut, Numberless, Passed}
use Rattle.mender.proofs.ReadLaws.{reads-clear, clear_reads, fit-mended, count-mended, words-mended}
use Rattle.mender.proofs.StepLaws.{record-long}
use Rattle.mender.proofs.SeenLaws.{Saw, saw, whole_parts}

-- ---- whole records

-- reading ignores what follows
pub record-reads : (n : ℕ) (ws rest : List ℕ) → n ≤ 31 → length ws ≡ suc (suc n) → Fit (replicate (length ws) 32) ws → NoneApplies (live_order n ws)
    → reads (record_with 0x34 4 n ws ++ rest) ≡ true
record-reads n ws rest h l f none =
    clear_reads (record_with 0x34 4 n ws ++ rest)
    (none-append (start_order 0x34 4 (record_with 0x34 4 n ws ++ rest)) (live_order n (words_after 4 (record_with 0x34 4 n ws ++ rest)))
    (record-starts 0x34 4 n ws rest l h) (subst (λ vs. NoneApplies (live_order n vs)) (sym (record-words 0x34 4 n ws rest l f)) none))

reads_more : (n : ℕ) (bs rest : List ℕ) → n ≤ 31 → reads (record_for n bs) ≡ true → reads (record_for n bs ++ rest) ≡ true
unfolding record_for
reads_more n bs rest h e =
    record-reads n (map mended_to (windows_of n bs)) rest h (count-mended n bs)
    (fit-mended (suc (suc n)) (windows_of n bs) (fit_words 4 (suc (suc n)) (drop 3 bs)))
    (subst (λ vs. NoneApplies (live_order n vs)) (words-mended n bs)
    (none-parts (start_order 0x34 4 (record_for n bs)) (live_order n (words_after 4 (record_for n bs))) (reads-clear (record_for n bs) e)).1)

-- of bytes that begin at the offset `start`: a record reads at the offset p
pub record ReadsAt (start : ℕ) (bytes : List ℕ) (p : ℕ) : Type 0 where
  pub after : start ≤ p
  pub read : reads (drop (p - start) bytes) ≡ true

-- behind k bytes
pub behind : (k at : ℕ) (new bytes : List ℕ) (o : ℕ) → length new ≡ k → at + k ≤ o → drop (o - at) (new ++ bytes) ≡ drop (o - (at + k)) bytes
behind k at new bytes o l h = ap (λ i. drop i (new ++ bytes)) same ∙ drop-append-add new bytes (o - (at + k))
  where
    same : o - at ≡ length new + (o - (at + k))
    same = omega arith

reads-behind : (k at : ℕ) (new bytes : List ℕ) (p : ℕ) → length new ≡ k → ReadsAt (at + k) bytes p → ReadsAt at (new ++ bytes) p
reads-behind k at new bytes p l r = record { after = omega (arith, r.after); read = ap reads (behind k at new bytes p l r.after) ∙ r.read }

module _ (b : ℕ) (bs : List ℕ) (at : ℕ) where
  -- what the run from the next step on has shown
  abbrev Later : ℕ → MendedJournal → Type 0
  Later skip next = (p : ℕ) → Memᴰ p next.whole → ReadsAt (suc at + skip) next.bytes p

  one_more : (k : ℕ) → 1 ≤ k → suc at + (k - 1) ≡ at + k
  one_more k h = omega arith

  later : (k : ℕ) → 1 ≤ k → (new : List ℕ) → length new ≡ k → (next : MendedJournal) → Later (k - 1) next → (p : ℕ) → Memᴰ p next.whole
      → ReadsAt at (new ++ next.bytes) p
  later k h new l next t p m = reads-behind k at new next.bytes p l (subst (λ o. ReadsAt o next.bytes p) (one_more k h) (t p m))

  joined-reads : (step : Step) → Saw (b ∷ bs) step → (next : MendedJournal) → (skip_of step ≤ length bs → Later (skip_of step) next)
      → (p : ℕ) → Memᴰ p (joined step at (b ∷ bs) next).whole → ReadsAt at (joined step at (b ∷ bs) next).bytes p
  joined-reads End s next t p m = absurd (omega arith)
  joined-reads (Whole size) s next t p m = go (Memᴰ.cases_cons m)
    where
      n : ℕ
      n = count_of (b ∷ bs)

      new : List ℕ
      new = record_for n (b ∷ bs)

      here : ReadsAt at (record_for (count_of (b ∷ bs)) (b ∷ bs) ++ next.bytes) at
      here = record {
        after = omega arith;
        read =
            ap (λ i. reads (drop i (new ++ next.bytes))) none
            ∙ reads_more n (b ∷ bs) next.bytes s.0.few (whole_parts n (b ∷ bs) s.1).1;
      }
        where
          none : at - at ≡ 0
          none = omega arith

      go : (p ≡ at) ⊎ Memᴰ p next.whole → ReadsAt at (record_for (count_of (b ∷ bs)) (b ∷ bs) ++ next.bytes) p
      go (inl e) = subst (ReadsAt at (new ++ next.bytes)) (sym e) here
      go (inr k) =
          later size (omega (arith, s.0.size_is)) new (record-long n (b ∷ bs) ∙ sym s.0.size_is) next (t (omega (arith, s.0.there))) p k
  joined-reads (Lost size) s next t p m =
      later size (omega (arith, s.size_is)) (take size (b ∷ bs)) (length-take-le size (b ∷ bs) s.there) next (t (omega (arith, s.there))) p m
  joined-reads Cut s next t p m = absurd (Memᴰ.not-nil m)
  joined-reads Numberless s next t p m = later 1 (omega arith) (b ∷ []) refl next (t (omega arith)) p m
  joined-reads Passed s next t p m = later 1 (omega arith) (b ∷ []) refl next (t (omega arith)) p m

run-reads : (s : Bool) (skip at : ℕ) (bs : List ℕ) → skip ≤ length bs → (p : ℕ) → Memᴰ p (mended_from s skip at bs).whole
    → ReadsAt (at + skip) (mended_from s skip at bs).bytes p
unfolding mended_from
run-reads s zero at [] h p m = absurd (Memᴰ.not-nil m)
run-reads s (suc skip) at [] h p m = absurd (omega arith)
run-reads s (suc skip) at (b ∷ bs) h p m =
    let same : suc at + skip ≡ at + suc skip = omega arith in
    subst (λ o. ReadsAt o (mended_from s skip (suc at) bs).bytes p) same (run-reads s skip (suc at) bs (omega arith) p m)
run-reads s zero at (b ∷ bs) h p m =
    let step = step_by s (b ∷ bs) in
    let next = mended_from (searches_after step) (skip_of step) (suc at) bs in
    subst (λ o. ReadsAt o (joined step at (b ∷ bs) next).bytes p) (sym (add-zero at))
    (joined-reads b bs at step (saw s (b ∷ bs)) next (λ l. run-reads (searches_after step) (skip_of step) (suc at) bs l) p m)

-- WHAT IS CALLED WHOLE READS, over a whole journal
pub whole-reads : (j : List ℕ) (p : ℕ) → Memᴰ p (mended_journal j).whole → reads (drop p (mended_journal j).bytes) ≡ true
whole-reads j p m = let r = run-reads false 0 0 j (omega arith) p m in ap (λ i. reads (drop i (mended_journal j).bytes)) same ∙ r.read
  where
    same : p ≡ p - (0 + 0)
    same = omega arith
