-- THE RESULT EQUALS WHAT WAS FIRST KEPT, where marks and N bytes are sound and no word has more than one turned bit. Assumes nothing.
use Rattle.std.specs.Prelude.{Ok}
use Rattle.std.proofs.Common.{◌≡◌, ℕ, zero, suc, ◌+◌, ◌-◌, ◌*◌, ◌/◌, ◌%◌, ◌^◌, ◌<◌, ◌≤◌, Bool, true, false, not, ◌||◌, eqb, ◌⊎◌, List, [], ◌∷◌, ◌++◌, map, length, get_or, replicate, sym, refl, ap, ◌∙◌, subst, ap₂, inl, inr, append-nil, le_of_suc-le-suc, not-suc-le-zero, add-zero, arith, le-ltb, eqb-true}
use borrow.Author.Tests.{not-false}
use Rattle.answer.specs.Order.{NoneApplies}
use Rattle.answer.proofs.OrderLaws.{none-parts, says_none, order-answers}
use Rattle.bits.specs.Bits.{differ, bits, number}
use Rattle.bits.specs.Fields.{Fit}
use Rattle.word.specs.Word.{data_of, passes}
use Rattle.frame.specs.Header.{n_of}
use Rattle.frame.specs.declared.Frame.{Frame}
use Rattle.frame.proofs.WidthLaws.{both_false}
use Rattle.journal.specs.Bytes.{written, words_from}
use Rattle.journal.specs.Forms.{record_with, n_byte, words_after, start_order}
use Rattle.journal.specs.Journal.{data_order, refused_recall, says_recalled}
use Rattle.journal.specs.Words.{data_in, broken_after, carried_in, broken, live_order, recall_words_order, found_words}
use Rattle.journal.proofs.WordLaws.{length-written, words-written}
use Rattle.journal.proofs.FormLaws.{start-few, start-whole, record-starts, record-words}
use Rattle.mender_words.specs.Words.{mended_by, mended_to}
use Rattle.mender_words.specs.declared.MendedWord.TheVariants.{Sound, Mended}
use Rattle.mender_words.proofs.Turned.{found_back, back_to}
use Rattle.mender.specs.Records.{n_in, second_of, count_of, extent_of, windows_of, reads, record_for}
use Rattle.mender.specs.Steps.{step_by}
use Rattle.mender.specs.Damage.{FewTurned, OneTurned, AllTurned, joined_all}
use Rattle.mender.specs.Run.{MendedJournal, skip_of, searches_after, joined, mended_from, mended_journal}
use Rattle.mender.specs.declared.Step.TheVariants.{Whole}
use Rattle.mender.proofs.RecordLaws.{n-told, count_by}
use Rattle.mender.proofs.ReadLaws.{clear_reads}
use Rattle.mender.proofs.StepLaws.{step-judged, whole-judged}

-- ---- words

fit-few : (vs us : List ℕ) → FewTurned vs us → (Fit (replicate (length vs) 32) vs) × (Fit (replicate (length us) 32) us) × (length vs ≡ length us)
fit-few [] [] f = (tt, tt, refl)
fit-few [] (u ∷ us) f = absurd f
fit-few (v ∷ vs) [] f = absurd f
fit-few (v ∷ vs) (u ∷ us) f = let r = fit-few vs us f.3 in ((f.0, r.0), (f.1, r.1), ap suc r.2)

parts-of : (c v : ℕ) (vs : List ℕ) → broken_after c (v ∷ vs) ≡ false → (not (passes (bits 32 v)) ≡ false) × (broken_after (v % 4) vs ≡ false)
unfolding broken_after
parts-of c v vs e =
    both_false (not (passes (bits 32 v))) (broken_after (v % 4) vs)
    (both_false (not (eqb (v / 2 ^ 30) c)) (not (passes (bits 32 v)) || broken_after (v % 4) vs) e).1

-- words that pass come back
words_back : (c : ℕ) (vs us : List ℕ) → FewTurned vs us → broken_after c vs ≡ false → map mended_to us ≡ vs
unfolding broken_after
words_back c [] [] f e = refl
words_back c [] (u ∷ us) f e = absurd f
words_back c (v ∷ vs) [] f e = absurd f
words_back c (v ∷ vs) (u ∷ us) f e =
    let parts = parts-of c v vs e in
    ap₂ ◌∷◌ (back_to v u f.0 f.1 (not-false (passes (bits 32 v)) parts.0) f.2) (words_back (v % 4) vs us f.3 parts.1)

few-at : (vs us : List ℕ) (k : ℕ) → FewTurned vs us → k < length vs
    → (get_or vs k 0 < 2 ^ 32) × (get_or us k 0 < 2 ^ 32) × (differ (bits 32 (get_or vs k 0)) (bits 32 (get_or us k 0)) ≤ 1)
few-at [] us k f h = absurd (not-suc-le-zero h)
few-at (v ∷ vs) [] k f h = absurd f
few-at (v ∷ vs) (u ∷ us) zero f h = (f.0, f.1, f.2)
few-at (v ∷ vs) (u ∷ us) (suc k) f h = few-at vs us k f.3 (le_of_suc-le-suc h)

passes_at_lem : (c : ℕ) (vs : List ℕ) (k : ℕ) → broken_after c vs ≡ false → k < length vs → passes (bits 32 (get_or vs k 0)) ≡ true
unfolding broken_after
passes_at_lem c [] k e h = absurd (not-suc-le-zero h)
passes_at_lem c (v ∷ vs) zero e h = not-false (passes (bits 32 v)) (parts-of c v vs e).0
passes_at_lem c (v ∷ vs) (suc k) e h = passes_at_lem (v % 4) vs k (parts-of c v vs e).1 (le_of_suc-le-suc h)

get_d_map : (vs : List ℕ) (k : ℕ) → k < length vs → get_or (data_in vs) k 0 ≡ number (data_of (bits 32 (get_or vs k 0)))
get_d_map [] k h = absurd (not-suc-le-zero h)
get_d_map (v ∷ vs) zero h = refl
get_d_map (v ∷ vs) (suc k) h = get_d_map vs k (le_of_suc-le-suc h)

-- bytes that were dealt with are skipped
skipped : (s : Bool) (at : ℕ) (a rest : List ℕ) → mended_from s (length a) at (a ++ rest) ≡ mended_from s 0 (at + length a) rest
unfolding mended_from
skipped s at [] rest = ap (λ o. mended_from s 0 o rest) (sym (add-zero at))
skipped s at (b ∷ a) rest = skipped s (suc at) a rest ∙ ap (λ o. mended_from s 0 o rest) more
  where
    more : suc at + length a ≡ at + suc (length a)
    more = omega arith

-- ---- a record

module _ (r r' : List ℕ) (t : OneTurned r r') where
  abbrev n : ℕ
  n = t.n

  abbrev ws : List ℕ
  ws = t.ws

  abbrev us : List ℕ
  us = t.us

  fits : (Fit (replicate (length ws) 32) ws) × (Fit (replicate (length us) 32) us) × (length ws ≡ length us)
  fits = fit-few ws us t.few

  clear : NoneApplies (recall_words_order r)
  clear = says_none says_recalled refused_recall (λ k. refl) (found_words (n_byte r) (words_after 4 r)) (recall_words_order r) t.read

  size-told : 4 * n_byte r + 11 ≡ length r
  size-told =
      let a = ap says_recalled (order-answers refused_recall (found_words (n_byte r) (words_after 4 r)) (recall_words_order r) clear) in
      let b : ◌≡◌ {A = ℕ × Frame} (4 * n_byte r + 11, (found_words (n_byte r) (words_after 4 r)).frame) (length r, t.frame) = cc (a, t.read) in
      ap (λ p. p.0) b

  own-n : n_byte r ≡ n
  own-n = ap n_byte t.was

  count : length ws ≡ suc (suc n)
  count = omega (arith, size-told, own-n, ap length t.was, length-written 4 ws)

  few : n ≤ 31
  few = omega (arith, own-n, start-few 0x34 4 r (none-parts (start_order 0x34 4 r) (live_order (n_byte r) (words_after 4 r)) clear).0)

  own-words : words_after 4 r ≡ ws
  own-words =
      ap (words_after 4) (t.was ∙ sym (append-nil (record_with 0x34 4 n ws))) ∙ record-words 0x34 4 n ws [] count fits.0

  -- its data and its words are right
  right : NoneApplies (data_order n (data_in ws)) × (broken ws ≡ false)
  right =
      let live = (none-parts (start_order 0x34 4 r) (live_order (n_byte r) (words_after 4 r)) clear).1 in
      let here = subst (λ m. NoneApplies (live_order m ws)) own-n (subst (λ vs. NoneApplies (live_order (n_byte r) vs)) own-words live) in
      let parts = none-parts (data_order n (data_in ws)) ((broken ws, 17) ∷ []) here in
      (parts.0, parts.1.0)

  -- word 2 says N
  second-n : n_in (get_or ws 1 0) ≡ n
  second-n =
      sym (n-told (get_or ws 1 0) (get_d_map ws 1 (omega (arith, count)))
      (eqb-true n (n_of (bits 24 (get_or (data_in ws) 1 0))) (not-false (eqb n (n_of (bits 24 (get_or (data_in ws) 1 0)))) right.0.0)))

  module _ (rest : List ℕ) where
    -- what came of it, with the records behind it
    abbrev found : List ℕ
    found = record_with 0x34 4 n us ++ rest

    many : length us ≡ suc (suc n)
    many = sym fits.2 ∙ count

    starts : NoneApplies (start_order 0x34 4 found)
    starts = record-starts 0x34 4 n us rest many few

    there : 4 * n + 11 ≤ length found
    there = start-whole 0x34 4 found starts

    windows : windows_of n found ≡ us
    windows = ap (λ m. words_from 4 m (written 4 us ++ rest)) (sym many) ∙ words-written 4 us rest fits.1

    second : second_of found ≡ get_or us 1 0
    unfolding words_from
    second = ap (λ l. get_or l 1 0) windows

    counted : count_of found ≡ n
    counted = go (found_back (get_or ws 1 0) (get_or us 1 0) pair.0 pair.1 passed pair.2)
      where
        pair : (get_or ws 1 0 < 2 ^ 32) × (get_or us 1 0 < 2 ^ 32) × (differ (bits 32 (get_or ws 1 0)) (bits 32 (get_or us 1 0)) ≤ 1)
        pair = few-at ws us 1 t.few (omega (arith, count))

        passed : passes (bits 32 (get_or ws 1 0)) ≡ true
        passed = passes_at_lem (carried_in ws) ws 1 right.1 (omega (arith, count))

        go : (mended_by (get_or us 1 0) ≡ Mended (get_or ws 1 0)) ⊎ ((mended_by (get_or us 1 0) ≡ Sound) × (get_or us 1 0 ≡ get_or ws 1 0)) → count_of found ≡ n
        go (inl e) = count_by found (sym second) e ∙ second-n
        go (inr e) = count_by found (sym second) e.0 ∙ ap n_in e.1 ∙ second-n

    placed : extent_of found ≡ Ok n
    unfolding extent_of
    placed =
        simp (
          le-ltb (length found) 11 (omega (arith, there)),
          le-ltb 31 (count_of found) (omega (arith, counted, few)),
          le-ltb (length found) (4 * count_of found + 11) (omega (arith, counted, there)),
        )
        (ap Ok counted)

    back : record_for n found ≡ r
    unfolding record_for
    back =
        ap (λ vs. record_with 0x34 4 n (map mended_to vs)) windows ∙ ap (record_with 0x34 4 n) (words_back (carried_in ws) ws us t.few right.1)
        ∙ sym t.was

    stepped : step_by false found ≡ Whole (4 * n + 11)
    stepped =
        step-judged false found (λ e. omega (arith, there)) starts.0 (sym placed)
        ∙ whole-judged n found {read = true} (sym (ap reads back ∙ clear_reads r clear)) refl

    -- the run takes it whole, and goes on behind it
    pub record-run : (at : ℕ) → mended_from false 0 at (r' ++ rest) ≡ joined (Whole (4 * n + 11)) at found (mended_from false 0 (at + length r') rest)
    unfolding mended_from
    record-run at =
        ap (λ x. mended_from false 0 at (x ++ rest)) t.came
        ∙ ap (λ step. joined step at found (mended_from (searches_after step) (skip_of step) (suc at) (0x34 ∷ n ∷ (written 4 us ++ rest)))) stepped
        ∙ ap (joined (Whole (4 * n + 11)) at found)
        (ap (λ k. mended_from false k (suc at) ((0x34 ∷ n ∷ written 4 us) ++ rest)) size
        ∙ skipped false (suc at) (0x34 ∷ n ∷ written 4 us) rest ∙ ap (λ o. mended_from false 0 o rest) place')
      where
        size : 4 * n + 11 - 1 ≡ length (0x34 ∷ n ∷ written 4 us)
        size = omega (arith, length-written 4 us, many)

        place' : suc at + length (0x34 ∷ n ∷ written 4 us) ≡ at + length r'
        place' = omega (arith, ap length t.came)

    pub kept-bytes : record_for (count_of found) found ≡ r
    kept-bytes = ap (λ m. record_for m found) counted ∙ back

-- ---- A JOURNAL of such records comes back, and nothing is reported lost or passed over

pub record Back (r : MendedJournal) (was : List ℕ) : Type 0 where
  pub bytes : r.bytes ≡ was
  pub lost : r.lost ≡ []
  pub passed : r.passed ≡ []

all_back : (rs rs' : List (List ℕ)) → AllTurned rs rs' → (at : ℕ) → Back (mended_from false 0 at (joined_all rs')) (joined_all rs)
unfolding mended_from joined_all
all_back [] [] t at = record { bytes = refl; lost = refl; passed = refl }
all_back [] (r' ∷ rs') t at = absurd t
all_back (r ∷ rs) [] t at = absurd t
all_back (r ∷ rs) (r' ∷ rs') t at =
    let run = record-run r r' t.0 (joined_all rs') at in
    let next = all_back rs rs' t.1 (at + length r') in
    record {
      bytes = ap (λ x. x.bytes) run ∙ ap₂ ◌++◌ (kept-bytes r r' t.0 (joined_all rs')) next.bytes;
      lost = ap (λ x. x.lost) run ∙ next.lost;
      passed = ap (λ x. x.passed) run ∙ next.passed;
    }

pub first-kept : (rs rs' : List (List ℕ)) → AllTurned rs rs' → Back (mended_journal (joined_all rs')) (joined_all rs)
first-kept rs rs' t = all_back rs rs' t 0
