-- Reading a record after mending: what it reads as, and that a record with a broken word does not read. Assumes nothing.
use Rattle.std.proofs.Common.{◌≡◌, ℕ, zero, suc, ◌/◌, ◌%◌, ◌^◌, Bool, true, false, not, ◌&&◌, ◌||◌, eqb, ◌⊎◌, List, [], ◌∷◌, map, length, drop, replicate, sym, refl, ap, ◌∙◌, inl, inr, true≢false, append-nil}
use Rattle.answer.specs.Order.{NoneApplies, FirstIs}
use Rattle.answer.proofs.OrderLaws.{first_or_none, order-answers, order-refuses, none-parts}
use Rattle.bits.specs.Bits.{bits}
use Rattle.bits.specs.Fields.{Fit}
use Rattle.word.specs.Word.{passes}
use Rattle.journal.specs.Forms.{record_with, n_byte, words_after, start_order}
use Rattle.journal.specs.Journal.{data_order, refused_recall}
use Rattle.journal.specs.Words.{data_in, broken_after, broken, carried_in, live_order, recall_words_order, found_words}
use Rattle.journal.specs.declared.Recalled.{Recalled}
use Rattle.journal.proofs.WordLaws.{length-words, fit_words}
use Rattle.journal.proofs.FormLaws.{record-words}
use Rattle.mender_words.specs.Words.{mended_by, broken_word, mended_to}
use Rattle.mender_words.proofs.Turned.{broken-fails, mended-low}
use Rattle.mender.specs.Records.{is_record, reads, windows_of, spoilt, record_for, whole}

-- ---- it reads exactly where no check applies

pub reads-clear : (bs : List ℕ) → reads bs ≡ true → NoneApplies (recall_words_order bs)
unfolding reads
reads-clear bs e = go (first_or_none (recall_words_order bs))
  where
    answer : Recalled
    answer = found_words (n_byte bs) (words_after 4 bs)

    go : NoneApplies (recall_words_order bs) ⊎ ((n : ℕ) × FirstIs (recall_words_order bs) n) → NoneApplies (recall_words_order bs)
    go (inl none) = none
    go (inr (n, first)) =
        absurd (true≢false (sym e ∙ ap (λ r. is_record r.answer) (order-refuses refused_recall answer (recall_words_order bs) n first)))

pub clear_reads : (bs : List ℕ) → NoneApplies (recall_words_order bs) → reads bs ≡ true
unfolding reads
clear_reads bs none =
    ap (λ r. is_record r.answer) (order-answers refused_recall (found_words (n_byte bs) (words_after 4 bs)) (recall_words_order bs) none)

-- ---- the words of a record after mending

pub fit-mended : (n : ℕ) (vs : List ℕ) → Fit (replicate n 32) vs → Fit (replicate (length (map mended_to vs)) 32) (map mended_to vs)
fit-mended zero [] f = tt
fit-mended zero (v ∷ vs) f = absurd f
fit-mended (suc n) [] f = absurd f
fit-mended (suc n) (v ∷ vs) f = (mended-low v f.0, fit-mended n vs f.1)

length-map : (vs : List ℕ) → length (map mended_to vs) ≡ length vs
length-map [] = refl
length-map (v ∷ vs) = ap suc (length-map vs)

module _ (n : ℕ) (bs : List ℕ) where
  pub count-mended : length (map mended_to (windows_of n bs)) ≡ suc (suc n)
  count-mended = length-map (windows_of n bs) ∙ length-words 4 (suc (suc n)) (drop 3 bs)

  pub words-mended : words_after 4 (record_for n bs) ≡ map mended_to (windows_of n bs)
  unfolding record_for
  words-mended =
      ap (words_after 4) (sym (append-nil (record_with 0x34 4 n (map mended_to (windows_of n bs)))))
      ∙ record-words 0x34 4 n (map mended_to (windows_of n bs)) [] count-mended
      (fit-mended (suc (suc n)) (windows_of n bs) (fit_words 4 (suc (suc n)) (drop 3 bs)))

-- ---- a broken word

pub or-true : (a : Bool) {b : Bool} → b ≡ true → a || b ≡ true
or-true true e = refl
or-true false e = e

spoilt-broken : (vs : List ℕ) (c : ℕ) → spoilt vs ≡ true → broken_after c (map mended_to vs) ≡ true
unfolding spoilt broken_after
spoilt-broken [] c e = absurd (true≢false (sym e))
spoilt-broken (v ∷ vs) c e = or-true (not (eqb (mended_to v / 2 ^ 30) c)) (go (broken_word (mended_by v)) refl e (λ h. spoilt-broken vs (mended_to v % 4) h))
  where
    later : Bool
    later = broken_after (mended_to v % 4) (map mended_to vs)

    go : (t : Bool) → broken_word (mended_by v) ≡ t → t || spoilt vs ≡ true → (spoilt vs ≡ true → broken_after (mended_to v % 4) (map mended_to vs) ≡ true)
        → not (passes (bits 32 (mended_to v))) || broken_after (mended_to v % 4) (map mended_to vs) ≡ true
    go true b h rest =
        let f = broken-fails v b in
        ap (λ t. not t || later) (ap (λ u. passes (bits 32 u)) f.0 ∙ f.1)
    go false b h rest = or-true (not (passes (bits 32 (mended_to v)))) (rest h)

module _ (n : ℕ) (bs : List ℕ) where
  -- what the last check of a record that reads says
  pub unbroken : reads (record_for n bs) ≡ true → broken (map mended_to (windows_of n bs)) ≡ false
  unfolding record_for
  unbroken e =
      let all = (none-parts (start_order 0x34 4 (record_for n bs)) (live_order n (words_after 4 (record_for n bs))) (reads-clear (record_for n bs) e)).1 in
      let last = (none-parts (data_order n (data_in (words_after 4 (record_for n bs)))) ((broken (words_after 4 (record_for n bs)), 17) ∷ []) all).1 in
      ap broken (sym (words-mended n bs)) ∙ last.0

  -- a record with a broken word does not read, so that reading alone tells
  pub whole-reads : reads (record_for n bs) ≡ whole n bs
  unfolding whole
  whole-reads = go (spoilt (windows_of n bs)) refl (reads (record_for n bs)) refl
    where
      go : (t : Bool) → spoilt (windows_of n bs) ≡ t → (r : Bool) → reads (record_for n bs) ≡ r → r ≡ not t && r
      go true s true r =
          absurd (true≢false (sym (spoilt-broken (windows_of n bs) (carried_in (map mended_to (windows_of n bs))) s) ∙ unbroken r))
      go true s false r = refl
      go false s r e = refl
