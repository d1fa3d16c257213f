-- NO BYTE OF A LOST RECORD CHANGES, over a whole journal; and no byte of a record with a word of two turned bits in a step. Assumes nothing.
use Rattle.std.proofs.Common.{◌≡◌, ℕ, zero, suc, ◌+◌, ◌-◌, ◌^◌, ◌<◌, ◌≤◌, Bool, true, false, ◌||◌, ltb, ◌⊎◌, List, [], ◌∷◌, ◌++◌, length, get_or, take, drop, sym, refl, ap, ◌∙◌, subst, inl, inr, true≢false, le_of_suc-le-suc, not-suc-le-zero, add-zero, arith, length-take-le, drop-drop, take_at}
use mathlib.Core.List.Memᴰ
use mathlib.Core.List.{Memᴰ}
use Rattle.bits.specs.Bits.{differ, bits}
use Rattle.word.specs.Word.{passes}
use Rattle.journal.specs.Forms.{unmarked}
use Rattle.mender_words.specs.Words.{mended_by, broken_word}
use Rattle.mender_words.proofs.Turned.{two-kept}
use Rattle.mender.specs.Records.{count_of, windows_of, spoilt, record_for}
use Rattle.mender.specs.Steps.{step_by, bytes_after}
use Rattle.mender.specs.Run.{LostAt, MendedJournal, skip_of, searches_after, joined, mended_from, mended_journal}
use Rattle.mender.specs.declared.Step.{Step}
use Rattle.mender.specs.declared.Step.TheVariants.{End, Whole, Lost, Cut, Numberless, Passed}
use Rattle.mender.proofs.FewLaws.{marked_by}
use Rattle.mender.proofs.ReadLaws.{or-true}
use Rattle.mender.proofs.StepLaws.{record-long, step-passed}
use Rattle.mender.proofs.SeenLaws.{Saw, saw, whole_parts}
use Rattle.mender.proofs.PlaceLaws.{behind}

-- ---- the first byte of a step stays

first_byte : (b : ℕ) (bs : List ℕ) (at : ℕ) (step : Step) → Saw (b ∷ bs) step → (next : MendedJournal) → take 1 (joined step at (b ∷ bs) next).bytes ≡ b ∷ []
unfolding record_for
first_byte b bs at End s next = absurd (omega arith)
first_byte b [] at (Whole size) s next = absurd (omega (arith, s.0.there, s.0.size_is))
first_byte b (a ∷ bs) at (Whole size) s next = ap (λ x. x ∷ []) (sym (marked_by b a bs s.0.marked).0)
first_byte b bs at (Lost zero) s next = absurd (omega (arith, s.size_is))
first_byte b bs at (Lost (suc size)) s next = refl
first_byte b bs at Cut s next = refl
first_byte b bs at Numberless s next = refl
first_byte b bs at Passed s next = refl

run-first : (s : Bool) (at : ℕ) (bs : List ℕ) → take 1 (mended_from s 0 at bs).bytes ≡ take 1 bs
unfolding mended_from
run-first s at [] = refl
run-first s at (b ∷ bs) =
    let step = step_by s (b ∷ bs) in
    first_byte b bs at step (saw s (b ∷ bs)) (mended_from (searches_after step) (skip_of step) (suc at) bs)

-- a byte without a mark is passed over
run-passed : (s : Bool) (at b : ℕ) (bs : List ℕ) → unmarked 0x34 (b ∷ bs) ≡ true → (mended_from s 0 at (b ∷ bs)).bytes ≡ b ∷ (mended_from true 0 (suc at) bs).bytes
unfolding mended_from
run-passed s at b bs u =
    ap (λ step. (joined step at (b ∷ bs) (mended_from (searches_after step) (skip_of step) (suc at) bs)).bytes) (step-passed s (b ∷ bs) (λ e. omega arith) u)

other-first : (bs : List ℕ) → unmarked 0x34 (0x34 ∷ bs) ≡ true
unfolding unmarked
other-first [] = refl
other-first (b ∷ bs) = or-true (ltb (suc (suc (length bs))) 2) refl

-- behind a mark two bytes stay: the second of the mark, which begins none, and the N byte
run-second : (at b c : ℕ) (bs : List ℕ) → b ≡ 0x34 → take 2 (mended_from true 0 at (b ∷ c ∷ bs)).bytes ≡ b ∷ c ∷ []
run-second at b c bs e =
    ap (take 2) (run-passed true at b (c ∷ bs) (ap (λ x. unmarked 0x34 (x ∷ c ∷ bs)) e ∙ other-first (c ∷ bs)))
    ∙ ap (λ r. b ∷ r) (run-first true (suc at) (c ∷ bs))

-- ---- lost records

-- of bytes that begin at the offset `start`, and what they were: those of a lost record are the same
pub record StaysAt (start : ℕ) (bytes was : List ℕ) (l : LostAt) : Type 0 where
  pub after : start ≤ l.offset
  pub stays : take l.size (drop (l.offset - start) bytes) ≡ take l.size (drop (l.offset - start) was)

module _ (b : ℕ) (bs : List ℕ) (at : ℕ) where
  abbrev Later : ℕ → MendedJournal → Type 0
  Later skip next = (l : LostAt) → Memᴰ l next.lost → StaysAt (suc at + skip) next.bytes (drop skip bs) l

  -- those behind k bytes
  later : (k : ℕ) → 1 ≤ k → (new : List ℕ) → length new ≡ k → (next : MendedJournal) → Later (k - 1) next → (l : LostAt) → Memᴰ l next.lost
      → StaysAt at (new ++ next.bytes) (b ∷ bs) l
  later k h new e next t l m =
      let r = t l m in
      let place : suc at + (k - 1) ≡ at + k = omega arith in
      let same : k + (l.offset - (at + k)) ≡ l.offset - at = omega (arith, r.after) in
      record {
        after = omega (arith, r.after);
        stays =
            ap (take l.size) (behind k at new next.bytes l.offset e (omega (arith, r.after)))
            ∙ ap (λ o. take l.size (drop (l.offset - o) next.bytes)) (sym place)
            ∙ r.stays
            ∙ ap (λ o. take l.size (drop (l.offset - o) (drop (k - 1) bs))) place
            ∙ ap (take l.size) (ap (drop (l.offset - (at + k))) (sym from) ∙ drop-drop (l.offset - (at + k)) k (b ∷ bs) ∙ ap (λ i. drop i (b ∷ bs)) same);
      }
    where
      from : drop k (b ∷ bs) ≡ drop (k - 1) bs
      from = ap (λ j. drop j (b ∷ bs)) back
        where
          back : k ≡ suc (k - 1)
          back = omega arith

  -- the one at hand
  here : (bytes : List ℕ) (size : ℕ) → take size bytes ≡ take size (b ∷ bs) → StaysAt at bytes (b ∷ bs) (record { offset = at; size = size })
  here bytes size e = record { after = omega arith; stays = ap (λ i. take size (drop i bytes)) none ∙ e ∙ sym (ap (λ i. take size (drop i (b ∷ bs))) none) }
    where
      none : at - at ≡ 0
      none = omega arith

  split : (x : LostAt) (size : ℕ) (bytes : List ℕ) (rest : List LostAt) → take size bytes ≡ take size (b ∷ bs)
      → ((l : LostAt) → Memᴰ l rest → StaysAt at bytes (b ∷ bs) l)
      → Memᴰ x (record { offset = at; size = size } ∷ rest) → StaysAt at bytes (b ∷ bs) x
  split x size bytes rest e t m = go (Memᴰ.cases_cons m)
    where
      go : (x ≡ record { offset = at; size = size }) ⊎ Memᴰ x rest → StaysAt at bytes (b ∷ bs) x
      go (inl q) = subst (StaysAt at bytes (b ∷ bs)) (sym q) (here bytes size e)
      go (inr k) = t x k

  joined-stays : (step : Step) → Saw (b ∷ bs) step → (next : MendedJournal) → (skip_of step ≤ length bs → Later (skip_of step) next)
      → (step ≡ Numberless → next.bytes ≡ (mended_from true 0 (suc at) bs).bytes)
      → (l : LostAt) → Memᴰ l (joined step at (b ∷ bs) next).lost → StaysAt at (joined step at (b ∷ bs) next).bytes (b ∷ bs) l
  joined-stays End s next t i l m = absurd (omega arith)
  joined-stays (Whole size) s next t i l m =
      later size (omega (arith, s.0.size_is)) (record_for (count_of (b ∷ bs)) (b ∷ bs)) (record-long (count_of (b ∷ bs)) (b ∷ bs) ∙ sym s.0.size_is) next
      (t (omega (arith, s.0.there))) l m
  joined-stays (Lost size) s next t i l m =
      let long = length-take-le size (b ∷ bs) s.there in
      split l size (take size (b ∷ bs) ++ next.bytes) next.lost (take_at (take size (b ∷ bs)) next.bytes size long)
      (λ x k. later size (omega (arith, s.size_is)) (take size (b ∷ bs)) long next (t (omega (arith, s.there))) x k) m
  joined-stays Cut s next t i l m = split l (length (b ∷ bs)) (b ∷ bs) [] refl (λ x k. absurd (Memᴰ.not-nil k)) m
  joined-stays Numberless s next t i l m =
      split l 3 (b ∷ next.bytes) next.lost (ap (λ r. take 3 (b ∷ r)) (i refl) ∙ three bs s.0 s.1)
      (λ x k. later 1 (omega arith) (b ∷ []) refl next (t (omega arith)) x k) m
    where
      three : (xs : List ℕ) → unmarked 0x34 (b ∷ xs) ≡ false → 11 ≤ length (b ∷ xs) → take 3 (b ∷ (mended_from true 0 (suc at) xs).bytes) ≡ take 3 (b ∷ xs)
      three [] u h = absurd (omega arith)
      three (x ∷ []) u h = absurd (omega arith)
      three (x ∷ y ∷ xs) u h = ap (λ r. b ∷ r) (run-second (suc at) x y xs (marked_by b x (y ∷ xs) u).1)
  joined-stays Passed s next t i l m = later 1 (omega arith) (b ∷ []) refl next (t (omega arith)) l m

run-stays : (s : Bool) (skip at : ℕ) (bs : List ℕ) → skip ≤ length bs → (l : LostAt) → Memᴰ l (mended_from s skip at bs).lost
    → StaysAt (at + skip) (mended_from s skip at bs).bytes (drop skip bs) l
unfolding mended_from
run-stays s zero at [] h l m = absurd (Memᴰ.not-nil m)
run-stays s (suc skip) at [] h l m = absurd (omega arith)
run-stays s (suc skip) at (b ∷ bs) h l m =
    let same : suc at + skip ≡ at + suc skip = omega arith in
    subst (λ o. StaysAt o (mended_from s skip (suc at) bs).bytes (drop skip bs) l) same (run-stays s skip (suc at) bs (omega arith) l m)
run-stays s zero at (b ∷ bs) h l m =
    let step = step_by s (b ∷ bs) in
    let next = mended_from (searches_after step) (skip_of step) (suc at) bs in
    subst (λ o. StaysAt o (joined step at (b ∷ bs) next).bytes (b ∷ bs) l) (sym (add-zero at))
    (joined-stays b bs at step (saw s (b ∷ bs)) next (λ k. run-stays (searches_after step) (skip_of step) (suc at) bs k)
    (λ e. ap (λ x. (mended_from (searches_after x) (skip_of x) (suc at) bs).bytes) e) l m)

pub lost-stays : (j : List ℕ) (l : LostAt) → Memᴰ l (mended_journal j).lost
    → take l.size (drop l.offset (mended_journal j).bytes) ≡ take l.size (drop l.offset j)
lost-stays j l m =
    let r = run-stays false 0 0 j (omega arith) l m in
    ap (λ i. take l.size (drop i (mended_journal j).bytes)) same ∙ r.stays ∙ sym (ap (λ i. take l.size (drop i j)) same)
  where
    same : l.offset ≡ l.offset - (0 + 0)
    same = omega arith

-- ---- TWO TURNED BITS, read at their own place

spoilt-at : (vs : List ℕ) (k : ℕ) → k < length vs → broken_word (mended_by (get_or vs k 0)) ≡ true → spoilt vs ≡ true
unfolding spoilt
spoilt-at [] k h e = absurd (not-suc-le-zero h)
spoilt-at (v ∷ vs) zero h e = ap (λ t. t || spoilt vs) e
spoilt-at (v ∷ vs) (suc k) h e = go (broken_word (mended_by v)) (spoilt-at vs k (le_of_suc-le-suc h) e)
  where
    go : (t : Bool) → spoilt vs ≡ true → t || spoilt vs ≡ true
    go true r = refl
    go false r = r

-- the step is not whole and changes no byte
pub two-turned : (s : Bool) (bs : List ℕ) (k u : ℕ) → k < length (windows_of (count_of bs) bs) → u < 2 ^ 32 → get_or (windows_of (count_of bs) bs) k 0 < 2 ^ 32
    → passes (bits 32 u) ≡ true → differ (bits 32 u) (bits 32 (get_or (windows_of (count_of bs) bs) k 0)) ≡ 2
    → ((size : ℕ) → step_by s bs ≡ Whole size → ⊥) × (bytes_after (step_by s bs) bs ≡ bs)
two-turned s bs k u h hu hv p d = (never, stays (step_by s bs) refl)
  where
    broken : spoilt (windows_of (count_of bs) bs) ≡ true
    broken = spoilt-at (windows_of (count_of bs) bs) k h (ap broken_word (two-kept u (get_or (windows_of (count_of bs) bs) k 0) hu hv p d))

    never : (size : ℕ) → step_by s bs ≡ Whole size → ⊥
    never size e = true≢false (sym broken ∙ (whole_parts (count_of bs) bs (subst (Saw bs) e (saw s bs)).1).0)

    stays : (step : Step) → step_by s bs ≡ step → bytes_after step bs ≡ bs
    stays End e = refl
    stays (Whole size) e = absurd (never size e)
    stays (Lost size) e = refl
    stays Cut e = refl
    stays Numberless e = refl
    stays Passed e = refl
