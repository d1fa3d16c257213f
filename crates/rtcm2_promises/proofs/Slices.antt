-- Bytes lent to rtcm2_feed_all in slices: the calls are those of a caller of the package's reader, and so are the bytes that are left. Assumes nothing.
use mathlib.Core.Path.{◌≡◌, refl, sym, ap, ap₂, ◌∙◌}
use mathlib.Core.List.{List, [], ◌∷◌, ◌++◌, map-append}
use Prim.Native.Nat.{ℕ, ◌≤◌}
use lib.ListN.{length, take, drop}
use Rattle.reader.specs.Reading.{fed_all_by, says_answer, carrying}
use Rattle.reader.specs.declared.Reader.{Reader}
use Rattle.reader.specs.declared.Answer.{Answer}
use Rattle.reader.specs.declared.Answer.TheVariants.{Done, Refused}
use Rattle.record_fields.specs.Coding.{Each}
use Rattle.rtcm2_state.specs.State.{state_size, state_put}
use Rattle.promises.specs.Calls.{Call, feeds_all, used, reply_to, after_all, takes_all, in_slices, unused}
use Rattle.promises.proofs.ChangesNeither.{number-alone}
use Rattle.rtcm2_promises.specs.LineCalls.{LineCall, feed-all, HasRoom, asks, asked, reply_in, after_all_in, used_by, SlicesIn, no-slice, slice-and}
use Rattle.rtcm2_promises.proofs.Called.{Called}
use Rattle.rtcm2_promises.proofs.OneCall.{same-call}
use Rattle.rtcm2_promises.proofs.LineCalls.{SameAll, same-calls}

-- ---- one list of calls after another

pub each_append : {A : Type 0} (P : A → Type 0) (xs ys : List A) → Each P xs → Each P ys → Each P (xs ++ ys)
each_append P [] ys a b = b
each_append P (x ∷ xs) ys a b = (a.0, each_append P xs ys a.1 b)

each-parts : {A : Type 0} (P : A → Type 0) (xs ys : List A) → Each P (xs ++ ys) → Each P xs × Each P ys
each-parts P [] ys a = (tt, a)
each-parts P (x ∷ xs) ys a = let r = each-parts P xs ys a.1 in ((a.0, r.0), r.1)

pub asked-append : (cs ts : List LineCall) (ds es : List Call) → asked cs ≡ ds → asked ts ≡ es → asked (cs ++ ts) ≡ ds ++ es
asked-append cs ts ds es a b = map-append asks cs ts ∙ ap₂ ◌++◌ a b

-- ---- what a reply says was used; a refusal of the package's reader has 0 beside it

used-said : (r : Reader) (bs : List ℕ) → used_by (reply_to r (feeds_all bs)) ≡ (fed_all_by r bs).used
unfolding reply_to
used-said r bs = go (fed_all_by r bs).answer refl
  where
    by : Answer → ℕ
    by a = used_by (used (carrying ((fed_all_by r bs).used, (fed_all_by r bs).passed) (says_answer a)))

    go : (a : Answer) → (fed_all_by r bs).answer ≡ a → by (fed_all_by r bs).answer ≡ (fed_all_by r bs).used
    go Done e = ap by e
    go (Refused n) e = ap by e ∙ sym (ap (λ (v : ℕ × ℕ). v.0) (number-alone.feed-all r bs n (ap says_answer e)))

-- ---- slice after slice

module _ (state : List ℕ) (h : state_size ≤ length state) where
  pub sliced : {held ns bs rest : List ℕ} {cs : List LineCall} → SlicesIn held ns bs cs rest → (r : Reader) → Called r → held ≡ state_put r state
      → Each HasRoom cs → (asked cs ≡ in_slices r ns bs) × (rest ≡ unused r ns bs)
  unfolding in_slices unused
  sliced no-slice r k e room = (refl, refl)
  sliced {held = held} (slice-and {ns = ns} {bs = bs} {rest = rest} {n = n} {cs = cs} u p ts et tail) r k e room =
      later (sliced tail next v.called to parts.1)
    where
      lent : LineCall
      lent = feed-all (take n bs) u p

      parts : Each HasRoom ts × Each HasRoom cs
      parts = each-parts HasRoom ts cs room.1

      v : SameAll r state (feed-all (take n bs) u p ∷ ts)
      v = same-calls state h (feed-all (take n bs) u p ∷ ts) r k (tt, parts.0)

      next : Reader
      next = after_all r (feeds_all (take n bs) ∷ asked ts)

      to : after_all_in held (feed-all (take n bs) u p ∷ ts) ≡ state_put next state
      to = ap (λ b. after_all_in b (feed-all (take n bs) u p ∷ ts)) e ∙ v.leaves

      here : next ≡ after_all r (feeds_all (take n bs) ∷ takes_all)
      here = ap (λ l. after_all r (feeds_all (take n bs) ∷ l)) et

      -- how far the slice went
      far : ℕ
      far = used_by (reply_in held (feed-all (take n bs) u p))

      far-is : far ≡ (fed_all_by r (take n bs)).used
      far-is = ap (λ b. used_by (reply_in b lent)) e ∙ ap used_by (same-call r k state h lent tt).reply ∙ used-said r (take n bs)

      later : (asked cs ≡ in_slices next ns (drop far bs)) × (rest ≡ unused next ns (drop far bs))
          → (asked (feed-all (take n bs) u p ∷ (ts ++ cs)) ≡ in_slices r (n ∷ ns) bs) × (rest ≡ unused r (n ∷ ns) bs)
      later w = (
        ap (λ l. feeds_all (take n bs) ∷ l) (asked-append ts cs takes_all _ et (w.0 ∙ ap₂ (λ q m. in_slices q ns (drop m bs)) here far-is)),
        w.1 ∙ ap₂ (λ q m. unused q ns (drop m bs)) here far-is,
      )
