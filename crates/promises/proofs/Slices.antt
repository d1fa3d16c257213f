-- Bytes lent in slices of any sizes, what was not used lent again: no bit is refused, and no byte is left at last. Assumes nothing.
use mathlib.Core.Path.{◌≡◌, refl, sym, ap, ◌∙◌}
use mathlib.Core.Bool.{Bool, true, false}
use mathlib.Core.Logic.{◌⊎◌, inl, inr}
use mathlib.Core.List.{List, [], ◌∷◌, ◌++◌, append-nil, append_assoc}
use Prim.Native.Nat.{ℕ, zero, suc, ◌≤◌}
use native.Mathlib.Omega.{arith}
use lib.ListN.{length, take, drop, length-take, length-drop, take-append-drop}
use lib.Seq.{take-append-le}
use Rattle.line.specs.Line.{line_bits}
use Rattle.frame.specs.declared.Frame.{Frame}
use Rattle.stream.proofs.Words.{unlike}
use Rattle.record_fields.specs.Coding.{Each}
use Rattle.reader.specs.Reading.{started, fed_all_by}
use Rattle.reader.specs.declared.Reader.{Reader}
use Rattle.reader.specs.declared.FedAll.{FedAll}
use Rattle.listing.specs.Listing.{fed_on}
use Rattle.listing.proofs.LinesLaws.{fed-used}
use Rattle.promises.specs.Calls.{Call, feeds_all, after, bits_given, reply_to, after_all, bits_taken, outcome, takes_all, in_slices, unused}
use Rattle.promises.specs.Demand3.{feed_each, InSlices}
use Rattle.promises.proofs.Kept.{Kept, kept-started}
use Rattle.promises.proofs.Runs.{all-by, never-past, all-bits, kept-call, kept-calls}
use Rattle.promises.proofs.Serving.{after-append, bits-append, takes-no-bit, takes-ended, none-waits}
use Rattle.promises.proofs.EveryReader.{FedParts, fed-parts}
use Rattle.promises.proofs.Telling.{bits-after}

-- ---- one slice

pub used_le : (r : Reader) (bs : List ℕ) → (fed_all_by r bs).used ≤ length bs
unfolding fed_on
used_le r bs = fed-used (record { reader = r; frames = 0; bytes = 0; passed = 0 }) bs

feed-none : (r : Reader) (bs : List ℕ) → feed_each r (take 0 bs) ≡ r
unfolding feed_each
feed-none r bs = refl

module _ (s : List Bool) (out : List (ℕ × Frame)) (r : Reader) (k : Kept s out r) (e : r.ended ≡ false) (w : r.candidate.waits ≡ false) (n : ℕ)
    (bs : List ℕ) where
  abbrev slice : List Call
  slice = feeds_all (take n bs) ∷ takes_all

  abbrev u : ℕ
  u = (fed_all_by r (take n bs)).used

  parts : FedParts r (take n bs) (fed_all_by r (take n bs))
  parts = fed-parts r (take n bs) k.len

  slice-waits : (after_all r slice).candidate.waits ≡ false
  unfolding after_all
  slice-waits = none-waits _ _ (after r (feeds_all (take n bs))) (kept-call s out r (feeds_all (take n bs)) k)

  slice-goes : (after_all r slice).ended ≡ false
  unfolding after_all after
  slice-goes = takes-ended 16 (fed_all_by r (take n bs)).reader ∙ parts.ended ∙ e

  -- its bits and those of the bytes that are not used are those of the bytes
  slice-bits : bits_taken r slice ++ line_bits (drop u bs) ≡ line_bits bs
  slice-bits =
      ap (λ l. l ++ line_bits (drop u bs))
      (first ∙ append-nil (bits_given (feeds_all (take n bs)) (reply_to r (feeds_all (take n bs)))) ∙ all-bits r (take n bs) ∙ ap line_bits same)
      ∙ sym (bits-after (take u bs) (drop u bs)) ∙ ap line_bits (take-append-drop u bs)
    where
      first : bits_taken r slice ≡ bits_given (feeds_all (take n bs)) (reply_to r (feeds_all (take n bs))) ++ []
      first =
          unfold bits_taken in ap (λ l. bits_given (feeds_all (take n bs)) (reply_to r (feeds_all (take n bs))) ++ l)
          (takes-no-bit 16 (after r (feeds_all (take n bs))))

      same : take u (take n bs) ≡ take u bs
      same = sym (take-append-le u (take n bs) (drop n bs) (used_le r (take n bs))) ∙ ap (take u) (take-append-drop n bs)

  -- a slice that is not empty has a byte used: where none waits, feeding stops only behind one
  slice-some : 1 ≤ n → 1 ≤ length bs → 1 ≤ u
  slice-some some left = go u refl (parts.all (ap (λ (f : FedAll). f.answer) (all-by r false false false (never-past s out r k) e w (take n bs))))
    where
      go : (m : ℕ) → u ≡ m → (u ≡ length (take n bs)) ⊎ ((fed_all_by r (take n bs)).reader.candidate.waits ≡ true) → 1 ≤ m
      go (suc m) em x = omega arith
      go zero em (inl x) = absurd (omega (arith, length-take n bs))
      go zero em (inr x) =
          unlike _ x (ap (λ (t : Reader). t.candidate.waits) (parts.reader ∙ ap (λ m. feed_each r (take m (take n bs))) em ∙ feed-none r (take n bs)) ∙ w)

-- ---- slice after slice

record Sliced (r : Reader) (ns bs : List ℕ) : Type 0 where
  bits : bits_taken r (in_slices r ns bs) ++ line_bits (unused r ns bs) ≡ line_bits bs
  none : (after_all r (in_slices r ns bs)).candidate.waits ≡ false
  all : Each (λ n. 1 ≤ n) ns → length bs ≤ length ns → unused r ns bs ≡ []

empty : (bs : List ℕ) → length bs ≤ 0 → bs ≡ []
empty [] h = refl
empty (b ∷ bs) h = absurd (omega arith)

some_or : (bs : List ℕ) → (length bs ≡ 0) ⊎ (1 ≤ length bs)
some_or [] = inl refl
some_or (b ∷ bs) = inr (omega arith)

sliced : (ns bs : List ℕ) (s : List Bool) (out : List (ℕ × Frame)) (r : Reader) → Kept s out r → r.ended ≡ false → r.candidate.waits ≡ false → Sliced r ns bs
sliced [] bs s out r k e w =
    record { bits = unfold in_slices unused bits_taken in refl; none = unfold in_slices after_all in w; all = λ some h. unfold unused in empty bs h }
sliced (n ∷ ns) bs s out r k e w =
    later (sliced ns (drop (fed_all_by r (take n bs)).used bs) _ _ (after_all r (feeds_all (take n bs) ∷ takes_all))
    (kept-calls (feeds_all (take n bs) ∷ takes_all) s out r k)
    (slice-goes s out r k e w n bs) (slice-waits s out r k e w n bs))
  where
    cs : List Call
    cs = feeds_all (take n bs) ∷ takes_all

    rest : List ℕ
    rest = drop (fed_all_by r (take n bs)).used bs

    later : Sliced (after_all r (feeds_all (take n bs) ∷ takes_all)) ns (drop (fed_all_by r (take n bs)).used bs) → Sliced r (n ∷ ns) bs
    later v = record {
      bits = unfold in_slices unused in
          ap (λ l. l ++ line_bits (unused (after_all r cs) ns rest)) (bits-append cs (in_slices (after_all r cs) ns rest) r)
          ∙ append_assoc (bits_taken r cs) (bits_taken (after_all r cs) (in_slices (after_all r cs) ns rest)) (line_bits (unused (after_all r cs) ns rest))
          ∙ ap (λ l. bits_taken r cs ++ l) v.bits ∙ slice-bits s out r k e w n bs;
      none = unfold in_slices in ap (λ (t : Reader). t.candidate.waits) (after-append cs (in_slices (after_all r cs) ns rest) r) ∙ v.none;
      all = λ some h. unfold unused in v.all some.1 (fewer (some_or bs) some h);
    }
      where
        fewer : (length bs ≡ 0) ⊎ (1 ≤ length bs) → Each (λ m. 1 ≤ m) (n ∷ ns) → length bs ≤ suc (length ns) → length rest ≤ length ns
        fewer (inl z) some h = omega (arith, length-drop (fed_all_by r (take n bs)).used bs)
        fewer (inr z) some h = omega (arith, length-drop (fed_all_by r (take n bs)).used bs, slice-some s out r k e w n bs some.0 z)

pub in-slices : (ns bs : List ℕ) → InSlices ns bs (unused started ns bs) (outcome (in_slices started ns bs))
in-slices ns bs =
    let v = sliced ns bs [] [] started kept-started (unfold started in refl) (unfold started in refl) in record { bits = v.bits; none = v.none; all = v.all }
