-- What the calls' code computes against what the definitions say of it, over plain values. Assumes nothing.
use Rattle.std.proofs.Common.{◌≡◌, ℕ, ◌+◌, ◌%◌, ◌^◌, Bool, true, false, List, [], ◌∷◌, sym, refl, ap, ◌∙◌, ap₂, arith}
use Rattle.answer.specs.Order.{in_order}
use Rattle.answer.proofs.OrderLaws.{order-map}
use Rattle.reader.specs.Reading.{past, busy, run_to, ran_by, fed_all_by}
use Rattle.reader.specs.declared.Reader.{Reader}
use Rattle.reader.specs.declared.FedAll.{FedAll}
use Rattle.reader.specs.declared.Answer.{Answer}
use Rattle.reader.specs.declared.Answer.TheVariants.{Done, Refused}
use Rattle.listing.specs.Listing.{fed_on, ready_by}
use Rattle.listing.specs.declared.Listing.{Listing}
use Rattle.listing.specs.declared.Fed.{Fed}

-- ---- bytes fed

abbrev counted : Listing → FedAll → ℕ → ℕ → Fed
counted l f bytes passed = record { used = f.used; listing = record { reader = f.reader; frames = l.frames; bytes = bytes; passed = passed } }

pub fed-on-is : (l : Listing) (bs : List ℕ) (f : FedAll) → f ≡ fed_all_by l.reader bs
    → (bytes passed : ℕ) → bytes ≡ (l.bytes + f.used) % 2 ^ 64 → passed ≡ (l.passed + f.passed) % 2 ^ 64 → counted l f bytes passed ≡ fed_on l bs
unfolding fed_on
fed-on-is l bs f e bytes passed b p =
    ap₂ (counted l f) b p ∙ ap (λ (g : FedAll). counted l g ((l.bytes + g.used) % 2 ^ 64) ((l.passed + g.passed) % 2 ^ 64)) e

-- ---- whether a reader takes bytes: 5, 3

fed-answer : (r : Reader) (bs : List ℕ) → (fed_all_by r bs).answer ≡ in_order (busy r) Refused Done
unfolding fed_all_by
fed-answer r bs =
    order-map (λ (f : FedAll). f.answer) (busy r) (λ n. record { answer = Refused n; used = 0; passed = 0; reader = r })
    (ran_by r (run_to r.cells r.candidate bs))

module _ (r : Reader) (a : Answer) (is : a ≡ (fed_all_by r []).answer) where
  pub ready_refused : (n : ℕ) → a ≡ Refused n → (n ≡ 2 → ⊥) → Refused n ≡ ready_by r
  ready_refused n e other = go (past r) r.ended r.candidate.waits (sym (is ∙ fed-answer r []) ∙ e)
    where
      go : (p x w : Bool) → in_order ((p, 5) ∷ (x, 3) ∷ (w, 2) ∷ []) Refused Done ≡ Refused n → Refused n ≡ in_order ((p, 5) ∷ (x, 3) ∷ []) Refused Done
      go true x w f = sym f
      go false true w f = sym f
      go false false true f = absurd (other cc)
      go false false false f = absurd (let z : ◌≡◌ {A = ℕ} 0 1 = cc in omega arith)

  pub ready-waits : (n : ℕ) → a ≡ Refused n → n ≡ 2 → Done ≡ ready_by r
  ready-waits n e two = go (past r) r.ended r.candidate.waits (sym (is ∙ fed-answer r []) ∙ e ∙ ap Refused two)
    where
      go : (p x w : Bool) → in_order ((p, 5) ∷ (x, 3) ∷ (w, 2) ∷ []) Refused Done ≡ Refused 2 → Done ≡ in_order ((p, 5) ∷ (x, 3) ∷ []) Refused Done
      go true x w f = absurd (let z : ◌≡◌ {A = ℕ} 5 2 = cc in omega arith)
      go false true w f = absurd (let z : ◌≡◌ {A = ℕ} 3 2 = cc in omega arith)
      go false false w f = refl

  pub ready-done : a ≡ Done → Done ≡ ready_by r
  ready-done e = go (past r) r.ended r.candidate.waits (sym (is ∙ fed-answer r []) ∙ e)
    where
      go : (p x w : Bool) → in_order ((p, 5) ∷ (x, 3) ∷ (w, 2) ∷ []) Refused Done ≡ Done → Done ≡ in_order ((p, 5) ∷ (x, 3) ∷ []) Refused Done
      go true x w f = absurd (let z : ◌≡◌ {A = ℕ} 0 1 = cc in omega arith)
      go false true w f = absurd (let z : ◌≡◌ {A = ℕ} 0 1 = cc in omega arith)
      go false false w f = refl
