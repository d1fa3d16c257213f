-- The systems of types 41 and 42, the words that their satellites take, and what their numbers mean. Assumes nothing.
use mathlib.Core.Path.{◌≡◌, refl, sym, ap, ◌∙◌}
use mathlib.Core.Bool.{Bool, true, false, true≢false}
use mathlib.Core.List.{List, [], ◌∷◌}
use mathlib.Core.Logic.{◌⊎◌, inl, inr}
use Prim.Native.Nat.{ℕ, ◌*◌, ◌^◌, ◌≤◌}
use native.Mathlib.Omega.{arith}
use lib.Dec.{eqb, ltb}
use lib.IntN.{ℤ, pos, neg_ℤ, nat_abs, ◌*ℤ◌}
use lib.Signed.{mag}
use borrow.Author.Tests.{eqb-true, ltb-true, le-ltb, ne_eqb, not-false}
use Rattle.answer.specs.Order.{Says, refuses, answers, Check, in_order, NoneApplies}
use Rattle.answer.proofs.OrderLaws.{order-answers, order-told, refuses-apart}
use Rattle.frame.specs.Widths.{state_outside}
use Rattle.frame.specs.declared.State.{State}
use Rattle.record_generals.specs.Generals.{other_system, count_generals}
use Rattle.record_generals.specs.GeneralNulls.{read_general_null}
use Rattle.record_laws.proofs.GeneralTrips.{generals-held}
use Rattle.record_laws.proofs.GeneralNullTrips.{general-null-held, general-null-is}
use Rattle.record_values.specs.Values.{exactly, stop}
use Rattle.record_values.specs.Answer.{says_distance}
use Rattle.record_values.specs.GeneralValues.{general_prc_value, outside14, delay_value, general_limits, general_udre_value, seconds_of_use}
use Rattle.record_values.specs.GeneralAnswer.{general_prc_mm, general_udre, says_general_limit}
use Rattle.record_values.proofs.Readings.{lowest-stops, only-lowest-stops, exact-value}
use Rattle.record_values.proofs.GeneralLaws.{general-prc-says, delay-says, general-udre-says}
use Rattle.promises.specs.GeneralsOfRtcm.{GeneralsOfRtcm}
use Rattle.promises.proofs.CarriesItsNumber.{says-inj}
use Rattle.promises.proofs.NumbersOfRtcm.{count-told}
use Rattle.promises.proofs.GeneralsBack.{general-null-told}

-- the four systems, one test after the other
four : (s : ℕ) → other_system s ≡ false → (s ≡ 1) ⊎ ((s ≡ 2) ⊎ ((s ≡ 5) ⊎ (s ≡ 6)))
unfolding other_system
four s e = go (eqb s 1) (eqb s 2) (eqb s 5) (eqb s 6) refl refl refl refl
  where
    go : (a b c d : Bool) → eqb s 1 ≡ a → eqb s 2 ≡ b → eqb s 5 ≡ c → eqb s 6 ≡ d → (s ≡ 1) ⊎ ((s ≡ 2) ⊎ ((s ≡ 5) ⊎ (s ≡ 6)))
    go true b c d p q r t = inl (eqb-true s 1 p)
    go false true c d p q r t = inr (inl (eqb-true s 2 q))
    go false false true d p q r t = inr (inr (inl (eqb-true s 5 r)))
    go false false false true p q r t = inr (inr (inr (eqb-true s 6 t)))
    go false false false false p q r t = absurd (true≢false (sym other ∙ e))
      where
        other : other_system s ≡ true
        other = rw (p, q, r, t)

each-known : (s : ℕ) → (s ≡ 1) ⊎ ((s ≡ 2) ⊎ ((s ≡ 5) ⊎ (s ≡ 6))) → other_system s ≡ false
unfolding other_system
each-known s (inl e) = ap other_system e
each-known s (inr (inl e)) = ap other_system e
each-known s (inr (inr (inl e))) = ap other_system e
each-known s (inr (inr (inr e))) = ap other_system e

-- a value that an order says is the one that was ready, and nothing of the order applies
ready : {A : Type 0} {s : Says A} (cs : List Check) (value v : A) → s ≡ in_order cs refuses (answers value) → s ≡ answers v
    → NoneApplies cs × (value ≡ v)
ready cs value v is e =
    let t = order-told refuses (answers value) (answers v) (λ n. refuses-apart n v) cs (sym is ∙ e) in
    (t.0, says-inj t.1)

prc-is : (z v : ℤ) → says_distance (general_prc_mm z) ≡ answers (exactly v) → (v ≡ z *ℤ pos 20) × (nat_abs v ≤ 8191 * 20)
prc-is z v e =
    let t = ready ((outside14 z, 10) ∷ []) (general_prc_value z) (exactly v) (general-prc-says z) e in
    exact-value 13 20 20 0 z v (ltb-true (mag z) (2 ^ 13) (not-false (ltb (mag z) (2 ^ 13)) t.0.0)) t.1

-- what is said of a code of UDRE that the table has
limit-said : (s : State) (code : ℕ) → state_outside s ≡ false → ltb 15 code ≡ false → says_general_limit (general_udre s code) ≡ answers (general_udre_value s code)
limit-said s code inside few =
    general-udre-says s code ∙ order-answers refuses (answers (general_udre_value s code)) ((state_outside s, 5) ∷ (ltb 15 code, 10) ∷ []) (inside, (few, tt))

pub generals-of-rtcm : GeneralsOfRtcm
unfolding general_udre_value general_limits seconds_of_use
generals-of-rtcm = record {
  systems = λ s. (four s, each-known s);
  n = λ f c e. (generals-held f c (count-told (count_generals f) c e)).n;
  null-n = λ f n s e.
      let r = general-null-told (read_general_null f) n s e in
      ((general-null-is f n s r).0, sym (general-null-is f n s r).0 ∙ (general-null-held f n s r).one);
  prc-stops = general-prc-says (neg_ℤ (pos 8192)) ∙ ap answers (lowest-stops 13 20 20 0);
  prc-only = λ z e. only-lowest-stops 13 20 20 0 z (ready ((outside14 z, 10) ∷ []) (general_prc_value z) stop (general-prc-says z) e).1;
  prc = prc-is;
  delay = λ code l.
      delay-says code ∙ order-answers refuses (answers (delay_value code)) ((ltb 4095 code, 10) ∷ []) (le-ltb 4095 code (omega arith), tt)
      ∙ ap answers (rw (ne_eqb code 4095 (λ q. omega arith)));
  delay-unusable = refl;
  udre = λ s inside.
      rw (
        limit-said s 0 inside refl,
        limit-said s 1 inside refl,
        limit-said s 2 inside refl,
        limit-said s 3 inside refl,
        limit-said s 4 inside refl,
        limit-said s 5 inside refl,
        limit-said s 6 inside refl,
        limit-said s 7 inside refl,
        limit-said s 8 inside refl,
        limit-said s 9 inside refl,
        limit-said s 10 inside refl,
        limit-said s 11 inside refl,
        limit-said s 12 inside refl,
        limit-said s 13 inside refl,
        limit-said s 14 inside refl,
        limit-said s 15 inside refl,
      );
  seconds = refl;
}
