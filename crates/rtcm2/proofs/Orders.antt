-- What follows an order of refusals matters only where none of them applies. Assumes nothing.
use mathlib.Core.Path.{◌≡◌, sym, ap, ◌∙◌}
use mathlib.Core.Bool.{Bool, false}
use mathlib.Core.Logic.{◌⊎◌, inl, inr}
use mathlib.Core.List.{List, ◌∷◌, ◌++◌}
use Prim.Native.Nat.{ℕ}
use Rattle.answer.specs.Order.{Says, refuses, Check, in_order, NoneApplies, FirstIs}
use Rattle.answer.proofs.OrderLaws.{order-refuses, first_or_none, order-append}

-- what is the same where none applies is the same after the order
pub after-order : {A : Type 0} (cs : List Check) (said said' : Says A) → (NoneApplies cs → said ≡ said')
    → in_order cs refuses said ≡ in_order cs refuses said'
after-order cs said said' same = go (first_or_none cs)
  where
    go : NoneApplies cs ⊎ ((n : ℕ) × FirstIs cs n) → in_order cs refuses said ≡ in_order cs refuses said'
    go (inl none) = ap (in_order cs refuses) (same none)
    go (inr (n, first)) = order-refuses refuses said cs n first ∙ sym (order-refuses refuses said' cs n first)

-- a 5 that can't apply once the checks before it have passed is no part of the order
pub pass-five : {A : Type 0} (cs before : List Check) (five : Bool) (after : List Check) (answer : Says A) → (NoneApplies cs → five ≡ false)
    → in_order cs refuses (in_order (before ++ ((five, 5) ∷ after)) refuses answer) ≡ in_order (cs ++ (before ++ after)) refuses answer
pass-five cs before five after answer never =
    after-order cs (in_order (before ++ ((five, 5) ∷ after)) refuses answer) (in_order (before ++ after) refuses answer)
    (λ none. order-append before ((five, 5) ∷ after) refuses answer
    ∙ ap (λ t. in_order before refuses (in_order ((t, 5) ∷ after) refuses answer)) (never none)
    ∙ sym (order-append before after refuses answer))
    ∙ sym (order-append cs (before ++ after) refuses answer)
