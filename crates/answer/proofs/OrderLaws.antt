-- An order refuses exactly when one of its checks applies, and with the first that does: the two cases below are all there are.
-- Assumes nothing.
use mathlib.Core.Path.{◌≡◌, refl, sym, ap, ◌∙◌}
use mathlib.Core.Bool.{Bool, true, false, cond}
use mathlib.Core.Logic.{◌⊎◌, inl, inr}
use mathlib.Core.List.{List, [], ◌∷◌, ◌++◌}
use Prim.Native.Nat.{ℕ, suc, ◌<◌}
use native.Mathlib.Omega.{arith}
use lib.ListN.{length, take, drop, get_or}
use lib.Seq.{split_at}
use Rattle.answer.specs.Order.{Says, refuses, answers, Check, in_order, NoneApplies, FirstIs}

module _ {A : Type 0} (refuse : ℕ → A) (answer : A) where
  pub order-answers : (cs : List Check) → NoneApplies cs → in_order cs refuse answer ≡ answer
  order-answers [] h = refl
  order-answers (c ∷ cs) h = rw h.0 (order-answers cs h.1)

  passed : (front back : List Check) → NoneApplies front → in_order (front ++ back) refuse answer ≡ in_order back refuse answer
  passed [] back h = refl
  passed (c ∷ front) back h = rw h.0 (passed front back h.1)

  pub order-refuses : (cs : List Check) (n : ℕ) → FirstIs cs n → in_order cs refuse answer ≡ refuse n
  order-refuses cs n f = rw f.split (passed f.front ((true, n) ∷ f.back) f.none)

-- one of the two always holds
pub first_or_none : (cs : List Check) → NoneApplies cs ⊎ ((n : ℕ) × FirstIs cs n)
first_or_none [] = inl tt
first_or_none (c ∷ cs) = go c (first_or_none cs)
  where
    go : (d : Check) → NoneApplies cs ⊎ ((n : ℕ) × FirstIs cs n) → NoneApplies (d ∷ cs) ⊎ ((n : ℕ) × FirstIs (d ∷ cs) n)
    go (true, n) later = inr (n, record { front = []; back = cs; split = refl; none = tt })
    go (false, n) (inl h) = inl (refl, h)
    go (false, n) (inr (m, f)) = inr (m, record { front = (false, n) ∷ f.front; back = f.back; split = rw f.split; none = (refl, f.none) })

-- one order after another
pub order-append : {A : Type 0} (cs ds : List Check) (refuse : ℕ → A) (answer : A)
    → in_order (cs ++ ds) refuse answer ≡ in_order cs refuse (in_order ds refuse answer)
order-append [] ds refuse answer = refl
order-append (c ∷ cs) ds refuse answer = ap (cond c.0 (refuse c.1)) (order-append cs ds refuse answer)

-- what is made of an answer
pub order-map : {A B : Type 0} (f : A → B) (cs : List Check) (refuse : ℕ → A) (answer : A)
    → f (in_order cs refuse answer) ≡ in_order cs (λ n. f (refuse n)) (f answer)
order-map f [] refuse answer = refl
order-map f (c ∷ cs) refuse answer = go c.0 (order-map f cs refuse answer)
  where
    go : (t : Bool) → f (in_order cs refuse answer) ≡ in_order cs (λ n. f (refuse n)) (f answer)
        → f (cond t (refuse c.1) (in_order cs refuse answer)) ≡ cond t (f (refuse c.1)) (in_order cs (λ n. f (refuse n)) (f answer))
    go true h = refl
    go false h = h

-- no check before number i applies, and check i does
pub first-at : (cs : List Check) (i : ℕ) → i < length cs → NoneApplies (take i cs) → (get_or cs i (false, 0)).0 ≡ true → FirstIs cs (get_or cs i (false, 0)).1
first-at cs i inside none e = record {
  front = take i cs;
  back = drop (suc i) cs;
  split = split_at cs i (false, 0) inside ∙ ap (λ t. take i cs ++ ((t, (get_or cs i (false, 0)).1) ∷ drop (suc i) cs)) e;
  none = none;
}

-- ---- the checks of two orders

pub none-append : (cs ds : List Check) → NoneApplies cs → NoneApplies ds → NoneApplies (cs ++ ds)
none-append [] ds h k = k
none-append (c ∷ cs) ds h k = (h.0, none-append cs ds h.1 k)

pub none-parts : (cs ds : List Check) → NoneApplies (cs ++ ds) → NoneApplies cs × NoneApplies ds
none-parts [] ds h = (tt, h)
none-parts (c ∷ cs) ds h = let r = none-parts cs ds h.1 in ((h.0, r.0), r.1)

-- ---- back from what an order says

-- where that is no refusal, none of its checks applies, and it is the answer that was ready
pub order-told : {A : Type 0} (refuse : ℕ → A) (answer said : A) → ((n : ℕ) → refuse n ≡ said → ⊥) → (cs : List Check)
    → in_order cs refuse answer ≡ said → NoneApplies cs × (answer ≡ said)
order-told refuse answer said apart cs e = go (first_or_none cs)
  where
    go : NoneApplies cs ⊎ ((n : ℕ) × FirstIs cs n) → NoneApplies cs × (answer ≡ said)
    go (inl none) = (none, sym (order-answers refuse answer cs none) ∙ e)
    go (inr (n, first)) = absurd (apart n (sym (order-refuses refuse answer cs n first) ∙ e))

-- ---- in the table's terms

pub refuses-apart : {B : Type 0} (n : ℕ) (b : B) → refuses n ≡ answers b → ⊥
refuses-apart n b e = let z : ◌≡◌ {A = ℕ} 0 1 = cc in omega arith

module _ {A B : Type 0} (says : A → Says B) (refuse : ℕ → A) (refusal : (n : ℕ) → says (refuse n) ≡ refuses n) (answer : A) (cs : List Check) where
  -- an order says its first number, or the value of its answer
  pub says-order : {value : B} → says answer ≡ answers value → says (in_order cs refuse answer) ≡ in_order cs refuses (answers value)
  says-order {value} e = order-map says cs refuse answer ∙ alike cs
    where
      alike : (ds : List Check) → in_order ds (λ n. says (refuse n)) (says answer) ≡ in_order ds refuses (answers value)
      alike [] = e
      alike (d ∷ ds) = rw (refusal d.1, alike ds)

  -- where it says a value, no check applies
  pub says_none : {value : B} → says (in_order cs refuse answer) ≡ answers value → NoneApplies cs
  says_none {value} e =
      (order-told (λ n. says (refuse n)) (says answer) (answers value) (λ n q. refuses-apart n value (sym (refusal n) ∙ q)) cs
      (sym (order-map says cs refuse answer) ∙ e)).0
