-- What all answers have in common: a refusal is a number of the table, and a call refuses with the first number of its order that applies.
-- Assumes nothing.
use Rattle.std.specs.Prelude.{◌≡◌, Bool, true, false, cond, Result, Ok, Err, List, [], ◌∷◌, ◌++◌, ℕ}
use Rattle.answer.specs.declared.Refusal.{Refusal}
use Rattle.answer.specs.Table.{refusal_number}

-- What an answer says in the table's terms: a refusal's number alone, or the values. Each answer type has a definition into this one.
pub data Says (A : Type 0) : Type 0 where
  refuses : ℕ → Says A
  answers : A → Says A

-- what a result says: of its value, `told`
abbrev pub says : {A B : Type 0} → (A → B) → Result A Refusal → Says B
says told (Ok a) = answers (told a)
says told (Err refusal) = refuses (refusal_number refusal)

-- a number of the table, and whether it applies
abbrev pub Check : Type 0
Check = Bool × ℕ

-- ORDER: the checks one after the other; the first that applies refuses with its number, and where none does the call answers
abbrev pub in_order : {A : Type 0} → List Check → (ℕ → A) → A → A
in_order [] refuse answer = answer
in_order (c ∷ cs) refuse answer = cond c.0 (refuse c.1) (in_order cs refuse answer)

-- no check applies
abbrev pub NoneApplies : List Check → Type 0
NoneApplies [] = Unit {0}
NoneApplies (c ∷ cs) = (c.0 ≡ false) × NoneApplies cs

-- the first check that applies has the number n
pub record FirstIs (cs : List Check) (n : ℕ) : Type 0 where
  pub front : List Check
  pub back : List Check
  pub split : cs ≡ front ++ ((true, n) ∷ back)
  pub none : NoneApplies front
