-- DEMAND 1, "Every byte sequence, frame and buffer gets a defined answer", "No call trusts its caller" and "Every call ends": one record for each
-- public function. Its `Asked`, `Learnt` and `statement` are made of its own contract: what a caller must show; what it learns, of the lifetimes, the
-- arguments, the answer and the parameters at exit; and a triple of total correctness. Assumes nothing.
use Rattle.std.specs.Prelude.{◌≡◌}

module _ {K : Type 0} {A Z E : K → Type 0} where
  -- THE ANSWER IS THIS DEFINITION'S, and with it the next state
  abbrev pub Settles : ((κs : K) → A κs → Z κs → E κs → Type 0) → ((κs : K) → A κs → Z κs) → Type 0
  Settles learnt answer = (κs : K) (a : A κs) (z : Z κs) (e : E κs) → learnt κs a z e → z ≡ answer κs a

  -- what the lent places hold at exit is this definition's
  abbrev pub Leaves : {B : Type 0} → ((κs : K) → A κs → Z κs → E κs → Type 0) → ((κs : K) → E κs → B) → ((κs : K) → A κs → B) → Type 0
  Leaves learnt held left = (κs : K) (a : A κs) (z : Z κs) (e : E κs) → learnt κs a z e → held κs e ≡ left κs a

  -- two answers to the same arguments are equal
  abbrev pub OneAnswer : ((κs : K) → A κs → Z κs → E κs → Type 0) → Type 0
  OneAnswer learnt = (κs : K) (a : A κs) (z z' : Z κs) (e e' : E κs) → learnt κs a z e → learnt κs a z' e' → z ≡ z'

  -- and so are the lent places that they leave
  abbrev pub OneBuffer : {B : Type 0} → ((κs : K) → A κs → Z κs → E κs → Type 0) → ((κs : K) → E κs → B) → Type 0
  OneBuffer learnt held = (κs : K) (a : A κs) (z z' : Z κs) (e e' : E κs) → learnt κs a z e → learnt κs a z' e' → held κs e ≡ held κs e'

  -- A CALL: nothing is asked of the arguments; the answer is settled; in every model, from what its parameters own and nothing else, the function's
  -- code returns, with an answer of which its contract holds
  pub record Answered (asked : (κs : K) → A κs → Type 0) (learnt : (κs : K) → A κs → Z κs → E κs → Type 0) (statement : Type 1 → Type 2)
      (answer : (κs : K) → A κs → Z κs) : Type 2 where
    pub asks_nothing : (κs : K) (a : A κs) → asked κs a
    pub settles : Settles learnt answer
    pub ends : {M : Type 1} → statement M

  -- a call that is lent places
  pub record AnsweredLent {B : Type 0} (asked : (κs : K) → A κs → Type 0) (learnt : (κs : K) → A κs → Z κs → E κs → Type 0) (statement : Type 1 → Type 2)
      (answer : (κs : K) → A κs → Z κs) (held : (κs : K) → E κs → B) (left : (κs : K) → A κs → B) : Type 2 where
    pub asks_nothing : (κs : K) (a : A κs) → asked κs a
    pub settles : Settles learnt answer
    pub leaves : Leaves learnt held left
    pub ends : {M : Type 1} → statement M

-- whatever the contract: what settles has one answer
pub record SettledOnce : Type 1 where
  pub answer : {K : Type 0} {A Z E : K → Type 0} (learnt : (κs : K) → A κs → Z κs → E κs → Type 0) (f : (κs : K) → A κs → Z κs) → Settles learnt f
      → OneAnswer learnt
  pub buffer : {K : Type 0} {A Z E : K → Type 0} {B : Type 0} (learnt : (κs : K) → A κs → Z κs → E κs → Type 0)
      (held : (κs : K) → E κs → B) (left : (κs : K) → A κs → B)
      → Leaves learnt held left → OneBuffer learnt held
