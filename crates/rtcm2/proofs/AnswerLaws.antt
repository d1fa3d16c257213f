-- What is said in another way answers the same, and leaves a lent place the same. Assumes nothing.
use mathlib.Core.Path.{◌≡◌, ap}
use Rattle.answer.specs.Order.{Says}
use Rattle.rtcm2.specs.Answer.{number_of, left}

module _ {A : Type 0} {said said' : Says A} where
  pub number-as : said ≡ said' → number_of said ≡ number_of said'
  number-as e = ap number_of e

  pub left_as : {B : Type 0} (put : A → B) (held : B) → said ≡ said' → left said put held ≡ left said' put held
  left_as put held e = ap (λ s. left s put held) e

  -- an answer and two places
  pub two-left : {B C : Type 0} (put : A → B) (put' : A → C) (held : B) (held' : C) → said ≡ said'
      → (number_of said ≡ number_of said') × ((left said put held ≡ left said' put held) × (left said put' held' ≡ left said' put' held'))
  two-left put put' held held' e = (number-as e, (left_as put held e, left_as put' held' e))
