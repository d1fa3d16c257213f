-- What a call that writes a frame leaves: its answer and all that is lent follow from which frame there was. Assumes nothing.
use mathlib.Core.Path.{◌≡◌, refl, ap, subst}
use mathlib.Core.List.{List}
use Prim.Native.Nat.{ℕ}
use Rattle.answer.specs.Order.{Says, refuses, answers}
use Rattle.frame.specs.declared.Frame.{Frame}
use Rattle.writer.specs.Answer.{written_by, written_to, says_written}
use Rattle.writer.specs.declared.Written.{Written}
use Rattle.rtcm2.specs.Answer.{number_of, left}
use Rattle.rtcm2.specs.Send.{pair_of, write_said, line_lent, d29_after, d30_after, count_after}
use Rattle.rtcm2.proofs.AnswerLaws.{number-as, left_as}

-- the answer, the two bits, the line and the length that are left
abbrev pub Sends : ℕ → ℕ → List ℕ → ℕ → ℕ → ℕ → ℕ → List ℕ → ℕ → Says Frame → Type 0
Sends d29 d30 line size answer a b held length said =
    (answer ≡ number_of (write_said said d29 d30 line))
    × ((a ≡ d29_after said d29 d30 line)
    × ((b ≡ d30_after said d29 d30 line) × ((held ≡ line_lent said d29 d30 line) × (length ≡ count_after said d29 d30 line size))))

module _ (d29 d30 : ℕ) (line : List ℕ) (size : ℕ) where
  -- what the writer answered of a frame
  pub sends-told : (f : Frame) {w : Written} {held : List ℕ} → w ≡ written_by f (pair_of d29 d30) line → held ≡ written_to f (pair_of d29 d30) line
      → Sends d29 d30 line size (number_of (says_written w)) (left (says_written w) (λ a. a.1.d29) d29) (left (says_written w) (λ a. a.1.d30) d30) held
      (left (says_written w) (λ a. a.0) size) (answers f)
  sends-told f e h =
      let s = ap says_written e in
      (number-as s, (left_as (λ a. a.1.d29) d29 s, (left_as (λ a. a.1.d30) d30 s, (h, left_as (λ a. a.0) size s))))

  -- a refusal leaves all as it was
  pub sends-refused : {number : ℕ} {said : Says Frame} → refuses number ≡ said → Sends d29 d30 line size number d29 d30 line size said
  sends-refused {number} e = subst (Sends d29 d30 line size number d29 d30 line size) e (refl, (refl, (refl, (refl, refl))))

  -- what is said in another way is written the same
  pub sends-as : {answer a b : ℕ} {held : List ℕ} {length : ℕ} {said said' : Says Frame} → said ≡ said'
      → Sends d29 d30 line size answer a b held length said → Sends d29 d30 line size answer a b held length said'
  sends-as {answer} {a} {b} {held} {length} e s = subst (Sends d29 d30 line size answer a b held length) e s
