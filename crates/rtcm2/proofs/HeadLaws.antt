-- What was said of the five numbers says what is said of the frame that is made from them. Assumes nothing.
use mathlib.Core.Path.{◌≡◌, ap}
use Prim.Native.Nat.{ℕ}
use Rattle.answer.specs.Order.{Says, refuses}
use Rattle.frame.specs.declared.Header.{Header}
use Rattle.frame.specs.declared.Frame.{Frame}
use Rattle.rtcm2.specs.Answer.{and_then}
use Rattle.rtcm2.specs.Header.{headed_by, says_headed, headed}
use Rattle.rtcm2.specs.declared.header.Headed.TheVariants as of

module _ (kind station z sequence health : ℕ) (next : Header → Says Frame) where
  pub head-told : {h : Header} → of.Header h ≡ headed_by kind station z sequence health → next h ≡ and_then (headed kind station z sequence health) next
  head-told e = ap (λ x. and_then (says_headed x) next) e

  pub head-refused : {n : ℕ} → of.Refused n ≡ headed_by kind station z sequence health → refuses n ≡ and_then (headed kind station z sequence health) next
  head-refused e = ap (λ x. and_then (says_headed x) next) e
