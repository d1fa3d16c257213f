-- What is made is a frame of its header and words. Assumes nothing.
use mathlib.Core.Path.{◌≡◌, sym, ◌∙◌}
use mathlib.Core.List.{List}
use Prim.Native.Nat.{ℕ}
use Rattle.answer.specs.Order.{answers, Check, in_order, NoneApplies}
use Rattle.answer.proofs.OrderLaws.{order-told}
use Rattle.frame.specs.Frames.{framed}
use Rattle.frame.specs.declared.Frame.{Frame}
use Rattle.frame.specs.declared.Header.{Header}
use Rattle.record_stages.specs.Stages.{refused_made, done_made, says_made}
use Rattle.record_stages.specs.declared.Made.{Made}
use Rattle.record_stages.proofs.StageLaws.{done-apart, done-frame}
use Rattle.promises.proofs.PairBeside.{made_told}

module _ (cs : List Check) (made : Frame) (m : Made) (is : m ≡ in_order cs refused_made (done_made made)) (f : Frame) (e : says_made m ≡ answers f) where
  told : NoneApplies cs × (done_made made ≡ done_made f)
  told = order-told refused_made (done_made made) (done_made f) (λ n. done-apart n f) cs (sym is ∙ made_told m f e)

  -- nothing applied to what was made
  pub made_none : NoneApplies cs
  made_none = told.0

pub framed-by : (cs : List Check) (h : Header) (ws : List ℕ) (m : Made) → m ≡ in_order cs refused_made (done_made (framed h ws))
    → (f : Frame) → says_made m ≡ answers f → (words : List ℕ) × (framed h words ≡ f)
framed-by cs h ws m is f e = (ws, done-frame (told cs (framed h ws) m is f e).1)
