-- `rtcm2_read_null` meets its contract: the record's refusal, or what its frame reads as; N is the frame's, so a byte holds it. Assumes nothing.
use mathlib.Core.Path.{◌≡◌, refl, sym, ap, ◌∙◌}
use mathlib.Core.List.{[]}
use Prim.Native.Nat.{ℕ}
use native.Mathlib.Omega.{arith}
use Rattle.answer.proofs.OrderLaws.{order-told}
use Rattle.frame.specs.declared.Frame.{Frame}
use Rattle.frame.specs.declared.Layout.TheVariants as layout
use Rattle.record_stages.specs.Stages.{read_order}
use Rattle.record_nulls.specs.Nulls.{too_many, read_null, says_null_read}
use Rattle.record_nulls.specs.declared.NullRead.{NullRead}
use Rattle.record_nulls.specs.declared.NullRead.TheVariants.{Null, Refused}
use Rattle.rtcm2.specs.Frames.{frame_said}
use Rattle.rtcm2.specs.Nulls.{null_said}
use Rattle.rtcm2.proofs.RecallLaws.{recall-told, recalled-few, frame-told, frame_refused}
use Rattle.rtcm2.proofs.RowLaws.{counts-refused, counts-as}
use Rattle.rtcm2.proofs.null.rtcm2_read_null.Goals as goal

apart : (m n : ℕ) → Refused m ≡ Null n → ⊥
apart m n e = let z : ◌≡◌ {A = ℕ} 0 1 = cc in omega arith

same : (m n : ℕ) → Null m ≡ Null n → n ≡ m
same m n e = cc

-- N of a null frame is the frame's
words-told : (f : Frame) (n : ℕ) → read_null f ≡ Null n → n ≡ f.n
unfolding read_null
words-told f n e =
    same f.n n
    (order-told Refused (Null f.n) (Null n) (λ m. apart m n) (read_order layout.Null f (too_many f.n) []) e).1

pub overflow_cast-n : goal.overflow_cast-n
overflow_cast-n c =
    let bs = c.args.frame.now in
    omega (
      arith,
      words-told c.recall-recalled.result.frame c.in-Null.words (sym c.read_null.ensures ∙ c.in-Null.is),
      recalled-few bs (recall-told bs c.recall-recalled.result c.recall-recalled.ensures (sym c.in-Record.is)),
    )

pub returns-in-Null : goal.returns-in-Null
returns-in-Null c =
    let read : (x : NullRead) → c.read_null.result ≡ x
    → says_null_read x ≡ null_said (frame_said c.args.frame.now) = λ x e. ap says_null_read (sym e ∙ c.read_null.ensures)
    ∙ ap null_said (frame-told c.args.frame.now c.recall-recalled.result c.recall-recalled.ensures (sym c.in-Record.is)) in
    let a = c.args in
    let said = counts-as a.n.now (read _ c.in-Null.is) (refl, refl) in
    record { value = said.0; n_after = said.1 }

pub returns-in-Refused-read_null : goal.returns-in-Refused-read_null
returns-in-Refused-read_null c =
    let read : (x : NullRead) → c.read_null.result ≡ x
    → says_null_read x ≡ null_said (frame_said c.args.frame.now) = λ x e. ap says_null_read (sym e ∙ c.read_null.ensures)
    ∙ ap null_said (frame-told c.args.frame.now c.recall-recalled.result c.recall-recalled.ensures (sym c.in-Record.is)) in
    let a = c.args in
    let said = counts-refused a.n.now (read _ c.in-Refused-read_null.is) in
    record { value = said.0; n_after = said.1 }

pub returns-in-Refused : goal.returns-in-Refused
returns-in-Refused c =
    let a = c.args in
    let said = counts-refused a.n.now
    (ap null_said (frame_refused a.frame.now c.recall-recalled.result c.recall-recalled.ensures (sym c.in-Refused.is))) in
    record { value = said.0; n_after = said.1 }
