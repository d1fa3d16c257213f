-- `rtcm2_read_general_null` meets its contract: the record's refusal, or what its frame reads as; N is the frame's, so a byte holds it.
-- Assumes nothing.
use mathlib.Core.Path.{◌≡◌, sym, ap, ◌∙◌}
use mathlib.Core.List.{[], ◌∷◌}
use Prim.Native.Nat.{ℕ}
use native.Mathlib.Omega.{arith}
use Rattle.answer.proofs.OrderLaws.{order-told}
use Rattle.frame.specs.Widths.{outside, late}
use Rattle.frame.specs.declared.Frame.{Frame}
use Rattle.record_stages.specs.Stages.{wrong_size}
use Rattle.record_generals.specs.Generals.{other_system}
use Rattle.record_generals.specs.GeneralNulls.{system_in, other_than_null, read_general_null, says_general_null_read}
use Rattle.record_generals.specs.declared.GeneralNullRead.{GeneralNullRead}
use Rattle.record_generals.specs.declared.GeneralNullRead.TheVariants.{Null, Refused}
use Rattle.rtcm2.specs.Frames.{frame_said}
use Rattle.rtcm2.specs.Generals.{general_null_said, words_left, system_left}
use Rattle.rtcm2.proofs.AnswerLaws.{two-left}
use Rattle.rtcm2.proofs.RecallLaws.{recall-told, recalled-few, frame-told, frame_refused}
use Rattle.rtcm2.proofs.general.rtcm2_read_general_null.Goals as goal

apart : (m n s : ℕ) → Refused m ≡ Null n s → ⊥
apart m n s e = let z : ◌≡◌ {A = ℕ} 0 1 = cc in omega arith

same : (m s n t : ℕ) → Null m s ≡ Null n t → n ≡ m
same m s n t e = cc

-- N of a null frame is the frame's
words-told : (f : Frame) (n s : ℕ) → read_general_null f ≡ Null n s → n ≡ f.n
unfolding read_general_null
words-told f n s e =
    same f.n (system_in f) n s
    (order-told Refused (Null f.n (system_in f)) (Null n s) (λ m. apart m n s)
    ((outside f, 5) ∷ (other_than_null f.header.kind, 6) ∷ (late f.header.z, 7) ∷ (wrong_size 1 f.n, 8) ∷ (other_system (system_in f), 23) ∷ []) e).1

pub overflow_cast-n : goal.overflow_cast-n
overflow_cast-n c =
    let bs = c.args.frame.now in
    omega (
      arith,
      words-told c.recall-recalled.result.frame c.in-Null.words c.in-Null.of (sym c.read_general_null.ensures ∙ c.in-Null.is),
      recalled-few bs (recall-told bs c.recall-recalled.result c.recall-recalled.ensures (sym c.in-Record.is)),
    )

pub returns-in-Null : goal.returns-in-Null
returns-in-Null c =
    let read : (x : GeneralNullRead) → c.read_general_null.result ≡ x
    → says_general_null_read x ≡ general_null_said (frame_said c.args.frame.now) = λ x e. ap says_general_null_read (sym e ∙ c.read_general_null.ensures)
    ∙ ap general_null_said
    (frame-told c.args.frame.now c.recall-recalled.result c.recall-recalled.ensures (sym c.in-Record.is)) in
    let a = c.args in
    let said = two-left words_left system_left a.n.now a.system.now (read _ c.in-Null.is) in
    record { value = said.0; n_after = said.1.0; system_after = said.1.1 }

pub returns-in-Refused-read_general_null : goal.returns-in-Refused-read_general_null
returns-in-Refused-read_general_null c =
    let read : (x : GeneralNullRead) → c.read_general_null.result ≡ x
    → says_general_null_read x ≡ general_null_said (frame_said c.args.frame.now) = λ x e. ap says_general_null_read (sym e ∙ c.read_general_null.ensures)
    ∙ ap general_null_said
    (frame-told c.args.frame.now c.recall-recalled.result c.recall-recalled.ensures (sym c.in-Record.is)) in
    let a = c.args in
    let said = two-left words_left system_left a.n.now a.system.now (read _ c.in-Refused-read_general_null.is) in
    record { value = said.0; n_after = said.1.0; system_after = said.1.1 }

pub returns-in-Refused : goal.returns-in-Refused
returns-in-Refused c =
    let a = c.args in
    let said = two-left words_left system_left a.n.now a.system.now
    (ap general_null_said (frame_refused a.frame.now c.recall-recalled.result c.recall-recalled.ensures (sym c.in-Refused.is))) in
    record { value = said.0; n_after = said.1.0; system_after = said.1.1 }
