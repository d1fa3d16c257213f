-- What the journal recalled says which frame comes in, or which refusal; a frame that comes in has a health code and a small N. Assumes nothing.
use mathlib.Core.Path.{◌≡◌, refl, sym, ap, subst, ◌∙◌}
use mathlib.Core.Bool.{false}
use mathlib.Core.List.{List}
use Prim.Native.Nat.{ℕ, suc, ◌≤◌}
use native.Mathlib.Omega.{arith}
use lib.ListN.{drop}
use Rattle.answer.specs.Order.{Says, refuses, answers, NoneApplies}
use Rattle.answer.proofs.OrderLaws.{order-answers, says_none, none-parts}
use Rattle.frame.specs.Header.{code_of, header_of}
use Rattle.frame.specs.Widths.{state_outside}
use Rattle.frame.specs.Frames.{framed, frame_of}
use Rattle.frame.specs.Answer.{health_of}
use Rattle.frame.specs.declared.State.{State}
use Rattle.frame.specs.declared.Frame.{Frame}
use Rattle.frame.proofs.StateLaws.{state-inside}
use Rattle.journal.specs.Bytes.{words_from}
use Rattle.journal.specs.Forms.{n_byte, words_after, start_order}
use Rattle.journal.specs.Journal.{data_order, recall_order, refused_recall, recalled, recalled_by, says_found, says_recalled}
use Rattle.journal.specs.declared.Found.TheVariants as found
use Rattle.journal.specs.declared.Recalled.{Recalled}
use Rattle.journal.proofs.WordLaws.{length-words}
use Rattle.journal.proofs.FormLaws.{start-few}
use Rattle.rtcm2.specs.Answer.{and_then}
use Rattle.rtcm2.specs.Frames.{recall_said, frame_said}
use Rattle.std.specs.Prelude.{Ok, Err}
use Rattle.answer.specs.Table.{refused}
use Rattle.answer.specs.declared.Refusal.{Refusal}

-- ---- what was recalled

module _ (bytes : List ℕ) (r : Recalled) (e : r ≡ recalled_by bytes) where
  -- the length and the frame, or the number
  pub recall-told : {n : ℕ} → found.Record n ≡ r.answer → answers (n, r.frame) ≡ recall_said bytes
  recall-told a = ap (λ x. says_found x r.frame) a ∙ ap says_recalled e

  pub recall-refused : {n : ℕ} → found.Refused n ≡ r.answer → refuses n ≡ recall_said bytes
  recall-refused a = ap (λ x. says_found x r.frame) a ∙ ap says_recalled e

  -- the frame alone
  pub frame-told : {n : ℕ} → found.Record n ≡ r.answer → answers r.frame ≡ frame_said bytes
  frame-told a = ap (λ s. and_then s (λ p. answers p.1)) (recall-told a)

  pub frame_refused : {n : ℕ} → found.Refused n ≡ r.answer → refuses n ≡ frame_said bytes
  frame_refused a = ap (λ s. and_then s (λ p. answers p.1)) (recall-refused a)

-- ---- a frame that comes in

state-coded : (ws : List ℕ) → state_outside (frame_of ws).header.state ≡ false
unfolding frame_of framed header_of
state-coded ws = state-inside _

count-words : (n : ℕ) (bs : List ℕ) → (frame_of (words_from 3 (suc (suc n)) bs)).n ≡ n
unfolding frame_of framed words_from
count-words n bs = length-words 3 n (drop 3 (drop 3 bs))

module _ (bs : List ℕ) {size : ℕ} {f : Frame} (h : answers (size, f) ≡ recall_said bs) where
  passed : NoneApplies (recall_order bs)
  passed = says_none says_recalled refused_recall (λ n. refl) (recalled (n_byte bs) (words_after 3 bs)) (recall_order bs) (sym h)

  is : f ≡ frame_of (words_after 3 bs)
  is = ap frame-said (h ∙ ap says_recalled (order-answers refused_recall (recalled (n_byte bs) (words_after 3 bs)) (recall_order bs) passed))
    where
      frame-said : Says (ℕ × Frame) → Frame
      frame-said (answers p) = p.1
      frame-said (refuses n) = f

  pub recalled-coded : state_outside f.header.state ≡ false
  recalled-coded = subst (λ (g : Frame). state_outside g.header.state ≡ false) (sym is) (state-coded (words_after 3 bs))

  pub recalled-few : f.n ≤ 31
  recalled-few =
      let few = start-few 0x32 3 bs (none-parts (start_order 0x32 3 bs) (data_order (n_byte bs) (words_after 3 bs)) passed).0 in
      subst (λ (g : Frame). g.n ≤ 31) (sym is) (omega (arith, few, count-words (n_byte bs) (drop 3 bs)))

-- ---- a state within its widths has its code

module _ (s : State) (e : state_outside s ≡ false) where
  coded : health_of s ≡ Ok (code_of s)
  coded = rw e

  pub health-told : {c : ℕ} → Ok c ≡ health_of s → c ≡ code_of s
  health-told h = cc (coded, h)

  pub health-never : {n : Refusal} → Err n ≡ health_of s → ⊥
  health-never h = let z : ◌≡◌ {A = ℕ} 0 1 = cc (coded, h) in omega arith
