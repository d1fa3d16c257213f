-- The stages before a list, 5, 6, 7, 8 and 23: what is refused there, and what holds where they are passed. Assumes nothing.
use mathlib.Core.Path.{◌≡◌, sym, ap, ◌∙◌}
use mathlib.Core.Bool.{Bool, true, false, ◌&&◌}
use mathlib.Core.List.{List, [], ◌∷◌}
use Prim.Native.Nat.{ℕ, ◌+◌, ◌*◌, ◌≤◌}
use native.Mathlib.Omega.{arith}
use lib.Dec.{eqb}
use borrow.Author.Tests.{eqb-false}
use Rattle.answer.specs.Order.{Check, in_order, NoneApplies}
use Rattle.answer.proofs.OrderLaws.{order-map, order-append, order-answers, order-told}
use Rattle.frame.specs.Widths.{outside, late}
use Rattle.frame.specs.declared.Frame.{Frame}
use Rattle.frame.specs.declared.Layout.TheVariants as layout
use Rattle.frame.proofs.WidthLaws.{both_false}
use Rattle.record_stages.specs.declared.Count.{Count}
use Rattle.record_stages.specs.declared.Count.TheVariants as count
use Rattle.record_stages.specs.Stages.{misfit_after, other_layout, read_order}
use Rattle.record_stages.proofs.StageLaws.{of-apart}
use Rattle.record_generals.specs.declared.Staged.{Staged}
use Rattle.record_generals.specs.declared.Staged.TheVariants as staged
use Rattle.record_generals.specs.Generals.{other_system, head_in, delay_in, too_short, staged_by, list_order}

-- a list has a word, and the head lies in it
pub head-there : (kind n : ℕ) → too_short kind n ≡ false → 13 ≤ 24 * n
head-there kind n e = let z : n ≡ 0 → ⊥ = eqb-false n 0 (both_false (eqb n 0) (eqb kind 41 && eqb n 1) e).0 in omega arith

-- ---- one check: it applies and refuses, or it is passed

module _ {A : Type 0} (refuse : ℕ → A) (answer : A) (b : Bool) (n : ℕ) (cs : List Check) where
  pub refused-here : b ≡ true → refuse n ≡ in_order ((b, n) ∷ cs) refuse answer
  refused-here e = rw e

  pub passed_here : b ≡ false → in_order cs refuse answer ≡ in_order ((b, n) ∷ cs) refuse answer
  passed_here e = rw e

-- ---- the stages of a list

abbrev on_staged : {B : Type 0} → (ℕ → B) → B → Staged → B
on_staged refuse answer (staged.List d) = answer
on_staged refuse answer (staged.Refused n) = refuse n

module _ (f : Frame) (s : Staged) (is : s ≡ staged_by f) where
  abbrev first : List Check
  first = read_order layout.General f (too_short f.header.kind f.n) ((other_system (head_in f).system, 23) ∷ [])

  abbrev second : List Check → List Check
  second more = (misfit_after 13 (32 + delay_in f) f.n, 8) ∷ more

  pub staged-refused : {B : Type 0} (more : List Check) (refuse : ℕ → B) (answer : B) (n : ℕ) → s ≡ staged.Refused n
      → refuse n ≡ in_order (list_order f more) refuse answer
  staged-refused more refuse answer n e =
      let on = on_staged refuse (in_order (second more) refuse answer) in
      sym (order-append first (second more) refuse answer ∙ sym (order-map on first staged.Refused (staged.List (delay_in f))) ∙ ap on (sym is ∙ e))

  module _ (d : ℕ) (e : s ≡ staged.List d) where
    told : NoneApplies first × (staged.List (delay_in f) ≡ staged.List d)
    told = order-told staged.Refused (staged.List (delay_in f)) (staged.List d) apart first (sym is ∙ e)
      where
        apart : (n : ℕ) → staged.Refused n ≡ staged.List d → ⊥
        apart n q = let z : ◌≡◌ {A = ℕ} 0 1 = cc in omega arith

    pub staged-delay : delay_in f ≡ d
    staged-delay = let q = told.1 in cc

    -- past them, the order of every list with a head
    pub staged-on : {B : Type 0} (more : List Check) (refuse : ℕ → B) (answer : B)
        → in_order (read_order layout.General f (misfit_after 13 (32 + delay_in f) f.n) more) refuse answer ≡ in_order (list_order f more) refuse answer
    staged-on more refuse answer =
        order-append seven (second more) refuse answer ∙ order-answers refuse (in_order (second more) refuse answer) seven passed
        ∙ sym (order-append first (second more) refuse answer ∙ order-answers refuse (in_order (second more) refuse answer) first told.0)
      where
        seven : List Check
        seven = (outside f, 5) ∷ (other_layout layout.General f.header.kind, 6) ∷ (late f.header.z, 7) ∷ []

        passed : NoneApplies seven
        passed = (told.0.0, (told.0.1.0, (told.0.1.1.0, tt)))

-- ---- a count that is answered by an order, and what else has that order

abbrev on_count : {B : Type 0} → (ℕ → B) → B → Count → B
on_count refuse answer (count.Of c) = answer
on_count refuse answer (count.Refused n) = refuse n

module _ (cs : List Check) (m : ℕ) (s : Count) (is : s ≡ in_order cs count.Refused (count.Of m)) where
  pub count-refused : {B : Type 0} (refuse : ℕ → B) (answer : B) (n : ℕ) → s ≡ count.Refused n → refuse n ≡ in_order cs refuse answer
  count-refused refuse answer n e = sym (sym (order-map (on_count refuse answer) cs count.Refused (count.Of m)) ∙ ap (on_count refuse answer) (sym is ∙ e))

  pub count-passed : (c : ℕ) → s ≡ count.Of c → NoneApplies cs
  count-passed c e = (order-told count.Refused (count.Of m) (count.Of c) (λ n. of-apart n c) cs (sym is ∙ e)).0
