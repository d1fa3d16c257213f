-- The stages, each with the fact that decides it: what a stage answered says which check applies, and so what the order says.
-- Assumes nothing.
use mathlib.Core.Path.{◌≡◌, refl, sym, ap, ◌∙◌, ap₂}
use mathlib.Core.Bool.{Bool, true, false, cond, not, ◌||◌, ◌&&◌}
use mathlib.Core.List.{List, [], ◌∷◌, ◌++◌}
use Prim.Native.Nat.{ℕ}
use native.Mathlib.Omega.{arith}
use lib.Dec.{eqb}
use borrow.Author.Tests.{eq-eqb, ne_eqb}
use Rattle.std.specs.Prelude.{Err, None, Some}
use Rattle.answer.specs.Order.{Check, in_order}
use Rattle.answer.proofs.OrderLaws.{order-map, order-append}
use Rattle.frame.specs.Layout.{layout_of, layout_number}
use Rattle.frame.specs.Widths.{header_outside, outside, late}
use Rattle.frame.specs.Answer.{header_widths, frame_widths, clock_of}
use Rattle.frame.proofs.WidthLaws.{told-outside, told-within, told-late, told-hour}
use Rattle.frame.specs.declared.Header.{Header}
use Rattle.frame.specs.declared.Frame.{Frame}
use Rattle.frame.specs.declared.Layout.{Layout}
use Rattle.record_stages.specs.declared.Asked.{Asked}
use Rattle.record_stages.specs.declared.Asked.TheVariants.{Same, Other}
use Rattle.record_stages.specs.declared.Size.TheVariants.{Right, Wrong}
use Rattle.record_stages.specs.declared.Indexed.TheVariants.{Below, Past}
use Rattle.record_stages.specs.declared.Ranged.TheVariants as ranged
use Rattle.record_stages.specs.declared.checks.Suited.{Suited}
use Rattle.record_stages.specs.declared.checks.Suited.TheVariants as suited
use Rattle.record_stages.specs.declared.Count.TheVariants as count
use Rattle.record_stages.specs.Stages.{other_layout, asked_of, ranged_of, read_order, make_order, refused_made, done_made}
use Rattle.answer.specs.Table.{refused, granted}
use Rattle.answer.specs.declared.Refusal.{Refusal}

-- ---- what a stage's answer says of its check

-- of a stage that grants, or refuses with number n
pub told-refused : {e : Refusal} (n : ℕ) (b : Bool) → Err e ≡ cond b (refused n) granted → b ≡ true
told-refused n true is = refl
told-refused n false is = let q : ◌≡◌ {A = ℕ} 0 1 = cc in absurd (omega arith)

pub told-granted : (n : ℕ) (b : Bool) → granted ≡ cond b (refused n) granted → b ≡ false
told-granted n true is = let q : ◌≡◌ {A = ℕ} 0 1 = cc in absurd (omega arith)
told-granted n false is = refl

pub told-other : (b : Bool) → Other ≡ cond b Other Same → b ≡ true
told-other true e = refl
told-other false e = let q : ◌≡◌ {A = ℕ} 0 1 = cc in absurd (omega arith)

pub told_same : (b : Bool) → Same ≡ cond b Other Same → b ≡ false
told_same true e = let q : ◌≡◌ {A = ℕ} 0 1 = cc in absurd (omega arith)
told_same false e = refl

pub told-misfit : (b : Bool) (m : ℕ) → None ≡ cond b None (Some m) → b ≡ true
told-misfit true m e = refl
told-misfit false m e = let q : ◌≡◌ {A = ℕ} 0 1 = cc in absurd (omega arith)

pub told_entries : (b : Bool) (m c : ℕ) → Some c ≡ cond b None (Some m) → (b ≡ false) × (c ≡ m)
told_entries true m c e = let q : ◌≡◌ {A = ℕ} 0 1 = cc in absurd (omega arith)
told_entries false m c e = (refl, cc)

pub told-wrong : (b : Bool) → Wrong ≡ cond b Wrong Right → b ≡ true
told-wrong true e = refl
told-wrong false e = let q : ◌≡◌ {A = ℕ} 0 1 = cc in absurd (omega arith)

pub told-right : (b : Bool) → Right ≡ cond b Wrong Right → b ≡ false
told-right true e = let q : ◌≡◌ {A = ℕ} 0 1 = cc in absurd (omega arith)
told-right false e = refl

pub told-past : (b : Bool) → Past ≡ cond b Past Below → b ≡ true
told-past true e = refl
told-past false e = let q : ◌≡◌ {A = ℕ} 0 1 = cc in absurd (omega arith)

pub told_below : (b : Bool) → Below ≡ cond b Past Below → b ≡ false
told_below true e = let q : ◌≡◌ {A = ℕ} 0 1 = cc in absurd (omega arith)
told_below false e = refl

pub told-out : (b : Bool) → ranged.Outside ≡ ranged_of b → b ≡ true
told-out true e = refl
told-out false e = let q : ◌≡◌ {A = ℕ} 0 1 = cc in absurd (omega arith)

pub told_in : (b : Bool) → ranged.Inside ≡ ranged_of b → b ≡ false
told_in true e = let q : ◌≡◌ {A = ℕ} 0 1 = cc in absurd (omega arith)
told_in false e = refl

-- ---- the layout asked for

-- by the numbers of the layout that is found and of the one that is asked for
abbrev by_numbers : ℕ → ℕ → Asked
by_numbers f a = cond (not (eqb f a || (eqb f 6 && (eqb a 0 || eqb a 3)))) Other Same

pub asked_by : (l : Layout) (kind f a : ℕ) (r : Asked) → f ≡ layout_number (layout_of kind) → a ≡ layout_number l → r ≡ by_numbers f a → r ≡ asked_of l kind
unfolding other_layout
asked_by l kind f a r ef ea e = e ∙ ap₂ by_numbers ef ea

module _ (f a : ℕ) where
  pub one-layout : f ≡ a → Same ≡ by_numbers f a
  one-layout e = rw (eq-eqb f a e)

  module _ (ne : f ≡ a → ⊥) where
    pub one-other : (f ≡ 6 → ⊥) → Other ≡ by_numbers f a
    one-other n = rw (ne_eqb f a ne, ne_eqb f 6 n)

    pub either : f ≡ 6 → (b : Bool) → eqb a 0 || eqb a 3 ≡ b → cond (not b) Other Same ≡ by_numbers f a
    either e b s = rw (ne_eqb f a ne, eq-eqb f 6 e, s)

-- ---- reading: 5, 6, 7, 8

module _ {A : Type 0} (l : Layout) (f : Frame) (wrong_n : Bool) (more : List Check) (refuse : ℕ → A) (answer : A) where
  abbrev pub reading : A
  reading = in_order (read_order l f wrong_n more) refuse answer

  pub read5 : {e : Refusal} → Err e ≡ frame_widths f → refuse 5 ≡ reading
  read5 w = rw (told-outside (outside f) w)

  module _ (w : granted ≡ frame_widths f) where
    pub read6 : Other ≡ asked_of l f.header.kind → refuse 6 ≡ reading
    read6 a = rw (told-within (outside f) w, told-other (other_layout l f.header.kind) a)

    module _ (a : Same ≡ asked_of l f.header.kind) where
      pub read7 : {e : Refusal} → Err e ≡ clock_of f.header.z → refuse 7 ≡ reading
      read7 z = rw (told-within (outside f) w, told_same (other_layout l f.header.kind) a, told-late (late f.header.z) z)

      module _ (z : granted ≡ clock_of f.header.z) where
        past7 : in_order ((wrong_n, 8) ∷ more) refuse answer ≡ reading
        past7 = rw (told-within (outside f) w, told_same (other_layout l f.header.kind) a, told-hour (late f.header.z) z)

        pub read8 : wrong_n ≡ true → refuse 8 ≡ reading
        read8 e = ap (λ b. cond b (refuse 8) (in_order more refuse answer)) (sym e) ∙ past7

        pub read-on : wrong_n ≡ false → in_order more refuse answer ≡ reading
        read-on e = ap (λ b. cond b (refuse 8) (in_order more refuse answer)) (sym e) ∙ past7

-- ---- making: 5, 6, 7

module _ {A : Type 0} (l : Layout) (h : Header) (more : List Check) (refuse : ℕ → A) (answer : A) where
  abbrev pub makes : A
  makes = in_order (make_order l h more) refuse answer

  pub make5 : {e : Refusal} → Err e ≡ header_widths h → refuse 5 ≡ makes
  make5 w = rw (told-outside (header_outside h) w)

  module _ (w : granted ≡ header_widths h) where
    pub make6 : Other ≡ asked_of l h.kind → refuse 6 ≡ makes
    make6 a = rw (told-within (header_outside h) w, told-other (other_layout l h.kind) a)

    module _ (a : Same ≡ asked_of l h.kind) where
      pub make7 : {e : Refusal} → Err e ≡ clock_of h.z → refuse 7 ≡ makes
      make7 z = rw (told-within (header_outside h) w, told_same (other_layout l h.kind) a, told-late (late h.z) z)

      pub make-on : granted ≡ clock_of h.z → in_order more refuse answer ≡ makes
      make-on z = rw (told-within (header_outside h) w, told_same (other_layout l h.kind) a, told-hour (late h.z) z)

-- ---- a stage that answers with its number, and what comes after it

abbrev on_suited : {A : Type 0} → (ℕ → A) → A → Suited → A
on_suited refuse done suited.Yes = done
on_suited refuse done (suited.Refused n) = refuse n

module _ {A : Type 0} (cs more : List Check) (refuse : ℕ → A) (answer : A) (s : Suited) (is : s ≡ in_order cs suited.Refused suited.Yes) where
  after-suited : in_order (cs ++ more) refuse answer ≡ on_suited refuse (in_order more refuse answer) s
  after-suited =
      order-append cs more refuse answer ∙ sym (order-map (on_suited refuse (in_order more refuse answer)) cs suited.Refused suited.Yes)
      ∙ ap (on_suited refuse (in_order more refuse answer)) (sym is)

  pub unsuited : (n : ℕ) → s ≡ suited.Refused n → refuse n ≡ in_order (cs ++ more) refuse answer
  unsuited n e = sym (after-suited ∙ ap (on_suited refuse (in_order more refuse answer)) e)

  pub suited-on : s ≡ suited.Yes → in_order more refuse answer ≡ in_order (cs ++ more) refuse answer
  suited-on e = sym (after-suited ∙ ap (on_suited refuse (in_order more refuse answer)) e)

-- ---- one last check

module _ {A : Type 0} (refuse : ℕ → A) (answer : A) (wrong : Bool) (number : ℕ) where
  pub last-wrong : wrong ≡ true → refuse number ≡ in_order ((wrong, number) ∷ []) refuse answer
  last-wrong e = rw e

  pub last-fine : wrong ≡ false → answer ≡ in_order ((wrong, number) ∷ []) refuse answer
  last-fine e = rw e

-- ---- an answer that no refusal is

pub done-apart : (n : ℕ) (f : Frame) → refused_made n ≡ done_made f → ⊥
unfolding refused_made done_made
done-apart n f e = let z : ◌≡◌ {A = ℕ} 0 1 = cc (ap (λ m. m.answer) e) in omega arith

pub done-frame : {f g : Frame} → done_made f ≡ done_made g → f ≡ g
unfolding done_made
done-frame e = ap (λ m. m.frame) e

pub of-apart : (n c : ℕ) → count.Refused n ≡ count.Of c → ⊥
of-apart n c e = let z : ◌≡◌ {A = ℕ} 0 1 = cc in omega arith

pub of-inj : (a b : ℕ) → count.Of a ≡ count.Of b → a ≡ b
of-inj a b e = cc
