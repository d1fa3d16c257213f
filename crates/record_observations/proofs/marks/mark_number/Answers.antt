-- `mark_number` meets its contract: a mark is its edition's and its type's own, or it is not. Assumes nothing.
use mathlib.Core.Path.{◌≡◌, refl, sym, ap, ◌∙◌}
use borrow.Author.Rules.{rules}
use Rattle.record_observations.specs.declared.Edition.{Edition}
use Rattle.record_observations.specs.declared.Edition.TheVariants.{Gost, Bd}
use Rattle.record_observations.specs.declared.Quantity.{Quantity}
use Rattle.record_observations.specs.declared.Quantity.TheVariants as quantity
use Rattle.record_observations.specs.declared.Mark.{Mark}
use Rattle.record_observations.specs.declared.Mark.TheVariants.{Half, Reserved, More}
use Rattle.record_observations.specs.Editions.{mark_of, mark_bit, mark_number, which_mark, which_of}
use Rattle.record_observations.proofs.marks.mark_number.Goals as goal

own : (e : Edition) (q : Quantity) (m : Mark) → m ≡ mark_of e q (mark_bit m) → mark_bit m ≡ mark_number e q m
unfolding mark_of mark_bit mark_number which_mark which_of
own Gost quantity.Phase (Half b) h = refl
own Gost quantity.Phase (Reserved b) h = cc
own Gost quantity.Phase (More b) h = cc
own Gost quantity.Range (Half b) h = cc
own Gost quantity.Range (Reserved b) h = refl
own Gost quantity.Range (More b) h = cc
own Bd q (Half b) h = cc
own Bd q (Reserved b) h = cc
own Bd q (More b) h = refl

another : (e : Edition) (q : Quantity) (m : Mark) → (m ≡ mark_of e q (mark_bit m) → ⊥) → 2 ≡ mark_number e q m
unfolding mark_of mark_bit mark_number which_mark which_of
another Gost quantity.Phase (Half b) h = absurd (h refl)
another Gost quantity.Phase (Reserved b) h = refl
another Gost quantity.Phase (More b) h = refl
another Gost quantity.Range (Half b) h = refl
another Gost quantity.Range (Reserved b) h = absurd (h refl)
another Gost quantity.Range (More b) h = refl
another Bd q (Half b) h = refl
another Bd q (Reserved b) h = refl
another Bd q (More b) h = absurd (h refl)

pub returns-then-eq : goal.returns-then-eq
returns-then-eq c =
    let a = c.args in
    let same : c.args.mark ≡ mark_of c.args.edition c.args.quantity c.bit_of-bit.result = search rules in
    c.from.ensures ∙ c.bit_of-bit.ensures ∙ own a.edition a.quantity a.mark (same ∙ ap (mark_of a.edition a.quantity) c.bit_of-bit.ensures)

pub returns-else-eq : goal.returns-else-eq
returns-else-eq c =
    let a = c.args in
    let apart : c.args.mark ≡ mark_of c.args.edition c.args.quantity c.bit_of-bit.result → ⊥ = search rules in
    another a.edition a.quantity a.mark (λ e. apart (e ∙ sym (ap (mark_of a.edition a.quantity) c.bit_of-bit.ensures)))
