-- THE HEAD OF A LIST, over the layout: refused where the count is, else it lies in the words, and its fields are those of the frame's bits;
-- what a layout checks after 8 is its own. Assumes nothing.
use mathlib.Core.Path.{◌≡◌, sym, ap, ◌∙◌}
use mathlib.Core.Bool.{false}
use mathlib.Core.List.{List, []}
use Prim.Native.Nat.{ℕ, ◌*◌, ◌≤◌}
use native.Mathlib.Omega.{arith}
use lib.ListN.{length}
use Rattle.answer.specs.Order.{Check, in_order, NoneApplies}
use Rattle.answer.proofs.OrderLaws.{order-map, order-append, order-told}
use Rattle.bits.specs.Fields.{fields_at, span}
use Rattle.bits.specs.Rows.{data_bits}
use Rattle.frame.specs.Widths.{outside}
use Rattle.frame.specs.declared.Frame.{Frame}
use Rattle.frame.specs.declared.Layout.{Layout}
use Rattle.record_fields.specs.Coding.{frame_bits}
use Rattle.record_fields.proofs.Making.{fields-frame}
use Rattle.record_stages.specs.declared.Count.{Count}
use Rattle.record_stages.specs.declared.Count.TheVariants as count
use Rattle.record_stages.specs.Stages.{held_after, misfit_after, read_order, count_after}
use Rattle.record_stages.proofs.StageLaws.{of-apart}
use Rattle.record_stages.proofs.ListLaws.{head-room}

abbrev on_count : {B : Type 0} → (ℕ → B) → B → Count → B
on_count refuse answer (count.Of c) = answer
on_count refuse answer (count.Refused n) = refuse n

module _ (l : Layout) (h w : ℕ) (f : Frame) (s : Count) (is : s ≡ count_after l h w f) where
  abbrev first : List Check
  first = read_order l f (misfit_after h w f.n) []

  module _ {B : Type 0} (more : List Check) (refuse : ℕ → B) (answer : B) where
    after-count : in_order (read_order l f (misfit_after h w f.n) more) refuse answer ≡ on_count refuse (in_order more refuse answer) s
    after-count =
        order-append first more refuse answer
        ∙ sym (order-map (on_count refuse (in_order more refuse answer)) first count.Refused (count.Of (held_after h w f.n)))
        ∙ ap (on_count refuse (in_order more refuse answer)) (sym is)

    pub not-counted : (n : ℕ) → s ≡ count.Refused n → refuse n ≡ in_order (read_order l f (misfit_after h w f.n) more) refuse answer
    not-counted n e = sym (after-count ∙ ap (on_count refuse (in_order more refuse answer)) e)

    pub counted-on : (c : ℕ) → s ≡ count.Of c → in_order more refuse answer ≡ in_order (read_order l f (misfit_after h w f.n) more) refuse answer
    counted-on c e = sym (after-count ∙ ap (on_count refuse (in_order more refuse answer)) e)

  module _ (c : ℕ) (e : s ≡ count.Of c) where
    told : NoneApplies first
    told = (order-told count.Refused (count.Of (held_after h w f.n)) (count.Of c) (λ n. of-apart n c) first (sym is ∙ e)).0

    pub counted-inside : outside f ≡ false
    counted-inside = told.0

    pub counted-head : h ≤ 24 * f.n
    counted-head = head-room h w f.n told.1.1.1.0

-- the fields of a head that lies in the words
pub head-is : (ws : List ℕ) (f : Frame) → outside f ≡ false → length f.words ≡ 31 → span ws ≤ 24 * f.n
    → fields_at ws 0 (data_bits f.words) ≡ fields_at ws 0 (frame_bits f)
head-is ws f inside full room = fields-frame ws 0 f inside full (omega arith)
