-- `make_position` meets its contract: a frame of its one row is the layout's. Assumes nothing.
use mathlib.Core.Path.{refl, ap, ap₂, ◌∙◌}
use mathlib.Core.List.{[], ◌∷◌}
use native.Mathlib.Omega.{arith}
use borrow.Author.Rules.{rules}
use Rattle.answer.specs.Order.{in_order}
use Rattle.frame.specs.declared.Layout.TheVariants as layout
use Rattle.record_fields.proofs.Making.{packed-frame}
use Rattle.record_stages.specs.Stages.{make_order, refused_made, done_made, made_by}
use Rattle.record_positions.specs.Positions.{coding, fill, out_of_range, make_position}
use Rattle.record_positions.proofs.make_position.Goals as goal

pub returns : goal.returns
unfolding make_position
returns c =
    let h = c.args.header in
    let p = c.args.position in
    c.make_frame.ensures
    ∙ ap₂ (λ put out. made_by layout.Position 1 fill h 1 (record { packer = put; out = out })) c.pack_position-packer.ensures c.out_of_range-out.ensures
    ∙ ap (λ g. in_order (make_order layout.Position h ((out_of_range p, 10) ∷ [])) refused_made (done_made g))
    (packed-frame coding fill h (p ∷ []) _ (search rules) (omega arith) refl)
