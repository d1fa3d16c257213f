-- `make_frame` meets its contract: the header's and the count's stages, the entries' range, then what the packer leaves. Assumes nothing.
use mathlib.Core.Path.{◌≡◌, ap, ◌∙◌}
use mathlib.Core.List.{List, [], ◌∷◌}
use Rattle.answer.specs.Order.{Check, in_order}
use Rattle.frame.specs.Frames.{built_of}
use Rattle.record_stages.specs.declared.Made.{Made}
use Rattle.record_stages.specs.Stages.{wrong_count, make_order, entry_refusal, packed_frame, refused_made, done_made, made_by}
use Rattle.record_stages.proofs.StageLaws.{unsuited, suited-on, last-wrong, last-fine}
use Rattle.record_stages.proofs.make_frame.Goals as goal

pub returns-in-Refused : goal.returns-in-Refused
returns-in-Refused c =
    let twelve : List Check = make_order c.args.layout c.args.header ((wrong_count c.args.most c.args.count, 12) ∷ []) in
    let last : List Check = (c.args.rows.out, entry_refusal c.args.layout) ∷ [] in
    let done : Made = done_made (packed_frame c.args.fill c.args.header c.args.rows.packer) in
    c.refused.ensures
    ∙ unsuited twelve last refused_made done c.suits-suited.result c.suits-suited.ensures _ c.in-Refused.is

pub returns-then-rows : goal.returns-then-rows
returns-then-rows c =
    let done : Made = done_made (packed_frame c.args.fill c.args.header c.args.rows.packer) in
    let twelve : List Check = make_order c.args.layout c.args.header ((wrong_count c.args.most c.args.count, 12) ∷ []) in
    let last : List Check = (c.args.rows.out, entry_refusal c.args.layout) ∷ [] in
    let last-decides : (m : Made) → m ≡ in_order last refused_made done
    → m ≡ made_by c.args.layout c.args.most c.args.fill c.args.header c.args.count c.args.rows = λ m e. e ∙ suited-on twelve last refused_made done c.suits-suited.result c.suits-suited.ensures c.in_default.is in
    last-decides _
    (c.refused-then-rows.ensures ∙ ap refused_made c.entry_refusal.ensures
    ∙ last-wrong refused_made done c.args.rows.out (entry_refusal c.args.layout) c.if-rows.true)

pub returns : goal.returns
unfolding done_made
returns c =
    let done : Made = done_made (packed_frame c.args.fill c.args.header c.args.rows.packer) in
    let twelve : List Check = make_order c.args.layout c.args.header ((wrong_count c.args.most c.args.count, 12) ∷ []) in
    let last : List Check = (c.args.rows.out, entry_refusal c.args.layout) ∷ [] in
    let last-decides : (m : Made) → m ≡ in_order last refused_made done
    → m ≡ made_by c.args.layout c.args.most c.args.fill c.args.header c.args.count c.args.rows = λ m e. e ∙ suited-on twelve last refused_made done c.suits-suited.result c.suits-suited.ensures c.in_default.is in
    last-decides _
    (ap done_made (c.built.ensures ∙ ap (λ q. built_of c.args.header q.whole q.words) c.fill_up-full.ensures)
    ∙ last-fine refused_made done c.args.rows.out (entry_refusal c.args.layout) c.if-rows.false)
