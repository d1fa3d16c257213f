-- `read_head` meets its contract: refused where the count is, else the head of the frame's bits. Assumes nothing.
use mathlib.Core.Path.{◌≡◌, sym, ap, ◌∙◌}
use mathlib.Core.List.{[]}
use lib.ListN.{length}
use borrow.Author.Rules.{rules}
use Rattle.answer.proofs.OrderLaws.{order-answers}
use Rattle.record_stages.proofs.HeadLaws.{head-is}
use Rattle.record_generals.specs.declared.HeadRead.TheVariants as head
use Rattle.record_generals.specs.Generals.{head_widths, head_meant, head_in, list_order, generals_held, count_generals, read_head}
use Rattle.record_generals.proofs.StagedLaws.{head-there, count-refused, count-passed}
use Rattle.record_generals.proofs.read_head.Goals as goal

pub returns-in-Of : goal.returns-in-Of
unfolding read_head count_generals
returns-in-Of c =
    let full : length c.args.frame.words ≡ 31 = search rules in
    let f = c.args.frame in
    let passed = count-passed (list_order f []) (generals_held f) c.count_generals-counted.result c.count_generals-counted.ensures _ c.in-Of.is in
    ap head.Head (c.head_from.ensures ∙ ap head_meant (head-is head_widths f passed.0 full (head-there f.header.kind f.n passed.1.1.1.0)))
    ∙ sym (order-answers head.Refused (head.Head (head_in f)) (list_order f []) passed)

pub returns-in-Refused : goal.returns-in-Refused
unfolding read_head count_generals
returns-in-Refused c =
    let f = c.args.frame in
    count-refused (list_order f []) (generals_held f) c.count_generals-counted.result c.count_generals-counted.ensures head.Refused (head.Head (head_in f)) _
    c.in-Refused.is
