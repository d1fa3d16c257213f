-- `glance` meets its contract: one word more is known, or the frame is whole. Assumes nothing.
use Rattle.std.proofs.Common.{◌≡◌, Bool, true, false, Some, sym, ◌∙◌}
use Rattle.reader.specs.Hunting.{GlancedAt}
use Rattle.reader.proofs.Glancing.{stop, stops-here}
use Rattle.reader.proofs.hunt.glance.Goals as goal

pub returns-then-whole : goal.returns-then-whole
returns-then-whole c =
    let stops : (all : Bool) → c.whole.result ≡ all
    → GlancedAt c.args.cells.now c.args.end c.args.left c.args.words c.args.tally
    (Some (stop c.args.left c.args.words c.args.tally all)) = λ all e. let a = c.args in
    stops-here a.cells.now c.requires.0 a.end c.requires.1 a.left c.requires.2 a.tally a.words c.window-w.result c.requires.3 c.requires.4
    c.window-w.ensures (sym c.lacks_preamble.ensures ∙ c.if-lacks_preamble.false) c.left_over.result _
    c.left_over.ensures c.if-left_over-ne0.false c.if-words-left.false all (sym c.whole.ensures ∙ e) in
    stops true c.if-whole.true

pub returns : goal.returns
returns c =
    let stops : (all : Bool) → c.whole.result ≡ all
    → GlancedAt c.args.cells.now c.args.end c.args.left c.args.words c.args.tally
    (Some (stop c.args.left c.args.words c.args.tally all)) = λ all e. let a = c.args in
    stops-here a.cells.now c.requires.0 a.end c.requires.1 a.left c.requires.2 a.tally a.words c.window-w.result c.requires.3 c.requires.4
    c.window-w.ensures (sym c.lacks_preamble.ensures ∙ c.if-lacks_preamble.false) c.left_over.result _
    c.left_over.ensures c.if-left_over-ne0.false c.if-words-left.false all (sym c.whole.ensures ∙ e) in
    stops false c.if-whole.false
