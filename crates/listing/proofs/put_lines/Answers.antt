-- `put_lines` meets its contract: by a loop that feeds, takes and writes a line. Assumes nothing.
use Rattle.std.proofs.Common.{◌≡◌, ◌-◌, ◌<◌, drop, sym, refl, ap, ◌∙◌, subst, add-zero, arith, length-drop}
use Rattle.printing.proofs.StoreLaws.{length-stored}
use Rattle.listing.specs.Text.{frame_line}
use Rattle.listing.specs.Listing.{lines_of}
use Rattle.listing.proofs.LinesLaws.{Far, used_le, fed-tail, taken-inside, line_on, line-none, far-start, far-on, far-end, far-drop, lines_none}
use Rattle.listing.proofs.put_lines.Goals as goal

pub loop-init : goal.loop-init
loop-init c =
    let a = c.args in
    let out = a.output.now in
    let all : a.lines ≡ a.lines - 0 = omega arith in
    let whole = lines_of a.lines a.listing a.input.now in
    (subst (λ k. Far whole out out 0 0 (lines_of k a.listing a.input.now)) all (far-start whole out), omega arith, omega arith, refl)

pub overflow_add-used : goal.overflow_add-used
overflow_add-used c =
    let bs = c.args.input.now in
    omega (arith, used_le c.loop.state (drop c.loop.used bs) _ (fed-tail c.loop.state bs c.loop.used _ c.fed_on-fed.ensures), length-drop c.loop.used bs)

-- nothing was written where no frame waits
pub shape_of-output-in_default : goal.shape_of-output-in_default
shape_of-output-in_default c =
    c.loop.invariant.3

pub returns-in_default : goal.returns-in_default
returns-in_default c =
    let a = c.args in
    let bs = a.input.now in
    let fed = fed-tail c.loop.state bs c.loop.used _ c.fed_on-fed.ensures in
    let left = a.lines - c.loop.counter in
    let more : 0 < left = omega arith in
    let none = line-none left more c.loop.state (drop c.loop.used bs) _ fed _ c.take-took.ensures _ c.in_default.is in
    let e = far-end (lines_of a.lines a.listing bs) a.output.now c.loop.output c.loop.used c.loop.written _ c.loop.invariant.0 _ _ none in
    record { value = e.0; used_in_bounds = (omega (arith, used_le c.loop.state (drop c.loop.used bs) _ fed, length-drop c.loop.used bs), omega arith); output_after = e.1 }

pub put_frame-written-requires : goal.put_frame-written-requires
put_frame-written-requires c = let inside = taken-inside _ _ c.take-took.ensures in (inside.0, inside.1, omega arith)

pub loop-preserved : goal.loop-preserved
loop-preserved c =
    let done = c.in-Done.is in
    let a = c.args in
    let left = a.lines - c.loop.counter in
    let more : 0 < left = omega arith in
    let bs = a.input.now in
    let tail = fed-tail c.loop.state bs c.loop.used _ c.fed_on-fed.ensures in
    let turn = line_on left more c.loop.state (drop c.loop.used bs) _ tail _ c.take-took.ensures done _ c.handed_on-state.ensures in
    let far = far-on (lines_of a.lines a.listing bs) a.output.now c.loop.output c.loop.used c.loop.written _ c.loop.invariant.0
    _ (frame_line c.take-took.result.at c.take-took.result.frame) _ _ _ c.put_frame-written.ensures.buffer_after c.put_frame-written.ensures.value.0 turn in (
      far-drop a.lines c.loop.counter c.handed_on-state.result c.fed_on-fed.result.used c.loop.used bs far,
      omega (arith, used_le c.loop.state (drop c.loop.used bs) _ tail, length-drop c.loop.used bs),
      omega (arith, c.put_frame-written.ensures.value.1),
      length-stored c.loop.output c.loop.written (frame_line c.take-took.result.at c.take-took.result.frame) _ c.put_frame-written.ensures.buffer_after ∙ c.loop.invariant.3,
    )

pub returns : goal.returns
returns c =
    let a = c.args in
    let left = a.lines - c.loop.counter in
    let none : left ≡ 0 = omega arith in
    let e = far-end (lines_of a.lines a.listing a.input.now) a.output.now c.loop.output c.loop.used c.loop.written _ c.loop.invariant.0 _ _
    (lines_none left c.loop.state (drop c.loop.used a.input.now) none) in
    record { value = ap (λ u. record { used = u; written = c.loop.written; listing = c.loop.state }) (sym (add-zero c.loop.used)) ∙ e.0; used_in_bounds = (omega arith, omega arith); output_after = e.1 }

pub shape_of-output : goal.shape_of-output
shape_of-output c = c.loop.invariant.3
