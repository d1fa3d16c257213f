-- `cut_corrections` meets its contract: 5 and 6, what making the whole list says, 22, and the frames. Assumes nothing.
use mathlib.Core.Path.{◌≡◌, sym, ap, ◌∙◌}
use mathlib.Core.Bool.{Bool, true, false}
use Prim.Native.Nat.{◌≤◌, ◌+◌, ◌/◌}
use native.Mathlib.Omega.{arith}
use lib.ListN.{length, take}
use lib.Seq.{length-take-le}
use borrow.Author.Rules.{rules}
use borrow.Author.Tests.{ne_eqb}
use Rattle.frame.specs.Widths.{header_outside}
use Rattle.frame.proofs.WidthLaws.{told-outside, told-within}
use Rattle.profile.specs.declared.Cutting.TheVariants as cutting
use Rattle.profile.specs.Profile.{repeated}
use Rattle.profile.specs.Cutting.{satellites_of}
use Rattle.profile.proofs.CutLaws.{cut5, cut6, cut-unmade, count_most, cut22, cut-done}
use Rattle.profile.proofs.cut_corrections.Goals as goal

pub returns-in_default : goal.returns-in_default
returns-in_default c =
    let a = c.args in
    c.refused.ensures ∙ cut5 a.header a.entries a.count
    (told-outside _ (sym c.in_default.is ∙ c.header_widths.ensures))

pub returns-then-header-ne9 : goal.returns-then-header-ne9
returns-then-header-ne9 c =
    let within : header_outside c.args.header ≡ false = told-within _ (sym c.in-Ok.is ∙ c.header_widths.ensures) in
    let a = c.args in
    c.refused-then-header-ne9.ensures ∙ cut6 a.header a.entries a.count within (ne_eqb _ 9 c.if-header-ne9.true)

pub returns-in-Refused : goal.returns-in-Refused
returns-in-Refused c =
    let within : header_outside c.args.header ≡ false = told-within _ (sym c.in-Ok.is ∙ c.header_widths.ensures) in
    let a = c.args in
    c.refused-in-Refused.ensures
    ∙ cut-unmade a.header a.entries a.count within c.if-header-ne9.false c.make_corrections-made.result c.make_corrections-made.ensures _
    c.in-Refused.is

pub returns-then-twice : goal.returns-then-twice
returns-then-twice c =
    let within : header_outside c.args.header ≡ false = told-within _ (sym c.in-Ok.is ∙ c.header_widths.ensures) in
    let is-twice : (b : Bool) → c.twice.result ≡ b
    → repeated (take c.args.count (satellites_of c.args.entries)) ≡ b = λ b e. ap (λ l. repeated (take c.args.count l)) (sym c.satellites_of-satellites.ensures)
    ∙ sym c.twice.ensures ∙ e in
    let a = c.args in
    c.refused-then-twice.ensures
    ∙ cut22 a.header a.entries a.count within c.if-header-ne9.false c.make_corrections-made.result c.make_corrections-made.ensures
    c.in_default-answer.is (is-twice true c.if-twice.true)

pub returns : goal.returns
returns c =
    let within : header_outside c.args.header ≡ false = told-within _ (sym c.in-Ok.is ∙ c.header_widths.ensures) in
    let is-twice : (b : Bool) → c.twice.result ≡ b
    → repeated (take c.args.count (satellites_of c.args.entries)) ≡ b = λ b e. ap (λ l. repeated (take c.args.count l)) (sym c.satellites_of-satellites.ensures)
    ∙ sym c.twice.ensures ∙ e in
    let full : length c.args.entries ≡ 18 = search rules in
    let a = c.args in
    let thirds : c.div_ceil.result ≡ (c.args.count + 2) / 3 = omega (arith, c.div_ceil.ensures) in
    ap (λ n. record { answer = cutting.Frames n; frames = c.cut_all-frames.result }) thirds
    ∙ cut-done a.header a.entries a.count within c.if-header-ne9.false c.make_corrections-made.result c.make_corrections-made.ensures
    c.in_default-answer.is full (is-twice false c.if-twice.false) c.cut_all-frames.result c.cut_all-frames.ensures

pub slice_bounds-twice-end : goal.slice_bounds-twice-end
slice_bounds-twice-end c =
    let within : header_outside c.args.header ≡ false = told-within _ (sym c.in-Ok.is ∙ c.header_widths.ensures) in
    let few : c.args.count ≤ 18 = let a = c.args in
    count_most a.header a.entries a.count within c.if-header-ne9.false c.make_corrections-made.result c.make_corrections-made.ensures
    c.in_default-answer.is in
    let full : length c.satellites_of-satellites.result ≡ 18 = search rules in
    sym (length-take-le c.args.count c.satellites_of-satellites.result (omega (arith, few, full)))

pub slice_bounds-satellites-end : goal.slice_bounds-satellites-end
slice_bounds-satellites-end c =
    let within : header_outside c.args.header ≡ false = told-within _ (sym c.in-Ok.is ∙ c.header_widths.ensures) in
    let few : c.args.count ≤ 18 = let a = c.args in
    count_most a.header a.entries a.count within c.if-header-ne9.false c.make_corrections-made.result c.make_corrections-made.ensures
    c.in_default-answer.is in
    let full : length c.satellites_of-satellites.result ≡ 18 = search rules in
    omega (arith, few, full)

pub cut_all-frames-requires : goal.cut_all-frames-requires
cut_all-frames-requires c =
    let within : header_outside c.args.header ≡ false = told-within _ (sym c.in-Ok.is ∙ c.header_widths.ensures) in
    let a = c.args in
    count_most a.header a.entries a.count within c.if-header-ne9.false c.make_corrections-made.result c.make_corrections-made.ensures
    c.in_default-answer.is
