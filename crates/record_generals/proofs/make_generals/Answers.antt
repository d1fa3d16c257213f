-- `make_generals` meets its contract: the stages in their order, then a frame of the rows behind that of the head. Assumes nothing.
use mathlib.Core.Path.{◌≡◌, refl, sym, ap, ◌∙◌}
use mathlib.Core.Bool.{false, ◌||◌}
use mathlib.Core.List.{List, [], ◌∷◌, map}
use Prim.Native.Nat.{ℕ}
use lib.ListN.{take}
use Rattle.answer.specs.Order.{Check}
use Rattle.frame.specs.Answer.{header_widths, clock_of}
use Rattle.frame.specs.Widths.{any_of}
use Rattle.frame.specs.declared.Header.{Header}
use Rattle.frame.specs.declared.Layout.TheVariants as layout
use Rattle.record_fields.specs.declared.Rows.{Rows}
use Rattle.record_fields.specs.Coding.{frame_after}
use Rattle.record_fields.specs.Tables.{no_rows, put_row, put_rows}
use Rattle.record_fields.proofs.TableLaws.{push-codes}
use Rattle.record_stages.specs.declared.Asked.TheVariants.{Same}
use Rattle.record_stages.specs.declared.Made.{Made}
use Rattle.record_stages.specs.Stages.{asked_of, wrong_count, made_by, refused_made, done_made}
use Rattle.record_stages.proofs.ListLaws.{entries-after}
use Rattle.record_stages.proofs.StageLaws.{told-refused, told-granted, make5, make6, make7, make-on}
use Rattle.record_generals.specs.declared.General.{General}
use Rattle.record_generals.specs.declared.GeneralHead.{GeneralHead}
use Rattle.record_generals.specs.Generals.{other_system, head_out, head_bits, head_rows, delay_width, widths, coding, least, most, numbers}
use Rattle.record_generals.specs.Generals.{out_of_range, fill, most_generals, make_generals}
use Rattle.record_generals.proofs.LayoutLaws.{delay-small, narrow, few, head-held}
use Rattle.record_generals.proofs.StagedLaws.{refused-here, passed_here}
use Rattle.record_generals.proofs.make_generals.Goals as goal
use Rattle.answer.specs.Table.{granted}

-- the checks of 12 and 10, those from 23 on, and the frame, by the width of the delay
abbrev twelve : ℕ → GeneralHead → List General → ℕ → List Check
twelve d a gs c = (wrong_count (most_generals d) c, 12) ∷ (head_out a || any_of (out_of_range d) (take c gs), 10) ∷ []

abbrev own : ℕ → GeneralHead → List General → ℕ → List Check
own d a gs c = (other_system a.system, 23) ∷ twelve d a gs c

abbrev done : ℕ → Header → GeneralHead → List General → ℕ → Made
done d h a gs c = done_made (frame_after (head_bits a) fill (coding d) h (take c gs))

-- what is made of the rows, past the stages up to 23
made : (h : Header) (a : GeneralHead) (gs : List General) (c : ℕ) (r : Rows) (m : Made) → let d = delay_width a.ionosphere in
    m ≡ made_by layout.General (most_generals d) fill h c r → r ≡ put_rows (widths d) least (most d) (map numbers (take c gs)) (head_rows a)
    → granted ≡ header_widths h → Same ≡ asked_of layout.General h.kind → granted ≡ clock_of h.z → other_system a.system ≡ false
    → m ≡ make_generals h a gs c
unfolding make_generals put_row no_rows
made h a gs c r m em er within same hour known =
    let d = delay_width a.ionosphere in
    entries-after layout.General (coding d) fill (most_generals d) (out_of_range d) numbers least (most d) (λ g. push-codes (widths d) (numbers g)) (λ g. refl)
    (narrow d (delay-small a.ionosphere)) (head_rows a) (head_bits a) (head-held a) (few a d) h gs c r m em er
    ∙ sym (make-on layout.General h (twelve d a gs c) refused_made (done d h a gs c) within same hour)
    ∙ passed_here refused_made (done d h a gs c) (other_system a.system) 23 (twelve d a gs c) known
    ∙ make-on layout.General h (own d a gs c) refused_made (done d h a gs c) within same hour

pub returns-in_default : goal.returns-in_default
unfolding make_generals
returns-in_default c =
    let asked : List Check = let a = c.args in own (delay_width a.head.ionosphere) a.head a.entries a.count in
    let answer : Made = let a = c.args in done (delay_width a.head.ionosphere) a.header a.head a.entries a.count in
    c.refused.ensures
    ∙ make5 layout.General c.args.header asked refused_made answer (sym c.in_default.is ∙ c.header_widths.ensures)

pub returns-in_default-asked_of : goal.returns-in_default-asked_of
unfolding make_generals
returns-in_default-asked_of c =
    let within : granted ≡ header_widths c.args.header = sym c.in-Ok.is ∙ c.header_widths.ensures in
    let asked : List Check = let a = c.args in own (delay_width a.head.ionosphere) a.head a.entries a.count in
    let answer : Made = let a = c.args in done (delay_width a.head.ionosphere) a.header a.head a.entries a.count in
    c.refused-in_default-asked_of.ensures
    ∙ make6 layout.General c.args.header asked refused_made answer within
    (sym c.in_default-asked_of.is ∙ c.asked_of.ensures)

pub returns-in_default-clock_of : goal.returns-in_default-clock_of
unfolding make_generals
returns-in_default-clock_of c =
    let within : granted ≡ header_widths c.args.header = sym c.in-Ok.is ∙ c.header_widths.ensures in
    let same : Same ≡ asked_of layout.General c.args.header.kind = sym c.in-Same.is ∙ c.asked_of.ensures in
    let asked : List Check = let a = c.args in own (delay_width a.head.ionosphere) a.head a.entries a.count in
    let answer : Made = let a = c.args in done (delay_width a.head.ionosphere) a.header a.head a.entries a.count in
    c.refused-in_default-clock_of.ensures
    ∙ make7 layout.General c.args.header asked refused_made answer within same
    (sym c.in_default-clock_of.is ∙ c.clock_of.ensures)

pub returns-in_default-known_of : goal.returns-in_default-known_of
unfolding make_generals
returns-in_default-known_of c =
    let within : granted ≡ header_widths c.args.header = sym c.in-Ok.is ∙ c.header_widths.ensures in
    let same : Same ≡ asked_of layout.General c.args.header.kind = sym c.in-Same.is ∙ c.asked_of.ensures in
    let hour : granted ≡ clock_of c.args.header.z = sym c.in-Ok-clock_of.is ∙ c.clock_of.ensures in
    let asked : List Check = let a = c.args in own (delay_width a.head.ionosphere) a.head a.entries a.count in
    let answer : Made = let a = c.args in done (delay_width a.head.ionosphere) a.header a.head a.entries a.count in
    let a = c.args in
    c.refused-in_default-known_of.ensures
    ∙ refused-here refused_made answer (other_system a.head.system) 23 (twelve (delay_width a.head.ionosphere) a.head a.entries a.count)
    (told-refused 23 _ (sym c.in_default-known_of.is ∙ c.known_of.ensures))
    ∙ make-on layout.General a.header asked refused_made answer within same hour

pub returns : goal.returns
returns c =
    let within : granted ≡ header_widths c.args.header = sym c.in-Ok.is ∙ c.header_widths.ensures in
    let same : Same ≡ asked_of layout.General c.args.header.kind = sym c.in-Same.is ∙ c.asked_of.ensures in
    let hour : granted ≡ clock_of c.args.header.z = sym c.in-Ok-clock_of.is ∙ c.clock_of.ensures in
    let a = c.args in
    let r = c.rows_of-rows.result in
    made a.header a.head a.entries a.count r c.make_frame.result
    (c.make_frame.ensures
    ∙ ap (λ n. made_by layout.General n fill a.header a.count r) (c.most_of.ensures ∙ ap most_generals c.delay_width-delay.ensures.0))
    (c.rows_of-rows.ensures
    ∙ ap (λ d. put_rows (widths d) least (most d) (map numbers (take a.count a.entries)) (head_rows a.head)) c.delay_width-delay.ensures.0)
    within same hour
    (told-granted 23 _ (sym c.in-Ok-known_of.is ∙ c.known_of.ensures))
