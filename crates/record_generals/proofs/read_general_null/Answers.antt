-- `read_general_null` meets its contract: the stages in their order, then the system. Assumes nothing.
use mathlib.Core.Path.{◌≡◌, refl, sym, ap, ◌∙◌}
use mathlib.Core.Bool.{false, not}
use mathlib.Core.List.{List, [], ◌∷◌}
use Prim.Native.Nat.{ℕ}
use native.Mathlib.Omega.{arith}
use lib.Dec.{eqb}
use lib.ListN.{length}
use borrow.Author.Rules.{rules}
use borrow.Author.Tests.{eq-eqb, ne_eqb, eqb-true, not-false}
use Rattle.answer.specs.Order.{Check, in_order}
use Rattle.bits.specs.Fields.{field_at}
use Rattle.bits.specs.Rows.{data_bits}
use Rattle.frame.specs.Widths.{outside, late}
use Rattle.frame.specs.declared.Frame.{Frame}
use Rattle.frame.proofs.WidthLaws.{told-outside, told-within, told-late, told-hour}
use Rattle.record_fields.specs.Packing.{field_in}
use Rattle.record_stages.specs.Stages.{wrong_size}
use Rattle.record_stages.proofs.HeadLaws.{head-is}
use Rattle.record_stages.proofs.StageLaws.{told-refused, told-granted, told-wrong, told-right}
use Rattle.record_generals.specs.declared.GeneralNullRead.{GeneralNullRead}
use Rattle.record_generals.specs.declared.GeneralNullRead.TheVariants as null
use Rattle.record_generals.specs.Generals.{other_system}
use Rattle.record_generals.specs.GeneralNulls.{system_coding, system_in, other_than_null, read_general_null}
use Rattle.record_generals.proofs.StagedLaws.{refused-here, passed_here}
use Rattle.record_generals.proofs.read_general_null.Goals as goal

-- the answer, and the checks from each on
abbrev found : Frame → GeneralNullRead
found f = null.Null f.n (system_in f)

abbrev from23 : Frame → List Check
from23 f = (other_system (system_in f), 23) ∷ []

abbrev from8 : Frame → List Check
from8 f = (wrong_size 1 f.n, 8) ∷ from23 f

abbrev from7 : Frame → List Check
from7 f = (late f.header.z, 7) ∷ from8 f

abbrev from6 : Frame → List Check
from6 f = (other_than_null f.header.kind, 6) ∷ from7 f

-- a field of four bits, as the code reads it
four : (ws : List ℕ) → field_in ws 0 4 ≡ field_at 0 4 (data_bits ws)
unfolding field_in
four ws = refl

pub returns-in_default : goal.returns-in_default
unfolding read_general_null
returns-in_default c =
    let f = c.args.frame in
    refused-here null.Refused (found f) (outside f) 5 (from6 f) (told-outside _ (sym c.in_default.is ∙ c.frame_widths.ensures))

pub returns-then-header-ne42 : goal.returns-then-header-ne42
unfolding read_general_null
returns-then-header-ne42 c =
    let inside : outside c.args.frame ≡ false = told-within _ (sym c.in-Ok.is ∙ c.frame_widths.ensures) in
    let f = c.args.frame in
    refused-here null.Refused (found f) (other_than_null f.header.kind) 6 (from7 f) (ap not (ne_eqb f.header.kind 42 c.if-header-ne42.true))
    ∙ passed_here null.Refused (found f) (outside f) 5 (from6 f) inside

pub returns-in_default-clock_of : goal.returns-in_default-clock_of
unfolding read_general_null
returns-in_default-clock_of c =
    let inside : outside c.args.frame ≡ false = told-within _ (sym c.in-Ok.is ∙ c.frame_widths.ensures) in
    let kind-null : other_than_null c.args.frame.header.kind ≡ false = ap not (eq-eqb _ 42 c.if-header-ne42.false) in
    let f = c.args.frame in
    refused-here null.Refused (found f) (late f.header.z) 7 (from8 f)
    (told-late _ (sym c.in_default-clock_of.is ∙ c.clock_of.ensures))
    ∙ passed_here null.Refused (found f) (other_than_null f.header.kind) 6 (from7 f) kind-null
    ∙ passed_here null.Refused (found f) (outside f) 5 (from6 f) inside

pub returns-in_default-size_of : goal.returns-in_default-size_of
unfolding read_general_null
returns-in_default-size_of c =
    let asked : Frame = c.args.frame in
    let inside : outside c.args.frame ≡ false = told-within _ (sym c.in-Ok.is ∙ c.frame_widths.ensures) in
    let kind-null : other_than_null c.args.frame.header.kind ≡ false = ap not (eq-eqb _ 42 c.if-header-ne42.false) in
    let hour : late asked.header.z ≡ false = told-hour _ (sym c.in-Ok-clock_of.is ∙ c.clock_of.ensures) in
    let decides : (r : GeneralNullRead) → let f = asked in r ≡ in_order (from8 f) null.Refused (found f) → r ≡ read_general_null f = λ r e. let f = asked in
    e ∙ passed_here null.Refused (found f) (late f.header.z) 7 (from8 f) hour
    ∙ passed_here null.Refused (found f) (other_than_null f.header.kind) 6 (from7 f) kind-null
    ∙ passed_here null.Refused (found f) (outside f) 5 (from6 f) inside in
    let f = asked in
    decides _
    (refused-here null.Refused (found f) (wrong_size 1 f.n) 8 (from23 f) (told-wrong _ (sym c.in_default-size_of.is ∙ c.size_of.ensures)))

pub returns-in_default-known_of : goal.returns-in_default-known_of
unfolding read_general_null
returns-in_default-known_of c =
    let asked : Frame = c.args.frame in
    let right : wrong_size 1 asked.n ≡ false = told-right _ (sym c.in-Right.is ∙ c.size_of.ensures) in
    let inside : outside c.args.frame ≡ false = told-within _ (sym c.in-Ok.is ∙ c.frame_widths.ensures) in
    let kind-null : other_than_null c.args.frame.header.kind ≡ false = ap not (eq-eqb _ 42 c.if-header-ne42.false) in
    let hour : late asked.header.z ≡ false = told-hour _ (sym c.in-Ok-clock_of.is ∙ c.clock_of.ensures) in
    let decides : (r : GeneralNullRead) → let f = asked in r ≡ in_order (from8 f) null.Refused (found f) → r ≡ read_general_null f = λ r e. let f = asked in
    e ∙ passed_here null.Refused (found f) (late f.header.z) 7 (from8 f) hour
    ∙ passed_here null.Refused (found f) (other_than_null f.header.kind) 6 (from7 f) kind-null
    ∙ passed_here null.Refused (found f) (outside f) 5 (from6 f) inside in
    let full : length c.args.frame.words ≡ 31 = search rules in
    let is : c.field-system.result ≡ system_in asked = let f = asked in
    c.field-system.ensures.0 ∙ four f.words
    ∙ ap system_coding.meant
    (head-is system_coding.widths f inside full
    (omega (arith, eqb-true f.n 1 (not-false (eqb f.n 1) right)))) in
    let f = asked in
    decides _
    (refused-here null.Refused (found f) (other_system (system_in f)) 23 []
    (ap other_system (sym is) ∙ told-refused 23 _ (sym c.in_default-known_of.is ∙ c.known_of.ensures))
    ∙ passed_here null.Refused (found f) (wrong_size 1 f.n) 8 (from23 f) right)

pub returns : goal.returns
unfolding read_general_null
returns c =
    let asked : Frame = c.args.frame in
    let right : wrong_size 1 asked.n ≡ false = told-right _ (sym c.in-Right.is ∙ c.size_of.ensures) in
    let inside : outside c.args.frame ≡ false = told-within _ (sym c.in-Ok.is ∙ c.frame_widths.ensures) in
    let kind-null : other_than_null c.args.frame.header.kind ≡ false = ap not (eq-eqb _ 42 c.if-header-ne42.false) in
    let hour : late asked.header.z ≡ false = told-hour _ (sym c.in-Ok-clock_of.is ∙ c.clock_of.ensures) in
    let decides : (r : GeneralNullRead) → let f = asked in r ≡ in_order (from8 f) null.Refused (found f) → r ≡ read_general_null f = λ r e. let f = asked in
    e ∙ passed_here null.Refused (found f) (late f.header.z) 7 (from8 f) hour
    ∙ passed_here null.Refused (found f) (other_than_null f.header.kind) 6 (from7 f) kind-null
    ∙ passed_here null.Refused (found f) (outside f) 5 (from6 f) inside in
    let full : length c.args.frame.words ≡ 31 = search rules in
    let is : c.field-system.result ≡ system_in asked = let f = asked in
    c.field-system.ensures.0 ∙ four f.words
    ∙ ap system_coding.meant
    (head-is system_coding.widths f inside full
    (omega (arith, eqb-true f.n 1 (not-false (eqb f.n 1) right)))) in
    let f = asked in
    decides _
    (ap (null.Null f.n) is
    ∙ passed_here null.Refused (found f) (other_system (system_in f)) 23 []
    (ap other_system (sym is) ∙ told-granted 23 _ (sym c.in-Ok-known_of.is ∙ c.known_of.ensures))
    ∙ passed_here null.Refused (found f) (wrong_size 1 f.n) 8 (from23 f) right)
