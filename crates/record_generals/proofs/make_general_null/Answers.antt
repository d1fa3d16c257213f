-- `make_general_null` meets its contract: the stages in their order, then the frame of the system's bits. Assumes nothing.
use mathlib.Core.Path.{◌≡◌, refl, sym, ap, ◌∙◌}
use mathlib.Core.Bool.{false, not}
use mathlib.Core.List.{List, [], ◌∷◌}
use Prim.Native.Nat.{ℕ}
use native.Mathlib.Omega.{arith}
use borrow.Author.Tests.{eq-eqb, ne_eqb}
use Rattle.answer.specs.Order.{Check, in_order}
use Rattle.answer.proofs.OrderLaws.{order-answers}
use Rattle.frame.specs.Layout.{layout_of}
use Rattle.frame.specs.Widths.{header_outside, late}
use Rattle.frame.specs.declared.Header.{Header}
use Rattle.frame.specs.declared.Layout.TheVariants as layout
use Rattle.frame.proofs.WidthLaws.{told-outside, told-within, told-late, told-hour}
use Rattle.record_fields.specs.declared.Rows.{Rows}
use Rattle.record_fields.specs.Coding.{frame_after}
use Rattle.record_fields.specs.Tables.{no_rows, put_row}
use Rattle.record_fields.proofs.TableLaws.{push-codes}
use Rattle.record_stages.specs.declared.Made.{Made}
use Rattle.record_stages.specs.Stages.{other_layout, wrong_size, made_order, made_by, refused_made, done_made}
use Rattle.record_stages.proofs.ListLaws.{rows-after}
use Rattle.record_stages.proofs.StageLaws.{told-refused, told-granted, told-wrong, told-right}
use Rattle.record_generals.specs.Generals.{other_system, widths, coding, least, most, numbers, out_of_range, fill}
use Rattle.record_generals.specs.GeneralNulls.{system_bits, system_rows, other_than_null, make_general_null}
use Rattle.record_generals.proofs.LayoutLaws.{narrow, system-long, system-held}
use Rattle.record_generals.proofs.StagedLaws.{refused-here, passed_here}
use Rattle.record_generals.proofs.make_general_null.Goals as goal

-- the frame, and the checks from each on
abbrev done : Header → ℕ → Made
done h s = done_made (frame_after (system_bits s) fill (coding 0) h [])

abbrev from12 : ℕ → List Check
from12 n = (wrong_size 1 n, 12) ∷ []

abbrev from23 : ℕ → ℕ → List Check
from23 n s = (other_system s, 23) ∷ from12 n

abbrev from7 : Header → ℕ → ℕ → List Check
from7 h n s = (late h.z, 7) ∷ from23 n s

abbrev from6 : Header → ℕ → ℕ → List Check
from6 h n s = (other_than_null h.kind, 6) ∷ from7 h n s

-- type 42 has the layout
its-layout : other_layout layout.General 42 ≡ false
unfolding other_layout layout_of
its-layout = refl

has-layout : (kind : ℕ) → kind ≡ 42 → other_layout layout.General kind ≡ false
has-layout kind e = ap (other_layout layout.General) e ∙ its-layout

-- what is made of the row, where the header suits
made : (h : Header) (s : ℕ) (r : Rows) (m : Made) → m ≡ made_by layout.General 1 fill h 1 r → r ≡ system_rows s
    → header_outside h ≡ false → h.kind ≡ 42 → late h.z ≡ false → m ≡ done h s
unfolding put_row no_rows
made h s r m em er inside kind hour =
    rows-after layout.General (coding 0) fill 1 (out_of_range 0) numbers least (most 0) (λ g. push-codes (widths 0) (numbers g)) (λ g. refl)
    (narrow 0 (omega arith)) (system_rows s) (system_bits s) (system-held s) (omega (arith, system-long s)) h [] 1 r m em (λ e. (omega arith, er))
    ∙ order-answers refused_made (done h s) (made_order layout.General 1 h 1 false) (inside, (has-layout h.kind kind, (hour, (refl, (refl, tt)))))

kind-null : (kind : ℕ) → kind ≡ 42 → other_than_null kind ≡ false
kind-null kind e = ap not (eq-eqb kind 42 e)

pub returns-in_default : goal.returns-in_default
unfolding make_general_null
returns-in_default c =
    let a = c.args in
    c.refused.ensures
    ∙ refused-here refused_made (done a.header a.system) (header_outside a.header) 5 (from6 a.header a.n a.system)
    (told-outside _ (sym c.in_default.is ∙ c.header_widths.ensures))

pub returns-then-header-ne42 : goal.returns-then-header-ne42
unfolding make_general_null
returns-then-header-ne42 c =
    let inside : header_outside c.args.header ≡ false = told-within _ (sym c.in-Ok.is ∙ c.header_widths.ensures) in
    let a = c.args in
    let h = a.header in
    c.refused-then-header-ne42.ensures
    ∙ refused-here refused_made (done h a.system) (other_than_null h.kind) 6 (from7 h a.n a.system) (ap not (ne_eqb h.kind 42 c.if-header-ne42.true))
    ∙ passed_here refused_made (done h a.system) (header_outside h) 5 (from6 h a.n a.system) inside

pub returns-in_default-clock_of : goal.returns-in_default-clock_of
unfolding make_general_null
returns-in_default-clock_of c =
    let inside : header_outside c.args.header ≡ false = told-within _ (sym c.in-Ok.is ∙ c.header_widths.ensures) in
    let kind-is : c.args.header.kind ≡ 42 = c.if-header-ne42.false in
    let a = c.args in
    let h = a.header in
    c.refused-in_default-clock_of.ensures
    ∙ refused-here refused_made (done h a.system) (late h.z) 7 (from23 a.n a.system)
    (told-late _ (sym c.in_default-clock_of.is ∙ c.clock_of.ensures))
    ∙ passed_here refused_made (done h a.system) (other_than_null h.kind) 6 (from7 h a.n a.system) (kind-null h.kind kind-is)
    ∙ passed_here refused_made (done h a.system) (header_outside h) 5 (from6 h a.n a.system) inside

pub returns-in_default-known_of : goal.returns-in_default-known_of
unfolding make_general_null
returns-in_default-known_of c =
    let inside : header_outside c.args.header ≡ false = told-within _ (sym c.in-Ok.is ∙ c.header_widths.ensures) in
    let kind-is : c.args.header.kind ≡ 42 = c.if-header-ne42.false in
    let hour : late c.args.header.z ≡ false = told-hour _ (sym c.in-Ok-clock_of.is ∙ c.clock_of.ensures) in
    let decides : (m : Made) → let a = c.args in
    m ≡ in_order (from23 a.n a.system) refused_made (done a.header a.system) → m ≡ make_general_null a.header a.n a.system = λ m e. let a = c.args in
    let h = a.header in
    e ∙ passed_here refused_made (done h a.system) (late h.z) 7 (from23 a.n a.system) hour
    ∙ passed_here refused_made (done h a.system) (other_than_null h.kind) 6 (from7 h a.n a.system) (kind-null h.kind kind-is)
    ∙ passed_here refused_made (done h a.system) (header_outside h) 5 (from6 h a.n a.system) inside in
    let a = c.args in
    decides _
    (c.refused-in_default-known_of.ensures
    ∙ refused-here refused_made (done a.header a.system) (other_system a.system) 23 (from12 a.n)
    (told-refused 23 _ (sym c.in_default-known_of.is ∙ c.known_of.ensures)))

pub returns-in_default-size_of : goal.returns-in_default-size_of
unfolding make_general_null
returns-in_default-size_of c =
    let known : other_system c.args.system ≡ false = told-granted 23 _ (sym c.in-Ok-known_of.is ∙ c.known_of.ensures) in
    let inside : header_outside c.args.header ≡ false = told-within _ (sym c.in-Ok.is ∙ c.header_widths.ensures) in
    let kind-is : c.args.header.kind ≡ 42 = c.if-header-ne42.false in
    let hour : late c.args.header.z ≡ false = told-hour _ (sym c.in-Ok-clock_of.is ∙ c.clock_of.ensures) in
    let decides : (m : Made) → let a = c.args in
    m ≡ in_order (from23 a.n a.system) refused_made (done a.header a.system) → m ≡ make_general_null a.header a.n a.system = λ m e. let a = c.args in
    let h = a.header in
    e ∙ passed_here refused_made (done h a.system) (late h.z) 7 (from23 a.n a.system) hour
    ∙ passed_here refused_made (done h a.system) (other_than_null h.kind) 6 (from7 h a.n a.system) (kind-null h.kind kind-is)
    ∙ passed_here refused_made (done h a.system) (header_outside h) 5 (from6 h a.n a.system) inside in
    let a = c.args in
    decides _
    (c.refused-in_default-size_of.ensures
    ∙ refused-here refused_made (done a.header a.system) (wrong_size 1 a.n) 12 []
    (told-wrong _ (sym c.in_default-size_of.is ∙ c.size_of.ensures))
    ∙ passed_here refused_made (done a.header a.system) (other_system a.system) 23 (from12 a.n) known)

pub returns : goal.returns
unfolding make_general_null
returns c =
    let inside : header_outside c.args.header ≡ false = told-within _ (sym c.in-Ok.is ∙ c.header_widths.ensures) in
    let kind-is : c.args.header.kind ≡ 42 = c.if-header-ne42.false in
    let hour : late c.args.header.z ≡ false = told-hour _ (sym c.in-Ok-clock_of.is ∙ c.clock_of.ensures) in
    let known : other_system c.args.system ≡ false = told-granted 23 _ (sym c.in-Ok-known_of.is ∙ c.known_of.ensures) in
    let decides : (m : Made) → let a = c.args in
    m ≡ in_order (from23 a.n a.system) refused_made (done a.header a.system) → m ≡ make_general_null a.header a.n a.system = λ m e. let a = c.args in
    let h = a.header in
    e ∙ passed_here refused_made (done h a.system) (late h.z) 7 (from23 a.n a.system) hour
    ∙ passed_here refused_made (done h a.system) (other_than_null h.kind) 6 (from7 h a.n a.system) (kind-null h.kind kind-is)
    ∙ passed_here refused_made (done h a.system) (header_outside h) 5 (from6 h a.n a.system) inside in
    let a = c.args in
    decides _
    (made a.header a.system c.system_rows.result c.make_frame.result c.make_frame.ensures c.system_rows.ensures
    inside kind-is hour
    ∙ passed_here refused_made (done a.header a.system) (wrong_size 1 a.n) 12 []
    (told-right _ (sym c.in-Right.is ∙ c.size_of.ensures))
    ∙ passed_here refused_made (done a.header a.system) (other_system a.system) 23 (from12 a.n) known)
