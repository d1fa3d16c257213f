-- `make_text` meets its contract: a frame of the characters' rows is the layout's. Assumes nothing.
use mathlib.Core.Path.{◌≡◌, refl, ap₂, ◌∙◌}
use mathlib.Core.Bool.{or-false}
use mathlib.Core.List.{List, map}
use Prim.Native.Nat.{ℕ, ◌≤◌}
use native.Mathlib.Omega.{arith}
use lib.ListN.{length, take}
use lib.Seq.{take_all}
use borrow.Author.Rules.{rules}
use Rattle.frame.specs.declared.Layout.TheVariants as layout
use Rattle.frame.specs.declared.System.{System}
use Rattle.frame.specs.Layout.{system_of}
use Rattle.record_fields.specs.declared.Rows.{Rows}
use Rattle.record_fields.specs.Tables.{no_rows, put_rows}
use Rattle.record_stages.proofs.ListCode.{told-some-few}
use Rattle.record_stages.proofs.ListLaws.{rows_made_lem}
use Rattle.record_texts.specs.Texts.{widths, coding, fill, least, most, numbers, forbidden, make_text}
use Rattle.record_texts.proofs.make_text.Goals as goal

-- of 90 characters or fewer the first 90 are all; the system that the code found is that of the type
all-rows : (u s : System) (t : List ℕ) (r : Rows) → r ≡ put_rows widths least (most u) (map numbers (take 90 t)) no_rows → u ≡ s → length t ≤ 90
    → r ≡ put_rows widths least (most s) (map numbers t) no_rows
all-rows u s t r e same few = e ∙ ap₂ (λ v l. put_rows widths least (most v) (map numbers l) no_rows) same (take_all 90 t few)

pub returns : goal.returns
unfolding make_text
returns c =
    let a = c.args in
    let t = a.text.now in
    let s = system_of a.header.kind in
    let all = all-rows c.system_of-system.result s t c.rows_of-rows.result c.rows_of-rows.ensures c.system_of-system.ensures in
    rows_made_lem layout.Text coding fill 90 (forbidden s) numbers least (most s) (λ x p. refl) (λ x. or-false (forbidden s x)) (search rules) (omega arith)
    a.header t (length t) c.rows_of-rows.result c.make_frame.result c.make_frame.ensures
    (λ fine. let few = (told-some-few (length t) 90 fine).1 in (few, all few))
