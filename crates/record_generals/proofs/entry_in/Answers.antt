-- `entry_in` meets its contract: the place that every list with a head has, then the fields, then the number of the satellite. Assumes nothing.
use mathlib.Core.Path.{◌≡◌, sym, ap, ◌∙◌}
use mathlib.Core.List.{List, [], ◌∷◌}
use Prim.Native.Nat.{ℕ, ◌+◌, ◌≤◌}
use lib.ListN.{length}
use borrow.Author.Rules.{rules}
use borrow.Author.Tests.{eq-eqb, ne_eqb}
use Rattle.answer.specs.Order.{Check}
use Rattle.frame.specs.declared.Frame.{Frame}
use Rattle.frame.specs.declared.Layout.TheVariants as layout
use Rattle.record_fields.specs.Coding.{frame_bits, entry_after}
use Rattle.record_stages.proofs.ListLaws.{not-placed, placed_on, placed-room, placed-is}
use Rattle.record_stages.proofs.StageLaws.{last-wrong, last-fine}
use Rattle.record_generals.specs.declared.General.{General}
use Rattle.record_generals.specs.declared.GeneralRead.TheVariants as read
use Rattle.record_generals.specs.Generals.{coding, no_satellite}
use Rattle.record_generals.proofs.LayoutLaws.{span-is}
use Rattle.record_generals.proofs.entry_in.Goals as goal

-- the satellite of the frame's bits, and the check of its number
abbrev given : ℕ → Frame → ℕ → General
given d f i = entry_after 13 (coding d) i (frame_bits f)

abbrev last : ℕ → Frame → ℕ → List Check
last d f i = (no_satellite (given d f i), 10) ∷ []

pub entry_from-general-requires : goal.entry_from-general-requires
entry_from-general-requires c =
    let small : c.args.delay ≤ 12 = search rules in
    let a = c.args in
    (small, placed-room layout.General 13 (32 + a.delay) a.frame a.index c.entry_place-place.result c.entry_place-place.ensures _ c.in-At.is)

pub returns-then-general-eq0 : goal.returns-then-general-eq0
returns-then-general-eq0 c =
    let full : length c.args.frame.words ≡ 31 = search rules in
    let is : let a = c.args in
    c.entry_from-general.result ≡ given a.delay a.frame a.index = let a = c.args in
    c.entry_from-general.ensures
    ∙ placed-is layout.General 13 (32 + a.delay) a.frame a.index c.entry_place-place.result c.entry_place-place.ensures _
    c.in-At.is (coding a.delay) (span-is a.delay) full in
    let a = c.args in
    let g = given a.delay a.frame a.index in
    last-wrong read.Refused (read.Entry g) (no_satellite g) 10 (ap no_satellite (sym is) ∙ eq-eqb _ _ c.if-general-eq0.true)
    ∙ placed_on layout.General 13 (32 + a.delay) a.frame a.index c.entry_place-place.result c.entry_place-place.ensures
    (last a.delay a.frame a.index) read.Refused (read.Entry g) _ c.in-At.is

pub returns-else-general-eq0 : goal.returns-else-general-eq0
returns-else-general-eq0 c =
    let full : length c.args.frame.words ≡ 31 = search rules in
    let is : let a = c.args in
    c.entry_from-general.result ≡ given a.delay a.frame a.index = let a = c.args in
    c.entry_from-general.ensures
    ∙ placed-is layout.General 13 (32 + a.delay) a.frame a.index c.entry_place-place.result c.entry_place-place.ensures _
    c.in-At.is (coding a.delay) (span-is a.delay) full in
    let a = c.args in
    let g = given a.delay a.frame a.index in
    ap read.Entry is
    ∙ last-fine read.Refused (read.Entry g) (no_satellite g) 10 (ap no_satellite (sym is) ∙ ne_eqb _ _ c.if-general-eq0.false)
    ∙ placed_on layout.General 13 (32 + a.delay) a.frame a.index c.entry_place-place.result c.entry_place-place.ensures
    (last a.delay a.frame a.index) read.Refused (read.Entry g) _ c.in-At.is

pub returns-in-Refused : goal.returns-in-Refused
returns-in-Refused c =
    let a = c.args in
    not-placed layout.General 13 (32 + a.delay) a.frame a.index c.entry_place-place.result c.entry_place-place.ensures
    (last a.delay a.frame a.index) read.Refused (read.Entry (given a.delay a.frame a.index)) _ c.in-Refused.is
