-- `entry_place` meets its contract: the stages in their order, each with what it says. Assumes nothing.
use mathlib.Core.Path.{◌≡◌, sym, ap, ◌∙◌}
use mathlib.Core.Bool.{Bool, false}
use mathlib.Core.List.{List, [], ◌∷◌}
use Prim.Native.Nat.{ℕ, ◌+◌, ◌*◌, ◌≤◌}
use native.Mathlib.Omega.{arith}
use lib.Dec.{leb}
use Rattle.answer.specs.Order.{Check, in_order}
use Rattle.frame.specs.Answer.{frame_widths, clock_of}
use Rattle.frame.specs.Widths.{outside}
use Rattle.frame.proofs.WidthLaws.{told-within}
use Rattle.frame.proofs.FrameLaws.{n_within}
use Rattle.record_stages.specs.declared.Asked.TheVariants.{Same}
use Rattle.record_stages.specs.declared.Place.{Place}
use Rattle.record_stages.specs.declared.Place.TheVariants as place
use Rattle.record_stages.specs.Stages.{asked_of, held_after, misfit_after, headed_order}
use Rattle.record_stages.proofs.StageLaws.{read5, read6, read7, read8, read-on, told-misfit, told_entries, told-past, told_below, last-wrong, last-fine}
use Rattle.record_stages.proofs.ListLaws.{entry-room, head-room}
use Rattle.record_stages.proofs.entry_place.Goals as goal
use Rattle.answer.specs.Table.{granted}

pub returns-in_default : goal.returns-in_default
returns-in_default c =
    let eight : Bool = misfit_after c.args.head c.args.width c.args.frame.n in
    let total : ℕ = held_after c.args.head c.args.width c.args.frame.n in
    let past : Bool = leb total c.args.index in
    let nine : List Check = (past, 9) ∷ [] in
    let found : Place = place.At (c.args.head + c.args.index * c.args.width) in
    read5 c.args.layout c.args.frame eight nine place.Refused found
    (sym c.in_default.is ∙ c.frame_widths.ensures)

pub returns-in_default-asked_of : goal.returns-in_default-asked_of
returns-in_default-asked_of c =
    let eight : Bool = misfit_after c.args.head c.args.width c.args.frame.n in
    let total : ℕ = held_after c.args.head c.args.width c.args.frame.n in
    let past : Bool = leb total c.args.index in
    let nine : List Check = (past, 9) ∷ [] in
    let found : Place = place.At (c.args.head + c.args.index * c.args.width) in
    let within : granted ≡ frame_widths c.args.frame = sym c.in-Ok.is ∙ c.frame_widths.ensures in
    read6 c.args.layout c.args.frame eight nine place.Refused found
    within (sym c.in_default-asked_of.is ∙ c.asked_of.ensures)

pub returns-in_default-clock_of : goal.returns-in_default-clock_of
returns-in_default-clock_of c =
    let eight : Bool = misfit_after c.args.head c.args.width c.args.frame.n in
    let total : ℕ = held_after c.args.head c.args.width c.args.frame.n in
    let past : Bool = leb total c.args.index in
    let nine : List Check = (past, 9) ∷ [] in
    let found : Place = place.At (c.args.head + c.args.index * c.args.width) in
    let within : granted ≡ frame_widths c.args.frame = sym c.in-Ok.is ∙ c.frame_widths.ensures in
    let same : Same ≡ asked_of c.args.layout c.args.frame.header.kind = sym c.in-Same.is ∙ c.asked_of.ensures in
    read7 c.args.layout c.args.frame eight nine place.Refused found
    within same (sym c.in_default-clock_of.is ∙ c.clock_of.ensures)

pub returns-in_default-entries_in : goal.returns-in_default-entries_in
returns-in_default-entries_in c =
    let eight : Bool = misfit_after c.args.head c.args.width c.args.frame.n in
    let total : ℕ = held_after c.args.head c.args.width c.args.frame.n in
    let past : Bool = leb total c.args.index in
    let nine : List Check = (past, 9) ∷ [] in
    let found : Place = place.At (c.args.head + c.args.index * c.args.width) in
    let within : granted ≡ frame_widths c.args.frame = sym c.in-Ok.is ∙ c.frame_widths.ensures in
    let same : Same ≡ asked_of c.args.layout c.args.frame.header.kind = sym c.in-Same.is ∙ c.asked_of.ensures in
    let hour : granted ≡ clock_of c.args.frame.header.z = sym c.in-Ok-clock_of.is ∙ c.clock_of.ensures in
    read8 c.args.layout c.args.frame eight nine place.Refused found
    within same hour
    (told-misfit _ _ (sym c.in_default-entries_in.is ∙ c.entries_in.ensures))

pub returns-in_default-index_of : goal.returns-in_default-index_of
returns-in_default-index_of c =
    let total : ℕ = held_after c.args.head c.args.width c.args.frame.n in
    let past : Bool = leb total c.args.index in
    let found : Place = place.At (c.args.head + c.args.index * c.args.width) in
    let eight : Bool = misfit_after c.args.head c.args.width c.args.frame.n in
    let counted : (eight ≡ false) × (c.in-Some.count ≡ total) = told_entries eight total _ (sym c.in-Some.is ∙ c.entries_in.ensures) in
    let nine : List Check = (past, 9) ∷ [] in
    let within : granted ≡ frame_widths c.args.frame = sym c.in-Ok.is ∙ c.frame_widths.ensures in
    let same : Same ≡ asked_of c.args.layout c.args.frame.header.kind = sym c.in-Same.is ∙ c.asked_of.ensures in
    let hour : granted ≡ clock_of c.args.frame.header.z = sym c.in-Ok-clock_of.is ∙ c.clock_of.ensures in
    let nine-decides : (r : Place) → r ≡ in_order nine place.Refused found
    → r ≡ in_order (headed_order c.args.layout c.args.head c.args.width c.args.frame c.args.index []) place.Refused found = λ r e. e ∙ read-on c.args.layout c.args.frame eight nine place.Refused found
    within same hour counted.0 in
    nine-decides (place.Refused 9)
    (last-wrong place.Refused found past 9
    (ap (λ n. leb n c.args.index) (sym counted.1) ∙ told-past _ (sym c.in_default-index_of.is ∙ c.index_of.ensures)))

pub returns : goal.returns
returns c =
    let total : ℕ = held_after c.args.head c.args.width c.args.frame.n in
    let past : Bool = leb total c.args.index in
    let found : Place = place.At (c.args.head + c.args.index * c.args.width) in
    let eight : Bool = misfit_after c.args.head c.args.width c.args.frame.n in
    let nine : List Check = (past, 9) ∷ [] in
    let within : granted ≡ frame_widths c.args.frame = sym c.in-Ok.is ∙ c.frame_widths.ensures in
    let same : Same ≡ asked_of c.args.layout c.args.frame.header.kind = sym c.in-Same.is ∙ c.asked_of.ensures in
    let hour : granted ≡ clock_of c.args.frame.header.z = sym c.in-Ok-clock_of.is ∙ c.clock_of.ensures in
    let counted : (eight ≡ false) × (c.in-Some.count ≡ total) = told_entries eight total _ (sym c.in-Some.is ∙ c.entries_in.ensures) in
    let nine-decides : (r : Place) → r ≡ in_order nine place.Refused found
    → r ≡ in_order (headed_order c.args.layout c.args.head c.args.width c.args.frame c.args.index []) place.Refused found = λ r e. e ∙ read-on c.args.layout c.args.frame eight nine place.Refused found
    within same hour counted.0 in
    let below : past ≡ false = ap (λ n. leb n c.args.index) (sym counted.1) ∙ told_below _ (sym c.in-Below.is ∙ c.index_of.ensures) in
    nine-decides found (last-fine place.Refused found past 9 below)

pub overflow_mul-result : goal.overflow_mul-result
overflow_mul-result c =
    let within : granted ≡ frame_widths c.args.frame = sym c.in-Ok.is ∙ c.frame_widths.ensures in
    let eight : Bool = misfit_after c.args.head c.args.width c.args.frame.n in
    let total : ℕ = held_after c.args.head c.args.width c.args.frame.n in
    let counted : (eight ≡ false) × (c.in-Some.count ≡ total) = told_entries eight total _ (sym c.in-Some.is ∙ c.entries_in.ensures) in
    let past : Bool = leb total c.args.index in
    let below : past ≡ false = ap (λ n. leb n c.args.index) (sym counted.1) ∙ told_below _ (sym c.in-Below.is ∙ c.index_of.ensures) in
    let room : let a = c.args in a.head + a.index * a.width + a.width ≤ 744 = let a = c.args in
    omega (
      arith,
      n_within a.frame (told-within (outside a.frame) within),
      entry-room a.head a.width a.frame.n a.index (head-room a.head a.width a.frame.n counted.0) below,
    ) in
    record { fits = omega (arith, room) }

pub overflow_add-result : goal.overflow_add-result
overflow_add-result c =
    let within : granted ≡ frame_widths c.args.frame = sym c.in-Ok.is ∙ c.frame_widths.ensures in
    let eight : Bool = misfit_after c.args.head c.args.width c.args.frame.n in
    let total : ℕ = held_after c.args.head c.args.width c.args.frame.n in
    let counted : (eight ≡ false) × (c.in-Some.count ≡ total) = told_entries eight total _ (sym c.in-Some.is ∙ c.entries_in.ensures) in
    let past : Bool = leb total c.args.index in
    let below : past ≡ false = ap (λ n. leb n c.args.index) (sym counted.1) ∙ told_below _ (sym c.in-Below.is ∙ c.index_of.ensures) in
    let room : let a = c.args in a.head + a.index * a.width + a.width ≤ 744 = let a = c.args in
    omega (
      arith,
      n_within a.frame (told-within (outside a.frame) within),
      entry-room a.head a.width a.frame.n a.index (head-room a.head a.width a.frame.n counted.0) below,
    ) in
    record { fits = omega (arith, room) }

pub overflow_cast-result : goal.overflow_cast-result
overflow_cast-result c =
    let within : granted ≡ frame_widths c.args.frame = sym c.in-Ok.is ∙ c.frame_widths.ensures in
    let eight : Bool = misfit_after c.args.head c.args.width c.args.frame.n in
    let total : ℕ = held_after c.args.head c.args.width c.args.frame.n in
    let counted : (eight ≡ false) × (c.in-Some.count ≡ total) = told_entries eight total _ (sym c.in-Some.is ∙ c.entries_in.ensures) in
    let past : Bool = leb total c.args.index in
    let below : past ≡ false = ap (λ n. leb n c.args.index) (sym counted.1) ∙ told_below _ (sym c.in-Below.is ∙ c.index_of.ensures) in
    let room : let a = c.args in a.head + a.index * a.width + a.width ≤ 744 = let a = c.args in
    omega (
      arith,
      n_within a.frame (told-within (outside a.frame) within),
      entry-room a.head a.width a.frame.n a.index (head-room a.head a.width a.frame.n counted.0) below,
    ) in
    record { fits = omega (arith, room) }
