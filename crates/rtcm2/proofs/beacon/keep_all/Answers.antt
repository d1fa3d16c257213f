-- `keep_all` meets its contract: 13, or the records and their length. Assumes nothing.
use mathlib.Core.Path.{◌∙◌}
use Prim.Native.Nat.{◌≤◌}
use native.Mathlib.Omega.{arith}
use lib.ListN.{length, take}
use borrow.Author.Rules.{rules}
use Rattle.rtcm2.specs.Beacon.{records_of}
use Rattle.rtcm2.proofs.BeaconLaws.{all_short, all-kept}
use Rattle.rtcm2.proofs.beacon.keep_all.Goals as goal

pub returns-then-frames-size : goal.returns-then-frames-size
returns-then-frames-size c =
    let a = c.args in
    let said = all_short a.frames.now a.length.now (take a.number a.cut) (omega (arith, c.if-frames-size.true, c.records_size-size.ensures)) in
    record { value = said.0; frames_after = said.1.0; length_after = said.1.1 }

pub returns : goal.returns
returns c =
    let a = c.args in
    let k =
    all-kept a.frames.now a.length.now (take a.number a.cut)
    (omega (arith, c.if-frames-size.false, c.records_size-size.ensures)) _ c.put_records.ensures in
    record { value = k.0; frames_after = k.1.0; length_after = c.records_size-size.ensures ∙ k.1.1 }

pub put_records-requires : goal.put_records-requires
put_records-requires c =
    let room : let a = c.args in length (records_of (take a.number a.cut)) ≤ length a.frames.now = omega (arith, c.if-frames-size.false, c.records_size-size.ensures) in
    (search rules, search rules, room)
