-- `records_size` meets its contract: a record's length a turn. Assumes nothing.
use mathlib.Core.Path.{◌≡◌, ap, ◌∙◌}
use Prim.Native.Nat.{◌≤◌}
use native.Mathlib.Omega.{arith}
use lib.ListN.{length, take, get_or}
use borrow.Author.Rules.{rules}
use Rattle.rtcm2.specs.Beacon.{records_of}
use Rattle.rtcm2.proofs.BeaconLaws.{unread, few_words, size-next}
use Rattle.rtcm2.proofs.beacon.records_size.Goals as goal

pub loop-i-preserved : goal.loop-i-preserved
loop-i-preserved c =
    let few : (get_or c.args.cut c.loop-i.i unread).n ≤ 31 = let a = c.args in
    let full : length a.cut ≡ 6 = search rules in
    few_words a.cut a.number c.loop-i.i c.requires.1 (omega arith) (omega arith) in
    let a = c.args in
    let full : length a.cut ≡ 6 = search rules in
    let next = size-next a.cut a.number c.loop-i.i c.requires.1 (omega arith) (omega arith) in
    (omega arith, (omega (arith, next, c.loop-i.invariant), omega (arith, few, c.loop-i.invariant)))

pub returns : goal.returns
returns c =
    let a = c.args in
    let all : c.loop-i.i ≡ a.number = omega arith in
    c.loop-i.invariant.1.0 ∙ ap (λ j. length (records_of (take j a.cut))) all

pub overflow_mul-size : goal.overflow_mul-size
overflow_mul-size c =
    let few : (get_or c.args.cut c.loop-i.i unread).n ≤ 31 = let a = c.args in
    let full : length a.cut ≡ 6 = search rules in
    few_words a.cut a.number c.loop-i.i c.requires.1 (omega arith) (omega arith) in
    omega (arith, few)

pub overflow_add-size : goal.overflow_add-size
overflow_add-size c =
    let few : (get_or c.args.cut c.loop-i.i unread).n ≤ 31 = let a = c.args in
    let full : length a.cut ≡ 6 = search rules in
    few_words a.cut a.number c.loop-i.i c.requires.1 (omega arith) (omega arith) in
    omega (arith, few)

pub overflow_add-size-in-loop-i : goal.overflow_add-size-in-loop-i
overflow_add-size-in-loop-i c =
    let few : (get_or c.args.cut c.loop-i.i unread).n ≤ 31 = let a = c.args in
    let full : length a.cut ≡ 6 = search rules in
    few_words a.cut a.number c.loop-i.i c.requires.1 (omega arith) (omega arith) in
    omega (arith, few)
