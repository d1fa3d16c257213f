-- `put_records` meets its contract: a record a turn. Assumes nothing.
use mathlib.Core.Path.{◌≡◌, refl, ap, ◌∙◌}
use mathlib.Core.List.{◌++◌}
use Prim.Native.Nat.{◌≤◌, ◌<◌}
use native.Mathlib.Omega.{arith}
use lib.ListN.{length, take, drop, get_or}
use borrow.Author.Rules.{rules}
use Rattle.rtcm2.specs.Beacon.{records_of}
use Rattle.rtcm2.proofs.BeaconLaws.{unread, held-length, few_words, size-next, put_next}
use Rattle.rtcm2.proofs.beacon.put_records.Goals as goal

pub slice_bounds-keep-count : goal.slice_bounds-keep-count
slice_bounds-keep-count c =
    (held-length c.args.cut c.args.number c.loop-i.i c.loop-i.at c.args.frames.now c.loop-i.frames (omega arith) c.loop-i.invariant.1.0
    c.loop-i.invariant.1.1.0 c.requires.2).1

pub loop-i-preserved : goal.loop-i-preserved
loop-i-preserved c =
    let few : (get_or c.args.cut c.loop-i.i unread).n ≤ 31 = let full : length c.args.cut ≡ 6 = search rules in
    few_words c.args.cut c.args.number c.loop-i.i c.requires.1 (omega arith) (omega arith) in
    let full : length c.args.cut ≡ 6 = search rules in
    let below : c.loop-i.i < c.args.number = omega arith in
    let long : c.args.number ≤ length c.args.cut = omega arith in
    let next = size-next c.args.cut c.args.number c.loop-i.i c.requires.1 below long in (
      omega arith,
      (
        omega (arith, next, c.loop-i.invariant.1.0),
        (
          put_next c.args.cut c.args.number c.loop-i.i c.requires.1 below long c.args.frames.now c.loop-i.frames
              c.keep.new.buffer c.loop-i.at c.loop-i.invariant.1.0 c.loop-i.invariant.1.1.0 c.requires.2
              c.keep.ensures.buffer_after,
          omega (arith, few, c.loop-i.invariant.1.1.1),
        ),
      ),
    )

pub shape_of-frames : goal.shape_of-frames
shape_of-frames c =
    (held-length c.args.cut c.args.number c.loop-i.i c.loop-i.at c.args.frames.now c.loop-i.frames c.loop-i.invariant.0 c.loop-i.invariant.1.0
    c.loop-i.invariant.1.1.0 c.requires.2).0

pub returns : goal.returns
returns c =
    let a = c.args in
    let all : c.loop-i.i ≡ a.number = omega arith in
    c.loop-i.invariant.1.1.0 ∙ ap (λ j. records_of (take j a.cut) ++ drop c.loop-i.at a.frames.now) all
    ∙ ap (λ k. records_of (take a.number a.cut) ++ drop k a.frames.now) (c.loop-i.invariant.1.0 ∙ ap (λ j. length (records_of (take j a.cut))) all)

pub loop-i-init : goal.loop-i-init
loop-i-init c = (omega arith, (refl, (refl, omega arith)))

pub offset_bounds-cut-i : goal.offset_bounds-cut-i
offset_bounds-cut-i c = omega arith

pub bounds-cut-i : goal.bounds-cut-i
bounds-cut-i c = omega arith

pub slice_bounds-keep-end : goal.slice_bounds-keep-end
slice_bounds-keep-end c = omega arith

pub overflow_mul-at : goal.overflow_mul-at
overflow_mul-at c =
    let few : (get_or c.args.cut c.loop-i.i unread).n ≤ 31 = let full : length c.args.cut ≡ 6 = search rules in
    few_words c.args.cut c.args.number c.loop-i.i c.requires.1 (omega arith) (omega arith) in
    omega (arith, few)

pub overflow_add-at : goal.overflow_add-at
overflow_add-at c =
    let few : (get_or c.args.cut c.loop-i.i unread).n ≤ 31 = let full : length c.args.cut ≡ 6 = search rules in
    few_words c.args.cut c.args.number c.loop-i.i c.requires.1 (omega arith) (omega arith) in
    omega (arith, few)

pub overflow_add-at-in-loop-i : goal.overflow_add-at-in-loop-i
overflow_add-at-in-loop-i c =
    let few : (get_or c.args.cut c.loop-i.i unread).n ≤ 31 = let full : length c.args.cut ≡ 6 = search rules in
    few_words c.args.cut c.args.number c.loop-i.i c.requires.1 (omega arith) (omega arith) in
    omega (arith, few)
