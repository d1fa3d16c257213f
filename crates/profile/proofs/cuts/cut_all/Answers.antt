-- `cut_all` meets its contract: by a loop, a frame a turn. Assumes nothing.
use mathlib.Core.Path.{◌≡◌, refl, sym, ap, ap₂, ◌∙◌}
use mathlib.Core.List.{◌++◌}
use Prim.Native.Nat.{◌+◌, ◌/◌}
use native.Mathlib.Omega.{arith}
use lib.ListN.{take, drop, replicate, take-append-drop}
use borrow.Author.Rules.{rules}
use Rattle.profile.specs.Profile.{listed}
use Rattle.profile.specs.Cutting.{no_frames}
use Rattle.profile.specs.Arms.{made_part}
use Rattle.profile.proofs.Parts.{listed_next, rest-next}
use Rattle.profile.proofs.cuts.cut_all.Goals as goal

pub loop-i-init : goal.loop-i-init
unfolding no_frames
loop-i-init c = (refl, (ap (λ f. replicate 6 f) c.no_frame-frames.ensures, refl))

pub loop-i-preserved : goal.loop-i-preserved
loop-i-preserved c =
    let l = c.loop-i in
    let a = c.args in (
      listed_next (made_part a.header (take a.count a.entries)) l.frames l.i c.cut_frame.result
          (omega arith) c.cut_frame.ensures l.invariant.0,
      (rest-next l.frames no_frames l.i c.cut_frame.result l.invariant.1.0, search rules),
    )

pub returns : goal.returns
returns c =
    let l = c.loop-i in
    let a = c.args in
    let all : l.i ≡ (a.count + 2) / 3 = omega arith in
    sym (take-append-drop l.i l.frames) ∙ ap₂ (λ x y. x ++ y) l.invariant.0 l.invariant.1.0
    ∙ ap (λ j. listed (made_part a.header (take a.count a.entries)) j 0 ++ drop j no_frames) all

pub cut_frame-requires : goal.cut_frame-requires
cut_frame-requires c = (search rules, omega arith)

pub offset_bounds-frames-i : goal.offset_bounds-frames-i
offset_bounds-frames-i c = omega arith

pub bounds-frames-i : goal.bounds-frames-i
bounds-frames-i c = omega arith
