-- `cells_in` meets its contract: by a loop that fills the array number by number. Assumes nothing.
use mathlib.Core.Path.{◌≡◌, refl, sym, ap, ap₂, ◌∙◌}
use Prim.Native.Nat.{◌*◌}
use native.Mathlib.Omega.{arith}
use lib.ListN.{take, drop, set}
use lib.Seq.{drop-drop}
use Rattle.rtcm2_state.specs.State.{start_size}
use Rattle.rtcm2_state.specs.Numbers.{number_in, numbers_in}
use Rattle.rtcm2_state.proofs.NumberLaws.{number-filled, numbers-all}
use Rattle.rtcm2_state.proofs.cells_in.Goals as goal

pub loop-i-init : goal.loop-i-init
unfolding numbers_in
loop-i-init c = refl

pub loop-i-preserved : goal.loop-i-preserved
loop-i-preserved c =
    let bytes = c.args.bytes.now in
    let number : c.number_at.result ≡ number_in (take 4 (drop (4 * c.loop-i.i) (drop start_size bytes))) =
    c.number_at.ensures ∙ ap (λ r. number_in (take 4 r)) (sym (drop-drop (4 * c.loop-i.i) start_size bytes)) in
    ap₂ (λ ns n. set ns c.loop-i.i n) c.loop-i.invariant number ∙ number-filled 40 c.loop-i.i (drop start_size bytes) (omega arith)

pub returns : goal.returns
returns c =
    let all : c.loop-i.i ≡ 40 = omega arith in
    c.loop-i.invariant ∙ numbers-all 40 c.loop-i.i (drop start_size c.args.bytes.now) all
