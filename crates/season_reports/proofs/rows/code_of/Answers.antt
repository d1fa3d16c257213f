-- `code_of` meets its contract: the three numbers have room beside each other. Assumes nothing.
use mathlib.Core.Path.{ap}
use Prim.Native.Nat.{◌+◌, ◌*◌}
use native.Mathlib.Omega.{arith}
use Rattle.season_reports.proofs.RowLaws.{system-few}
use Rattle.season_reports.proofs.rows.code_of.Goals as goal

pub overflow_mul-result : goal.overflow_mul-result
overflow_mul-result c = omega (arith, c.system_number-first.ensures, system-few c.args.key.system)

pub overflow_add-result : goal.overflow_add-result
overflow_add-result c = omega (arith, c.system_number-first.ensures, system-few c.args.key.system)

pub overflow_add-result-2 : goal.overflow_add-result-2
overflow_add-result-2 c = omega (arith, c.system_number-first.ensures, system-few c.args.key.system)

pub returns : goal.returns
returns c =
    let k = c.args.key in
    ap (λ n. n * 16777216 + k.station * 256 + k.satellite) c.system_number-first.ensures
