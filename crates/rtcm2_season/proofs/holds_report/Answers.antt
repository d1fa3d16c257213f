-- `holds_report` meets its contract: the tests in the order of the definition. Assumes nothing.
use mathlib.Core.Path.{sym, ap, ◌∙◌}
use native.Mathlib.Omega.{arith}
use lib.ListN.{drop}
use Rattle.rtcm2_season.specs.Reports.{all_name}
use Rattle.rtcm2_season.proofs.ReportLaws.{held-short, held-over, held_rows}
use Rattle.rtcm2_season.proofs.holds_report.Goals as goal

pub returns-then-bytes-lt-SIZE : goal.returns-then-bytes-lt-SIZE
returns-then-bytes-lt-SIZE c = sym (held-short c.args.bytes.now c.if-bytes-lt-SIZE.true)

pub returns-then-used-gt512 : goal.returns-then-used-gt512
returns-then-used-gt512 c =
    let bs = c.args.bytes.now in
    sym (held-over bs c.if-bytes-lt-SIZE.false (omega (arith, c.used_in-used.ensures)))

pub returns : goal.returns
returns c =
    let bs = c.args.bytes.now in
    c.all_name.ensures ∙ ap (λ k. all_name k (drop 4 bs)) c.used_in-used.ensures ∙ sym (held_rows bs c.if-bytes-lt-SIZE.false (omega (arith, c.used_in-used.ensures)))
