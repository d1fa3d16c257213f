-- `row_at` meets its contract: byte by byte, 0 past the last. Assumes nothing.
use Prim.Native.Nat.{◌+◌}
use mathlib.Core.Path.{sym, ◌∙◌}
use lib.ListN.{get_or}
use Rattle.std.proofs.Common.{rules}
use Rattle.rtcm2_rows.proofs.RowLaws.{made_each, byte-in}
use Rattle.rtcm2_rows.proofs.row.row_at.Goals as goal

pub returns-clause-each : goal.returns-clause-each
returns-clause-each g c =
    let a = c.args in
    λ j h. made_each _ _ c.from_fn.result g.row.N (λ i. get_or a.bytes.now (a.at + i) 0) (λ i e q k. search rules) c.from_fn.ensures.items j 0 h
    ∙ sym (byte-in g.row.N a.bytes.now a.at j h)
