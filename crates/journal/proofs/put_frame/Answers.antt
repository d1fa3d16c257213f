-- `put_frame` meets its contract: the refusals in the order of the definition, then the record. Assumes nothing.
use mathlib.Core.Path.{◌≡◌, sym, ap, ◌∙◌}
use native.Mathlib.Omega.{arith}
use mathlib.Core.List.{◌∷◌}
use lib.ListN.{length, take, length-take}
use lib.Seq.{sets}
use borrow.Author.Rules.{rules}
use Rattle.frame.specs.Answer.{header_words}
use Rattle.journal.specs.Forms.{record_with}
use Rattle.journal.proofs.PutLaws.{header-told, few-told, record-written, record-size, put-over}
use Rattle.journal.specs.Journal.{record_of}
use borrow.Author.Tests.{le-ltb}
use Rattle.journal.proofs.put_frame.Goals as goal
use Rattle.std.specs.Prelude.{Ok}

pub returns-clause-buffer_after : goal.returns-clause-buffer_after
returns-clause-buffer_after c =
    let full : length c.args.frame.words ≡ 31 = search rules in
    let told : header_words c.args.frame.header c.args.frame.n
    ≡ Ok (c.in-Ok.first, c.in-Ok.second) = sym c.header_words.ensures ∙ c.in-Ok.is in
    let a = c.args in
    let few = few-told a.frame told in
    let count : length (take a.frame.n a.frame.words) ≡ a.frame.n = omega (arith, few, full, length-take a.frame.n a.frame.words) in
    let put = c.put.ensures
    ∙ ap (λ m. sets a.buffer.now 0 (record_with 0x32 3 m (c.in-Ok.first ∷ c.in-Ok.second ∷ take a.frame.n a.frame.words))) count
    ∙ ap (sets a.buffer.now 0) (record-written a.frame told) in
    rw (header-told a.frame told, le-ltb _ _ few, le-ltb _ _ c.if-buffer-length.false)
    (put-over (record_of a.frame) a.buffer.now (record-size a.frame few full) c.if-buffer-length.false put)
