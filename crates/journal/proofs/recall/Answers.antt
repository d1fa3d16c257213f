-- `recall` meets its contract: the start of the record settles the first four numbers of the order, words 1 and 2 the last. Assumes nothing.
use mathlib.Core.Path.{sym, ap, ap₂, ◌∙◌}
use Prim.Native.Nat.{ℕ, ◌+◌, ◌*◌, ◌≤◌}
use native.Mathlib.Omega.{arith}
use lib.ListN.{drop, replicate, length-take}
use Rattle.frame.specs.Frames.{built_of}
use Rattle.journal.specs.Bytes.{words_from}
use Rattle.journal.specs.Forms.{n_byte, words_after}
use Rattle.journal.specs.Journal.{refused_recall, frame_in}
use Rattle.journal.specs.declared.Found.TheVariants.{Record}
use Rattle.journal.proofs.WordLaws.{length-words}
use Rattle.journal.proofs.TurnLaws.{words-read}
use Rattle.journal.proofs.FormLaws.{start-refused, start-clear, start-n, start-few, start-whole, start-passed}
use Rattle.journal.proofs.DataLaws.{n-unequal, preamble-wrong, both_right, frame_is, found-none, found-some}
use Rattle.journal.proofs.recall.Goals as goal

pub word-first-requires : goal.word-first-requires
word-first-requires c =
    let bs = c.args.bytes.now in
    let h = start-clear 0x32 3 bs (sym c.start_of.ensures ∙ c.in-N.is) in
    omega (arith, start-whole 0x32 3 bs h)

pub word-second-requires : goal.word-second-requires
word-second-requires c =
    let bs = c.args.bytes.now in
    let h = start-clear 0x32 3 bs (sym c.start_of.ensures ∙ c.in-N.is) in
    omega (arith, start-whole 0x32 3 bs h)

pub words_at-requires : goal.words_at-requires
words_at-requires c =
    let bs = c.args.bytes.now in
    let e = sym c.start_of.ensures ∙ c.in-N.is in
    let h = start-clear 0x32 3 bs e in
    omega (arith, start-n 0x32 3 bs e, start-few 0x32 3 bs h, start-whole 0x32 3 bs h, length-take {A = ℕ} c.in-N.n (replicate 31 0))

pub returns-in-Refused : goal.returns-in-Refused
returns-in-Refused c =
    let bs = c.args.bytes.now in
    c.refusal.ensures
    ∙ sym (start-refused 0x32 3 bs refused_recall (frame_in (n_byte bs) (words_after 3 bs)) (sym c.start_of.ensures ∙ c.in-Refused.is))

pub returns-in_default : goal.returns-in_default
returns-in_default c =
    let n = c.in-N.n in
    let bs = c.args.bytes.now in
    let e₁ = c.word-first.ensures in
    let e₂ = c.word-second.ensures in
    c.refusal-in_default.ensures
    ∙ sym (start-passed 0x32 3 bs (sym c.start_of.ensures ∙ c.in-N.is) refused_recall frame_in
    ∙ found-none n c.word-first.result c.word-second.result (sym c.header_in.ensures ∙ c.in_default.is) (n-unequal n bs e₁ e₂) (preamble-wrong n bs e₁ e₂))

pub returns : goal.returns
returns c =
    let n = c.in-N.n in
    let bs = c.args.bytes.now in
    let e = sym c.start_of.ensures ∙ c.in-N.is in
    let few : n ≤ 31 = omega (arith, start-n 0x32 3 bs e, start-few 0x32 3 bs (start-clear 0x32 3 bs e)) in
    let found = found-some n c.word-first.result c.word-second.result (sym c.header_in.ensures ∙ c.in-Some.is) in
    ap (λ f. record { answer = Record (3 * n + 9); frame = f })
    (c.built.ensures ∙ ap₂ (λ h ws. built_of h n ws) (sym found.1.1) (words-read 3 n (drop 9 bs) few c.words_at.ensures)
    ∙ frame_is n c.word-first.result c.word-second.result (words_from 3 n (drop 9 bs)) (length-words 3 n (drop 9 bs)))
    ∙ sym (start-passed 0x32 3 bs (sym c.start_of.ensures ∙ c.in-N.is) refused_recall frame_in
    ∙ both_right n bs c.word-first.ensures c.word-second.ensures found.0 found.1.0)
