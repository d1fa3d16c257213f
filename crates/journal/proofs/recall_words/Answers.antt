-- `recall_words` meets its contract: the start of the record settles the first four numbers of the order, its words the others. Assumes nothing.
use mathlib.Core.Path.{sym, ap, ap₂, ◌∙◌}
use mathlib.Core.List.{◌++◌}
use Prim.Native.Nat.{ℕ, ◌+◌, ◌*◌, ◌/◌, ◌^◌, ◌≤◌}
use native.Mathlib.Omega.{arith}
use lib.ListN.{drop, replicate, length-take}
use Rattle.bits.specs.Bits.{bits}
use Rattle.frame.specs.Header.{header_of}
use Rattle.journal.specs.Bytes.{words_from}
use Rattle.journal.specs.Forms.{n_byte, words_after}
use Rattle.journal.specs.Journal.{refused_recall}
use Rattle.journal.specs.declared.Found.TheVariants.{Record}
use Rattle.journal.specs.Words.{pair_numbered, live_in}
use Rattle.journal.proofs.WordLaws.{length-words}
use Rattle.journal.proofs.TurnLaws.{words-read}
use Rattle.journal.proofs.FormLaws.{start-refused, start-clear, start-n, start-few, start-whole, start-passed}
use Rattle.journal.proofs.DataLaws.{found-none, found-some}
use Rattle.journal.proofs.LiveLaws.{live-data-array, live-unequal, live-preamble, live-broken, live-found}
use Rattle.journal.proofs.recall_words.Goals as goal

pub word-window-requires : goal.word-window-requires
word-window-requires c =
    let bs = c.args.bytes.now in
    let h = start-clear 0x34 4 bs (sym c.start_of.ensures ∙ c.in-N.is) in
    omega (arith, start-whole 0x34 4 bs h)

pub word-requires : goal.word-requires
word-requires c =
    let bs = c.args.bytes.now in
    let h = start-clear 0x34 4 bs (sym c.start_of.ensures ∙ c.in-N.is) in
    omega (arith, start-whole 0x34 4 bs h)

pub is_broken-requires : goal.is_broken-requires
is_broken-requires c =
    let bs = c.args.bytes.now in
    let e = sym c.start_of.ensures ∙ c.in-N.is in
    let h = start-clear 0x34 4 bs e in
    omega (arith, start-n 0x34 4 bs e, start-few 0x34 4 bs h, start-whole 0x34 4 bs h)

pub words_at-requires : goal.words_at-requires
words_at-requires c =
    let bs = c.args.bytes.now in
    let e = sym c.start_of.ensures ∙ c.in-N.is in
    let h = start-clear 0x34 4 bs e in
    omega (arith, start-n 0x34 4 bs e, start-few 0x34 4 bs h, start-whole 0x34 4 bs h, length-take {A = ℕ} c.in-N.n (replicate 31 0))

pub returns-in-Refused : goal.returns-in-Refused
returns-in-Refused c =
    let bs = c.args.bytes.now in
    c.refusal.ensures
    ∙ sym (start-refused 0x34 4 bs refused_recall (live_in (n_byte bs) (words_after 4 bs)) (sym c.start_of.ensures ∙ c.in-Refused.is))

pub returns-in_default : goal.returns-in_default
returns-in_default c =
    let n = c.in-N.n in
    let bs = c.args.bytes.now in
    let ev = c.word-window.ensures in
    let eu = c.word.ensures in
    let e₁ = c.data_of-first.ensures in
    let e₂ = c.data_of-second.ensures in
    c.refusal-in_default.ensures
    ∙ sym (start-passed 0x34 4 bs (sym c.start_of.ensures ∙ c.in-N.is) refused_recall live_in
    ∙ found-none n c.data_of-first.result c.data_of-second.result (sym c.header_in.ensures ∙ c.in_default.is)
    (live-unequal n bs ev eu e₁ e₂) (live-preamble n bs ev eu e₁ e₂))

pub returns-then-is_broken : goal.returns-then-is_broken
returns-then-is_broken c =
    let n = c.in-N.n in
    let bs = c.args.bytes.now in
    let ev = c.word-window.ensures in
    let eu = c.word.ensures in
    let e₁ = c.data_of-first.ensures in
    let e₂ = c.data_of-second.ensures in
    let found = found-some n c.data_of-first.result c.data_of-second.result (sym c.header_in.ensures ∙ c.in-Some.is) in
    c.refusal-then-is_broken.ensures
    ∙ sym (start-passed 0x34 4 bs (sym c.start_of.ensures ∙ c.in-N.is) refused_recall live_in
    ∙ live-broken n bs ev eu e₁ e₂ found.0 found.1.0 (sym c.is_broken.ensures ∙ c.if-is_broken.true))

pub returns : goal.returns
returns c =
    let n = c.in-N.n in
    let bs = c.args.bytes.now in
    let ev = c.word-window.ensures in
    let eu = c.word.ensures in
    let e₁ = c.data_of-first.ensures in
    let e₂ = c.data_of-second.ensures in
    let found = found-some n c.data_of-first.result c.data_of-second.result (sym c.header_in.ensures ∙ c.in-Some.is) in
    let vs = words_from 4 n (drop 11 bs) in
    let e = sym c.start_of.ensures ∙ c.in-N.is in
    let few : n ≤ 31 = omega (arith, start-n 0x34 4 bs e, start-few 0x34 4 bs (start-clear 0x34 4 bs e)) in
    let ws = live-data-array n vs (length-words 4 n (drop 11 bs)) (words-read 4 n (drop 11 bs) few c.words_at.ensures) c.receive.ensures in
    ap₂ (λ h k. record { answer = Record (4 * n + 11); frame = record { header = h; carried = k; n = n; words = c.receive.new.words ++ drop n (c.words_at.new.words ++ drop {A = ℕ} n (replicate 31 0)) } })
    (sym found.1.1) c.pair_of.ensures
    ∙ ap (λ ws. record {
      answer = Record (4 * n + 11);
      frame = record { header = header_of (bits 24 c.data_of-first.result) (bits 24 c.data_of-second.result); carried = pair_numbered (c.word-window.result / 2 ^ 30); n = n; words = ws };
    }) ws
    ∙ live-found n bs ev eu e₁ e₂ found.0 found.1.0 (sym c.is_broken.ensures ∙ c.if-is_broken.false)
    ∙ sym (start-passed 0x34 4 bs (sym c.start_of.ensures ∙ c.in-N.is) refused_recall live_in)
