-- `read_text` meets its contract: the stages in their order, each with what it says, then the characters. Assumes nothing.
use mathlib.Core.Path.{◌≡◌, sym, ap, ap₂, ◌∙◌}
use mathlib.Core.Bool.{false}
use mathlib.Core.List.{◌++◌}
use Prim.Native.Nat.{ℕ}
use native.Mathlib.Omega.{arith}
use lib.Dec.{ltb}
use lib.ListN.{length, take, drop, length-take}
use lib.Seq.{length-take-le}
use Rattle.bits.specs.Rows.{data_bits}
use Rattle.record_stages.specs.declared.Count.TheVariants as count
use borrow.Author.Rules.{rules}
use borrow.Author.Tests.{ltb-false}
use Rattle.frame.specs.Answer.{frame_widths, clock_of}
use Rattle.frame.specs.declared.Layout.TheVariants as layout
use Rattle.frame.specs.Widths.{any_of}
use Rattle.record_stages.specs.declared.Asked.TheVariants.{Same}
use Rattle.record_stages.specs.Stages.{asked_of}
use Rattle.record_stages.proofs.StageLaws.{told-refused, told-granted}
use Rattle.record_texts.specs.Texts.{characters, wrong_words, forbidden}
use Rattle.record_texts.proofs.TextCode.{text5, text6, text7, text8, text11, text13, text-done, Found, found, some_words}
use Rattle.record_texts.proofs.read_text.Goals as goal
use Rattle.answer.specs.Table.{granted}

pub returns-in_default : goal.returns-in_default
returns-in_default c =
    let a = c.args in
    text5 a.frame a.buffer.now (sym c.in_default.is ∙ c.frame_widths.ensures)

pub returns-in_default-asked_of : goal.returns-in_default-asked_of
returns-in_default-asked_of c =
    let within : granted ≡ frame_widths c.args.frame = sym c.in-Ok.is ∙ c.frame_widths.ensures in
    let a = c.args in
    text6 a.frame a.buffer.now within (sym c.in_default-asked_of.is ∙ c.asked_of.ensures)

pub returns-in_default-clock_of : goal.returns-in_default-clock_of
returns-in_default-clock_of c =
    let within : granted ≡ frame_widths c.args.frame = sym c.in-Ok.is ∙ c.frame_widths.ensures in
    let same : Same ≡ asked_of layout.Text c.args.frame.header.kind = sym c.in-Same.is ∙ c.asked_of.ensures in
    let a = c.args in
    text7 a.frame a.buffer.now within same (sym c.in_default-clock_of.is ∙ c.clock_of.ensures)

pub returns-in_default-words_size : goal.returns-in_default-words_size
returns-in_default-words_size c =
    let within : granted ≡ frame_widths c.args.frame = sym c.in-Ok.is ∙ c.frame_widths.ensures in
    let same : Same ≡ asked_of layout.Text c.args.frame.header.kind = sym c.in-Same.is ∙ c.asked_of.ensures in
    let hour : granted ≡ clock_of c.args.frame.header.z = sym c.in-Ok-clock_of.is ∙ c.clock_of.ensures in
    let a = c.args in
    text8 a.frame a.buffer.now within same hour (told-refused 8 _ (sym c.in_default-words_size.is ∙ c.words_size.ensures))

pub text_length-count-requires : goal.text_length-count-requires
text_length-count-requires c =
    let n : ℕ = c.args.frame.n in
    let s = some_words n (told-granted 8 _ (sym c.in-Ok-words_size.is ∙ c.words_size.ensures)) in (s.0, omega (arith, s.1))

pub characters_of-requires : goal.characters_of-requires
characters_of-requires c =
    let found : Found c.args.frame c.text_length-count.result =
    found c.args.frame c.text_length-count.result (sym c.in-Ok.is ∙ c.frame_widths.ensures) (search rules)
    (told-granted 8 _ (sym c.in-Ok-words_size.is ∙ c.words_size.ensures)) c.text_length-count.ensures in found.few

pub returns-in_default-characters_of : goal.returns-in_default-characters_of
returns-in_default-characters_of c =
    let within : granted ≡ frame_widths c.args.frame = sym c.in-Ok.is ∙ c.frame_widths.ensures in
    let same : Same ≡ asked_of layout.Text c.args.frame.header.kind = sym c.in-Same.is ∙ c.asked_of.ensures in
    let hour : granted ≡ clock_of c.args.frame.header.z = sym c.in-Ok-clock_of.is ∙ c.clock_of.ensures in
    let right : wrong_words c.args.frame.n ≡ false = told-granted 8 _ (sym c.in-Ok-words_size.is ∙ c.words_size.ensures) in
    let found : Found c.args.frame c.text_length-count.result =
    found c.args.frame c.text_length-count.result within (search rules) right c.text_length-count.ensures in
    let a = c.args in
    text11 a.frame a.buffer.now within same hour right
    (ap₂ (λ s t. any_of (forbidden s) t) (sym c.system_of.ensures) (sym found.text) ∙ told-refused 11 _ (sym c.in_default-characters_of.is ∙ c.characters_of.ensures))

pub returns-in_default-room_of : goal.returns-in_default-room_of
returns-in_default-room_of c =
    let within : granted ≡ frame_widths c.args.frame = sym c.in-Ok.is ∙ c.frame_widths.ensures in
    let same : Same ≡ asked_of layout.Text c.args.frame.header.kind = sym c.in-Same.is ∙ c.asked_of.ensures in
    let hour : granted ≡ clock_of c.args.frame.header.z = sym c.in-Ok-clock_of.is ∙ c.clock_of.ensures in
    let right : wrong_words c.args.frame.n ≡ false = told-granted 8 _ (sym c.in-Ok-words_size.is ∙ c.words_size.ensures) in
    let found : Found c.args.frame c.text_length-count.result =
    found c.args.frame c.text_length-count.result within (search rules) right c.text_length-count.ensures in
    let a = c.args in
    text13 a.frame a.buffer.now within same hour right
    (ap₂ (λ s t. any_of (forbidden s) t) (sym c.system_of.ensures) (sym found.text) ∙ told-granted 11 _ (sym c.in-Ok-characters_of.is ∙ c.characters_of.ensures))
    (ap (ltb (length a.buffer.now)) (sym found.number) ∙ told-refused 13 _ (sym c.in_default-room_of.is ∙ c.room_of.ensures))

pub write_text-requires : goal.write_text-requires
write_text-requires c =
    let found : Found c.args.frame c.text_length-count.result =
    found c.args.frame c.text_length-count.result (sym c.in-Ok.is ∙ c.frame_widths.ensures) (search rules)
    (told-granted 8 _ (sym c.in-Ok-words_size.is ∙ c.words_size.ensures)) c.text_length-count.ensures in
    omega (arith, found.few, length-take c.text_length-count.result c.args.buffer.now)

pub returns : goal.returns
returns c =
    let within : granted ≡ frame_widths c.args.frame = sym c.in-Ok.is ∙ c.frame_widths.ensures in
    let same : Same ≡ asked_of layout.Text c.args.frame.header.kind = sym c.in-Same.is ∙ c.asked_of.ensures in
    let hour : granted ≡ clock_of c.args.frame.header.z = sym c.in-Ok-clock_of.is ∙ c.clock_of.ensures in
    let right : wrong_words c.args.frame.n ≡ false = told-granted 8 _ (sym c.in-Ok-words_size.is ∙ c.words_size.ensures) in
    let m : ℕ = c.text_length-count.result in
    let found : Found c.args.frame c.text_length-count.result =
    found c.args.frame c.text_length-count.result within (search rules) right c.text_length-count.ensures in
    let f = c.args.frame in
    let u = c.args.buffer.now in
    let small : ltb (length u) m ≡ false = told-granted 13 _ (sym c.in-Ok-room_of.is ∙ c.room_of.ensures) in
    let lent : length (take m u) ≡ m = length-take-le m u (ltb-false _ _ small) in
    let done =
    text-done f u within same hour right
    (ap₂ (λ s t. any_of (forbidden s) t) (sym c.system_of.ensures) (sym found.text) ∙ told-granted 11 _ (sym c.in-Ok-characters_of.is ∙ c.characters_of.ensures))
    (ap (ltb (length u)) (sym found.number) ∙ small) in (
      ap count.Of found.number ∙ done.0,
      ap₂ ◌++◌ (c.write_text.ensures ∙ ap (λ k. characters k (data_bits f.words)) lent ∙ found.text) (ap (λ k. drop k u) found.number) ∙ done.1,
    )
