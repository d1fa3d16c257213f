-- `keep_words` meets its contract: the refusals in the order of the definition, then the record. Assumes nothing.
use mathlib.Core.Path.{◌≡◌, refl, sym, ap, ◌∙◌}
use mathlib.Core.Bool.{false}
use Prim.Native.Nat.{◌%◌}
use native.Mathlib.Omega.{arith}
use lib.ListN.{length, take, length-take}
use lib.Seq.{sets}
use borrow.Author.Rules.{rules}
use Rattle.frame.specs.Widths.{outside}
use Rattle.frame.proofs.WidthLaws.{told-within}
use Rattle.frame.proofs.FrameLaws.{n_within}
use Rattle.journal.specs.Words.{pair_number, windows_from, words_record}
use Rattle.journal.specs.Forms.{record_with}
use Rattle.journal.proofs.PutLaws.{put-over}
use Rattle.journal.proofs.KeepLaws.{words-refused}
use Rattle.journal.proofs.TurnLaws.{store-behind}
use borrow.Author.Tests.{le-ltb}
use Rattle.journal.proofs.LiveLaws.{number-lt-four, told_below, live_written, live_words, length-live}
use Rattle.journal.proofs.keep_words.Goals as goal

pub returns-in_default-header_words : goal.returns-in_default-header_words
returns-in_default-header_words c =
    let within : outside c.args.frame ≡ false = told-within (outside c.args.frame) (sym c.in-Ok.is ∙ c.frame_widths.ensures) in
    absurd (words-refused c.args.frame within (sym c.header_words.ensures ∙ c.in_default-header_words.is))

pub window_of-first-requires : goal.window_of-first-requires
window_of-first-requires c =
    let within : outside c.args.frame ≡ false = told-within (outside c.args.frame) (sym c.in-Ok.is ∙ c.frame_widths.ensures) in
    let below = told_below c.args.frame within (sym c.header_words.ensures ∙ c.in-Ok-header_words.is) in
    record { carried_bound = number-lt-four c.args.frame within; data_bound = below.0 }

pub window_of-second-requires : goal.window_of-second-requires
window_of-second-requires c =
    let within : outside c.args.frame ≡ false = told-within (outside c.args.frame) (sym c.in-Ok.is ∙ c.frame_widths.ensures) in
    let below = told_below c.args.frame within (sym c.header_words.ensures ∙ c.in-Ok-header_words.is) in
    record { carried_bound = omega arith; data_bound = below.1.0 }

pub put_windows-requires : goal.put_windows-requires
put_windows-requires c =
    let within : outside c.args.frame ≡ false = told-within (outside c.args.frame) (sym c.in-Ok.is ∙ c.frame_widths.ensures) in
    let below = told_below c.args.frame within (sym c.header_words.ensures ∙ c.in-Ok-header_words.is) in
    record { below = below.1.1; carried_bound = omega arith; in_bounds = omega (arith, n_within c.args.frame within, length-take c.args.frame.n c.args.frame.words) }

pub returns-clause-buffer_after : goal.returns-clause-buffer_after
returns-clause-buffer_after c =
    let within : outside c.args.frame ≡ false = told-within (outside c.args.frame) (sym c.in-Ok.is ∙ c.frame_widths.ensures) in
    let f = c.args.frame in
    let full : length f.words ≡ 31 = search rules in
    let b = c.args.buffer.now in
    let v = c.window_of-first.result in
    let u = c.window_of-second.result in
    let ws = take f.n f.words in
    let put = store-behind 4 b 0x34 f.n v u (windows_from (u % 4) ws) c.put_start.ensures c.put_windows.ensures
    ∙ ap (λ vs. sets b 0 (record_with 0x34 4 f.n vs))
    (live_words (pair_number f.carried) c.in-Ok-header_words.first c.in-Ok-header_words.second ws c.window_of-first.ensures c.window_of-second.ensures refl)
    ∙ ap (sets b 0) (live_written f within (sym c.header_words.ensures ∙ c.in-Ok-header_words.is)) in
    rw (within, le-ltb _ _ c.if-buffer-length.false) (put-over (words_record f) b (length-live f within full) c.if-buffer-length.false put)
