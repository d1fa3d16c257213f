-- What is promised of the journal that keeps the words holds. Assumes nothing.
use mathlib.Core.Path.{◌≡◌, sym, ap, ◌∙◌}
use mathlib.Core.List.{List, ◌++◌}
use Prim.Native.Nat.{ℕ, ◌+◌, ◌*◌}
use lib.ListN.{length, take, drop}
use lib.Seq.{take_at}
use Rattle.answer.specs.Order.{answers, NoneApplies}
use Rattle.answer.proofs.OrderLaws.{order-answers}
use Rattle.frame.specs.declared.Frame.{Frame}
use Rattle.journal.specs.Journal.{says_kept, says_recalled}
use Rattle.journal.specs.Words.{words_record, keep_words_order, kept_words, held_words, recalled_words}
use Rattle.journal.specs.declared.Kept.TheVariants as kept
use Rattle.journal.proofs.LiveLaws.{length-live}
use Rattle.journal.proofs.WordsTrip.{recall-words-record, keep-words-recalled}
use Rattle.journal_moves.proofs.BackLaws.{journals}
use Rattle.promises.specs.WordsKept.{WordsKept}
use Rattle.promises.proofs.CarriesItsNumber.{carries-its-number, says-inj, none_told}

words-front : (f : Frame) (buffer rest : List ℕ) (k : ℕ) → length f.words ≡ 31 → says_kept (kept_words f buffer) ≡ answers k
    → (k ≡ 4 * f.n + 11) × (says_recalled (recalled_words (take k (held_words f buffer) ++ rest)) ≡ answers (k, f))
words-front f buffer rest k full e = (
  long,
  ap (λ l. says_recalled (recalled_words (l ++ rest))) front ∙ ap says_recalled (recall-words-record f full none.0 rest) ∙ ap (λ j. answers (j, f)) (sym long),
)
  where
    none : NoneApplies (keep_words_order f buffer)
    none = none_told (carries-its-number.keep-words f buffer) k e

    long : k ≡ 4 * f.n + 11
    long = says-inj (sym e ∙ ap says_kept (order-answers kept.Refused (kept.Done (4 * f.n + 11)) (keep_words_order f buffer) none))

    front : take k (held_words f buffer) ≡ words_record f
    front =
        ap (take k) (order-answers (λ n. buffer) (words_record f ++ drop (4 * f.n + 11) buffer) (keep_words_order f buffer) none)
        ∙ take_at (words_record f) (drop (4 * f.n + 11) buffer) k (length-live f none.0 full ∙ sym long)

pub words-kept : WordsKept
words-kept = record {
  recalled = words-front;
  kept_again = λ bs f k buffer fits e l. keep-words-recalled bs fits f k e buffer l;
  journals = journals;
}
