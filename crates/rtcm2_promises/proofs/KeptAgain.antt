-- A record that was recalled is kept again as it was: its five numbers and its data words say the frame. Assumes nothing.
use mathlib.Core.Path.{◌≡◌, sym, ap, ◌∙◌}
use mathlib.Core.Bool.{cond, not}
use mathlib.Core.List.{List, [], ◌∷◌, ◌++◌, append-nil}
use Prim.Native.Nat.{ℕ, ◌*◌, ◌/◌, ◌%◌}
use native.Mathlib.Omega.{arith}
use lib.Dec.{ltb, eqb}
use lib.ListN.{length, take, drop, take-append-drop}
use lib.Seq.{take_at}
use borrow.Author.Tests.{le-ltb, eq-eqb}
use Rattle.answer.specs.Order.{refuses, answers}
use Rattle.answer.proofs.OrderLaws.{order-answers}
use Rattle.bits.specs.Fields.{AreBytes}
use Rattle.frame.specs.Header.{code_of}
use Rattle.frame.specs.Frames.{framed, data_words}
use Rattle.frame.specs.declared.Frame.{Frame}
use Rattle.frame.specs.declared.Header.{Header}
use Rattle.frame.proofs.StateLaws.{code_lt, state-code}
use Rattle.frame.proofs.FrameLaws.{n_within, words-below, below-take, length-data, framed-again}
use Rattle.journal.specs.Bytes.{written, words_from}
use Rattle.journal.proofs.WordLaws.{length-written, words-written}
use Rattle.journal.proofs.RoundTrip.{fit-below, Reread, reread, recalled-bare}
use Rattle.rtcm2.specs.Frames.{words_said, keep_said, kept_to, held_to, recall_said}
use Rattle.rtcm2.specs.Orders.{header_with}
use Rattle.rtcm2.proofs.MakeOrders.{headed-order}
use Rattle.rtcm2.proofs.RecallLaws.{recalled-coded}
use Rattle.promises.proofs.Demand2.{reads-back-equal}
use Rattle.rtcm2_promises.specs.ReadsBack.{KeptAgain}
use Rattle.rtcm2_promises.proofs.ReadsBack.{record-data}

module _ (bytes : List ℕ) (size : ℕ) (f : Frame) (fits : AreBytes bytes) (e : recall_said bytes ≡ answers (size, f)) where
  r : Reread bytes f size
  r = reread bytes fits f size e

  abbrev words : List ℕ
  words = take (3 * f.n) (drop 9 bytes)

  count : length (data_words f) ≡ f.n
  count = length-data f r.inside r.full

  -- the bytes from the tenth on are those of its data words
  words_are : words ≡ written 3 (data_words f)
  words_are =
      ap (λ l. take (3 * f.n) (drop 9 l)) (sym (take-append-drop size bytes) ∙ ap (λ l. l ++ drop size bytes) (sym r.bytes-are))
      ∙ ap (take (3 * f.n)) (record-data f (drop size bytes))
      ∙ take_at (written 3 (data_words f)) (drop size bytes) (3 * f.n) (length-written 3 (data_words f) ∙ ap (λ m. 3 * m) count)

  long : length words ≡ 3 * f.n
  long = ap length words_are ∙ length-written 3 (data_words f) ∙ ap (λ m. 3 * m) count

  third : length words / 3 ≡ f.n
  third = omega (arith, long)

  data-back : words_from 3 (length words / 3) words ≡ data_words f
  data-back =
      ap (λ m. words_from 3 m words) (third ∙ sym count) ∙ ap (words_from 3 (length (data_words f))) (words_are ∙ sym (append-nil (written 3 (data_words f))))
      ∙ words-written 3 (data_words f) [] (fit-below (data_words f) (below-take f.n f.words (words-below f r.inside)))

  words-say : words_said f.header words ≡ answers f
  words-say =
      order-answers refuses (answers (framed f.header (words_from 3 (length words / 3) words)))
      ((not (eqb (length words % 3) 0), 5) ∷ (ltb 31 (length words / 3), 5) ∷ [])
      (ap not (eq-eqb (length words % 3) 0 (omega (arith, long))), (le-ltb 31 (length words / 3) (omega (arith, third, n_within f r.inside)), tt))
      ∙ ap (λ ws. answers (framed f.header ws)) data-back ∙ ap answers (framed-again f r.inside r.full ∙ recalled-bare bytes fits f size e)

  say-again : keep_said f.header.kind f.header.station f.header.z f.header.sequence (code_of f.header.state) words ≡ answers f
  say-again =
      headed-order f.header.kind f.header.station f.header.z f.header.sequence (code_of f.header.state) (λ h. words_said h words)
      ∙ ap (λ t. cond t (refuses 5) (words_said again words)) (le-ltb 7 (code_of f.header.state) (omega (arith, code_lt f.header.state)))
      ∙ ap (λ h. words_said h words) same ∙ words-say
    where
      again : Header
      again = header_with f.header.kind f.header.station f.header.z f.header.sequence (code_of f.header.state)

      same : again ≡ f.header
      same = ap (λ s. record { kind = f.header.kind; station = f.header.station; z = f.header.z; sequence = f.header.sequence; state = s })
          (state-code f.header.state (recalled-coded bytes {size = size} {f = f} (sym e)))

pub kept_again : KeptAgain
kept_again bytes lent size f fits e room =
    let k = reads-back-equal.kept_again bytes f size lent fits e room in
    (ap (λ s. kept_to s lent) (say-again bytes size f fits e) ∙ k.0, ap (λ s. held_to s lent) (say-again bytes size f fits e) ∙ k.1)
