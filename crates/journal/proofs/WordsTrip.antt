-- ROUND TRIP of the words, over the definitions that the contracts cite. Recalling what was kept gives the frame with its pair and the record's
-- length, whatever follows; keeping what was recalled gives the record's own bytes. Assumes nothing.
use mathlib.Core.Path.{◌≡◌, refl, sym, ap, ap₂, subst, ◌∙◌}
use mathlib.Core.Bool.{false}
use mathlib.Core.List.{List, [], ◌∷◌, ◌++◌}
use Prim.Native.Nat.{ℕ, zero, suc, ◌+◌, ◌*◌, ◌/◌, ◌%◌, ◌≤◌, ◌<◌}
use native.Mathlib.Omega.{arith}
use lib.ListN.{length, take, drop, replicate}
use borrow.Author.Tests.{le-ltb}
use Rattle.answer.specs.Order.{answers, refuses, NoneApplies}
use Rattle.answer.proofs.OrderLaws.{order-answers, none-append, none-parts, says_none}
use Rattle.bits.specs.Bits.{bits, number}
use Rattle.bits.specs.Fields.{Fit, AreBytes}
use Rattle.bits.proofs.Numbers.{number_lt}
use Rattle.word.specs.Word.{data_of}
use Rattle.word.proofs.Sending.{length-data_of}
use Rattle.frame.specs.Frames.{after_pair, bare, words_of, frame_of, Below}
use Rattle.frame.specs.Widths.{pair_outside, outside}
use Rattle.frame.specs.declared.Carried.{Carried}
use Rattle.frame.specs.declared.Frame.{Frame}
use Rattle.frame.proofs.FrameLaws.{n_within, pair-within, below-words, frame-words, words-after, after-inside}
use Rattle.journal.specs.Forms.{record_with, n_byte, words_after, start_order}
use Rattle.journal.specs.Journal.{data_order, refused_recall, says_kept, says_recalled}
use Rattle.journal.specs.Words.{pair_number, pair_numbered, windows_from, words_record, data_in, broken_after, carried_in, broken}
use Rattle.journal.specs.Words.{keep_words_order, kept_words, held_words, live_order, recall_words_order, found_words, recalled_words}
use Rattle.journal.specs.declared.Found.TheVariants.{Record}
use Rattle.journal.specs.declared.Kept.TheVariants as kept
use Rattle.journal.proofs.WordLaws.{length-words, fit_words}
use Rattle.journal.proofs.FormLaws.{start-few, record-starts, record-words, record-taken}
use Rattle.journal.proofs.WindowLaws.{window-first, windows-fit, windows-data, windows-sound, windows-again, length-data}
use Rattle.journal.proofs.LiveLaws.{two-bits, number-lt-four, count-windows}
use Rattle.journal.proofs.RoundTrip.{own-data, OwnWords, frame-again, refused-stays}

-- ---- a pair and its number

pub pair-back : (k : Carried) → pair_outside k ≡ false → pair_numbered (pair_number k) ≡ k
pair-back k e =
    let t = two-bits k e in
    let a : (k.d29 * 2 + k.d30) / 2 ≡ k.d29 = omega (arith, t.high, t.low) in
    let b : (k.d29 * 2 + k.d30) % 2 ≡ k.d30 = omega (arith, t.high, t.low) in
    ap₂ (λ x y. record { d29 = x; d30 = y }) a b

number-back : (c : ℕ) → pair_number (pair_numbered c) ≡ c
number-back c = omega arith

numbered-inside : (c : ℕ) → c < 4 → pair_outside (pair_numbered c) ≡ false
unfolding pair_outside
numbered-inside c h = rw (le-ltb 1 (c / 2) (omega arith), le-ltb 1 (c % 2) (omega arith))

-- ---- a frame after a pair

own_pair : (f : Frame) → after_pair f.carried (bare f) ≡ f
unfolding after_pair
own_pair f = refl

pub after-n : (k : Carried) (g : Frame) → g.n ≡ (after_pair k g).n
unfolding after_pair
after-n k g = refl

pub after-full : (k : Carried) (g : Frame) → length g.words ≡ 31 → length (after_pair k g).words ≡ 31
unfolding after_pair
after-full k g h = h

after-pair : (k : Carried) (g : Frame) → pair_number (after_pair k g).carried ≡ pair_number k
unfolding after_pair
after-pair k g = refl

-- ---- recall after keep

module _ (f : Frame) (full : length f.words ≡ 31) (e : outside f ≡ false) where
  data-back : data_in (windows_from (pair_number f.carried) (words_of f)) ≡ words_of f
  data-back = windows-data (pair_number f.carried) (words_of f) (below-words f e)

  pair-first : carried_in (windows_from (pair_number f.carried) (words_of f)) ≡ pair_number f.carried
  unfolding windows_from words_of
  pair-first = window-first (pair_number f.carried) _

  module _ (rest : List ℕ) where
    words_back : words_after 4 (words_record f ++ rest) ≡ windows_from (pair_number f.carried) (words_of f)
    unfolding words_record
    words_back =
        record-words 0x34 4 f.n (windows_from (pair_number f.carried) (words_of f)) rest (count-windows f e full)
        (windows-fit (pair_number f.carried) (words_of f) (number-lt-four f e))

    own-live : NoneApplies (live_order f.n (windows_from (pair_number f.carried) (words_of f)))
    own-live =
        none-append (data_order f.n (data_in (windows_from (pair_number f.carried) (words_of f)))) ((
          broken (windows_from (pair_number f.carried)
              (words_of f)),
          17,
        ) ∷ [])
        (subst (λ ws. NoneApplies (data_order f.n ws)) (sym data-back) (own-data f full e))
        (ap (λ c. broken_after c (windows_from (pair_number f.carried) (words_of f))) pair-first ∙ windows-sound (pair_number f.carried) (words_of f), tt)

    pub live-clear : NoneApplies (recall_words_order (words_record f ++ rest))
    unfolding words_record
    live-clear =
        none-append (start_order 0x34 4 (words_record f ++ rest)) (live_order f.n (words_after 4 (words_record f ++ rest)))
        (record-starts 0x34 4 f.n (windows_from (pair_number f.carried) (words_of f)) rest (count-windows f e full) (n_within f e))
        (subst (λ vs. NoneApplies (live_order f.n vs)) (sym words_back) own-live)

    -- the data of its words
    pub live-data : data_in (words_after 4 (words_record f ++ rest)) ≡ words_of f
    live-data = ap data_in words_back ∙ data-back

    -- THE FRAME WITH ITS PAIR, AND THE LENGTH
    pub recall-words-record : recalled_words (words_record f ++ rest) ≡ record { answer = Record (4 * f.n + 11); frame = f }
    unfolding words_record
    recall-words-record =
        order-answers refused_recall (found_words f.n (words_after 4 (words_record f ++ rest))) (recall_words_order (words_record f ++ rest)) live-clear
        ∙ ap (found_words f.n) words_back
        ∙ ap (λ g. record { answer = Record (4 * f.n + 11); frame = g }) same
      where
        same : after_pair (pair_numbered (carried_in (windows_from (pair_number f.carried) (words_of f))))
            (frame_of (data_in (windows_from (pair_number f.carried) (words_of f)))) ≡ f
        same =
            ap₂ (λ k ws. after_pair k (frame_of ws)) (ap pair_numbered pair-first ∙ pair-back f.carried (pair-within f e)) data-back
            ∙ ap (after_pair f.carried) (frame-words f e full) ∙ own_pair f

-- ---- keep after recall

below-data : (vs : List ℕ) → Below (data_in vs)
below-data [] = tt
below-data (v ∷ vs) = (rw (length-data_of (bits 32 v)) at (number_lt (data_of (bits 32 v))), below-data vs)

first-lt : (vs : List ℕ) (n : ℕ) → Fit (replicate n 32) vs → carried_in vs < 4
first-lt [] n f = omega arith
first-lt (v ∷ vs) zero f = absurd f
first-lt (v ∷ vs) (suc n) f = omega (arith, f.0)

-- bytes that are not refused: the data of their words is that of a frame within its widths
pub live_own : (bs : List ℕ) → NoneApplies (recall_words_order bs) → OwnWords (n_byte bs) (data_in (words_after 4 bs))
live_own bs passed =
    let m = suc (suc (n_byte bs)) in
    let vs = words_after 4 bs in
    let parts = none-parts (start_order 0x34 4 bs) (live_order (n_byte bs) vs) passed in
    frame-again (n_byte bs) (data_in vs) (length-data vs ∙ length-words 4 m (drop 3 bs)) (below-data vs)
    (start-few 0x34 4 bs parts.0) (none-parts (data_order (n_byte bs) (data_in vs)) ((broken vs, 17) ∷ []) parts.1).0

-- their frame after the pair of their first word
pub live-full : (bs : List ℕ) → NoneApplies (recall_words_order bs)
    → length (after_pair (pair_numbered (carried_in (words_after 4 bs))) (frame_of (data_in (words_after 4 bs)))).words ≡ 31
live-full bs passed = after-full (pair_numbered (carried_in (words_after 4 bs))) (frame_of (data_in (words_after 4 bs))) (live_own bs passed).full

pub live_inside : (bs : List ℕ) → NoneApplies (recall_words_order bs)
    → outside (after_pair (pair_numbered (carried_in (words_after 4 bs))) (frame_of (data_in (words_after 4 bs)))) ≡ false
live_inside bs passed =
    let m = suc (suc (n_byte bs)) in
    after-inside (pair_numbered (carried_in (words_after 4 bs))) (frame_of (data_in (words_after 4 bs)))
    (numbered-inside (carried_in (words_after 4 bs)) (first-lt (words_after 4 bs) m (fit_words 4 m (drop 3 bs)))) (live_own bs passed).inside

-- A frame that was recalled with a length: it is within its widths, the length is that of its record, and its record is the bytes that were read.
pub record RereadWords (bs : List ℕ) (f : Frame) (size : ℕ) : Type 0 where
  pub full : length f.words ≡ 31
  pub inside : outside f ≡ false
  pub size_is : size ≡ 4 * f.n + 11
  pub bytes-are : words_record f ≡ take size bs

module _ (bs : List ℕ) (fits : AreBytes bs) (f : Frame) (size : ℕ) (h : says_recalled (recalled_words bs) ≡ answers (size, f)) where
  passed : NoneApplies (recall_words_order bs)
  passed = says_none says_recalled refused_recall (λ n. refl) (found_words (n_byte bs) (words_after 4 bs)) (recall_words_order bs) h

  parts : NoneApplies (start_order 0x34 4 bs) × NoneApplies (live_order (n_byte bs) (words_after 4 bs))
  parts = none-parts (start_order 0x34 4 bs) (live_order (n_byte bs) (words_after 4 bs)) passed

  values : ◌≡◌ {A = ℕ × Frame} (4 * n_byte bs + 11, after_pair (pair_numbered (carried_in (words_after 4 bs))) (frame_of (data_in (words_after 4 bs)))) (size, f)
  values = let a = ap says_recalled (order-answers refused_recall (found_words (n_byte bs) (words_after 4 bs)) (recall_words_order bs) passed) in cc (a, h)

  fit : Fit (replicate (suc (suc (n_byte bs))) 32) (words_after 4 bs)
  fit = fit_words 4 (suc (suc (n_byte bs))) (drop 3 bs)

  own : RereadWords bs (after_pair (pair_numbered (carried_in (words_after 4 bs))) (frame_of (data_in (words_after 4 bs)))) (4 * n_byte bs + 11)
  unfolding words_record
  own =
      let again = live_own bs passed in
      let g = frame_of (data_in (words_after 4 bs)) in
      let k = pair_numbered (carried_in (words_after 4 bs)) in
      let sound = (none-parts (data_order (n_byte bs) (data_in (words_after 4 bs))) ((broken (words_after 4 bs), 17) ∷ []) parts.1).1.0 in
      record {
        full = live-full bs passed;
        inside = live_inside bs passed;
        size_is = ap (λ n. 4 * n + 11) (sym again.count ∙ after-n k g);
        bytes-are =
            ap₂ (λ n vs. record_with 0x34 4 n vs) (sym (after-n k g) ∙ again.count)
            (ap₂ windows_from (after-pair k g ∙ number-back (carried_in (words_after 4 bs))) (words-after k g ∙ again.words)
            ∙ windows-again (suc (suc (n_byte bs))) (carried_in (words_after 4 bs)) (words_after 4 bs) fit sound)
            ∙ record-taken 0x34 4 bs parts.0 fits;
      }

  -- KEPT AGAIN: the bytes that were read
  pub reread-words : RereadWords bs f size
  reread-words = subst (λ (v : ℕ × Frame). RereadWords bs v.1 v.0) values own

  -- into any buffer with room, and nothing else
  pub keep-words-recalled : (buffer : List ℕ) → size ≤ length buffer
      → (says_kept (kept_words f buffer) ≡ answers size) × (held_words f buffer ≡ take size bs ++ drop size buffer)
  keep-words-recalled buffer l = (
    ap says_kept (order-answers kept.Refused (kept.Done (4 * f.n + 11)) (keep_words_order f buffer) room) ∙ ap answers (sym reread-words.size_is),
    order-answers (λ n. buffer) (words_record f ++ drop (4 * f.n + 11) buffer) (keep_words_order f buffer) room
        ∙ ap₂ (λ r j. r ++ drop j buffer) reread-words.bytes-are (sym reread-words.size_is),
  )
    where
      room : NoneApplies (keep_words_order f buffer)
      room = (reread-words.inside, (le-ltb (length buffer) (4 * f.n + 11) (omega (arith, reread-words.size_is)), tt))

pub refused-words : (f : Frame) (buffer : List ℕ) (number : ℕ) → says_kept (kept_words f buffer) ≡ refuses number → held_words f buffer ≡ buffer
refused-words f buffer number h =
    refused-stays (keep_words_order f buffer) (4 * f.n + 11) (words_record f ++ drop (4 * f.n + 11) buffer) buffer number h
