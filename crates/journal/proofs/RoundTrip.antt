-- ROUND TRIP, over the definitions that the contracts cite. Recalling what was kept gives the frame without its pair and the record's length,
-- whatever follows; keeping what was recalled gives the record's own bytes. Assumes nothing.
use mathlib.Core.Path.{◌≡◌, refl, sym, ap, ap₂, subst, ◌∙◌}
use mathlib.Core.Bool.{true, false, not}
use mathlib.Core.List.{List, [], ◌∷◌, ◌++◌}
use Prim.Native.Nat.{ℕ, zero, suc, ◌+◌, ◌*◌, ◌≤◌}
use native.Mathlib.Omega.{arith}
use lib.Dec.{eqb}
use lib.ListN.{length, take, drop, replicate}
use borrow.Author.Tests.{eqb-true, not-false, le-ltb, eq-eqb}
use Rattle.answer.specs.Order.{answers, refuses, Check, in_order, NoneApplies}
use Rattle.answer.proofs.OrderLaws.{order-answers, order-map, none-append, none-parts, says_none}
use Rattle.bits.specs.Bits.{bits, number}
use Rattle.bits.specs.Fields.{Fit, AreBytes}
use Rattle.bits.proofs.Numbers.{bits-number}
use Rattle.frame.specs.Header.{preambled, n_of, header_of, first_word, second_word}
use Rattle.frame.specs.Frames.{framed, after_pair, bare, words_of, frame_of, Below}
use Rattle.frame.specs.Widths.{pair_outside, outside}
use Rattle.frame.specs.declared.Carried.{Carried}
use Rattle.frame.specs.declared.Frame.{Frame}
use Rattle.frame.proofs.HeaderLaws.{length-first, length-second, n-words, first-preambled}
use Rattle.frame.proofs.FrameLaws.{header-within, n_within, below-words, frame-words, length-framed, words-frame, frame-inside, after-inside}
use Rattle.journal.specs.Forms.{n_byte, words_after, start_order, record_with}
use Rattle.journal.specs.Journal.{record_of, keep_order, kept_by, held_by, data_order, recall_order}
use Rattle.journal.specs.Journal.{refused_recall, recalled, recalled_by, says_kept, says_recalled}
use Rattle.journal.specs.declared.Found.TheVariants.{Record}
use Rattle.journal.specs.declared.Kept.{Kept}
use Rattle.journal.specs.declared.Kept.TheVariants as kept
use Rattle.journal.proofs.WordLaws.{length-words as length-read, fit_words}
use Rattle.journal.proofs.KeepLaws.{count-words}
use Rattle.journal.proofs.FormLaws.{start-few, record-starts, record-words, record-taken}

-- ---- words of 24 bits, as the values of a layout

pub fit-below : (ws : List ℕ) → Below ws → Fit (replicate (length ws) 24) ws
fit-below [] b = tt
fit-below (w ∷ ws) b = (b.0, fit-below ws b.1)

below-fit : (n : ℕ) (ws : List ℕ) → Fit (replicate n 24) ws → Below ws
below-fit zero [] b = tt
below-fit zero (w ∷ ws) b = absurd b
below-fit (suc n) [] b = absurd b
below-fit (suc n) (w ∷ ws) b = (b.0, below-fit n ws b.1)

-- ---- recall after keep

module _ (f : Frame) (full : length f.words ≡ 31) (e : outside f ≡ false) where
  -- the words of a frame within its widths have its N and the preamble
  pub own-data : NoneApplies (data_order f.n (words_of f))
  unfolding words_of
  own-data = (ap not (eq-eqb f.n _ (sym own-n)), (ap not own-preamble, tt))
    where
      own-n : n_of (bits 24 (number (second_word f.header f.n))) ≡ f.n
      own-n =
          ap n_of (bits-number 24 (second_word f.header f.n) (length-second f.header f.n))
          ∙ n-words f.header f.n (header-within f e) (n_within f e)

      own-preamble : preambled (bits 24 (number (first_word f.header))) ≡ true
      own-preamble = ap preambled (bits-number 24 (first_word f.header) (length-first f.header)) ∙ first-preambled f.header (header-within f e)

  module _ (rest : List ℕ) where
    pub words_back : words_after 3 (record_of f ++ rest) ≡ words_of f
    unfolding record_of
    words_back = record-words 0x32 3 f.n (words_of f) rest (count-words f e full) (fit-below (words_of f) (below-words f e))

    pub recall-clear : NoneApplies (recall_order (record_of f ++ rest))
    unfolding record_of
    recall-clear =
        none-append (start_order 0x32 3 (record_of f ++ rest)) (data_order f.n (words_after 3 (record_of f ++ rest)))
        (record-starts 0x32 3 f.n (words_of f) rest (count-words f e full) (n_within f e))
        (subst (λ ws. NoneApplies (data_order f.n ws)) (sym words_back) own-data)

    -- THE FRAME WITHOUT ITS PAIR, AND THE LENGTH
    pub recall-record : recalled_by (record_of f ++ rest) ≡ record { answer = Record (3 * f.n + 9); frame = bare f }
    unfolding record_of
    recall-record =
        order-answers refused_recall (recalled f.n (words_after 3 (record_of f ++ rest))) (recall_order (record_of f ++ rest)) recall-clear
        ∙ ap (λ ws. recalled f.n ws) words_back
        ∙ ap (λ g. record { answer = Record (3 * f.n + 9); frame = g }) (frame-words f e full)

-- ---- keep after recall

-- these are the words of the frame that they give, which is within its widths
pub record OwnWords (n : ℕ) (ws : List ℕ) : Type 0 where
  pub words : words_of (frame_of ws) ≡ ws
  pub count : (frame_of ws).n ≡ n
  pub full : length (frame_of ws).words ≡ 31
  pub inside : outside (frame_of ws) ≡ false

pub frame-again : (n : ℕ) (ws : List ℕ) → length ws ≡ suc (suc n) → Below ws → n ≤ 31 → NoneApplies (data_order n ws) → OwnWords n ws
unfolding frame_of framed
frame-again n [] l b h d = absurd (omega arith)
frame-again n (a ∷ []) l b h d = absurd (omega arith)
frame-again n (a ∷ c ∷ ws) l b h d =
    let k : length ws ≡ n = omega arith in
    let m : length ws ≤ 31 = omega arith in
    let same = eqb-true n (n_of (bits 24 c)) (not-false (eqb n (n_of (bits 24 c))) d.0) in
    record {
      words = words-frame a c ws b (not-false (preambled (bits 24 a)) d.1.0) (sym (k ∙ same));
      count = k;
      full = length-framed (header_of (bits 24 a) (bits 24 c)) ws m;
      inside = frame-inside a c ws b.1.1 m;
    }

-- bytes that are not refused hold such words
pub read-own : (bs : List ℕ) → NoneApplies (recall_order bs) → OwnWords (n_byte bs) (words_after 3 bs)
read-own bs passed =
    let parts = none-parts (start_order 0x32 3 bs) (data_order (n_byte bs) (words_after 3 bs)) passed in
    let m = suc (suc (n_byte bs)) in
    frame-again (n_byte bs) (words_after 3 bs) (length-read 3 m (drop 3 bs)) (below-fit m (words_after 3 bs) (fit_words 3 m (drop 3 bs)))
    (start-few 0x32 3 bs parts.0) parts.1

-- A frame that was recalled with a length: it is within its widths, the length is that of its record, and its record is the bytes that were read.
pub record Reread (bs : List ℕ) (f : Frame) (size : ℕ) : Type 0 where
  pub full : length f.words ≡ 31
  pub inside : outside f ≡ false
  pub size_is : size ≡ 3 * f.n + 9
  pub bytes-are : record_of f ≡ take size bs

module _ (bs : List ℕ) (fits : AreBytes bs) (f : Frame) (size : ℕ) (h : says_recalled (recalled_by bs) ≡ answers (size, f)) where
  passed : NoneApplies (recall_order bs)
  passed = says_none says_recalled refused_recall (λ n. refl) (recalled (n_byte bs) (words_after 3 bs)) (recall_order bs) h

  parts : NoneApplies (start_order 0x32 3 bs) × NoneApplies (data_order (n_byte bs) (words_after 3 bs))
  parts = none-parts (start_order 0x32 3 bs) (data_order (n_byte bs) (words_after 3 bs)) passed

  values : ◌≡◌ {A = ℕ × Frame} (3 * n_byte bs + 9, frame_of (words_after 3 bs)) (size, f)
  values = let a = ap says_recalled (order-answers refused_recall (recalled (n_byte bs) (words_after 3 bs)) (recall_order bs) passed) in cc (a, h)

  again : OwnWords (n_byte bs) (words_after 3 bs)
  again = read-own bs passed

  own : Reread bs (frame_of (words_after 3 bs)) (3 * n_byte bs + 9)
  unfolding record_of
  own = record {
    full = again.full;
    inside = again.inside;
    size_is = ap (λ n. 3 * n + 9) (sym again.count);
    bytes-are = ap₂ (λ n ws. record_with 0x32 3 n ws) again.count again.words ∙ record-taken 0x32 3 bs parts.0 fits;
  }

  pub reread : Reread bs f size
  reread = subst (λ (v : ℕ × Frame). Reread bs v.1 v.0) values own

  -- it has carried bits 00
  pub recalled-bare : bare f ≡ f
  recalled-bare = subst (λ (v : ℕ × Frame). bare v.1 ≡ v.1) values (unfold frame_of framed after_pair in refl)

  -- KEPT AGAIN, into any buffer with room: the bytes that were read, and nothing else
  pub keep-recalled : (buffer : List ℕ) → size ≤ length buffer
      → (says_kept (kept_by f buffer) ≡ answers size) × (held_by f buffer ≡ take size bs ++ drop size buffer)
  keep-recalled buffer l = (
    ap says_kept (order-answers kept.Refused (kept.Done (3 * f.n + 9)) (keep_order f buffer) room) ∙ ap answers (sym reread.size_is),
    order-answers (λ n. buffer) (record_of f ++ drop (3 * f.n + 9) buffer) (keep_order f buffer) room
        ∙ ap₂ (λ r j. r ++ drop j buffer) reread.bytes-are (sym reread.size_is),
  )
    where
      room : NoneApplies (keep_order f buffer)
      room = (reread.inside, (le-ltb (length buffer) (3 * f.n + 9) (omega (arith, reread.size_is)), tt))

-- ---- through the lent buffer

-- a refusal leaves the buffer as it was, whatever the order and the record
pub refused-stays : (cs : List Check) (size : ℕ) (whole buffer : List ℕ) (number : ℕ)
    → says_kept (in_order cs kept.Refused (kept.Done size)) ≡ refuses number → in_order cs (λ n. buffer) whole ≡ buffer
refused-stays cs size whole buffer number h = sym (order-map held cs kept.Refused (kept.Done size)) ∙ go (in_order cs kept.Refused (kept.Done size)) h
  where
    held : Kept → List ℕ
    held (kept.Done n) = whole
    held (kept.Refused n) = buffer

    go : (k : Kept) → says_kept k ≡ refuses number → held k ≡ buffer
    go (kept.Done n) e = let z : ◌≡◌ {A = ℕ} 0 1 = cc in absurd (omega arith)
    go (kept.Refused n) e = refl

pub refused-unchanged : (f : Frame) (buffer : List ℕ) (number : ℕ) → says_kept (kept_by f buffer) ≡ refuses number → held_by f buffer ≡ buffer
refused-unchanged f buffer number h =
    refused-stays (keep_order f buffer) (3 * f.n + 9) (record_of f ++ drop (3 * f.n + 9) buffer) buffer number h

-- ---- the frame's own pair is not looked at

module _ (k : Carried) (f : Frame) (p : pair_outside k ≡ false) (o : outside f ≡ false) (buffer : List ℕ) where
  same : outside (after_pair k f) ≡ outside f
  same = after-inside k f p o ∙ sym o

  pub unseen-answer : kept_by (after_pair k f) buffer ≡ kept_by f buffer
  unfolding after_pair
  unseen-answer = rw same

  pub unseen-bytes : held_by (after_pair k f) buffer ≡ held_by f buffer
  unfolding record_of words_of after_pair
  unseen-bytes = rw same
