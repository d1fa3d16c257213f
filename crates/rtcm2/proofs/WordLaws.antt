-- Data words from bytes: the word of three bytes, and the frame of a header and such words. Assumes nothing.
use mathlib.Core.Path.{◌≡◌, sym, ap, ◌∙◌}
use mathlib.Core.List.{List, ◌++◌}
use Prim.Native.Nat.{ℕ, ◌+◌, ◌-◌, ◌*◌, ◌/◌, ◌%◌, ◌≤◌, ◌<◌}
use native.Mathlib.Omega.{arith}
use lib.ListN.{length, take, drop, get_or, replicate}
use borrow.Author.Tests.{lt-ltb, le-ltb, eq-eqb, ne_eqb}
use Rattle.answer.specs.Order.{refuses, answers}
use Rattle.frame.specs.Frames.{built_of, framed}
use Rattle.frame.specs.declared.Header.{Header}
use Rattle.journal.specs.Bytes.{word_in, words_from}
use Rattle.journal.proofs.ByteLaws.{word_none}
use Rattle.journal.proofs.TurnLaws.{word_more}
use Rattle.journal.proofs.WordLaws.{length-words}
use Rattle.rtcm2.specs.Frames.{words_said}

-- ---- one word

pub three-bytes : (bs : List ℕ) (at : ℕ) → at + 3 ≤ length bs → ((i : ℕ) → get_or bs i 0 < 256)
    → (get_or bs at 0 * 256 + get_or bs (at + 1) 0) * 256 + get_or bs (at + 2) 0 ≡ word_in (take 3 (drop at bs))
three-bytes bs at h b =
    ap (λ w. (w * 256 + get_or bs (at + 1) 0) * 256 + get_or bs (at + 2) 0) first
    ∙ ap (λ w. w * 256 + get_or bs (at + 2) 0) (word_more bs at 1 (omega arith) (b (at + 1)))
    ∙ word_more bs at 2 (omega arith) (b (at + 2))
  where
    here : at ≡ at + 0
    here = omega arith

    first : get_or bs at 0 ≡ word_in (take 1 (drop at bs))
    first = omega (arith, word_none, ap (λ j. get_or bs j 0) here, word_more bs at 0 (omega arith) (b (at + 0)))

-- ---- the frame

framed-by : (h : Header) (n : ℕ) (ws : List ℕ) → length ws ≡ n → built_of h n (ws ++ replicate (31 - n) 0) ≡ framed h ws
unfolding framed
framed-by h n ws l = ap (λ m. built_of h m (ws ++ replicate (31 - m) 0)) (sym l)

module _ (h : Header) (bytes : List ℕ) where
  pub part_left : (length bytes % 3 ≡ 0 → ⊥) → refuses 5 ≡ words_said h bytes
  part_left d = rw (ne_eqb (length bytes % 3) 0 d)

  module _ (d : length bytes % 3 ≡ 0) where
    pub too_many_lem : 31 < length bytes / 3 → refuses 5 ≡ words_said h bytes
    too_many_lem m = rw (eq-eqb (length bytes % 3) 0 d, lt-ltb 31 (length bytes / 3) m)

    pub words-kept : {words : List ℕ} → length bytes / 3 ≤ 31
        → words ≡ words_from 3 (length bytes / 3) bytes ++ replicate (31 - length bytes / 3) 0
        → answers (built_of h (length bytes / 3) words) ≡ words_said h bytes
    words-kept {words} m e =
        rw (eq-eqb (length bytes % 3) 0 d, le-ltb 31 (length bytes / 3) m)
        (ap (λ ws. answers (built_of h (length bytes / 3) ws)) e
        ∙ ap answers (framed-by h (length bytes / 3) (words_from 3 (length bytes / 3) bytes) (length-words 3 (length bytes / 3) bytes)))
