-- The frame that waits: its words tested two by two, whether it stands, and what windows say of its header. Assumes nothing.
use Rattle.std.proofs.Common.{◌≡◌, ℕ, zero, suc, ◌+◌, ◌-◌, ◌*◌, ◌/◌, ◌%◌, ◌^◌, ◌<◌, ◌≤◌, min, Bool, true, false, cond, ◌&&◌, eqb, leb, List, [], ◌∷◌, length, Some, None, sym, refl, ap, ◌∙◌, ap₂, add-one, arith, eq-eqb, ne_eqb, le-leb}
use mathlib.Core.Bool.{and-eq-true_iff}
use native.Mathlib.Decide.{dec_lt}
use Rattle.bits.specs.Bits.{bits, number}
use Rattle.bits.proofs.Xor.{val-odd}
use Rattle.word.specs.Word.{data_of, passes}
use Rattle.frame.specs.Header.{preambled, header_of, n_of}
use Rattle.frame.specs.declared.Header.{Header}
use Rattle.frame.specs.declared.Carried.{Carried}
use Rattle.stream.specs.Standing.{word_at, right, n_at, size, Stands, all_right, stands, pair_before, frame_at}
use Rattle.stream.proofs.Words.{unlike, right-later, right-at-first, right-first}
use Rattle.stream.proofs.Stand.{stands-long, test-stands, not_test}
use Rattle.reader.specs.Cells.{held_bits}
use Rattle.frame.specs.declared.Frame.{Frame}
use Rattle.reader.specs.Taking.{there_in}
use Rattle.reader.proofs.Buffer.{length-held}
use Rattle.reader.proofs.Leaves.{bits-data}
use Rattle.reader.proofs.Steps.{seen, word-is, n-is}

-- ---- the two bits before it

-- the first two bits of a window, as numbers
pub pair-window : (w : ℕ) → record { d29 = w / 2 ^ 31 % 2; d30 = w / 2 ^ 30 % 2 } ≡ pair_before (bits 32 w)
unfolding bits
pair-window w = ap₂ (λ x y. record { d29 = x; d30 = y }) (sym (val-odd (w / 2 ^ 31))) (sym (val-odd (w / 2 ^ 30)))

-- word 1 begins with the two bits before it
pair-first : (d : List Bool) → pair_before (word_at 0 d) ≡ pair_before d
pair-first [] = refl
pair-first (a ∷ []) = refl
pair-first (a ∷ b ∷ d) = refl

-- ---- whether a frame stands

pub there-some : (d : List Bool) → stands d ≡ true → (f : Frame) → f ≡ frame_at d → Some f ≡ there_in d
unfolding there_in
there-some d s f e = ap Some e ∙ sym (ap (λ t. cond t (Some (frame_at d)) None) s)

pub there-none : (d : List Bool) → stands d ≡ false → None ≡ there_in d
unfolding there_in
there-none d s = sym (ap (λ t. cond t (Some (frame_at d)) None) s)

-- all words have come: it stands where each is right
stands-all : (d : List Bool) (m : ℕ) → m ≡ size d → 2 + 30 * m ≤ length d → stands d ≡ all_right m 0 d
unfolding stands
stands-all d m e l =
    ap (λ k. leb (2 + 30 * k) (length d) && all_right k 0 d) (sym e) ∙ ap (λ b. b && all_right m 0 d) (le-leb (2 + 30 * m) (length d) l)

-- its first word has no preamble
no-head : (d : List Bool) → preambled (data_of (word_at 0 d)) ≡ false → Stands d → ⊥
no-head d e s = unlike (preambled (data_of (word_at 0 d))) (right-first (word_at 0 d) (s.each 0 (omega arith))) e

-- with the preamble, a word is right where it passes
right-pass : (k : ℕ) (d : List Bool) → preambled (data_of (word_at 0 d)) ≡ true → right k (word_at k d) ≡ passes (word_at k d)
right-pass zero d h = right-at-first 0 (word_at 0 d) refl ∙ ap (λ b. b && passes (word_at 0 d)) h
right-pass (suc k) d h = right-later (suc k) (word_at (suc k) d) (λ z. omega arith)

-- ---- the test of n words from word k on

-- nothing is left of two words exactly where both pass
pub zero-pass : (x : ℕ) (p q : Bool) → eqb x 0 ≡ p && q → x ≡ 0 → (p ≡ true) × (q ≡ true)
zero-pass x p q e z = (and-eq-true_iff p q).0 (sym e ∙ eq-eqb x 0 z)

pub right-none : (n k : ℕ) (d : List Bool) → n ≤ k → all_right (n - k) k d ≡ true
unfolding all_right
right-none n k d h = ap (λ m. all_right m k d) none
  where
    none : n - k ≡ 0
    none = omega arith

right-next : (n k : ℕ) (d : List Bool) → k < n → all_right (n - k) k d ≡ right k (word_at k d) && all_right (n - (k + 1)) (k + 1) d
unfolding all_right
right-next n k d h =
    ap (λ m. all_right m k d) less ∙ ap (λ i. right k (word_at k d) && all_right (n - (k + 1)) i d) (sym (add-one k))
  where
    less : n - k ≡ suc (n - (k + 1))
    less = omega arith

-- two words, of which the second is the next or the first once more
right-two : (n k j : ℕ) (d : List Bool) → k < n → j ≡ min (k + 1) (n - 1)
    → all_right (n - k) k d ≡ (right k (word_at k d) && right j (word_at j d)) && all_right (n - (k + 2)) (k + 2) d
right-two n k j d h l = go (dec_lt k j)
  where
    joined : (x y z : Bool) → x && (y && z) ≡ (x && y) && z
    joined true y z = refl
    joined false y z = refl

    twice : (x : Bool) → x ≡ x && x
    twice true = refl
    twice false = refl

    word : ℕ → Bool
    word i = right i (word_at i d)

    go : Dec (k < j) → all_right (n - k) k d ≡ (word k && word j) && all_right (n - (k + 2)) (k + 2) d
    go (yes m) =
        right-next n k d h
        ∙ ap (λ t. word k && t) (ap (λ i. all_right (n - i) i d) next ∙ right-next n j d (omega arith)) ∙ joined (word k) (word j) (all_right (n - (j + 1)) (j + 1) d)
        ∙ ap (λ i. (word k && word j) && all_right (n - i) i d) after
      where
        next : k + 1 ≡ j
        next = omega (arith, m)

        after : j + 1 ≡ k + 2
        after = omega (arith, m)
    go (no m) =
        right-next n k d h
        ∙ ap₂ ◌&&◌ (twice (word k) ∙ ap (λ i. word k && word i) same)
        (right-none n (k + 1) d (omega (arith, m)) ∙ sym (right-none n (k + 2) d (omega (arith, m))))
      where
        same : k ≡ j
        same = omega (arith, m)

-- ---- what windows of the bits held say of it

module _ (cells : List ℕ) (len : length cells ≡ 40) (end : ℕ) (top : end ≤ 1280) (held : ℕ) (low : held ≤ end) where
  abbrev d : List Bool
  d = held_bits cells end held

  long : length d ≡ held
  long = length-held cells end held len top low

  -- where word 1 is
  place : end - held ≡ end - held + 30 * 0
  place = omega arith

  pub too_short_lem : held < 62 → stands d ≡ false
  too_short_lem l = not_test d (λ s. omega (arith, stands-long d s, long))

  -- a word of it
  pub data-here : (k w x : ℕ) → 32 + 30 * k ≤ held → w ≡ seen cells (end - held + 30 * k) → x ≡ number (data_of (bits 32 w))
      → x ≡ number (data_of (word_at k d))
  data-here k w x come e f = f ∙ ap (λ v. number (data_of v)) (word-is cells len end top held low k w come e)

  -- word k and the one beside it, and what is left of the two
  module _ (n k j w v x : ℕ) (h : k < n) (l : j ≡ min (k + 1) (n - 1)) (come : 2 + 30 * n ≤ held) (head : preambled (data_of (word_at 0 d)) ≡ true)
      (ew : w ≡ seen cells (end - held + 30 * k)) (ev : v ≡ seen cells (end - held + 30 * j)) (e : eqb x 0 ≡ passes (bits 32 w) && passes (bits 32 v)) where
    abbrev behind : Bool
    behind = all_right (n - (k + 2)) (k + 2) d

    two_here : all_right (n - k) k d ≡ eqb x 0 && behind
    two_here =
        right-two n k j d h l
        ∙ ap (λ t. t && behind)
        (ap₂ ◌&&◌ (right-pass k d head ∙ ap passes (sym (word-is cells len end top held low k w (omega arith) ew)))
        (right-pass j d head ∙ ap passes (sym (word-is cells len end top held low j v (omega arith) ev))) ∙ sym e)

    pub two-pass : x ≡ 0 → all_right (n - k) k d ≡ behind
    two-pass z = two_here ∙ ap (λ t. t && behind) (eq-eqb x 0 z)

    pub two-fail : (x ≡ 0 → ⊥) → all_right (n - k) k d ≡ false
    two-fail f = two_here ∙ ap (λ t. t && behind) (ne_eqb x 0 f)

  -- word 1
  module _ (some : 62 ≤ held) (one : ℕ) (e1 : one ≡ seen cells (end - held)) where
    first : bits 32 one ≡ word_at 0 d
    first = word-is cells len end top held low 0 one (omega arith) (e1 ∙ ap (seen cells) place)

    pub pair-here : (c : Carried) → c ≡ pair_before (bits 32 one) → c ≡ pair_before d
    pair-here c e = e ∙ ap pair_before first ∙ pair-first d

    module _ (x : ℕ) (ex : x ≡ number (data_of (bits 32 one))) where
      data-first : bits 24 x ≡ data_of (word_at 0 d)
      data-first = bits-data one x ex ∙ ap data_of first

      pub head-here : (b : Bool) → b ≡ preambled (bits 24 x) → b ≡ preambled (data_of (word_at 0 d))
      head-here b f = f ∙ ap preambled data-first

      pub headless-here : (b : Bool) → b ≡ preambled (bits 24 x) → b ≡ false → stands d ≡ false
      headless-here b f z = not_test d (no-head d (sym (head-here b f) ∙ z))

      -- and word 2
      pub header-here : (two y : ℕ) → two ≡ seen cells (end - held + 30) → y ≡ number (data_of (bits 32 two))
          → (h : Header) → h ≡ header_of (bits 24 x) (bits 24 y) → h ≡ header_of (data_of (word_at 0 d)) (data_of (word_at 1 d))
      header-here two y e2 ey h eh =
          eh ∙ ap₂ header_of data-first (bits-data two y ey ∙ ap data_of (word-is cells len end top held low 1 two some e2))

  -- N, of word 2
  module _ (some : 62 ≤ held) (two n : ℕ) (e2 : two ≡ seen cells (end - held + 30)) (en : n ≡ n_of (data_of (bits 32 two))) where
    pub n-here : n ≡ n_at d
    n-here = n-is cells len end top held low two n some e2 en

    pub words-missing : held < 62 + 30 * n → stands d ≡ false
    words-missing l = not_test d (λ s. omega (arith, s.taken, long, n-here))

    module _ (come : 62 + 30 * n ≤ held) where
      pub words-tell : stands d ≡ all_right (n + 2) 0 d
      words-tell = stands-all d (n + 2) (omega (arith, n-here)) (omega (arith, long))

      -- what is left of words 1 and 2
      module _ (one x : ℕ) (e1 : one ≡ seen cells (end - held)) (head : preambled (data_of (word_at 0 d)) ≡ true)
          (e : eqb x 0 ≡ passes (bits 32 one) && passes (bits 32 two)) where
        from_first : stands d ≡ all_right (n + 2 - 0) 0 d
        from_first = words-tell ∙ ap (λ m. all_right m 0 d) all
          where
            all : n + 2 ≡ n + 2 - 0
            all = omega arith

        pub header-pass : x ≡ 0 → stands d ≡ all_right n 2 d
        header-pass z =
            from_first ∙ two-pass (n + 2) 0 1 one two x (omega arith) (omega arith) (omega arith) head (e1 ∙ ap (seen cells) place) e2 e z
            ∙ ap (λ m. all_right m 2 d) less
          where
            less : n + 2 - 2 ≡ n
            less = omega arith

        pub header-fail : (x ≡ 0 → ⊥) → stands d ≡ false
        header-fail f =
            from_first ∙ two-fail (n + 2) 0 1 one two x (omega arith) (omega arith) (omega arith) head (e1 ∙ ap (seen cells) place) e2 e f

  -- a frame that stands has all its words
  pub come-standing : stands d ≡ true → 62 + 30 * n_at d ≤ held
  come-standing s = omega (arith, (test-stands d s).taken, long)
