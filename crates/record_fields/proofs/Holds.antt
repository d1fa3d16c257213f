-- What a packer holds: a list of bits. Each push puts its field after them, so fields, rows and fill are put in order; at a word's
-- border the words are those of the bits. Assumes nothing.
use mathlib.Core.Path.{◌≡◌, refl, sym, ap, ap₂, subst, ◌∙◌}
use mathlib.Core.Bool.{Bool, cond}
use mathlib.Core.List.{List, [], ◌∷◌, ◌++◌, append-nil, append_assoc}
use Prim.Native.Nat.{ℕ, zero, suc, ◌+◌, ◌*◌, ◌-◌, ◌/◌, ◌%◌, ◌^◌, ◌≤◌, ◌<◌}
use native.Mathlib.Nat.{mod-eq_of_lt, suc-mul}
use native.Mathlib.Numerals.{add-one}
use native.Mathlib.Decide.{dec_lt}
use native.Mathlib.Omega.{arith}
use lib.Dec.{eqb}
use lib.ListN.{length, take, drop, set, replicate, length-append, length-drop, take-append-drop}
use lib.Seq.{set_at, drop-drop, drop-append-le, take-append-le}
use lib.Pow.{pow_mono, low}
use borrow.Author.Tests.{lt-ltb, le-ltb, lt-leb, eq-eqb, ne_eqb}
use Rattle.bits.specs.Bits.{bits, number}
use Rattle.bits.specs.Fields.{packed, span}
use Rattle.bits.specs.Rows.{cut_words, packed_rows, fill_of, filled, words_in}
use Rattle.bits.proofs.Numbers.{length-bits, number-bits, number_lt, number_append}
use Rattle.bits.proofs.FieldLaws.{length-packed, number-part}
use Rattle.bits.proofs.WordLaws.{length-words, fill-number, length-filled}
use Rattle.record_fields.specs.declared.Packer.{Packer}
use Rattle.record_fields.specs.Packing.{empty_packer, flushed, joined, pushed, pushed_all, pushed_rows, filled_up}

pub record Holds (p : Packer) (bs : List Bool) : Type 0 where
  pub used : 24 * p.whole + p.held ≡ length bs
  pub rest : p.rest ≡ number (drop (24 * p.whole) bs)
  pub words : p.words ≡ cut_words p.whole bs ++ replicate (31 - p.whole) 0
  pub room : length bs ≤ 744

-- words: one more, and more bits after them
pub words_more : (n : ℕ) (bs : List Bool) → cut_words (suc n) bs ≡ cut_words n bs ++ (number (take 24 (drop (24 * n) bs)) ∷ [])
unfolding cut_words
words_more zero bs = refl
words_more (suc n) bs =
    ap (λ (l : List ℕ). number (take 24 bs) ∷ l) (words_more n (drop 24 bs))
    ∙ ap (λ (l : List Bool). number (take 24 bs) ∷ (cut_words n (drop 24 bs) ++ (number (take 24 l) ∷ [])))
    (drop-drop (24 * n) 24 bs ∙ ap (λ (k : ℕ). drop k bs) far)
  where
    far : 24 + 24 * n ≡ 24 * suc n
    far = omega arith

pub words-front : (n : ℕ) (bs t : List Bool) → 24 * n ≤ length bs → cut_words n (bs ++ t) ≡ cut_words n bs
unfolding cut_words
words-front zero bs t h = refl
words-front (suc n) bs t h =
    let u : 24 ≤ length bs = omega arith in
    rw (take-append-le 24 bs t, drop-append-le 24 bs t)
    (ap (λ (l : List ℕ). number (take 24 bs) ∷ l) (words-front n (drop 24 bs) t (omega (arith, length-drop 24 bs))))

low_bits : (a c : ℕ) (l : List Bool) → length l ≡ a + c → number l % 2 ^ c ≡ number (drop a l)
low_bits a c l e =
    ap (λ (x : List Bool). number x % 2 ^ c) (sym (take-append-drop a l))
    ∙ ap (λ (n : ℕ). n % 2 ^ c) (number_append (take a l) (drop a l))
    ∙ rw long (low (number (take a l)) c (subst (λ (n : ℕ). number (drop a l) < 2 ^ n) long (number_lt (drop a l))))
  where
    long : length (drop a l) ≡ c
    long = omega (arith, length-drop a l)

zeros : (n : ℕ) → n < 31 → ◌≡◌ {A = List ℕ} (replicate (31 - n) 0) (0 ∷ replicate (31 - (n + 1)) 0)
zeros n h = ap (λ (k : ℕ). replicate {A = ℕ} k 0) less
  where
    less : 31 - n ≡ suc (31 - (n + 1))
    less = omega arith

-- ONE WORD OUT
flush-holds : (p : Packer) (bs : List Bool) → Holds p bs → Holds (flushed p) bs
unfolding flushed
flush-holds p bs h = go (dec_lt p.held 24)
  where
    full : List ℕ
    full = set p.words p.whole (p.rest / 2 ^ (p.held - 24) % 2 ^ 24)

    go : Dec (p.held < 24) → Holds (flushed p) bs
    go (yes s) = rw (lt-ltb p.held 24 s) h
    go (no s) =
        rw (le-ltb p.held 24 (omega (arith, s)), lt-leb 31 p.whole at_low)
        (record { used = omega (arith, h.used, s); rest = rest-is; words = words-is; room = h.room })
      where
        at_low : p.whole < 31
        at_low = omega (arith, h.used, h.room, s)

        tail : List Bool
        tail = drop (24 * p.whole) bs

        long : length tail ≡ 24 + (p.held - 24)
        long = omega (arith, length-drop (24 * p.whole) bs, h.used, s)

        far : 24 * p.whole + 24 ≡ 24 * (p.whole + 1)
        far = omega arith

        rest-is : p.rest % 2 ^ (p.held - 24) ≡ number (drop (24 * (p.whole + 1)) bs)
        rest-is =
            ap (λ (n : ℕ). n % 2 ^ (p.held - 24)) h.rest ∙ low_bits 24 (p.held - 24) tail long
            ∙ ap number (drop-drop 24 (24 * p.whole) bs ∙ ap (λ (k : ℕ). drop k bs) far)

        word-is : p.rest / 2 ^ (p.held - 24) % 2 ^ 24 ≡ number (take 24 tail)
        word-is = ap (λ (n : ℕ). n / 2 ^ (p.held - 24) % 2 ^ 24) h.rest ∙ number-part 0 24 (p.held - 24) tail (omega (arith, long))

        words-is : full ≡ cut_words (p.whole + 1) bs ++ replicate (31 - (p.whole + 1)) 0
        words-is =
            ap₂ (λ (l : List ℕ) (x : ℕ). set l p.whole x) (h.words ∙ ap (λ (l : List ℕ). cut_words p.whole bs ++ l) (zeros p.whole at_low)) word-is
            ∙ set_at (cut_words p.whole bs) 0 (replicate (31 - (p.whole + 1)) 0) (number (take 24 tail)) p.whole (length-words p.whole bs)
            ∙ sym (ap (λ (l : List ℕ). l ++ replicate (31 - (p.whole + 1)) 0) (ap (λ (k : ℕ). cut_words k bs) (add-one p.whole) ∙ words_more p.whole bs)
            ∙ append_assoc (cut_words p.whole bs) (number (take 24 tail) ∷ []) (replicate (31 - (p.whole + 1)) 0))

flush-low : (p : Packer) (bs : List Bool) (n : ℕ) → Holds p bs → p.held < n + 24 → 24 ≤ n → (flushed p).held < n
unfolding flushed
flush-low p bs n h l k = go (dec_lt p.held 24)
  where
    go : Dec (p.held < 24) → (flushed p).held < n
    go (yes s) = rw (lt-ltb p.held 24 s) (omega (arith, s))
    go (no s) = rw (le-ltb p.held 24 (omega (arith, s)), lt-leb 31 p.whole (omega (arith, h.used, h.room, s))) (omega (arith, s))

-- A FIELD IN
join-holds : (p : Packer) (bs : List Bool) (w v : ℕ) → Holds p bs → p.held < 24 → length bs + w ≤ 744 → Holds (joined p w v) (bs ++ bits w v)
unfolding joined
join-holds p bs w v h s r =
    record {
      used = omega (arith, h.used, long);
      rest = rest-is;
      words = h.words
          ∙ ap (λ (l : List ℕ). l ++ replicate (31 - p.whole) 0) (sym (words-front p.whole bs (bits w v) (omega (arith, h.used))));
      room = omega
          (arith, long);
    }
  where
    long : length (bs ++ bits w v) ≡ length bs + w
    long = length-append bs (bits w v) ∙ ap (λ (n : ℕ). length bs + n) (length-bits w v)

    tail : List Bool
    tail = drop (24 * p.whole) bs

    small : p.rest < 2 ^ 24
    small = omega (arith, h.rest, number_lt tail, pow_mono {i = length tail} {j = 24} (omega (arith, length-drop (24 * p.whole) bs, h.used)))

    rest-is : p.rest % 2 ^ 24 * 2 ^ w + v % 2 ^ w ≡ number (drop (24 * p.whole) (bs ++ bits w v))
    rest-is =
        ap₂ (λ (x y : ℕ). x * 2 ^ w + y) (mod-eq_of_lt small ∙ h.rest) (sym (number-bits w v))
        ∙ ap (λ (n : ℕ). number tail * 2 ^ n + number (bits w v)) (sym (length-bits w v))
        ∙ sym (number_append tail (bits w v))
        ∙ ap number (sym (drop-append-le (24 * p.whole) bs (bits w v) (omega (arith, h.used))))

held_small : (p : Packer) (w v : ℕ) → p.held < 24 → w ≤ 32 → (joined p w v).held < 48 + 24
unfolding joined
held_small p w v s k = omega arith

-- no width of a layout is over 32
abbrev pub Narrow : List ℕ → Type 0
Narrow [] = Unit {0}
Narrow (w ∷ ws) = (w ≤ 32) × Narrow ws

-- ready: what is held is less than a word
pub record Ready (p : Packer) (bs : List Bool) : Type 0 where
  pub holds : Holds p bs
  pub short : p.held < 24

pub push-holds : (p : Packer) (bs : List Bool) (w v : ℕ) → Ready p bs → w ≤ 32 → length bs + w ≤ 744 → Ready (pushed p w v) (bs ++ bits w v)
unfolding pushed
push-holds p bs w v h k r =
    rw (le-ltb 32 w k)
    record {
      holds = flush-holds (flushed (joined p w v)) (bs ++ bits w v) one;
      short = flush-low (flushed (joined p w v)) (bs ++ bits w v) 24 one
          (flush-low (joined p w v) (bs ++ bits w v) 48 zeroth (held_small p w v h.short k) (omega arith)) (omega arith);
    }
  where
    zeroth : Holds (joined p w v) (bs ++ bits w v)
    zeroth = join-holds p bs w v h.holds h.short r

    one : Holds (flushed (joined p w v)) (bs ++ bits w v)
    one = flush-holds (joined p w v) (bs ++ bits w v) zeroth

pub empty_holds : Ready empty_packer []
unfolding empty_packer cut_words number
empty_holds = record { holds = record { used = refl; rest = refl; words = refl; room = omega arith }; short = omega arith }

-- A ROW IN
pub all-holds : (ws vs : List ℕ) (p : Packer) (bs : List Bool) → Ready p bs → Narrow ws → length bs + span ws ≤ 744
    → Ready (pushed_all ws vs p) (bs ++ packed ws vs)
all-holds [] vs p bs h n r = rw (append-nil bs) h
all-holds (w ∷ ws) [] p bs h n r =
    rw (← (append_assoc bs (bits w 0) (packed ws [])))
    (all-holds ws [] (pushed p w 0) (bs ++ bits w 0) (push-holds p bs w 0 h n.0 (omega arith)) n.1
    (omega (arith, length-append bs (bits w 0), length-bits w 0)))
all-holds (w ∷ ws) (v ∷ vs) p bs h n r =
    rw (← (append_assoc bs (bits w v) (packed ws vs)))
    (all-holds ws vs (pushed p w v) (bs ++ bits w v) (push-holds p bs w v h n.0 (omega arith)) n.1
    (omega (arith, length-append bs (bits w v), length-bits w v)))

-- ROWS IN
pub rows-hold : (ws : List ℕ) (rs : List (List ℕ)) (p : Packer) (bs : List Bool) → Ready p bs → Narrow ws → length bs + length rs * span ws ≤ 744
    → Ready (pushed_rows ws rs p) (bs ++ packed_rows ws rs)
rows-hold ws [] p bs h n r = rw (append-nil bs) h
rows-hold ws (r ∷ rs) p bs h n room =
    rw (← (append_assoc bs (packed ws r) (packed_rows ws rs)))
    (rows-hold ws rs (pushed_all ws r p) (bs ++ packed ws r) (all-holds ws r p bs h n (omega (arith, m))) n
    (omega (arith, m, length-append bs (packed ws r), length-packed ws r)))
  where
    m : suc (length rs) * span ws ≡ length rs * span ws + span ws
    m = suc-mul (length rs) (span ws)

-- THE FILL
nothing : (pattern : ℕ) → fill_of pattern 0 ≡ []
unfolding fill_of
nothing pattern = refl

pub fill_holds : (pattern : ℕ) (p : Packer) (bs : List Bool) → Ready p bs → Ready (filled_up pattern p) (filled pattern bs)
unfolding filled_up filled
fill_holds pattern p bs h = go p.held refl
  where
    same : p.held % 24 ≡ p.held
    same = mod-eq_of_lt h.short

    over : length bs % 24 ≡ p.held
    over = omega (arith, h.holds.used, h.short)

    go : (k : ℕ) → p.held ≡ k
        → Ready (cond (eqb (p.held % 24) 0) p (pushed p (24 - p.held % 24) (pattern / 2 ^ (p.held % 24))))
        (bs ++ fill_of pattern ((24 - length bs % 24) % 24))
    go zero e = rw (eq-eqb (p.held % 24) 0 (same ∙ e), none) (rw (append-nil bs) h)
      where
        none : fill_of pattern ((24 - length bs % 24) % 24) ≡ []
        none = ap (λ (n : ℕ). fill_of pattern ((24 - n) % 24)) (over ∙ e) ∙ nothing pattern
    go (suc k) e =
        rw (ne_eqb (p.held % 24) 0 (λ z. omega (arith, z, same, e)), some)
        (push-holds p bs (24 - p.held % 24) (pattern / 2 ^ (p.held % 24)) h (omega arith) (omega (arith, h.holds.used, h.holds.room, same, e)))
      where
        left : (24 - length bs % 24) % 24 ≡ 24 - p.held % 24
        left = omega (arith, over, same, e)

        less : 24 - (24 - p.held % 24) ≡ p.held % 24
        less = omega (arith, same, h.short)

        some : fill_of pattern ((24 - length bs % 24) % 24) ≡ bits (24 - p.held % 24) (pattern / 2 ^ (p.held % 24))
        some = ap (fill_of pattern) left ∙ fill-number pattern (24 - p.held % 24) (omega arith)
            ∙ ap (λ (n : ℕ). bits (24 - p.held % 24) (pattern / 2 ^ n)) less

-- AT THE BORDER
-- what the filled packer leaves is the words of its bits
pub whole-holds : (pattern : ℕ) (p : Packer) (bs : List Bool) → Ready p (filled pattern bs)
    → (p.whole ≡ length (words_in pattern bs)) × (p.words ≡ words_in pattern bs ++ replicate (31 - length (words_in pattern bs)) 0)
unfolding words_in
whole-holds pattern p bs h = (at-is, h.holds.words ∙ ap₂ (λ k m. cut_words k (filled pattern bs) ++ replicate (31 - m) 0) (at-is ∙ long) at-is)
  where
    long : length (cut_words ((length bs + 23) / 24) (filled pattern bs)) ≡ (length bs + 23) / 24
    long = length-words ((length bs + 23) / 24) (filled pattern bs)

    at-is : p.whole ≡ length (cut_words ((length bs + 23) / 24) (filled pattern bs))
    at-is = omega (arith, h.holds.used, h.short, length-filled pattern bs, long)
