-- What each function reads or puts is what the definitions say. Assumes nothing.
use mathlib.Core.Path.{◌≡◌, refl, sym, ap, ◌∙◌}
use mathlib.Core.Bool.{Bool, true, false, ◌&&◌, not}
use mathlib.Core.List.{List, ◌++◌}
use Prim.Native.Nat.{ℕ, ◌+◌, ◌^◌, ◌≤◌, ◌<◌}
use native.Mathlib.Omega.{arith}
use lib.Dec.{ltb, eqb}
use lib.ListN.{length, take, drop}
use lib.Seq.{sets, sets-eq}
use borrow.Author.Tests.{lt-ltb, le-ltb, ltb-false, lt-leb}
use Rattle.std.specs.Int.{from_bool}
use Rattle.bits.specs.Bits.{val}
use Rattle.reader.specs.Reading.{started}
use Rattle.reader.specs.declared.Tally.{Tally}
use Rattle.reader.specs.declared.Candidate.{Candidate}
use Rattle.reader.specs.declared.Reader.{Reader}
use Rattle.rtcm2_state.specs.Numbers.{low_bytes, number_in, numbers_written, numbers_in}
use Rattle.rtcm2_state.specs.State.{state_size, state_count, start_size, counts_of, tally_of, start_of, state_numbers, reader_of, are_state}
use Rattle.rtcm2_state.specs.State.{holds_state, state_in, too_wide, stored_by, start_put, state_put}
use Rattle.rtcm2_state.specs.declared.Stored.TheVariants as stored
use Rattle.rtcm2_state.proofs.NumberLaws.{length-written, number-of, numbers-from}
use Rattle.rtcm2_state.proofs.StoreLaws.{store_both, store-seven, store_two}

-- ---- what is held

pub held-short : (bs : List ℕ) → length bs < state_size → holds_state bs ≡ false
unfolding holds_state
held-short bs h = rw (lt-ltb (length bs) state_size h)

-- enough bytes: by the mark, waits and ended as they are read
pub held-read : (bs : List ℕ) → state_size ≤ length bs → {a b c : ℕ}
    → a ≡ number_in (take 4 bs) → b ≡ number_in (take 4 (drop 20 bs)) → c ≡ number_in (take 4 (drop 24 bs))
    → holds_state bs ≡ eqb a 0x32533252 && ltb b 2 && ltb c 2
unfolding holds_state are_state
held-read bs h ea eb ec =
    rw (
      le-ltb (length bs) state_size h,
      number-of state_count 0 bs (omega arith),
      number-of state_count 5 bs (omega arith),
      number-of state_count 6 bs (omega arith),
      ea,
      eb,
      ec,
    )

pub held-long : (bs : List ℕ) → holds_state bs ≡ true → state_size ≤ length bs
unfolding holds_state
held-long bs e = ltb-false (length bs) state_size (go (ltb (length bs) state_size) e)
  where
    go : (t : Bool) → not t && are_state (numbers_in state_count bs) ≡ true → t ≡ false
    go true h = sym h
    go false h = refl

-- ---- what is read

pub read_none : (bs : List ℕ) → holds_state bs ≡ false → state_in bs ≡ started
unfolding state_in
read_none bs e = rw e

pub read_is : (bs : List ℕ) → holds_state bs ≡ true → state_in bs ≡ reader_of (numbers_in state_count bs)
unfolding state_in
read_is bs e = rw e

-- the counts, each as it is read
pub read-counts : (bs : List ℕ) {end held words at waits odd even : ℕ}
    → end ≡ number_in (take 4 (drop 4 bs)) → held ≡ number_in (take 4 (drop 8 bs)) → words ≡ number_in (take 4 (drop 12 bs)) → at ≡ number_in (take 4 (drop 16 bs))
    → waits ≡ number_in (take 4 (drop 20 bs)) → odd ≡ number_in (take 4 (drop 28 bs)) → even ≡ number_in (take 4 (drop 32 bs))
    → ◌≡◌ {A = Candidate} (record { end = end; held = held; words = words; at = at; waits = eqb waits 1; tally = record { odd = odd; even = even } })
    (reader_of (numbers_in state_count bs)).candidate
unfolding reader_of
read-counts bs e₁ e₂ e₃ e₄ e₅ e₆ e₇ =
    rw (
      number-of state_count 1 bs (omega arith),
      number-of state_count 2 bs (omega arith),
      number-of state_count 3 bs (omega arith),
      number-of state_count 4 bs (omega arith),
      number-of state_count 5 bs (omega arith),
      number-of state_count 7 bs (omega arith),
      number-of state_count 8 bs (omega arith),
      e₁,
      e₂,
      e₃,
      e₄,
      e₅,
      e₆,
      e₇,
    )

-- the whole of it, each part as it is read
pub read_held : (bs : List ℕ) → holds_state bs ≡ true → {cells : List ℕ} {c : Candidate} {ended : Bool}
    → cells ≡ numbers_in 40 (drop start_size bs) → c ≡ (reader_of (numbers_in state_count bs)).candidate → ended ≡ (reader_of (numbers_in state_count bs)).ended
    → ◌≡◌ {A = Reader} (record { cells = cells; candidate = c; ended = ended }) (state_in bs)
unfolding reader_of
read_held bs e e₁ e₂ e₃ = rw (read_is bs e, numbers-from state_count 40 9 bs (omega arith), e₁, e₂, e₃)

-- ---- what is put

-- 1 for yes, 0 for no
pub from-val : (b : Bool) → from_bool b ≡ val b
from-val true = refl
from-val false = refl

-- the mark, the counts, waits and ended, one after the other
pub put-counts : (c : Candidate) (ended : Bool) (l : List ℕ) {l₁ l₂ l₃ l₄ l₅ l₆ l₇ : List ℕ} {m at w e : ℕ}
    → m ≡ 0x32533252 → at ≡ c.at → w ≡ val c.waits → e ≡ val ended
    → l₁ ≡ sets l 0 (low_bytes 4 m) → l₂ ≡ sets l₁ 4 (low_bytes 4 c.end) → l₃ ≡ sets l₂ 8 (low_bytes 4 c.held) → l₄ ≡ sets l₃ 12 (low_bytes 4 c.words)
    → l₅ ≡ sets l₄ 16 (low_bytes 4 at) → l₆ ≡ sets l₅ 20 (low_bytes 4 w) → l₇ ≡ sets l₆ 24 (low_bytes 4 e)
    → l₇ ≡ sets l 0 (numbers_written (counts_of c ended))
put-counts c ended l em ea ew ee e₁ e₂ e₃ e₄ e₅ e₆ e₇ =
    rw (e₇, e₆, e₅, e₄, e₃, e₂, e₁, em, ea, ew, ee) (store-seven l 0x32533252 c.end c.held c.words c.at (val c.waits) (val ended))

-- then the two counters
pub put-tally : (t : Tally) (l : List ℕ) {l₁ l₂ : List ℕ} {o e : ℕ} → o ≡ t.odd → e ≡ t.even
    → l₁ ≡ sets l 28 (low_bytes 4 o) → l₂ ≡ sets l₁ 32 (low_bytes 4 e)
    → l₂ ≡ sets l 28 (numbers_written (tally_of t))
put-tally t l eo ee e₁ e₂ = rw (e₂, e₁, eo, ee) (store_two l t.odd t.even)

-- and so the whole start
pub put-nine : (c : Candidate) (ended : Bool) (l : List ℕ) {l₁ l₂ : List ℕ}
    → l₁ ≡ sets l 0 (numbers_written (counts_of c ended)) → l₂ ≡ sets l₁ 28 (numbers_written (tally_of c.tally))
    → l₂ ≡ sets l 0 (numbers_written (start_of c ended))
put-nine c ended l e₁ e₂ =
    e₂ ∙ ap (λ k. sets k 28 (numbers_written (tally_of c.tally))) e₁ ∙ sym (store_both (counts_of c ended) (tally_of c.tally) l 0)

-- counts of less than 32 bits
pub narrow : (c : Candidate) → c.end < 2 ^ 32 → c.held < 2 ^ 32 → c.words < 2 ^ 32 → too_wide c ≡ false
unfolding too_wide
narrow c e h w = rw (lt-leb (2 ^ 32) c.end e, lt-leb (2 ^ 32) c.held h, lt-leb (2 ^ 32) c.words w)

module _ (c : Candidate) (ended : Bool) (bs : List ℕ) where
  pub start-wide : too_wide c ≡ true → (stored.Refused 5 ≡ stored_by c bs) × (bs ≡ start_put c ended bs)
  unfolding start_put
  start-wide w = (rw w, rw w)

  module _ (w : too_wide c ≡ false) where
    pub start-short : length bs < state_size → (stored.Refused 13 ≡ stored_by c bs) × (bs ≡ start_put c ended bs)
    unfolding start_put
    start-short h = (rw (w, lt-ltb (length bs) state_size h), rw (w, lt-ltb (length bs) state_size h))

    pub start-done : state_size ≤ length bs → stored.Done ≡ stored_by c bs
    start-done h = rw (w, le-ltb (length bs) state_size h)

    -- where there are enough bytes
    pub start_is : state_size ≤ length bs → start_put c ended bs ≡ numbers_written (start_of c ended) ++ drop start_size bs
    unfolding start_put
    start_is h = rw (w, le-ltb (length bs) state_size h)

  pub start-whole : too_wide c ≡ false → state_size ≤ length bs → {l : List ℕ} → l ≡ sets bs 0 (numbers_written (start_of c ended)) → l ≡ start_put c ended bs
  start-whole w h e =
      e ∙ sets-eq (numbers_written (start_of c ended)) bs 0 (omega (arith, size)) ∙ ap (λ j. numbers_written (start_of c ended) ++ drop j bs) size
      ∙ sym (start_is w h)
    where
      size : 0 + length (numbers_written (start_of c ended)) ≡ start_size
      size = omega (arith, length-written (start_of c ended))

module _ (r : Reader) (bs : List ℕ) where
  pub put-wide : too_wide r.candidate ≡ true → bs ≡ state_put r bs
  unfolding state_put
  put-wide w = rw w

  pub put-short : too_wide r.candidate ≡ false → length bs < state_size → bs ≡ state_put r bs
  unfolding state_put
  put-short w h = rw (w, lt-ltb (length bs) state_size h)

  -- the start, then the cells
  pub put_whole : too_wide r.candidate ≡ false → length r.cells ≡ 40 → state_size ≤ length bs → {l m : List ℕ}
      → l ≡ sets bs 0 (numbers_written (start_of r.candidate r.ended)) → m ≡ sets l start_size (numbers_written r.cells)
      → m ≡ state_put r bs
  unfolding state_put state_numbers
  put_whole w full h {l} {m} el em =
      em ∙ ap (λ k. sets k start_size (numbers_written r.cells)) el
      ∙ sym (store_both (start_of r.candidate r.ended) r.cells bs 0)
      ∙ sets-eq (numbers_written (start_of r.candidate r.ended ++ r.cells)) bs 0 (omega (arith, size))
      ∙ ap (λ j. numbers_written (start_of r.candidate r.ended ++ r.cells) ++ drop j bs) size
      ∙ sym (rw (w, le-ltb (length bs) state_size h))
    where
      size : 0 + length (numbers_written (start_of r.candidate r.ended ++ r.cells)) ≡ state_size
      size = omega (arith, length-written (start_of r.candidate r.ended ++ r.cells))
