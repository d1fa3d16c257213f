-- ROUND TRIP, over the definitions that the contracts cite. A state that was put is held, and is read back equal; putting back what was read
-- changes no byte. Assumes nothing.
use mathlib.Core.Path.{◌≡◌, refl, sym, ap, ap₂, subst, ◌∙◌}
use mathlib.Core.Bool.{Bool, true, false, ◌&&◌, not, and-eq-true_iff}
use mathlib.Core.List.{List, [], ◌∷◌, ◌++◌}
use Prim.Native.Nat.{ℕ, zero, suc, ◌*◌, ◌^◌, ◌≤◌, ◌<◌}
use native.Mathlib.Omega.{arith}
use lib.Dec.{ltb, eqb}
use lib.ListN.{length, drop, get_or, replicate, length-append, length-replicate, take-append-drop}
use lib.Seq.{drop_at}
use borrow.Author.Tests.{le-ltb, ltb-true, eqb-true}
use Rattle.bits.specs.Bits.{val}
use Rattle.bits.specs.Fields.{Fit, AreBytes}
use Rattle.bits.proofs.FieldLaws.{length-fit, fit-drop}
use Rattle.reader.specs.declared.Reader.{Reader}
use Rattle.rtcm2_state.specs.Numbers.{low_bytes, numbers_written, numbers_in}
use Rattle.rtcm2_state.specs.State.{state_size, state_count, start_size, start_of, state_numbers, reader_of, are_state}
use Rattle.rtcm2_state.specs.State.{holds_state, state_in, too_wide, start_put, state_put}
use Rattle.rtcm2_state.proofs.NumberLaws.{length-written, length-numbers, number-of, number-four, numbers-written, written-numbers}
use Rattle.rtcm2_state.proofs.StateLaws.{held-long, read_is, narrow, start_is}

-- ---- a reader and its numbers

yes-no : (b : Bool) → eqb (val b) 1 ≡ b
yes-no true = refl
yes-no false = refl

one-zero : (n : ℕ) → n < 2 → val (eqb n 1) ≡ n
one-zero zero h = refl
one-zero (suc zero) h = refl
one-zero (suc (suc n)) h = absurd (omega arith)

below_two : (b : Bool) → ltb (val b) 2 ≡ true
below_two true = refl
below_two false = refl

reader-numbers : (r : Reader) → reader_of (state_numbers r) ≡ r
unfolding reader_of state_numbers
reader-numbers r =
    let c = r.candidate in
    ap₂ (λ waits ended. record {
      cells = r.cells;
      candidate = record { end = c.end; held = c.held; words = c.words; at = c.at; waits = waits; tally = c.tally };
      ended = ended;
    }) (yes-no c.waits) (yes-no r.ended)

numbers-state : (r : Reader) → are_state (state_numbers r) ≡ true
unfolding are_state state_numbers
numbers-state r = rw (below_two r.candidate.waits, below_two r.ended)

numbers-reader : (ns : List ℕ) → 9 ≤ length ns → are_state ns ≡ true → state_numbers (reader_of ns) ≡ ns
unfolding are_state state_numbers reader_of
numbers-reader [] l h = absurd (omega arith)
numbers-reader (a ∷ []) l h = absurd (omega arith)
numbers-reader (a ∷ b ∷ []) l h = absurd (omega arith)
numbers-reader (a ∷ b ∷ c ∷ []) l h = absurd (omega arith)
numbers-reader (a ∷ b ∷ c ∷ d ∷ []) l h = absurd (omega arith)
numbers-reader (a ∷ b ∷ c ∷ d ∷ e ∷ []) l h = absurd (omega arith)
numbers-reader (a ∷ b ∷ c ∷ d ∷ e ∷ f ∷ []) l h = absurd (omega arith)
numbers-reader (a ∷ b ∷ c ∷ d ∷ e ∷ f ∷ g ∷ []) l h = absurd (omega arith)
numbers-reader (a ∷ b ∷ c ∷ d ∷ e ∷ f ∷ g ∷ i ∷ []) l h = absurd (omega arith)
numbers-reader (a ∷ b ∷ c ∷ d ∷ e ∷ f ∷ g ∷ i ∷ j ∷ ns) l h =
    let p = (and-eq-true_iff (eqb a 0x32533252 && ltb f 2) (ltb g 2)).0 h in
    let q = (and-eq-true_iff (eqb a 0x32533252) (ltb f 2)).0 p.0 in
    ap (λ m. m ∷ b ∷ c ∷ d ∷ e ∷ val (eqb f 1) ∷ val (eqb g 1) ∷ i ∷ j ∷ ns) (sym (eqb-true a 0x32533252 q.0))
    ∙ ap₂ (λ m n. a ∷ b ∷ c ∷ d ∷ e ∷ m ∷ n ∷ i ∷ j ∷ ns) (one-zero f (ltb-true f 2 q.1)) (one-zero g (ltb-true g 2 p.1))

-- ---- put, then read

-- where there are enough bytes
pub put_is : (r : Reader) (bs : List ℕ) → too_wide r.candidate ≡ false → state_size ≤ length bs
    → state_put r bs ≡ numbers_written (state_numbers r) ++ drop state_size bs
unfolding state_put
put_is r bs w h = rw (w, le-ltb (length bs) state_size h)

-- every number of the reader fits in 32 bits, and there are forty cells
module _ (r : Reader) (bs : List ℕ) (h : state_size ≤ length bs) (f : Fit (replicate state_count 32) (state_numbers r)) where
  count : state_count ≡ length (state_numbers r)
  count = sym (length-replicate {A = ℕ} state_count 32) ∙ sym (length-fit (replicate state_count 32) (state_numbers r) f)

  counts : too_wide r.candidate ≡ false
  unfolding state_numbers
  counts = narrow r.candidate f.1.0 f.1.1.0 f.1.1.1.0

  numbers-back : numbers_in state_count (state_put r bs) ≡ state_numbers r
  numbers-back =
      ap (numbers_in state_count) (put_is r bs counts h)
      ∙ ap (λ n. numbers_in n (numbers_written (state_numbers r) ++ drop state_size bs)) count
      ∙ numbers-written (state_numbers r) (drop state_size bs) (rw (sym count) f)

  long : state_size ≤ length (state_put r bs)
  long =
      omega (
        arith,
        ap length (put_is r bs counts h),
        length-append (numbers_written (state_numbers r)) (drop state_size bs),
        length-written (state_numbers r),
        count,
      )

  -- HELD after it was put
  pub put-held : holds_state (state_put r bs) ≡ true
  unfolding holds_state
  put-held = ap₂ (λ t ns. not t && are_state ns) (le-ltb (length (state_put r bs)) state_size long) numbers-back ∙ numbers-state r

  -- READ after it was put: the same reader
  pub put-read : state_in (state_put r bs) ≡ r
  unfolding state_in
  put-read = rw put-held (ap reader_of numbers-back ∙ reader-numbers r)

  -- PUT AGAIN over it: as if it had not been
  pub put-again : (q : Reader) → too_wide q.candidate ≡ false → state_put q (state_put r bs) ≡ state_put q bs
  put-again q w =
      put_is q (state_put r bs) w long
      ∙ ap (λ l. numbers_written (state_numbers q) ++ drop state_size l) (put_is r bs counts h)
      ∙ ap (λ l. numbers_written (state_numbers q) ++ l) (drop_at (numbers_written (state_numbers r)) (drop state_size bs) state_size size)
      ∙ sym (put_is q bs w h)
    where
      size : length (numbers_written (state_numbers r)) ≡ state_size
      size = omega (arith, length-written (state_numbers r), count)

  -- PUT THE START over it, of a reader with the same cells: as if the whole of that reader had been put
  pub start-put : (q : Reader) → too_wide q.candidate ≡ false → q.cells ≡ r.cells → start_put q.candidate q.ended (state_put r bs) ≡ state_put q bs
  unfolding state_numbers numbers_written low_bytes
  start-put q w e =
      let start = numbers_written (start_of q.candidate q.ended) in
      start_is q.candidate q.ended (state_put r bs) w long
      ∙ ap (λ l. start ++ drop start_size l) (put_is r bs counts h)
      ∙ ap (λ cells. start ++ (numbers_written cells ++ drop state_size bs)) (sym e)
      ∙ sym (put_is q bs w h)

-- ---- read, then put: no byte changes

module _ (bs : List ℕ) (f : AreBytes bs) (e : holds_state bs ≡ true) where
  are-state : are_state (numbers_in state_count bs) ≡ true
  unfolding holds_state
  are-state = ((and-eq-true_iff (not (ltb (length bs) state_size)) (are_state (numbers_in state_count bs))).0 e).1

  -- each of its numbers is four bytes
  pub below : (i : ℕ) → i < state_count → get_or (numbers_in state_count bs) i 0 < 2 ^ 32
  below i l = subst (λ n. n < 2 ^ 32) (sym (number-of state_count i bs l)) (number-four (drop (4 * i) bs) (fit-drop (4 * i) bs f))

  counts-read : too_wide (state_in bs).candidate ≡ false
  counts-read =
      subst (λ r. too_wide r.candidate ≡ false) (sym (read_is bs e))
      (unfold reader_of in narrow (reader_of (numbers_in state_count bs)).candidate (below 1 (omega arith)) (below 2 (omega arith)) (below 3 (omega arith)))

  -- the bytes are its numbers
  pub written_read : numbers_written (state_numbers (state_in bs)) ++ drop state_size bs ≡ bs
  written_read =
      ap (λ r. numbers_written (state_numbers r) ++ drop state_size bs) (read_is bs e)
      ∙ ap (λ ns. numbers_written ns ++ drop state_size bs) (numbers-reader (numbers_in state_count bs) (omega (arith, length-numbers state_count bs)) are-state)
      ∙ ap (λ l. l ++ drop state_size bs) (written-numbers state_count bs f (held-long bs e))
      ∙ take-append-drop state_size bs

  pub read-put : state_put (state_in bs) bs ≡ bs
  read-put = put_is (state_in bs) bs counts-read (held-long bs e) ∙ written_read
