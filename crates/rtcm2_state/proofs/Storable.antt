-- NOTHING IS LOST. The numbers of a reader that was started and called fit in 32 bits, so that its state as bytes is the whole of it: what holds
-- of a fresh reader, and every call keeps. Assumes nothing.
use mathlib.Core.Path.{◌≡◌, refl, sym, subst}
use mathlib.Core.Bool.{Bool, true, false, cond, not}
use mathlib.Core.Logic.{◌⊎◌, inl, inr}
use mathlib.Core.List.{List, [], ◌∷◌, ◌++◌}
use Prim.Native.Nat.{ℕ, zero, suc, ◌+◌, ◌-◌, ◌*◌, ◌/◌, ◌%◌, ◌^◌, ◌<◌}
use native.Mathlib.Omega.{arith}
use lib.Dec.{leb}
use lib.ListN.{length, drop, get_or, set, replicate, length-replicate}
use Rattle.answer.specs.Order.{Check, in_order, NoneApplies, FirstIs}
use Rattle.answer.proofs.OrderLaws.{first_or_none, order-answers, order-refuses}
use Rattle.bits.specs.Bits.{val, number}
use Rattle.bits.specs.Fields.{Fit}
use Rattle.line.specs.Line.{is_data, six}
use Rattle.stream.specs.Verdict.{hunt}
use Rattle.reader.specs.Hunting.{halt_of, hunt_of}
use Rattle.reader.specs.Cells.{held_bits, put_pair, put_cells, down_cells, room_end, room_cells, pushed_cells}
use Rattle.frame.specs.Frames.{blank}
use Rattle.stream.specs.Standing.{frame_at}
use Rattle.reader.specs.Reading.{bits_of, past, busy, started, moved_to, frame_waits, step_cells, step_to, stepped_by, Run, run_to, ran_by, end_to, take_to, fed_by, fed_all_by, ended_by, taken_by}
use Rattle.reader.specs.declared.hunt.Halt.{Halt}
use Rattle.reader.specs.declared.Tally.{Tally}
use Rattle.reader.specs.declared.Candidate.{Candidate}
use Rattle.reader.specs.declared.Reader.{Reader}
use Rattle.reader.specs.declared.Answer.TheVariants.{Done, Refused}
use Rattle.reader.specs.declared.Next.{Next}
use Rattle.reader.specs.declared.FedAll.{FedAll}
use Rattle.reader.specs.declared.Taken.{Taken}
use Rattle.reader.proofs.Accepted.{Accepted, accept-free, length-step, accepted-step, accepted-end, accepted-take}
use Rattle.reader.proofs.Tallies.{Narrow, tallied-narrow}
use Rattle.rtcm2_state.specs.State.{state_count, state_numbers, too_wide}
use Rattle.rtcm2_state.proofs.StateLaws.{narrow}

-- ---- cells of 32 bits

abbrev pub Small : List ℕ → Type 0
Small [] = Unit {0}
Small (x ∷ xs) = (x < 2 ^ 32) × Small xs

small-zeros : (n : ℕ) → Small (replicate n 0)
small-zeros zero = tt
small-zeros (suc n) = (omega arith, small-zeros n)

small-drop : (k : ℕ) (xs : List ℕ) → Small xs → Small (drop k xs)
small-drop zero xs s = s
small-drop (suc k) [] s = tt
small-drop (suc k) (x ∷ xs) s = small-drop k xs s.1

small-append : (xs ys : List ℕ) → Small xs → Small ys → Small (xs ++ ys)
small-append [] ys s t = t
small-append (x ∷ xs) ys s t = (s.0, small-append xs ys s.1 t)

small-set : (xs : List ℕ) (i a : ℕ) → a < 2 ^ 32 → Small xs → Small (set xs i a)
small-set [] i a h s = tt
small-set (x ∷ xs) zero a h s = (h, s.1)
small-set (x ∷ xs) (suc i) a h s = (s.0, small-set xs i a h s.1)

small-room : (cells : List ℕ) (end held : ℕ) → Small cells → Small (room_cells cells end held)
unfolding room_cells down_cells
small-room cells end held s = go (leb end 1216)
  where
    go : (t : Bool) → Small (cond t cells (drop ((end - held) / 32) cells ++ drop (40 - (end - held) / 32) cells))
    go true = s
    go false =
        small-append (drop ((end - held) / 32) cells) (drop (40 - (end - held) / 32) cells) (small-drop ((end - held) / 32) cells s)
        (small-drop (40 - (end - held) / 32) cells s)

small_put : (cells : List ℕ) (end x : ℕ) → Small cells → Small (put_cells cells end x)
unfolding put_cells
small_put cells end x s =
    let both = put_pair (get_or cells (end / 32) 0) (end % 32) x in
    small-set (set cells (end / 32) (both / 2 ^ 32)) (end / 32 + 1) (both % 2 ^ 32) (low both)
    (small-set cells (end / 32) (both / 2 ^ 32) (high (get_or cells (end / 32) 0) (end % 32)) s)
  where
    low : (v : ℕ) → v % 2 ^ 32 < 2 ^ 32
    low v = omega arith

    cut : (v : ℕ) → v % 2 ^ 64 / 2 ^ 32 < 2 ^ 32
    cut v = omega arith

    high : (c off : ℕ) → put_pair c off x / 2 ^ 32 < 2 ^ 32
    high c off = cut ((c % 2 ^ 32 / 2 ^ (32 - off) * 64 + x) * 2 ^ (58 - off))

small-step : (cells : List ℕ) (c : Candidate) (x : ℕ) → Small cells → Small (step_cells cells c x)
unfolding step_cells pushed_cells
small-step cells c x s = small_put (room_cells cells c.end c.held) (room_end c.end c.held) x (small-room cells c.end c.held s)

-- ---- storable: forty cells of 32 bits, counts that are not past, a position and counters of 32 bits

pub record Storable (cells : List ℕ) (c : Candidate) : Type 0 where
  pub count : length cells ≡ 40
  pub small : Small cells
  pub fine : Accepted c
  pub place : c.at < 2 ^ 32
  pub counters : Narrow c.tally

abbrev pub StorableReader : Reader → Type 0
StorableReader r = Storable r.cells r.candidate

fit_small : (n : ℕ) (xs : List ℕ) → length xs ≡ n → Small xs → Fit (replicate n 32) xs
fit_small zero [] e s = tt
fit_small zero (x ∷ xs) e s = absurd (omega arith)
fit_small (suc n) [] e s = absurd (omega arith)
fit_small (suc n) (x ∷ xs) e s = (s.0, fit_small n xs (omega arith) s.1)

small_val : (b : Bool) → val b < 2 ^ 32
small_val true = omega arith
small_val false = omega arith

-- its counts fit in four bytes
pub storable-narrow : (r : Reader) → StorableReader r → too_wide r.candidate ≡ false
storable-narrow r k =
    let a = k.fine in
    narrow r.candidate (omega (arith, a.top)) (omega (arith, a.top, a.low)) (omega (arith, a.few))

-- every number fits in 32 bits
pub storable-fit : (r : Reader) → StorableReader r → Fit (replicate state_count 32) (state_numbers r)
unfolding state_numbers
storable-fit r k =
    let a = k.fine in
    let cells = fit_small 40 r.cells k.count k.small in (
      omega arith,
      (
        omega (arith, a.top),
        (
          omega (arith, a.top, a.low),
          (
            omega (arith, a.few),
            (k.place, (small_val r.candidate.waits, (small_val r.ended, (k.counters.odd, (k.counters.even, cells))))),
          ),
        ),
      ),
    )

-- ---- a fresh reader, and each step

pub storable-started : StorableReader started
unfolding started
storable-started = record {
  count = length-replicate {A = ℕ} 40 0;
  small = small-zeros 40;
  fine = accept-free started.candidate refl (omega arith) (omega arith) (omega arith) (omega arith) (omega arith);
  place = omega arith;
  counters = record { odd = omega arith; even = omega arith };
}

moved-place : (at end held : ℕ) (s : Halt) → (moved_to at end held s).at < 2 ^ 32
unfolding moved_to
moved-place at end held s = omega arith

-- wherever a hunt stops
hunted-narrow : (cells : List ℕ) (end held words : ℕ) (ended : Bool) (t : Tally) (at held₀ : ℕ) → Narrow t
    → Narrow (moved_to at end held₀ (hunt_of cells end held words ended t)).tally
unfolding moved_to hunt_of halt_of
hunted-narrow cells end held words ended t at held₀ n = tallied-narrow t (hunt ended words (held_bits cells end held)).faults n

module _ (cells : List ℕ) (c : Candidate) (k : Storable cells c) where
  storable-step : c.waits ≡ false → (x : ℕ) → Storable (step_cells cells c x) (step_to cells c x)
  storable-step w x = record {
    count = length-step cells k.count c k.fine w x;
    small = small-step cells c x k.small;
    fine = accepted-step cells k.count c k.fine w x;
    place = unfold step_to in moved-place _ _ _ _;
    counters = unfold step_to in hunted-narrow _ _ _ _ _ _ _ _ k.counters;
  }

  storable-end : Storable cells (end_to cells c)
  storable-end = record {
    count = k.count;
    small = k.small;
    fine = accepted-end cells k.count c k.fine;
    place = unfold end_to in moved-place _ _ _ _;
    counters = unfold end_to in hunted-narrow _ _ _ _ _ _ _ _ k.counters;
  }

  storable-take : (ended : Bool) → Storable cells (take_to cells c ended)
  storable-take ended = record {
    count = k.count;
    small = k.small;
    fine = accepted-take cells k.count c k.fine ended;
    place = unfold take_to in moved-place _ _ _ _;
    counters = unfold take_to in hunted-narrow _ _ _ _ _ _ _ _ k.counters;
  }

abbrev StorableRun : Run → Type 0
StorableRun x = Storable x.cells x.candidate

storable-run : (cells : List ℕ) (c : Candidate) (bs : List ℕ) → Storable cells c → StorableRun (run_to cells c bs)
unfolding run_to
storable-run cells c [] k = k
storable-run cells c (b ∷ bs) k =
    go c.waits refl (is_data b)
    (λ w. storable-run (step_cells cells c (number (six b))) (step_to cells c (number (six b))) bs (storable-step cells c k w (number (six b))))
    (storable-run cells c bs k)
  where
    on : Run
    on = run_to (step_cells cells c (number (six b))) (step_to cells c (number (six b))) bs

    over : Run
    over = run_to cells c bs

    go : (w : Bool) → c.waits ≡ w → (d : Bool) → (c.waits ≡ false → StorableRun on) → StorableRun over
        → StorableRun (cond w (record { cells = cells; candidate = c; used = 0; passed = 0 })
        (cond d (record { cells = on.cells; candidate = on.candidate; used = 1 + on.used; passed = 0 + on.passed })
        (record { cells = over.cells; candidate = over.candidate; used = 1 + over.used; passed = 1 + over.passed })))
    go true e d f g = k
    go false e true f g = f e
    go false e false f g = g

-- ---- every call

-- what holds of each refusal, and of the answer where no check applies
pub order-holds : {A : Type 0} (P : A → Type 0) (cs : List Check) (refuse : ℕ → A) (answer : A) → ((n : ℕ) → P (refuse n)) → (NoneApplies cs → P answer)
    → P (in_order cs refuse answer)
order-holds P cs refuse answer h k = go (first_or_none cs)
  where
    go : NoneApplies cs ⊎ ((n : ℕ) × FirstIs cs n) → P (in_order cs refuse answer)
    go (inl none) = subst P (sym (order-answers refuse answer cs none)) (k none)
    go (inr (n, first)) = subst P (sym (order-refuses refuse answer cs n first)) (h n)

module _ (r : Reader) (k : StorableReader r) where
  pub storable-fed : (b : ℕ) → StorableReader (fed_by r b).reader
  unfolding fed_by stepped_by
  storable-fed b =
      order-holds (λ (x : Next). StorableReader x.reader) (busy r ++ ((not (is_data b), 1) ∷ [])) (λ n. record { answer = Refused n; reader = r })
      (record { answer = Done; reader = stepped_by r b }) (λ n. k) (λ none. storable-step r.cells r.candidate k none.1.1.0 (number (six b)))

  pub storable-fed-all : (bs : List ℕ) → StorableReader (fed_all_by r bs).reader
  unfolding fed_all_by
  storable-fed-all bs =
      order-holds (λ (x : FedAll). StorableReader x.reader) (busy r) (λ n. record { answer = Refused n; used = 0; passed = 0; reader = r })
      (ran_by r (run_to r.cells r.candidate bs)) (λ n. k) (λ none. storable-run r.cells r.candidate bs k)

  pub storable-ended : StorableReader (ended_by r).reader
  unfolding ended_by
  storable-ended =
      order-holds (λ (x : Next). StorableReader x.reader) (busy r) (λ n. record { answer = Refused n; reader = r })
      (record { answer = Done; reader = record { cells = r.cells; candidate = end_to r.cells r.candidate; ended = true } }) (λ n. k)
      (λ none. storable-end r.cells r.candidate k)

  pub storable-taken : StorableReader (taken_by r).reader
  unfolding taken_by
  storable-taken =
      order-holds (λ (x : Taken). StorableReader x.reader) ((past r, 5) ∷ (not (frame_waits r), 4) ∷ [])
      (λ n. record { answer = Refused n; at = 0; frame = blank; reader = r }) (record {
        answer = Done;
        at = r.candidate.at;
        frame = frame_at (bits_of r);
        reader = record { cells = r.cells; candidate = take_to r.cells r.candidate r.ended; ended = r.ended };
      }) (λ n. k) (λ none. storable-take r.cells r.candidate k r.ended)
