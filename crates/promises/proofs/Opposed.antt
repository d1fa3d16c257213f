-- Two readers whose bits are turned over against each other go the same way, step by step. Assumes nothing.
use mathlib.Core.Path.{◌≡◌, refl, sym, ap, ap₂, subst, ◌∙◌}
use mathlib.Core.Bool.{Bool, true, false, not}
use mathlib.Core.List.{List, ◌++◌, map, map-append}
use Prim.Native.Nat.{ℕ, ◌+◌, ◌-◌, ◌*◌, ◌≤◌}
use native.Mathlib.Omega.{arith}
use lib.ListN.{length, drop, length-map}
use Rattle.bits.specs.Bits.{number}
use Rattle.bits.proofs.Numbers.{bits-number}
use Rattle.line.specs.Line.{six}
use Rattle.line.proofs.LineLaws.{length-six, six-lt}
use Rattle.stream.specs.Standing.{n_at, size, Stands}
use Rattle.stream.specs.Verdict.{Hunted, hunt}
use Rattle.stream.proofs.Stand.{stands-long}
use Rattle.stream.proofs.Turning.{drop-turned, n-turned}
use Rattle.stream.proofs.Hunting.{turned_hunt, hunt-turned}
use Rattle.reader.specs.Cells.{held_bits, room_end}
use Rattle.reader.specs.Hunting.{tallied, halt_of, hunt_of}
use Rattle.reader.specs.Reading.{candidate_bits, moved_to, step_cells, step_to, end_to, take_to}
use Rattle.reader.specs.declared.hunt.Halt.{Halt}
use Rattle.reader.specs.declared.Tally.{Tally}
use Rattle.reader.specs.declared.Candidate.{Candidate}
use Rattle.reader.proofs.Buffer.{held-part, length-held}
use Rattle.reader.proofs.Accepted.{Accepted, rest-bits, length-step, step-top, step-low, step-bits}

pub record Opposed (cells : List ℕ) (c : Candidate) (cells' : List ℕ) (c' : Candidate) : Type 0 where
  pub bits : candidate_bits cells' c' ≡ map not (candidate_bits cells c)
  pub held : c'.held ≡ c.held
  pub words : c'.words ≡ c.words
  pub at : c'.at ≡ c.at
  pub waits : c'.waits ≡ c.waits
  pub tally : c'.tally ≡ c.tally

-- ---- the hunt goes on

same-halt : (t : Tally) (h : Hunted) → halt_of t (turned_hunt h) ≡ halt_of t h
unfolding halt_of turned_hunt
same-halt t h = ap (λ n. record { left = n; words = h.words; found = h.found; tally = tallied t h.faults }) (length-map h.rest not)

module _ (cells cells' : List ℕ) (len : length cells ≡ 40) (len' : length cells' ≡ 40) (end end' n : ℕ) (top : end ≤ 1280) (top' : end' ≤ 1280)
    (low : n ≤ end) (low' : n ≤ end')
    (k : ℕ) (e : Bool) (t : Tally) (is : held_bits cells' end' n ≡ map not (held_bits cells end n)) where
  halt : hunt_of cells' end' n k e t ≡ hunt_of cells end n k e t
  unfolding hunt_of
  halt = ap (λ d. halt_of t (hunt e k d)) is ∙ ap (halt_of t) (hunt-turned e k (held_bits cells end n)) ∙ same-halt t (hunt e k (held_bits cells end n))

  rest : held_bits cells' end' (hunt_of cells end n k e t).left ≡ map not (held_bits cells end (hunt_of cells end n k e t).left)
  rest =
      ap (λ (s : Halt). held_bits cells' end' s.left) (sym halt)
      ∙ rest-bits cells' len' end' n top' low' k e t
      ∙ ap (λ d. (hunt e k d).rest) is
      ∙ ap (λ (h : Hunted). h.rest) (hunt-turned e k (held_bits cells end n))
      ∙ (unfold turned_hunt in ap (map not) (sym (rest-bits cells len end n top low k e t)))

  pub stopped-opposed : (at held : ℕ)
      → Opposed cells (moved_to at end held (hunt_of cells end n k e t)) cells' (moved_to at end' held (hunt_of cells' end' n k e t))
  stopped-opposed at held = subst (λ s. Opposed cells (moved_to at end held (hunt_of cells end n k e t)) cells' (moved_to at end' held s)) (sym halt) same
    where
      same : Opposed cells (moved_to at end held (hunt_of cells end n k e t)) cells' (moved_to at end' held (hunt_of cells end n k e t))
      same = unfold moved_to candidate_bits in record { bits = rest; held = refl; words = refl; at = refl; waits = refl; tally = refl }

-- ---- the calls

module _ (cells : List ℕ) (len : length cells ≡ 40) (c : Candidate) (a : Accepted c)
    (cells' : List ℕ) (len' : length cells' ≡ 40) (c' : Candidate) (a' : Accepted c') (o : Opposed cells c cells' c') where
  -- six bits more, turned over against each other
  pub step-opposed : c.waits ≡ false → (b d : ℕ) → six d ≡ map not (six b)
      → Opposed (step_cells cells c (number (six b))) (step_to cells c (number (six b)))
      (step_cells cells' c' (number (six d))) (step_to cells' c' (number (six d)))
  step-opposed w b d t =
      subst (Opposed (step_cells cells c x) (step_to cells c x) (step_cells cells' c' x')) (sym step_is)
      (unfold step_to in stopped-opposed (step_cells cells c x) (step_cells cells' c' x') (length-step cells len c a w x) (length-step cells' len' c' a' w' x')
      (room_end c.end c.held + 6) (room_end c'.end c'.held + 6) (c.held + 6) (step-top cells len c a w x) (step-top cells' len' c' a' w' x')
      (step-low cells len c a w x) (subst (λ h. h + 6 ≤ room_end c'.end c'.held + 6) o.held (step-low cells' len' c' a' w' x'))
      c.words false c.tally bits_are c.at (c.held + 6))
    where
      x : ℕ
      x = number (six b)

      x' : ℕ
      x' = number (six d)

      w' : c'.waits ≡ false
      w' = o.waits ∙ w

      step_is : step_to cells' c' x'
          ≡ moved_to c.at (room_end c'.end c'.held + 6) (c.held + 6)
          (hunt_of (step_cells cells' c' x') (room_end c'.end c'.held + 6) (c.held + 6) c.words false c.tally)
      step_is =
          unfold step_to in (λ i. moved_to (o.at i) (room_end c'.end c'.held + 6) (o.held i + 6)
          (hunt_of (step_cells cells' c' x') (room_end c'.end c'.held + 6) (o.held i + 6) (o.words i) false (o.tally i)))

      bits_are : held_bits (step_cells cells' c' x') (room_end c'.end c'.held + 6) (c.held + 6)
          ≡ map not (held_bits (step_cells cells c x) (room_end c.end c.held + 6) (c.held + 6))
      bits_are =
          ap (λ h. held_bits (step_cells cells' c' x') (room_end c'.end c'.held + 6) (h + 6)) (sym o.held)
          ∙ step-bits cells' len' c' a' w' x' (six-lt d)
          ∙ ap₂ ◌++◌ o.bits (bits-number 6 (six d) (length-six d) ∙ t)
          ∙ sym (map-append not (candidate_bits cells c) (six b))
          ∙ ap (map not) (ap (λ l. candidate_bits cells c ++ l) (sym (bits-number 6 (six b) (length-six b))) ∙ sym (step-bits cells len c a w x (six-lt b)))

  pub end-opposed : Opposed cells (end_to cells c) cells' (end_to cells' c')
  end-opposed =
      subst (Opposed cells (end_to cells c) cells') (sym end_is)
      (unfold end_to in stopped-opposed cells cells' len len' c.end c'.end c.held a.top a'.top a.low
      (subst (λ h. h ≤ c'.end) o.held a'.low) c.words true c.tally bits_are c.at c.held)
    where
      end_is : end_to cells' c' ≡ moved_to c.at c'.end c.held (hunt_of cells' c'.end c.held c.words true c.tally)
      end_is = unfold end_to in (λ i. moved_to (o.at i) c'.end (o.held i) (hunt_of cells' c'.end (o.held i) (o.words i) true (o.tally i)))

      bits_are : held_bits cells' c'.end c.held ≡ map not (held_bits cells c.end c.held)
      bits_are = unfold candidate_bits in ap (held_bits cells' c'.end) (sym o.held) ∙ o.bits

  pub take-opposed : Stands (candidate_bits cells c) → (ended : Bool) → Opposed cells (take_to cells c ended) cells' (take_to cells' c' ended)
  take-opposed s ended =
      subst (Opposed cells (take_to cells c ended) cells') (sym take-is)
      (unfold take_to in stopped-opposed cells cells' len len' c.end c'.end (c.held - m) a.top a'.top (omega (arith, a.low))
      (omega (arith, a'.low, o.held)) 0 ended c.tally bits_are c.at c.held)
    where
      m : ℕ
      m = 30 * size (candidate_bits cells c)

      same : n_at (candidate_bits cells' c') ≡ n_at (candidate_bits cells c)
      same = ap n_at o.bits ∙ n-turned (candidate_bits cells c) (stands-long (candidate_bits cells c) s)

      take-is : take_to cells' c' ended ≡ moved_to c.at c'.end c.held (hunt_of cells' c'.end (c.held - m) 0 ended c.tally)
      take-is = unfold take_to in (λ i. moved_to (o.at i) c'.end (o.held i) (hunt_of cells' c'.end (o.held i - 30 * (2 + same i)) 0 ended (o.tally i)))

      long : length (held_bits cells c.end c.held) ≡ c.held
      long = length-held cells c.end c.held len a.top a.low

      within : m ≤ c.held
      within = unfold candidate_bits in omega (arith, s.taken, long)

      back : c.held - (c.held - m) ≡ m
      back = omega (arith, within)

      cut : (xs : List ℕ) (end : ℕ) → c.held ≤ end → held_bits xs end (c.held - m) ≡ drop m (held_bits xs end c.held)
      cut xs end h = sym (ap (λ n. drop n (held_bits xs end c.held)) (sym back) ∙ held-part xs end c.held (c.held - m) (omega arith) h)

      whole : held_bits cells' c'.end c.held ≡ map not (held_bits cells c.end c.held)
      whole = unfold candidate_bits in ap (held_bits cells' c'.end) (sym o.held) ∙ o.bits

      bits_are : held_bits cells' c'.end (c.held - m) ≡ map not (held_bits cells c.end (c.held - m))
      bits_are =
          cut cells' c'.end (subst (λ h. h ≤ c'.end) o.held a'.low) ∙ ap (drop m) whole ∙ drop-turned m (held_bits cells c.end c.held)
          ∙ ap (map not) (sym (cut cells c.end a.low))
