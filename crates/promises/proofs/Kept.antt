-- What holds of a reader that was started fresh and changed only by calls: the bits s were taken, the frames `out` were handed out, and what is
-- left is the rest of the scan. Each step of a call keeps it. Assumes nothing.
use mathlib.Core.Path.{◌≡◌, refl, sym, ap, ap₂, subst, ◌∙◌}
use mathlib.Core.Bool.{Bool, true, false}
use mathlib.Core.List.{List, [], ◌∷◌, ◌++◌, map, map-append, append_assoc}
use Prim.Native.Nat.{ℕ, suc, ◌+◌, ◌-◌, ◌*◌, ◌%◌, ◌^◌, ◌≤◌}
use native.Mathlib.Nat.{zero-add, add-suc, add_assoc}
use native.Mathlib.Omega.{arith}
use lib.ListN.{length, drop, replicate, length-append, length-drop}
use lib.Seq.{drop-append-le, drop-drop}
use Rattle.bits.specs.Bits.{number}
use Rattle.bits.proofs.Numbers.{bits-number}
use Rattle.line.specs.Line.{six}
use Rattle.line.proofs.LineLaws.{length-six, six-lt}
use Rattle.frame.specs.declared.Frame.{Frame}
use Rattle.stream.specs.Standing.{size, Stands, frame_at, Placed, placed, scan}
use Rattle.stream.specs.Verdict.{RightSoFar, decided, Fault, hunt}
use Rattle.stream.specs.Faults.{faults}
use Rattle.stream.proofs.Words.{unlike, n-append}
use Rattle.stream.proofs.Stand.{stands-long, stands-append, placed-append}
use Rattle.stream.proofs.Verdicts.{none_so_far, so-far-append}
use Rattle.stream.proofs.Scanning.{scan-hit}
use Rattle.stream.proofs.Prefix.{decided-hit}
use Rattle.stream.proofs.Faulting.{faults-hit}
use Rattle.stream.proofs.Hunting.{MayCome, Idle, Hunts, hunts}
use Rattle.reader.specs.Cells.{held_bits, room_end}
use Rattle.reader.specs.Hunting.{fresh, tallied, halt_of, hunt_of}
use Rattle.reader.specs.Reading.{candidate_bits, bits_of, started, moved_to, step_cells, step_to, stepped_by, end_to, take_to}
use Rattle.reader.specs.declared.Tally.{Tally}
use Rattle.reader.specs.declared.Candidate.{Candidate}
use Rattle.reader.specs.declared.Reader.{Reader}
use Rattle.reader.proofs.Buffer.{length-held, held-part, held_none}
use Rattle.reader.proofs.Accepted.{Accepted, room-free, room-all, so-far-known, rest-bits, accepted-halt, length-step, step-top, step-low, step-bits}
use Rattle.reader.proofs.Tallies.{tallied-append}
use Rattle.promises.specs.Calls.{reported}
use Rattle.promises.proofs.Stages.{Stage, stage-more}

pub record Kept (s : List Bool) (out : List (ℕ × Frame)) (r : Reader) : Type 0 where
  pub len : length r.cells ≡ 40
  pub accepted : Accepted r.candidate
  pub hits : List Placed
  pub given : out ≡ map reported hits
  pub gone : ℕ
  pub met : List Fault
  pub tally : r.candidate.tally ≡ tallied fresh met
  pub stage : Stage s hits met r.ended gone (bits_of r)
  pub at : r.candidate.at ≡ (2 + gone) % 2 ^ 32
  pub found : r.candidate.waits ≡ true → Stands (bits_of r)
  pub idle : r.candidate.waits ≡ false → Idle r.ended r.candidate.words (bits_of r)

pub held-long : (r : Reader) → length r.cells ≡ 40 → Accepted r.candidate → length (bits_of r) ≡ r.candidate.held
unfolding candidate_bits
held-long r l a = length-held r.cells r.candidate.end r.candidate.held l a.top a.low

-- positions modulo 2^32
pub mod-shift : (a b k : ℕ) → a % 2 ^ 32 ≡ b % 2 ^ 32 → (a + k) % 2 ^ 32 ≡ (b + k) % 2 ^ 32
mod-shift a b k e = omega arith

standing-still : (at n gone : ℕ) → at ≡ (2 + gone) % 2 ^ 32 → (at + (n - n)) % 2 ^ 32 ≡ (2 + gone) % 2 ^ 32
standing-still at n gone e = omega arith

further : (at held n left gone more : ℕ) → n ≤ held → more + left ≡ n → (at + (held - n)) % 2 ^ 32 ≡ (2 + gone) % 2 ^ 32
    → (at + (held - left)) % 2 ^ 32 ≡ (2 + (gone + more)) % 2 ^ 32
further at held n left gone more h m e =
    ap (λ x. x % 2 ^ 32) there ∙ mod-shift (at + (held - n)) (2 + gone) more e ∙ ap (λ x. x % 2 ^ 32) (add_assoc 2 gone more)
  where
    there : at + (held - left) ≡ at + (held - n) + more
    there = omega arith

-- ---- THE HUNT GOES ON from word k of the position that the n bits before bit `end` start two bits before

module _ (s : List Bool) (out : List (ℕ × Frame)) (hits : List Placed) (given : out ≡ map reported hits) (ended : Bool) (cells : List ℕ)
    (len : length cells ≡ 40)
    (end n : ℕ) (top : end ≤ 1280) (low : n ≤ end) (room : n ≤ 997) (k : ℕ) (gone : ℕ) (met : List Fault) (t : Tally) (counts : t ≡ tallied fresh met)
    (g : Stage s hits met ended gone (held_bits cells end n))
    (p : RightSoFar k (held_bits cells end n)) (few : k ≤ 32) (at held : ℕ) (less : n ≤ held) (place : (at + (held - n)) % 2 ^ 32 ≡ (2 + gone) % 2 ^ 32) where
  h : Hunts ended (held_bits cells end n) (hunt ended k (held_bits cells end n))
  h = hunts ended k (held_bits cells end n) p

  abbrev more : List Fault
  more = (hunt ended k (held_bits cells end n)).faults

  rest : held_bits cells end (hunt_of cells end n k ended t).left ≡ (hunt ended k (held_bits cells end n)).rest
  rest = rest-bits cells len end n top low k ended t

  pub settled : Kept s out (record { cells = cells; candidate = moved_to at end held (hunt_of cells end n k ended t); ended = ended })
  unfolding moved_to candidate_bits hunt_of halt_of
  settled = record {
    len = len;
    accepted =
        accepted-halt cells len end n top low k ended t at held room few
        (omega (arith, so-far-known k (held_bits cells end n) p, length-held cells end n len top low));
    hits = hits;
    given = given;
    gone = gone + h.gone;
    met = met ++ more;
    tally = ap (λ x. tallied x more) counts ∙ sym (tallied-append fresh met more);
    stage = record {
      split = rest ∙ h.rest ∙ ap (drop h.gone) g.split ∙ drop-drop h.gone gone s;
      long = ap (λ l. gone + h.gone + length l) rest ∙ omega (arith, h.long, g.long);
      scanned = λ e m. g.scanned e m ∙ ap (λ l. hits ++ l) (h.scanned (2 + gone) e m ∙ rw (add_assoc 2 gone h.gone, rest));
      decides = λ x e. g.decides x e ∙ ap (λ l. hits ++ l) (h.decides x (2 + gone) e ∙ rw (add_assoc 2 gone h.gone, rest));
      faulted = λ x y m e z. g.faulted x y m e z ∙ ap (λ l. met ++ l) (h.faulted x y m e z)
          ∙ sym (append_assoc met more _) ∙ ap (λ l. (met ++ more) ++ faults x m 0 (l ++ e)) (sym rest);
    };
    at = further at held n (length (hunt ended k (held_bits cells end n)).rest) gone h.gone less (h.long ∙ length-held cells end n len top low) place;
    found = λ w. subst Stands (sym rest) (h.found w);
    idle = λ w. subst (Idle ended _) (sym rest) (h.idle w);
  }

-- ---- A READER STARTED FRESH

pub kept-started : Kept [] [] started
unfolding started candidate_bits
kept-started = record {
  len = refl;
  accepted = record { top = omega arith; low = omega arith; room = omega arith; few = omega arith; known = omega arith };
  hits = [];
  given = refl;
  gone = 0;
  met = [];
  tally = unfold tallied in refl;
  stage =
      record {
        split = none;
        long = ap (λ l. 0 + length l) none;
        scanned = λ e m. ap (λ l. scan 0 2 (l ++ e)) (sym none);
        decides = λ x e. ap (λ l. decided 0 2 (l ++ e)) (sym none);
        faulted = λ x y m e z. ap₂ (λ i l. faults x i 0 (l ++ e)) (zero-add m) (sym none);
      };
  at = refl;
  found = λ w. unlike false w refl;
  idle = λ w. subst (Idle false 0) (sym none) (none_so_far [], omega arith);
}
  where
    none : held_bits (replicate 40 0) 0 0 ≡ []
    none = held_none (replicate 40 0) 0

-- ---- BITS MORE

pub kept-pushed : (s : List Bool) (out : List (ℕ × Frame)) (r : Reader) (b : ℕ) → Kept s out r → r.ended ≡ false → r.candidate.waits ≡ false
    → Kept (s ++ six b) out (stepped_by r b)
unfolding stepped_by step_to
kept-pushed s out r b k e w =
    subst (λ x. Kept (s ++ six b) out (record { cells = cells; candidate = step_to r.cells r.candidate (number (six b)); ended = x })) (sym e)
    (settled (s ++ six b) out k.hits k.given false cells (length-step r.cells k.len c a w (number (six b)))
    (room_end c.end c.held + 6) (c.held + 6) (step-top r.cells k.len c a w (number (six b))) (step-low r.cells k.len c a w (number (six b)))
    (omega (arith, room-free c a w)) c.words k.gone k.met c.tally k.tally
    (subst (Stage (s ++ six b) k.hits k.met false k.gone) (sym bits_are)
    (stage-more s k.hits k.met k.gone (bits_of r) (six b) (rw e at k.stage)))
    (subst (RightSoFar c.words) (sym bits_are) (so-far-append c.words (bits_of r) (six b) quiet.0))
    a.few c.at (c.held + 6) (omega arith) here)
  where
    c : Candidate
    c = r.candidate

    a : Accepted r.candidate
    a = k.accepted

    cells : List ℕ
    cells = step_cells r.cells r.candidate (number (six b))

    bits_are : held_bits cells (room_end c.end c.held + 6) (c.held + 6) ≡ bits_of r ++ six b
    bits_are = step-bits r.cells k.len c a w (number (six b)) (six-lt b) ∙ ap (λ l. bits_of r ++ l) (bits-number 6 (six b) (length-six b))

    quiet : Idle false c.words (bits_of r)
    quiet = rw e at (k.idle w)

    here : (c.at + (c.held + 6 - (c.held + 6))) % 2 ^ 32 ≡ (2 + k.gone) % 2 ^ 32
    here = standing-still c.at (c.held + 6) k.gone k.at

-- ---- THE END

pub kept-ended : (s : List Bool) (out : List (ℕ × Frame)) (r : Reader) → Kept s out r → r.ended ≡ false → r.candidate.waits ≡ false
    → Kept s out (record { cells = r.cells; candidate = end_to r.cells r.candidate; ended = true })
unfolding end_to candidate_bits
kept-ended s out r k e w =
    settled s out k.hits k.given true r.cells k.len c.end c.held a.top a.low (room-all c a) c.words k.gone
    k.met c.tally k.tally
    (record {
      split = k.stage.split;
      long = k.stage.long;
      scanned = λ x m. k.stage.scanned x (subst (λ t. MayCome t x) (sym e) tt);
      decides = λ f. unlike true refl f;
      faulted = λ x y m z u. k.stage.faulted x (λ q. y refl) m z (subst (λ t. MayCome t z) (sym e) tt);
    })
    quiet.0 a.few c.at c.held (omega arith) (standing-still c.at c.held k.gone k.at)
  where
    c : Candidate
    c = r.candidate

    a : Accepted r.candidate
    a = k.accepted

    quiet : Idle false c.words (held_bits r.cells c.end c.held)
    quiet = rw e at (k.idle w)

-- ---- A FRAME TAKEN

module _ (s : List Bool) (out : List (ℕ × Frame)) (r : Reader) (k : Kept s out r) (w : r.candidate.waits ≡ true) where
  stood : Stands (bits_of r)
  stood = k.found w

  m : ℕ
  m = 30 * size (bits_of r)

  hit : Placed
  hit = placed (2 + k.gone) (bits_of r)

  -- what is handed out is the frame that stands there
  pub given_is : ◌≡◌ {A = ℕ × Frame} (r.candidate.at, frame_at (bits_of r)) (reported (placed (2 + k.gone) (bits_of r)))
  unfolding reported placed
  given_is = rw k.at

  within : m ≤ length (bits_of r)
  unfolding m
  within = omega (arith, stood.taken)

  back : r.candidate.held - (r.candidate.held - m) ≡ m
  back = omega (arith, within, held-long r k.len k.accepted)

  cut : held_bits r.cells r.candidate.end (r.candidate.held - m) ≡ drop m (bits_of r)
  unfolding candidate_bits
  cut =
      sym (ap (λ n. drop n (bits_of r)) (sym back)
      ∙ held-part r.cells r.candidate.end r.candidate.held (r.candidate.held - m) (omega arith) k.accepted.low)

  rest-scan : (e : List Bool) → scan 0 (2 + k.gone) (bits_of r ++ e) ≡ hit ∷ scan 0 (2 + (k.gone + m)) (drop m (bits_of r) ++ e)
  unfolding m hit
  rest-scan e =
      scan-hit (2 + k.gone) (bits_of r ++ e) (stands-append (bits_of r) e stood)
      ∙ rw (
        placed-append (2 + k.gone) (bits_of r) e stood,
        n-append (bits_of r) e (stands-long (bits_of r) stood),
        drop-append-le m (bits_of r) e within,
        add_assoc 2 k.gone m,
      )

  rest-decided : (e : List Bool) → decided 0 (2 + k.gone) (bits_of r ++ e) ≡ hit ∷ decided 0 (2 + (k.gone + m)) (drop m (bits_of r) ++ e)
  unfolding m hit
  rest-decided e =
      decided-hit (2 + k.gone) (bits_of r ++ e) (stands-append (bits_of r) e stood)
      ∙ rw (
        placed-append (2 + k.gone) (bits_of r) e stood,
        n-append (bits_of r) e (stands-long (bits_of r) stood),
        drop-append-le m (bits_of r) e within,
        add_assoc 2 k.gone m,
      )

  rest-faults : (x : Bool) (n : ℕ) (e : List Bool) → faults x (suc n) 0 (bits_of r ++ e) ≡ faults x n 0 (drop m (bits_of r) ++ e)
  unfolding m
  rest-faults x n e =
      faults-hit x n (bits_of r ++ e) (stands-append (bits_of r) e stood)
      ∙ rw (n-append (bits_of r) e (stands-long (bits_of r) stood), drop-append-le m (bits_of r) e within)

  hits_more : (n : ℕ) → length (k.hits ++ (hit ∷ [])) + n ≡ length k.hits + suc n
  hits_more n = omega (arith, length-append k.hits (hit ∷ []), add-suc (length k.hits) n)

  one_more : (rest all : List Placed) → all ≡ hit ∷ rest → k.hits ++ all ≡ (k.hits ++ (hit ∷ [])) ++ rest
  one_more rest all e = ap (λ l. k.hits ++ l) e ∙ sym (append_assoc k.hits (hit ∷ []) rest)

  stage : Stage s (k.hits ++ (hit ∷ [])) k.met r.ended (k.gone + m) (held_bits r.cells r.candidate.end (r.candidate.held - m))
  stage = rw cut (record {
    split = ap (drop m) k.stage.split ∙ drop-drop m k.gone s;
    long = omega (arith, length-drop m (bits_of r), within, k.stage.long);
    scanned = λ e x. k.stage.scanned e x ∙ one_more _ _ (rest-scan e);
    decides = λ f e. k.stage.decides f e ∙ one_more _ _ (rest-decided e);
    faulted = λ x y n e z. ap (λ i. faults x i 0 (s ++ e)) (hits_more n) ∙ k.stage.faulted x y (suc n) e z ∙ ap (λ l. k.met ++ l) (rest-faults x n e);
  })

  place : (r.candidate.at + (r.candidate.held - (r.candidate.held - m))) % 2 ^ 32 ≡ (2 + (k.gone + m)) % 2 ^ 32
  place = ap (λ n. (r.candidate.at + n) % 2 ^ 32) back ∙ mod-shift r.candidate.at (2 + k.gone) m start ∙ ap (λ n. n % 2 ^ 32) (add_assoc 2 k.gone m)
    where
      start : r.candidate.at % 2 ^ 32 ≡ (2 + k.gone) % 2 ^ 32
      start = ap (λ n. n % 2 ^ 32) k.at ∙ omega arith

  pub kept-taken : Kept s (out ++ ((r.candidate.at, frame_at (bits_of r)) ∷ []))
      (record { cells = r.cells; candidate = take_to r.cells r.candidate r.ended; ended = r.ended })
  unfolding take_to m hit
  kept-taken =
      settled s (out ++ ((r.candidate.at, frame_at (bits_of r)) ∷ [])) (k.hits ++ (hit ∷ []))
      (rw (map-append reported k.hits (hit ∷ [])) (ap₂ (λ a b. a ++ (b ∷ [])) k.given given_is))
      r.ended r.cells k.len r.candidate.end (r.candidate.held - m) k.accepted.top (omega (arith, k.accepted.low))
      (omega (arith, room-all r.candidate k.accepted)) 0 (k.gone + m)
      k.met r.candidate.tally k.tally stage (none_so_far _) (omega arith)
      r.candidate.at r.candidate.held (omega arith) place
