-- Sixes put in one after the other and hunted through as they come leave what one hunt over all of them leaves, while no frame can have come: what
-- `burst` goes by. Assumes nothing.
use Rattle.std.proofs.Common.{◌≡◌, ℕ, zero, suc, ◌+◌, ◌-◌, ◌*◌, ◌%◌, ◌^◌, ◌<◌, ◌≤◌, Bool, false, List, [], ◌∷◌, ◌++◌, length, sym, refl, ap, ◌∙◌, ap₂, arith}
use Rattle.bits.specs.Bits.{bits}
use Rattle.stream.specs.Verdict.{Fault, Hunted, hunt}
use Rattle.stream.proofs.HuntSteps.{hunt-wait}
use Rattle.stream.proofs.Growing.{with_faults, hunt-grows, none_found}
use Rattle.reader.specs.Cells.{held_bits, put_cells, put_five}
use Rattle.reader.specs.Hunting.{tallied, halt_of, hunt_of}
use Rattle.reader.specs.Reading.{moved_to, step_cells, step_to, many_cells, many_to, later}
use Rattle.reader.specs.declared.hunt.Halt.{Halt}
use Rattle.reader.specs.declared.Tally.{Tally}
use Rattle.reader.specs.declared.Candidate.{Candidate}
use Rattle.reader.proofs.Buffer.{length-held}
use Rattle.reader.proofs.Pushing.{length-puts, held-puts, push-in}
use Rattle.reader.proofs.Stepping.{step-law}
use Rattle.reader.proofs.Tallies.{tallied-append}
use Rattle.reader.proofs.Accepted.{left_le, rest-bits}

pub length-five : (cells : List ℕ) (end a b d e f : ℕ) → length (put_five cells end a b d e f) ≡ length cells
unfolding put_five
length-five cells end a b d e f = simp length-puts

-- the faults of one hunt are counted before those of the next
halt-faults : (t : Tally) (fs : List Fault) (h : Hunted) → halt_of t (with_faults fs h) ≡ halt_of (tallied t fs) h
unfolding halt_of
halt-faults t fs h = ap (λ u. record { left = length h.rest; words = h.words; found = h.found; tally = u }) (tallied-append t fs h.faults)

pub later-some : (k : ℕ) → (k ≡ 0 → ⊥) → k ≡ later k
later-some zero f = absurd (f refl)
later-some (suc k) f = refl

-- before the next word has come, and where none is known before two have, no frame is found
none_yet : (k : ℕ) (d : List Bool) → k ≤ 32 → length d < 32 + 30 * later k → (hunt false k d).found ≡ false
none_yet zero d h l = none_found d l
none_yet (suc k) d h l = ap (λ (x : Hunted). x.found) (hunt-wait (suc k) d h l)

-- positions passed over in two goes
mod-on : (x y : ℕ) → (x % 2 ^ 32 + y) % 2 ^ 32 ≡ (x + y) % 2 ^ 32
mod-on x y = omega arith

moved-again : (at n l q : ℕ) → l ≤ n → q ≤ l + 6 → ((at + (n - l)) % 2 ^ 32 + (l + 6 - q)) % 2 ^ 32 ≡ (at + (n + 6 - q)) % 2 ^ 32
moved-again at n l q h g = mod-on (at + (n - l)) (l + 6 - q) ∙ ap (λ z. z % 2 ^ 32) all
  where
    all : at + (n - l) + (l + 6 - q) ≡ at + (n + 6 - q)
    all = omega arith

-- m bits after the candidate c, put in and hunted through as they came: the cells p, and the candidate where one hunt over all of them stops
record Ahead (c : Candidate) (p : List ℕ) (x : List ℕ) (y : Candidate) (m : ℕ) : Type 0 where
  long : length p ≡ 40
  cells : x ≡ p
  is : y ≡ moved_to c.at (c.end + m) (c.held + m) (hunt_of p (c.end + m) (c.held + m) c.words false c.tally)

module _ (c : Candidate) (top : c.end ≤ 1192) (low : c.held ≤ c.end) (few : c.words ≤ 32) where
  ahead-first : (cells : List ℕ) → length cells ≡ 40 → (s : ℕ) → Ahead c (put_cells cells c.end s) (step_cells cells c s) (step_to cells c s) 6
  unfolding step_cells
  ahead-first cells len s =
      let in_place = push-in cells c.end c.held s (omega (arith, top)) in record {
        long = length-puts cells c.end s ∙ len;
        cells = sym in_place.1;
        is = sym (step-law cells c s (put_cells cells c.end s) (c.end + 6) _ in_place.1 in_place.0 refl);
      }

  module _ (p : List ℕ) (len : length p ≡ 40) (m : ℕ) (room : m ≤ 24) (early : c.held + m < 32 + 30 * later c.words) where
    halt : Halt
    halt = hunt_of p (c.end + m) (c.held + m) c.words false c.tally

    none : halt.found ≡ false
    unfolding halt hunt_of halt_of
    none =
        none_yet c.words (held_bits p (c.end + m) (c.held + m)) few
        (omega (arith, early, length-held p (c.end + m) (c.held + m) len (omega (arith, top, room)) (omega (arith, low))))

    left-low : halt.left ≤ c.held + m
    unfolding halt
    left-low = left_le p len (c.end + m) (c.held + m) (omega (arith, top, room)) (omega (arith, low)) c.words false c.tally

    module _ (s : ℕ) (small : s < 64) where
      next : List ℕ
      next = put_cells p (c.end + m) s

      -- the hunt over six more bits from where it stopped is the hunt over all
      on : hunt_of next (c.end + m + 6) (halt.left + 6) halt.words false halt.tally
          ≡ hunt_of next (c.end + m + 6) (c.held + m + 6) c.words false c.tally
      unfolding next halt hunt_of halt_of
      on =
          let d = held_bits p (c.end + m) (c.held + m) in
          let h = hunt false c.words d in
          let short : length h.rest ≤ c.held + m = left-low in
          ap (λ l. halt_of (tallied c.tally h.faults) (hunt false h.words l))
          (held-puts p (c.end + m) (length h.rest) s len small (omega (arith, top, room)) (omega (arith, low, short)) ∙ ap (λ l. l ++ bits 6 s) rest)
          ∙ sym (halt-faults c.tally h.faults (hunt false h.words (h.rest ++ bits 6 s)))
          ∙ ap (halt_of c.tally) (sym (hunt-grows c.words d (bits 6 s) (omega (arith, few)) none))
          ∙ ap (λ l. halt_of c.tally (hunt false c.words l))
          (sym (held-puts p (c.end + m) (c.held + m) s len small (omega (arith, top, room)) (omega (arith, low))))
        where
          rest : held_bits p (c.end + m) (length (hunt false c.words (held_bits p (c.end + m) (c.held + m))).rest)
              ≡ (hunt false c.words (held_bits p (c.end + m) (c.held + m))).rest
          rest = rest-bits p len (c.end + m) (c.held + m) (omega (arith, top, room)) (omega (arith, low)) c.words false c.tally

      moved_on : (x : List ℕ) (y : Candidate) → x ≡ p → y ≡ moved_to c.at (c.end + m) (c.held + m) halt → (q : Halt)
          → q ≡ hunt_of next (c.end + m + 6) (c.held + m + 6) c.words false c.tally
          → step_to x y s ≡ moved_to c.at (c.end + m + 6) (c.held + m + 6) q
      unfolding moved_to next
      moved_on x y ex ey q eq =
          let in_place = push-in p (c.end + m) halt.left s (omega (arith, top, room)) in
          ap₂ (λ u v. step_to u v s) ex ey
          ∙ sym (step-law p (moved_to c.at (c.end + m) (c.held + m) halt) s next (c.end + m + 6) q in_place.1 in_place.0 (eq ∙ sym on))
          ∙ ap (λ n. record { end = c.end + m + 6; held = q.left; words = q.words; at = n; waits = q.found; tally = q.tally }) same
        where
          less : q.left ≤ halt.left + 6
          less = omega (
            arith,
            ap (λ (z : Halt). z.left) (eq ∙ sym on),
            left_le next (length-puts p (c.end + m) s ∙ len) (c.end + m + 6) (halt.left + 6) (omega (arith, top, room)) (omega (arith, low, left-low))
                halt.words false halt.tally,
          )

          same : ((c.at + (c.held + m - halt.left)) % 2 ^ 32 + (halt.left + 6 - q.left)) % 2 ^ 32 ≡ (c.at + (c.held + m + 6 - q.left)) % 2 ^ 32
          same = moved-again c.at (c.held + m) halt.left q.left left-low less

  ahead-waits : (p x : List ℕ) (y : Candidate) (m : ℕ) → Ahead c p x y m → m ≤ 24 → c.held + m < 32 + 30 * later c.words → y.waits ≡ false
  unfolding moved_to halt
  ahead-waits p x y m a room early = ap (λ (z : Candidate). z.waits) a.is ∙ none p a.long m room early

  ahead_more : (p x : List ℕ) (y : Candidate) (m : ℕ) → Ahead c p x y m → m ≤ 24 → c.held + m < 32 + 30 * later c.words → (s : ℕ) → s < 64
      → Ahead c (put_cells p (c.end + m) s) (step_cells x y s) (step_to x y s) (m + 6)
  unfolding step_cells moved_to halt next
  ahead_more p x y m a room early s small = record {
    long = length-puts p (c.end + m) s ∙ a.long;
    cells = ap₂ (λ u v. step_cells u v s) a.cells a.is ∙ sym (push-in p (c.end + m) _ s (omega (arith, top, room))).1;
    is = moved_on p a.long m room early s small x y a.cells a.is _ refl
        ∙ ap₂ (λ u v. moved_to c.at u v (hunt_of (put_cells p (c.end + m) s) u v c.words false c.tally)) ends helds;
  }
    where
      ends : c.end + m + 6 ≡ c.end + (m + 6)
      ends = omega arith

      helds : c.held + m + 6 ≡ c.held + (m + 6)
      helds = omega arith

-- all but the last leave nothing that waits
abbrev pub Quiet : List ℕ → Candidate → List ℕ → Type 0
Quiet cells c [] = Unit {0}
Quiet cells c (s ∷ []) = Unit {0}
Quiet cells c (s ∷ r ∷ ss) = ((step_to cells c s).waits ≡ false) × Quiet (step_cells cells c s) (step_to cells c s) (r ∷ ss)

module _ (cells : List ℕ) (c : Candidate) (len : length cells ≡ 40) (top : c.end ≤ 1192) (low : c.held ≤ c.end) (few : c.words ≤ 32)
    (early : c.held + 24 < 32 + 30 * later c.words) (a b d e : ℕ) (lb : b < 64) (ld : d < 64) (le : e < 64) where
  a₁ : Ahead c (put_cells cells c.end a) (step_cells cells c a) (step_to cells c a) 6
  a₁ = ahead-first c top low few cells len a

  p₂ : List ℕ
  p₂ = put_cells (put_cells cells c.end a) (c.end + 6) b

  p₃ : List ℕ
  p₃ = put_cells p₂ (c.end + 12) d

  p₄ : List ℕ
  p₄ = put_cells p₃ (c.end + 18) e

  a₂ : Ahead c p₂ (many_cells cells c (a ∷ b ∷ [])) (many_to cells c (a ∷ b ∷ [])) 12
  unfolding many_cells many_to p₂
  a₂ = ahead_more c top low few _ _ _ 6 a₁ (omega arith) (omega (arith, early)) b lb

  a₃ : Ahead c p₃ (many_cells cells c (a ∷ b ∷ d ∷ [])) (many_to cells c (a ∷ b ∷ d ∷ [])) 18
  unfolding many_cells many_to p₃
  a₃ = ahead_more c top low few _ _ _ 12 a₂ (omega arith) (omega (arith, early)) d ld

  a₄ : Ahead c p₄ (many_cells cells c (a ∷ b ∷ d ∷ e ∷ [])) (many_to cells c (a ∷ b ∷ d ∷ e ∷ [])) 24
  unfolding many_cells many_to p₄
  a₄ = ahead_more c top low few _ _ _ 18 a₃ (omega arith) (omega (arith, early)) e le

  pub many-quiet : (f : ℕ) → Quiet cells c (a ∷ b ∷ d ∷ e ∷ f ∷ [])
  unfolding many_cells many_to
  many-quiet f = (
    ahead-waits c top low few _ _ _ 6 a₁ (omega arith) (omega (arith, early)),
    (
      ahead-waits c top low few _ _ _ 12 a₂ (omega arith) (omega (arith, early)),
      (ahead-waits c top low few _ _ _ 18 a₃ (omega arith) (omega (arith, early)), (ahead-waits c top low few _ _ _ 24 a₄ (omega arith) early, tt)),
    ),
  )

  module _ (f : ℕ) (lf : f < 64) where
    a₅ : Ahead c (put_five cells c.end a b d e f) (many_cells cells c (a ∷ b ∷ d ∷ e ∷ f ∷ [])) (many_to cells c (a ∷ b ∷ d ∷ e ∷ f ∷ [])) 30
    unfolding many_cells many_to put_five p₂ p₃ p₄
    a₅ = ahead_more c top low few _ _ _ 24 a₄ (omega arith) early f lf

    pub many-cells : many_cells cells c (a ∷ b ∷ d ∷ e ∷ f ∷ []) ≡ put_five cells c.end a b d e f
    many-cells = a₅.cells

    pub many-to : (after : List ℕ) → after ≡ put_five cells c.end a b d e f → (halt : Halt)
        → halt ≡ hunt_of after (c.end + 30) (c.held + 30) c.words false c.tally
        → many_to cells c (a ∷ b ∷ d ∷ e ∷ f ∷ []) ≡ moved_to c.at (c.end + 30) (c.held + 30) halt
    many-to after ea halt es =
        a₅.is
        ∙ ap (moved_to c.at (c.end + 30) (c.held + 30))
        (ap (λ l. hunt_of l (c.end + 30) (c.held + 30) c.words false c.tally) (sym ea) ∙ sym es)
