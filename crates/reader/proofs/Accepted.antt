-- The states that are not refused with 5, and that every call leads from one to another. Assumes nothing.
use Rattle.std.proofs.Common.{◌≡◌, ℕ, zero, suc, ◌+◌, ◌-◌, ◌*◌, ◌<◌, ◌≤◌, Bool, true, false, cond, ltb, leb, List, [], ◌∷◌, ◌++◌, length, drop, sym, refl, ap, ◌∙◌, subst, arith, ltb-false, le-ltb, lt-ltb, leb-true}
use Rattle.bits.specs.Bits.{bits}
use Rattle.frame.proofs.WidthLaws.{both_false}
use Rattle.stream.specs.Standing.{word_at, right, size}
use Rattle.stream.specs.Verdict.{RightSoFar, Verdict, out, standing, undecided, judged, verdict_from, Hunted, hunt_by, hunt}
use Rattle.stream.proofs.HuntSteps.{hunt-short, hunt-suffix, Bounded, hunt-bounded}
use Rattle.reader.specs.Cells.{held_bits, room_end}
use Rattle.reader.specs.Hunting.{halt_of, hunt_of}
use Rattle.reader.specs.Reading.{candidate_bits, known_bits, past_by, past_of, moved_to, step_cells, step_to, end_to, take_to}
use Rattle.reader.specs.declared.Tally.{Tally}
use Rattle.reader.specs.declared.Candidate.{Candidate}
use Rattle.reader.proofs.Buffer.{length-held, held-part}
use Rattle.reader.proofs.Pushing.{length-pushed, room-low, held-push}

-- not past: the counts fit the buffer, and what is held is what a reader can hold
pub record Accepted (c : Candidate) : Type 0 where
  pub top : c.end ≤ 1280
  pub low : c.held ≤ c.end
  pub room : c.held ≤ cond c.waits 997 991
  pub few : c.words ≤ 32
  pub known : known_bits c.words ≤ c.held

pub to-accepted : (c : Candidate) → past_of c ≡ false → Accepted c
unfolding past_of past_by
to-accepted c e =
    let known = both_false _ _ e in
    let words = both_false _ _ known.0 in
    let room = both_false _ _ words.0 in
    let ends = both_false _ _ room.0 in record {
      top = ltb-false 1280 c.end ends.0;
      low = ltb-false c.end c.held ends.1;
      room = ltb-false (cond c.waits 997 991) c.held room.1;
      few = ltb-false 32 c.words words.1;
      known = ltb-false c.held (known_bits c.words) known.1;
    }

pub from-accepted : (c : Candidate) → Accepted c → past_of c ≡ false
unfolding past_of past_by
from-accepted c a =
    rw (
      le-ltb 1280 c.end a.top,
      le-ltb c.end c.held a.low,
      le-ltb (cond c.waits 997 991) c.held a.room,
      le-ltb 32 c.words a.few,
      le-ltb c.held (known_bits c.words) a.known,
    )

-- where nothing waits
pub accept-free : (c : Candidate) → c.waits ≡ false → c.end ≤ 1280 → c.held ≤ c.end → c.held ≤ 991 → c.words ≤ 32
    → known_bits c.words ≤ c.held → Accepted c
accept-free c w top low room few known =
    record { top = top; low = low; room = subst (λ x. c.held ≤ cond x 997 991) (sym w) room; few = few; known = known }

pub room-free : (c : Candidate) → Accepted c → c.waits ≡ false → c.held ≤ 991
room-free c a w = subst (λ x. c.held ≤ cond x 997 991) w a.room

pub room-all : (c : Candidate) → Accepted c → c.held ≤ 997
room-all c a = go c.waits a.room
  where
    go : (w : Bool) → c.held ≤ cond w 997 991 → c.held ≤ 997
    go true h = h
    go false h = omega arith

-- ---- the test, count by count

-- the bits of some words
known_some : (k : ℕ) → (k ≡ 0 → ⊥) → 2 + 30 * k ≡ known_bits k
known_some zero f = absurd (f refl)
known_some (suc k) f = omega arith

module _ (c : Candidate) where
  pub past_end : 1280 < c.end → true ≡ past_of c
  unfolding past_of past_by
  past_end l = rw (lt-ltb 1280 c.end l)

  module _ (top : c.end ≤ 1280) where
    pub past-low : c.end < c.held → true ≡ past_of c
    unfolding past_of past_by
    past-low l = rw (le-ltb 1280 c.end top, lt-ltb c.end c.held l)

    module _ (low : c.held ≤ c.end) (most : ℕ) (is : most ≡ cond c.waits 997 991) where
      pub past_room : most < c.held → true ≡ past_of c
      unfolding past_of past_by
      past_room l =
          rw (le-ltb 1280 c.end top, le-ltb c.end c.held low, lt-ltb (cond c.waits 997 991) c.held (subst (λ m. m < c.held) is l))

      module _ (room : c.held ≤ most) where
        within : c.held ≤ cond c.waits 997 991
        within = subst (λ m. c.held ≤ m) is room

        pub none-known : c.words ≡ 0 → false ≡ past_of c
        none-known w =
            sym (from-accepted c (record {
              top = top;
              low = low;
              room = within;
              few = omega (arith, w);
              known = subst (λ k. known_bits k ≤ c.held) (sym w) (omega arith);
            }))

        pub past-few : 32 < c.words → true ≡ past_of c
        unfolding past_of past_by
        past-few l =
            rw (le-ltb 1280 c.end top, le-ltb c.end c.held low, le-ltb (cond c.waits 997 991) c.held within, lt-ltb 32 c.words l)

        pub past-known : c.words ≤ 32 → (c.words ≡ 0 → ⊥) → ltb c.held (2 + 30 * c.words) ≡ past_of c
        unfolding past_of past_by
        past-known few some =
            rw (le-ltb 1280 c.end top, le-ltb c.end c.held low, le-ltb (cond c.waits 997 991) c.held within, le-ltb 32 c.words few)
            (ap (ltb c.held) (known_some c.words some))

-- ---- WHERE A HUNT STOPS

-- the words known right there have come
abbrev Known : List Bool → Verdict → Type 0
Known d (out j) = Unit {0}
Known d standing = Unit {0}
Known d (undecided j) = known_bits j ≤ length d

pub so-far-known : (k : ℕ) (d : List Bool) → RightSoFar k d → known_bits k ≤ length d
so-far-known zero d p = omega arith
so-far-known (suc k) d p = p.come k (omega arith)

verdict-known : (n k : ℕ) (d : List Bool) → known_bits k ≤ length d → Known d (verdict_from n k d)
unfolding verdict_from
verdict-known zero k d h = h
verdict-known (suc n) k d h = go (leb (32 + 30 * k) (length d)) refl (right k (word_at k d)) (leb (size d) (suc k)) (verdict-known n (suc k) d)
  where
    go : (a : Bool) → leb (32 + 30 * k) (length d) ≡ a → (b c : Bool) → (32 + 30 * k ≤ length d → Known d (verdict_from n (suc k) d))
        → Known d (judged a b c k (verdict_from n (suc k) d))
    go false ea b c next = h
    go true ea false c next = tt
    go true ea true true next = tt
    go true ea true false next = next (leb-true (32 + 30 * k) (length d) ea)

hunt-known : (e : Bool) (k : ℕ) (d : List Bool) → known_bits k ≤ length d → known_bits (hunt e k d).words ≤ length (hunt e k d).rest
unfolding hunt
hunt-known e k [] h = h
hunt-known e k (b ∷ d) h = go (verdict_from (33 - k) k (b ∷ d)) e (verdict-known (33 - k) k (b ∷ d) h) (hunt-known e 0 d (omega arith))
  where
    go : (v : Verdict) (x : Bool) → Known (b ∷ d) v → known_bits (hunt e 0 d).words ≤ length (hunt e 0 d).rest
        → known_bits (hunt_by v x (b ∷ d) (hunt e 0 d)).words ≤ length (hunt_by v x (b ∷ d) (hunt e 0 d)).rest
    go (out j) x l r = r
    go standing x l r = omega arith
    go (undecided j) true l r = r
    go (undecided j) false l r = l

halt-room : (h : Hunted) → Bounded h → length h.rest ≤ 997 → length h.rest ≤ cond h.found 997 991
halt-room h b l = go h.found refl
  where
    go : (f : Bool) → h.found ≡ f → length h.rest ≤ cond f 997 991
    go true e = l
    go false e = b.free e

module _ (cells : List ℕ) (len : length cells ≡ 40) (end held : ℕ) (top : end ≤ 1280) (low : held ≤ end) (k : ℕ) (e : Bool) (t : Tally) where
  long : length (held_bits cells end held) ≡ held
  long = length-held cells end held len top low

  pub left_le : (hunt_of cells end held k e t).left ≤ held
  unfolding hunt_of halt_of
  left_le = omega (arith, hunt-short e k (held_bits cells end held), long)

  -- the bits held from there on are what the hunt left
  pub rest-bits : held_bits cells end (hunt_of cells end held k e t).left ≡ (hunt e k (held_bits cells end held)).rest
  unfolding hunt_of halt_of
  rest-bits =
      sym (hunt-suffix e k (held_bits cells end held)
      ∙ ap (λ n. drop (n - length (hunt e k (held_bits cells end held)).rest) (held_bits cells end held)) long
      ∙ held-part cells end held (length (hunt e k (held_bits cells end held)).rest) (omega (arith, hunt-short e k (held_bits cells end held), long)) low)

  pub accepted-halt : (at : ℕ) (held₀ : ℕ) → held ≤ 997 → k ≤ 32 → known_bits k ≤ held → Accepted (moved_to at end held₀ (hunt_of cells end held k e t))
  unfolding moved_to candidate_bits
  accepted-halt at held₀ room few known = record {
    top = top;
    low = omega (arith, left_le, low);
    few = unfold hunt_of halt_of in b.few;
    known = unfold hunt_of halt_of in hunt-known e k (held_bits cells end held) (subst (λ n. known_bits k ≤ n) (sym long) known);
    room = unfold hunt_of halt_of in halt-room (hunt e k (held_bits cells end held)) b (omega (arith, hunt-short e k (held_bits cells end held), long));
  }
    where
      b : Bounded (hunt e k (held_bits cells end held))
      b = hunt-bounded e k (held_bits cells end held) few

-- ---- EVERY CALL keeps a reader accepted

module _ (cells : List ℕ) (len : length cells ≡ 40) (c : Candidate) (a : Accepted c) where
  module _ (w : c.waits ≡ false) (six : ℕ) where
    pub length-step : length (step_cells cells c six) ≡ 40
    unfolding step_cells
    length-step = length-pushed cells c.end c.held len a.top a.low (room-free c a w) six

    pub step-top : room_end c.end c.held + 6 ≤ 1280
    step-top = omega (arith, (room-low cells c.end c.held len a.top a.low (room-free c a w)).0)

    pub step-low : c.held + 6 ≤ room_end c.end c.held + 6
    step-low = omega (arith, (room-low cells c.end c.held len a.top a.low (room-free c a w)).1)

    pub accepted-step : Accepted (step_to cells c six)
    unfolding step_to
    accepted-step =
        accepted-halt (step_cells cells c six) length-step (room_end c.end c.held + 6) (c.held + 6)
        step-top step-low c.words false c.tally c.at (c.held + 6)
        (omega (arith, room-free c a w)) a.few (omega (arith, a.known))

    -- the bits held after six more, before the hunt
    pub step-bits : six < 64 → held_bits (step_cells cells c six) (room_end c.end c.held + 6) (c.held + 6) ≡ candidate_bits cells c ++ bits 6 six
    unfolding step_cells candidate_bits
    step-bits h = held-push cells c.end c.held len a.top a.low (room-free c a w) six h

  pub accepted-end : Accepted (end_to cells c)
  unfolding end_to
  accepted-end = accepted-halt cells len c.end c.held a.top a.low c.words true c.tally c.at c.held (room-all c a) a.few a.known

  pub accepted-take : (ended : Bool) → Accepted (take_to cells c ended)
  unfolding take_to
  accepted-take ended =
      accepted-halt cells len c.end (c.held - 30 * size (candidate_bits cells c)) a.top (omega (arith, a.low)) 0 ended c.tally c.at c.held
      (omega (arith, room-all c a)) (omega arith) (omega arith)
