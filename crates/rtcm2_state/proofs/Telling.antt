-- What six bits more tell without a hunt is what the hunt would say: nothing is ruled out, one word more is known, or the frame is whole. Assumes nothing.
use mathlib.Core.Path.{◌≡◌, refl, sym, ap, ◌∙◌}
use mathlib.Core.Bool.{Bool, true, false, cond, ◌&&◌, and-eq-true_iff}
use mathlib.Core.List.{List}
use Prim.Native.Nat.{ℕ, zero, suc, ◌+◌, ◌-◌, ◌*◌, ◌%◌, ◌^◌, ◌≤◌, ◌<◌}
use native.Mathlib.Omega.{arith}
use lib.Dec.{ltb, leb}
use lib.ListN.{length}
use borrow.Author.Tests.{leb-true, ltb-true, ltb-false, lt-ltb, le-ltb, lt-leb, le-leb}
use Rattle.bits.specs.Bits.{bits}
use Rattle.word.specs.Word.{passes}
use Rattle.stream.specs.Standing.{word_at, size}
use Rattle.reader.specs.Cells.{put_cells, room_end, pushed_cells}
use Rattle.reader.specs.Hunting.{headless_at, hunt_of}
use Rattle.reader.specs.Reading.{moved_to, step_to}
use Rattle.reader.specs.declared.Candidate.{Candidate}
use Rattle.reader.proofs.Accepted.{Accepted}
use Rattle.reader.proofs.Pushing.{length-puts, push-in}
use Rattle.reader.proofs.Steps.{seen, word-is, step-wait}
use Rattle.reader.proofs.Stepping.{step-law}
use Rattle.reader.proofs.Glancing.{stop, stops-here}
use Rattle.rtcm2_state.specs.Holding.{held_after, passes_after, after_six}
use Rattle.rtcm2_state.specs.declared.hold.After.{After}
use Rattle.rtcm2_state.specs.declared.hold.After.TheVariants.{Known, Whole, Untold}

-- a word past the second is not the first
not_first : (k : ℕ) (w : List Bool) → 2 ≤ k → headless_at k w ≡ false
not_first zero w h = absurd (omega arith)
not_first (suc k) w h = refl

-- a reader's candidate with six bits more and nothing ruled out
abbrev pub with_six : Candidate → ℕ → Bool → Candidate
with_six c words waits = record { end = c.end + 6; held = c.held + 6; words = words; at = c.at; waits = waits; tally = c.tally }

-- what is told is where the hunt stops
abbrev pub Right : List ℕ → Candidate → ℕ → After → Type 0
Right cells c x (Known words) = (words ≤ 33) × (step_to cells c x ≡ with_six c words false)
Right cells c x Whole = step_to cells c x ≡ with_six c 0 true
Right cells c x Untold = Unit {0}

module _ (cells : List ℕ) (full : length cells ≡ 40) (c : Candidate) (a : Accepted c) (place : c.at < 2 ^ 32) (room : c.end ≤ 1216) (x : ℕ) where
  abbrev after : List ℕ
  after = put_cells cells c.end x

  abbrev d : List Bool
  d = held_after cells c x

  long : length after ≡ 40
  long = length-puts cells c.end x ∙ full

  -- the step by where the hunt stops
  stepped : (words : ℕ) (found : Bool)
      → hunt_of after (c.end + 6) (c.held + 6) c.words false c.tally ≡ record { left = c.held + 6; words = words; found = found; tally = c.tally }
      → step_to cells c x ≡ with_six c words found
  unfolding moved_to
  stepped words found e =
      sym (step-law cells c x after (c.end + 6) (record { left = c.held + 6; words = words; found = found; tally = c.tally }) ends.1 ends.0 (sym e))
      ∙ ap (λ at. record { end = c.end + 6; held = c.held + 6; words = words; at = at; waits = found; tally = c.tally }) stays
    where
      ends : (c.end + 6 ≡ room_end c.end c.held + 6) × (put_cells cells c.end x ≡ pushed_cells cells c.end c.held x)
      ends = push-in cells c.end c.held x room

      stays : (c.at + (c.held + 6 - (c.held + 6))) % 2 ^ 32 ≡ c.at
      stays = omega (arith, place)

  -- no word comes to its end
  still : c.held + 6 < 32 + 30 * c.words → step_to cells c x ≡ with_six c c.words false
  still within =
      stepped c.words false
      (step-wait after long (c.end + 6) (omega arith) (c.held + 6) (omega (arith, a.low)) c.tally c.words a.few within)

  -- a word past the second does, and passes
  module _ (come : 32 + 30 * c.words ≤ c.held + 6) (p : passes_after cells c x ≡ true) where
    abbrev w : ℕ
    w = seen after (c.end + 6 - (c.held + 6) + 30 * c.words)

    parts : (leb 2 c.words && ltb c.held (32 + 30 * c.words) ≡ true) × (passes (word_at c.words d) ≡ true)
    parts = (and-eq-true_iff (leb 2 c.words && ltb c.held (32 + 30 * c.words)) (passes (word_at c.words d))).0 p

    bounds : (leb 2 c.words ≡ true) × (ltb c.held (32 + 30 * c.words) ≡ true)
    bounds = (and-eq-true_iff (leb 2 c.words) (ltb c.held (32 + 30 * c.words))).0 parts.0

    later : 2 ≤ c.words
    later = leb-true 2 c.words bounds.0

    new : c.held < 32 + 30 * c.words
    new = ltb-true c.held (32 + 30 * c.words) bounds.1

    word-passes : passes (bits 32 w) ≡ true
    word-passes = ap passes (word-is after long (c.end + 6) (omega arith) (c.held + 6) (omega (arith, a.low)) c.words w come refl) ∙ parts.1

    -- so the hunt stops there
    stops : (all : Bool) → leb (size d) (c.words + 1) ≡ all
        → (stop (c.held + 6) c.words c.tally all ≡ hunt_of after (c.end + 6) (c.held + 6) c.words false c.tally)
        × ((stop (c.held + 6) c.words c.tally all).left ≤ c.held + 6)
    stops all l =
        stops-here after long (c.end + 6) (omega arith) (c.held + 6) (omega (arith, a.low)) c.tally c.words w a.few come refl
        (not_first c.words (bits 32 w) later) 0 true (ap (λ t. t && true) (sym word-passes)) refl (omega (arith, new)) all l

  pub is-told : Right cells c x (after_six cells c x)
  unfolding after_six
  is-told = go _ refl _ refl _ refl
    where
      go : (t : Bool) → ltb (c.held + 6) (32 + 30 * c.words) ≡ t → (u : Bool) → passes_after cells c x ≡ u → (v : Bool) → leb (size d) (c.words + 1) ≡ v
          → Right cells c x (cond t (Known c.words) (cond u (cond v Whole (Known (c.words + 1))) Untold))
      go true e u f v g = (omega (arith, a.few), still (ltb-true (c.held + 6) (32 + 30 * c.words) e))
      go false e true f true g = stepped 0 true (sym (stops (ltb-false (c.held + 6) (32 + 30 * c.words) e) f true g).0)
      go false e true f false g =
          (omega (arith, a.few), stepped (c.words + 1) false (sym (stops (ltb-false (c.held + 6) (32 + 30 * c.words) e) f false g).0))
      go false e false f v g = tt

-- ---- test by test

module _ (cells : List ℕ) (c : Candidate) (x : ℕ) where
  pub tells-still : c.held + 6 < 32 + 30 * c.words → Known c.words ≡ after_six cells c x
  unfolding after_six
  tells-still h = rw (lt-ltb (c.held + 6) (32 + 30 * c.words) h)

  module _ (come : 32 + 30 * c.words ≤ c.held + 6) where
    -- the word is one of the first two, or had come before
    pub untold-first : c.words < 2 → Untold ≡ after_six cells c x
    unfolding after_six
    untold-first h = rw (le-ltb (c.held + 6) (32 + 30 * c.words) come, lt-leb 2 c.words h)

    pub untold-old : 2 ≤ c.words → 32 + 30 * c.words ≤ c.held → Untold ≡ after_six cells c x
    unfolding after_six
    untold-old l h =
        rw (le-ltb (c.held + 6) (32 + 30 * c.words) come, le-leb 2 c.words l, le-ltb c.held (32 + 30 * c.words) h)

    -- it is told by whether it passes, and then by how many words the frame has
    pub tells-by : 2 ≤ c.words → c.held < 32 + 30 * c.words → (p q : Bool) → passes (word_at c.words (held_after cells c x)) ≡ p
        → leb (size (held_after cells c x)) (c.words + 1) ≡ q → cond p (cond q Whole (Known (c.words + 1))) Untold ≡ after_six cells c x
    unfolding after_six
    tells-by l h p q ep eq =
        rw (le-ltb (c.held + 6) (32 + 30 * c.words) come, le-leb 2 c.words l, lt-ltb c.held (32 + 30 * c.words) h, ep, eq)
