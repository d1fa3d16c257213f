-- How far the bits that have come decide a position, and a stream that may go on. d is the stream from two bits before a position. Assumes nothing.
use Rattle.std.specs.Prelude.{◌≡◌, Bool, true, false, cond, List, [], ◌∷◌, ℕ, zero, suc, ◌+◌, ◌-◌, ◌*◌, ◌≤◌, ◌<◌, leb, length}
use Rattle.word.specs.Word.{data_of, remainder_of}
use Rattle.frame.specs.Header.{preambled}
use Rattle.stream.specs.Standing.{word_at, right, size, Placed, placed}

-- RULED OUT: one of its words is whole and fails (for the first word, its preamble too)
pub record RuledOut (d : List Bool) : Type 0 where
  pub k : ℕ
  pub come : 32 + 30 * k ≤ length d
  pub inside : k < size d
  pub fails : right k (word_at k d) ≡ false

-- the first k words have come and are right, and the frame has more
pub record RightSoFar (k : ℕ) (d : List Bool) : Type 0 where
  pub come : (j : ℕ) → j < k → 32 + 30 * j ≤ length d
  pub good : (j : ℕ) → j < k → right j (word_at j d) ≡ true
  pub inside : k < size d

-- word k is the first that is not right: it has come and fails, and the words before it are right
pub record WrongAt (k : ℕ) (d : List Bool) : Type 0 where
  pub before : RightSoFar k d
  pub come : 32 + 30 * k ≤ length d
  pub fails : right k (word_at k d) ≡ false

-- THE VERDICT by words in order: ruled out by word k; a frame stands; or k words are right and word k has not fully come
pub data Verdict : Type 0 where
  out : ℕ → Verdict
  standing : Verdict
  undecided : ℕ → Verdict

-- by: word k has come; it is right; it is the last
abbrev pub judged : Bool → Bool → Bool → ℕ → Verdict → Verdict
judged false r l k next = undecided k
judged true false l k next = out k
judged true true true k next = standing
judged true true false k next = next

-- from word k on; a frame has at most 33 words, and n + k is 33
unfoldable pub verdict_from : ℕ → ℕ → List Bool → Verdict
verdict_from zero k d = undecided k
verdict_from (suc n) k d =
    let next = verdict_from n (suc k) d in
    judged (leb (32 + 30 * k) (length d)) (right k (word_at k d)) (leb (size d) (suc k)) k next

abbrev pub verdict : List Bool → Verdict
verdict d = verdict_from 33 0 d

-- THE FRAMES DECIDED SO FAR: the scan as far as each position is decided; at the first that is not, it waits for more bits
abbrev pub decided_by : Verdict → List Placed → List Placed → List Placed
decided_by (out k) found next = next
decided_by standing found next = found
decided_by (undecided k) found next = []

unfoldable pub decided : ℕ → ℕ → List Bool → List Placed
decided skip p [] = []
decided zero p (b ∷ d) =
    let found = placed p (b ∷ d) ∷ decided (30 * size (b ∷ d) - 1) (suc p) d in
    let next = decided zero (suc p) d in
    decided_by (verdict (b ∷ d)) found next
decided (suc skip) p (b ∷ d) = decided skip (suc p) d

-- WHY A WORD IS NOT RIGHT: no preamble, or a remainder that is not zero; where the first word has neither right, the preamble counts
pub data Fault : Type 0 where
  headless : Fault
  failed : List Bool → Fault

unfoldable pub fault_of : ℕ → List Bool → Fault
fault_of zero w = cond (preambled (data_of w)) (failed (remainder_of w)) headless
fault_of (suc k) w = failed (remainder_of w)

-- THE HUNT from word k of a position on: what is left from two bits before the position where it stops, how many words of that position are
-- known right (0 where a frame stands), whether a frame stands there, and the faults of the positions that a word ruled out, in their order. After the
-- end a position whose next word has not come is ruled out too, by no word.
pub record Hunted : Type 0 where
  pub rest : List Bool
  pub words : ℕ
  pub found : Bool
  pub faults : List Fault

-- one fault before those of a hunt
abbrev pub with_fault : Fault → Hunted → Hunted
with_fault f h = record { rest = h.rest; words = h.words; found = h.found; faults = f ∷ h.faults }

-- a hunt that stops where it began
abbrev pub stopped : List Bool → ℕ → Bool → Hunted
stopped d k found = record { rest = d; words = k; found = found; faults = [] }

abbrev pub hunt_by : Verdict → Bool → List Bool → Hunted → Hunted
hunt_by (out k) ended d next = with_fault (fault_of k (word_at k d)) next
hunt_by standing ended d next = stopped d 0 true
hunt_by (undecided j) true d next = next
hunt_by (undecided j) false d next = stopped d j false

unfoldable pub hunt : Bool → ℕ → List Bool → Hunted
hunt ended k [] = stopped [] k false
hunt ended k (b ∷ d) =
    let next = hunt ended 0 d in
    hunt_by (verdict_from (33 - k) k (b ∷ d)) ended (b ∷ d) next
