-- HOW A WORD FAILED, told and counted: the answer of the word test, and the counters of a reader after any list of calls. Assumes nothing.
use Rattle.std.specs.Prelude.{◌≡◌, ◌↔◌, Bool, List, [], ◌∷◌, ◌++◌, ℕ, ◌%◌, ◌^◌, length}
use Rattle.word.specs.Word.{remainder_of}
use Rattle.word.specs.Answer.{tested_by, says_tested}
use Rattle.line.specs.Line.{line_bits}
use Rattle.stream.specs.Verdict.{WrongAt, verdict, out, Fault}
use Rattle.stream.specs.Faults.{odd_in, even_in, faults, faults_in}
use Rattle.reader.specs.declared.Tally.{Tally}
use Rattle.promises.specs.Calls.{Call, ends, Outcome, outcome, takes_all, served}
use Rattle.promises.specs.Demand3.{OppositeCalls}

-- the counters that are left
abbrev pub tally_of : Outcome → Tally
tally_of o = o.reader.candidate.tally

-- the faults of the positions that a word ruled out so far: those before the frame after the last that was handed out, as far as the bits taken
-- decide them, and after the end all
abbrev pub met_by : Outcome → List Fault
met_by o = faults o.reader.ended (length o.out) 0 o.bits

-- "the reader counts odd and even remainders, each modulo 4,294,967,296"
pub record Counted (t : Tally) (fs : List Fault) : Type 0 where
  pub odd : t.odd ≡ odd_in fs % 2 ^ 32
  pub even : t.even ≡ even_in fs % 2 ^ 32

-- bits turned over from the start are counted alike, at any time
abbrev pub TurnedCounts : Type 0
TurnedCounts = (cs ds : List Call) → OppositeCalls cs ds → tally_of (outcome ds) ≡ tally_of (outcome cs)

-- worked values: bytes, and their totals
abbrev pub totals_of : List ℕ → ℕ × ℕ
totals_of bs = (odd_in (faults_in (line_bits bs)), even_in (faults_in (line_bits bs)))

pub record WorkedCounts : Type 0 where
  -- one turned bit in word 1
  pub nick : totals_of (0x40 ∷ 0x66 ∷ 0x61 ∷ 0x45 ∷ 0x68 ∷ 0x7F ∷ 0x7F ∷ 0x6C ∷ 0x73 ∷ 0x7F ∷ 0x44 ∷ []) ≡ (1, 0)
  -- two in word 2
  pub two : totals_of (0x40 ∷ 0x66 ∷ 0x61 ∷ 0x41 ∷ 0x68 ∷ 0x7F ∷ 0x4F ∷ 0x6C ∷ 0x73 ∷ 0x7F ∷ 0x44 ∷ []) ≡ (0, 1)
  -- preamble and parity of word 1: the preamble counts
  pub both : totals_of (0x40 ∷ 0x64 ∷ 0x61 ∷ 0x45 ∷ 0x68 ∷ 0x7F ∷ 0x7F ∷ 0x6C ∷ 0x73 ∷ 0x7F ∷ 0x44 ∷ []) ≡ (0, 0)
  -- a frame that stands
  pub right : totals_of (0x40 ∷ 0x66 ∷ 0x61 ∷ 0x41 ∷ 0x68 ∷ 0x7F ∷ 0x7F ∷ 0x6C ∷ 0x73 ∷ 0x7F ∷ 0x44 ∷ []) ≡ (0, 0)
  -- word 2 nicked, and the next frame stands
  pub then : totals_of
      (0x40 ∷ 0x66 ∷ 0x61 ∷ 0x41 ∷ 0x68 ∷ 0x7F ∷ 0x7F ∷ 0x6C ∷ 0x77 ∷ 0x7F ∷ 0x44 ∷ 0x66 ∷ 0x61 ∷ 0x41 ∷ 0x68 ∷ 0x7F
      ∷ 0x7F ∷ 0x6C ∷ 0x73 ∷ 0x7F ∷ 0x44 ∷ []) ≡ (1, 0)
  -- a position ruled out by the end, and one behind it by its word 1
  pub end : totals_of
      (0x40 ∷ 0x66 ∷ 0x41 ∷ 0x42 ∷ 0x68 ∷ 0x48 ∷ 0x40 ∷ 0x53 ∷ 0x7C ∷ 0x47 ∷ 0x40 ∷ 0x48 ∷ 0x71 ∷ 0x62 ∷ 0x5A ∷ 0x60
      ∷ 0x59 ∷ 0x5E ∷ 0x7E ∷ 0x57 ∷ 0x65 ∷ 0x7F ∷ 0x6C ∷ 0x73 ∷ 0x7F ∷ 0x61 ∷ []) ≡ (1, 0)
  -- a stray bit: word 5 of the first position
  pub stray : totals_of
      (0x40 ∷ 0x66 ∷ 0x41 ∷ 0x42 ∷ 0x68 ∷ 0x48 ∷ 0x40 ∷ 0x53 ∷ 0x7C ∷ 0x47 ∷ 0x40 ∷ 0x48 ∷ 0x71 ∷ 0x62 ∷ 0x5A ∷ 0x60
      ∷ 0x73 ∷ 0x7C ∷ 0x7C ∷ 0x6F ∷ 0x40 ∷ 0x40 ∷ 0x66 ∷ 0x58 ∷ 0x40 ∷ 0x76 ∷ 0x41 ∷ []) ≡ (1, 0)
  -- a frame cut short by the end
  pub ten : totals_of (0x40 ∷ 0x66 ∷ 0x61 ∷ 0x41 ∷ 0x68 ∷ 0x7F ∷ 0x7F ∷ 0x6C ∷ 0x73 ∷ 0x7F ∷ []) ≡ (0, 0)

pub record Counters : Type 0 where
  -- "The word test now answers passed, or failed with the six-bit remainder"; that an odd number of ones in it means an odd number of turned bits
  -- is `odd-told` of XorLaw
  pub says : (w : List Bool) → says_tested (tested_by w) ≡ remainder_of w
  -- "Words are tested in order and the first to fail is the one counted"
  pub first : (k : ℕ) (d : List Bool) → (verdict d ≡ out k) ↔ WrongAt k d
  -- "for each position ruled out by a word, the reader counts": after any calls, refused ones too
  pub calls : (cs : List Call) → Counted (tally_of (outcome cs)) (met_by (outcome cs))
  -- "the totals" of a whole stream, its frames taken at once and after the end: those of its bits, by nothing of how they came
  pub whole : (bs : List ℕ) → Counted (tally_of (outcome (served bs ++ (ends ∷ takes_all)))) (faults_in (line_bits bs))
  pub turned : TurnedCounts
  pub values : WorkedCounts
