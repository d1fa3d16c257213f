-- LATE JOINERS: two readers of one line, the second of which started later, of any calls on each; and that the readers of the request are such
-- two. Positions are those of the whole stream, not modulo 2^32, and compared on the line. Assumes nothing.
use Rattle.std.specs.Prelude.{◌≡◌, false, ℕ, ◌+◌, length, drop}
use mathlib.Core.List.{List, ◌∷◌, ◌++◌, map, Memᴰ}
use Rattle.line.specs.Line.{line_bits}
use Rattle.stream.specs.Standing.{Placed}
use Rattle.stream.specs.Joining.{on_line, later_than}
use Rattle.promises.specs.Calls.{Call, ends, Outcome, outcome, takes_all, served}
use Rattle.promises.specs.Demand3.{found}

-- "one stream of line bits and two readers, the second starting at any later data byte": `late` is what came of a reader that started k line bits
-- later, for any k. Both have taken the line to the same bit; both have ended there or both go on; and no frame waits.
pub record Joins (k : ℕ) (o late : Outcome) : Type 0 where
  pub line : late.bits ≡ drop k o.bits
  pub end : late.reader.ended ≡ o.reader.ended
  pub none : o.reader.candidate.waits ≡ false
  pub none-late : late.reader.candidate.waits ≡ false

-- "If both hand out a frame beginning at the same line bit", h and h', that is one frame, and "all later frames handed out by both are equal"
pub record SameFrom (k : ℕ) (o late : Outcome) (h h' : Placed) : Type 0 where
  pub frame : h ≡ on_line k h'
  pub later : later_than h.at (found o) ≡ map (on_line k) (later_than h'.at (found late))

abbrev pub LateJoiner : ℕ → Outcome → Outcome → Type 0
LateJoiner k o late =
    Joins k o late → (h h' : Placed) → Memᴰ h (found o) → Memᴰ h' (found late) → h.at ≡ k + h'.at → SameFrom k o late h h'

-- the readers of the request: bytes fed one by one and every waiting frame taken at once, the second reader from some byte on; while both go on, and
-- once both have ended, where frames that a false header held back have come too
pub record FromAByteOn (pre bs : List ℕ) : Type 0 where
  pub goes : Joins (length (line_bits pre)) (outcome (served (pre ++ bs))) (outcome (served bs))
  pub ended : Joins (length (line_bits pre)) (outcome (served (pre ++ bs) ++ (ends ∷ takes_all))) (outcome (served bs ++ (ends ∷ takes_all)))

pub record LateJoiners : Type 0 where
  pub calls : (k : ℕ) (cs ds : List Call) → LateJoiner k (outcome cs) (outcome ds)
  pub bytes : (pre bs : List ℕ) → FromAByteOn pre bs
