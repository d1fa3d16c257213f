-- Two readers on one line: the frames of the bits that have come, those of a stream that starts later at their places on the line, and those behind
-- a position. Assumes nothing.
use Rattle.std.specs.Prelude.{Bool, cond, List, [], ◌∷◌, ℕ, ◌+◌, ltb}
use Rattle.stream.specs.Standing.{Placed, scan}
use Rattle.stream.specs.Verdict.{decided}

-- from position p on, after `skip` bits: after the end the frames that stand, and before it those that are decided
abbrev pub frames_from : Bool → ℕ → ℕ → List Bool → List Placed
frames_from ended skip p d = cond ended (scan skip p d) (decided skip p d)

-- of a whole stream
abbrev pub frames_by : Bool → List Bool → List Placed
frames_by ended s = frames_from ended 0 2 s

-- a frame of the stream that starts k bits later, at its place on the line
unfoldable pub on_line : ℕ → Placed → Placed
on_line k h = record { at = k + h.at; frame = h.frame }

-- the frames that begin behind position q
unfoldable pub later_than : ℕ → List Placed → List Placed
later_than q [] = []
later_than q (h ∷ l) =
    let rest = later_than q l in
    cond (ltb q h.at) (h ∷ rest) rest
