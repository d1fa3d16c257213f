-- THE TEXT of a stream: a line for each frame of its scan, in order, and two lines of totals, which are counted over the stream itself.
-- Bytes are ASCII codes. Assumes nothing.
use Rattle.std.specs.Prelude.{ℕ, ◌+◌, ◌%◌, ◌^◌, List, [], ◌∷◌, ◌++◌, length}
use Rattle.line.specs.Line.{line_bits, without}
use Rattle.frame.specs.Header.{code_of}
use Rattle.frame.specs.declared.Carried.{Carried}
use Rattle.frame.specs.declared.Frame.{Frame}
use Rattle.stream.specs.Standing.{Placed, frames_in}
use Rattle.stream.specs.Faults.{odd_in, even_in, faults_in}
use Rattle.printing.specs.Printing.{decimal}

-- ---- lines

abbrev pub space : ℕ
space = 32

abbrev pub newline : ℕ
newline = 10

-- numbers, each with a space after it
unfoldable pub spaced : List ℕ → List ℕ
spaced [] = []
spaced (n ∷ ns) = decimal n ++ (space ∷ spaced ns)

-- a carried pair as two digits, D29* first, and the end of the line
abbrev pub pair_last : Carried → List ℕ
pair_last c = (48 + c.d29) ∷ (48 + c.d30) ∷ newline ∷ []

-- A FRAME'S LINE: where its first bit is, its type, station, Z count, sequence, N and health, and the two bits before it
abbrev pub line_numbers : ℕ → Frame → List ℕ
line_numbers at f =
    let h = f.header in
    at ∷ h.kind ∷ h.station ∷ h.z ∷ h.sequence ∷ f.n ∷ code_of h.state ∷ []

abbrev pub frame_line : ℕ → Frame → List ℕ
frame_line at f = spaced (line_numbers at f) ++ pair_last f.carried

-- "odd ", " even "
abbrev pub odd_label : List ℕ
odd_label = 111 ∷ 100 ∷ 100 ∷ 32 ∷ []

abbrev pub even_label : List ℕ
even_label = 32 ∷ 101 ∷ 118 ∷ 101 ∷ 110 ∷ 32 ∷ []

-- THE SECOND LAST LINE: how many positions a word ruled out, by an odd number of ones in its remainder and by an even number
unfoldable pub odd_line : ℕ → ℕ → List ℕ
odd_line odd even = (odd_label ++ decimal odd) ++ ((even_label ++ decimal even) ++ (newline ∷ []))

-- "frames ", " bytes ", " passed "
abbrev pub frames_label : List ℕ
frames_label = 102 ∷ 114 ∷ 97 ∷ 109 ∷ 101 ∷ 115 ∷ 32 ∷ []

abbrev pub bytes_label : List ℕ
bytes_label = 32 ∷ 98 ∷ 121 ∷ 116 ∷ 101 ∷ 115 ∷ 32 ∷ []

abbrev pub passed_label : List ℕ
passed_label = 32 ∷ 112 ∷ 97 ∷ 115 ∷ 115 ∷ 101 ∷ 100 ∷ 32 ∷ []

-- THE LAST LINE: how many frames were handed out, how many bytes read, and how many of these refused with 1
unfoldable pub last_line : ℕ → ℕ → ℕ → List ℕ
last_line frames bytes passed =
    (frames_label ++ decimal frames) ++ ((bytes_label ++ decimal bytes) ++ ((passed_label ++ decimal passed) ++ (newline ∷ [])))

-- ---- a whole stream

-- the lines of frames, their positions modulo 2^32
unfoldable pub lines_in : List Placed → List ℕ
lines_in [] = []
lines_in (h ∷ hs) = frame_line (h.at % 2 ^ 32) h.frame ++ lines_in hs

-- THE TEXT of the bytes of a whole stream: the totals of its words modulo 2^32, the others modulo 2^64
unfoldable pub text_of : List ℕ → List ℕ
text_of bs =
    let frames = frames_in (line_bits bs) in
    let faults = faults_in (line_bits bs) in
    let totals = last_line (length frames % 2 ^ 64) (length bs % 2 ^ 64) (without bs % 2 ^ 64) in
    lines_in frames ++ (odd_line (odd_in faults % 2 ^ 32) (even_in faults % 2 ^ 32) ++ totals)
