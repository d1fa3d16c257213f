-- How long lines are: the room that the calls ask for is enough. Assumes nothing.
use Rattle.std.proofs.Common.{◌≡◌, ℕ, zero, suc, ◌+◌, ◌*◌, ◌≤◌, List, [], ◌∷◌, ◌++◌, length, take, drop, ap, ◌∙◌, arith, length-append, length-drop}
use lib.Seq.{sets, sets-eq, take-append_seam}
use Rattle.frame.specs.declared.Frame.{Frame}
use Rattle.reader.specs.Reading.{ended_by, taken_by}
use Rattle.reader.specs.declared.Answer.{Answer}
use Rattle.reader.specs.declared.Answer.TheVariants.{Done, Refused}
use Rattle.printing.specs.Printing.{decimal}
use Rattle.printing.proofs.DigitLaws.{decimal-le}
use Rattle.listing.specs.Text.{space, newline, spaced, line_numbers, pair_last, frame_line, odd_label, even_label, odd_line}
use Rattle.listing.specs.Text.{frames_label, bytes_label, passed_label, last_line}
use Rattle.listing.specs.Listing.{fed_on, handed_on, ended_on, Lines, line_then, lines_of, line_room, end_room, total_lines, final_lines}
use Rattle.listing.specs.declared.Listing.{Listing}
use Rattle.listing.proofs.LinesLaws.{fed-used}

spaced-le : (ns : List ℕ) → length (spaced ns) ≤ 21 * length ns
unfolding spaced
spaced-le [] = omega arith
spaced-le (n ∷ ns) = omega (arith, length-append (decimal n) (space ∷ spaced ns), decimal-le n, spaced-le ns)

line-le : (at : ℕ) (f : Frame) → length (frame_line at f) ≤ line_room
line-le at f = omega (arith, length-append (spaced (line_numbers at f)) (pair_last f.carried), spaced-le (line_numbers at f))

last-le : (a b c : ℕ) → length (last_line a b c) ≤ line_room
unfolding last_line
last-le a b c =
    omega (
      arith,
      decimal-le a,
      decimal-le b,
      decimal-le c,
      length-append frames_label (decimal a),
      length-append bytes_label (decimal b),
      length-append passed_label (decimal c),
      length-append (frames_label ++ decimal a) ((bytes_label ++ decimal b) ++ ((passed_label ++ decimal c) ++ (newline ∷ []))),
      length-append (bytes_label ++ decimal b) ((passed_label ++ decimal c) ++ (newline ∷ [])),
      length-append (passed_label ++ decimal c) (newline ∷ []),
    )

odd-le : (a b : ℕ) → length (odd_line a b) ≤ line_room
unfolding odd_line
odd-le a b =
    omega (
      arith,
      decimal-le a,
      decimal-le b,
      length-append odd_label (decimal a),
      length-append even_label (decimal b),
      length-append (odd_label ++ decimal a) ((even_label ++ decimal b) ++ (newline ∷ [])),
      length-append (even_label ++ decimal b) (newline ∷ []),
    )

totals-le : (l : Listing) → length (total_lines l) ≤ 2 * line_room
unfolding total_lines
totals-le l =
    let tally = l.reader.candidate.tally in
    omega (
      arith,
      odd-le tally.odd tally.even,
      last-le l.frames l.bytes l.passed,
      length-append (odd_line tally.odd tally.even) (last_line l.frames l.bytes l.passed),
    )

pub lines-le : (k : ℕ) (l : Listing) (bs : List ℕ) → length (lines_of k l bs).text ≤ line_room * k
unfolding lines_of
lines-le zero l bs = omega arith
lines-le (suc k) l bs =
    let fed = fed_on l bs in
    let took = taken_by fed.listing.reader in
    let next = handed_on fed.listing took.reader in
    let left = drop fed.used bs in
    go took.answer (frame_line took.at took.frame) (line-le took.at took.frame) (lines_of k next left) (lines-le k next left)
  where
    go : (a : Answer) (line : List ℕ) → length line ≤ line_room → (rest : Lines) → length rest.text ≤ line_room * k
        → length (line_then a (fed_on l bs) line rest).text ≤ line_room * suc k
    go Done line h rest later = omega (arith, length-append line rest.text)
    go (Refused n) line h rest later = omega arith

-- sixteen lines and the two of totals fit the room at the end
pub final-le : (l : Listing) → length (final_lines l).text ≤ end_room
unfolding final_lines
final-le l =
    let x = lines_of 16 (ended_on l (ended_by l.reader).reader) [] in
    omega (arith, lines-le 16 (ended_on l (ended_by l.reader).reader) [], totals-le x.listing, length-append x.text (total_lines x.listing))

-- no more bytes are used than there are
pub lines-used : (k : ℕ) (l : Listing) (bs : List ℕ) → (lines_of k l bs).used ≤ length bs
unfolding lines_of
lines-used zero l bs = omega arith
lines-used (suc k) l bs =
    let fed = fed_on l bs in
    let took = taken_by fed.listing.reader in
    let next = handed_on fed.listing took.reader in
    let left = drop fed.used bs in
    go took.answer (frame_line took.at took.frame) (lines_of k next left) (lines-used k next left)
  where
    go : (a : Answer) (line : List ℕ) (rest : Lines) → rest.used ≤ length (drop (fed_on l bs).used bs) → (line_then a (fed_on l bs) line rest).used ≤ length bs
    go Done line rest later = omega (arith, length-drop (fed_on l bs).used bs, fed-used l bs)
    go (Refused n) line rest later = fed-used l bs

-- what was stored at the start of a buffer stands there
pub stored-text : (out t : List ℕ) → length t ≤ length out → take (length t) (sets out 0 t) ≡ t
stored-text out t h = ap (take (length t)) (sets-eq t out 0 fits) ∙ take-append_seam t (drop (0 + length t) out)
  where
    fits : 0 + length t ≤ length out
    fits = omega arith
