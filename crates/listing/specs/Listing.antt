-- What the calls of a listing answer, by the reader's own calls: feeding, taking, ending. Assumes nothing.
use Rattle.std.specs.Prelude.{Result, Ok, ℕ, zero, suc, ◌+◌, ◌*◌, ◌/◌, ◌%◌, ◌^◌, List, [], ◌∷◌, ◌++◌, length, drop, nat_lt}
use Rattle.std.proofs.lemmas.List.Edits.{sets}
use Rattle.answer.specs.Order.{Says, Check, in_order}
use Rattle.frame.specs.Widths.{outside}
use Rattle.frame.specs.declared.Frame.{Frame}
use Rattle.reader.specs.Reading.{started, past, busy, fed_all_by, ended_by, taken_by, says_answer, carrying}
use Rattle.reader.specs.declared.Reader.{Reader}
use Rattle.reader.specs.declared.Answer.{Answer}
use Rattle.reader.specs.declared.Answer.TheVariants.{Done, Refused}
use Rattle.listing.specs.Text.{frame_line, odd_line, last_line}
use Rattle.listing.specs.declared.Listing.{Listing}
use Rattle.listing.specs.declared.Listed.{Listed}
use Rattle.listing.specs.declared.Fed.{Fed}
use Rattle.listing.specs.declared.Lined.{Lined}
use Rattle.answer.specs.Table.{refused}
use Rattle.answer.specs.declared.Refusal.{Refusal}

-- nothing is read and nothing is written
unfoldable pub begun : Listing
begun = record { reader = started; frames = 0; bytes = 0; passed = 0 }

-- ---- lines

-- bytes fed until a frame waits or none is left; the totals count on
unfoldable pub fed_on : Listing → List ℕ → Fed
fed_on l bs =
    let fed = fed_all_by l.reader bs in
    record {
      used = fed.used;
      listing = record {
        reader = fed.reader;
        frames = l.frames;
        bytes = (l.bytes + fed.used) % 2 ^ 64;
        passed = (l.passed + fed.passed) % 2 ^ 64;
      };
    }

-- a frame was handed out
unfoldable pub handed_on : Listing → Reader → Listing
handed_on l r = record { reader = r; frames = (l.frames + 1) % 2 ^ 64; bytes = l.bytes; passed = l.passed }

pub record Lines : Type 0 where
  pub text : List ℕ
  pub used : ℕ
  pub listing : Listing

-- a frame's line and what comes after it, or the end where no frame waits
abbrev pub line_then : Answer → Fed → List ℕ → Lines → Lines
line_then Done fed line rest = record { text = line ++ rest.text; used = fed.used + rest.used; listing = rest.listing }
line_then (Refused n) fed line rest = record { text = []; used = fed.used; listing = fed.listing }

-- AT MOST k LINES: bytes are fed until a frame waits, it is taken, and so on with the bytes left
unfoldable pub lines_of : ℕ → Listing → List ℕ → Lines
lines_of zero l bs = record { text = []; used = 0; listing = l }
lines_of (suc k) l bs =
    let fed = fed_on l bs in
    let took = taken_by fed.listing.reader in
    let rest = lines_of k (handed_on fed.listing took.reader) (drop fed.used bs) in
    line_then took.answer fed (frame_line took.at took.frame) rest

-- how far the lines went
unfoldable pub lined_by : Lines → Lined
lined_by x = record { used = x.used; written = length x.text; listing = x.listing }

-- ---- A PIECE: 5, 3, 13

-- room for seven numbers of at most twenty digits, each with the space after it; and for a line, which has two digits and a newline more
abbrev pub numbers_room : ℕ
numbers_room = 7 * (20 + 1)

abbrev pub line_room : ℕ
line_room = numbers_room + 3

-- a reader takes bytes once its waiting frames are taken: 5, 3
abbrev pub ready_by : Reader → Answer
ready_by r = in_order ((past r, 5) ∷ (r.ended, 3) ∷ []) Refused Done

-- a refusal reads and writes nothing
abbrev pub refused_listing : Listing → ℕ → Listed
refused_listing l n = record { answer = Refused n; used = 0; written = 0; listing = l }

abbrev pub listed : Lines → Listed
listed x = record { answer = Done; used = x.used; written = length x.text; listing = x.listing }

abbrev pub piece_order : Listing → ℕ → List Check
piece_order l room = (past l.reader, 5) ∷ (l.reader.ended, 3) ∷ (nat_lt room line_room, 13) ∷ []

unfoldable pub piece_by : Listing → List ℕ → ℕ → Listed
piece_by l bs room = in_order (piece_order l room) (refused_listing l) (listed (lines_of (room / line_room) l bs))

-- the output buffer after it
unfoldable pub piece_text : Listing → List ℕ → List ℕ → List ℕ
piece_text l bs out = in_order (piece_order l (length out)) (λ n. out) (sets out 0 (lines_of (length out / line_room) l bs).text)

-- ---- THE END: 5, 3, 2, 13

-- room for the lines that the end may still release, 16 at most, and the two lines of totals
abbrev pub end_room : ℕ
end_room = (16 + 2) * line_room

-- the input has ended
unfoldable pub ended_on : Listing → Reader → Listing
ended_on l r = record { reader = r; frames = l.frames; bytes = l.bytes; passed = l.passed }

-- the two lines of totals: the counters of the reader, then those of the listing
unfoldable pub total_lines : Listing → List ℕ
total_lines l =
    let tally = l.reader.candidate.tally in
    odd_line tally.odd tally.even ++ last_line l.frames l.bytes l.passed

-- the lines of the frames that the end released, and those two
unfoldable pub final_lines : Listing → Lines
final_lines l =
    let x = lines_of 16 (ended_on l (ended_by l.reader).reader) [] in
    record { text = x.text ++ total_lines x.listing; used = 0; listing = x.listing }

abbrev pub end_order : Listing → ℕ → List Check
end_order l room = busy l.reader ++ ((nat_lt room end_room, 13) ∷ [])

unfoldable pub finish_by : Listing → ℕ → Listed
finish_by l room = in_order (end_order l room) (refused_listing l) (listed (final_lines l))

unfoldable pub finish_text : Listing → List ℕ → List ℕ
finish_text l out = in_order (end_order l (length out)) (λ n. out) (sets out 0 (final_lines l).text)

-- ---- A LINE ALONE, of a frame found elsewhere than on the line: 5, 13

abbrev pub line_order : Frame → List ℕ → List Check
line_order f out = (outside f, 5) ∷ (nat_lt (length out) line_room, 13) ∷ []

unfoldable pub line_put : ℕ → Frame → List ℕ → Result ℕ Refusal
line_put at f out = in_order (line_order f out) refused (Ok (length (frame_line at f)))

-- the output buffer after it
unfoldable pub line_to : ℕ → Frame → List ℕ → List ℕ
line_to at f out = in_order (line_order f out) (λ n. out) (sets out 0 (frame_line at f))

-- ---- an answer in the table's terms: how many bytes were used, and how many written
abbrev pub says_listed : Listed → Says (ℕ × ℕ)
says_listed x = carrying (x.used, x.written) (says_answer x.answer)
