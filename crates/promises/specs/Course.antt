-- A WHOLE STREAM in pieces: any number of the bytes left is lent with any output buffer, call after call, and then the end. Assumes nothing.
use Rattle.std.specs.Prelude.{◌≡◌, List, [], ◌∷◌, ◌++◌, ℕ, ◌*◌, ◌≤◌, length, take, drop}
use Rattle.answer.specs.Order.{Says, refuses, answers}
use Rattle.listing.specs.Text.{text_of}
use Rattle.listing.specs.Listing.{begun, line_room, piece_by, piece_text, end_room, finish_by, finish_text, says_listed}
use Rattle.listing.specs.declared.Listing.{Listing}

-- how many of the bytes left are lent, and the output buffer
abbrev pub Piece : Type 0
Piece = ℕ × List ℕ

-- what calls leave: the text that they wrote, one after the other, and the bytes that are not used yet
pub record Course : Type 0 where
  pub text : List ℕ
  pub left : List ℕ
  pub listing : Listing

unfoldable pub course_of : List Piece → Listing → List ℕ → Course
course_of [] l bs = record { text = []; left = bs; listing = l }
course_of (p ∷ ps) l bs =
    let lent = take p.0 bs in
    let r = piece_by l lent (length p.1) in
    let rest = course_of ps r.listing (drop r.used bs) in
    record { text = take r.written (piece_text l lent p.1) ++ rest.text; left = rest.left; listing = rest.listing }

-- all that was written: by pieces, and by the end into the buffer `out`
unfoldable pub listed_text : List ℕ → List Piece → List ℕ → List ℕ
listed_text bs ps out =
    let c = course_of ps begun bs in
    c.text ++ take (finish_by c.listing (length out)).written (finish_text c.listing out)

-- an answer that is no refusal
abbrev pub NotRefused : {A : Type 0} → Says A → Type 0
NotRefused (answers v) = Unit {0}
NotRefused (refuses n) = ⊥

-- the listing of a whole input (RULES 12): in whatever pieces the bytes were listed, once all are used and the end is carried out, what was written
-- is the text of the whole
abbrev pub TextIsWhole : List ℕ → List Piece → List ℕ → Type 0
TextIsWhole bs ps out =
    let c = course_of ps begun bs in
    c.left ≡ [] → NotRefused (says_listed (finish_by c.listing (length out))) → listed_text bs ps out ≡ text_of bs

-- a caller who goes on until a piece writes nothing has all the bytes lent used, and with room for `end_room` bytes the end is carried out: of a
-- listing begun fresh and changed only by pieces
abbrev pub NothingLeft : List ℕ → List Piece → Type 0
NothingLeft bs ps = (lent : List ℕ) (room : ℕ) →
    let r = piece_by (course_of ps begun bs).listing lent room in
    (u : ℕ) → says_listed r ≡ answers (u, 0)
    → (u ≡ length lent) × ((n : ℕ) → end_room ≤ n → NotRefused (says_listed (finish_by r.listing n)))

-- a listing begun fresh and changed only by pieces takes the next one wherever there is room for a line
abbrev pub PieceTaken : List ℕ → List Piece → Type 0
PieceTaken bs ps = (lent : List ℕ) (room : ℕ) → line_room ≤ room → NotRefused (says_listed (piece_by (course_of ps begun bs).listing lent room))

-- each piece lends a byte at least, where one is left, and has room for a line
abbrev pub Roomy : List Piece → Type 0
Roomy [] = Unit {0}
Roomy (p ∷ ps) = (1 ≤ p.0) × (line_room ≤ length p.1) × Roomy ps

-- AND IT IS REACHED: after so many such pieces nothing is left, and with room for `end_room` bytes the end is carried out. Seven for a byte: each piece
-- uses one at least or writes a line, and a line takes sixty at least of the bits that bytes brought, six each.
abbrev pub Reached : List ℕ → List Piece → Type 0
Reached bs ps =
    let c = course_of ps begun bs in
    Roomy ps → 7 * length bs ≤ length ps → (c.left ≡ []) × ((n : ℕ) → end_room ≤ n → NotRefused (says_listed (finish_by c.listing n)))

-- so the whole text comes
abbrev pub TextComes : List ℕ → List Piece → List ℕ → Type 0
TextComes bs ps out = Roomy ps → 7 * length bs ≤ length ps → end_room ≤ length out → listed_text bs ps out ≡ text_of bs
