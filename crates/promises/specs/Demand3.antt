-- DEMAND 3, sentence by sentence, of any list of calls on a fresh reader and of a caller who takes every waiting frame at once.
-- Assumes nothing.
use Rattle.std.specs.Prelude.{◌≡◌, ◌↔◌, ◌⊎◌, Bool, true, false, not, cond, ℕ, ◌+◌, ◌*◌, ◌≤◌, ◌<◌, length, take, drop}
use mathlib.Core.List.{List, [], ◌∷◌, ◌++◌, map, Memᴰ}
use Rattle.answer.specs.Order.{refuses, answers}
use Rattle.line.specs.Line.{is_data, six, line_bits, without}
use Rattle.frame.specs.Frames.{turned_frame}
use Rattle.frame.specs.Widths.{outside}
use Rattle.frame.specs.declared.Frame.{Frame}
use Rattle.stream.specs.Standing.{Stands, frame_at, Placed, placed, scan, frames_in}
use Rattle.stream.specs.Verdict.{RightSoFar, decided}
use Rattle.stream.specs.Places.{StandsIn, FoundOrCovered, Apart, Damaged}
use Rattle.record_fields.specs.Coding.{Each}
use Rattle.reader.specs.Reading.{bits_of, started, past, fed_by, fed_all_by, taken_by, says_next, says_fed_all, says_taken}
use Rattle.reader.specs.declared.Reader.{Reader}
use Rattle.promises.specs.Calls.{Call, feeds, feeds_all, ends, takes, Reply, replied, used, took, answer_of, reply_to, after}
use Rattle.promises.specs.Calls.{after_all, replies, Outcome, outcome, reported, takes_all, served, in_slices, unused}

-- Each sentence is of an outcome: of calls on this package's reader here, and of calls of the library in rtcm2_promises.

-- the frames that were handed out, with their positions in the whole stream: the first ones of the scan of the bits taken
unfoldable pub found : Outcome → List Placed
found o = take (length o.out) (frames_in o.bits)

-- "Only frames by the definition are ever handed out", at their positions modulo 2^32, within their widths, each once: no two share a bit
pub record OnlyFrames (o : Outcome) : Type 0 where
  pub given : o.out ≡ map reported (found o)
  pub stand : (h : Placed) → Memᴰ h (found o) → StandsIn 2 o.bits h
  pub within : (h : Placed) → Memᴰ h (found o) → outside h.frame ≡ false
  pub once : Apart 2 (found o)

-- where the hunt is: at position 2 + gone, past nothing that may yet stand; there either a frame stands and waits, or the words that have come are
-- right and the next has not
pub record HuntAt (o : Outcome) : Type 0 where
  pub gone : ℕ
  pub held : bits_of o.reader ≡ drop gone o.bits
  pub rest : (e : List Bool) → frames_in (o.bits ++ e) ≡ found o ++ scan 0 (2 + gone) (drop gone o.bits ++ e)
  pub waits : o.reader.candidate.waits ≡ true → Stands (drop gone o.bits)
  pub hunts : o.reader.candidate.waits ≡ false
      → RightSoFar o.reader.candidate.words (drop gone o.bits) × (length (drop gone o.bits) < 32 + 30 * o.reader.candidate.words)

-- a position is ruled out at once when a word of it that is whole fails (RULES 5), at any time before the end
abbrev pub AsSoonAs : Outcome → Type 0
AsSoonAs o = o.reader.ended ≡ false → HuntAt o

-- "Let a correct frame stand undamaged in the bits taken .. It is handed out once and exactly": whatever the calls were, where no frame waits all
-- frames of the bits taken were handed out if the input has ended, and else all that these bits decide
abbrev pub NothingLost : Outcome → Type 0
NothingLost o = o.reader.candidate.waits ≡ false → found o ≡ cond o.reader.ended (frames_in o.bits) (decided 0 2 o.bits)

-- "It is handed out once and exactly, at latest when 990 bits from its first have been taken or the input has ended, unless a frame already handed
-- out covers its first bit. This holds when every waiting frame is taken at once, after the end too": whatever the calls were, bytes one by one or in
-- slices of any size, once every waiting frame is `taken`. Position 2 + q is the bit after drop q's first two, so 990 bits from it are q + 992 in all.
pub record HandedOut (o taken : Outcome) : Type 0 where
  pub none : taken.reader.candidate.waits ≡ false
  pub bits : taken.bits ≡ o.bits
  pub out : taken.out ≡ map reported (found taken)
  pub in-time : (q : ℕ) → Stands (drop q o.bits) → (q + 992 ≤ length o.bits) ⊎ (o.reader.ended ≡ true)
      → FoundOrCovered (placed (2 + q) (drop q o.bits)) (found taken)
  pub once : Apart 2 (found taken)

-- and of bytes fed one by one, each followed by taking every waiting frame, no bit is refused: the frames are those of their bits, and at `last`,
-- after the end, all of them
pub record OneByOne (bs : List ℕ) (o last : Outcome) : Type 0 where
  pub bits : o.bits ≡ line_bits bs
  pub out : o.out ≡ map reported (decided 0 2 (line_bits bs))
  pub ended : last.out ≡ map reported (frames_in (line_bits bs))

-- nor of bytes lent in slices: the bits taken are those of the bytes used, and after as many slices as there are bytes, none empty, no byte is left
pub record InSlices (ns bs left : List ℕ) (o : Outcome) : Type 0 where
  pub bits : o.bits ++ line_bits left ≡ line_bits bs
  pub none : o.reader.candidate.waits ≡ false
  pub all : Each (λ n. 1 ≤ n) ns → length bs ≤ length ns → left ≡ []

-- what is left of the bits d once positions are ruled out: those from two bits before the first that is not; where one was, no frame stands, whatever
-- comes
pub record RuledOutTo (d left : List Bool) : Type 0 where
  pub gone : ℕ
  pub is : left ≡ drop gone d
  pub none : (j : ℕ) → j < gone → (e : List Bool) → Stands (drop j (d ++ e)) → ⊥

-- a reader started fresh never refuses with 5, and a data byte always adds its six bits, except where 3 or 2 is the answer (RULES 5): the reader
-- then holds its bits and these six after them, less those of positions that are now ruled out
-- `reply` is what a byte fed next is answered, `next` the reader that it leaves.
pub record NeverFive (o : Outcome) (reply : ℕ → Reply) (next : ℕ → Reader) : Type 0 where
  pub none : (y : Reply) → Memᴰ y o.replies → answer_of y ≡ refuses 5 → ⊥
  pub taken : (b : ℕ) → is_data b ≡ true → o.reader.ended ≡ false → o.reader.candidate.waits ≡ false
      → (reply b ≡ replied (answers tt)) × RuledOutTo (bits_of o.reader ++ six b) (bits_of (next b))

-- "Now let bits of a sent frame be turned over, none lost or added. If the first damaged word, counted with the two bits before it, has one, two or
-- three turned bits, nothing begins where that frame began": g' is what came of g, after any bits and before any, the stream cut anywhere
abbrev pub DamageBeginsNothing : Outcome → Type 0
DamageBeginsNothing o = (g g' pre post e : List Bool) → Damaged g g' → o.bits ++ e ≡ pre ++ (g' ++ post)
    → (h : Placed) → Memᴰ h (found o) → h.at ≡ 2 + length pre → ⊥

-- ---- "Turning over all bits from the start changes no frame handed out"

-- c carries b's six bits turned over, or neither carries bits
pub record OppositeByte (b c : ℕ) : Type 0 where
  pub both : is_data c ≡ is_data b
  pub bits : is_data b ≡ true → six c ≡ map not (six b)

pub data OppositeBytes : List ℕ → List ℕ → Type 0 where
  no_bytes : OppositeBytes [] []
  byte-and : {b c : ℕ} {bs cs : List ℕ} → OppositeByte b c → OppositeBytes bs cs → OppositeBytes (b ∷ bs) (c ∷ cs)

pub data OppositeCalls : List Call → List Call → Type 0 where
  no-calls : OppositeCalls [] []
  fed-and : {b c : ℕ} {cs ds : List Call} → OppositeByte b c → OppositeCalls cs ds → OppositeCalls (feeds b ∷ cs) (feeds c ∷ ds)
  all-and : {bs ds : List ℕ} {cs es : List Call} → OppositeBytes bs ds → OppositeCalls cs es → OppositeCalls (feeds_all bs ∷ cs) (feeds_all ds ∷ es)
  end_and : {cs ds : List Call} → OppositeCalls cs ds → OppositeCalls (ends ∷ cs) (ends ∷ ds)
  take-and : {cs ds : List Call} → OppositeCalls cs ds → OppositeCalls (takes ∷ cs) (takes ∷ ds)

-- a reply on the turned line: the pair of a frame taken is turned, and nothing else
abbrev pub turned_reply : Reply → Reply
turned_reply (replied x) = replied x
turned_reply (used x) = used x
turned_reply (took (answers v)) = took (answers (v.0, turned_frame v.1))
turned_reply (took (refuses n)) = took (refuses n)

-- every answer is the same at any time, but for that pair; and the frame definition itself says the same of turned bits, so that an idle reader
-- does not meet it
pub record TurnedIsSame : Type 0 where
  pub calls : (cs ds : List Call) → OppositeCalls cs ds → replies started ds ≡ map turned_reply (replies started cs)
  pub stand : (d : List Bool) → Stands d ↔ Stands (map not d)
  pub frame : (d : List Bool) → Stands d → frame_at (map not d) ≡ turned_frame (frame_at d)

-- ---- feeding bytes is feeding them one by one, for every reader

-- bytes fed one after the other
unfoldable pub feed_each : Reader → List ℕ → Reader
feed_each r [] = r
feed_each r (b ∷ bs) = feed_each (fed_by r b).reader bs

-- refused, it leaves the reader as it was, and every byte is refused with that number; else the reader is the one that feeding the bytes used one by
-- one leaves, none of them while a frame waits; the bytes passed over are those of them that carry no bit; and all bytes are used or a frame waits
pub record FedOneByOne (r : Reader) (bs : List ℕ) : Type 0 where
  pub refused : (n : ℕ) → says_fed_all (fed_all_by r bs) ≡ refuses n → ((fed_all_by r bs).reader ≡ r) × ((b : ℕ) → says_next (fed_by r b) ≡ refuses n)
  pub reader : (u p : ℕ) → says_fed_all (fed_all_by r bs) ≡ answers (u, p) → (fed_all_by r bs).reader ≡ feed_each r (take u bs)
  pub free : (u p : ℕ) → says_fed_all (fed_all_by r bs) ≡ answers (u, p) → (k : ℕ) → k < u → (feed_each r (take k bs)).candidate.waits ≡ false
  pub passed : (u p : ℕ) → says_fed_all (fed_all_by r bs) ≡ answers (u, p) → p ≡ without (take u bs)
  pub all : (u p : ℕ) → says_fed_all (fed_all_by r bs) ≡ answers (u, p) → (u ≡ length bs) ⊎ ((fed_all_by r bs).reader.candidate.waits ≡ true)

-- a reader's array has forty cells
abbrev pub FeedAllIsFeed : Reader → List ℕ → Type 0
FeedAllIsFeed r bs = length r.cells ≡ 40 → FedOneByOne r bs

-- ---- no call leaves a reader that is refused with 5, where the one that it was given is not
abbrev pub NextIsAccepted : Reader → Type 0
NextIsAccepted r = length r.cells ≡ 40 → past r ≡ false → (c : Call) → past (after r c) ≡ false

-- ---- what taking hands out, of every reader, forged or not: a frame that stands in the bits held, at the position that the state says
pub record Handed (r : Reader) (at : ℕ) (f : Frame) : Type 0 where
  pub long : length (bits_of r) ≡ r.candidate.held
  pub stands : Stands (bits_of r)
  pub frame : f ≡ frame_at (bits_of r)
  pub place : at ≡ r.candidate.at

abbrev pub TakesOnlyFrames : Reader → Type 0
TakesOnlyFrames r = length r.cells ≡ 40 → (at : ℕ) (f : Frame) → says_taken (taken_by r) ≡ answers (at, f) → Handed r at f

-- ---- THE DEMAND
pub record Demand3 : Type 0 where
  -- "Let a correct frame stand undamaged in the bits taken, with the two bits before it, at any bit offset and in either polarity. It is handed out
  -- once and exactly, at latest when 990 bits from its first have been taken or the input has ended, unless a frame already handed out covers its
  -- first bit. This holds when every waiting frame is taken at once, after the end too."
  pub out : (cs : List Call) → HandedOut (outcome cs) (outcome (cs ++ takes_all))
  pub each : (bs : List ℕ) → OneByOne bs (outcome (served bs)) (outcome (served bs ++ (ends ∷ takes_all)))
  pub slices : (ns bs : List ℕ) → InSlices ns bs (unused started ns bs) (outcome (in_slices started ns bs))
  -- "Turning over all bits from the start changes no frame handed out."
  pub turned : TurnedIsSame
  -- "Now let bits of a sent frame be turned over, none lost or added. If the first damaged word, counted with the two bits before it, has one, two or
  -- three turned bits, nothing begins where that frame began."
  pub damage : (cs : List Call) → DamageBeginsNothing (outcome cs)
  -- "Only frames by the definition are ever handed out."
  pub only : (cs : List Call) → OnlyFrames (outcome cs)
  -- nothing is lost, whatever the calls
  pub nothing-lost : (cs : List Call) → NothingLost (outcome cs)
  -- of the hunt (RULES 5): as soon as; never 5; and bytes fed together are bytes fed one by one
  pub soon : (cs : List Call) → AsSoonAs (outcome cs)
  pub never-5 : (cs : List Call) → NeverFive (outcome cs) (λ b. reply_to (after_all started cs) (feeds b)) (λ b. after (after_all started cs) (feeds b))
  pub together : (r : Reader) (bs : List ℕ) → FeedAllIsFeed r bs
