-- Feeding and taking in turns is the calls that feed and take, of any reader and among any calls. Assumes nothing.
use mathlib.Core.Path.{◌≡◌, refl, sym, ap, ap₂, ◌∙◌}
use mathlib.Core.Bool.{Bool, true, false}
use mathlib.Core.List.{List, [], ◌∷◌, ◌++◌, append-nil, append_assoc}
use Prim.Native.Nat.{ℕ, zero, suc, ◌+◌, ◌/◌, ◌≤◌}
use native.Mathlib.Omega.{arith}
use lib.ListN.{length, take, drop, length-drop}
use lib.Seq.{take-add}
use Rattle.answer.specs.Order.{Check, in_order}
use Rattle.line.specs.Line.{line_bits}
use Rattle.frame.specs.declared.Frame.{Frame}
use Rattle.reader.specs.Reading.{fed_all_by, taken_by, carrying, says_answer, says_taken}
use Rattle.reader.specs.Rows.{row_size, Turns, stopped, went_on, taken_or, in_turns, rows_order, rows_turns, no_rows, some_rows, rows_by}
use Rattle.reader.specs.declared.Reader.{Reader}
use Rattle.reader.specs.declared.Answer.{Answer}
use Rattle.reader.specs.declared.Answer.TheVariants.{Done, Refused}
use Rattle.reader.specs.declared.FedAll.{FedAll}
use Rattle.reader.specs.declared.Taken.{Taken}
use Rattle.reader.specs.declared.rows.RowsRead.{RowsRead}
use Rattle.promises.specs.Calls.{Call, feeds_all, took, reply_to, after, bits_given, frame_given, after_all, bits_taken, handed_out}
use Rattle.promises.specs.Turns.{turn_calls, TurnsAreCalls, row_frames, RowCall, one, reads, Came, came, came_all, spelled, spelled_all}
use Rattle.promises.proofs.ChangesNeither.{changes-neither}
use Rattle.promises.proofs.Runs.{all-bits}
use Rattle.promises.proofs.Serving.{after-append, bits-append}
use Rattle.promises.proofs.Telling.{bits-after}
use Rattle.promises.proofs.Slices.{used_le}

-- ---- of any reader

-- the frame that a taking gave, by what it answered
given-done : (t : Taken) → t.answer ≡ Done → frame_given (took (says_taken t)) ≡ (t.at, t.frame) ∷ []
given-done t e = ap (λ a. frame_given (took (carrying (t.at, t.frame) (says_answer a)))) e ∙ (unfold frame_given in refl)

given-refused : (t : Taken) (n : ℕ) → t.answer ≡ Refused n → frame_given (took (says_taken t)) ≡ []
given-refused t n e = ap (λ a. frame_given (took (carrying (t.at, t.frame) (says_answer a)))) e ∙ (unfold frame_given in refl)

-- the bits of bytes used in two runs
bits-add : (u v : ℕ) (bs : List ℕ) → line_bits (take u bs) ++ line_bits (take v (drop u bs)) ≡ line_bits (take (u + v) bs)
bits-add u v bs = sym (ap line_bits (take-add u v bs) ∙ bits-after (take u bs) (take v (drop u bs)))

module _ (k : ℕ) (r : Reader) (bs : List ℕ) where
  abbrev fed : FedAll
  fed = fed_all_by r bs

  abbrev next : Taken
  next = taken_by (fed_all_by r bs).reader

  abbrev left : List ℕ
  left = drop (fed_all_by r bs).used bs

  abbrev rest : Turns
  rest = in_turns k (taken_by (fed_all_by r bs).reader).reader (drop (fed_all_by r bs).used bs)

  -- one turn, by what taking answered
  abbrev calls : Answer → List Call
  calls a = taken_or a (turn_calls k (taken_by (fed_all_by r bs).reader).reader (drop (fed_all_by r bs).used bs)) []

  abbrev whole : Answer → Turns
  whole a = taken_or a (went_on fed next rest) (stopped fed)

  record One (a : Answer) : Type 0 where
    reader : after_all next.reader (calls a) ≡ (whole a).reader
    frames : frame_given (took (says_taken next)) ++ handed_out next.reader (calls a) ≡ (whole a).frames
    bits : bits_given (feeds_all bs) (reply_to r (feeds_all bs)) ++ bits_taken next.reader (calls a) ≡ line_bits (take (whole a).used bs)
    lent : (whole a).used ≤ length bs
    room : length (whole a).frames ≤ suc k

  one-turn : TurnsAreCalls k next.reader left → (a : Answer) → next.answer ≡ a → One a
  one-turn v Done e = record {
    reader = v.reader;
    frames = ap₂ ◌++◌ (given-done next e) v.frames;
    bits = ap₂ ◌++◌ (all-bits r bs) v.bits ∙ bits-add fed.used rest.used bs;
    lent = omega (arith, v.lent, used_le r bs, length-drop fed.used bs);
    room = omega (arith, v.room);
  }
  one-turn v (Refused n) e = record {
    reader = unfold after_all in changes-neither.reader-take fed.reader n (ap says_answer e);
    frames = unfold handed_out in ap (λ l. l ++ []) (given-refused next n e);
    bits = unfold bits_taken in append-nil (bits_given (feeds_all bs) (reply_to r (feeds_all bs))) ∙ all-bits r bs;
    lent = used_le r bs;
    room = omega arith;
  }

pub turns-are-calls : (k : ℕ) (r : Reader) (bs : List ℕ) → TurnsAreCalls k r bs
turns-are-calls zero r bs = record {
  reader = unfold turn_calls in_turns after_all in refl;
  frames = unfold turn_calls in_turns handed_out in refl;
  bits = unfold turn_calls in_turns bits_taken line_bits in refl;
  lent = unfold in_turns in omega arith;
  room = unfold in_turns in omega arith;
}
turns-are-calls (suc k) r bs =
    told (one-turn k r bs (turns-are-calls k (taken_by (fed_all_by r bs).reader).reader (drop (fed_all_by r bs).used bs))
    (taken_by (fed_all_by r bs).reader).answer refl)
  where
    told : One k r bs (taken_by (fed_all_by r bs).reader).answer → TurnsAreCalls (suc k) r bs
    told v = record {
      reader = unfold turn_calls in_turns after_all after in v.reader;
      frames = unfold turn_calls in_turns handed_out after reply_to frame_given in v.frames;
      bits = unfold turn_calls in_turns bits_taken after bits_given reply_to in v.bits;
      lent = unfold in_turns in v.lent;
      room = unfold in_turns in v.room;
    }

pub turn_is : (k : ℕ) (r : Reader) (bs : List ℕ) → let fed = fed_all_by r bs in let next = taken_by fed.reader in
    in_turns (suc k) r bs ≡ taken_or next.answer (went_on fed next (in_turns k next.reader (drop fed.used bs))) (stopped fed)
unfolding in_turns
turn_is k r bs = refl

-- ---- among other calls

out-append : (cs ds : List Call) (r : Reader) → handed_out r (cs ++ ds) ≡ handed_out r cs ++ handed_out (after_all r cs) ds
unfolding after_all handed_out
out-append [] ds r = refl
out-append (c ∷ cs) ds r =
    ap (λ l. frame_given (reply_to r c) ++ l) (out-append cs ds (after r c))
    ∙ sym (append_assoc (frame_given (reply_to r c)) (handed_out (after r c) cs) (handed_out (after_all (after r c) cs) ds))

-- what calls come to on a reader
abbrev came_of : Reader → List Call → Came
came_of r cs = record { reader = after_all r cs; bits = bits_taken r cs; out = handed_out r cs }

module _ (r : Reader) (bytes rows : List ℕ) where
  abbrev turned : Turns
  turned = rows_turns r bytes rows

  abbrev asked : List Call
  asked = turn_calls (length rows / row_size) r bytes

  abbrev left_by_lem : RowsRead → List (ℕ × Frame) → Came
  left_by_lem x out = record { reader = x.reader; bits = line_bits (take x.used bytes); out = out }

  -- whatever the checks
  read-by : (cs : List Check)
      → left_by_lem (in_order cs (no_rows r) (some_rows turned)) (in_order cs (λ n. []) turned.frames) ≡ came_of r (in_order cs (λ n. []) asked)
  read-by [] =
      let v = turns-are-calls (length rows / row_size) r bytes in
      λ i. record { reader = sym v.reader i; bits = sym v.bits i; out = sym v.frames i }
  read-by (c ∷ cs) = pick c.0 (read-by cs)
    where
      pick : (b : Bool)
          → left_by_lem (in_order cs (no_rows r) (some_rows turned)) (in_order cs (λ n. []) turned.frames) ≡ came_of r (in_order cs (λ n. []) asked)
          → left_by_lem (in_order ((b, c.1) ∷ cs) (no_rows r) (some_rows turned)) (in_order ((b, c.1) ∷ cs) (λ n. []) turned.frames)
          ≡ came_of r (in_order ((b, c.1) ∷ cs) (λ n. []) asked)
      pick true h = unfold after_all bits_taken handed_out line_bits in refl
      pick false h = h

one-call : (r : Reader) (c : Call)
    → ◌≡◌ {A = Came} (record { reader = after r c; bits = bits_given c (reply_to r c); out = frame_given (reply_to r c) }) (came_of r (c ∷ []))
unfolding after_all bits_taken handed_out
one-call r c =
    λ i. record { reader = after r c; bits = sym (append-nil (bits_given c (reply_to r c))) i; out = sym (append-nil (frame_given (reply_to r c))) i }

pub spelled-one : (r : Reader) (c : RowCall) → came r c ≡ came_of r (spelled r c)
unfolding came spelled
spelled-one r (one c) = one-call r c
spelled-one r (reads bytes rows) = unfold rows_by row_frames in read-by r bytes rows (rows_order r rows)

-- behind one call the others
abbrev behind : Came → Came → Came
behind x rest = record { reader = rest.reader; bits = x.bits ++ rest.bits; out = x.out ++ rest.out }

pub spelled-all : (cs : List RowCall) (r : Reader) → came_all r cs ≡ came_of r (spelled_all r cs)
spelled-all [] r = unfold came_all spelled_all after_all bits_taken handed_out in refl
spelled-all (c ∷ cs) r = told (spelled-all cs (came r c).reader)
  where
    ds : List Call
    ds = spelled_all (came r c).reader cs

    same : came r c ≡ came_of r (spelled r c)
    same = spelled-one r c

    parted : behind (came_of r (spelled r c)) (came_of (after_all r (spelled r c)) ds) ≡ came_of r (spelled r c ++ ds)
    parted = λ i. record {
      reader = sym (after-append (spelled r c) ds r) i;
      bits = sym (bits-append (spelled r c) ds r) i;
      out = sym (out-append (spelled r c) ds r) i;
    }

    later : came_all (came r c).reader cs ≡ came_of (came r c).reader ds
        → behind (came r c) (came_all (came r c).reader cs) ≡ came_of r (spelled r c ++ ds)
    later h = ap (behind (came r c)) h ∙ ap (λ (x : Came). behind x (came_of x.reader ds)) same ∙ parted

    told : came_all (came r c).reader cs ≡ came_of (came r c).reader ds → came_all r (c ∷ cs) ≡ came_of r (spelled_all r (c ∷ cs))
    told h = unfold came_all spelled_all in later h
