-- Reading rows on a fresh reader, whatever was called before: never 5, and where it stops. Assumes nothing.
use mathlib.Core.Path.{◌≡◌, refl, sym, ap, ap₂, subst, ◌∙◌}
use mathlib.Core.Bool.{Bool, true, false, not, ◌&&◌}
use mathlib.Core.Logic.{◌⊎◌, inl, inr}
use mathlib.Core.List.{List, [], ◌∷◌, ◌++◌}
use Prim.Native.Nat.{ℕ, zero, suc, ◌+◌, ◌/◌}
use native.Mathlib.Omega.{arith}
use lib.Dec.{ltb}
use lib.ListN.{length, take, drop, length-drop}
use lib.Seq.{take-add}
use Rattle.answer.specs.Order.{Check, in_order, answers, NoneApplies}
use Rattle.answer.proofs.OrderLaws.{order-answers, order-map}
use Rattle.line.specs.Line.{without}
use Rattle.frame.specs.declared.Frame.{Frame}
use Rattle.stream.specs.Standing.{stands}
use Rattle.stream.proofs.Stand.{stands-test}
use Rattle.stream.proofs.Words.{unlike}
use Rattle.reader.specs.Reading.{bits_of, started, fed_all_by, taken_by}
use Rattle.reader.specs.Rows.{row_size, Turns, stopped, went_on, taken_or, in_turns, stuck, rows_turns, no_rows, some_rows, rows_by, says_rows}
use Rattle.reader.specs.declared.Reader.{Reader}
use Rattle.reader.specs.declared.Answer.{Answer}
use Rattle.reader.specs.declared.Answer.TheVariants.{Done, Refused}
use Rattle.reader.specs.declared.FedAll.{FedAll}
use Rattle.reader.specs.declared.rows.RowsRead.{RowsRead}
use Rattle.promises.specs.Calls.{feeds_all, takes, reply_to, after, bits_given, frame_given, bits_taken, handed_out}
use Rattle.promises.specs.CarriesItsNumber.{Ordered}
use Rattle.promises.specs.Turns.{RowCall, Came, came_all, spelled_all, StopsWell, RowsAmongCalls}
use Rattle.promises.proofs.CarriesItsNumber.{ordered, says-inj, none_told}
use Rattle.promises.proofs.Kept.{Kept}
use Rattle.promises.proofs.Runs.{all-by, never-past, kept-sound, kept-call, kept}
use Rattle.promises.proofs.Serving.{take_ended}
use Rattle.promises.proofs.EveryReader.{FedParts, fed-parts}
use Rattle.promises.proofs.Telling.{without-after, none-there}
use Rattle.promises.proofs.Slices.{used_le}
use Rattle.promises.proofs.Turns.{turn_is, spelled-all}

-- where turns stop, of a reader whose input goes on
record Stops (k : ℕ) (bs : List ℕ) (x : Turns) : Type 0 where
  passed : x.passed ≡ without (take x.used bs)
  stops : (length x.frames ≡ k) ⊎ ((x.used ≡ length bs) × (x.reader.candidate.waits ≡ false))

module _ (s : List Bool) (out : List (ℕ × Frame)) (r : Reader) (q : Kept s out r) (goes : r.ended ≡ false) (bs : List ℕ) where
  parts : FedParts r bs (fed_all_by r bs)
  parts = fed-parts r bs q.len

  -- no frame waits behind feeding, so all bytes were used
  all-used : (fed_all_by r bs).reader.candidate.waits ≡ false → (fed_all_by r bs).used ≡ length bs
  all-used none = go r.candidate.waits refl
    where
      end : ((fed_all_by r bs).used ≡ length bs) ⊎ ((fed_all_by r bs).reader.candidate.waits ≡ true) → (fed_all_by r bs).used ≡ length bs
      end (inl h) = h
      end (inr h) = unlike _ h none

      go : (w : Bool) → r.candidate.waits ≡ w → (fed_all_by r bs).used ≡ length bs
      go true ew = unlike _ ew (sym (ap (λ (f : FedAll). f.reader.candidate.waits) (all-by r false false true (never-past s out r q) goes ew bs)) ∙ none)
      go false ew = end (parts.all (ap (λ (f : FedAll). f.answer) (all-by r false false false (never-past s out r q) goes ew bs)))

  abbrev fed-on : FedAll
  fed-on = fed_all_by r bs

  fed-kept : Kept (s ++ bits_given (feeds_all bs) (reply_to r (feeds_all bs))) (out ++ frame_given (reply_to r (feeds_all bs))) (fed_all_by r bs).reader
  fed-kept = unfold after in kept-call s out r (feeds_all bs) q

  taken-kept : Kept ((s ++ bits_given (feeds_all bs) (reply_to r (feeds_all bs))) ++ bits_given takes (reply_to (fed_all_by r bs).reader takes))
      ((out ++ frame_given (reply_to r (feeds_all bs))) ++ frame_given (reply_to (fed_all_by r bs).reader takes)) (taken_by (fed_all_by r bs).reader).reader
  taken-kept =
      unfold after in kept-call (s ++ bits_given (feeds_all bs) (reply_to r (feeds_all bs))) (out ++ frame_given (reply_to r (feeds_all bs)))
      (fed_all_by r bs).reader takes fed-kept

  taken-goes : (taken_by (fed_all_by r bs).reader).reader.ended ≡ false
  taken-goes = take_ended (fed_all_by r bs).reader ∙ parts.ended ∙ goes

  module _ (k : ℕ) where
    abbrev then : Turns
    then = in_turns k (taken_by (fed_all_by r bs).reader).reader (drop (fed_all_by r bs).used bs)

    -- one turn, by what taking answered
    stop-turn : Stops k (drop (fed_all_by r bs).used bs) then → (a : Answer) → (taken_by (fed_all_by r bs).reader).answer ≡ a
        → Stops (suc k) bs (taken_or a (went_on fed-on (taken_by (fed_all_by r bs).reader) then) (stopped fed-on))
    stop-turn v (Refused n) e =
        let none = none-there fed-on.reader (kept-sound _ _ fed-on.reader fed-kept) n e in
        record { passed = parts.passed; stops = inr (all-used none, none) }
    stop-turn v Done e = record {
      passed =
          ap₂ ◌+◌ parts.passed v.passed ∙ sym (without-after (take fed-on.used bs) (take then.used (drop fed-on.used bs)))
          ∙ ap without (sym (take-add fed-on.used then.used bs));
      stops = go v.stops;
    }
      where
        go : (length then.frames ≡ k) ⊎ ((then.used ≡ length (drop fed-on.used bs)) × (then.reader.candidate.waits ≡ false))
            → (suc (length then.frames) ≡ suc k) ⊎ ((fed-on.used + then.used ≡ length bs) × (then.reader.candidate.waits ≡ false))
        go (inl h) = inl (ap suc h)
        go (inr h) = inr (omega (arith, h.0, used_le r bs, length-drop fed-on.used bs), h.1)

turns-stop : (k : ℕ) (s : List Bool) (out : List (ℕ × Frame)) (r : Reader) → Kept s out r → r.ended ≡ false → (bs : List ℕ) → Stops k bs (in_turns k r bs)
turns-stop zero s out r q goes bs = unfold in_turns without in record { passed = refl; stops = inl refl }
turns-stop (suc k) s out r q goes bs =
    let v = turns-stop k _ _ (taken_by (fed_all_by r bs).reader).reader (taken-kept s out r q goes bs) (taken-goes s out r q goes bs)
    (drop (fed_all_by r bs).used bs) in
    subst (Stops (suc k) bs) (sym (turn_is k r bs)) (stop-turn s out r q goes bs k v (taken_by (fed_all_by r bs).reader).answer refl)

-- a frame that is said to wait stands
not_stuck : (s : List Bool) (out : List (ℕ × Frame)) (r : Reader) → Kept s out r → stuck r ≡ false
unfolding stuck
not_stuck s out r q = go r.candidate.waits refl
  where
    go : (w : Bool) → r.candidate.waits ≡ w → (r.candidate.waits && not (stands (bits_of r))) ≡ false
    go false e = ap (λ t. t && not (stands (bits_of r))) e
    go true e = ap₂ (λ t u. t && not u) e (stands-test (bits_of r) (q.found e))

module _ (s : List Bool) (out : List (ℕ × Frame)) (r : Reader) (q : Kept s out r) (bytes rows : List ℕ) where
  abbrev fewer : List Check
  fewer = (r.ended, 3) ∷ (ltb (length rows) row_size, 13) ∷ []

  -- its order without the two 5
  rows-fresh : rows_by r bytes rows ≡ in_order fewer (no_rows r) (some_rows (rows_turns r bytes rows))
  unfolding rows_by
  rows-fresh =
      ap₂ (λ a b. in_order ((a, 5) ∷ (b, 5) ∷ fewer) (no_rows r) (some_rows (rows_turns r bytes rows))) (never-past s out r q) (not_stuck s out r q)

  fresh-order : Ordered (3 ∷ 13 ∷ []) fewer (says_rows (rows_by r bytes rows))
  fresh-order = ordered fewer _ (ap says_rows rows-fresh ∙ order-map says_rows fewer (no_rows r) (some_rows (rows_turns r bytes rows))) refl refl

  fresh-stops : (u p c : ℕ) → says_rows (rows_by r bytes rows) ≡ answers (u, (p, c)) → StopsWell r bytes rows u p c
  fresh-stops u p c e = record {
    passed = ap (λ v. v.1.0) (sym is) ∙ t.passed ∙ ap (λ v. without (take v.0 bytes)) is;
    stops = go t.stops;
  }
    where
      none : NoneApplies fewer
      none = none_told fresh-order (u, (p, c)) e

      x : Turns
      x = rows_turns r bytes rows

      done : rows_by r bytes rows ≡ some_rows (rows_turns r bytes rows)
      done = rows-fresh ∙ order-answers (no_rows r) (some_rows (rows_turns r bytes rows)) fewer none

      is : ◌≡◌ {A = ℕ × (ℕ × ℕ)} (x.used, (x.passed, length x.frames)) (u, (p, c))
      is = says-inj (ap says_rows (sym done) ∙ e)

      t : Stops (length rows / row_size) bytes (in_turns (length rows / row_size) r bytes)
      t = turns-stop (length rows / row_size) s out r q none.0 bytes

      go : (length x.frames ≡ length rows / row_size) ⊎ ((x.used ≡ length bytes) × (x.reader.candidate.waits ≡ false))
          → (c ≡ length rows / row_size) ⊎ ((u ≡ length bytes) × ((rows_by r bytes rows).reader.candidate.waits ≡ false))
      go (inl h) = inl (ap (λ v. v.1.1) (sym is) ∙ h)
      go (inr h) = inr (ap (λ v. v.0) (sym is) ∙ h.0, ap (λ (y : RowsRead). y.reader.candidate.waits) done ∙ h.1)

pub rows-among-calls : (cs : List RowCall) → RowsAmongCalls cs
rows-among-calls cs = record {
  same = spelled-all cs started;
  order = λ bytes rows. fresh-order _ _ (came_all started cs).reader k bytes rows;
  stops = λ bytes rows. fresh-stops _ _ (came_all started cs).reader k bytes rows;
}
  where
    k : Kept (bits_taken started (spelled_all started cs)) (handed_out started (spelled_all started cs)) (came_all started cs).reader
    k =
        subst (Kept (bits_taken started (spelled_all started cs)) (handed_out started (spelled_all started cs)))
        (sym (ap (λ (x : Came). x.reader) (spelled-all cs started))) (kept (spelled_all started cs))
