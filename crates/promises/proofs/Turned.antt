-- "Turning over all bits from the start changes no frame handed out": calls that bring opposite bits are answered alike, at any time, but for
-- the pair of a frame taken.
-- Assumes nothing.
use mathlib.Core.Path.{◌≡◌, refl, sym, ap, ap₂, subst, subst₂, ◌∙◌}
use mathlib.Core.Bool.{Bool, true, false, not}
use mathlib.Core.List.{List, [], ◌∷◌, map}
use Prim.Native.Nat.{ℕ, ◌+◌}
use lib.Bits.{bit_xor}
use lib.ListN.{length, replicate}
use Rattle.answer.specs.Order.{answers}
use Rattle.bits.specs.Bits.{number}
use Rattle.line.specs.Line.{is_data, six}
use Rattle.line.proofs.LineLaws.{data-turned, six-turned}
use Rattle.frame.specs.declared.Frame.{Frame}
use Rattle.stream.specs.Standing.{frame_at}
use Rattle.stream.proofs.Turning.{stands-turned, stands-back, frame-turned}
use Rattle.reader.specs.Reading.{candidate_bits, bits_of, started, past, step_cells, step_to, stepped_by, fed_by, Run}
use Rattle.reader.specs.Reading.{run_to, spent, fed_all_by, ended_by, take_to, taken_by, says_next, says_fed_all, says_taken}
use Rattle.reader.specs.declared.Candidate.{Candidate}
use Rattle.reader.specs.declared.Reader.{Reader}
use Rattle.reader.specs.declared.Next.{Next}
use Rattle.reader.specs.declared.FedAll.{FedAll}
use Rattle.reader.specs.declared.Taken.{Taken}
use Rattle.reader.proofs.Buffer.{held_none}
use Rattle.reader.proofs.Accepted.{Accepted, length-step, accepted-step}
use Rattle.reader.proofs.Running.{run-waits, run_on, run-over}
use Rattle.promises.specs.Calls.{Call, feeds, feeds_all, ends, takes, replied, used, took, reply_to, after, after_all, replies}
use Rattle.promises.specs.Demand3.{OppositeByte, OppositeBytes, no_bytes, byte-and, OppositeCalls, no-calls}
use Rattle.promises.specs.Demand3.{fed-and, all-and, end_and, take-and, turned_reply, TurnedIsSame}
use Rattle.promises.specs.Counters.{TurnedCounts}
use Rattle.promises.proofs.Kept.{Kept, kept-started}
use Rattle.promises.proofs.Runs.{given, fed_by_lem, all-by, ended_by_lem, sound-taken, kept-sound, never-past, kept-call}
use Rattle.promises.proofs.Opposed.{Opposed, step-opposed, end-opposed, take-opposed}

-- ---- bytes fed

record SameRun (x x' : Run) : Type 0 where
  used : x'.used ≡ x.used
  passed : x'.passed ≡ x.passed
  opposed : Opposed x.cells x.candidate x'.cells x'.candidate

more : (u p : ℕ) (x x' : Run) → SameRun x x' → SameRun (spent u p x) (spent u p x')
more u p x x' s = record { used = ap (λ n. u + n) s.used; passed = ap (λ n. p + n) s.passed; opposed = s.opposed }

run-opposed : {bs ds : List ℕ} → OppositeBytes bs ds
    → (cells : List ℕ) → length cells ≡ 40 → (c : Candidate) → Accepted c → (cells' : List ℕ) → length cells' ≡ 40 → (c' : Candidate) → Accepted c'
    → Opposed cells c cells' c' → SameRun (run_to cells c bs) (run_to cells' c' ds)
run-opposed no_bytes cells l c a cells' l' c' a' o = unfold run_to in record { used = refl; passed = refl; opposed = o }
run-opposed (byte-and {b = b} {c = d} {bs = bs} {cs = ds} t rest) cells l c a cells' l' c' a' o =
    go c.waits refl (is_data b) refl
    (λ w s. run-opposed rest (step_cells cells c (number (six b))) (length-step cells l c a w (number (six b))) (step_to cells c (number (six b)))
    (accepted-step cells l c a w (number (six b)))
    (step_cells cells' c' (number (six d))) (length-step cells' l' c' a' (o.waits ∙ w) (number (six d))) (step_to cells' c' (number (six d)))
    (accepted-step cells' l' c' a' (o.waits ∙ w) (number (six d))) s)
    (run-opposed rest cells l c a cells' l' c' a' o)
  where
    on : Run
    on = run_to (step_cells cells c (number (six b))) (step_to cells c (number (six b))) bs

    on' : Run
    on' = run_to (step_cells cells' c' (number (six d))) (step_to cells' c' (number (six d))) ds

    go : (y : Bool) → c.waits ≡ y → (z : Bool) → is_data b ≡ z
        → (c.waits ≡ false → Opposed (step_cells cells c (number (six b))) (step_to cells c (number (six b))) (step_cells cells' c' (number (six d)))
        (step_to cells' c' (number (six d))) → SameRun on on')
        → SameRun (run_to cells c bs) (run_to cells' c' ds) → SameRun (run_to cells c (b ∷ bs)) (run_to cells' c' (d ∷ ds))
    go true w z e next over =
        subst₂ SameRun (sym (run-waits cells c (b ∷ bs) w)) (sym (run-waits cells' c' (d ∷ ds) (o.waits ∙ w)))
        (record { used = refl; passed = refl; opposed = o })
    go false w true e next over =
        subst₂ SameRun (sym (run_on cells c b bs w e)) (sym (run_on cells' c' d ds (o.waits ∙ w) (t.both ∙ e)))
        (more 1 0 on on' (next w (step-opposed cells l c a cells' l' c' a' o w b d (t.bits e))))
    go false w false e next over =
        subst₂ SameRun (sym (run-over cells c b bs w e)) (sym (run-over cells' c' d ds (o.waits ∙ w) (t.both ∙ e)))
        (more 1 1 (run_to cells c bs) (run_to cells' c' ds) over)

-- ---- one call

record Facing (r r' : Reader) : Type 0 where
  opposed : Opposed r.cells r.candidate r'.cells r'.candidate
  ended : r'.ended ≡ r.ended

record Alike (r r' : Reader) (c d : Call) : Type 0 where
  reply : reply_to r' d ≡ turned_reply (reply_to r c)
  facing : Facing (after r c) (after r' d)

module _ (s s' : List Bool) (out out' : List (ℕ × Frame)) (r r' : Reader) (k : Kept s out r) (k' : Kept s' out' r') (f : Facing r r') where
  p : past r ≡ false
  p = never-past s out r k

  p' : past r' ≡ false
  p' = never-past s' out' r' k'

  o : Opposed r.cells r.candidate r'.cells r'.candidate
  o = f.opposed

  fed-alike : (b d : ℕ) → OppositeByte b d → Alike r r' (feeds b) (feeds d)
  fed-alike b d t = go r.ended refl r.candidate.waits refl (is_data b) refl
    where
      P : Next → Next → Type 0
      P x x' = (replied (says_next x') ≡ replied (says_next x)) × Facing x.reader x'.reader

      alike : P (fed_by r b) (fed_by r' d) → Alike r r' (feeds b) (feeds d)
      alike q = record { reply = unfold reply_to in q.0; facing = unfold after in q.1 }

      go : (x : Bool) → r.ended ≡ x → (y : Bool) → r.candidate.waits ≡ y → (z : Bool) → is_data b ≡ z → Alike r r' (feeds b) (feeds d)
      go true ex y ey z ez =
          alike (subst₂ P (sym (fed_by_lem r false true y p ex ey b z ez))
          (sym (fed_by_lem r' false true y p' (f.ended ∙ ex) (o.waits ∙ ey) d z (t.both ∙ ez))) (refl, f))
      go false ex true ey z ez =
          alike (subst₂ P (sym (fed_by_lem r false false true p ex ey b z ez))
          (sym (fed_by_lem r' false false true p' (f.ended ∙ ex) (o.waits ∙ ey) d z (t.both ∙ ez))) (refl, f))
      go false ex false ey false ez =
          alike (subst₂ P (sym (fed_by_lem r false false false p ex ey b false ez))
          (sym (fed_by_lem r' false false false p' (f.ended ∙ ex) (o.waits ∙ ey) d false (t.both ∙ ez))) (refl, f))
      go false ex false ey true ez =
          alike (subst₂ P (sym (fed_by_lem r false false false p ex ey b true ez))
          (sym (fed_by_lem r' false false false p' (f.ended ∙ ex) (o.waits ∙ ey) d true (t.both ∙ ez))) (
            refl,
            (unfold stepped_by in record {
              opposed = step-opposed r.cells k.len r.candidate k.accepted r'.cells k'.len
                  r'.candidate k'.accepted o ey b d (t.bits ez);
              ended = f.ended;
            }),
          ))

  all_alike : (bs ds : List ℕ) → OppositeBytes bs ds → Alike r r' (feeds_all bs) (feeds_all ds)
  all_alike bs ds t = go r.ended refl r.candidate.waits refl
    where
      P : FedAll → FedAll → Type 0
      P x x' = (used (says_fed_all x') ≡ used (says_fed_all x)) × Facing x.reader x'.reader

      alike : P (fed_all_by r bs) (fed_all_by r' ds) → Alike r r' (feeds_all bs) (feeds_all ds)
      alike q = record { reply = unfold reply_to in q.0; facing = unfold after in q.1 }

      same : SameRun (run_to r.cells r.candidate bs) (run_to r'.cells r'.candidate ds)
      same = run-opposed t r.cells k.len r.candidate k.accepted r'.cells k'.len r'.candidate k'.accepted o

      go : (x : Bool) → r.ended ≡ x → (y : Bool) → r.candidate.waits ≡ y → Alike r r' (feeds_all bs) (feeds_all ds)
      go true ex y ey =
          alike (subst₂ P (sym (all-by r false true y p ex ey bs)) (sym (all-by r' false true y p' (f.ended ∙ ex) (o.waits ∙ ey) ds)) (refl, f))
      go false ex true ey =
          alike (subst₂ P (sym (all-by r false false true p ex ey bs)) (sym (all-by r' false false true p' (f.ended ∙ ex) (o.waits ∙ ey) ds)) (refl, f))
      go false ex false ey =
          alike (subst₂ P (sym (all-by r false false false p ex ey bs)) (sym (all-by r' false false false p' (f.ended ∙ ex) (o.waits ∙ ey) ds))
          (ap₂ (λ u p. used (answers (u, p))) same.used same.passed, record { opposed = same.opposed; ended = f.ended }))

  end-alike : Alike r r' ends ends
  end-alike = go r.ended refl r.candidate.waits refl
    where
      P : Next → Next → Type 0
      P x x' = (replied (says_next x') ≡ replied (says_next x)) × Facing x.reader x'.reader

      alike : P (ended_by r) (ended_by r') → Alike r r' ends ends
      alike q = record { reply = unfold reply_to in q.0; facing = unfold after in q.1 }

      go : (x : Bool) → r.ended ≡ x → (y : Bool) → r.candidate.waits ≡ y → Alike r r' ends ends
      go true ex y ey =
          alike (subst₂ P (sym (ended_by_lem r false true y p ex ey)) (sym (ended_by_lem r' false true y p' (f.ended ∙ ex) (o.waits ∙ ey))) (refl, f))
      go false ex true ey =
          alike (subst₂ P (sym (ended_by_lem r false false true p ex ey)) (sym (ended_by_lem r' false false true p' (f.ended ∙ ex) (o.waits ∙ ey))) (refl, f))
      go false ex false ey =
          alike (subst₂ P (sym (ended_by_lem r false false false p ex ey)) (sym (ended_by_lem r' false false false p' (f.ended ∙ ex) (o.waits ∙ ey))) (
            refl,
            record {
              opposed = end-opposed r.cells k.len r.candidate k.accepted
                  r'.cells k'.len r'.candidate k'.accepted o;
              ended = refl;
            },
          ))

  take-alike : Alike r r' takes takes
  take-alike = go r.candidate.waits refl
    where
      P : Taken → Taken → Type 0
      P x x' = (took (says_taken x') ≡ turned_reply (took (says_taken x))) × Facing x.reader x'.reader

      alike : P (taken_by r) (taken_by r') → Alike r r' takes takes
      alike q = record { reply = unfold reply_to in q.0; facing = unfold after in q.1 }

      go : (y : Bool) → r.candidate.waits ≡ y → Alike r r' takes takes
      go false ey =
          alike (subst₂ P (sym (sound-taken r (kept-sound s out r k) false ey))
          (sym (sound-taken r' (kept-sound s' out' r' k') false (o.waits ∙ ey))) (refl, f))
      go true ey =
          alike (subst₂ P (sym (sound-taken r (kept-sound s out r k) true ey)) (sym (sound-taken r' (kept-sound s' out' r' k') true (o.waits ∙ ey)))
          (unfold given in (
            ap₂ (λ a v. took (answers (a, v))) o.at (ap frame_at o.bits ∙ frame-turned (bits_of r) (k.found ey)),
            record {
              opposed =
                  subst (λ e. Opposed r.cells (take_to r.cells r.candidate r.ended) r'.cells (take_to r'.cells r'.candidate e))
                  (sym f.ended)
                  (take-opposed r.cells k.len r.candidate k.accepted
                  r'.cells k'.len r'.candidate k'.accepted o (k.found ey) r.ended);
              ended = f.ended;
            },
          )))

-- ---- any calls

record AllAlike (r r' : Reader) (cs ds : List Call) : Type 0 where
  replies : replies r' ds ≡ map turned_reply (replies r cs)
  facing : Facing (after_all r cs) (after_all r' ds)

one_more : {r r' : Reader} {c d : Call} {cs ds : List Call} → Alike r r' c d → AllAlike (after r c) (after r' d) cs ds → AllAlike r r' (c ∷ cs) (d ∷ ds)
one_more a l = record { replies = unfold replies in ap₂ ◌∷◌ a.reply l.replies; facing = unfold after_all in l.facing }

calls-alike : {cs ds : List Call} → OppositeCalls cs ds → (s s' : List Bool) (out out' : List (ℕ × Frame)) (r r' : Reader) → Kept s out r
    → Kept s' out' r' → Facing r r'
    → AllAlike r r' cs ds
calls-alike no-calls s s' out out' r r' k k' f = record { replies = unfold replies in refl; facing = unfold after_all in f }
calls-alike (fed-and {b = b} {c = d} t rest) s s' out out' r r' k k' f =
    let a = fed-alike s s' out out' r r' k k' f b d t in
    one_more a (calls-alike rest _ _ _ _ (after r (feeds b)) (after r' (feeds d)) (kept-call s out r (feeds b) k)
    (kept-call s' out' r' (feeds d) k') a.facing)
calls-alike (all-and {bs = bs} {ds = ds} t rest) s s' out out' r r' k k' f =
    let a = all_alike s s' out out' r r' k k' f bs ds t in
    one_more a (calls-alike rest _ _ _ _ (after r (feeds_all bs)) (after r' (feeds_all ds)) (kept-call s out r (feeds_all bs) k)
    (kept-call s' out' r' (feeds_all ds) k') a.facing)
calls-alike (end_and rest) s s' out out' r r' k k' f =
    let a = end-alike s s' out out' r r' k k' f in
    one_more a (calls-alike rest _ _ _ _ (after r ends) (after r' ends) (kept-call s out r ends k) (kept-call s' out' r' ends k') a.facing)
calls-alike (take-and rest) s s' out out' r r' k k' f =
    let a = take-alike s s' out out' r r' k k' f in
    one_more a (calls-alike rest _ _ _ _ (after r takes) (after r' takes) (kept-call s out r takes k) (kept-call s' out' r' takes k') a.facing)

-- from the start
empty : bits_of started ≡ []
empty = unfold started candidate_bits in held_none (replicate 40 0) 0

from_start : (cs ds : List Call) → OppositeCalls cs ds → AllAlike started started cs ds
from_start cs ds t =
    calls-alike t [] [] [] [] started started kept-started kept-started (record {
      opposed = record { bits = empty ∙ sym (ap (map not) empty); held = refl; words = refl; at = refl; waits = refl; tally = refl };
      ended = refl;
    })

pub turned-is-same : TurnedIsSame
turned-is-same = record {
  calls = λ cs ds t. (from_start cs ds t).replies;
  stand = λ d. (stands-turned d, stands-back d);
  frame = frame-turned;
}

-- and as many positions are counted
pub turned-counts : TurnedCounts
turned-counts cs ds t = (from_start cs ds t).facing.opposed.tally

-- a byte and the same with its six low bits turned over
pub turned-byte : (b : ℕ) → OppositeByte b (bit_xor b 63)
turned-byte b = record { both = data-turned b; bits = λ d. six-turned b }
