-- A caller who takes every waiting frame at once: after 16 takings none waits, and all bits of the bytes are taken. Assumes nothing.
use mathlib.Core.Path.{◌≡◌, refl, sym, ap, ap₂, subst, ◌∙◌}
use mathlib.Core.Bool.{Bool, true, false, cond}
use mathlib.Core.Logic.{inl, inr}
use mathlib.Core.List.{List, [], ◌∷◌, ◌++◌, Memᴰ, append-nil, append_assoc}
use Prim.Native.Nat.{ℕ, zero, suc, ◌+◌, ◌-◌, ◌*◌, ◌≤◌, ◌<◌}
use native.Mathlib.Omega.{arith}
use lib.ListN.{drop, replicate}
use Rattle.bits.specs.Bits.{number}
use Rattle.bits.proofs.Numbers.{bits-number}
use Rattle.line.specs.Line.{is_data, six, line_bits}
use Rattle.line.proofs.LineLaws.{length-six, six-lt}
use Rattle.frame.specs.declared.Frame.{Frame}
use Rattle.stream.specs.Standing.{size, Stands, Placed, placed, scan}
use Rattle.stream.specs.Verdict.{RightSoFar, Hunted, hunt}
use Rattle.stream.specs.Places.{FoundOrCovered}
use Rattle.stream.proofs.Scanning.{only, complete}
use Rattle.stream.proofs.Verdicts.{so-far-append}
use Rattle.stream.proofs.Hunting.{Idle, Hunts, hunts}
use Rattle.reader.specs.Cells.{held_bits, room_end}
use Rattle.reader.specs.Reading.{candidate_bits, bits_of, past, frame_waits, moved_to, step_cells, step_to, stepped_by, fed_by, take_to, taken_by, says_next}
use Rattle.reader.specs.declared.Candidate.{Candidate}
use Rattle.reader.specs.declared.Reader.{Reader}
use Rattle.reader.specs.declared.Answer.TheVariants.{Done, Refused}
use Rattle.reader.specs.declared.Next.{Next}
use Rattle.reader.specs.declared.Taken.{Taken}
use Rattle.reader.proofs.Accepted.{room-all, left_le, rest-bits, length-step, step-top, step-low, step-bits}
use Rattle.promises.specs.Calls.{Call, feeds, takes, replied, reply_to, after, bits_given, after_all, bits_taken, takes_all, served}
use Rattle.promises.specs.Demand3.{RuledOutTo}
use Rattle.promises.proofs.Kept.{Kept, held-long}
use Rattle.promises.proofs.Runs.{fed_by_lem, given, taken-by, sound-taken, kept-sound, never-past, kept-call, kept-calls}

-- ---- one list of calls after another

pub after-append : (cs ds : List Call) (r : Reader) → after_all r (cs ++ ds) ≡ after_all (after_all r cs) ds
unfolding after_all
after-append [] ds r = refl
after-append (c ∷ cs) ds r = after-append cs ds (after r c)

pub bits-append : (cs ds : List Call) (r : Reader) → bits_taken r (cs ++ ds) ≡ bits_taken r cs ++ bits_taken (after_all r cs) ds
unfolding after_all bits_taken
bits-append [] ds r = refl
bits-append (c ∷ cs) ds r =
    ap (λ l. bits_given c (reply_to r c) ++ l) (bits-append cs ds (after r c))
    ∙ sym (append_assoc (bits_given c (reply_to r c)) (bits_taken (after r c) cs) (bits_taken (after_all (after r c) cs) ds))

-- ---- takings

pub takes-no-bit : (n : ℕ) (r : Reader) → bits_taken r (replicate n takes) ≡ []
unfolding bits_taken bits_given
takes-no-bit zero r = refl
takes-no-bit (suc n) r = takes-no-bit n (after r takes)

pub take_ended : (r : Reader) → (taken_by r).reader.ended ≡ r.ended
take_ended r = go (past r) refl (frame_waits r) refl
  where
    go : (p : Bool) → past r ≡ p → (y : Bool) → frame_waits r ≡ y → (taken_by r).reader.ended ≡ r.ended
    go true ep y ey = ap (λ (t : Taken). t.reader.ended) (taken-by r true y ep ey)
    go false ep false ey = ap (λ (t : Taken). t.reader.ended) (taken-by r false false ep ey)
    go false ep true ey = unfold given in ap (λ (t : Taken). t.reader.ended) (taken-by r false true ep ey)

pub takes-ended : (n : ℕ) (r : Reader) → (after_all r (replicate n takes)).ended ≡ r.ended
unfolding after_all after
takes-ended zero r = refl
takes-ended (suc n) r = takes-ended n (after r takes) ∙ take_ended r

-- where none waits, taking changes nothing
idle-take : (s : List Bool) (out : List (ℕ × Frame)) (r : Reader) → Kept s out r → r.candidate.waits ≡ false → after r takes ≡ r
unfolding after
idle-take s out r k w = ap (λ (t : Taken). t.reader) (sound-taken r (kept-sound s out r k) false w)

-- a frame has at least 60 bits
pub fewer : (s : List Bool) (out : List (ℕ × Frame)) (r : Reader) → Kept s out r → r.candidate.waits ≡ true
    → (after r takes).candidate.held + 60 ≤ r.candidate.held
fewer s out r k w = subst (λ (t : Reader). t.candidate.held + 60 ≤ r.candidate.held) (sym is) less
  where
    is : after r takes ≡ (given r).reader
    is = unfold after in ap (λ (t : Taken). t.reader) (sound-taken r (kept-sound s out r k) true w)

    n : ℕ
    n = r.candidate.held - 30 * size (bits_of r)

    less : (given r).reader.candidate.held + 60 ≤ r.candidate.held
    less =
        unfold given take_to moved_to in
        omega (
          arith,
          left_le r.cells k.len r.candidate.end (r.candidate.held - 30 * size (bits_of r)) k.accepted.top
              (omega (arith, k.accepted.low)) 0 r.ended r.candidate.tally,
          (k.found w).taken,
          held-long r k.len k.accepted,
        )

pub drained : (n : ℕ) (s : List Bool) (out : List (ℕ × Frame)) (r : Reader) → Kept s out r → r.candidate.held < 62 + 60 * n
    → (after_all r (replicate n takes)).candidate.waits ≡ false
unfolding after_all
drained zero s out r k h = go r.candidate.waits refl
  where
    go : (y : Bool) → r.candidate.waits ≡ y → y ≡ false
    go true w = absurd (omega (arith, (k.found w).taken, held-long r k.len k.accepted))
    go false w = refl
drained (suc n) s out r k h = go r.candidate.waits refl (λ l. drained n _ _ (after r takes) (kept-call s out r takes k) l)
  where
    still : (m : ℕ) (q : Reader) → q ≡ r → r.candidate.waits ≡ false → (after_all q (replicate m takes)).candidate.waits ≡ false
    still zero q e w = unfold after_all in ap (λ (t : Reader). t.candidate.waits) e ∙ w
    still (suc m) q e w = unfold after_all in still m (after q takes) (ap (λ t. after t takes) e ∙ idle-take s out r k w) w

    go : (y : Bool) → r.candidate.waits ≡ y
        → ((after r takes).candidate.held < 62 + 60 * n → (after_all (after r takes) (replicate n takes)).candidate.waits ≡ false)
        → (after_all (after r takes) (replicate n takes)).candidate.waits ≡ false
    go false w next = still n (after r takes) (idle-take s out r k w) w
    go true w next = next (omega (arith, fewer s out r k w))

-- every waiting frame taken
pub none-waits : (s : List Bool) (out : List (ℕ × Frame)) (r : Reader) → Kept s out r → (after_all r takes_all).candidate.waits ≡ false
none-waits s out r k = drained 16 s out r k (omega (arith, room-all r.candidate k.accepted))

-- ---- a byte fed, and every waiting frame taken

-- no frame stands behind the hunt, whatever comes
none-behind : (d : List Bool) (x : Hunted) (h : Hunts false d x) (j : ℕ) → j < h.gone → (e : List Bool) → Stands (drop j (d ++ e)) → ⊥
unfolding placed
none-behind d x h j l e s = go (subst (FoundOrCovered (placed (2 + j) (drop j (d ++ e)))) (h.scanned 2 e tt) (complete 0 2 j (d ++ e) (omega arith) s))
  where
    later : (f : Placed) → Memᴰ f (scan 0 (2 + h.gone) (x.rest ++ e)) → 2 + h.gone ≤ f.at
    later f m = let u = only 0 (2 + h.gone) (x.rest ++ e) f m in omega (arith, ap (λ (y : Placed). y.at) u.is)

    go : FoundOrCovered (placed (2 + j) (drop j (d ++ e))) (scan 0 (2 + h.gone) (x.rest ++ e)) → ⊥
    go (inl m) = omega (arith, later (placed (2 + j) (drop j (d ++ e))) m)
    go (inr c) = omega (arith, later c.by c.there, c.before)

module _ (s : List Bool) (out : List (ℕ × Frame)) (r : Reader) (k : Kept s out r) (e : r.ended ≡ false) (w : r.candidate.waits ≡ false) (b : ℕ) where
  fed : (z : Bool) → is_data b ≡ z → fed_by r b ≡ cond z (record { answer = Done; reader = stepped_by r b }) (record { answer = Refused 1; reader = r })
  fed true d = fed_by_lem r false false false (never-past s out r k) e w b true d
  fed false d = fed_by_lem r false false false (never-past s out r k) e w b false d

  -- a data byte gives its six bits, any other none
  pub byte-bits : bits_given (feeds b) (reply_to r (feeds b)) ≡ cond (is_data b) (six b) []
  unfolding reply_to bits_given
  byte-bits = go (is_data b) refl
    where
      go : (z : Bool) → is_data b ≡ z → bits_given (feeds b) (replied (says_next (fed_by r b))) ≡ cond z (six b) []
      go true d = ap (λ (f : Next). bits_given (feeds b) (replied (says_next f))) (fed true d)
      go false d = ap (λ (f : Next). bits_given (feeds b) (replied (says_next f))) (fed false d)

  pub byte-goes : (after r (feeds b)).ended ≡ false
  unfolding after
  byte-goes = go (is_data b) refl
    where
      go : (z : Bool) → is_data b ≡ z → (fed_by r b).reader.ended ≡ false
      go true d = unfold stepped_by in ap (λ (f : Next). f.reader.ended) (fed true d) ∙ e
      go false d = ap (λ (f : Next). f.reader.ended) (fed false d) ∙ e

  -- the reader then holds its bits and the six of a data byte after them, less those of positions that are now ruled out
  pub byte-held : is_data b ≡ true → RuledOutTo (bits_of r ++ six b) (bits_of (after r (feeds b)))
  byte-held d = record { gone = h.gone; is = first ∙ held; none = λ j l y s. none-behind _ _ h j l y (subst (λ z. Stands (drop j (z ++ y))) (sym is) s) }
    where
      first : bits_of (after r (feeds b)) ≡ bits_of (stepped_by r b)
      first = unfold after in ap (λ (f : Next). bits_of f.reader) (fed true d)

      c : Candidate
      c = r.candidate

      x : ℕ
      x = number (six b)

      end : ℕ
      end = room_end c.end c.held + 6

      is : held_bits (step_cells r.cells c x) end (c.held + 6) ≡ bits_of r ++ six b
      is = step-bits r.cells k.len c k.accepted w x (six-lt b) ∙ ap (λ l. bits_of r ++ l) (bits-number 6 (six b) (length-six b))

      quiet : Idle false c.words (bits_of r)
      quiet = rw e at (k.idle w)

      h : Hunts false (held_bits (step_cells r.cells c x) end (c.held + 6)) (hunt false c.words (held_bits (step_cells r.cells c x) end (c.held + 6)))
      h = hunts false c.words _ (subst (RightSoFar c.words) (sym is) (so-far-append c.words (bits_of r) (six b) quiet.0))

      held : bits_of (stepped_by r b) ≡ drop h.gone (bits_of r ++ six b)
      held =
          unfold stepped_by step_to moved_to candidate_bits in
          rest-bits (step_cells r.cells c x) (length-step r.cells k.len c k.accepted w x) end (c.held + 6)
          (step-top r.cells k.len c k.accepted w x) (step-low r.cells k.len c k.accepted w x) c.words false c.tally
          ∙ h.rest ∙ ap (drop h.gone) is

  next : Reader
  next = after_all (after r (feeds b)) takes_all

  next-waits : next.candidate.waits ≡ false
  unfolding next
  next-waits = none-waits _ _ (after r (feeds b)) (kept-call s out r (feeds b) k)

  next-goes : next.ended ≡ false
  unfolding next
  next-goes = takes-ended 16 (after r (feeds b)) ∙ byte-goes

  next-is : after_all r (feeds b ∷ takes_all) ≡ next
  unfolding next after_all
  next-is = refl

  next-bits : bits_taken r (feeds b ∷ takes_all) ≡ cond (is_data b) (six b) []
  next-bits = first ∙ append-nil (bits_given (feeds b) (reply_to r (feeds b))) ∙ byte-bits
    where
      first : bits_taken r (feeds b ∷ takes_all) ≡ bits_given (feeds b) (reply_to r (feeds b)) ++ []
      first = unfold bits_taken in ap (λ l. bits_given (feeds b) (reply_to r (feeds b)) ++ l) (takes-no-bit 16 (after r (feeds b)))

-- ALL BITS of the caller's bytes are taken, none waits, and the input goes on
pub record Served (r : Reader) (bs : List ℕ) : Type 0 where
  pub bits : bits_taken r (served bs) ≡ line_bits bs
  pub goes : (after_all r (served bs)).ended ≡ false
  pub none : (after_all r (served bs)).candidate.waits ≡ false

pub serves : (bs : List ℕ) (s : List Bool) (out : List (ℕ × Frame)) (r : Reader) → Kept s out r → r.ended ≡ false → r.candidate.waits ≡ false → Served r bs
serves [] s out r k e w = record { bits = unfold served bits_taken line_bits in refl; goes = unfold served after_all in e; none = unfold served after_all in w }
serves (b ∷ bs) s out r k e w =
    later (serves bs _ _ (after_all r (feeds b ∷ takes_all)) (kept-calls (feeds b ∷ takes_all) s out r k)
    (ap (λ (t : Reader). t.ended) (next-is s out r k e w b) ∙ next-goes s out r k e w b)
    (ap (λ (t : Reader). t.candidate.waits) (next-is s out r k e w b) ∙ next-waits s out r k e w b))
  where
    later : Served (after_all r (feeds b ∷ takes_all)) bs → Served r (b ∷ bs)
    later v = record {
      bits = unfold served line_bits in bits-append (feeds b ∷ takes_all) (served bs) r ∙ ap₂ ◌++◌ (next-bits s out r k e w b) v.bits;
      goes = unfold served in ap (λ (t : Reader). t.ended) (after-append (feeds b ∷ takes_all) (served bs) r) ∙ v.goes;
      none = unfold served in ap (λ (t : Reader). t.candidate.waits) (after-append (feeds b ∷ takes_all) (served bs) r) ∙ v.none;
    }
