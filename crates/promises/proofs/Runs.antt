-- Any calls on a fresh reader, in any order and however many were refused: `Kept` holds after each. Assumes nothing.
use mathlib.Core.Path.{◌≡◌, refl, sym, ap, subst, subst₂, ◌∙◌}
use mathlib.Core.Bool.{Bool, true, false, cond, not, ◌&&◌}
use mathlib.Core.List.{List, [], ◌∷◌, ◌++◌, append-nil, append_assoc}
use Prim.Native.Nat.{ℕ, ◌+◌}
use native.Mathlib.Numerals.{one-add}
use native.Mathlib.Omega.{arith}
use lib.ListN.{take}
use Rattle.answer.specs.Order.{Says, refuses, answers, in_order}
use Rattle.bits.specs.Bits.{number}
use Rattle.line.specs.Line.{is_data, six, line_bits}
use Rattle.frame.specs.Frames.{blank}
use Rattle.frame.specs.declared.Frame.{Frame}
use Rattle.stream.specs.Standing.{stands, frame_at}
use Rattle.stream.proofs.Stand.{stands-test}
use Rattle.reader.specs.Reading.{bits_of, started, past, frame_waits, step_cells, step_to, stepped_by, fed_by, Run, run_to, ran_by}
use Rattle.reader.specs.Reading.{fed_all_by, end_to, ended_by, take_to, taken_by, says_answer, carrying, says_next, says_fed_all, says_taken}
use Rattle.reader.specs.declared.Candidate.{Candidate}
use Rattle.reader.specs.declared.Reader.{Reader}
use Rattle.reader.specs.declared.Answer.{Answer}
use Rattle.reader.specs.declared.Answer.TheVariants.{Done, Refused}
use Rattle.reader.specs.declared.Next.{Next}
use Rattle.reader.specs.declared.FedAll.{FedAll}
use Rattle.reader.specs.declared.Taken.{Taken}
use Rattle.reader.proofs.Accepted.{from-accepted}
use Rattle.reader.proofs.Running.{run-waits, run_on, run-over}
use Rattle.promises.specs.Calls.{Call, feeds, feeds_all, ends, takes, replied, used, took}
use Rattle.promises.specs.Calls.{reply_to, after, bits_given, frame_given, after_all, bits_taken, handed_out}
use Rattle.promises.proofs.Kept.{Kept, kept-started, kept-pushed, kept-ended, kept-taken}

-- ---- what an answer says

pub not_done : {A : Type 0} (n : ℕ) → Refused n ≡ Done → A
not_done n e = absurd (let z : ◌≡◌ {A = ℕ} 0 1 = cc in omega arith)

pub says-done : {A : Type 0} (v w : A) (a : Answer) → carrying v (says_answer a) ≡ answers w → (a ≡ Done) × (v ≡ w)
says-done {A = A} v w Done e = (refl, ap value e)
  where
    value : Says A → A
    value (answers x) = x
    value (refuses n) = v
says-done v w (Refused n) e = absurd (let z : ◌≡◌ {A = ℕ} 0 1 = cc in omega arith)

pub says-refused : {A : Type 0} (v : A) (n : ℕ) (a : Answer) → carrying v (says_answer a) ≡ refuses n → a ≡ Refused n
says-refused v n Done e = absurd (let z : ◌≡◌ {A = ℕ} 0 1 = cc in omega arith)
says-refused v n (Refused m) e = ap Refused (let z : m ≡ n = cc in z)

-- ---- each call by its checks

module _ (r : Reader) (p x y : Bool) (ep : past r ≡ p) (ex : r.ended ≡ x) (ey : r.candidate.waits ≡ y) where
  pub fed_by_lem : (b : ℕ) (z : Bool) → is_data b ≡ z
      → fed_by r b ≡ in_order ((p, 5) ∷ (x, 3) ∷ (y, 2) ∷ (not z, 1) ∷ []) (λ n. record { answer = Refused n; reader = r })
      (record { answer = Done; reader = stepped_by r b })
  unfolding fed_by
  fed_by_lem b z ez =
      λ i. in_order ((ep i, 5) ∷ (ex i, 3) ∷ (ey i, 2) ∷ (not (ez i), 1) ∷ []) (λ n. record { answer = Refused n; reader = r })
      (record { answer = Done; reader = stepped_by r b })

  pub all-by : (bs : List ℕ) → fed_all_by r bs
      ≡ in_order ((p, 5) ∷ (x, 3) ∷ (y, 2) ∷ []) (λ n. record { answer = Refused n; used = 0; passed = 0; reader = r })
      (ran_by r (run_to r.cells r.candidate bs))
  unfolding fed_all_by
  all-by bs =
      λ i. in_order ((ep i, 5) ∷ (ex i, 3) ∷ (ey i, 2) ∷ []) (λ n. record { answer = Refused n; used = 0; passed = 0; reader = r })
      (ran_by r (run_to r.cells r.candidate bs))

  pub ended_by_lem : ended_by r
      ≡ in_order ((p, 5) ∷ (x, 3) ∷ (y, 2) ∷ []) (λ n. record { answer = Refused n; reader = r })
      (record { answer = Done; reader = record { cells = r.cells; candidate = end_to r.cells r.candidate; ended = true } })
  unfolding ended_by
  ended_by_lem =
      λ i. in_order ((ep i, 5) ∷ (ex i, 3) ∷ (ey i, 2) ∷ []) (λ n. record { answer = Refused n; reader = r })
      (record { answer = Done; reader = record { cells = r.cells; candidate = end_to r.cells r.candidate; ended = true } })

-- what taking gives
unfoldable pub given : Reader → Taken
given r = record {
  answer = Done;
  at = r.candidate.at;
  frame = frame_at (bits_of r);
  reader = record { cells = r.cells; candidate = take_to r.cells r.candidate r.ended; ended = r.ended };
}

pub taken-by : (r : Reader) (p y : Bool) → past r ≡ p → frame_waits r ≡ y
    → taken_by r ≡ in_order ((p, 5) ∷ (not y, 4) ∷ []) (λ n. record { answer = Refused n; at = 0; frame = blank; reader = r }) (given r)
unfolding taken_by given
taken-by r p y ep ey = λ i. in_order ((ep i, 5) ∷ (not (ey i), 4) ∷ []) (λ n. record { answer = Refused n; at = 0; frame = blank; reader = r }) (given r)

pub never-past : (s : List Bool) (out : List (ℕ × Frame)) (r : Reader) → Kept s out r → past r ≡ false
never-past s out r k = from-accepted r.candidate k.accepted

-- a reader whose counts are not past, and that says that a frame waits only where one stands
pub record Sound (r : Reader) : Type 0 where
  pub fine : past r ≡ false
  pub told : (y : Bool) → r.candidate.waits ≡ y → frame_waits r ≡ y

pub kept-sound : (s : List Bool) (out : List (ℕ × Frame)) (r : Reader) → Kept s out r → Sound r
unfolding frame_waits
kept-sound s out r k = record { fine = never-past s out r k; told = told }
  where
    told : (y : Bool) → r.candidate.waits ≡ y → (r.candidate.waits && stands (bits_of r)) ≡ y
    told false e = ap (λ t. t && stands (bits_of r)) e
    told true e = ap (λ t. t && stands (bits_of r)) e ∙ stands-test (bits_of r) (k.found e)

pub sound-taken : (r : Reader) → Sound r → (y : Bool) → r.candidate.waits ≡ y
    → taken_by r ≡ in_order ((false, 5) ∷ (not y, 4) ∷ []) (λ n. record { answer = Refused n; at = 0; frame = blank; reader = r }) (given r)
sound-taken r v y e = taken-by r false y v.fine (v.told y e)

-- ---- bytes fed

-- a reader whose input goes on
abbrev pub going : List ℕ → Candidate → Reader
going cells c = record { cells = cells; candidate = c; ended = false }

pub first-bits : (b : ℕ) (bs : List ℕ) (u : ℕ) (z : Bool) → is_data b ≡ z → line_bits (take (1 + u) (b ∷ bs)) ≡ cond z (six b) [] ++ line_bits (take u bs)
unfolding line_bits
first-bits b bs u z e = ap (λ n. line_bits (take n (b ∷ bs))) (one-add u) ∙ ap (λ t. cond t (six b) [] ++ line_bits (take u bs)) e

pub kept_run : (bs : List ℕ) (s : List Bool) (out : List (ℕ × Frame)) (cells : List ℕ) (c : Candidate) → Kept s out (going cells c)
    → Kept (s ++ line_bits (take (run_to cells c bs).used bs)) out (going (run_to cells c bs).cells (run_to cells c bs).candidate)
kept_run [] s out cells c k = unfold run_to line_bits in subst (λ l. Kept l out (going cells c)) (sym (append-nil s)) k
kept_run (b ∷ bs) s out cells c k = go c.waits refl (is_data b) refl (λ q. kept_run bs (s ++ six b) out _ _ q) (kept_run bs s out cells c k)
  where
    P : Run → Type 0
    P x = Kept (s ++ line_bits (take x.used (b ∷ bs))) out (going x.cells x.candidate)

    next : Run
    next = run_to (step_cells cells c (number (six b))) (step_to cells c (number (six b))) bs

    go : (y : Bool) → c.waits ≡ y → (z : Bool) → is_data b ≡ z
        → (Kept (s ++ six b) out (going (step_cells cells c (number (six b))) (step_to cells c (number (six b))))
        → Kept ((s ++ six b) ++ line_bits (take next.used bs)) out (going next.cells next.candidate))
        → Kept (s ++ line_bits (take (run_to cells c bs).used bs)) out (going (run_to cells c bs).cells (run_to cells c bs).candidate)
        → P (run_to cells c (b ∷ bs))
    go true w z d on over =
        subst P (sym (run-waits cells c (b ∷ bs) w)) (unfold line_bits in subst (λ l. Kept l out (going cells c)) (sym (append-nil s)) k)
    go false w true d on over =
        subst P (sym (run_on cells c b bs w d))
        (subst (λ l. Kept l out (going next.cells next.candidate))
        (append_assoc s (six b) (line_bits (take next.used bs)) ∙ ap (λ l. s ++ l) (sym (first-bits b bs next.used true d)))
        (on (unfold stepped_by in kept-pushed s out (going cells c) b k refl w)))
    go false w false d on over =
        subst P (sym (run-over cells c b bs w d))
        (subst (λ l. Kept (s ++ l) out (going (run_to cells c bs).cells (run_to cells c bs).candidate))
        (sym (first-bits b bs (run_to cells c bs).used false d)) over)

-- ---- any call

module _ (s : List Bool) (out : List (ℕ × Frame)) (r : Reader) (k : Kept s out r) where
  -- a call that gave no bit and handed out nothing
  same : Kept (s ++ []) (out ++ []) r
  same = subst₂ (λ a b. Kept a b r) (sym (append-nil s)) (sym (append-nil out)) k

  fine : past r ≡ false
  fine = never-past s out r k

  kept-fed : (b : ℕ) → Kept (s ++ bits_given (feeds b) (replied (says_next (fed_by r b)))) (out ++ []) (fed_by r b).reader
  kept-fed b = go r.ended refl r.candidate.waits refl (is_data b) refl
    where
      P : Next → Type 0
      P f = Kept (s ++ bits_given (feeds b) (replied (says_next f))) (out ++ []) f.reader

      go : (x : Bool) → r.ended ≡ x → (y : Bool) → r.candidate.waits ≡ y → (z : Bool) → is_data b ≡ z → P (fed_by r b)
      go true ex y ey z ez = subst P (sym (fed_by_lem r false true y fine ex ey b z ez)) (unfold bits_given in same)
      go false ex true ey z ez = subst P (sym (fed_by_lem r false false true fine ex ey b z ez)) (unfold bits_given in same)
      go false ex false ey false ez = subst P (sym (fed_by_lem r false false false fine ex ey b false ez)) (unfold bits_given in same)
      go false ex false ey true ez =
          subst P (sym (fed_by_lem r false false false fine ex ey b true ez))
          (unfold bits_given in subst (λ o. Kept (s ++ six b) o (stepped_by r b)) (sym (append-nil out)) (kept-pushed s out r b k ex ey))

  kept-all : (bs : List ℕ) → Kept (s ++ bits_given (feeds_all bs) (used (says_fed_all (fed_all_by r bs)))) (out ++ []) (fed_all_by r bs).reader
  kept-all bs = go r.ended refl r.candidate.waits refl
    where
      P : FedAll → Type 0
      P f = Kept (s ++ bits_given (feeds_all bs) (used (says_fed_all f))) (out ++ []) f.reader

      x : Run
      x = run_to r.cells r.candidate bs

      go : (e : Bool) → r.ended ≡ e → (y : Bool) → r.candidate.waits ≡ y → P (fed_all_by r bs)
      go true ex y ey = subst P (sym (all-by r false true y fine ex ey bs)) (unfold bits_given in same)
      go false ex true ey = subst P (sym (all-by r false false true fine ex ey bs)) (unfold bits_given in same)
      go false ex false ey =
          subst P (sym (all-by r false false false fine ex ey bs))
          (unfold bits_given in subst₂ (λ o e. Kept (s ++ line_bits (take x.used bs)) o (record { cells = x.cells; candidate = x.candidate; ended = e }))
          (sym (append-nil out)) (sym ex)
          (kept_run bs s out r.cells r.candidate (subst (λ e. Kept s out (record { cells = r.cells; candidate = r.candidate; ended = e })) ex k)))

  kept-end : Kept (s ++ []) (out ++ []) (ended_by r).reader
  kept-end = go r.ended refl r.candidate.waits refl
    where
      P : Next → Type 0
      P f = Kept (s ++ []) (out ++ []) f.reader

      go : (x : Bool) → r.ended ≡ x → (y : Bool) → r.candidate.waits ≡ y → P (ended_by r)
      go true ex y ey = subst P (sym (ended_by_lem r false true y fine ex ey)) same
      go false ex true ey = subst P (sym (ended_by_lem r false false true fine ex ey)) same
      go false ex false ey =
          subst P (sym (ended_by_lem r false false false fine ex ey))
          (subst₂ (λ a b. Kept a b (record { cells = r.cells; candidate = end_to r.cells r.candidate; ended = true })) (sym (append-nil s))
          (sym (append-nil out)) (kept-ended s out r k ex ey))

  kept-take : Kept (s ++ []) (out ++ frame_given (took (says_taken (taken_by r)))) (taken_by r).reader
  kept-take = go r.candidate.waits refl
    where
      P : Taken → Type 0
      P f = Kept (s ++ []) (out ++ frame_given (took (says_taken f))) f.reader

      go : (y : Bool) → r.candidate.waits ≡ y → P (taken_by r)
      go false ey = subst P (sym (sound-taken r (kept-sound s out r k) false ey)) (unfold frame_given in same)
      go true ey =
          subst P (sym (sound-taken r (kept-sound s out r k) true ey))
          (unfold given frame_given in subst (λ a. Kept a (out ++ ((r.candidate.at, frame_at (bits_of r)) ∷ []))
          (record { cells = r.cells; candidate = take_to r.cells r.candidate r.ended; ended = r.ended })) (sym (append-nil s))
          (kept-taken s out r k ey))

-- the bits of bytes fed are those of the ones used, where it is refused too
pub all-bits : (r : Reader) (bs : List ℕ) → bits_given (feeds_all bs) (reply_to r (feeds_all bs)) ≡ line_bits (take (fed_all_by r bs).used bs)
unfolding reply_to
all-bits r bs = go (past r) refl r.ended refl r.candidate.waits refl
  where
    P : FedAll → Type 0
    P f = bits_given (feeds_all bs) (used (says_fed_all f)) ≡ line_bits (take f.used bs)

    go : (p : Bool) → past r ≡ p → (e : Bool) → r.ended ≡ e → (y : Bool) → r.candidate.waits ≡ y → P (fed_all_by r bs)
    go true ep e ex y ey = subst P (sym (all-by r true e y ep ex ey bs)) (unfold bits_given line_bits in refl)
    go false ep true ex y ey = subst P (sym (all-by r false true y ep ex ey bs)) (unfold bits_given line_bits in refl)
    go false ep false ex true ey = subst P (sym (all-by r false false true ep ex ey bs)) (unfold bits_given line_bits in refl)
    go false ep false ex false ey = subst P (sym (all-by r false false false ep ex ey bs)) (unfold bits_given in refl)

pub kept-call : (s : List Bool) (out : List (ℕ × Frame)) (r : Reader) (c : Call) → Kept s out r
    → Kept (s ++ bits_given c (reply_to r c)) (out ++ frame_given (reply_to r c)) (after r c)
kept-call s out r (feeds b) k = unfold reply_to after frame_given in kept-fed s out r k b
kept-call s out r (feeds_all bs) k = unfold reply_to after frame_given in kept-all s out r k bs
kept-call s out r ends k = unfold reply_to after bits_given frame_given in kept-end s out r k
kept-call s out r takes k = unfold reply_to after bits_given in kept-take s out r k

-- ANY LIST OF CALLS
pub kept-calls : (cs : List Call) (s : List Bool) (out : List (ℕ × Frame)) (r : Reader) → Kept s out r
    → Kept (s ++ bits_taken r cs) (out ++ handed_out r cs) (after_all r cs)
unfolding bits_taken handed_out after_all
kept-calls [] s out r k = same s out r k
kept-calls (c ∷ cs) s out r k =
    subst₂ (λ a b. Kept a b (after_all (after r c) cs))
    (append_assoc s (bits_given c (reply_to r c)) (bits_taken (after r c) cs)) (append_assoc out (frame_given (reply_to r c)) (handed_out (after r c) cs))
    (kept-calls cs (s ++ bits_given c (reply_to r c)) (out ++ frame_given (reply_to r c)) (after r c) (kept-call s out r c k))

pub kept : (cs : List Call) → Kept (bits_taken started cs) (handed_out started cs) (after_all started cs)
kept cs = kept-calls cs [] [] started kept-started
