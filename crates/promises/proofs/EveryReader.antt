-- What holds of every reader, forged or not: feeding bytes is feeding them one by one, and no call leads from a state that is not refused with 5
-- to one that is. Assumes nothing.
use mathlib.Core.Path.{◌≡◌, refl, sym, ap, subst, ◌∙◌}
use mathlib.Core.Bool.{Bool, true, false, cond}
use mathlib.Core.Logic.{◌⊎◌, inl, inr}
use mathlib.Core.List.{List, [], ◌∷◌}
use Prim.Native.Nat.{ℕ, zero, suc, ◌+◌, ◌*◌, ◌≤◌, ◌<◌}
use native.Mathlib.Numerals.{one-add}
use native.Mathlib.Omega.{arith}
use lib.ListN.{length, take}
use Rattle.answer.specs.Order.{refuses, answers}
use Rattle.answer.proofs.OrderLaws.{refuses-apart}
use Rattle.bits.specs.Bits.{number}
use Rattle.line.specs.Line.{is_data, six, without}
use Rattle.frame.specs.declared.Frame.{Frame}
use Rattle.stream.specs.Standing.{stands, frame_at}
use Rattle.stream.proofs.Words.{both_right}
use Rattle.stream.proofs.Stand.{test-stands}
use Rattle.reader.specs.Cells.{room_end}
use Rattle.reader.specs.Reading.{candidate_bits, bits_of, past, frame_waits, moved_to, step_cells, step_to, stepped_by, fed_by}
use Rattle.reader.specs.Reading.{Run, run_to, fed_all_by, end_to, take_to, says_answer, says_next, says_fed_all, says_taken}
use Rattle.reader.specs.declared.Candidate.{Candidate}
use Rattle.reader.specs.declared.Reader.{Reader}
use Rattle.reader.specs.declared.Answer.TheVariants.{Done, Refused}
use Rattle.reader.specs.declared.Next.{Next}
use Rattle.reader.specs.declared.FedAll.{FedAll}
use Rattle.reader.specs.declared.Taken.{Taken}
use Rattle.reader.proofs.Accepted.{Accepted, to-accepted, from-accepted, left_le, length-step, step-top, step-low, accepted-step, accepted-end, accepted-take}
use Rattle.reader.proofs.Buffer.{length-held}
use Rattle.reader.proofs.Running.{run-waits, run_on, run-over}
use Rattle.promises.specs.Calls.{feeds, feeds_all, ends, takes, after}
use Rattle.promises.specs.Demand3.{feed_each, FeedAllIsFeed, NextIsAccepted, Handed, TakesOnlyFrames}
use Rattle.promises.proofs.CarriesItsNumber.{says-inj}
use Rattle.promises.proofs.Runs.{not_done, says-done, says-refused, going, given, fed_by_lem, all-by, ended_by_lem, taken-by}

-- ---- a run over bytes

record RunFeeds (cells : List ℕ) (c : Candidate) (bs : List ℕ) (x : Run) : Type 0 where
  reader : going x.cells x.candidate ≡ feed_each (going cells c) (take x.used bs)
  passed : x.passed ≡ without (take x.used bs)
  all : (x.used ≡ length bs) ⊎ (x.candidate.waits ≡ true)
  accepted : Accepted x.candidate
  held : x.candidate.held ≤ c.held + 6 * x.used
  free : (k : ℕ) → k < x.used → (feed_each (going cells c) (take k bs)).candidate.waits ≡ false

-- one byte more was fed while no frame waited
free-first : (r : Reader) (b : ℕ) (bs : List ℕ) (next : Reader) → (fed_by r b).reader ≡ next → r.candidate.waits ≡ false
    → (u : ℕ) → ((k : ℕ) → k < u → (feed_each next (take k bs)).candidate.waits ≡ false) → (k : ℕ) → k < 1 + u
    → (feed_each r (take k (b ∷ bs))).candidate.waits ≡ false
unfolding feed_each
free-first r b bs next e w u later zero h = w
free-first r b bs next e w u later (suc k) h = ap (λ (t : Reader). (feed_each t (take k bs)).candidate.waits) e ∙ later k (omega arith)

-- six bits more are held at most
step-held : (cells : List ℕ) → length cells ≡ 40 → (c : Candidate) → Accepted c → c.waits ≡ false → (x : ℕ) → (step_to cells c x).held ≤ c.held + 6
unfolding step_to moved_to
step-held cells l c a w x =
    left_le (step_cells cells c x) (length-step cells l c a w x) (room_end c.end c.held + 6) (c.held + 6) (step-top cells l c a w x)
    (step-low cells l c a w x) c.words false c.tally

module _ (b : ℕ) (bs : List ℕ) (u : ℕ) where
  feed-first : (r : Reader) → feed_each r (take (1 + u) (b ∷ bs)) ≡ feed_each (fed_by r b).reader (take u bs)
  unfolding feed_each
  feed-first r = ap (λ n. feed_each r (take n (b ∷ bs))) (one-add u)

  count-first : (z : Bool) → is_data b ≡ z → without (take (1 + u) (b ∷ bs)) ≡ cond z 0 1 + without (take u bs)
  unfolding without
  count-first z e = ap (λ n. without (take n (b ∷ bs))) (one-add u) ∙ ap (λ t. cond t 0 1 + without (take u bs)) e

run-feeds : (bs : List ℕ) (cells : List ℕ) → length cells ≡ 40 → (c : Candidate) → Accepted c → RunFeeds cells c bs (run_to cells c bs)
run-feeds [] cells l c a =
    unfold run_to feed_each without in
    record { reader = refl; passed = refl; all = inl refl; accepted = a; held = omega arith; free = λ k h. absurd (omega arith) }
run-feeds (b ∷ bs) cells l c a =
    go c.waits refl (is_data b) refl
    (λ w. run-feeds bs (step_cells cells c (number (six b))) (length-step cells l c a w (number (six b))) (step_to cells c (number (six b)))
    (accepted-step cells l c a w (number (six b))))
    (run-feeds bs cells l c a)
  where
    x : Run
    x = run_to (step_cells cells c (number (six b))) (step_to cells c (number (six b))) bs

    one : (u : ℕ) (f : Bool) → (u ≡ length bs) ⊎ (f ≡ true) → (1 + u ≡ length (b ∷ bs)) ⊎ (f ≡ true)
    one u f (inl e) = inl (omega arith)
    one u f (inr e) = inr e

    fed : (z : Bool) → is_data b ≡ z → c.waits ≡ false → (fed_by (going cells c) b).reader ≡ cond z (stepped_by (going cells c) b) (going cells c)
    fed true d w = ap (λ (f : Next). f.reader) (fed_by_lem (going cells c) false false false (from-accepted c a) refl w b true d)
    fed false d w = ap (λ (f : Next). f.reader) (fed_by_lem (going cells c) false false false (from-accepted c a) refl w b false d)

    fed-on : is_data b ≡ true → c.waits ≡ false → (fed_by (going cells c) b).reader ≡ going (step_cells cells c (number (six b))) (step_to cells c (number (six b)))
    fed-on d w = unfold stepped_by in fed true d w

    go : (y : Bool) → c.waits ≡ y → (z : Bool) → is_data b ≡ z
        → (c.waits ≡ false → RunFeeds (step_cells cells c (number (six b))) (step_to cells c (number (six b))) bs x)
        → RunFeeds cells c bs (run_to cells c bs) → RunFeeds cells c (b ∷ bs) (run_to cells c (b ∷ bs))
    go true w z d on over =
        subst (RunFeeds cells c (b ∷ bs)) (sym (run-waits cells c (b ∷ bs) w))
        (unfold feed_each without in record {
          reader = refl;
          passed = refl;
          all = inr w;
          accepted = a;
          held = omega arith;
          free = λ k h. absurd (omega arith);
        })
    go false w true d on over = subst (RunFeeds cells c (b ∷ bs)) (sym (run_on cells c b bs w d)) (record {
      reader = (on w).reader ∙ sym (feed-first b bs x.used (going cells c) ∙ ap (λ r. feed_each r (take x.used bs)) (fed-on d w));
      passed = ap (λ n. 0 + n) (on w).passed ∙ sym (count-first b bs x.used true d);
      all = one x.used x.candidate.waits (on w).all;
      accepted = (on w).accepted;
      held = omega (arith, (on w).held, step-held cells l c a w (number (six b)));
      free =
          free-first (going cells c) b bs (going (step_cells cells c (number (six b))) (step_to cells c (number (six b)))) (fed-on d w) w x.used (on w).free;
    })
    go false w false d on over = subst (RunFeeds cells c (b ∷ bs)) (sym (run-over cells c b bs w d)) (record {
      reader =
          over.reader ∙ sym (feed-first b bs (run_to cells c bs).used (going cells c)
          ∙ ap (λ r. feed_each r (take (run_to cells c bs).used bs)) (fed false d w));
      passed = ap (λ n. 1 + n) over.passed ∙ sym (count-first b bs (run_to cells c bs).used false d);
      all = one (run_to cells c bs).used (run_to cells c bs).candidate.waits over.all;
      accepted = over.accepted;
      held = omega (arith, over.held);
      free = free-first (going cells c) b bs (going cells c) (fed false d w) w (run_to cells c bs).used over.free;
    })

-- ---- FEEDING BYTES IS FEEDING THEM ONE BY ONE

-- what comes with the answer, refused or not
pub record FedParts (r : Reader) (bs : List ℕ) (f : FedAll) : Type 0 where
  pub reader : f.reader ≡ feed_each r (take f.used bs)
  pub passed : f.passed ≡ without (take f.used bs)
  pub all : f.answer ≡ Done → (f.used ≡ length bs) ⊎ (f.reader.candidate.waits ≡ true)
  pub stays : (n : ℕ) → f.answer ≡ Refused n → (f.reader ≡ r) × ((b : ℕ) → says_next (fed_by r b) ≡ refuses n)
  pub free : (k : ℕ) → k < f.used → (feed_each r (take k bs)).candidate.waits ≡ false
  pub ended : f.reader.ended ≡ r.ended
  pub held : f.reader.candidate.held ≤ r.candidate.held + 6 * f.used

pub fed-parts : (r : Reader) (bs : List ℕ) → length r.cells ≡ 40 → FedParts r bs (fed_all_by r bs)
fed-parts r bs l = go (past r) refl r.ended refl r.candidate.waits refl
  where
    none : (n : ℕ) → ((b : ℕ) → says_next (fed_by r b) ≡ refuses n) → FedParts r bs (record { answer = Refused n; used = 0; passed = 0; reader = r })
    none n each = unfold feed_each without in record {
      reader = refl;
      passed = refl;
      all = λ e. not_done n e;
      stays = λ m e. (refl, λ b. each b ∙ ap says_answer e);
      free = λ k h. absurd (omega arith);
      ended = refl;
      held = omega arith;
    }

    x : Run
    x = run_to r.cells r.candidate bs

    go : (p : Bool) → past r ≡ p → (e : Bool) → r.ended ≡ e → (y : Bool) → r.candidate.waits ≡ y → FedParts r bs (fed_all_by r bs)
    go true ep e ex y ey =
        subst (FedParts r bs) (sym (all-by r true e y ep ex ey bs)) (none 5 (λ b. ap says_next (fed_by_lem r true e y ep ex ey b (is_data b) refl)))
    go false ep true ex y ey =
        subst (FedParts r bs) (sym (all-by r false true y ep ex ey bs)) (none 3 (λ b. ap says_next (fed_by_lem r false true y ep ex ey b (is_data b) refl)))
    go false ep false ex true ey =
        subst (FedParts r bs) (sym (all-by r false false true ep ex ey bs)) (none 2 (λ b. ap says_next (fed_by_lem r false false true ep ex ey b (is_data b) refl)))
    go false ep false ex false ey =
        let f = run-feeds bs r.cells l r.candidate (to-accepted r.candidate ep) in
        subst (FedParts r bs) (sym (all-by r false false false ep ex ey bs)) (record {
          reader = ap (λ e. record { cells = x.cells; candidate = x.candidate; ended = e }) ex ∙ f.reader
              ∙ ap (λ e. feed_each (record { cells = r.cells; candidate = r.candidate; ended = e }) (take x.used bs)) (sym ex);
          passed = f.passed;
          all = λ _. f.all;
          stays = λ n e. not_done n (sym e);
          free = λ k h. ap (λ e. (feed_each (record { cells = r.cells; candidate = r.candidate; ended = e }) (take k bs)).candidate.waits) ex ∙ f.free k h;
          ended = refl;
          held = f.held;
        })

pub feed-all-is-feed : (r : Reader) (bs : List ℕ) → FeedAllIsFeed r bs
feed-all-is-feed r bs l = record {
  refused = λ n e. q.stays n (says-refused _ n (fed_all_by r bs).answer e);
  reader = λ u p e. q.reader ∙ ap (λ k. feed_each r (take k bs)) (used-is u p e);
  free = λ u p e k h. q.free k (subst (λ n. k < n) (sym (used-is u p e)) h);
  passed = λ u p e. sym (passed_is u p e) ∙ q.passed ∙ ap (λ k. without (take k bs)) (used-is u p e);
  all = λ u p e. subst (λ k. (k ≡ length bs) ⊎ ((fed_all_by r bs).reader.candidate.waits ≡ true)) (used-is u p e) (q.all (says u p e).0);
}
  where
    q : FedParts r bs (fed_all_by r bs)
    q = fed-parts r bs l

    says : (u p : ℕ) → says_fed_all (fed_all_by r bs) ≡ answers (u, p)
        → ((fed_all_by r bs).answer ≡ Done) × (◌≡◌ {A = ℕ × ℕ} ((fed_all_by r bs).used, (fed_all_by r bs).passed) (u, p))
    says u p e = says-done ((fed_all_by r bs).used, (fed_all_by r bs).passed) (u, p) (fed_all_by r bs).answer e

    used-is : (u p : ℕ) → says_fed_all (fed_all_by r bs) ≡ answers (u, p) → (fed_all_by r bs).used ≡ u
    used-is u p e = ap (λ (v : ℕ × ℕ). v.0) (says u p e).1

    passed_is : (u p : ℕ) → says_fed_all (fed_all_by r bs) ≡ answers (u, p) → (fed_all_by r bs).passed ≡ p
    passed_is u p e = ap (λ (v : ℕ × ℕ). v.1) (says u p e).1

-- ---- THE NEXT STATE of one that is not refused with 5 is not either

pub next-is-accepted : (r : Reader) → NextIsAccepted r
next-is-accepted r l p (feeds b) = go r.ended refl r.candidate.waits refl (is_data b) refl
  where
    a : Accepted r.candidate
    a = to-accepted r.candidate p

    P : Next → Type 0
    P f = past f.reader ≡ false

    go : (x : Bool) → r.ended ≡ x → (y : Bool) → r.candidate.waits ≡ y → (z : Bool) → is_data b ≡ z → past (after r (feeds b)) ≡ false
    go true ex y ey z ez = unfold after in subst P (sym (fed_by_lem r false true y p ex ey b z ez)) p
    go false ex true ey z ez = unfold after in subst P (sym (fed_by_lem r false false true p ex ey b z ez)) p
    go false ex false ey false ez = unfold after in subst P (sym (fed_by_lem r false false false p ex ey b false ez)) p
    go false ex false ey true ez =
        unfold after in subst P (sym (fed_by_lem r false false false p ex ey b true ez))
        (unfold stepped_by in from-accepted (step_to r.cells r.candidate (number (six b)))
        (accepted-step r.cells l r.candidate a ey (number (six b))))
next-is-accepted r l p (feeds_all bs) = go r.ended refl r.candidate.waits refl
  where
    P : FedAll → Type 0
    P f = past f.reader ≡ false

    go : (x : Bool) → r.ended ≡ x → (y : Bool) → r.candidate.waits ≡ y → past (after r (feeds_all bs)) ≡ false
    go true ex y ey = unfold after in subst P (sym (all-by r false true y p ex ey bs)) p
    go false ex true ey = unfold after in subst P (sym (all-by r false false true p ex ey bs)) p
    go false ex false ey =
        unfold after in subst P (sym (all-by r false false false p ex ey bs))
        (from-accepted (run_to r.cells r.candidate bs).candidate (run-feeds bs r.cells l r.candidate (to-accepted r.candidate p)).accepted)
next-is-accepted r l p ends = go r.ended refl r.candidate.waits refl
  where
    P : Next → Type 0
    P f = past f.reader ≡ false

    go : (x : Bool) → r.ended ≡ x → (y : Bool) → r.candidate.waits ≡ y → past (after r ends) ≡ false
    go true ex y ey = unfold after in subst P (sym (ended_by_lem r false true y p ex ey)) p
    go false ex true ey = unfold after in subst P (sym (ended_by_lem r false false true p ex ey)) p
    go false ex false ey =
        unfold after in subst P (sym (ended_by_lem r false false false p ex ey))
        (from-accepted (end_to r.cells r.candidate) (accepted-end r.cells l r.candidate (to-accepted r.candidate p)))
next-is-accepted r l p takes = go (frame_waits r) refl
  where
    P : Taken → Type 0
    P f = past f.reader ≡ false

    go : (y : Bool) → frame_waits r ≡ y → past (after r takes) ≡ false
    go false ey = unfold after in subst P (sym (taken-by r false false p ey)) p
    go true ey =
        unfold after in subst P (sym (taken-by r false true p ey))
        (unfold given in from-accepted (take_to r.cells r.candidate r.ended)
        (accepted-take r.cells l r.candidate (to-accepted r.candidate p) r.ended))

-- ---- WHAT TAKING HANDS OUT stands in the bits held, whatever the state claims

pub takes-only-frames : (r : Reader) → TakesOnlyFrames r
takes-only-frames r l at f e = go (past r) refl (frame_waits r) refl
  where
    go : (u : Bool) → past r ≡ u → (y : Bool) → frame_waits r ≡ y → Handed r at f
    go true eu y ey = absurd (refuses-apart 5 (at, f) (sym (ap says_taken (taken-by r true y eu ey)) ∙ e))
    go false eu false ey = absurd (refuses-apart 4 (at, f) (sym (ap says_taken (taken-by r false false eu ey)) ∙ e))
    go false eu true ey = record {
      long = unfold candidate_bits in length-held r.cells r.candidate.end r.candidate.held l a.top a.low;
      stands = unfold frame_waits in test-stands (bits_of r) (both_right r.candidate.waits (stands (bits_of r)) ey);
      frame = sym (ap (λ (v : ℕ × Frame). v.1) same);
      place = sym (ap (λ (v : ℕ × Frame). v.0) same);
    }
      where
        a : Accepted r.candidate
        a = to-accepted r.candidate eu

        same : ◌≡◌ {A = ℕ × Frame} (r.candidate.at, frame_at (bits_of r)) (at, f)
        same = says-inj (sym (ap says_taken (taken-by r false true eu ey) ∙ (unfold given in refl)) ∙ e)
