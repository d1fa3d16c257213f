-- DEMAND 3 holds: only frames that stand, as soon as they do, each once and none lost, never 5, and nothing where a damaged frame began.
-- Assumes nothing.
use mathlib.Core.Path.{◌≡◌, refl, sym, ap, ap₂, subst, ◌∙◌}
use mathlib.Core.Bool.{Bool, true, false, cond, false≢true}
use mathlib.Core.List.Memᴰ
use mathlib.Core.List.{List, [], ◌∷◌, ◌++◌, map, append-nil, Memᴰ}
use mathlib.Core.Logic.{◌⊎◌, inl, inr}
use Prim.Native.Nat.{ℕ, ◌+◌, ◌≤◌}
use native.Mathlib.Omega.{arith}
use lib.ListN.{length, take, drop, length-map}
use lib.Seq.{take_at}
use Rattle.answer.specs.Order.{Says, refuses, answers}
use Rattle.line.specs.Line.{is_data, line_bits}
use Rattle.frame.specs.Widths.{outside}
use Rattle.frame.specs.declared.Frame.{Frame}
use Rattle.stream.specs.Standing.{Stands, Placed, placed, scan, frames_in, end_of}
use Rattle.stream.specs.Verdict.{decided}
use Rattle.stream.specs.Places.{StandsIn, FoundOrCovered, Apart}
use Rattle.stream.proofs.Verdicts.{verdict-undecided}
use Rattle.stream.proofs.Scanning.{only, complete, apart}
use Rattle.stream.proofs.Data.{frame-within}
use Rattle.stream.proofs.Prefix.{decided-undecided}
use Rattle.stream.proofs.InTime as stream
use Rattle.stream.proofs.Hunting.{MayCome, Idle}
use Rattle.stream.proofs.Damage.{damaged-nowhere}
use Rattle.reader.specs.Reading.{bits_of, started, past, frame_waits, fed_by, ended_by, stepped_by, says_next, says_fed_all, says_taken}
use Rattle.reader.specs.declared.Reader.{Reader}
use Rattle.reader.specs.declared.Answer.TheVariants.{Done}
use Rattle.reader.specs.declared.Next.{Next}
use Rattle.reader.specs.declared.FedAll.{FedAll}
use Rattle.reader.specs.declared.Taken.{Taken}
use Rattle.promises.specs.Calls.{Call, feeds, feeds_all, ends, takes, Reply, replied, used, took, answer_of, reply_to}
use Rattle.promises.specs.Calls.{after, bits_given, after_all, replies, bits_taken, handed_out, outcome, reported, takes_all, served}
use Rattle.promises.specs.Demand3.{found, OnlyFrames, AsSoonAs, NothingLost, HandedOut, OneByOne, NeverFive, DamageBeginsNothing}
use Rattle.promises.proofs.Kept.{Kept, kept-started}
use Rattle.promises.proofs.Runs.{given, fed_by_lem, all-by, ended_by_lem, taken-by, never-past, kept-call, kept}
use Rattle.promises.proofs.Serving.{after-append, bits-append, takes-no-bit, takes-ended, none-waits, byte-held, Served, serves}

-- ---- what was handed out is the first frames of the scan

pub none-comes : (t : Bool) → MayCome t []
none-comes false = tt
none-comes true = refl

-- the first of frames that are apart are apart
front : (l : List Placed) (p : ℕ) (m : List Placed) → Apart p (l ++ m) → Apart p l
front [] p m a = tt
front (h ∷ l) p m a = (a.0, front l (end_of h) m a.1)

module _ (cs : List Call) where
  abbrev k : Kept (bits_taken started cs) (handed_out started cs) (after_all started cs)
  k = kept cs

  scanned : frames_in (bits_taken started cs) ≡ k.hits ++ scan 0 (2 + k.gone) (bits_of (after_all started cs))
  scanned =
      ap frames_in (sym (append-nil (bits_taken started cs))) ∙ k.stage.scanned [] (none-comes (after_all started cs).ended)
      ∙ ap (λ l. k.hits ++ scan 0 (2 + k.gone) l) (append-nil (bits_of (after_all started cs)))

  found-is : found (outcome cs) ≡ k.hits
  unfolding found
  found-is =
      ap (λ l. take (length (handed_out started cs)) l) scanned
      ∙ take_at k.hits (scan 0 (2 + k.gone) (bits_of (after_all started cs))) (length (handed_out started cs))
      (sym (ap length k.given ∙ length-map k.hits reported))

  stood : (h : Placed) → Memᴰ h (found (outcome cs)) → StandsIn 2 (bits_taken started cs) h
  stood h m =
      only 0 2 (bits_taken started cs) h
      (subst (Memᴰ h) (sym scanned) (Memᴰ.append_left (scan 0 (2 + k.gone) (bits_of (after_all started cs))) (subst (Memᴰ h) found-is m)))

  -- "Only frames by the definition are ever handed out"
  pub only-frames : OnlyFrames (outcome cs)
  only-frames = record {
    given = k.given ∙ ap (map reported) (sym found-is);
    stand = stood;
    within = λ h m. ap (λ (x : Placed). outside x.frame) (stood h m).is ∙ (unfold placed in frame-within (drop (stood h m).off (bits_taken started cs)));
    once = subst (Apart 2) (sym found-is) (front k.hits 2 _ (subst (Apart 2) scanned (apart 0 2 (bits_taken started cs))));
  }

  -- "as soon as"
  pub as-soon-as : AsSoonAs (outcome cs)
  as-soon-as e = record {
    gone = k.gone;
    held = k.stage.split;
    rest = λ x. k.stage.scanned x (subst (λ t. MayCome t x) (sym e) tt) ∙ ap₂ (λ a b. a ++ scan 0 (2 + k.gone) (b ++ x)) (sym found-is) k.stage.split;
    waits = λ w. subst Stands k.stage.split (k.found w);
    hunts =
        λ w. subst (Idle false (after_all started cs).candidate.words) k.stage.split
        (subst (λ t. Idle t (after_all started cs).candidate.words (bits_of (after_all started cs))) e (k.idle w));
  }

  -- "nothing lost"
  pub nothing-lost : NothingLost (outcome cs)
  nothing-lost w = found-is ∙ go (after_all started cs).ended refl
    where
      s : List Bool
      s = bits_taken started cs

      d : List Bool
      d = bits_of (after_all started cs)

      quiet : (e : Bool) → (after_all started cs).ended ≡ e → Idle e (after_all started cs).candidate.words d
      quiet e x = subst (λ t. Idle t (after_all started cs).candidate.words d) x (k.idle w)

      go : (e : Bool) → (after_all started cs).ended ≡ e → k.hits ≡ cond e (frames_in s) (decided 0 2 s)
      go true x = sym (scanned ∙ ap (λ l. k.hits ++ scan 0 (2 + k.gone) l) (quiet true x) ∙ (unfold scan in append-nil k.hits))
      go false x =
          let q = quiet false x in
          let v = verdict-undecided (after_all started cs).candidate.words d q.0 q.1 in
          sym (ap (decided 0 2) (sym (append-nil s)) ∙ k.stage.decides x [] ∙ ap (λ l. k.hits ++ decided 0 (2 + k.gone) l) (append-nil d)
          ∙ ap (λ l. k.hits ++ l) (decided-undecided (2 + k.gone) v.0 d v.1) ∙ append-nil k.hits)

  -- "nothing begins where that frame began"
  pub damage-begins-nothing : DamageBeginsNothing (outcome cs)
  damage-begins-nothing g g' pre post e x cut h m =
      damaged-nowhere g g' pre post (bits_taken started cs) e x cut h
      (subst (Memᴰ h) (sym scanned) (Memᴰ.append_left (scan 0 (2 + k.gone) (bits_of (after_all started cs))) (subst (Memᴰ h) found-is m)))

  -- all that was handed out, where none waits
  pub out-is : (e : Bool) → (after_all started cs).ended ≡ e → (after_all started cs).candidate.waits ≡ false → (s : List Bool) → bits_taken started cs ≡ s
      → handed_out started cs ≡ map reported (cond e (frames_in s) (decided 0 2 s))
  out-is e x w s b = only-frames.given ∙ ap (map reported) (nothing-lost w ∙ ap₂ (λ t l. cond t (frames_in l) (decided 0 2 l)) x b)

-- ---- every waiting frame taken at once

module _ (cs : List Call) where
  then-none : (after_all started (cs ++ takes_all)).candidate.waits ≡ false
  then-none = ap (λ (t : Reader). t.candidate.waits) (after-append cs takes_all started) ∙ none-waits _ _ (after_all started cs) (kept cs)

  then-ended : (after_all started (cs ++ takes_all)).ended ≡ (after_all started cs).ended
  then-ended = ap (λ (t : Reader). t.ended) (after-append cs takes_all started) ∙ takes-ended 16 (after_all started cs)

  then-bits : bits_taken started (cs ++ takes_all) ≡ bits_taken started cs
  then-bits = bits-append cs takes_all started ∙ ap (λ l. bits_taken started cs ++ l) (takes-no-bit 16 (after_all started cs)) ∙ append-nil (bits_taken started cs)

  pub handed_out_lem : HandedOut (outcome cs) (outcome (cs ++ takes_all))
  handed_out_lem =
      record {
        none = then-none;
        bits = then-bits;
        out = (only-frames (cs ++ takes_all)).given;
        in-time = λ q s t. go q s (after_all started cs).ended refl t;
        once = (only-frames (cs ++ takes_all)).once;
      }
    where
      s₀ : List Bool
      s₀ = bits_taken started cs

      all : (e : Bool) → (after_all started cs).ended ≡ e → found (outcome (cs ++ takes_all)) ≡ cond e (frames_in s₀) (decided 0 2 s₀)
      all e x = nothing-lost (cs ++ takes_all) then-none ∙ ap₂ (λ t l. cond t (frames_in l) (decided 0 2 l)) (then-ended ∙ x) then-bits

      go : (q : ℕ) → Stands (drop q s₀) → (e : Bool) → (after_all started cs).ended ≡ e → (q + 992 ≤ length s₀) ⊎ ((after_all started cs).ended ≡ true)
          → FoundOrCovered (placed (2 + q) (drop q s₀)) (found (outcome (cs ++ takes_all)))
      go q s true x t = subst (FoundOrCovered (placed (2 + q) (drop q s₀))) (sym (all true x)) (complete 0 2 q s₀ (omega arith) s)
      go q s false x (inl t) = subst (FoundOrCovered (placed (2 + q) (drop q s₀))) (sym (all false x)) (stream.in-time 0 2 q s₀ (omega arith) s t)
      go q s false x (inr t) = absurd (false≢true (sym x ∙ t))

module _ (bs : List ℕ) where
  pub fresh-served : Served started bs
  fresh-served = serves bs [] [] started kept-started (unfold started in refl) (unfold started in refl)

  abbrev all : List Call
  all = served bs ++ (ends ∷ takes_all)

  r : Reader
  r = after_all started (served bs)

  last : Reader
  last = after_all (after r ends) takes_all

  last-is : after_all started all ≡ last
  unfolding last r
  last-is = after-append (served bs) (ends ∷ takes_all) started ∙ (unfold after_all in refl)

  pub last-ended : (after_all started all).ended ≡ true
  unfolding last r
  last-ended = ap (λ (t : Reader). t.ended) last-is ∙ takes-ended 16 (after (after_all started (served bs)) ends) ∙ (unfold after in over)
    where
      over : (ended_by (after_all started (served bs))).reader.ended ≡ true
      over =
          ap (λ (f : Next). f.reader.ended)
          (ended_by_lem (after_all started (served bs)) false false false (never-past _ _ _ (kept (served bs))) fresh-served.goes fresh-served.none)

  pub last_none : (after_all started all).candidate.waits ≡ false
  unfolding last r
  last_none =
      ap (λ (t : Reader). t.candidate.waits) last-is ∙ none-waits _ _ (after (after_all started (served bs)) ends) (kept-call _ _ _ ends (kept (served bs)))

  pub last-bits : bits_taken started all ≡ line_bits bs
  unfolding r
  last-bits = bits-append (served bs) (ends ∷ takes_all) started ∙ ap₂ ◌++◌ fresh-served.bits none ∙ append-nil (line_bits bs)
    where
      none : bits_taken (after_all started (served bs)) (ends ∷ takes_all) ≡ []
      none = unfold bits_taken bits_given in takes-no-bit 16 (after (after_all started (served bs)) ends)

  pub one_by_one : OneByOne bs (outcome (served bs)) (outcome all)
  one_by_one = record {
    bits = fresh-served.bits;
    out = out-is (served bs) false fresh-served.goes fresh-served.none (line_bits bs) fresh-served.bits;
    ended = out-is all true last-ended last_none (line_bits bs) last-bits;
  }

-- ---- a reader that was started fresh never refuses with 5

refused-other : {A : Type 0} (n : ℕ) → ◌≡◌ {A = Says (Unit {0})} (refuses n) (refuses 5) → (n ≡ 5 → ⊥) → A
refused-other n e f = absurd (f (let z : n ≡ 5 = cc in z))

done-other : {A : Type 0} → ◌≡◌ {A = Says (Unit {0})} (answers tt) (refuses 5) → A
done-other e = absurd (let z : ◌≡◌ {A = ℕ} 0 1 = cc in omega arith)

answer-not-5 : (r : Reader) → past r ≡ false → (c : Call) → answer_of (reply_to r c) ≡ refuses 5 → ⊥
unfolding reply_to
answer-not-5 r p (feeds b) e = go r.ended refl r.candidate.waits refl (is_data b) refl
  where
    go : (x : Bool) → r.ended ≡ x → (y : Bool) → r.candidate.waits ≡ y → (z : Bool) → is_data b ≡ z → ⊥
    go true ex y ey z ez = refused-other 3 (sym (ap says_next (fed_by_lem r false true y p ex ey b z ez)) ∙ e) (λ q. omega arith)
    go false ex true ey z ez = refused-other 2 (sym (ap says_next (fed_by_lem r false false true p ex ey b z ez)) ∙ e) (λ q. omega arith)
    go false ex false ey false ez = refused-other 1 (sym (ap says_next (fed_by_lem r false false false p ex ey b false ez)) ∙ e) (λ q. omega arith)
    go false ex false ey true ez = done-other (sym (ap says_next (fed_by_lem r false false false p ex ey b true ez)) ∙ e)
answer-not-5 r p (feeds_all bs) e = go r.ended refl r.candidate.waits refl
  where
    A : FedAll → Says (Unit {0})
    A f = answer_of (used (says_fed_all f))

    go : (x : Bool) → r.ended ≡ x → (y : Bool) → r.candidate.waits ≡ y → ⊥
    go true ex y ey = refused-other 3 (sym (ap A (all-by r false true y p ex ey bs)) ∙ e) (λ q. omega arith)
    go false ex true ey = refused-other 2 (sym (ap A (all-by r false false true p ex ey bs)) ∙ e) (λ q. omega arith)
    go false ex false ey = done-other (sym (ap A (all-by r false false false p ex ey bs)) ∙ e)
answer-not-5 r p ends e = go r.ended refl r.candidate.waits refl
  where
    go : (x : Bool) → r.ended ≡ x → (y : Bool) → r.candidate.waits ≡ y → ⊥
    go true ex y ey = refused-other 3 (sym (ap says_next (ended_by_lem r false true y p ex ey)) ∙ e) (λ q. omega arith)
    go false ex true ey = refused-other 2 (sym (ap says_next (ended_by_lem r false false true p ex ey)) ∙ e) (λ q. omega arith)
    go false ex false ey = done-other (sym (ap says_next (ended_by_lem r false false false p ex ey)) ∙ e)
answer-not-5 r p takes e = go (frame_waits r) refl
  where
    A : Taken → Says (Unit {0})
    A f = answer_of (took (says_taken f))

    go : (y : Bool) → frame_waits r ≡ y → ⊥
    go false ey = refused-other 4 (sym (ap A (taken-by r false false p ey)) ∙ e) (λ q. omega arith)
    go true ey = done-other (sym (ap A (taken-by r false true p ey) ∙ (unfold given in refl)) ∙ e)

reply-not-5 : (cs : List Call) (s : List Bool) (out : List (ℕ × Frame)) (r : Reader) → Kept s out r → (y : Reply) → Memᴰ y (replies r cs)
    → answer_of y ≡ refuses 5 → ⊥
unfolding replies
reply-not-5 [] s out r q y m e = Memᴰ.not-nil m
reply-not-5 (c ∷ cs) s out r q y m e = go (Memᴰ.cases_cons m) (λ x. reply-not-5 cs _ _ (after r c) (kept-call s out r c q) y x e)
  where
    go : (y ≡ reply_to r c) ⊎ Memᴰ y (replies (after r c) cs) → (Memᴰ y (replies (after r c) cs) → ⊥) → ⊥
    go (inl x) f = answer-not-5 r (never-past s out r q) c (ap answer_of (sym x) ∙ e)
    go (inr x) f = f x

pub never-five : (cs : List Call) → NeverFive (outcome cs) (λ b. reply_to (after_all started cs) (feeds b)) (λ b. after (after_all started cs) (feeds b))
never-five cs = record {
  none = reply-not-5 cs [] [] started kept-started;
  taken = λ b d e w. ((unfold reply_to in ap (λ (f : Next). replied (says_next f)) (fed b d e w)), byte-held _ _ (after_all started cs) (kept cs) e w b d);
}
  where
    fed : (b : ℕ) → is_data b ≡ true → (after_all started cs).ended ≡ false → (after_all started cs).candidate.waits ≡ false
        → fed_by (after_all started cs) b ≡ record { answer = Done; reader = stepped_by (after_all started cs) b }
    fed b d e w = fed_by_lem (after_all started cs) false false false (never-past _ _ _ (kept cs)) e w b true d
