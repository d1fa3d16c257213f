-- The hunt is the scan: it passes over nothing that stands, whatever comes later, and stops at a frame that stands or at a word that has not
-- come. Assumes nothing.
use mathlib.Core.Path.{◌≡◌, refl, sym, ap, ap₂, ◌∙◌}
use mathlib.Core.Bool.{Bool, true, false, not}
use mathlib.Core.List.{List, [], ◌∷◌, ◌++◌, map, append-nil, append_assoc}
use Prim.Native.Nat.{ℕ, suc, ◌+◌, ◌-◌, ◌*◌, ◌≤◌, ◌<◌}
use native.Mathlib.Nat.{add-suc, add-zero, zero-add, suc-add}
use native.Mathlib.Omega.{arith}
use lib.ListN.{length, drop}
use Rattle.stream.specs.Standing.{word_at, Stands, scan}
use Rattle.stream.specs.Verdict.{RuledOut, RightSoFar, WrongAt, Verdict, out, standing, undecided, verdict_from, decided}
use Rattle.stream.specs.Verdict.{Fault, fault_of, Hunted, with_fault, stopped, hunt_by, hunt}
use Rattle.stream.specs.Faults.{faults}
use Rattle.stream.proofs.Words.{unlike, n-lt, word-append}
use Rattle.stream.proofs.Verdicts.{none_so_far, Judged, is-out, is-standing, is-undecided, judge, Came, out-came}
use Rattle.stream.proofs.Verdicts.{wrong-out, wrong-append, out-append, out_stays, undecided-falls, verdict-undecided}
use Rattle.stream.proofs.Scanning.{scan-miss}
use Rattle.stream.proofs.Prefix.{decided-out}
use Rattle.stream.proofs.Turning.{verdict-turned, fault-turned}
use Rattle.stream.proofs.Faulting.{faults-none, faults-out, faults-wait, faults-undecided, faults-cut}

-- what may still come: after the end, nothing
abbrev pub MayCome : Bool → List Bool → Type 0
MayCome false e = Unit {0}
MayCome true e = e ≡ []

-- AS SOON AS a word that has come fails, the hunt is past its position: where no frame stands, the words that have come are right and the next
-- has not; after the end nothing is left
abbrev pub Idle : Bool → ℕ → List Bool → Type 0
Idle false k d = RightSoFar k d × (length d < 32 + 30 * k)
Idle true k d = d ≡ []

-- what a hunt over d did: `gone` positions are behind it
pub record Hunts (ended : Bool) (d : List Bool) (h : Hunted) : Type 0 where
  pub gone : ℕ
  pub rest : h.rest ≡ drop gone d
  pub long : gone + length h.rest ≡ length d
  pub scanned : (p : ℕ) (e : List Bool) → MayCome ended e → scan 0 p (d ++ e) ≡ scan 0 (p + gone) (h.rest ++ e)
  pub decides : ended ≡ false → (p : ℕ) (e : List Bool) → decided 0 p (d ++ e) ≡ decided 0 (p + gone) (h.rest ++ e)
  pub found : h.found ≡ true → Stands h.rest
  pub idle : h.found ≡ false → Idle ended h.words h.rest
  -- with the faults of the positions behind it, whether or not the end is taken into account already
  pub faulted : (x : Bool) → (ended ≡ true → x ≡ true) → (n : ℕ) (e : List Bool) → MayCome ended e
      → faults x n 0 (d ++ e) ≡ h.faults ++ faults x n 0 (h.rest ++ e)
  pub few : h.words ≤ 32

-- one position further, with the faults fs of that position
further : (ended b : Bool) (d : List Bool) (h : Hunted) (fs : List Fault) → ((e : List Bool) → MayCome ended e → Stands (b ∷ d ++ e) → ⊥)
    → (ended ≡ false → RuledOut (b ∷ d))
    → ((x : Bool) → (ended ≡ true → x ≡ true) → (n : ℕ) (e : List Bool) → MayCome ended e → faults x n 0 (b ∷ (d ++ e)) ≡ fs ++ faults x n 0 (d ++ e))
    → Hunts ended d h → Hunts ended (b ∷ d) (record { rest = h.rest; words = h.words; found = h.found; faults = fs ++ h.faults })
further ended b d h fs f r t u = record {
  gone = suc u.gone;
  rest = u.rest;
  long = omega (arith, u.long, suc-add u.gone (length h.rest));
  scanned = λ p e x. scan-miss p b (d ++ e) (f e x) ∙ u.scanned (suc p) e x ∙ rw (add-suc p u.gone, suc-add p u.gone);
  decides = λ x p e. decided-out p b (d ++ e) (out-append (b ∷ d) e (r x)) ∙ u.decides x (suc p) e ∙ rw (add-suc p u.gone, suc-add p u.gone);
  found = u.found;
  idle = u.idle;
  faulted = λ x y n e z. t x y n e z ∙ ap (λ l. fs ++ l) (u.faulted x y n e z) ∙ sym (append_assoc fs h.faults (faults x n 0 (h.rest ++ e)));
  few = u.few;
}

stays : (ended : Bool) (d : List Bool) (k : ℕ) (f : Bool) → (f ≡ true → Stands d) → (f ≡ false → Idle ended k d) → k ≤ 32
    → Hunts ended d (stopped d k f)
stays ended d k f s i w = record {
  gone = 0;
  rest = refl;
  long = zero-add (length d);
  scanned = λ p e x. rw (add-zero p);
  decides = λ x p e. rw (add-zero p);
  found = s;
  idle = i;
  faulted = λ x y n e z. refl;
  few = w;
}

pub hunts : (ended : Bool) (k : ℕ) (d : List Bool) → RightSoFar k d → Hunts ended d (hunt ended k d)
unfolding hunt
hunts false k [] p = stays false [] k false (λ e. unlike false e refl) (λ e. (p, omega arith)) (omega (arith, p.inside, n-lt []))
hunts true k [] p = stays true [] k false (λ e. unlike false e refl) (λ e. refl) (omega (arith, p.inside, n-lt []))
hunts ended k (b ∷ d) p =
    go ended (verdict_from (33 - k) k (b ∷ d)) (judge (33 - k) k (b ∷ d) (omega (arith, p.inside, n-lt (b ∷ d))) p) (hunts ended 0 d (none_so_far d))
  where
    -- a position that a word rules out has the fault of that word
    ruled : (j : ℕ) → WrongAt j (b ∷ d) → (x : Bool) (n : ℕ) (e : List Bool)
        → faults x n 0 (b ∷ (d ++ e)) ≡ fault_of j (word_at j (b ∷ d)) ∷ faults x n 0 (d ++ e)
    ruled j w x n e =
        faults-out x n j b (d ++ e) (wrong-append j (b ∷ d) e w) ∙ ap (λ u. fault_of j u ∷ faults x n 0 (d ++ e)) (word-append j (b ∷ d) e w.come)

    -- one that waits as the stream ends has none
    cut : (j : ℕ) → RightSoFar j (b ∷ d) → length (b ∷ d) < 32 + 30 * j
        → (x : Bool) → (true ≡ true → x ≡ true) → (n : ℕ) (e : List Bool) → e ≡ [] → faults x n 0 (b ∷ (d ++ e)) ≡ faults x n 0 (d ++ e)
    cut j q l x y n e z = rw (y refl, z, append-nil d) (let v = verdict-undecided j (b ∷ d) q l in faults-cut n v.0 b d v.1)

    go : (x : Bool) (v : Verdict) → Judged (b ∷ d) v → Hunts x d (hunt x 0 d) → Hunts x (b ∷ d) (hunt_by v x (b ∷ d) (hunt x 0 d))
    go x v (is-out j w) next =
        further x b d (hunt x 0 d) (fault_of j (word_at j (b ∷ d)) ∷ []) (λ e _. out_stays (b ∷ d) e (wrong-out j (b ∷ d) w)) (λ _. wrong-out j (b ∷ d) w)
        (λ y _ n e _. ruled j w y n e) next
    go x v (is-standing t) next = stays x (b ∷ d) 0 true (λ e. t) (λ e. unlike true refl e) (omega arith)
    go true v (is-undecided j q l t) next =
        further true b d (hunt true 0 d) [] (λ e z u. undecided-falls j (b ∷ d) q l (rw (z, append-nil d) at u)) (λ e. unlike true refl e) (cut j q l) next
    go false v (is-undecided j q l t) next = stays false (b ∷ d) j false (λ e. unlike false e refl) (λ e. (q, l)) t

-- WHERE IT STOPPED nothing more is met: no frame is passed there, and before the end a position that waits ends the walk
pub met_all : (ended : Bool) (k : ℕ) (f : Bool) (d : List Bool) → (f ≡ true → Stands d) → (f ≡ false → Idle ended k d) → faults ended 0 0 d ≡ []
met_all ended k true d s i = faults-wait ended d (s refl)
met_all true k false d s i = ap (faults true 0 0) (i refl) ∙ faults-none true 0
met_all false k false d s i = let v = verdict-undecided k d (i refl).0 (i refl).1 in faults-undecided 0 v.0 d v.1

-- THE HUNT OVER BITS TURNED OVER goes the same way, and meets the same faults
unfoldable pub turned_hunt : Hunted → Hunted
turned_hunt h = record { rest = map not h.rest; words = h.words; found = h.found; faults = h.faults }

pub hunt-turned : (e : Bool) (k : ℕ) (d : List Bool) → hunt e k (map not d) ≡ turned_hunt (hunt e k d)
unfolding hunt turned_hunt
hunt-turned e k [] = refl
hunt-turned e k (b ∷ d) =
    rw (verdict-turned (33 - k) k (b ∷ d)) (go (verdict_from (33 - k) k (b ∷ d)) (out-came (33 - k) k (b ∷ d)) e (hunt-turned e 0 d))
  where
    go : (v : Verdict) → Came (b ∷ d) v → (x : Bool) → hunt e 0 (map not d) ≡ turned_hunt (hunt e 0 d)
        → hunt_by v x (map not (b ∷ d)) (hunt e 0 (map not d)) ≡ turned_hunt (hunt_by v x (b ∷ d) (hunt e 0 d))
    go (out j) c x ih = ap₂ with_fault (fault-turned j (b ∷ d) c) ih
    go standing c x ih = refl
    go (undecided j) c true ih = ih
    go (undecided j) c false ih = refl
