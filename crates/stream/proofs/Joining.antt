-- LATE JOINERS: where two readers of one line, the second of which starts later, have a frame that begins at the same line bit, all that they have
-- behind it is the same; after the end, and before it. Assumes nothing.
use mathlib.Core.Path.{◌≡◌, refl, sym, ap, ap₂, subst, ◌∙◌}
use mathlib.Core.Bool.{Bool, true, false, cond}
use mathlib.Core.Logic.{◌⊎◌, inl, inr}
use mathlib.Core.List.Memᴰ
use mathlib.Core.List.{List, [], ◌∷◌, ◌++◌, map, append-nil, Memᴰ}
use Prim.Native.Nat.{ℕ, zero, suc, ◌+◌, ◌-◌, ◌*◌, ◌≤◌, ◌<◌}
use native.Mathlib.Nat.{add-suc, suc-add}
use native.Mathlib.Omega.{arith}
use lib.ListN.{drop}
use lib.Seq.{drop-drop}
use borrow.Author.Tests.{le-ltb, lt-ltb}
use Rattle.stream.specs.Standing.{size, stands, frame_at, Placed, placed, end_of, scan}
use Rattle.stream.specs.Verdict.{Verdict, out, standing, undecided, verdict, decided_by, decided}
use Rattle.stream.specs.Places.{StandsIn}
use Rattle.stream.specs.Joining.{frames_from, frames_by, on_line, later_than}
use Rattle.stream.proofs.Words.{frame-n}
use Rattle.stream.proofs.Scanning.{scan-skip, only}
use Rattle.stream.proofs.Prefix.{Begins, decided-skip, decided-begins}

-- ---- ONE STEP at a position, after the end and before it: a frame is found, the next position is tried, or nothing more is decided

data Step (ended b : Bool) (d : List Bool) : Type 0 where
  hit : ((p : ℕ) → frames_from ended 0 p (b ∷ d) ≡ placed p (b ∷ d) ∷ frames_from ended (30 * size (b ∷ d) - 1) (suc p) d) → Step ended b d
  miss : ((p : ℕ) → frames_from ended 0 p (b ∷ d) ≡ frames_from ended 0 (suc p) d) → Step ended b d
  halt : ((p : ℕ) → frames_from ended 0 p (b ∷ d) ≡ []) → Step ended b d

step : (ended b : Bool) (d : List Bool) → Step ended b d
unfolding scan decided
step true b d = go (stands (b ∷ d)) refl
  where
    go : (t : Bool) → stands (b ∷ d) ≡ t → Step true b d
    go true e = hit (λ p. ap (λ t. cond t (placed p (b ∷ d) ∷ scan (30 * size (b ∷ d) - 1) (suc p) d) (scan 0 (suc p) d)) e)
    go false e = miss (λ p. ap (λ t. cond t (placed p (b ∷ d) ∷ scan (30 * size (b ∷ d) - 1) (suc p) d) (scan 0 (suc p) d)) e)
step false b d = go (verdict (b ∷ d)) refl
  where
    by : (p : ℕ) → Verdict → List Placed
    by p v = decided_by v (placed p (b ∷ d) ∷ decided (30 * size (b ∷ d) - 1) (suc p) d) (decided 0 (suc p) d)

    go : (v : Verdict) → verdict (b ∷ d) ≡ v → Step false b d
    go standing e = hit (λ p. ap (by p) e)
    go (out k) e = miss (λ p. ap (by p) e)
    go (undecided k) e = halt (λ p. ap (by p) e)

none : (ended : Bool) (n p : ℕ) → frames_from ended n p [] ≡ []
unfolding scan decided
none true n p = refl
none false n p = refl

skip-one : (ended : Bool) (n p : ℕ) (b : Bool) (d : List Bool) → frames_from ended (suc n) p (b ∷ d) ≡ frames_from ended n (suc p) d
unfolding scan decided
skip-one true n p b d = refl
skip-one false n p b d = refl

skip_all : (ended : Bool) (n p : ℕ) (d : List Bool) → frames_from ended n p d ≡ frames_from ended 0 (p + n) (drop n d)
skip_all true n p d = scan-skip n p d
skip_all false n p d = decided-skip n p d

-- each of them stands
stood : (ended : Bool) (n p : ℕ) (d : List Bool) (h : Placed) → Memᴰ h (frames_from ended n p d) → StandsIn p d h
stood true n p d h m = only n p d h m
stood false n p d h m = only n p d h (subst (Memᴰ h) (sym b.is ∙ ap (scan n p) (append-nil d)) (Memᴰ.append_left b.more m))
  where
    b : Begins (decided n p d) (scan n p (d ++ []))
    b = decided-begins n p d []

its-place : (p : ℕ) (d : List Bool) → (placed p d).at ≡ p
unfolding placed
its-place p d = refl

its-frame : (p : ℕ) (d : List Bool) → (placed p d).frame ≡ frame_at d
unfolding placed
its-frame p d = refl

at_least : (ended : Bool) (n p : ℕ) (d : List Bool) (h : Placed) → Memᴰ h (frames_from ended n p d) → p ≤ h.at
at_least ended n p d h m =
    let u = stood ended n p d h m in
    omega (arith, ap (λ (x : Placed). x.at) u.is, its-place (p + u.off) (drop u.off d))

-- ---- behind a position

behind : (q : ℕ) (l : List Placed) → ((h : Placed) → Memᴰ h l → q < h.at) → later_than q l ≡ l
unfolding later_than
behind q [] f = refl
behind q (h ∷ l) f = rw (lt-ltb q h.at (f h (Memᴰ.head refl))) (ap (λ r. h ∷ r) (behind q l (λ x m. f x (Memᴰ.tail m))))

not_behind : (q : ℕ) (h : Placed) (l : List Placed) → h.at ≤ q → later_than q (h ∷ l) ≡ later_than q l
unfolding later_than
not_behind q h l e = rw (le-ltb q h.at e)

-- ---- WHAT COMES BEHIND A FRAME of the list l is what the stream has from that frame's end on
abbrev RestIsFromItsEnd : Bool → ℕ → List Bool → Placed → List Placed → Type 0
RestIsFromItsEnd ended p d h l = Memᴰ h l → later_than h.at l ≡ frames_from ended 0 (end_of h) (drop (end_of h - p) d)

-- a bit more in front
onward : (ended : Bool) (n p : ℕ) (b : Bool) (d : List Bool) (h : Placed) → RestIsFromItsEnd ended (suc p) d h (frames_from ended n (suc p) d)
    → RestIsFromItsEnd ended p (b ∷ d) h (frames_from ended n (suc p) d)
onward ended n p b d h f m = f m ∙ ap (λ (i : ℕ). frames_from ended 0 (end_of h) (drop i (b ∷ d))) next
  where
    next : suc (end_of h - suc p) ≡ end_of h - p
    next = omega (arith, at_least ended n (suc p) d h m)

rest_of : (ended : Bool) (n p : ℕ) (d : List Bool) (h : Placed) → RestIsFromItsEnd ended p d h (frames_from ended n p d)
rest_of ended n p [] h = λ m. absurd (Memᴰ.not-nil (subst (Memᴰ h) (none ended n p) m))
rest_of ended (suc n) p (b ∷ d) h =
    subst (RestIsFromItsEnd ended p (b ∷ d) h) (sym (skip-one ended n p b d)) (onward ended n p b d h (rest_of ended n (suc p) d h))
rest_of ended zero p (b ∷ d) h = go (step ended b d) (rest_of ended past (suc p) d h) (rest_of ended 0 (suc p) d h)
  where
    -- bits after the first that a frame here has
    past : ℕ
    past = 30 * size (b ∷ d) - 1

    here : Placed
    here = placed p (b ∷ d)

    next : List Placed
    next = frames_from ended past (suc p) d

    -- the frame found here, or one behind it
    which : RestIsFromItsEnd ended p (b ∷ d) h next → (h ≡ here) ⊎ Memᴰ h next
        → later_than h.at (here ∷ next) ≡ frames_from ended 0 (end_of h) (drop (end_of h - p) (b ∷ d))
    which f (inl e) =
        not_behind h.at here next (omega (arith, ap (λ (z : Placed). z.at) e))
        ∙ behind h.at next (λ y m. omega (arith, at_here, at_least ended past (suc p) d y m))
        ∙ skip_all ended past (suc p) d ∙ ap₂ (λ i j. frames_from ended 0 i (drop j (b ∷ d))) place gone
      where
        at_here : h.at ≡ p
        at_here = ap (λ (z : Placed). z.at) e ∙ its-place p (b ∷ d)

        end : end_of h ≡ p + 30 * size (b ∷ d)
        end = omega (arith, at_here, ap (λ (z : Placed). z.frame.n) e, ap (λ f. f.n) (its-frame p (b ∷ d)), frame-n (b ∷ d))

        place : suc p + past ≡ end_of h
        place = omega (arith, end, suc-add p past)

        gone : suc past ≡ end_of h - p
        gone = omega (arith, end)
    which f (inr m) = not_behind h.at here next (omega (arith, its-place p (b ∷ d), at_least ended past (suc p) d h m)) ∙ f m

    go : Step ended b d → RestIsFromItsEnd ended (suc p) d h next
        → RestIsFromItsEnd ended (suc p) d h (frames_from ended 0 (suc p) d) → RestIsFromItsEnd ended p (b ∷ d) h (frames_from ended 0 p (b ∷ d))
    go (hit x) f g =
        subst (RestIsFromItsEnd ended p (b ∷ d) h) (sym (x p)) (λ m. which (onward ended past p b d h f) (Memᴰ.cases_cons m))
    go (miss x) f g = subst (RestIsFromItsEnd ended p (b ∷ d) h) (sym (x p)) (onward ended 0 p b d h g)
    go (halt x) f g = subst (RestIsFromItsEnd ended p (b ∷ d) h) (sym (x p)) (λ m. absurd (Memᴰ.not-nil m))

-- ---- POSITIONS COUNTED FROM k BITS BEFORE

counted-before : (ended : Bool) (k n p : ℕ) (d : List Bool) → frames_from ended n (k + p) d ≡ map (on_line k) (frames_from ended n p d)
counted-before ended k n p [] = none ended n (k + p) ∙ sym (ap (map (on_line k)) (none ended n p))
counted-before ended k (suc n) p (b ∷ d) =
    skip-one ended n (k + p) b d ∙ ap (λ (i : ℕ). frames_from ended n i d) (sym (add-suc k p)) ∙ counted-before ended k n (suc p) d
    ∙ sym (ap (map (on_line k)) (skip-one ended n p b d))
counted-before ended k zero p (b ∷ d) =
    go (step ended b d) (up past ∙ counted-before ended k past (suc p) d) (up 0 ∙ counted-before ended k 0 (suc p) d)
  where
    past : ℕ
    past = 30 * size (b ∷ d) - 1

    up : (n : ℕ) → frames_from ended n (suc (k + p)) d ≡ frames_from ended n (k + suc p) d
    up n = ap (λ (i : ℕ). frames_from ended n i d) (sym (add-suc k p))

    first : placed (k + p) (b ∷ d) ≡ on_line k (placed p (b ∷ d))
    first = unfold placed on_line in refl

    go : Step ended b d → frames_from ended past (suc (k + p)) d ≡ map (on_line k) (frames_from ended past (suc p) d)
        → frames_from ended 0 (suc (k + p)) d ≡ map (on_line k) (frames_from ended 0 (suc p) d)
        → frames_from ended 0 (k + p) (b ∷ d) ≡ map (on_line k) (frames_from ended 0 p (b ∷ d))
    go (hit x) f g = x (k + p) ∙ ap₂ ◌∷◌ first f ∙ sym (ap (map (on_line k)) (x p))
    go (miss x) f g = x (k + p) ∙ g ∙ sym (ap (map (on_line k)) (x p))
    go (halt x) f g = x (k + p) ∙ sym (ap (map (on_line k)) (x p))

-- ---- JOINED: the frame at which they meet is the same, and so is every later one

pub joined : (ended : Bool) (s : List Bool) (k : ℕ) (h h' : Placed) → Memᴰ h (frames_by ended s) → Memᴰ h' (frames_by ended (drop k s))
    → h.at ≡ k + h'.at
    → (h ≡ on_line k h') × (later_than h.at (frames_by ended s) ≡ map (on_line k) (later_than h'.at (frames_by ended (drop k s))))
joined ended s k h h' m m' e = (
  same,
  rest_of ended 0 2 s h m ∙ ap₂ (frames_from ended 0) ends left ∙ counted-before ended k 0 (end_of h') (drop (end_of h' - 2) (drop k s))
      ∙ ap (map (on_line k)) (sym (rest_of ended 0 2 (drop k s) h' m')),
)
  where
    u : StandsIn 2 s h
    u = stood ended 0 2 s h m

    u' : StandsIn 2 (drop k s) h'
    u' = stood ended 0 2 (drop k s) h' m'

    at-u : h.at ≡ 2 + u.off
    at-u = ap (λ (x : Placed). x.at) u.is ∙ its-place (2 + u.off) (drop u.off s)

    at-u' : h'.at ≡ 2 + u'.off
    at-u' = ap (λ (x : Placed). x.at) u'.is ∙ its-place (2 + u'.off) (drop u'.off (drop k s))

    off : u.off ≡ k + u'.off
    off = omega (arith, at-u, at-u')

    same_bits : drop u.off s ≡ drop u'.off (drop k s)
    same_bits = ap (λ (i : ℕ). drop i s) off ∙ sym (drop-drop u'.off k s)

    same-frame : h.frame ≡ h'.frame
    same-frame =
        ap (λ (x : Placed). x.frame) u.is ∙ its-frame (2 + u.off) (drop u.off s) ∙ ap frame_at same_bits
        ∙ sym (ap (λ (x : Placed). x.frame) u'.is ∙ its-frame (2 + u'.off) (drop u'.off (drop k s)))

    same : h ≡ on_line k h'
    same = unfold on_line in λ i. record { at = e i; frame = same-frame i }

    ends : end_of h ≡ k + end_of h'
    ends = omega (arith, e, ap (λ f. f.n) same-frame)

    left : drop (end_of h - 2) s ≡ drop (end_of h' - 2) (drop k s)
    left = ap (λ (i : ℕ). drop i s) gone ∙ sym (drop-drop (end_of h' - 2) k s)
      where
        gone : end_of h - 2 ≡ k + (end_of h' - 2)
        gone = omega (arith, ends, at-u')
