-- The scan against the definition of a frame that stands: only such frames, each once and apart from the others, and every one unless another
-- covers its first bit. Assumes nothing.
use mathlib.Core.Path.{◌≡◌, refl, ap, subst, ◌∙◌}
use mathlib.Core.Bool.{Bool, true, false, cond}
use mathlib.Core.Logic.{◌⊎◌, inl, inr}
use mathlib.Core.List.Memᴰ
use mathlib.Core.List.{List, [], ◌∷◌, Memᴰ}
use Prim.Native.Nat.{ℕ, zero, suc, ◌+◌, ◌-◌, ◌*◌, ◌≤◌, ◌<◌}
use native.Mathlib.Nat.{add-suc, add-zero, suc-add, not-suc-le-zero, le_of_suc-le-suc}
use native.Mathlib.Decide.{dec_le}
use native.Mathlib.Omega.{arith}
use lib.ListN.{length, drop}
use lib.Seq.{drop-nil}
use Rattle.stream.specs.Standing.{size, Stands, stands, Placed, placed, end_of, scan}
use Rattle.stream.specs.Places.{StandsIn, FoundOrCovered, Apart}
use Rattle.stream.proofs.Words.{frame-n}
use Rattle.stream.proofs.Stand.{stands-long, stands-test, test-stands, not_test}

-- ONE STEP of the scan
pub scan-skip : (n p : ℕ) (d : List Bool) → scan n p d ≡ scan 0 (p + n) (drop n d)
unfolding scan
scan-skip zero p d = rw (add-zero p)
scan-skip (suc n) p [] = refl
scan-skip (suc n) p (b ∷ d) = rw (add-suc p n, ← (suc-add p n)) (scan-skip n (suc p) d)

pub scan-miss : (p : ℕ) (b : Bool) (d : List Bool) → (Stands (b ∷ d) → ⊥) → scan 0 p (b ∷ d) ≡ scan 0 (suc p) d
unfolding scan
scan-miss p b d f = rw (not_test (b ∷ d) f)

pub scan-hit : (p : ℕ) (d : List Bool) → Stands d → scan 0 p d ≡ placed p d ∷ scan 0 (p + 30 * size d) (drop (30 * size d) d)
unfolding scan
scan-hit p [] s = absurd (omega (arith, stands-long [] s))
scan-hit p (b ∷ d) s =
    rw (stands-test (b ∷ d) s, scan-skip (30 * size (b ∷ d) - 1) (suc p) d)
    (at (30 * size (b ∷ d)) (30 * size (b ∷ d) - 1) (omega arith))
  where
    at : (m n : ℕ) → m ≡ suc n → placed p (b ∷ d) ∷ scan 0 (suc p + n) (drop n d) ≡ placed p (b ∷ d) ∷ scan 0 (p + m) (drop m (b ∷ d))
    at m n e = rw (e, add-suc p n, suc-add p n)

pub scan-short : (p : ℕ) (d : List Bool) → length d < 62 → scan 0 p d ≡ []
unfolding scan
scan-short p [] h = refl
scan-short p (b ∷ d) h = scan-miss p b d (λ s. absurd (omega (arith, stands-long (b ∷ d) s))) ∙ scan-short (suc p) d (omega arith)

-- ONLY FRAMES THAT STAND
shift : (p : ℕ) (b : Bool) (d : List Bool) (h : Placed) → StandsIn (suc p) d h → StandsIn p (b ∷ d) h
shift p b d h f = record { off = suc f.off; is = f.is ∙ rw (add-suc p f.off, suc-add p f.off); stood = f.stood }

pub only : (n p : ℕ) (d : List Bool) (h : Placed) → Memᴰ h (scan n p d) → StandsIn p d h
unfolding scan
only n p [] h m = absurd (Memᴰ.not-nil m)
only (suc n) p (b ∷ d) h m = shift p b d h (only n (suc p) d h m)
only zero p (b ∷ d) h m = go (stands (b ∷ d)) refl m (only (30 * size (b ∷ d) - 1) (suc p) d h) (only 0 (suc p) d h)
  where
    go : (t : Bool) → stands (b ∷ d) ≡ t → Memᴰ h (cond t (placed p (b ∷ d) ∷ scan (30 * size (b ∷ d) - 1) (suc p) d) (scan 0 (suc p) d))
        → (Memᴰ h (scan (30 * size (b ∷ d) - 1) (suc p) d) → StandsIn (suc p) d h) → (Memᴰ h (scan 0 (suc p) d) → StandsIn (suc p) d h)
        → StandsIn p (b ∷ d) h
    go false e m f g = shift p b d h (g m)
    go true e m f g = which (Memᴰ.cases_cons m)
      where
        which : (h ≡ placed p (b ∷ d)) ⊎ Memᴰ h (scan (30 * size (b ∷ d) - 1) (suc p) d) → StandsIn p (b ∷ d) h
        which (inl x) = record { off = 0; is = x ∙ rw (add-zero p); stood = test-stands (b ∷ d) e }
        which (inr x) = shift p b d h (f x)

-- EVERY FRAME THAT STANDS is found, unless a frame found before covers its first bit
pub later : (h x : Placed) (l : List Placed) → FoundOrCovered h l → FoundOrCovered h (x ∷ l)
later h x l (inl m) = inl (Memᴰ.tail m)
later h x l (inr c) = inr (record { by = c.by; there = Memᴰ.tail c.there; before = c.before; beyond = c.beyond })

pub complete : (n p q : ℕ) (d : List Bool) → n ≤ q → Stands (drop q d) → FoundOrCovered (placed (p + q) (drop q d)) (scan n p d)
unfolding scan placed
complete n p q [] l s = absurd (omega (arith, stands-long (drop q []) s, ap length (drop-nil {A = Bool} q)))
complete (suc n) p zero (b ∷ d) l s = absurd (not-suc-le-zero l)
complete (suc n) p (suc q) (b ∷ d) l s = rw (add-suc p q, ← (suc-add p q)) (complete n (suc p) q d (le_of_suc-le-suc l) s)
complete zero p zero (b ∷ d) l s = rw (stands-test (b ∷ d) s, add-zero p) (inl (Memᴰ.head refl))
complete zero p (suc q) (b ∷ d) l s =
    rw (add-suc p q, ← (suc-add p q)) (go (stands (b ∷ d)) (dec_le past q) (λ h. complete past (suc p) q d h s) (complete 0 (suc p) q d (omega arith) s))
  where
    -- bits after the first that the frame here has
    past : ℕ
    past = 30 * size (b ∷ d) - 1

    sought : Placed
    sought = placed (suc p + q) (drop q d)

    go : (t : Bool) → Dec (past ≤ q) → (past ≤ q → FoundOrCovered sought (scan past (suc p) d)) → FoundOrCovered sought (scan 0 (suc p) d)
        → FoundOrCovered sought (cond t (placed p (b ∷ d) ∷ scan past (suc p) d) (scan 0 (suc p) d))
    go false x f g = g
    go true (yes x) f g = later sought (placed p (b ∷ d)) (scan past (suc p) d) (f x)
    go true (no x) f g =
        inr (record {
          by = placed p (b ∷ d);
          there = Memᴰ.head refl;
          before = omega (arith, suc-add p q);
          beyond = omega (arith, x, suc-add p q, frame-n (b ∷ d));
        })

-- EACH ONCE: the frames found follow one another and share no bit
apart_from : (p q : ℕ) (l : List Placed) → q ≤ p → Apart p l → Apart q l
apart_from p q [] e a = tt
apart_from p q (h ∷ l) e a = (omega (arith, a.0), a.1)

pub apart : (n p : ℕ) (d : List Bool) → Apart (p + n) (scan n p d)
unfolding scan placed
apart n p [] = tt
apart (suc n) p (b ∷ d) = rw (add-suc p n, ← (suc-add p n)) (apart n (suc p) d)
apart zero p (b ∷ d) = go (stands (b ∷ d)) (apart (30 * size (b ∷ d) - 1) (suc p) d) (apart 0 (suc p) d)
  where
    go : (t : Bool) → Apart (suc p + (30 * size (b ∷ d) - 1)) (scan (30 * size (b ∷ d) - 1) (suc p) d) → Apart (suc p + 0) (scan 0 (suc p) d)
        → Apart (p + 0) (cond t (placed p (b ∷ d) ∷ scan (30 * size (b ∷ d) - 1) (suc p) d) (scan 0 (suc p) d))
    go false x y = apart_from (suc p + 0) (p + 0) (scan 0 (suc p) d) (omega (arith, suc-add p 0)) y
    go true x y = (omega arith, rw next x)
      where
        next : end_of (placed p (b ∷ d)) ≡ suc p + (30 * size (b ∷ d) - 1)
        next = omega (arith, frame-n (b ∷ d), suc-add p (30 * size (b ∷ d) - 1))

-- nothing begins at a position where nothing stands
pub none-begins : (q : ℕ) (d : List Bool) → (Stands (drop q d) → ⊥) → (h : Placed) → Memᴰ h (scan 0 2 d) → h.at ≡ 2 + q → ⊥
unfolding placed
none-begins q d f h m e = f (subst (λ (i : ℕ). Stands (drop i d)) (off (only 0 2 d h m)) (only 0 2 d h m).stood)
  where
    off : (u : StandsIn 2 d h) → u.off ≡ q
    off u = omega (arith, e, ap (λ (x : Placed). x.at) u.is)
