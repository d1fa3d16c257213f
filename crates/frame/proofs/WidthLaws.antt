-- What refusals 5 and 7 say of an answer, of the numbers of a header and of a list of words. Assumes nothing.
use mathlib.Core.Path.{◌≡◌, refl, sym, ap₂, ◌∙◌}
use mathlib.Core.Bool.{Bool, true, false, ◌||◌, cond, true≢false, and-eq-true_iff}
use mathlib.Core.List.{List, [], ◌∷◌, ◌++◌}
use Prim.Native.Nat.{ℕ, zero, suc, ◌+◌, ◌^◌, ◌≤◌, ◌<◌}
use native.Mathlib.Numerals.{add-one}
use native.Mathlib.Omega.{arith}
use lib.Dec.{leb, leb-suc-suc, leb-zero}
use lib.ListN.{length, drop, get_or, replicate, drop_of_length-le}
use lib.Seq.{drop-cons}
use borrow.Author.Tests.{leb-true, leb-false, ltb-false, le-leb, lt-leb, le-ltb, not-false}
use Rattle.std.specs.List.{list_any}
use Rattle.std.proofs.lemmas.List.Recursion.{same_from_clauses}
use Rattle.frame.specs.Frames.{Below}
use Rattle.bits.specs.Bits.{is_nonzero}
use Rattle.frame.specs.Widths.{any_of, is_wide, state_outside, numbers_outside, header_outside}
use Rattle.frame.specs.declared.Header.{Header}
use Rattle.answer.specs.Table.{refused, granted}
use Rattle.answer.specs.declared.Refusal.{Refusal}
use Rattle.answer.specs.declared.Refusal.TheVariants.{Width, ZCount}
use Rattle.std.specs.Prelude.{Err}

-- ---- the test that a stage's answer tells of

told-refused : {e : Refusal} (r : Refusal) (b : Bool) → Err e ≡ cond b (Err r) granted → b ≡ true
told-refused r true is = refl
told-refused r false is = let z : ◌≡◌ {A = ℕ} 0 1 = cc in absurd (omega arith)

told-granted : (r : Refusal) (b : Bool) → granted ≡ cond b (Err r) granted → b ≡ false
told-granted r true is = let z : ◌≡◌ {A = ℕ} 0 1 = cc in absurd (omega arith)
told-granted r false is = refl

-- any refusal here tells of the one that the test gives
pub told-outside : {e : Refusal} (b : Bool) → Err e ≡ cond b (refused 5) granted → b ≡ true
told-outside = told-refused Width

pub told-within : (b : Bool) → granted ≡ cond b (refused 5) granted → b ≡ false
told-within = told-granted Width

pub told-late : {e : Refusal} (b : Bool) → Err e ≡ cond b (refused 7) granted → b ≡ true
told-late = told-refused ZCount

pub told-hour : (b : Bool) → granted ≡ cond b (refused 7) granted → b ≡ false
told-hour = told-granted ZCount

-- ---- a header

-- its fields within their widths, one by one
pub record Inside (h : Header) : Type 0 where
  pub least : 1 ≤ h.kind
  pub most : h.kind ≤ 64
  pub station : h.station < 2 ^ 10
  pub z : h.z < 2 ^ 13
  pub sequence : h.sequence < 2 ^ 3
  pub state : state_outside h.state ≡ false

pub both_false : (a b : Bool) → a || b ≡ false → (a ≡ false) × (b ≡ false)
both_false true b e = absurd (true≢false e)
both_false false b e = (refl, e)

pub to_inside : (h : Header) → header_outside h ≡ false → Inside h
unfolding header_outside numbers_outside
to_inside h e =
    let s = both_false _ _ e in
    let q = both_false _ _ s.0 in
    let z = both_false _ _ q.0 in
    let t = both_false _ _ z.0 in
    let k = (and-eq-true_iff (leb 1 h.kind) (leb h.kind 64)).0 (not-false _ t.0) in
    record {
      least = leb-true 1 h.kind k.0;
      most = leb-true h.kind 64 k.1;
      station = omega (arith, ltb-false 1023 h.station t.1);
      z = omega (arith, ltb-false 8191 h.z z.1);
      sequence = omega (arith, ltb-false 7 h.sequence q.1);
      state = s.1;
    }

pub from-inside : (h : Header) → Inside h → header_outside h ≡ false
unfolding header_outside numbers_outside
from-inside h i =
    rw (
      le-leb 1 h.kind i.least,
      le-leb h.kind 64 i.most,
      le-ltb 1023 h.station (omega arith),
      le-ltb 8191 h.z (omega arith),
      le-ltb 7 h.sequence (omega arith),
      i.state,
    )

-- ---- a list of words

-- as `any` tests them
pub any_listed : (p : ℕ → Bool) (ws : List ℕ) → any_of p ws ≡ list_any p ws
any_listed p = same_from_clauses (any_of p) (list_any p) (λ w. ◌||◌ (p w)) refl (λ w ws. refl) (λ w ws. refl)

-- a test of the words from i on, by the word at i
pub any-hit : (p : ℕ → Bool) (i : ℕ) (ws : List ℕ) → i < length ws → p (get_or ws i 0) ≡ true → any_of p (drop i ws) ≡ true
any-hit p i ws h e = rw (drop-cons ws i 0 h, e)

pub any-miss : (p : ℕ → Bool) (i : ℕ) (ws : List ℕ) → i < length ws → p (get_or ws i 0) ≡ false → any_of p (drop i ws) ≡ any_of p (drop (i + 1) ws)
any-miss p i ws h e = rw (drop-cons ws i 0 h, e, add-one i)

pub any-end : (p : ℕ → Bool) (i : ℕ) (ws : List ℕ) → length ws ≤ i → any_of p (drop i ws) ≡ false
any-end p i ws h = rw (drop_of_length-le ws h)

-- not zero is at least 1
pub any-nonzero : (ws : List ℕ) → any_of is_nonzero ws ≡ any_of (leb 1) ws
any-nonzero [] = refl
any-nonzero (w ∷ ws) = ap₂ ◌||◌ (one w) (any-nonzero ws)
  where
    one : (n : ℕ) → is_nonzero n ≡ leb 1 n
    one zero = refl
    one (suc n) = sym (leb-suc-suc 0 n ∙ leb-zero n)

pub any_append : (p : ℕ → Bool) (a b : List ℕ) → any_of p (a ++ b) ≡ any_of p a || any_of p b
any_append p [] b = refl
any_append p (x ∷ a) b = go (p x) (any_append p a b)
  where
    go : (t : Bool) → any_of p (a ++ b) ≡ any_of p a || any_of p b → t || any_of p (a ++ b) ≡ t || any_of p a || any_of p b
    go true e = refl
    go false e = e

pub any-zeros : (p : ℕ → Bool) → p 0 ≡ false → (k : ℕ) → any_of p (replicate k 0) ≡ false
any-zeros p e zero = refl
any-zeros p e (suc k) = rw e (any-zeros p e k)

pub any_below : (ws : List ℕ) → Below ws → any_of is_wide ws ≡ false
any_below [] b = refl
any_below (w ∷ ws) b = rw (lt-leb (2 ^ 24) w b.0) (any_below ws b.1)

pub below-any : (ws : List ℕ) → any_of is_wide ws ≡ false → Below ws
below-any [] e = tt
below-any (w ∷ ws) e = let n = both_false _ _ e in (leb-false (2 ^ 24) w n.0, below-any ws n.1)

pub zeros-any : (ws : List ℕ) → any_of is_nonzero ws ≡ false → ws ≡ replicate (length ws) 0
zeros-any [] e = refl
zeros-any (w ∷ ws) e =
    let n = both_false _ _ e in
    ap₂ ◌∷◌ (none w n.0) (zeros-any ws n.1)
  where
    none : (m : ℕ) → is_nonzero m ≡ false → m ≡ 0
    none zero h = refl
    none (suc m) h = absurd (true≢false h)
