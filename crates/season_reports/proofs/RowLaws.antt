-- Keys that are one, and rows put together: in any grouping, with an empty row, and what stays right of them. Assumes nothing.
use mathlib.Core.Path.{◌≡◌, refl, sym, ap, ap₂, ◌∙◌}
use mathlib.Core.Bool.{Bool, true, false, true≢false, and-eq-true_iff}
use Prim.Native.Nat.{ℕ, ◌^◌, ◌≤◌, ◌<◌}
use native.Mathlib.Nat.{add_assoc, zero-add, add-zero}
use native.Mathlib.Omega.{arith}
use lib.Dec.{eqb}
use lib.IntN.{ℤ, +ℤ_assoc, +ℤ_idl, +ℤ_idr}
use borrow.Author.Tests.{eqb-true, eq-eqb, ne_eqb}
use Rattle.frame.specs.declared.System.{System}
use Rattle.frame.specs.declared.System.TheVariants.{Gps, Glonass}
use Rattle.season_reports.specs.Rows.{system_number, same_key, widest, empty_row, blank_row, together}
use Rattle.season_reports.specs.Tables.{code_of}
use Rattle.season_reports.specs.declared.Key.{Key}
use Rattle.season_reports.specs.declared.Row.{Row}
use Rattle.season_reports.specs.declared.Extremes.{Extremes}
use Rattle.season_reports.specs.declared.Extremes.TheVariants.{Absent, Present}
use Rattle.season_reports.proofs.Integers.{lesser-assoc, greater-assoc}

-- ---- keys

abbrev key_with : System → ℕ → ℕ → Key
key_with s n m = record { system = s; station = n; satellite = m }

system-eq : (a b : System) → system_number a ≡ system_number b → a ≡ b
system-eq Gps Gps e = refl
system-eq Gps Glonass e = absurd (let z : ◌≡◌ {A = ℕ} 0 1 = e in omega arith)
system-eq Glonass Gps e = absurd (let z : ◌≡◌ {A = ℕ} 1 0 = e in omega arith)
system-eq Glonass Glonass e = refl

key-ext : (a b : Key) → a.system ≡ b.system → a.station ≡ b.station → a.satellite ≡ b.satellite → a ≡ b
key-ext a b p q r = ap (λ s. key_with s a.station a.satellite) p ∙ ap₂ (λ n m. key_with b.system n m) q r

-- one key is equal keys
pub key-eq : (a b : Key) → same_key a b ≡ true → a ≡ b
unfolding same_key
key-eq a b e =
    let s = (and-eq-true_iff _ _).0 e in
    let t = (and-eq-true_iff _ _).0 s.1 in
    key-ext a b (system-eq a.system b.system (eqb-true _ _ s.0)) (eqb-true _ _ t.0) (eqb-true _ _ t.1)

pub key-refl : (k : Key) → same_key k k ≡ true
unfolding same_key
key-refl k = rw (eq-eqb (system_number k.system) _ refl, eq-eqb k.station _ refl, eq-eqb k.satellite _ refl)

pub key-same : (a b : Key) → a ≡ b → same_key a b ≡ true
key-same a b e = ap (same_key a) (sym e) ∙ key-refl a

pub key-sym : (a b : Key) → same_key a b ≡ same_key b a
key-sym a b = go (same_key a b) (same_key b a) refl refl
  where
    go : (s t : Bool) → same_key a b ≡ s → same_key b a ≡ t → same_key a b ≡ same_key b a
    go true t e f = e ∙ sym (key-same b a (sym (key-eq a b e)))
    go false true e f = absurd (true≢false (sym (key-same a b (sym (key-eq b a f))) ∙ e))
    go false false e f = e ∙ sym f

pub system-few : (s : System) → system_number s ≤ 1
system-few Gps = omega arith
system-few Glonass = omega arith

-- the codes of keys within their types
pub code_same : (a b : Key) → a.station < 2 ^ 16 → a.satellite < 2 ^ 8 → b.station < 2 ^ 16 → b.satellite < 2 ^ 8
    → eqb (code_of a) (code_of b) ≡ same_key a b
code_same a b p q r s = go (same_key a b) refl
  where
    go : (t : Bool) → same_key a b ≡ t → eqb (code_of a) (code_of b) ≡ same_key a b
    go true e = eq-eqb (code_of a) (code_of b) (ap code_of (key-eq a b e)) ∙ sym e
    go false e = ne_eqb (code_of a) (code_of b) apart ∙ sym e
      where
        apart : code_of a ≡ code_of b → ⊥
        apart f =
            let x = system-few a.system in
            let y = system-few b.system in
            let m : system_number a.system ≡ system_number b.system = omega arith in
            let n : a.station ≡ b.station = omega arith in
            let o : a.satellite ≡ b.satellite = omega arith in
            true≢false (sym (key-same a b (key-ext a b (system-eq a.system b.system m) n o)) ∙ e)

-- ---- rows

abbrev pub row_with : Key → ℕ → ℕ → Extremes → ℤ → Row
row_with k u s x m = record { key = k; usable = u; stops = s; extremes = x; sum = m }

row-ext : (a b : Row) → a.key ≡ b.key → a.usable ≡ b.usable → a.stops ≡ b.stops → a.extremes ≡ b.extremes → a.sum ≡ b.sum → a ≡ b
row-ext a b p q r s t =
    ap (λ k. row_with k a.usable a.stops a.extremes a.sum) p
    ∙ ap₂ (λ u v. row_with b.key u v a.extremes a.sum) q r
    ∙ ap₂ (λ x m. row_with b.key b.usable b.stops x m) s t

widest-assoc : (a b c : Extremes) → widest (widest a b) c ≡ widest a (widest b c)
unfolding widest
widest-assoc Absent b c = refl
widest-assoc (Present l h) Absent c = refl
widest-assoc (Present l h) (Present m g) Absent = refl
widest-assoc (Present l h) (Present m g) (Present n f) = ap₂ Present (lesser-assoc l m n) (greater-assoc h g f)

widest-absent : (a : Extremes) → widest a Absent ≡ a
unfolding widest
widest-absent Absent = refl
widest-absent (Present l h) = refl

pub together-assoc : (a b c : Row) → together (together a b) c ≡ together a (together b c)
unfolding together
together-assoc a b c =
    row-ext _ _ refl (add_assoc a.usable b.usable c.usable) (add_assoc a.stops b.stops c.stops)
    (widest-assoc a.extremes b.extremes c.extremes) (+ℤ_assoc a.sum b.sum c.sum)

pub together-empty : (k : Key) (b : Row) → together (empty_row k) b ≡ b
unfolding together widest
together-empty k b = row-ext _ _ refl (zero-add b.usable) (zero-add b.stops) refl (+ℤ_idl b.sum)

pub together-blank : (b : Row) → together blank_row b ≡ b
together-blank b = together-empty _ b

pub empty-together : (a : Row) (k : Key) → a.key ≡ k → together a (empty_row k) ≡ a
unfolding together
empty-together a k e =
    row-ext _ _ (sym e) (add-zero a.usable) (add-zero a.stops) (widest-absent a.extremes) (+ℤ_idr a.sum)
