-- Lines as the loop makes them. Assumes nothing.
use Rattle.std.proofs.Common.{◌≡◌, ℕ, suc, ◌+◌, ◌<◌, ◌≤◌, false, cond, ltb, List, [], ◌∷◌, ◌++◌, length, get_or, drop, set, sym, ap, ◌∙◌, ap₂, add-one, arith, length-append, drop-cons, ltb-false}
use lib.Seq.{sets}
use Rattle.bits.proofs.Stores.{sets-append}
use Rattle.frame.specs.Header.{code_of}
use Rattle.frame.specs.Widths.{state_outside, pair_outside}
use Rattle.frame.specs.Answer.{health_of}
use Rattle.frame.specs.declared.State.{State}
use Rattle.frame.specs.declared.Carried.{Carried}
use Rattle.frame.proofs.WidthLaws.{both_false}
use Rattle.printing.specs.Printing.{decimal}
use Rattle.printing.proofs.StoreLaws.{length-stored, length_marked, stored-then}
use Rattle.listing.specs.Text.{space, newline, spaced, pair_last, odd_label, even_label, odd_line, frames_label, bytes_label, passed_label, last_line}
use Rattle.std.specs.Prelude.{Ok, Err}
use Rattle.answer.specs.Table.{refused}
use Rattle.answer.specs.declared.Refusal.{Refusal}

-- ---- a line of numbers

-- number i, the space after it, and the rest
spaced-next : (ns : List ℕ) (i : ℕ) → i < length ns → spaced (drop i ns) ≡ decimal (get_or ns i 0) ++ (space ∷ spaced (drop (i + 1) ns))
unfolding spaced
spaced-next ns i h = ap spaced (drop-cons ns i 0 h ∙ ap (λ j. get_or ns i 0 ∷ drop j ns) (sym (add-one i)))

-- stored: the digits, the space after them, the rest
pub store-spaced : (l ns : List ℕ) (next i : ℕ) → i < length ns
    → (l' : List ℕ) → l' ≡ sets l next (decimal (get_or ns i 0)) → (next' : ℕ) → next' ≡ next + length (decimal (get_or ns i 0))
    → sets l next (spaced (drop i ns)) ≡ sets (set l' next' space) (next' + 1) (spaced (drop (i + 1) ns))
store-spaced l ns next i h l' el next' en =
    let digits = decimal (get_or ns i 0) in
    let rest = spaced (drop (i + 1) ns) in
    let end = next + length digits in
    ap (sets l next) (spaced-next ns i h)
    ∙ sets-append digits (space ∷ rest) l next
    ∙ ap (λ j. sets (set (sets l next digits) end space) j rest) (sym (add-one end))
    ∙ ap₂ (λ k j. sets (set k j space) (j + 1) rest) (sym el) (sym en)

pub length-spaced : (ns : List ℕ) (i : ℕ) → i < length ns
    → length (spaced (drop i ns)) ≡ length (decimal (get_or ns i 0)) + 1 + length (spaced (drop (i + 1) ns))
length-spaced ns i h =
    ap length (spaced-next ns i h)
    ∙ length-append (decimal (get_or ns i 0)) (space ∷ spaced (drop (i + 1) ns))
    ∙ one_more (length (decimal (get_or ns i 0))) (length (spaced (drop (i + 1) ns)))
  where
    one_more : (a b : ℕ) → a + suc b ≡ a + 1 + b
    one_more a b = omega arith

-- ---- the carried pair at its end

-- three bytes stored one by one
pub store-three : (l : List ℕ) (place a b c : ℕ) → set (set (set l place a) (place + 1) b) (place + 2) c ≡ sets l place (a ∷ b ∷ c ∷ [])
store-three l place a b c = ap₂ (λ i j. set (set (set l place a) i b) j c) (add-one place) two
  where
    two : place + 2 ≡ suc (suc place)
    two = omega arith

-- each of the two digits is a byte
pub digit-small : (c : Carried) → pair_outside c ≡ false → (c.d29 ≤ 1) × (c.d30 ≤ 1)
unfolding pair_outside
digit-small c e = let both = both_false (ltb 1 c.d29) (ltb 1 c.d30) e in (ltb-false 1 c.d29 both.0, ltb-false 1 c.d30 both.1)

-- the numbers stored, and the pair behind them
pub store_line : (l ns : List ℕ) (place : ℕ) (c : Carried) (l₁ : List ℕ) → l₁ ≡ sets l place (spaced ns) → (next : ℕ) → next ≡ place + length (spaced ns)
    → sets l₁ next (pair_last c) ≡ sets l place (spaced ns ++ pair_last c)
store_line l ns place c l₁ el next en = sym (stored-then l (spaced ns) (pair_last c) place next l₁ en el)

pub length-line : (ns : List ℕ) (place : ℕ) (c : Carried) (next : ℕ) → next ≡ place + length (spaced ns)
    → next + 3 ≡ place + length (spaced ns ++ pair_last c)
length-line ns place c next en = omega (arith, en, length-append (spaced ns) (pair_last c))

-- ---- lines of totals

-- two parts, one after the other, and a newline
module _ (x y : List ℕ) (place : ℕ) (l : List ℕ) (p₁ : ℕ) (l₁ : List ℕ) (p₂ : ℕ) (l₂ : List ℕ)
    (at₁ : p₁ ≡ place + length x) (is₁ : l₁ ≡ sets l place x) (at₂ : p₂ ≡ p₁ + length y) (is₂ : l₂ ≡ sets l₁ p₁ y) where
  two-stored : set l₂ p₂ newline ≡ sets l place (x ++ (y ++ (newline ∷ [])))
  two-stored = sym (stored-then l x (y ++ (newline ∷ [])) place p₁ l₁ at₁ is₁ ∙ stored-then l₁ y (newline ∷ []) p₁ p₂ l₂ at₂ is₂)

  two-place : p₂ + 1 ≡ place + length (x ++ (y ++ (newline ∷ [])))
  two-place = omega (arith, at₁, at₂, length-append x (y ++ (newline ∷ [])), length-append y (newline ∷ []))

  two-length : length (set l₂ p₂ newline) ≡ length l
  two-length = length_marked l₁ p₁ y l₂ is₂ p₂ newline ∙ length-stored l place x l₁ is₁

-- the second last line
module _ (odd even place : ℕ) (l : List ℕ) (p₁ : ℕ) (l₁ : List ℕ) (p₂ : ℕ) (l₂ : List ℕ)
    (at₁ : p₁ ≡ place + length (odd_label ++ decimal odd)) (is₁ : l₁ ≡ sets l place (odd_label ++ decimal odd))
    (at₂ : p₂ ≡ p₁ + length (even_label ++ decimal even)) (is₂ : l₂ ≡ sets l₁ p₁ (even_label ++ decimal even)) where
  pub odd-stored : set l₂ p₂ newline ≡ sets l place (odd_line odd even)
  unfolding odd_line
  odd-stored = two-stored (odd_label ++ decimal odd) (even_label ++ decimal even) place l p₁ l₁ p₂ l₂ at₁ is₁ at₂ is₂

  pub odd_place : p₂ + 1 ≡ place + length (odd_line odd even)
  unfolding odd_line
  odd_place = two-place (odd_label ++ decimal odd) (even_label ++ decimal even) place l p₁ l₁ p₂ l₂ at₁ is₁ at₂ is₂

  pub odd-length : length (set l₂ p₂ newline) ≡ length l
  odd-length = two-length (odd_label ++ decimal odd) (even_label ++ decimal even) place l p₁ l₁ p₂ l₂ at₁ is₁ at₂ is₂

-- the last line
module _ (frames bytes passed place : ℕ) (l : List ℕ) (p₁ : ℕ) (l₁ : List ℕ) (p₂ : ℕ) (l₂ : List ℕ) (p₃ : ℕ) (l₃ : List ℕ)
    (at₁ : p₁ ≡ place + length (frames_label ++ decimal frames)) (is₁ : l₁ ≡ sets l place (frames_label ++ decimal frames))
    (at₂ : p₂ ≡ p₁ + length (bytes_label ++ decimal bytes)) (is₂ : l₂ ≡ sets l₁ p₁ (bytes_label ++ decimal bytes))
    (at₃ : p₃ ≡ p₂ + length (passed_label ++ decimal passed)) (is₃ : l₃ ≡ sets l₂ p₂ (passed_label ++ decimal passed)) where
  abbrev rest : List ℕ
  rest = (bytes_label ++ decimal bytes) ++ ((passed_label ++ decimal passed) ++ (newline ∷ []))

  pub last_stored : set l₃ p₃ newline ≡ sets l place (last_line frames bytes passed)
  unfolding last_line
  last_stored =
      two-stored (bytes_label ++ decimal bytes) (passed_label ++ decimal passed) p₁ l₁ p₂ l₂ p₃ l₃ at₂ is₂ at₃ is₃
      ∙ sym (stored-then l (frames_label ++ decimal frames) rest place p₁ l₁ at₁ is₁)

  pub last-place : p₃ + 1 ≡ place + length (last_line frames bytes passed)
  unfolding last_line
  last-place =
      omega (
        arith,
        at₁,
        two-place (bytes_label ++ decimal bytes) (passed_label ++ decimal passed) p₁ l₁ p₂ l₂ p₃ l₃ at₂ is₂ at₃ is₃,
        length-append (frames_label ++ decimal frames) rest,
      )

  pub last-length : length (set l₃ p₃ newline) ≡ length l
  last-length =
      two-length (bytes_label ++ decimal bytes) (passed_label ++ decimal passed) p₁ l₁ p₂ l₂ p₃ l₃ at₂ is₂ at₃ is₃
      ∙ length-stored l place (frames_label ++ decimal frames) l₁ is₁

-- ---- health, of a state within its widths

module _ (s : State) (inside : state_outside s ≡ false) where
  health-is : health_of s ≡ Ok (code_of s)
  health-is = ap (λ t. cond t (refused 5) (Ok (code_of s))) inside

  pub health-code : (h : ℕ) → health_of s ≡ Ok h → h ≡ code_of s
  health-code h e = let both = sym health-is ∙ e in cc

  pub health-refused : (n : Refusal) → health_of s ≡ Err n → ⊥
  health-refused n e = let both = sym health-is ∙ e in absurd (let z : ◌≡◌ {A = ℕ} 0 1 = cc in omega arith)
