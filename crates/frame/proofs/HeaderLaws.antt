-- A header and the data of words 1 and 2 are inverse, by the field law over the two layouts. Assumes nothing.
use mathlib.Core.Path.{◌≡◌, refl, sym, ap, ap₂, ◌∙◌}
use mathlib.Core.Bool.{Bool, true, false}
use mathlib.Core.List.{List, [], ◌∷◌}
use Prim.Native.Nat.{ℕ, zero, suc, ◌+◌, ◌*◌, ◌/◌, ◌%◌, ◌≤◌, ◌<◌}
use native.Mathlib.Nat.{div-one}
use native.Mathlib.Omega.{arith}
use lib.Dec.{eqb}
use lib.ListN.{length, get_or}
use borrow.Author.Tests.{eqb-true, le-ltb}
use Rattle.bits.specs.Bits.{bits, number}
use Rattle.bits.specs.Fields.{field_at, fields_at, packed, Fit}
use Rattle.bits.proofs.FieldLaws.{fits-field, fields-packed, packed-fields, length-packed, fields_bits, number-packed}
use Rattle.std.specs.Prelude.{Ok}
use Rattle.frame.specs.Header.{preamble, preambled, kind_of, n_of, header_of, first_word, second_word, state_of, code_of}
use Rattle.frame.specs.Widths.{header_outside}
use Rattle.frame.specs.Answer.{header_words}
use Rattle.frame.specs.declared.Header.{Header}
use Rattle.frame.proofs.StateLaws.{code_lt, state-code, code-state, state-inside}
use Rattle.frame.proofs.WidthLaws.{Inside, to_inside, from-inside}

-- ---- the two words as layouts

abbrev first_widths : List ℕ
first_widths = 8 ∷ 6 ∷ 10 ∷ []

abbrev second_widths : List ℕ
second_widths = 13 ∷ 3 ∷ 5 ∷ 3 ∷ []

abbrev first_values : Header → List ℕ
first_values h = preamble ∷ h.kind % 64 ∷ h.station ∷ []

abbrev second_values : Header → ℕ → List ℕ
second_values h n = h.z ∷ h.sequence ∷ n ∷ code_of h.state ∷ []

-- the header of the values of the two words
abbrev header_from : List ℕ → List ℕ → Header
header_from vs us = record {
  kind = kind_of (get_or vs 1 0);
  station = get_or vs 2 0;
  z = get_or us 0 0;
  sequence = get_or us 1 0;
  state = state_of (get_or us 3 0);
}

header-from : (first second : List Bool) → header_of first second ≡ header_from (fields_at first_widths 0 first) (fields_at second_widths 0 second)
unfolding header_of
header-from first second = refl

first_fits : (h : Header) → Inside h → Fit first_widths (first_values h)
first_fits h i = (omega arith, (omega arith, (i.station, tt)))

second_fits : (h : Header) (n : ℕ) → Inside h → n ≤ 31 → Fit second_widths (second_values h n)
second_fits h n i l = (i.z, (i.sequence, (omega arith, (code_lt h.state, tt))))

kind-code : (k : ℕ) → 1 ≤ k → k ≤ 64 → kind_of (k % 64) ≡ k
kind-code k a b = go (k % 64) refl
  where
    go : (c : ℕ) → c ≡ k % 64 → kind_of c ≡ k
    go zero e = omega arith
    go (suc c) e = omega arith

code-kind : (c : ℕ) → c < 64 → kind_of c % 64 ≡ c
code-kind zero h = refl
code-kind (suc c) h = omega arith

pub length-first : (h : Header) → length (first_word h) ≡ 24
unfolding first_word
length-first h = length-packed first_widths (first_values h)

pub length-second : (h : Header) (n : ℕ) → length (second_word h n) ≡ 24
unfolding second_word
length-second h n = length-packed second_widths (second_values h n)

-- ---- from header to words and back

pub header-words : (h : Header) (n : ℕ) → header_outside h ≡ false → n ≤ 31 → header_of (first_word h) (second_word h n) ≡ h
unfolding first_word second_word
header-words h n e l =
    let i = to_inside h e in
    header-from (first_word h) (second_word h n)
    ∙ ap₂ header_from (fields-packed first_widths (first_values h) (first_fits h i)) (fields-packed second_widths (second_values h n) (second_fits h n i l))
    ∙ ap₂ (λ k s. record { kind = k; station = h.station; z = h.z; sequence = h.sequence; state = s })
    (kind-code h.kind i.least i.most) (state-code h.state i.state)

pub n-words : (h : Header) (n : ℕ) → header_outside h ≡ false → n ≤ 31 → n_of (second_word h n) ≡ n
unfolding second_word n_of
n-words h n e l = ap (λ vs. get_or vs 2 0) (fields-packed second_widths (second_values h n) (second_fits h n (to_inside h e) l))

pub first-preambled : (h : Header) → header_outside h ≡ false → preambled (first_word h) ≡ true
unfolding first_word preambled
first-preambled h e = ap (λ vs. eqb (get_or vs 0 0) preamble) (fields-packed first_widths (first_values h) (first_fits h (to_inside h e)))

-- ---- from words to header and back

pub first-header : (first second : List Bool) → length first ≡ 24 → preambled first ≡ true → first_word (header_of first second) ≡ first
unfolding first_word header_of preambled
first-header first second l p =
    ap₂ (λ a k. packed first_widths (a ∷ k ∷ field_at 14 10 first ∷ []))
    (sym (eqb-true (field_at 0 8 first) preamble p)) (code-kind (field_at 8 6 first) (fits-field 8 6 first))
    ∙ packed-fields first_widths first l

pub second-header : (first second : List Bool) → length second ≡ 24 → second_word (header_of first second) (n_of second) ≡ second
unfolding second_word header_of n_of
second-header first second l =
    ap (λ c. packed second_widths (field_at 0 13 second ∷ field_at 13 3 second ∷ field_at 16 5 second ∷ c ∷ []))
    (code-state (field_at 21 3 second) (fits-field 21 3 second))
    ∙ packed-fields second_widths second l

-- whatever the words
pub header-inside : (first second : List Bool) → header_outside (header_of first second) ≡ false
unfolding header_of
header-inside first second = from-inside (header_of first second) record {
  least = kind-least (field_at 8 6 first);
  most = kind-most (field_at 8 6 first) (fits-field 8 6 first);
  station = fits-field 14 10 first;
  z = fits-field 0 13 second;
  sequence = fits-field 13 3 second;
  state = state-inside (field_at 21 3 second);
}
  where
    kind-least : (c : ℕ) → 1 ≤ kind_of c
    kind-least zero = omega arith
    kind-least (suc c) = omega arith

    kind-most : (c : ℕ) → c < 64 → kind_of c ≤ 64
    kind-most zero h = omega arith
    kind-most (suc c) h = omega arith

pub n-lt : (second : List Bool) → n_of second < 32
unfolding n_of
n-lt second = fits-field 16 5 second

-- ---- the words as numbers, d1 highest

pub header-number : (first second : ℕ) → record {
  kind = kind_of (first / 1024 % 64);
  station = first % 1024;
  z = second / 2048 % 8192;
  sequence = second / 256 % 8;
  state = state_of (second % 8);
} ≡ header_of (bits 24 first) (bits 24 second)
header-number first second =
    sym (rw (div-one first, div-one second) at
    (header-from (bits 24 first) (bits 24 second) ∙ ap₂ header_from (fields_bits first_widths 0 first) (fields_bits second_widths 0 second)))

pub n-number : (second : ℕ) → second / 8 % 32 ≡ n_of (bits 24 second)
unfolding n_of
n-number second = ap (λ vs. get_or vs 2 0) (sym (fields_bits second_widths 0 second))

pub preamble-number : (first : ℕ) → eqb (first / 65536 % 256) preamble ≡ preambled (bits 24 first)
unfolding preambled
preamble-number first = ap (λ vs. eqb (get_or vs 0 0) preamble) (sym (fields_bits first_widths 0 first))

pub first-number : (h : Header) → Inside h → preamble * 65536 + h.kind % 64 * 1024 + h.station ≡ number (first_word h)
unfolding first_word
first-number h i = omega (arith, number-packed first_widths (first_values h) (first_fits h i))

pub second-number : (h : Header) (n : ℕ) → Inside h → n ≤ 31 → h.z * 2048 + h.sequence * 256 + n * 8 + code_of h.state ≡ number (second_word h n)
unfolding second_word
second-number h n i l = omega (arith, number-packed second_widths (second_values h n) (second_fits h n i l))

-- what is answered for a header within its widths
pub words-answered : (h : Header) (n : ℕ) → header_outside h ≡ false → n ≤ 31 → header_words h n ≡ Ok (number (first_word h), number (second_word h n))
words-answered h n e l = rw (e, le-ltb 31 n l)
