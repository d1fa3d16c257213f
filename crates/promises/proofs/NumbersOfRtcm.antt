-- What the numbers of records say, two's complement, and which N goes with a count, in the table's terms. Assumes nothing.
use mathlib.Core.Path.{◌≡◌, sym, ap, ◌∙◌}
use mathlib.Core.Bool.{false, cond}
use mathlib.Core.Logic.{◌↔◌}
use mathlib.Core.List.{List, [], ◌∷◌}
use Prim.Native.Nat.{ℕ, zero, suc, ◌+◌, ◌-◌, ◌*◌, ◌/◌, ◌^◌, ◌≤◌, ◌<◌}
use native.Mathlib.Nat.{not-suc-le-zero}
use native.Mathlib.Omega.{arith}
use lib.Dec.{ltb, eqb}
use lib.IntN.{ℤ, pos, negsuc, neg_ℤ, ◌-ℤ◌}
use lib.ListN.{get_or}
use borrow.Author.Tests.{ltb-false, lt-ltb, le-ltb, ne_eqb}
use Rattle.answer.specs.Order.{Says, refuses, answers, Check, in_order, NoneApplies}
use Rattle.answer.proofs.OrderLaws.{order-answers, order-told, refuses-apart}
use Rattle.bits.specs.Signed.{signed}
use Rattle.frame.specs.Widths.{state_outside}
use Rattle.frame.specs.declared.Frame.{Frame}
use Rattle.frame.specs.declared.Layout.TheVariants as layout
use Rattle.frame.specs.Layout.{system_of}
use Rattle.record_fields.specs.Coding.{frame_bits}
use Rattle.record_laws.proofs.ListTrips.{CountRead, count-read}
use Rattle.record_texts.proofs.TextCode.{length-le, some_words}
use Rattle.record_stages.specs.Stages.{read_order, says_count, entries_held}
use Rattle.record_stages.specs.Lists.{ListLayout, coding_of, width_of, counted}
use Rattle.record_corrections.specs.Corrections as corrections
use Rattle.record_corrections.specs.Corrections.{count_corrections}
use Rattle.record_healths.specs.Healths.{health_layout, count_healths}
use Rattle.record_nulls.specs.declared.NullRead.TheVariants as null
use Rattle.record_nulls.specs.Nulls.{too_many, read_null, says_null_read}
use Rattle.record_texts.specs.Texts.{length_in, text_order, read_text}
use Rattle.record_stages.specs.declared.Count.{Count}
use Rattle.record_stages.specs.declared.Count.TheVariants as count
use Rattle.record_values.specs.Values.{Reading, up_to, no_limit, db_hz, not_tracked, signed_value, hundredths_of, limits, udre_value, cn0_value}
use Rattle.record_values.specs.Answer.{cn0_db_hz, says_strength}
use Rattle.record_values.proofs.Readings.{lowest-stops, only-lowest-stops, exact-value}
use Rattle.record_values.proofs.LimitLaws.{limit-whole}
use Rattle.record_values.proofs.AnswerLaws.{udre-says, cn0-says}
use Rattle.promises.specs.ThoseOfRtcm.{SaysExactly, LimitIs}
use Rattle.promises.proofs.CarriesItsNumber.{says-inj, none_told, carries-its-number}

-- a value that an order says is the one that was ready
value-told : {A : Type 0} {s : Says A} (cs : List Check) (value v : A) → s ≡ in_order cs refuses (answers value) → s ≡ answers v → value ≡ v
value-told cs value v is e = says-inj (order-told refuses (answers value) (answers v) (λ n. refuses-apart n v) cs (sym is ∙ e)).1

pub says-exactly : (h small large : ℕ) (says : ℕ → ℤ → Says Reading)
    → ((scale : ℕ) (z : ℤ) → says scale z ≡ in_order ((ltb 1 scale, 10) ∷ []) refuses (answers (signed_value h small large scale z)))
    → SaysExactly h small large says
says-exactly h small large says is = record {
  stops = λ scale l.
      is scale (neg_ℤ (pos (2 ^ h))) ∙ order-answers refuses _ ((ltb 1 scale, 10) ∷ []) (le-ltb 1 scale l, tt) ∙ ap answers (lowest-stops h small large scale);
  only = λ scale z e. only-lowest-stops h small large scale z (value-told ((ltb 1 scale, 10) ∷ []) _ _ (is scale z) e);
  exact = λ scale z v l e. exact-value h small large scale z v l (value-told ((ltb 1 scale, 10) ∷ []) _ _ (is scale z) e);
}

-- what an order says where nothing of it applies
pub said-value : {A : Type 0} {s : Says A} (cs : List Check) (value : A) → s ≡ in_order cs refuses (answers value) → NoneApplies cs → s ≡ answers value
said-value cs value is none = is ∙ order-answers refuses (answers value) cs none

pub udre-is : (code limit : ℕ) → eqb code 3 ≡ false → ltb 3 code ≡ false → get_or limits code 0 ≡ limit → LimitIs code limit
unfolding udre_value
udre-is code limit not3 few is s inside = (
  get_or limits code 0 * hundredths_of s / 100,
  (
    said-value ((state_outside s, 5) ∷ (ltb 3 code, 10) ∷ []) (udre_value s code) (udre-says s code) (inside, (few, tt))
        ∙ ap (λ t. answers (cond t no_limit (up_to (get_or limits code 0 * hundredths_of s / 100)))) not3,
    limit-whole code (hundredths_of s) ∙ ap (λ n. n * hundredths_of s) is,
  ),
)

pub cn0-is : (code : ℕ) → 1 ≤ code → code ≤ 31 → says_strength (cn0_db_hz code) ≡ answers (db_hz (24 + code))
cn0-is code some few =
    said-value ((ltb 31 code, 10) ∷ []) (cn0_value code) (cn0-says code) (le-ltb 31 code few, tt)
    ∙ ap (λ t. answers (cond t not_tracked (db_hz (24 + code)))) (ne_eqb code 0 (λ z. omega arith))

-- ---- two's complement

minus : (n m : ℕ) → n < m → pos n -ℤ pos m ≡ negsuc (m - suc n)
minus n zero l = absurd (not-suc-le-zero l)
minus n (suc m) l = ap (λ t. cond t (negsuc (suc m - suc n)) (pos (n - suc m))) (lt-ltb n (suc m) l)

pub signed_above : (h n : ℕ) → 2 ^ h ≤ n → n < 2 ^ suc h → signed h n ≡ pos n -ℤ pos (2 ^ suc h)
unfolding signed
signed_above h n l m = ap (λ t. cond t (pos n) (negsuc (2 ^ suc h - suc n))) (le-ltb n (2 ^ h) l) ∙ sym (minus n (2 ^ suc h) m)

pub signed_below : (h n : ℕ) → n < 2 ^ h → signed h n ≡ pos n
unfolding signed
signed_below h n l = ap (λ t. cond t (pos n) (negsuc (2 ^ suc h - suc n))) (lt-ltb n (2 ^ h) l)

pub count-told : (x : Count) (c : ℕ) → says_count x ≡ answers c → x ≡ count.Of c
count-told (count.Of b) c e = ap count.Of (says-inj e)
count-told (count.Refused n) c e = absurd (refuses-apart n c e)

pub lists-fit : (L : ListLayout) (f : Frame) (c : ℕ) → says_count (counted L f) ≡ answers c → f.n ≡ (c * width_of L f.header + 23) / 24
lists-fit L f c e = sym (count-read L.asked (coding_of L f.header) f c (count-told (counted L f) c e)).up

pub corrections-fit : (f : Frame) (c k : ℕ) → says_count (count_corrections f) ≡ answers c
    → ((c ≡ 3 * k) ↔ (f.n ≡ 5 * k)) × ((c ≡ 3 * k + 1) ↔ (f.n ≡ 5 * k + 2)) × ((c ≡ 3 * k + 2) ↔ (f.n ≡ 5 * k + 4))
unfolding count_corrections
corrections-fit f c k e = by f.n r.held r.up
  where
    r : CountRead layout.Correction (corrections.coding (system_of f.header.kind)) f c
    r = count-read layout.Correction (corrections.coding (system_of f.header.kind)) f c (count-told (count_corrections f) c e)

    by : (n : ℕ) → entries_held 40 n ≡ c → (c * 40 + 23) / 24 ≡ n
        → ((c ≡ 3 * k) ↔ (n ≡ 5 * k)) × ((c ≡ 3 * k + 1) ↔ (n ≡ 5 * k + 2)) × ((c ≡ 3 * k + 2) ↔ (n ≡ 5 * k + 4))
    by n held up = ((λ x. omega arith, λ y. omega arith), (λ x. omega arith, λ y. omega arith), (λ x. omega arith, λ y. omega arith))

pub healths-fit : (f : Frame) (c : ℕ) → says_count (count_healths f) ≡ answers c → f.n ≡ c
unfolding count_healths
healths-fit f c e = by f.n (lists-fit health_layout f c e)
  where
    by : (n : ℕ) → n ≡ (c * 24 + 23) / 24 → n ≡ c
    by n up = omega arith

pub null-fit : (f : Frame) (n : ℕ) → says_null_read (read_null f) ≡ answers n → (f.n ≡ n) × (n ≤ 1)
unfolding read_null
null-fit f n e = (is, omega (arith, sym is, ltb-false 1 f.n none.1.1.1.0))
  where
    order : List Check
    order = read_order layout.Null f (too_many f.n) []

    none : NoneApplies order
    none = none_told (carries-its-number.read-null f) n e

    is : f.n ≡ n
    is = says-inj (ap says_null_read (sym (order-answers null.Refused (null.Null f.n) order none)) ∙ e)

pub text-fit : (f : Frame) (buffer : List ℕ) (c : ℕ) → says_count (read_text f buffer) ≡ answers c
    → (1 ≤ f.n) × (f.n ≤ 30) × (c ≤ 3 * f.n) × (3 * f.n ≤ c + 2)
unfolding read_text
text-fit f buffer c e =
    let some = some_words f.n none.1.1.1.0 in
    let long = length-le (3 * f.n) (frame_bits f) in
    (some.0, some.1, omega (arith, long.0, is), omega (arith, long.1, is))
  where
    none : NoneApplies (text_order f buffer)
    none = none_told (carries-its-number.read-text f buffer) c e

    is : length_in f ≡ c
    is = says-inj (ap says_count (sym (order-answers count.Refused (count.Of (length_in f)) (text_order f buffer) none)) ∙ e)
