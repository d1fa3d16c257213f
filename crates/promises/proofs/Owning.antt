-- What an answer writes: its bytes stand before the rest of the buffer, or between two places. Laws over any order. Assumes nothing.
use mathlib.Core.Path.{◌≡◌, refl, sym, ap, subst, ◌∙◌}
use mathlib.Core.List.{List, ◌++◌, append_assoc}
use Prim.Native.Nat.{ℕ, ◌+◌, ◌≤◌}
use native.Mathlib.Omega.{arith}
use native.Mathlib.Nat.{zero-add}
use lib.ListN.{length, take, drop, length-append, length-drop}
use lib.Seq.{sets, sets-eq, length-sets, take_at, drop_at, length-take-le}
use borrow.Author.Tests.{ltb-false}
use Rattle.answer.specs.Order.{Says, answers, Check, in_order, NoneApplies}
use Rattle.answer.proofs.OrderLaws.{order-answers}
use Rattle.reader.specs.Reading.{says_answer}
use Rattle.printing.specs.Printing.{print_order, printed_by, printed_to, says_printed}
use Rattle.listing.specs.Listing.{Lines, refused_listing, listed}
use Rattle.listing.specs.declared.Listing.{Listing}
use Rattle.listing.specs.declared.Listed.{Listed}
use Rattle.promises.specs.CarriesItsNumber.{Ordered}
use Rattle.promises.specs.ChangesNeither.{OnlyFirst, OnlyBetween, Owns}
use Rattle.promises.proofs.CarriesItsNumber.{carries-its-number, says-inj, none_told}
use Rattle.std.specs.Prelude.{Ok}
use Rattle.answer.specs.Table.{refused}

-- the answer that was ready says the value, and the buffer that was ready is left
pub owns : {A X : Type 0} {numbers : List ℕ} {cs : List Check} (says : X → Says A) (refuse : ℕ → X) (answer : X) (value : A)
    → Ordered numbers cs (says (in_order cs refuse answer)) → says answer ≡ answers value
    → (own : A → ℕ) (buffer after : List ℕ) → (NoneApplies cs → OnlyFirst (own value) after buffer)
    → Owns (says (in_order cs refuse answer)) own (in_order cs (λ n. buffer) after) buffer
owns {cs} says refuse answer value o ready own buffer after only v e =
    subst (λ b. OnlyFirst (own v) b buffer) (sym (order-answers (λ n. buffer) after cs none))
    (subst (λ w. OnlyFirst (own w) after buffer) (says-inj (sym ready ∙ ap says (sym (order-answers refuse answer cs none)) ∙ e)) (only none))
  where
    none : NoneApplies cs
    none = none_told o v e

-- bytes in front of what stood behind them
pub first-bytes : (bytes buffer : List ℕ) (k : ℕ) → length bytes ≡ k → k ≤ length buffer → OnlyFirst k (bytes ++ drop k buffer) buffer
first-bytes bytes buffer k e h = record {
  long = omega (arith, length-append bytes (drop k buffer), length-drop k buffer);
  rest = drop_at bytes (drop k buffer) k e;
}

-- bytes stored one by one from the start
first-stored : (out text : List ℕ) → length text ≤ length out → OnlyFirst (length text) (sets out 0 text) out
first-stored out text h = record {
  long = length-sets out 0 text;
  rest =
      ap (drop (length text)) (sets-eq text out 0 fits) ∙ drop_at text (drop (0 + length text) out) (length text) refl
      ∙ ap (λ k. drop k out) (zero-add (length text));
}
  where
    fits : 0 + length text ≤ length out
    fits = omega arith

-- bytes stored one by one from a place on
pub between-stored : (text : List ℕ) (place : ℕ) (buffer : List ℕ) → place + length text ≤ length buffer
    → OnlyBetween place (place + length text) (sets buffer place text) buffer
between-stored text place buffer fits = record {
  long = length-sets buffer place text;
  front = ap (take place) (parts ∙ append_assoc (take place buffer) text behind) ∙ take_at (take place buffer) (text ++ behind) place head;
  rest = ap (drop (place + length text)) parts ∙ drop_at (take place buffer ++ text) behind (place + length text) both;
}
  where
    behind : List ℕ
    behind = drop (place + length text) buffer

    parts : sets buffer place text ≡ (take place buffer ++ text) ++ drop (place + length text) buffer
    parts = sets-eq text buffer place fits

    head : length (take place buffer) ≡ place
    head = length-take-le place buffer (omega arith)

    both : length (take place buffer ++ text) ≡ place + length text
    both = omega (arith, length-append (take place buffer) text, head)

-- text that was printed is what stands between its place and the answered one
pub print-owns : (text : List ℕ) (place : ℕ) (buffer : List ℕ) (next : ℕ) → says_printed (printed_by text place buffer) ≡ answers next
    → OnlyBetween place next (printed_to text place buffer) buffer
unfolding printed_by printed_to
print-owns text place buffer next e =
    subst (λ b. OnlyBetween place next b buffer) (sym (order-answers (λ n. buffer) (sets buffer place text) (print_order text place buffer) none))
    (subst (λ j. OnlyBetween place j (sets buffer place text) buffer) (says-inj at) (between-stored text place buffer fits))
  where
    none : NoneApplies (print_order text place buffer)
    none = none_told (carries-its-number.print text place buffer) next e

    fits : place + length text ≤ length buffer
    fits = ltb-false (length buffer) (place + length text) none.0

    at : answers (place + length text) ≡ answers next
    at = ap says_printed (sym (order-answers refused (Ok (place + length text)) (print_order text place buffer) none)) ∙ e

-- the same of the listing's calls, which answer how much they wrote
pub listing-owns : {numbers : List ℕ} {cs : List Check} (l : Listing) (x : Lines) (out : List ℕ)
    → Ordered numbers cs (says_answer (in_order cs (refused_listing l) (listed x)).answer) → (NoneApplies cs → length x.text ≤ length out)
    → Owns (says_answer (in_order cs (refused_listing l) (listed x)).answer) (λ v. (in_order cs (refused_listing l) (listed x)).written)
    (in_order cs (λ n. out) (sets out 0 x.text)) out
listing-owns {cs} l x out o room v e =
    subst (λ b. OnlyFirst (in_order cs (refused_listing l) (listed x)).written b out) (sym (order-answers (λ n. out) (sets out 0 x.text) cs none))
    (subst (λ (y : Listed). OnlyFirst y.written (sets out 0 x.text) out) (sym (order-answers (refused_listing l) (listed x) cs none))
    (first-stored out x.text (room none)))
  where
    none : NoneApplies cs
    none = none_told o v e
