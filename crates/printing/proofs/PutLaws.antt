-- Text put into a buffer: where there is room for it, and where there is none. Assumes nothing.
use mathlib.Core.Path.{◌≡◌, sym, ap, ◌∙◌}
use mathlib.Core.Bool.{true, false, cond}
use mathlib.Core.List.{List, ◌++◌}
use Prim.Native.Nat.{ℕ, ◌+◌, ◌-◌, ◌≤◌, ◌<◌}
use native.Mathlib.Omega.{arith}
use lib.Dec.{ltb}
use borrow.Rule.Slice.PartMut.{put_mid}
use lib.ListN.{length, length-append}
use lib.Seq.{sets}
use borrow.Author.Tests.{ltb-true, ltb-false, lt-ltb, le-ltb}
use Rattle.std.specs.List.{between}
use Rattle.std.proofs.lemmas.List.Edits.{length-between}
use Rattle.printing.specs.Printing.{last_digits, digits_up_to, decimal, printed_by, printed_to}
use Rattle.printing.proofs.StoreLaws.{stored-part, length-stored, stored-both}
use Rattle.printing.proofs.DigitLaws.{length-decimal, decimal-le}
use Rattle.std.specs.Prelude.{Result, Ok, Err}
use Rattle.answer.specs.Table.{refused}
use Rattle.answer.specs.declared.Refusal.{Refusal}

module _ (text : List ℕ) (place : ℕ) (buffer : List ℕ) where
  -- what a call answers and leaves
  abbrev pub Prints : Result ℕ Refusal → List ℕ → Type 0
  Prints r after = (r ≡ printed_by text place buffer) × (after ≡ printed_to text place buffer)

  -- no room
  pub none-put : length buffer < place + length text → Prints (refused 13) buffer
  unfolding printed_by printed_to
  none-put short =
      let is = lt-ltb (length buffer) (place + length text) short in
      (sym (ap (λ t. cond t (refused 13) (Ok (place + length text))) is), sym (ap (λ t. cond t buffer (sets buffer place text)) is))

  module _ (room : place + length text ≤ length buffer) where
    put-at : printed_by text place buffer ≡ Ok (place + length text)
    unfolding printed_by
    put-at = ap (λ t. cond t (refused 13) (Ok (place + length text))) (le-ltb (length buffer) (place + length text) room)

    put-stored : printed_to text place buffer ≡ sets buffer place text
    unfolding printed_to
    put-stored = ap (λ t. cond t buffer (sets buffer place text)) (le-ltb (length buffer) (place + length text) room)

    -- room, and the text stored
    pub all-put : (next : ℕ) → next ≡ place + length text → (after : List ℕ) → after ≡ sets buffer place text → Prints (Ok next) after
    all-put next en after ea = (ap Ok en ∙ sym put-at, ea ∙ sym put-stored)

  -- a caller with room for the longest text learns the place after this one and what is stored, and is not refused
  module _ (most : ℕ) (short : length text ≤ most) (room : place + most ≤ length buffer) (r : Result ℕ Refusal) (after : List ℕ) (is : Prints r after) where
    fits : place + length text ≤ length buffer
    fits = omega arith

    pub told : (next : ℕ) → r ≡ Ok next → (next ≡ place + length text) × (next ≤ place + most) × (after ≡ sets buffer place text)
    told next e =
        let both = sym e ∙ is.0 ∙ put-at fits in
        let at : next ≡ place + length text = cc in
        (at, omega (arith, at), is.1 ∙ put-stored fits)

    pub not-refused : (n : Refusal) → r ≡ Err n → ⊥
    not-refused n e = let both = sym e ∙ is.0 ∙ put-at fits in absurd (let z : ◌≡◌ {A = ℕ} 0 1 = cc in omega arith)

-- ---- a number whose digits are counted

module _ (n count : ℕ) (is : count ≡ digits_up_to 20 n) where
  counted : count ≡ length (decimal n)
  counted = is ∙ sym (length-decimal n)

  -- a part as long as the digits, filled with the last of them
  filled : (place : ℕ) (buffer : List ℕ) → place + count ≤ length buffer → (digits : List ℕ)
      → digits ≡ last_digits (length (between place (place + count) buffer)) n → digits ≡ decimal n
  unfolding decimal
  filled place buffer room digits ed = ed ∙ ap (λ k. last_digits k n) (length-between buffer place (place + count) room ∙ size ∙ is)
    where
      size : place + count - place ≡ count
      size = omega arith

  module _ (place : ℕ) (buffer : List ℕ) where
    pub number_short : ltb (length buffer) (place + count) ≡ true → Prints (decimal n) place buffer (refused 13) buffer
    number_short e = none-put (decimal n) place buffer (omega (arith, counted, ltb-true (length buffer) (place + count) e))

    pub number_put : ltb (length buffer) (place + count) ≡ false → (digits : List ℕ)
        → digits ≡ last_digits (length (between place (place + count) buffer)) n
        → Prints (decimal n) place buffer (Ok (place + count)) (put_mid place (place + count - place) buffer digits)
    unfolding decimal
    number_put e digits ed =
        let room = ltb-false (length buffer) (place + count) e in
        let whole = filled place buffer room digits ed in
        all-put (decimal n) place buffer (omega (arith, counted, room)) (place + count) (ap (λ k. place + k) counted) _
        (stored-part buffer digits place (place + count) (omega (arith, counted, ap length whole)) room ∙ ap (sets buffer place) whole)

    -- behind a label
    module _ (label : List ℕ) where
      abbrev both : List ℕ
      both = label ++ decimal n

      long : length both ≡ length label + count
      long = length-append label (decimal n) ∙ ap (λ k. length label + k) (sym counted)

      pub label-short : ltb (length buffer) (place + length label) ≡ true → Prints both place buffer (refused 13) buffer
      label-short e = none-put both place buffer (omega (arith, long, ltb-true (length buffer) (place + length label) e))

      pub labelled-short : ltb (length buffer) (place + length label + count) ≡ true → Prints both place buffer (refused 13) buffer
      labelled-short e = none-put both place buffer (omega (arith, long, ltb-true (length buffer) (place + length label + count) e))

      module _ (copied : List ℕ) (ec : copied ≡ label) where
        abbrev next : ℕ
        next = place + length label

        abbrev end : ℕ
        end = next + count

        abbrev marked : List ℕ
        marked = put_mid place (next - place) buffer copied

        pub labelled-put : ltb (length buffer) end ≡ false → (digits : List ℕ) → digits ≡ last_digits (length (between next end marked)) n
            → Prints both place buffer (Ok end) (put_mid next (end - next) marked digits)
        labelled-put e digits ed =
            all-put both place buffer (omega (arith, long, room)) end (omega (arith, long)) _
            (stored-both buffer label (decimal n) place marked _ first (stored-part marked digits next end (omega (arith, counted, ap length whole)) fits ∙ ap (sets marked next) whole))
          where
            room : end ≤ length buffer
            room = ltb-false (length buffer) end e

            first : marked ≡ sets buffer place label
            first = stored-part buffer copied place next (omega (arith, ap length ec)) (omega (arith, room)) ∙ ap (sets buffer place) ec

            fits : end ≤ length marked
            fits = omega (arith, room, length-stored buffer place label marked first)

            whole : digits ≡ decimal n
            whole = filled next marked fits digits ed

-- the longest that a number behind a label can be
pub labelled-le : (label : List ℕ) (n : ℕ) → length (label ++ decimal n) ≤ length label + 20
labelled-le label n = omega (arith, length-append label (decimal n), decimal-le n)
