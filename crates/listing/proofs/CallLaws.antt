-- The public calls against their definitions: the orders of refusals, and what a call that is carried out leaves. Assumes nothing.
use Rattle.std.proofs.Common.{◌≡◌, ℕ, ◌+◌, ◌/◌, ◌<◌, ◌≤◌, true, cond, ltb, List, [], ◌∷◌, ◌++◌, length, sym, ap, ◌∙◌, subst, zero-add, arith, length-append, le-ltb, lt-ltb}
use lib.Seq.{sets}
use Rattle.answer.specs.Order.{Check, in_order}
use Rattle.answer.proofs.OrderLaws.{order-map, order-append}
use Rattle.reader.specs.Reading.{past, busy, end_to, ended_by}
use Rattle.reader.specs.declared.Reader.{Reader}
use Rattle.reader.specs.declared.Next.{Next}
use Rattle.reader.specs.declared.Answer.{Answer}
use Rattle.reader.specs.declared.Answer.TheVariants.{Done, Refused}
use Rattle.printing.proofs.StoreLaws.{stored-then}
use Rattle.listing.specs.Listing.{Lines, lines_of, lined_by, line_room, ready_by, refused_listing, listed, piece_by, piece_text}
use Rattle.listing.specs.Listing.{end_room, ended_on, total_lines, final_lines, finish_by, finish_text}
use Rattle.listing.specs.declared.Listing.{Listing}
use Rattle.listing.specs.declared.Listed.{Listed}
use Rattle.listing.specs.declared.Lined.{Lined}

-- ---- an order in two stages: an answer to the first, then 13

abbrev on_answer : {A : Type 0} → (ℕ → A) → A → Answer → A
on_answer refuse done Done = done
on_answer refuse done (Refused n) = refuse n

module _ {A : Type 0} (refuse : ℕ → A) (done : A) (cs : List Check) (room least : ℕ) (a : Answer) (is : a ≡ in_order cs Refused Done) where
  abbrev short : List Check
  short = (ltb room least, 13) ∷ []

  staged : in_order (cs ++ short) refuse done ≡ on_answer refuse (in_order short refuse done) a
  staged =
      order-append cs short refuse done
      ∙ sym (order-map (on_answer refuse (in_order short refuse done)) cs Refused Done)
      ∙ ap (on_answer refuse (in_order short refuse done)) (sym is)

  stage-refused : (n : ℕ) → a ≡ Refused n → in_order (cs ++ short) refuse done ≡ refuse n
  stage-refused n e = staged ∙ ap (on_answer refuse (in_order short refuse done)) e

  stage-short : a ≡ Done → room < least → in_order (cs ++ short) refuse done ≡ refuse 13
  stage-short e h = staged ∙ ap (on_answer refuse (in_order short refuse done)) e ∙ ap (λ t. cond t (refuse 13) done) (lt-ltb room least h)

  stage-done : a ≡ Done → least ≤ room → in_order (cs ++ short) refuse done ≡ done
  stage-done e h = staged ∙ ap (on_answer refuse (in_order short refuse done)) e ∙ ap (λ t. cond t (refuse 13) done) (le-ltb room least h)

-- a refusal uses and writes nothing
pub nothing : (l : Listing) (n : ℕ) (r : Listed) → r ≡ refused_listing l n → (a b : ℕ) → (r.used ≤ a) × (r.written ≤ b)
nothing l n r e a b = (subst (λ (x : Listed). x.used ≤ a) (sym e) (omega arith), subst (λ (x : Listed). x.written ≤ b) (sym e) (omega arith))

-- ---- a piece

module _ (l : Listing) (bs out : List ℕ) (a : Answer) (is : a ≡ ready_by l.reader) where
  lines : Lines
  lines = lines_of (length out / line_room) l bs

  ready : List Check
  ready = (past l.reader, 5) ∷ (l.reader.ended, 3) ∷ []

  pub piece-refused : (n : ℕ) → a ≡ Refused n → (r : Listed) → r ≡ refused_listing l n → (r ≡ piece_by l bs (length out)) × (out ≡ piece_text l bs out)
  unfolding piece_by piece_text lines ready
  piece-refused n e r k = (
    k ∙ sym (stage-refused (refused_listing l) (listed lines) ready (length out) line_room a is n e),
    sym (stage-refused (λ m. out) (sets out 0 lines.text) ready (length out) line_room a is n e),
  )

  pub piece-short : a ≡ Done → length out < line_room → (r : Listed) → r ≡ refused_listing l 13 → (r ≡ piece_by l bs (length out)) × (out ≡ piece_text l bs out)
  unfolding piece_by piece_text lines ready
  piece-short e h r k = (
    k ∙ sym (stage-short (refused_listing l) (listed lines) ready (length out) line_room a is e h),
    sym (stage-short (λ m. out) (sets out 0 lines.text) ready (length out) line_room a is e h),
  )

  pub piece-done : a ≡ Done → line_room ≤ length out → (lined : Lined) → lined ≡ lined_by (lines_of (length out / line_room) l bs)
      → (out' : List ℕ) → out' ≡ sets out 0 (lines_of (length out / line_room) l bs).text
      → (record { answer = Done; used = lined.used; written = lined.written; listing = lined.listing } ≡ piece_by l bs (length out))
      × (out' ≡ piece_text l bs out)
  unfolding piece_by piece_text lines ready lined_by
  piece-done e h lined k out' o = (
    ap (λ (x : Lined). record { answer = Done; used = x.used; written = x.written; listing = x.listing }) k
        ∙ sym (stage-done (refused_listing l) (listed lines) ready (length out) line_room a is e h),
    o ∙ sym (stage-done (λ m. out) (sets out 0 lines.text) ready (length out) line_room a is e h),
  )

-- ---- the end

end-answer : (r : Reader) → (ended_by r).answer ≡ in_order (busy r) Refused Done
unfolding ended_by
end-answer r =
    order-map (λ (x : Next). x.answer) (busy r) (λ n. record { answer = Refused n; reader = r })
    (record { answer = Done; reader = record { cells = r.cells; candidate = end_to r.cells r.candidate; ended = true } })

module _ (l : Listing) (out : List ℕ) (e : Next) (is : e ≡ ended_by l.reader) where
  answer-is : e.answer ≡ in_order (busy l.reader) Refused Done
  answer-is = ap (λ (x : Next). x.answer) is ∙ end-answer l.reader

  pub finish-refused : (n : ℕ) → e.answer ≡ Refused n → (r : Listed) → r ≡ refused_listing l n → (r ≡ finish_by l (length out)) × (out ≡ finish_text l out)
  unfolding finish_by finish_text
  finish-refused n f r k = (
    k ∙ sym (stage-refused (refused_listing l) (listed (final_lines l)) (busy l.reader) (length out) end_room e.answer answer-is n f),
    sym (stage-refused (λ m. out) (sets out 0 (final_lines l).text) (busy l.reader) (length out) end_room e.answer answer-is n f),
  )

  pub finish-short : e.answer ≡ Done → length out < end_room → (r : Listed) → r ≡ refused_listing l 13 → (r ≡ finish_by l (length out)) × (out ≡ finish_text l out)
  unfolding finish_by finish_text
  finish-short f h r k = (
    k ∙ sym (stage-short (refused_listing l) (listed (final_lines l)) (busy l.reader) (length out) end_room e.answer answer-is f h),
    sym (stage-short (λ m. out) (sets out 0 (final_lines l).text) (busy l.reader) (length out) end_room e.answer answer-is f h),
  )

  module _ (f : e.answer ≡ Done) (h : end_room ≤ length out) (next : Listing) (n : next ≡ ended_on l e.reader)
      (lined : Lined) (k : lined ≡ lined_by (lines_of 16 next [])) (out₁ : List ℕ) (o₁ : out₁ ≡ sets out 0 (lines_of 16 next []).text)
      (written : ℕ) (w : written ≡ lined.written + length (total_lines lined.listing))
      (out₂ : List ℕ) (o₂ : out₂ ≡ sets out₁ lined.written (total_lines lined.listing)) where
    x : Lines
    x = lines_of 16 next []

    final : Lines → Lines
    final y = record { text = y.text ++ total_lines y.listing; used = 0; listing = y.listing }

    final-is : final x ≡ final_lines l
    unfolding x final final_lines
    final-is = ap (λ (m : Listing). final (lines_of 16 m [])) (n ∙ ap (λ (x : Next). ended_on l x.reader) is)

    last : Lined → List ℕ
    last y = total_lines y.listing

    answered : record { answer = Done; used = 0; written = written; listing = lined.listing } ≡ listed (final x)
    unfolding final x lined_by last
    answered =
        ap (λ j. record { answer = Done; used = 0; written = j; listing = lined.listing }) w
        ∙ ap (λ (y : Lined). record { answer = Done; used = 0; written = y.written + length (last y); listing = y.listing }) k
        ∙ ap (λ j. record { answer = Done; used = 0; written = j; listing = x.listing }) (sym (length-append x.text (last (lined_by x))))

    stored : out₂ ≡ sets out 0 (final x).text
    unfolding final x lined_by last
    stored =
        o₂ ∙ ap (λ (y : Lined). sets out₁ y.written (last y)) k
        ∙ sym (stored-then out x.text (last (lined_by x)) 0 (length x.text) out₁ (sym (zero-add (length x.text))) o₁)

    pub finish-done : (record { answer = Done; used = 0; written = written; listing = lined.listing } ≡ finish_by l (length out)) × (out₂ ≡ finish_text l out)
    unfolding finish_by finish_text
    finish-done = (
      answered ∙ ap listed final-is
          ∙ sym (stage-done (refused_listing l) (listed (final_lines l)) (busy l.reader) (length out) end_room e.answer answer-is f h),
      stored ∙ ap (λ y. sets out 0 y.text) final-is
          ∙ sym (stage-done (λ m. out) (sets out 0 (final_lines l).text) (busy l.reader) (length out) end_room e.answer answer-is f h),
    )
