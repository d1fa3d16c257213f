-- Types 3 and 32: what the layout owes; what can be sent is made, made then read, read then made; what a frame holds is read. Assumes nothing.
use mathlib.Core.Path.{◌≡◌, refl, sym, ap, ap₂, subst, ◌∙◌}
use mathlib.Core.Bool.{Bool, true, false, ◌||◌, true≢false}
use mathlib.Core.List.{List, [], ◌∷◌}
use Prim.Native.Nat.{ℕ, ◌*◌, ◌^◌, ◌<◌}
use native.Mathlib.Omega.{arith}
use lib.IntN.{ℤ, pos, negsuc}
use lib.Signed.{mag}
use lib.Dec.{ltb}
use lib.ListN.{length, take, drop, get_or, drop_of_length-le}
use borrow.Author.Tests.{ltb-true, lt-ltb}
use Rattle.answer.specs.Order.{NoneApplies}
use Rattle.answer.proofs.OrderLaws.{order-answers, order-told}
use Rattle.bits.specs.Bits.{bits}
use Rattle.bits.specs.Fields.{Fit}
use Rattle.bits.specs.Rows.{data_bits, fill_of, FillAfter}
use Rattle.bits.specs.Signed.{signed, code}
use Rattle.bits.proofs.FieldLaws.{fits-fields}
use Rattle.bits.proofs.SignedLaws.{code-signed, signed-code, mag-signed, code_lt}
use Rattle.bits.proofs.WordLaws.{length-data}
use Rattle.frame.specs.Frames.{framed, bare, data_words}
use Rattle.frame.specs.Widths.{outside}
use Rattle.frame.specs.declared.Header.{Header}
use Rattle.frame.specs.declared.Frame.{Frame}
use Rattle.frame.specs.declared.Layout.TheVariants as layout
use Rattle.frame.proofs.FrameLaws.{header-within, length-data as length-data-words}
use Rattle.frame.proofs.WidthLaws.{both_false}
use Rattle.record_fields.specs.Coding.{frame_bits, frame_with}
use Rattle.record_fields.proofs.TableRound.{fit-below, fit-places}
use Rattle.record_fields.proofs.Round.{made-n, made_inside, made-entry, made_again}
use Rattle.record_fields.proofs.Faithful.{Faithful}
use Rattle.record_stages.specs.Stages.{wrong_size, read_order, make_order, refused_made, done_made, IsMade}
use Rattle.record_stages.proofs.StageLaws.{done-apart, done-frame}
use Rattle.record_positions.specs.declared.Position.{Position}
use Rattle.record_positions.specs.declared.PositionRead.TheVariants as read
use Rattle.record_positions.specs.Positions.{widths, meant, codes, coding, fill, too_low, out_of_range, position_in, read_position, make_position}
use Rattle.record_positions.specs.Positions.{Typed, PositionMade, lowest, InRange, SendablePosition, HoldsPosition}
use Rattle.record_laws.proofs.SentLaws.{make-passes, make-passed, read-passes, read-passed, frame-for, right-size, told-size}

-- ---- the three laws on codes

faithful : Faithful coding Typed
faithful = record { meant-codes = meant-codes; fit-codes = fit-codes; codes-meant = codes-meant }
  where
    meant-codes : (p : Position) → Typed p → meant (codes p) ≡ p
    meant-codes p t =
        ap₂ (λ a b. record { x = a; y = b; z = signed 31 (code 31 p.z) }) (signed-code 31 p.x t.x) (signed-code 31 p.y t.y)
        ∙ ap (λ c. record { x = p.x; y = p.y; z = c }) (signed-code 31 p.z t.z)

    fit-codes : (p : Position) → Typed p → Fit widths (codes p)
    fit-codes p t = (code_lt 31 p.x t.x, (code_lt 31 p.y t.y, (code_lt 31 p.z t.z, tt)))

    codes-meant : (vs : List ℕ) → Fit widths vs → codes (meant vs) ≡ vs
    codes-meant vs f =
        let at = fit-below widths vs f in
        rw (code-signed 31 (get_or vs 0 0) (at 0), code-signed 31 (get_or vs 1 0) (at 1), code-signed 31 (get_or vs 2 0) (at 2)) (fit-places widths vs f)

-- ---- what refusal 10 says of a position, both ways

low-fine : (z : ℤ) → mag z < 2 ^ 31 → (z ≡ lowest → ⊥) → too_low z ≡ false
unfolding too_low
low-fine (pos n) l h = refl
low-fine (negsuc n) l h = go (ltb 2147483646 n) refl
  where
    is : ltb 2147483646 n ≡ true → n ≡ 2147483647
    is e = omega (arith, ltb-true 2147483646 n e, l)

    go : (t : Bool) → ltb 2147483646 n ≡ t → t ≡ false
    go true e = absurd (h (ap negsuc (is e)))
    go false e = refl

low_told : (z : ℤ) → too_low z ≡ false → z ≡ lowest → ⊥
unfolding too_low
low_told z e q = true≢false (sym (lt-ltb 2147483646 2147483647 (omega arith)) ∙ ap too_low (sym q) ∙ e)

range-fine : (p : Position) → Typed p → InRange p → out_of_range p ≡ false
unfolding out_of_range
range-fine p t r = rw (low-fine p.x t.x r.x, low-fine p.y t.y r.y, low-fine p.z t.z r.z)

range-told : (p : Position) → out_of_range p ≡ false → InRange p
unfolding out_of_range
range-told p e =
    let a = both_false (too_low p.x || too_low p.y) (too_low p.z) e in
    let b = both_false (too_low p.x) (too_low p.y) a.0 in
    record { x = low_told p.x b.0; y = low_told p.y b.1; z = low_told p.z a.1 }

-- what is read has the types
read-typed : (f : Frame) → Typed (position_in f)
read-typed f =
    let fit = fits-fields widths (0 * 96) (frame_bits f) in
    record { x = mag-signed 31 _ fit.0; y = mag-signed 31 _ fit.1.0; z = mag-signed 31 _ fit.1.1.0 }

-- ---- the theorems

apart : (n : ℕ) (p : Position) → read.Refused n ≡ read.At p → ⊥
apart n p q = let z : ◌≡◌ {A = ℕ} 0 1 = cc in omega arith

abbrev made : Header → Position → Frame
made h p = frame_with fill coding h (p ∷ [])

-- READ: of a frame that holds a position it is read, not refused, and of no other frame
pub position-read : (f : Frame) → HoldsPosition f → read_position f ≡ read.At (position_in f)
unfolding read_position
position-read f s =
    order-answers read.Refused (read.At (position_in f)) (read_order layout.Position f (wrong_size 4 f.n) ((out_of_range (position_in f), 10) ∷ []))
    (read-passes layout.Position f (wrong_size 4 f.n) ((out_of_range (position_in f), 10) ∷ []) s.frame (right-size 4 f.n s.n)
    (range-fine (position_in f) (read-typed f) s.range, tt))

pub position-held : (f : Frame) (p : Position) → read_position f ≡ read.At p → HoldsPosition f
unfolding read_position
position-held f p e =
    let t = (order-told read.Refused (read.At (position_in f)) (read.At p) (λ n. apart n p)
    (read_order layout.Position f (wrong_size 4 f.n) ((out_of_range (position_in f), 10) ∷ [])) e).0 in
    record {
      frame = read-passed layout.Position f (wrong_size 4 f.n) ((out_of_range (position_in f), 10) ∷ []) t;
      n = told-size 4 f.n t.1.1.1.0;
      range = range-told (position_in f) t.1.1.1.1.0;
    }

module _ (h : Header) (p : Position) where
  told : (f : Frame) → make_position h p ≡ done_made f
      → NoneApplies (make_order layout.Position h ((out_of_range p, 10) ∷ [])) × (done_made (made h p) ≡ done_made f)
  unfolding make_position
  told f e = order-told refused_made (done_made (made h p)) (done_made f) (λ n. done-apart n f) (make_order layout.Position h ((out_of_range p, 10) ∷ [])) e

  -- only what can be sent is made
  pub position-told : (f : Frame) → make_position h p ≡ done_made f → SendablePosition h p
  position-told f e =
      let t = (told f e).0 in
      record { header = make-passed layout.Position h ((out_of_range p, 10) ∷ []) t; range = range-told p t.1.1.1.0 }

  module _ (typed : Typed p) (s : SendablePosition h p) where
    header_is : (made h p).header ≡ h
    unfolding frame_with framed
    header_is = refl

    n-is : (made h p).n ≡ 4
    n-is = made-n coding fill h (p ∷ [])

    position-is : position_in (made h p) ≡ p
    position-is = made-entry coding Typed faithful fill h (p ∷ []) 0 p (typed, tt) (omega arith)

    within : outside (made h p) ≡ false
    within = made_inside coding fill h (p ∷ []) s.header.inside (omega arith)

    -- the frame holds the position
    holds : HoldsPosition (made h p)
    holds = record {
      frame = frame-for layout.Position (made h p) h header_is within s.header;
      n = n-is;
      range = subst InRange (sym position-is) s.range;
    }

    made_reads : PositionMade h p (made h p)
    made_reads = record { header = header_is; inside = within; reads = position-read (made h p) holds ∙ ap read.At position-is; n = n-is }

    -- SENT: what can be sent is made, not refused, and reads back
    pub position-sent : IsMade (make_position h p) (PositionMade h p)
    unfolding make_position
    position-sent = record {
      frame = made h p;
      done = order-answers refused_made (done_made (made h p)) (make_order layout.Position h ((out_of_range p, 10) ∷ []))
          (make-passes layout.Position h ((out_of_range p, 10) ∷ []) s.header (range-fine p typed s.range, tt));
      reads = made_reads;
    }

-- MADE, THEN READ
pub position-made-read : (h : Header) (p : Position) (f : Frame) → Typed p → make_position h p ≡ done_made f → PositionMade h p f
position-made-read h p f typed e = subst (PositionMade h p) (done-frame (told h p f e).1) (made_reads h p typed (position-told h p f e))

-- READ, THEN MADE, all but the pair: there is no fill
pub position-read-made : (f : Frame) (p : Position) → length f.words ≡ 31 → read_position f ≡ read.At p → make_position f.header p ≡ done_made (bare f)
unfolding make_position read_position frame_bits fill_of
position-read-made f p full e =
    order-answers refused_made (done_made (frame_with fill coding f.header (p ∷ [])))
    (make_order layout.Position f.header ((out_of_range p, 10) ∷ []))
    (header-within f t.0.0, (t.0.1.0, (t.0.1.1.0, (ap out_of_range (sym is) ∙ t.0.1.1.1.1.0, tt))))
    ∙ ap (λ q. done_made (frame_with fill coding f.header (q ∷ []))) (sym is)
    ∙ ap done_made (made_again coding Typed faithful fill f t.0.0 full 1 (sym four) none)
  where
    at-inj : (a b : Position) → read.At a ≡ read.At b → a ≡ b
    at-inj a b q = cc

    t : NoneApplies (read_order layout.Position f (wrong_size 4 f.n) ((out_of_range (position_in f), 10) ∷ [])) × (read.At (position_in f) ≡ read.At p)
    t = order-told read.Refused (read.At (position_in f)) (read.At p) (λ n. apart n p)
        (read_order layout.Position f (wrong_size 4 f.n) ((out_of_range (position_in f), 10) ∷ [])) e

    is : position_in f ≡ p
    is = at-inj (position_in f) p t.1

    four : f.n ≡ 4
    four = told-size 4 f.n t.0.1.1.1.0

    rest : drop 96 (data_bits (data_words f)) ≡ []
    rest = drop_of_length-le (data_bits (data_words f)) {i = 96} (omega (arith, length-data (data_words f), length-data-words f t.0.0 full, four))

    none : FillAfter fill 96 (frame_bits f)
    none = rest ∙ sym (ap (λ l. take (length l) (bits 24 fill)) rest)
