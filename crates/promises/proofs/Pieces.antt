-- Piece after piece: what was written tells of the frames handed out, and what is left is what was not used. Assumes nothing.
use mathlib.Core.Path.{◌≡◌, refl, sym, ap₂, subst, subst₂, ◌∙◌}
use mathlib.Core.Bool.{Bool, true, false}
use mathlib.Core.List.{List, [], ◌∷◌, ◌++◌, append-nil, append_assoc}
use Prim.Native.Nat.{ℕ, ◌/◌, ◌≤◌}
use native.Mathlib.Omega.{arith}
use lib.Dec.{ltb}
use borrow.Author.Tests.{le-ltb}
use lib.ListN.{length, take, drop, length-take, take-append-drop}
use lib.Seq.{sets, take-take}
use Rattle.answer.specs.Order.{in_order}
use Rattle.answer.proofs.OrderLaws.{order-answers}
use Rattle.frame.specs.declared.Frame.{Frame}
use Rattle.reader.specs.Reading.{past, says_answer, carrying}
use Rattle.reader.specs.declared.Answer.{Answer}
use Rattle.reader.specs.declared.Answer.TheVariants.{Done, Refused}
use Rattle.listing.specs.Listing.{Lines, lines_of, line_room, refused_listing, listed, piece_order, piece_by, piece_text}
use Rattle.promises.specs.Course.{Piece, Course, course_of, NotRefused}
use Rattle.listing.specs.declared.Listing.{Listing}
use Rattle.listing.specs.declared.Listed.{Listed}
use Rattle.listing.proofs.Lengths.{lines-le, lines-used, stored-text}
use Rattle.promises.proofs.Telling.{told, told-after, Told, tells, lines-go}

-- ---- an answer that is no refusal

pub not-refused-done : {A : Type 0} (v : A) (a : Answer) → NotRefused (carrying v (says_answer a)) → a ≡ Done
not-refused-done v Done x = refl
not-refused-done v (Refused n) x = absurd x

pub done-not-refused : {A : Type 0} (v : A) (a : Answer) → a ≡ Done → NotRefused (carrying v (says_answer a))
done-not-refused v a e = subst (λ b. NotRefused (carrying v (says_answer b))) (sym e) tt

-- ---- a piece

pub record PieceTells (used : List ℕ) (out : List (ℕ × Frame)) (lent : List ℕ) (r : Listed) (buffer : List ℕ) : Type 0 where
  pub more : List (ℕ × Frame)
  pub text : take r.written buffer ≡ told more
  pub is : Told (used ++ take r.used lent) (out ++ more) r.listing
  pub within : r.used ≤ length lent

pub piece-tells : (used : List ℕ) (out : List (ℕ × Frame)) (l : Listing) → Told used out l → (lent buffer : List ℕ)
    → PieceTells used out lent (piece_by l lent (length buffer)) (piece_text l lent buffer)
unfolding piece_by piece_text
piece-tells used out l t lent buffer = go (past l.reader) l.reader.ended (ltb (length buffer) line_room)
  where
    x : Lines
    x = lines_of (length buffer / line_room) l lent

    none : (n : ℕ) → PieceTells used out lent (refused_listing l n) buffer
    none n =
        record {
          more = [];
          text = (unfold told in refl);
          is = subst₂ (λ u o. Told u o l) (sym (append-nil used)) (sym (append-nil out)) t;
          within = omega arith;
        }

    go : (p e s : Bool) → PieceTells used out lent
        (in_order ((p, 5) ∷ (e, 3) ∷ (s, 13) ∷ []) (refused_listing l) (listed (lines_of (length buffer / line_room) l lent)))
        (in_order ((p, 5) ∷ (e, 3) ∷ (s, 13) ∷ []) (λ n. buffer) (sets buffer 0 (lines_of (length buffer / line_room) l lent).text))
    go true e s = none 5
    go false true s = none 3
    go false false true = none 13
    go false false false =
        let y = tells (length buffer / line_room) l lent used out t in
        record {
          more = y.more;
          text = stored-text buffer x.text (omega (arith, lines-le (length buffer / line_room) l lent)) ∙ y.text;
          is = y.is;
          within = lines-used (length buffer / line_room) l lent;
        }

-- a piece that has room is carried out
pub piece_is : (l : Listing) (bs : List ℕ) (room : ℕ) → past l.reader ≡ false → l.reader.ended ≡ false → line_room ≤ room
    → piece_by l bs room ≡ listed (lines_of (room / line_room) l bs)
unfolding piece_by
piece_is l bs room p e h = order-answers (refused_listing l) (listed (lines_of (room / line_room) l bs)) (piece_order l room) (p, (e, (le-ltb room line_room h, tt)))

-- ---- piece after piece

pub record CourseTells (used : List ℕ) (out : List (ℕ × Frame)) (bs : List ℕ) (c : Course) : Type 0 where
  pub eaten : List ℕ
  pub more : List (ℕ × Frame)
  pub split : eaten ++ c.left ≡ bs
  pub text : c.text ≡ told more
  pub is : Told (used ++ eaten) (out ++ more) c.listing

pub course-tells : (ps : List Piece) (l : Listing) (bs used : List ℕ) (out : List (ℕ × Frame)) → Told used out l → CourseTells used out bs (course_of ps l bs)
unfolding course_of
course-tells [] l bs used out t =
    record {
      eaten = [];
      more = [];
      split = refl;
      text = (unfold told in refl);
      is = subst₂ (λ u o. Told u o l) (sym (append-nil used)) (sym (append-nil out)) t;
    }
course-tells (p ∷ ps) l bs used out t = later (course-tells ps r.listing (drop r.used bs) _ _ y.is)
  where
    lent : List ℕ
    lent = take p.0 bs

    r : Listed
    r = piece_by l (take p.0 bs) (length p.1)

    y : PieceTells used out (take p.0 bs) (piece_by l (take p.0 bs) (length p.1)) (piece_text l (take p.0 bs) p.1)
    y = piece-tells used out l t (take p.0 bs) p.1

    few : r.used ≤ p.0
    few = omega (arith, y.within, length-take p.0 bs)

    later : CourseTells (used ++ take r.used lent) (out ++ y.more) (drop r.used bs) (course_of ps r.listing (drop r.used bs))
        → CourseTells used out bs
        (record {
          text = take r.written (piece_text l lent p.1) ++ (course_of ps r.listing (drop r.used bs)).text;
          left = (course_of ps r.listing (drop r.used bs)).left;
          listing = (course_of ps r.listing (drop r.used bs)).listing;
        })
    later z = record {
      eaten = take r.used lent ++ z.eaten;
      more = y.more ++ z.more;
      split = append_assoc (take r.used lent) z.eaten _ ∙ ap₂ ◌++◌ (take-take r.used p.0 bs few) z.split ∙ take-append-drop r.used bs;
      text = ap₂ ◌++◌ y.text z.text ∙ sym (told-after y.more z.more);
      is =
          subst₂ (λ u o. Told u o (course_of ps r.listing (drop r.used bs)).listing) (append_assoc used (take r.used lent) z.eaten)
          (append_assoc out y.more z.more) z.is;
    }

-- ---- pieces leave the input going on
pub piece-ended : (l : Listing) (bs : List ℕ) (room : ℕ) (used : List ℕ) (out : List (ℕ × Frame)) → Told used out l
    → (piece_by l bs room).listing.reader.ended ≡ l.reader.ended
unfolding piece_by
piece-ended l bs room used out t = go (past l.reader) l.reader.ended (ltb room line_room)
  where
    go : (p e s : Bool) → (in_order ((p, 5) ∷ (e, 3) ∷ (s, 13) ∷ []) (refused_listing l)
        (listed (lines_of (room / line_room) l bs))).listing.reader.ended ≡ l.reader.ended
    go true e s = refl
    go false true s = refl
    go false false true = refl
    go false false false = (lines-go (room / line_room) l bs used out t).0

pub course-goes : (ps : List Piece) (l : Listing) (bs used : List ℕ) (out : List (ℕ × Frame)) → Told used out l
    → (course_of ps l bs).listing.reader.ended ≡ l.reader.ended
unfolding course_of
course-goes [] l bs used out t = refl
course-goes (p ∷ ps) l bs used out t =
    course-goes ps _ (drop (piece_by l (take p.0 bs) (length p.1)).used bs) _ _ (piece-tells used out l t (take p.0 bs) p.1).is
    ∙ piece-ended l (take p.0 bs) (length p.1) used out t
