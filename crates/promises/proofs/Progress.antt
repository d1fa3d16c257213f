-- A caller who goes on until a piece writes nothing has listed all bytes lent, and the end is not refused. Assumes nothing.
use mathlib.Core.Path.{◌≡◌, refl, sym, ap, subst, ◌∙◌}
use mathlib.Core.Bool.{Bool, true, false}
use mathlib.Core.Logic.{◌⊎◌, inl, inr}
use mathlib.Core.List.{List, [], ◌∷◌}
use Prim.Native.Nat.{ℕ, zero, suc, ◌+◌, ◌*◌, ◌/◌, ◌≤◌, ◌<◌}
use native.Mathlib.Omega.{arith}
use lib.Dec.{ltb}
use lib.ListN.{length, take, drop, length-append, length-take, length-drop}
use lib.Seq.{take-nil, drop-nil}
use borrow.Author.Tests.{ltb-false, le-ltb}
use Rattle.answer.specs.Order.{in_order}
use Rattle.answer.proofs.OrderLaws.{order-answers}
use Rattle.frame.specs.declared.Frame.{Frame}
use Rattle.stream.proofs.Words.{unlike}
use Rattle.reader.specs.Reading.{started, past, fed_all_by, taken_by}
use Rattle.reader.specs.declared.Reader.{Reader}
use Rattle.reader.specs.declared.FedAll.{FedAll}
use Rattle.reader.specs.declared.Taken.{Taken}
use Rattle.reader.specs.declared.Answer.{Answer}
use Rattle.reader.specs.declared.Answer.TheVariants.{Done, Refused}
use Rattle.promises.specs.Calls.{feeds_all, after}
use Rattle.promises.proofs.Kept.{held-long}
use Rattle.promises.proofs.Runs.{not_done, says-done, all-by, sound-taken, Sound, kept-sound, never-past}
use Rattle.promises.proofs.EveryReader.{fed-parts, next-is-accepted}
use Rattle.listing.specs.Text.{frame_line}
use Rattle.listing.specs.Listing.{begun, fed_on, handed_on, Lines, line_then, lines_of, line_room, end_room}
use Rattle.listing.specs.Listing.{refused_listing, listed, piece_by, final_lines, end_order, finish_by, says_listed}
use Rattle.promises.specs.Course.{Piece, course_of, NotRefused, NothingLeft, PieceTaken, Roomy, Reached, TextComes}
use Rattle.promises.proofs.Telling.{Told, told_none, line-some, none-there, told-fed, told-taken, fed-held, taken-less, lines-go}
use Rattle.promises.proofs.Pieces.{CourseTells, done-not-refused, piece_is, piece-tells, course-tells, piece-ended, course-goes}
use Rattle.promises.proofs.Whole.{idle-takes, lines-takes, text-is-whole}
use Rattle.listing.specs.declared.Listing.{Listing}
use Rattle.listing.specs.declared.Listed.{Listed}
use Rattle.listing.proofs.Lengths.{lines-used}

-- bytes fed to a listing that goes on: where none waits afterwards, all are used
module _ (l : Listing) (bs : List ℕ) (len : length l.reader.cells ≡ 40) (fine : past l.reader ≡ false) (goes : l.reader.ended ≡ false) where
  fed : FedAll
  fed = fed_all_by l.reader bs

  accepted : past (fed_all_by l.reader bs).reader ≡ false
  accepted = unfold after in next-is-accepted l.reader len fine (feeds_all bs)

  fed-goes : (fed_all_by l.reader bs).reader.ended ≡ false
  fed-goes = go l.reader.candidate.waits refl
    where
      go : (w : Bool) → l.reader.candidate.waits ≡ w → (fed_all_by l.reader bs).reader.ended ≡ false
      go true ew = ap (λ (f : FedAll). f.reader.ended) (all-by l.reader false false true fine goes ew bs) ∙ goes
      go false ew = ap (λ (f : FedAll). f.reader.ended) (all-by l.reader false false false fine goes ew bs) ∙ goes

  all-used : (fed_all_by l.reader bs).reader.candidate.waits ≡ false → (fed_all_by l.reader bs).used ≡ length bs
  all-used none = go l.reader.candidate.waits refl
    where
      settle : ((fed_all_by l.reader bs).used ≡ length bs) ⊎ ((fed_all_by l.reader bs).reader.candidate.waits ≡ true)
          → (fed_all_by l.reader bs).used ≡ length bs
      settle (inl e) = e
      settle (inr w) = unlike _ w none

      go : (w : Bool) → l.reader.candidate.waits ≡ w → (fed_all_by l.reader bs).used ≡ length bs
      go true ew = unlike _ ew (sym (ap (λ (f : FedAll). f.reader.candidate.waits) (all-by l.reader false false true fine goes ew bs)) ∙ none)
      go false ew = settle ((fed-parts l.reader bs len).all (ap (λ (f : FedAll). f.answer) (all-by l.reader false false false fine goes ew bs)))

  -- at least one line was allowed, and none was written
  idle-lines : Sound (fed_all_by l.reader bs).reader → (k : ℕ) → 0 < k → length (lines_of k l bs).text ≡ 0
      → ((lines_of k l bs).used ≡ length bs) × (past (lines_of k l bs).listing.reader ≡ false) × ((lines_of k l bs).listing.reader.ended ≡ false)
      × ((lines_of k l bs).listing.reader.candidate.waits ≡ false)
  idle-lines fit zero h e = absurd (omega arith)
  idle-lines fit (suc k) h e = unfold lines_of fed_on in go (taken_by (fed_all_by l.reader bs).reader).answer refl e
    where
      rest : Lines
      rest = lines_of k (handed_on (fed_on l bs).listing (taken_by (fed_on l bs).listing.reader).reader) (drop (fed_on l bs).used bs)

      line : List ℕ
      line = frame_line (taken_by (fed_on l bs).listing.reader).at (taken_by (fed_on l bs).listing.reader).frame

      go : (a : Answer) → (taken_by (fed_all_by l.reader bs).reader).answer ≡ a → length (line_then a (fed_on l bs) line rest).text ≡ 0
          → ((line_then a (fed_on l bs) line rest).used ≡ length bs) × (past (line_then a (fed_on l bs) line rest).listing.reader ≡ false)
          × ((line_then a (fed_on l bs) line rest).listing.reader.ended ≡ false) × ((line_then a (fed_on l bs) line rest).listing.reader.candidate.waits ≡ false)
      go Done ea none =
          absurd (omega (
            arith,
            length-append line rest.text,
            line-some (taken_by (fed_on l bs).listing.reader).at (taken_by (fed_on l bs).listing.reader).frame,
          ))
      go (Refused n) ea none =
          let quiet = none-there (fed_all_by l.reader bs).reader fit n ea in
          unfold fed_on in (all-used quiet, accepted, fed-goes, quiet)

finish-answers : (l : Listing) (room : ℕ) → past l.reader ≡ false → l.reader.ended ≡ false → l.reader.candidate.waits ≡ false → end_room ≤ room
    → (finish_by l room).answer ≡ Done
unfolding finish_by
finish-answers l room p e w h =
    ap (λ (x : Listed). x.answer) (order-answers (refused_listing l) (listed (final_lines l)) (end_order l room) (p, (e, (w, (le-ltb room end_room h, tt)))))

idle-piece : (l : Listing) (bs : List ℕ) (room : ℕ) → length l.reader.cells ≡ 40 → Sound (fed_all_by l.reader bs).reader
    → (piece_by l bs room).answer ≡ Done → (piece_by l bs room).written ≡ 0
    → ((piece_by l bs room).used ≡ length bs) × ((n : ℕ) → end_room ≤ n → (finish_by (piece_by l bs room).listing n).answer ≡ Done)
unfolding piece_by
idle-piece l bs room len fit = go (past l.reader) refl l.reader.ended refl (ltb room line_room) refl
  where
    go : (p : Bool) → past l.reader ≡ p → (e : Bool) → l.reader.ended ≡ e → (s : Bool) → ltb room line_room ≡ s
        → (in_order ((p, 5) ∷ (e, 3) ∷ (s, 13) ∷ []) (refused_listing l) (listed (lines_of (room / line_room) l bs))).answer ≡ Done
        → (in_order ((p, 5) ∷ (e, 3) ∷ (s, 13) ∷ []) (refused_listing l) (listed (lines_of (room / line_room) l bs))).written ≡ 0
        → ((in_order ((p, 5) ∷ (e, 3) ∷ (s, 13) ∷ []) (refused_listing l) (listed (lines_of (room / line_room) l bs))).used ≡ length bs)
        × ((n : ℕ) → end_room ≤ n
        → (finish_by (in_order ((p, 5) ∷ (e, 3) ∷ (s, 13) ∷ []) (refused_listing l) (listed (lines_of (room / line_room) l bs))).listing n).answer ≡ Done)
    go true ep e ee s es d w = not_done 5 d
    go false ep true ee s es d w = not_done 3 d
    go false ep false ee true es d w = not_done 13 d
    go false ep false ee false es d w =
        let x = idle-lines l bs len ep ee fit (room / line_room) (omega (arith, ltb-false room line_room es)) w in
        (x.0, λ n h. finish-answers (lines_of (room / line_room) l bs).listing n x.1 x.2 x.3 h)

-- ---- A CALLER WHO GOES ON

-- where a frame waits or a byte is lent, a piece uses a byte or writes a line
lines-less : (k : ℕ) → 0 < k → (l : Listing) (bs used : List ℕ) (out : List (ℕ × Frame)) → Told used out l → l.reader.ended ≡ false
    → (l.reader.candidate.waits ≡ true) ⊎ (1 ≤ length bs)
    → 1 + (lines_of k l bs).listing.reader.candidate.held ≤ l.reader.candidate.held + 7 * (lines_of k l bs).used
unfolding lines_of
lines-less zero h l bs used out t g some = absurd (omega arith)
lines-less (suc k) h l bs used out t g some =
    go (taken_by (fed_on l bs).listing.reader).answer refl
    (λ e. (lines-go k _ (drop (fed_on l bs).used bs) _ _ (told-taken _ _ _ (told-fed used out l t bs) e)).1)
  where
    fine : past l.reader ≡ false
    fine = never-past _ _ _ t.kept

    next : Listing
    next = handed_on (fed_on l bs).listing (taken_by (fed_on l bs).listing.reader).reader

    line : List ℕ
    line = frame_line (taken_by (fed_on l bs).listing.reader).at (taken_by (fed_on l bs).listing.reader).frame

    rest : Lines
    rest = lines_of k next (drop (fed_on l bs).used bs)

    byte : (l.reader.candidate.waits ≡ true) ⊎ (1 ≤ length bs) → (fed_all_by l.reader bs).reader.candidate.waits ≡ false
        → 1 ≤ (fed_all_by l.reader bs).used
    byte (inl w) none = unlike _ w (sym (ap (λ (f : FedAll). f.reader.candidate.waits) (all-by l.reader false false true fine g w bs)) ∙ none)
    byte (inr b) none = omega (arith, all-used l bs t.kept.len fine g none)

    go : (a : Answer) → (taken_by (fed_on l bs).listing.reader).answer ≡ a
        → ((taken_by (fed_on l bs).listing.reader).answer ≡ Done → rest.listing.reader.candidate.held ≤ next.reader.candidate.held + 6 * rest.used)
        → 1 + (line_then a (fed_on l bs) line rest).listing.reader.candidate.held ≤ l.reader.candidate.held + 7 * (line_then a (fed_on l bs) line rest).used
    go Done e later = unfold handed_on in omega (arith, later e, taken-less used out l t bs e, fed-held used out l t bs)
    go (Refused n) e later =
        let none = none-there (fed_on l bs).listing.reader (kept-sound _ _ _ (told-fed used out l t bs).kept) n e in
        let one : 1 ≤ (fed_on l bs).used = unfold fed_on in byte some none in
        omega (arith, fed-held used out l t bs)

-- all bytes are used, and no frame waits
abbrev Over : Listing → List ℕ → Type 0
Over l bs = (bs ≡ []) × (l.reader.candidate.waits ≡ false)

empty-or : (bs : List ℕ) → (bs ≡ []) ⊎ (1 ≤ length bs)
empty-or [] = inl refl
empty-or (b ∷ bs) = inr (omega arith)

module _ (used : List ℕ) (out : List (ℕ × Frame)) (l : Listing) (t : Told used out l) (goes : l.reader.ended ≡ false) (p : Piece)
    (room : line_room ≤ length p.1) (bs : List ℕ) where
  fine : past l.reader ≡ false
  fine = never-past _ _ _ t.kept

  abbrev k : ℕ
  k = length p.1 / line_room

  abbrev x : Lines
  x = lines_of k l (take p.0 bs)

  abbrev r : Listed
  r = piece_by l (take p.0 bs) (length p.1)

  step_is : r ≡ listed x
  step_is = piece_is l (take p.0 bs) (length p.1) fine goes room

  step-goes : r.listing.reader.ended ≡ false
  step-goes = piece-ended l (take p.0 bs) (length p.1) used out t ∙ goes

  step_less : (n : ℕ) → 1 ≤ p.0 → (l.reader.candidate.waits ≡ true) ⊎ (1 ≤ length bs) → 7 * length bs + l.reader.candidate.held ≤ suc n
      → 7 * length (drop r.used bs) + r.listing.reader.candidate.held ≤ n
  step_less n some s h = subst (λ (y : Listed). 7 * length (drop y.used bs) + y.listing.reader.candidate.held ≤ n) (sym step_is) less
    where
      there : (l.reader.candidate.waits ≡ true) ⊎ (1 ≤ length bs) → (l.reader.candidate.waits ≡ true) ⊎ (1 ≤ length (take p.0 bs))
      there (inl w) = inl w
      there (inr b) = inr (omega (arith, length-take p.0 bs))

      less : 7 * length (drop x.used bs) + x.listing.reader.candidate.held ≤ n
      less = omega (
        arith,
        length-drop x.used bs,
        length-take p.0 bs,
        lines-used k l (take p.0 bs),
        lines-less k (omega arith) l (take p.0 bs) used out t goes (there s),
      )

  step-over : Over l bs → Over r.listing (drop r.used bs)
  step-over o = (
    ap (drop r.used) o.0 ∙ drop-nil r.used,
    ap (λ (y : Listed). y.listing.reader.candidate.waits) step_is
        ∙ ap (λ b. (lines_of k l b).listing.reader.candidate.waits) (ap (take p.0) o.0 ∙ take-nil p.0)
        ∙ ap (λ (y : Reader). y.candidate.waits)
        (lines-takes k l ∙ idle-takes k l.reader
        (ap (λ (y : Taken). y.reader) (sound-taken l.reader (kept-sound _ _ _ t.kept) false o.1))) ∙ o.1,
  )

goes_on : (ps : List Piece) (l : Listing) (bs used : List ℕ) (out : List (ℕ × Frame)) → Told used out l → l.reader.ended ≡ false → Roomy ps
    → (7 * length bs + l.reader.candidate.held ≤ length ps) ⊎ Over l bs → Over (course_of ps l bs).listing (course_of ps l bs).left
unfolding course_of
goes_on [] l bs used out t g f (inr o) = o
goes_on [] l bs used out t g f (inl h) = (none (empty-or bs), quiet l.reader.candidate.waits refl)
  where
    none : (bs ≡ []) ⊎ (1 ≤ length bs) → bs ≡ []
    none (inl e) = e
    none (inr b) = absurd (omega arith)

    quiet : (w : Bool) → l.reader.candidate.waits ≡ w → w ≡ false
    quiet false ew = refl
    quiet true ew = absurd (omega (arith, (t.kept.found ew).taken, held-long l.reader t.kept.len t.kept.accepted))
goes_on (p ∷ ps) l bs used out t g f h =
    goes_on ps _ (drop (piece_by l (take p.0 bs) (length p.1)).used bs) _ _ (piece-tells used out l t (take p.0 bs) p.1).is
    (step-goes used out l t g p f.1 bs) f.2 (next h)
  where
    r : Listed
    r = piece_by l (take p.0 bs) (length p.1)

    on : (w : Bool) → l.reader.candidate.waits ≡ w → (bs ≡ []) ⊎ (1 ≤ length bs) → 7 * length bs + l.reader.candidate.held ≤ suc (length ps)
        → (7 * length (drop r.used bs) + r.listing.reader.candidate.held ≤ length ps) ⊎ Over r.listing (drop r.used bs)
    on true ew b e = inl (step_less used out l t g p f.1 bs (length ps) f.0 (inl ew) e)
    on false ew (inr b) e = inl (step_less used out l t g p f.1 bs (length ps) f.0 (inr b) e)
    on false ew (inl b) e = inr (step-over used out l t g p f.1 bs (b, ew))

    next : (7 * length bs + l.reader.candidate.held ≤ suc (length ps)) ⊎ Over l bs
        → (7 * length (drop r.used bs) + r.listing.reader.candidate.held ≤ length ps) ⊎ Over r.listing (drop r.used bs)
    next (inr o) = inr (step-over used out l t g p f.1 bs o)
    next (inl e) = on l.reader.candidate.waits refl (empty-or bs) e

module _ (bs : List ℕ) (ps : List Piece) where
  accepted-now : past (course_of ps begun bs).listing.reader ≡ false
  accepted-now = never-past _ _ _ (course-tells ps begun bs [] [] told_none).is.kept

  goes-now : (course_of ps begun bs).listing.reader.ended ≡ false
  goes-now = course-goes ps begun bs [] [] told_none ∙ (unfold begun started in refl)

  pub piece-taken : PieceTaken bs ps
  piece-taken lent room h =
      subst (λ (y : Listed). NotRefused (says_listed y)) (sym (piece_is (course_of ps begun bs).listing lent room accepted-now goes-now h)) tt

  pub reached : Reached bs ps
  reached f h = (
    over.0,
    λ n e. done-not-refused _ (finish_by (course_of ps begun bs).listing n).answer
        (finish-answers (course_of ps begun bs).listing n accepted-now goes-now over.1 e),
  )
    where
      over : Over (course_of ps begun bs).listing (course_of ps begun bs).left
      over = goes_on ps begun bs [] [] told_none (unfold begun started in refl) f (inl (unfold begun started in omega (arith, h)))

  pub text-comes : (out : List ℕ) → TextComes bs ps out
  text-comes out f h e = let g = reached f h in text-is-whole bs ps out g.0 (g.1 (length out) e)

pub nothing_left : (bs : List ℕ) (ps : List Piece) → NothingLeft bs ps
nothing_left bs ps lent room u e =
    (sym (ap (λ (v : ℕ × ℕ). v.0) says.1) ∙ q.0, λ n h. done-not-refused _ (finish_by (piece_by l lent room).listing n).answer (q.1 n h))
  where
    l : Listing
    l = (course_of ps begun bs).listing

    t : CourseTells [] [] bs (course_of ps begun bs)
    t = course-tells ps begun bs [] [] told_none

    says : ((piece_by l lent room).answer ≡ Done) × (◌≡◌ {A = ℕ × ℕ} ((piece_by l lent room).used, (piece_by l lent room).written) (u, 0))
    says = says-done ((piece_by l lent room).used, (piece_by l lent room).written) (u, 0) (piece_by l lent room).answer e

    fit : Sound (fed_all_by l.reader lent).reader
    fit = unfold fed_on in kept-sound _ _ _ (told-fed _ _ l t.is lent).kept

    q : ((piece_by l lent room).used ≡ length lent) × ((n : ℕ) → end_room ≤ n → (finish_by (piece_by l lent room).listing n).answer ≡ Done)
    q = idle-piece l lent room t.is.kept.len fit says.0 (ap (λ (v : ℕ × ℕ). v.1) says.1)
