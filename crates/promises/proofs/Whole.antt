-- THE LAW: in whatever pieces a stream is listed, the text is that of the whole. Assumes nothing.
use mathlib.Core.Path.{◌≡◌, refl, sym, ap, subst, subst₂, ◌∙◌}
use mathlib.Core.Bool.{Bool, true, false, not}
use mathlib.Core.List.{List, [], ◌∷◌, ◌++◌, append-nil, append_assoc}
use Prim.Native.Nat.{ℕ, zero, suc, ◌+◌, ◌%◌, ◌^◌}
use native.Mathlib.Omega.{arith}
use lib.Dec.{ltb}
use lib.ListN.{length, take, drop, replicate, length-map}
use lib.Seq.{sets, take-nil, drop-nil}
use borrow.Author.Tests.{ltb-false}
use Rattle.answer.specs.Order.{in_order}
use Rattle.line.specs.Line.{line_bits}
use Rattle.stream.specs.Standing.{frame_at, scan, frames_in}
use Rattle.stream.specs.Faults.{faults, faults_in}
use Rattle.stream.proofs.Hunting.{MayCome, Idle}
use Rattle.frame.specs.Frames.{blank}
use Rattle.frame.specs.declared.Frame.{Frame}
use Rattle.reader.specs.Reading.{bits_of, past, frame_waits, run_to, fed_all_by, ended_by, take_to, taken_by}
use Rattle.reader.specs.declared.Tally.{Tally}
use Rattle.reader.specs.declared.Reader.{Reader}
use Rattle.reader.specs.declared.Next.{Next}
use Rattle.reader.specs.declared.FedAll.{FedAll}
use Rattle.reader.specs.declared.Taken.{Taken}
use Rattle.reader.specs.declared.Answer.{Answer}
use Rattle.reader.specs.declared.Answer.TheVariants.{Done, Refused}
use Rattle.reader.proofs.Tallies.{counts_of}
use Rattle.promises.specs.Calls.{ends, takes, reply_to, after, bits_given, frame_given, after_all, reported, takes_all}
use Rattle.promises.proofs.Kept.{Kept}
use Rattle.promises.proofs.Runs.{not_done, ended_by_lem, never-past, kept-call}
use Rattle.promises.proofs.Serving.{takes-ended, none-waits}
use Rattle.promises.proofs.Counting.{kept-counts}
use Rattle.listing.specs.Text.{frame_line, lines_in, odd_line, last_line, text_of}
use Rattle.listing.specs.Listing.{begun, fed_on, handed_on, Lines, line_then, lines_of, refused_listing, listed, ended_on, end_room, total_lines, final_lines}
use Rattle.listing.specs.Listing.{finish_by, finish_text}
use Rattle.promises.specs.Course.{Piece, Course, course_of, listed_text, TextIsWhole}
use Rattle.listing.specs.declared.Listing.{Listing}
use Rattle.listing.proofs.Lengths.{final-le, stored-text}
use Rattle.promises.proofs.Telling.{told, told-after, told-reported, Told, told_none, Tells, tells}
use Rattle.promises.proofs.Pieces.{not-refused-done, CourseTells, course-tells}

-- ---- the end

-- taking from a reader that refuses leaves it
refused-stays : (r : Reader) (n : ℕ) → (taken_by r).answer ≡ Refused n → (taken_by r).reader ≡ r
unfolding taken_by
refused-stays r n e = go (past r) (not (frame_waits r)) e
  where
    go : (p w : Bool) → (in_order {A = Taken} ((p, 5) ∷ (w, 4) ∷ []) (λ m. record { answer = Refused m; at = 0; frame = blank; reader = r })
        (record {
          answer = Done;
          at = r.candidate.at;
          frame = frame_at (bits_of r);
          reader = record { cells = r.cells; candidate = take_to r.cells r.candidate r.ended; ended = r.ended };
        })).answer ≡ Refused n
        → (in_order {A = Taken} ((p, 5) ∷ (w, 4) ∷ []) (λ m. record { answer = Refused m; at = 0; frame = blank; reader = r })
        (record {
          answer = Done;
          at = r.candidate.at;
          frame = frame_at (bits_of r);
          reader = record { cells = r.cells; candidate = take_to r.cells r.candidate r.ended; ended = r.ended };
        })).reader ≡ r
    go true w f = refl
    go false true f = refl
    go false false f = absurd (let z : ◌≡◌ {A = ℕ} 0 1 = cc in omega arith)

pub idle-takes : (n : ℕ) (r : Reader) → (taken_by r).reader ≡ r → after_all r (replicate n takes) ≡ r
unfolding after_all after
idle-takes zero r e = refl
idle-takes (suc n) r e = ap (λ q. after_all q (replicate n takes)) e ∙ idle-takes n r e

-- feeding no bytes leaves the reader
fed-none : (l : Listing) → (fed_on l []).listing.reader ≡ l.reader
unfolding fed_on fed_all_by run_to
fed-none l = go (past l.reader) l.reader.ended l.reader.candidate.waits
  where
    r : Reader
    r = l.reader

    go : (p e w : Bool) → (in_order {A = FedAll} ((p, 5) ∷ (e, 3) ∷ (w, 2) ∷ []) (λ n. record { answer = Refused n; used = 0; passed = 0; reader = l.reader })
        (record {
          answer = Done;
          used = 0;
          passed = 0;
          reader =
              record { cells = l.reader.cells; candidate = l.reader.candidate; ended = l.reader.ended };
        })).reader ≡ l.reader
    go true e w = refl
    go false true w = refl
    go false false true = refl
    go false false false = refl

-- with no bytes left, lines are takings
pub lines-takes : (n : ℕ) (l : Listing) → (lines_of n l []).listing.reader ≡ after_all l.reader (replicate n takes)
unfolding lines_of after_all after
lines-takes zero l = refl
lines-takes (suc n) l = go (taken_by q).answer refl (lines-takes n (handed_on (fed_on l []).listing (taken_by (fed_on l []).listing.reader).reader))
  where
    q : Reader
    q = (fed_on l []).listing.reader

    same : q ≡ l.reader
    same = fed-none l

    rest : Lines
    rest = lines_of n (handed_on (fed_on l []).listing (taken_by (fed_on l []).listing.reader).reader) []

    go : (a : Answer) → (taken_by (fed_on l []).listing.reader).answer ≡ a
        → (lines_of n (handed_on (fed_on l []).listing (taken_by (fed_on l []).listing.reader).reader) []).listing.reader
        ≡ after_all (handed_on (fed_on l []).listing (taken_by (fed_on l []).listing.reader).reader).reader (replicate n takes)
        → (line_then a (fed_on l []) (frame_line (taken_by (fed_on l []).listing.reader).at (taken_by (fed_on l []).listing.reader).frame)
        (lines_of n (handed_on (fed_on l []).listing (taken_by (fed_on l []).listing.reader).reader) (drop (fed_on l []).used []))).listing.reader
        ≡ after_all (taken_by l.reader).reader (replicate n takes)
    go Done e later =
        ap (λ bs. (lines_of n (handed_on (fed_on l []).listing (taken_by (fed_on l []).listing.reader).reader) bs).listing.reader) (drop-nil (fed_on l []).used)
        ∙ later ∙ (unfold handed_on in ap (λ t. after_all (taken_by t).reader (replicate n takes)) same)
    go (Refused m) e later =
        let stays = refused-stays l.reader m (ap (λ t. (taken_by t).answer) (sym same) ∙ e) in
        same ∙ sym (ap (λ t. after_all t (replicate n takes)) stays ∙ idle-takes n l.reader stays)

-- the frames of the whole stream, once the reader has ended and none waits
whole-frames : (s : List Bool) (out : List (ℕ × Frame)) (r : Reader) (k : Kept s out r) → r.ended ≡ true → r.candidate.waits ≡ false → frames_in s ≡ k.hits
whole-frames s out r k e w =
    ap frames_in (sym (append-nil s)) ∙ k.stage.scanned [] (subst (λ t. MayCome t []) (sym e) refl)
    ∙ ap (λ d. k.hits ++ scan 0 (2 + k.gone) (d ++ [])) empty ∙ (unfold scan in append-nil k.hits)
  where
    empty : bits_of r ≡ []
    empty = subst (λ t. Idle t r.candidate.words (bits_of r)) e (k.idle w)

module _ (bs : List ℕ) (out : List (ℕ × Frame)) (l : Listing) (t : Told bs out l) where
  told_over : Told bs out (ended_on l (ended_by l.reader).reader)
  unfolding ended_on
  told_over = record {
    kept = subst₂ (λ s o. Kept s o (ended_by l.reader).reader) (append-nil (line_bits bs)) (append-nil out)
        (unfold after reply_to bits_given frame_given in kept-call (line_bits bs) out l.reader ends t.kept);
    frames = t.frames;
    bytes = t.bytes;
    passed = t.passed;
  }

  x : Lines
  x = lines_of 16 (ended_on l (ended_by l.reader).reader) []

  y : Tells bs out [] (lines_of 16 (ended_on l (ended_by l.reader).reader) [])
  y = tells 16 (ended_on l (ended_by l.reader).reader) [] bs out told_over

  told-all : Told bs (out ++ y.more) x.listing
  unfolding x
  told-all =
      subst (λ u. Told u (out ++ y.more) (lines_of 16 (ended_on l (ended_by l.reader).reader) []).listing)
      (ap (λ r. bs ++ r) (take-nil (lines_of 16 (ended_on l (ended_by l.reader).reader) []).used) ∙ append-nil bs) y.is

  module _ (goes : l.reader.ended ≡ false) (none : l.reader.candidate.waits ≡ false) where
    last : Reader
    last = after_all (ended_by l.reader).reader takes_all

    last-is : x.listing.reader ≡ last
    unfolding x last ended_on
    last-is = lines-takes 16 (ended_on l (ended_by l.reader).reader)

    ended : x.listing.reader.ended ≡ true
    unfolding last
    ended =
        ap (λ (r : Reader). r.ended) last-is ∙ takes-ended 16 (ended_by l.reader).reader
        ∙ ap (λ (n : Next). n.reader.ended) (ended_by_lem l.reader false false false (never-past _ _ _ t.kept) goes none)

    quiet : x.listing.reader.candidate.waits ≡ false
    unfolding last ended_on
    quiet = ap (λ (r : Reader). r.candidate.waits) last-is ∙ none-waits _ _ _ told_over.kept

    frames : frames_in (line_bits bs) ≡ told-all.kept.hits
    frames = whole-frames (line_bits bs) (out ++ y.more) x.listing.reader told-all.kept ended quiet

    lines : told (out ++ y.more) ≡ lines_in (frames_in (line_bits bs))
    lines = ap told told-all.kept.given ∙ told-reported told-all.kept.hits ∙ ap lines_in (sym frames)

    as_many : length (out ++ y.more) ≡ length (frames_in (line_bits bs))
    as_many = ap length told-all.kept.given ∙ length-map told-all.kept.hits reported ∙ sym (ap length frames)

    total : x.listing.frames ≡ length (frames_in (line_bits bs)) % 2 ^ 64
    total = told-all.frames ∙ ap (λ n. n % 2 ^ 64) as_many

    counts : x.listing.reader.candidate.tally ≡ counts_of (faults_in (line_bits bs))
    counts =
        kept-counts (line_bits bs) (out ++ y.more) x.listing.reader told-all.kept
        ∙ (λ i. counts_of (faults (ended i) (as_many i) 0 (line_bits bs)))

    -- the lines of totals, by the counters and by the totals of the listing
    totals : Tally → ℕ → ℕ → ℕ → List ℕ
    totals t a b c = odd_line t.odd t.even ++ last_line a b c

    final-text : told out ++ (final_lines l).text ≡ text_of bs
    unfolding total_lines final_lines text_of totals x
    final-text =
        ap (λ r. told out ++ (r ++ total_lines x.listing)) y.text
        ∙ sym (append_assoc (told out) (told y.more) (total_lines x.listing))
        ∙ ap (λ r. r ++ total_lines x.listing) (sym (told-after out y.more) ∙ lines)
        ∙ (λ i. lines_in (frames_in (line_bits bs)) ++ totals (counts i) (total i) (told-all.bytes i) (told-all.passed i))

finish-tells : (bs : List ℕ) (out : List (ℕ × Frame)) (l : Listing) → Told bs out l → (buffer : List ℕ) → (finish_by l (length buffer)).answer ≡ Done
    → told out ++ take (finish_by l (length buffer)).written (finish_text l buffer) ≡ text_of bs
unfolding finish_by finish_text
finish-tells bs out l t buffer done = go (past l.reader) l.reader.ended refl l.reader.candidate.waits refl (ltb (length buffer) end_room) refl done
  where
    go : (p e : Bool) → l.reader.ended ≡ e → (w : Bool) → l.reader.candidate.waits ≡ w → (s : Bool) → ltb (length buffer) end_room ≡ s
        → (in_order ((p, 5) ∷ (e, 3) ∷ (w, 2) ∷ (s, 13) ∷ []) (refused_listing l) (listed (final_lines l))).answer ≡ Done
        → told out ++ take (in_order ((p, 5) ∷ (e, 3) ∷ (w, 2) ∷ (s, 13) ∷ []) (refused_listing l) (listed (final_lines l))).written
        (in_order ((p, 5) ∷ (e, 3) ∷ (w, 2) ∷ (s, 13) ∷ []) (λ n. buffer) (sets buffer 0 (final_lines l).text)) ≡ text_of bs
    go true e ee w ew s es d = not_done 5 d
    go false true ee w ew s es d = not_done 3 d
    go false false ee true ew s es d = not_done 2 d
    go false false ee false ew true es d = not_done 13 d
    go false false ee false ew false es d =
        ap (λ r. told out ++ r) (stored-text buffer (final_lines l).text (omega (arith, final-le l, ltb-false (length buffer) end_room es)))
        ∙ final-text bs out l t ee ew

-- THE TEXT OF THE WHOLE
pub text-is-whole : (bs : List ℕ) (ps : List Piece) (out : List ℕ) → TextIsWhole bs ps out
unfolding listed_text
text-is-whole bs ps out left answered =
    ap (λ r. r ++ take (finish_by c.listing (length out)).written (finish_text c.listing out)) v.text
    ∙ finish-tells bs v.more c.listing (subst (λ u. Told u v.more c.listing) all v.is) out
    (not-refused-done _ (finish_by c.listing (length out)).answer answered)
  where
    c : Course
    c = course_of ps begun bs

    v : CourseTells [] [] bs (course_of ps begun bs)
    v = course-tells ps begun bs [] [] told_none

    all : v.eaten ≡ bs
    all = sym (append-nil v.eaten) ∙ ap (λ r. v.eaten ++ r) (sym left) ∙ v.split
