-- Lines one after the other: what a turn of the loop of `put_lines` leaves. Assumes nothing.
use Rattle.std.proofs.Common.{◌≡◌, ℕ, zero, suc, ◌+◌, ◌-◌, ◌<◌, ◌≤◌, Bool, true, false, not, List, [], ◌∷◌, ◌++◌, length, take, drop, sym, refl, ap, ◌∙◌, subst, ap₂, add-zero, add_assoc, zero-add, arith, length-append, length-drop, take_all, drop-drop}
use lib.Seq.{sets}
use Rattle.answer.specs.Order.{in_order}
use Rattle.bits.proofs.Stores.{sets-append}
use Rattle.frame.specs.Header.{factors}
use Rattle.frame.specs.Frames.{blank}
use Rattle.frame.specs.Widths.{state_outside, pair_outside}
use Rattle.frame.specs.declared.Frame.{Frame}
use Rattle.frame.proofs.WidthLaws.{to_inside}
use Rattle.frame.proofs.FrameLaws.{header-within, pair-within}
use Rattle.stream.specs.Standing.{frame_at}
use Rattle.stream.proofs.Data.{frame-within}
use Rattle.reader.specs.Reading.{bits_of, past, frame_waits, run_to, ran_by, fed_all_by, take_to, taken_by}
use Rattle.reader.specs.declared.Reader.{Reader}
use Rattle.reader.specs.declared.Answer.TheVariants.{Done, Refused}
use Rattle.reader.specs.declared.Taken.{Taken}
use Rattle.reader.proofs.Running.{run-counts}
use Rattle.listing.specs.Text.{frame_line}
use Rattle.listing.specs.Listing.{fed_on, handed_on, Lines, line_then, lines_of, lined_by}
use Rattle.listing.specs.declared.Listing.{Listing}
use Rattle.listing.specs.declared.Fed.{Fed}

-- ---- the reader's answers

-- no more bytes are used than there are
pub fed-used : (l : Listing) (bs : List ℕ) → (fed_on l bs).used ≤ length bs
unfolding fed_on fed_all_by
fed-used l bs = go (past l.reader) l.reader.ended l.reader.candidate.waits
  where
    go : (p x w : Bool)
        → (in_order ((p, 5) ∷ (x, 3) ∷ (w, 2) ∷ []) (λ n. record { answer = Refused n; used = 0; passed = 0; reader = l.reader })
        (ran_by l.reader (run_to l.reader.cells l.reader.candidate bs))).used ≤ length bs
    go true x w = omega arith
    go false true w = omega arith
    go false false true = omega arith
    go false false false = (run-counts bs l.reader.cells l.reader.candidate).0

pub used_le : (l : Listing) (bs : List ℕ) (fed : Fed) → fed ≡ fed_on l bs → fed.used ≤ length bs
used_le l bs fed e = subst (λ (x : Fed). x.used ≤ length bs) (sym e) (fed-used l bs)

-- bytes from place u on, as a slice lends them
pub fed-tail : (l : Listing) (bs : List ℕ) (u : ℕ) (fed : Fed) → fed ≡ fed_on l (take (length bs - u) (drop u bs)) → fed ≡ fed_on l (drop u bs)
fed-tail l bs u fed e = e ∙ ap (fed_on l) (take_all (length bs - u) (drop u bs) all)
  where
    all : length (drop u bs) ≤ length bs - u
    all = omega (arith, length-drop u bs)

-- the state and the pair of every frame that taking answers are within their widths
abbrev Inside : Frame → Type 0
Inside f = (state_outside f.header.state ≡ false) × (pair_outside f.carried ≡ false)

blank-inside : Inside blank
unfolding blank state_outside pair_outside factors
blank-inside = (refl, refl)

frame-inside : (d : List Bool) → Inside (frame_at d)
frame-inside d =
    ((to_inside (frame_at d).header (header-within (frame_at d) (frame-within d))).state, pair-within (frame_at d) (frame-within d))

taken-by-inside : (r : Reader) → Inside (taken_by r).frame
unfolding taken_by
taken-by-inside r = go (past r) (not (frame_waits r))
  where
    next : Reader
    next = record { cells = r.cells; candidate = take_to r.cells r.candidate r.ended; ended = r.ended }

    go : (p w : Bool)
        → Inside (in_order {A = Taken} ((p, 5) ∷ (w, 4) ∷ []) (λ n. record { answer = Refused n; at = 0; frame = blank; reader = r })
        (record { answer = Done; at = r.candidate.at; frame = frame_at (bits_of r); reader = next })).frame
    go true w = blank-inside
    go false true = blank-inside
    go false false = frame-inside (bits_of r)

pub taken-inside : (r : Reader) (took : Taken) → took ≡ taken_by r → Inside took.frame
taken-inside r took e = subst (λ (t : Taken). Inside t.frame) (sym e) (taken-by-inside r)

-- ---- one turn

module _ (left : ℕ) (more : 0 < left) (l : Listing) (bs : List ℕ) (fed : Fed) (f : fed ≡ fed_on l bs)
    (took : Taken) (t : took ≡ taken_by fed.listing.reader) where
  turn : (k : ℕ) → Fed → Taken → Lines
  turn k x y = line_then y.answer x (frame_line y.at y.frame) (lines_of k (handed_on x.listing y.reader) (drop x.used bs))

  by_turn : lines_of left l bs ≡ turn (left - 1) fed took
  unfolding turn
  by_turn = go left more
    where
      go : (k : ℕ) → 0 < k → lines_of k l bs ≡ turn (k - 1) fed took
      go zero h = absurd (omega arith)
      go (suc k) h = unfold lines_of in
          ap (λ x. turn k x (taken_by x.listing.reader)) (sym f) ∙ ap (turn k fed) (sym t) ∙ ap (λ j. turn j fed took) lower
        where
          lower : k ≡ suc k - 1
          lower = omega arith

  -- a frame was taken: its line, and the lines from there on
  pub line_on : took.answer ≡ Done → (next : Listing) → next ≡ handed_on fed.listing took.reader
      → lines_of left l bs ≡ line_then Done fed (frame_line took.at took.frame) (lines_of (left - 1) next (drop fed.used bs))
  unfolding turn
  line_on done next n =
      by_turn
      ∙ ap₂ (λ a m. line_then a fed (frame_line took.at took.frame) (lines_of (left - 1) m (drop fed.used bs))) done (sym n)

  -- none waits
  pub line-none : (n : ℕ) → took.answer ≡ Refused n → lines_of left l bs ≡ record { text = []; used = fed.used; listing = fed.listing }
  unfolding turn
  line-none n none =
      let rest = lines_of (left - 1) (handed_on fed.listing took.reader) (drop fed.used bs) in
      by_turn ∙ ap (λ a. line_then a fed (frame_line took.at took.frame) rest) none

-- ---- the loop

-- how far it has come: what is left of the lines, after the bytes used and written
pub record Far (whole : Lines) (from out : List ℕ) (used written : ℕ) (rest : Lines) : Type 0 where
  pub ends : whole.listing ≡ rest.listing
  pub uses : whole.used ≡ used + rest.used
  pub writes : length whole.text ≡ written + length rest.text
  pub stores : sets from 0 whole.text ≡ sets out written rest.text

pub far-start : (x : Lines) (out : List ℕ) → Far x out out 0 0 x
far-start x out = record { ends = refl; uses = sym (zero-add x.used); writes = sym (zero-add (length x.text)); stores = refl }

module _ (whole : Lines) (from out : List ℕ) (used written : ℕ) (rest : Lines) (far : Far whole from out used written rest) where
  -- a line was written
  pub far-on : (out' line : List ℕ) (u written' : ℕ) (next : Lines) → out' ≡ sets out written line → written' ≡ written + length line
      → rest ≡ record { text = line ++ next.text; used = u + next.used; listing = next.listing }
      → Far whole from out' (used + u) written' next
  far-on out' line u written' next o w e = record {
    ends = far.ends ∙ ap (λ (x : Lines). x.listing) e;
    uses = far.uses ∙ ap (λ (x : Lines). used + x.used) e ∙ sym (add_assoc used u next.used);
    writes = omega (arith, far.writes ∙ ap (λ (x : Lines). written + length x.text) e, length-append line next.text);
    stores =
        far.stores ∙ ap (λ (x : Lines). sets out written x.text) e
        ∙ sets-append line next.text out written ∙ ap₂ (λ a j. sets a j next.text) (sym o) (sym w);
  }

  -- nothing is left
  pub far-end : (u : ℕ) (l : Listing) → rest ≡ record { text = []; used = u; listing = l }
      → (record { used = used + u; written = written; listing = l } ≡ lined_by whole) × (out ≡ sets from 0 whole.text)
  unfolding lined_by
  far-end u l e = (
    (λ i. record { used = sym uses i; written = sym writes i; listing = sym ends i }),
    sym (far.stores ∙ ap (λ (x : Lines). sets out written x.text) e),
  )
    where
      uses : whole.used ≡ used + u
      uses = far.uses ∙ ap (λ (x : Lines). used + x.used) e

      writes : length whole.text ≡ written
      writes = far.writes ∙ ap (λ (x : Lines). written + length x.text) e ∙ add-zero written

      ends : whole.listing ≡ l
      ends = far.ends ∙ ap (λ (x : Lines). x.listing) e

-- no line is left to write
pub lines_none : (left : ℕ) (l : Listing) (bs : List ℕ) → left ≡ 0 → lines_of left l bs ≡ record { text = []; used = 0; listing = l }
unfolding lines_of
lines_none left l bs e = ap (λ k. lines_of k l bs) e

-- the lines and the bytes left, counted from the start
pub far-drop : {whole : Lines} {from out : List ℕ} {used written : ℕ} (k i : ℕ) (l : Listing) (u v : ℕ) (bs : List ℕ)
    → Far whole from out used written (lines_of (k - i - 1) l (drop u (drop v bs))) → Far whole from out used written (lines_of (k - (i + 1)) l (drop (v + u) bs))
far-drop {whole} {from} {out} {used} {written} k i l u v bs far =
    subst (λ rest. Far whole from out used written (lines_of (k - (i + 1)) l rest)) (drop-drop u v bs)
    (subst (λ j. Far whole from out used written (lines_of j l (drop u (drop v bs)))) fewer far)
  where
    fewer : k - i - 1 ≡ k - (i + 1)
    fewer = omega arith
