-- DEMAND 3 holds of the library: what its calls come to is what those of the package's reader come to. Assumes nothing.
use mathlib.Core.Path.{◌≡◌, refl, sym, ap, subst, subst₂, ◌∙◌}
use mathlib.Core.List.{List, ◌∷◌, ◌++◌, map}
use Prim.Native.Nat.{ℕ, ◌+◌, ◌*◌, ◌≤◌}
use lib.ListN.{length}
use Rattle.answer.specs.Order.{Says, refuses, answers}
use Rattle.answer.proofs.OrderLaws.{order-told, refuses-apart}
use Rattle.stream.specs.Standing.{frame_at}
use Rattle.stream.proofs.Data.{frame-full}
use Rattle.reader.specs.Reading.{bits_of, started, taken_by}
use Rattle.reader.specs.declared.Reader.{Reader}
use Rattle.reader.specs.declared.Taken.{Taken}
use Rattle.journal.specs.Journal.{kept_by, says_kept}
use Rattle.record_fields.specs.Coding.{Each}
use Rattle.rtcm2_state.specs.State.{state_size, state_in}
use Rattle.rtcm2_state.proofs.RoundTrip.{put-read}
use Rattle.rtcm2_state.proofs.Storable.{storable-fit}
use Rattle.rtcm2.specs.Answer.{and_then}
use Rattle.rtcm2.specs.Line.{read_by, taken_in}
use Rattle.rtcm2.specs.Orders.{take_order}
use Rattle.rtcm2.proofs.LineTaking.{taken, take-order}
use Rattle.promises.specs.Calls.{Call, feeds, ends, reply_to, after, after_all, Outcome, outcome, takes_all, served}
use Rattle.promises.specs.Demand3.{OnlyFrames, AsSoonAs, NothingLost, HandedOut, OneByOne, InSlices, NeverFive, DamageBeginsNothing, turned_reply}
use Rattle.promises.proofs.CarriesItsNumber.{says-inj}
use Rattle.promises.proofs.Demand2.{reads-back-equal}
use Rattle.promises.proofs.Demand3.{only-frames, as-soon-as, nothing-lost, damage-begins-nothing, handed_out_lem, one_by_one, never-five}
use Rattle.promises.proofs.Slices.{in-slices}
use Rattle.promises.proofs.Turned.{turned-is-same}
use Rattle.rtcm2_promises.specs.LineCalls.{LineCall, feed, HasRoom, asked, reply_in, after_in, after_all_in, begun_in, outcome_in}
use Rattle.rtcm2_promises.specs.Demand3.{TakesItsRecord, LibraryDemand3}
use Rattle.rtcm2_promises.proofs.Called.{Called, called-started, called-call}
use Rattle.rtcm2_promises.proofs.OneCall.{Same, same-call}
use Rattle.rtcm2_promises.proofs.LineCalls.{same-calls, begun-is, is-reader}
use Rattle.rtcm2_promises.proofs.Slices.{each_append, asked-append, sliced}

-- ---- the record of a frame that was taken, on any bytes

-- taking answered, so keeping the frame did
kept-said : (s : Says Taken) (frame : List ℕ) (size : ℕ) (t : Taken)
    → and_then {B = ℕ × Taken} s (λ v. and_then (says_kept (kept_by v.frame frame)) (λ m. answers (m, v))) ≡ answers (size, t)
    → says_kept (kept_by t.frame frame) ≡ answers size
kept-said (refuses n) frame size t e = absurd (refuses-apart n (size, t) e)
kept-said (answers v) frame size t e = go (says_kept (kept_by v.frame frame)) refl e
  where
    go : (q : Says ℕ) → says_kept (kept_by v.frame frame) ≡ q → and_then {B = ℕ × Taken} q (λ m. answers (m, v)) ≡ answers (size, t)
        → says_kept (kept_by t.frame frame) ≡ answers size
    go (refuses n) eq x = absurd (refuses-apart n (size, t) x)
    go (answers m) eq x =
        let same = says-inj x in
        ap (λ (w : ℕ × Taken). says_kept (kept_by w.1.frame frame)) (sym same) ∙ eq ∙ ap (λ (w : ℕ × Taken). answers w.0) same

pub takes-its-record : TakesItsRecord
takes-its-record state frame rest size t e =
    (reads-back-equal.recalled t.frame frame rest size full
    (unfold taken_in in kept-said (read_by (λ (v : Taken). v.answer) taken_by state) frame size t e)).1
  where
    r : Reader
    r = state_in state

    v : ℕ × Taken
    v = (3 * (frame_at (bits_of (state_in state))).n + 9, taken (state_in state))

    is : v ≡ (size, t)
    is = says-inj (order-told refuses (answers v) (answers (size, t)) (λ n. refuses-apart n (size, t)) (take_order state frame)
        (sym (take-order state frame) ∙ e)).1

    full : length t.frame.words ≡ 31
    full = ap (λ (w : ℕ × Taken). length w.1.frame.words) (sym is) ∙ frame-full (bits_of r)

-- ---- the sentences, of a state's bytes with room

module _ (state : List ℕ) (h : state_size ≤ length state) where
  same : (cs : List LineCall) → Each HasRoom cs → outcome_in state cs ≡ outcome (asked cs)
  same cs room = (is-reader state h cs room).same

  same_then : (cs ts : List LineCall) (ds es : List Call) → Each HasRoom cs → Each HasRoom ts → asked cs ≡ ds → asked ts ≡ es
      → outcome_in state (cs ++ ts) ≡ outcome (ds ++ es)
  same_then cs ts ds es a b c d = same (cs ++ ts) (each_append HasRoom cs ts a b) ∙ ap outcome (asked-append cs ts ds es c d)

  -- what holds of the outcome of the package's calls holds of the library's
  carry : (P : Outcome → Type 0) (cs : List LineCall) → Each HasRoom cs → P (outcome (asked cs)) → P (outcome_in state cs)
  carry P cs room = subst P (sym (same cs room))

  -- a byte fed next
  module _ (cs : List LineCall) (room : Each HasRoom cs) where
    abbrev r : Reader
    r = after_all started (asked cs)

    abbrev bytes : List ℕ
    bytes = after_all_in (begun_in state) cs

    called : Called r
    called = (same-calls state h cs started called-started room).called

    one : (b : ℕ) → Same r state (feed b)
    one b = same-call r called state h (feed b) tt

    reply-is : (b : ℕ) → reply_in bytes (feed b) ≡ reply_to r (feeds b)
    reply-is b = ap (λ l. reply_in l (feed b)) (is-reader state h cs room).bytes ∙ (one b).reply

    next-is : (b : ℕ) → state_in (after_in bytes (feed b)) ≡ after r (feeds b)
    next-is b =
        ap (λ l. state_in (after_in l (feed b))) (is-reader state h cs room).bytes ∙ ap state_in (one b).leaves
        ∙ put-read (after r (feeds b)) state h (storable-fit (after r (feeds b)) (called-call r called (feeds b)).storable)

    never-5 : NeverFive (outcome_in state cs) (λ b. reply_in bytes (feed b)) (λ b. state_in (after_in bytes (feed b)))
    never-5 =
        carry (λ o. NeverFive o (λ b. reply_in bytes (feed b)) (λ b. state_in (after_in bytes (feed b)))) cs room
        (subst₂ (NeverFive (outcome (asked cs))) (λ i b. sym (reply-is b) i) (λ i b. sym (next-is b) i) (never-five (asked cs)))

  pub library-demand-3 : LibraryDemand3 state
  library-demand-3 = record {
    reader = is-reader state h;
    out = λ cs ts a b e. subst₂ HandedOut (sym (same cs a)) (sym (same_then cs ts (asked cs) takes_all a b refl e)) (handed_out_lem (asked cs));
    each = λ bs cs es a b c d.
        subst₂ (OneByOne bs) (sym (same cs a ∙ ap outcome c)) (sym (same_then cs es (served bs) (ends ∷ takes_all) a b c d)) (one_by_one bs);
    slices = λ ns bs rest cs room s.
        let w = sliced state h s started called-started (begun-is state h) room in
        subst₂ (InSlices ns bs) (sym w.1) (sym (same cs room ∙ ap outcome w.0)) (in-slices ns bs);
    turned = λ cs ds a b o.
        ap (λ (x : Outcome). x.replies) (same ds b)
        ∙ turned-is-same.calls (asked cs) (asked ds) o
        ∙ sym (ap (λ (x : Outcome). map turned_reply x.replies) (same cs a));
    damage = λ cs room. carry DamageBeginsNothing cs room (damage-begins-nothing (asked cs));
    only = λ cs room. carry OnlyFrames cs room (only-frames (asked cs));
    nothing-lost = λ cs room. carry NothingLost cs room (nothing-lost (asked cs));
    soon = λ cs room. carry AsSoonAs cs room (as-soon-as (asked cs));
    never-5 = never-5;
  }
