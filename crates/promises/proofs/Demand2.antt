-- A record that is written reads back equal; a frame that stands, whose record is read, made anew and written after the same two bits, gives its own
-- bits. Assumes nothing.
use mathlib.Core.Path.{◌≡◌, refl, sym, ap, ap₂, ◌∙◌}
use mathlib.Core.Bool.{Bool, true, false, cond}
use mathlib.Core.List.{List, [], ◌∷◌, ◌++◌}
use Prim.Native.Nat.{ℕ, zero, suc, ◌+◌, ◌*◌}
use native.Mathlib.Omega.{arith}
use lib.ListN.{length, take, drop, get_or}
use lib.Seq.{take_at}
use Rattle.answer.specs.Order.{refuses, answers, NoneApplies}
use Rattle.answer.proofs.OrderLaws.{order-answers}
use Rattle.line.specs.Line.{line_bits}
use Rattle.frame.specs.Frames.{zero_pair, bare}
use Rattle.frame.specs.Widths.{header_outside, pair_outside, late}
use Rattle.frame.specs.declared.Frame.{Frame}
use Rattle.frame.specs.declared.Layout.TheVariants as layout
use Rattle.stream.specs.Standing.{size, pair_before, frame_at}
use Rattle.stream.proofs.Data.{frame-within, frame-full}
use Rattle.record_fields.specs.Coding.{Each}
use Rattle.record_stages.specs.Stages.{other_layout, refused_made, done_made, says_count, says_made}
use Rattle.record_stages.specs.Lists.{ListLayout, said_at, counted, entry_at, made}
use Rattle.record_positions.specs.Positions.{read_position, make_position, says_position_read}
use Rattle.record_nulls.specs.Nulls.{read_null, make_null, says_null_read}
use Rattle.record_texts.specs.Texts.{read_text, make_text}
use Rattle.record_stages.specs.declared.Made.{Made}
use Rattle.record_stages.proofs.StageLaws.{done-apart}
use Rattle.record_stages.proofs.ListCode.{told-some-few}
use Rattle.record_laws.proofs.PlainLists.{OwedList, lists-made-read, lists-read-made, lists-read, lists-held}
use Rattle.record_laws.proofs.PositionTrips.{position-made-read, position-read-made, position-read, position-held}
use Rattle.record_laws.proofs.NullTrips.{null-made-read, null-read-made, null-read, null-held, null-n}
use Rattle.record_laws.proofs.TextTrips.{text-made-read}
use Rattle.record_laws.proofs.TextHeld.{text-read, text-held}
use Rattle.record_laws.proofs.TextAgain.{text-read-made}
use Rattle.journal.specs.Journal.{record_of, keep_order, kept_by, held_by, recalled_by, says_kept, says_recalled}
use Rattle.journal.specs.declared.Kept.TheVariants as kept
use Rattle.journal.proofs.KeepLaws.{length-record}
use Rattle.journal.proofs.RoundTrip.{recall-record, keep-recalled}
use Rattle.writer.specs.Answer.{says_written}
use Rattle.writer.specs.OneFrame.{WritesBack}
use Rattle.writer.proofs.Wrote.{writes-back, unseen-answer, unseen-bytes}
use Rattle.promises.specs.RecordLayouts.{list_of}
use Rattle.promises.specs.Demand2.{Remade, of_list, of_observations, of_generals, of_general_null, of_position, of_null, of_text}
use Rattle.promises.specs.Demand2.{ListIsRead, WhatIsRead, ReadsBackEqual, MadeAnew, ItsOwnBits, Demand2}
use Rattle.promises.proofs.RecordLayouts.{record-types, owed-of}
use Rattle.promises.proofs.CarriesItsNumber.{carries-its-number, says-inj, none_told}
use Rattle.record_observations.specs.declared.Edition.TheVariants.{Gost}
use Rattle.record_observations.specs.Observations.{count_observations, read_epoch, observation_at, make_observations, says_epoch_read, says_observation_read}
use Rattle.record_observations.specs.Observations.{epoch_in, late_time, satellite_in}
use Rattle.record_observations.specs.Observations as observations
use Rattle.record_laws.proofs.ObservationTrips.{observations-made-read, observations-read, observations-held}
use Rattle.record_laws.proofs.ObservationAgain.{observations-read-made, observation-retold}
use Rattle.record_generals.specs.Generals.{delay_width, no_satellite, most_generals, general_in, count_generals, read_head, general_at, make_generals}
use Rattle.record_generals.specs.Generals.{says_head_read, says_general_read}
use Rattle.record_generals.specs.GeneralNulls.{other_than_null, read_general_null, make_general_null, says_general_null_read}
use Rattle.record_laws.proofs.GeneralLaws.{most-small}
use Rattle.record_laws.proofs.GeneralTrips.{generals-made-read, generals-read, generals-held}
use Rattle.record_laws.proofs.GeneralAgain.{generals-read-made}
use Rattle.record_laws.proofs.GeneralNullTrips.{general-null-made-read, general-null-read-made, general-null-read, general-null-held, general-null-is}
use Rattle.promises.proofs.ReadersTold.{epoch-told, observation-told, position-told, null-told}
use Rattle.promises.proofs.ReadersTold.{epoch-says, observation-says}
use Rattle.promises.proofs.GeneralsOfRtcm.{generals-of-rtcm}
use Rattle.promises.proofs.GeneralsBack.{generals-back, general-null-back, head-told, general-told, general-null-told, general-says}
use Rattle.promises.proofs.NumbersOfRtcm.{count-told}
use Rattle.promises.proofs.ThoseOfRtcm.{gps-parity-rule, frames-of-rtcm, records-of-rtcm}
use Rattle.promises.proofs.PairBeside.{made_told, pair-beside}
use Rattle.promises.proofs.ReadsBack.{list_back, observations-back, position-back, null-back, text-back, what-can-be-sent}

-- ---- which frames are read

list-is-read : (L : ListLayout) → OwedList L → ListIsRead L
list-is-read L o = record {
  count = λ f c. (λ e. lists-held L o f c (count-told (counted L f) c e), λ h. ap says_count (lists-read L o f c h).counts);
  entry = λ f c i h l. ap L.says ((lists-read L o f c h).entries i l) ∙ said (L.late (said_at L f i)) (said_at L f i);
}
  where
    said : (b : Bool) (e : L.Entry) → L.says (cond b (L.refused 10) (L.entry e)) ≡ cond b (refuses 10) (answers e)
    said true e = o.says-refused 10
    said false e = o.says-entry e

pub what-is-read : WhatIsRead
what-is-read = record {
  types = record-types;
  lists = λ l. list-is-read (list_of l) (owed-of l);
  observations = λ f c. (λ e. observations-held f c (count-told (count_observations f) c e), λ h. ap says_count (observations-read Gost f c h).counts);
  epoch = λ f c h. ap says_epoch_read (observations-read Gost f c h).epoch ∙ epoch-says (late_time (epoch_in f)) (epoch_in f);
  observation = λ e f c i h l.
      ap says_observation_read ((observations-read e f c h).entries i l) ∙ observation-says (late_time (epoch_in f)) (satellite_in e f i);
  told-anew = observation-retold;
  generals = λ f c. (λ e. generals-held f c (count-told (count_generals f) c e), λ h. ap says_count (generals-read f c h).counts);
  head = λ f c h. ap says_head_read (generals-read f c h).head;
  general = λ f c i h l. ap says_general_read ((generals-read f c h).entries i l) ∙ general-says (no_satellite (general_in f i)) (general_in f i);
  general-null = λ f n s. (
    λ e. let r = general-null-told (read_general_null f) n s e in (general-null-held f n s r, general-null-is f n s r),
    λ h. ap says_general_null_read (general-null-read f h.0) ∙ ap₂ (λ x y. answers (x, y)) h.1.0 h.1.1,
  );
  position = λ f p. (
    λ e.
        let h = position-held f p (position-told (read_position f) p e) in
        (h, says-inj (sym (ap says_position_read (position-read f h)) ∙ e)),
    λ h. ap says_position_read (position-read f h.0) ∙ ap answers h.1,
  );
  null = λ f n. (
    λ e. let r = null-told (read_null f) n e in (null-held f n r, null-n f n r),
    λ h. ap says_null_read (null-read f h.0) ∙ ap answers h.1,
  );
  text = λ f t k buffer h l. (ap says_count ((text-read f t k h).reads buffer l), (text-read f t k h).writes buffer l);
  no_other = λ f buffer c e. text-held f buffer c (count-told (read_text f buffer) c e);
}

-- ---- "A record we write reads back equal"

each_take : {A : Type 0} (P : A → Type 0) (n : ℕ) (es : List A) → Each P es → Each P (take n es)
each_take P zero es h = tt
each_take P (suc n) [] h = tt
each_take P (suc n) (x ∷ es) h = (h.0, each_take P n es h.1)

-- the journal
recall-front : (f : Frame) (buffer rest : List ℕ) (k : ℕ) → length f.words ≡ 31 → says_kept (kept_by f buffer) ≡ answers k
    → (k ≡ 3 * f.n + 9) × (says_recalled (recalled_by (take k (held_by f buffer) ++ rest)) ≡ answers (k, bare f))
recall-front f buffer rest k full e = (
  long,
  ap (λ l. says_recalled (recalled_by (l ++ rest))) front ∙ ap says_recalled (recall-record f full none.0 rest) ∙ ap (λ j. answers (j, bare f)) (sym long),
)
  where
    none : NoneApplies (keep_order f buffer)
    none = none_told (carries-its-number.keep f buffer) k e

    long : k ≡ 3 * f.n + 9
    long = says-inj (sym e ∙ ap says_kept (order-answers kept.Refused (kept.Done (3 * f.n + 9)) (keep_order f buffer) none))

    front : take k (held_by f buffer) ≡ record_of f
    front =
        ap (take k) (order-answers (λ n. buffer) (record_of f ++ drop (3 * f.n + 9) buffer) (keep_order f buffer) none)
        ∙ take_at (record_of f) (drop (3 * f.n + 9) buffer) k (length-record f none.0 full ∙ sym long)

pub reads-back-equal : ReadsBackEqual
reads-back-equal = record {
  lists = λ l h es c d f many typed e.
      let L = list_of l in
      let at_most = (told-some-few c L.most (none_told ((carries-its-number.lists l).make h es c) f e).1.1.1.0).1 in
      list_back L (owed-of l) h es c d f
      (lists-made-read L (owed-of l) h es c d f (omega (arith, at_most, many)) (each_take L.Typed c es typed) (made_told (made L h es c) f e));
  observations = λ x h a os c d f many typed e.
      let at_most = (told-some-few c 15 (none_told (carries-its-number.make-observations x h a os c) f e).1.1.1.0).1 in
      observations-back x h a os c d f
      (observations-made-read x h a os c d f (omega (arith, at_most, many)) (each_take observations.Typed c os typed)
      (made_told (make_observations x h a os c) f e));
  generals = λ h a gs c d f many e.
      let none = none_told (carries-its-number.make-generals h a gs c) f e in
      let at_most = (told-some-few c (most_generals (delay_width a.ionosphere)) none.1.1.1.1.0).1 in
      generals-back h a gs c d f
      (generals-made-read h a gs c d f (omega (arith, at_most, most-small a.ionosphere, many)) (made_told (make_generals h a gs c) f e));
  general-null = λ h n s f e. general-null-back h n s f (general-null-made-read h n s f (made_told (make_general_null h n s) f e));
  position = λ h p f typed e. position-back h p f (position-made-read h p f typed (made_told (make_position h p) f e));
  null = λ h n f e. null-back h n f (null-made-read h n f (made_told (make_null h n) f e));
  text = λ h t f e. text-back h t f (text-made-read h t f (made_told (make_text h t) f e));
  recalled = recall-front;
  kept_again = λ bs f k buffer fits e room. keep-recalled bs fits f k e buffer room;
}

-- ---- "A frame whose record we can read .. gives its own bits"

-- what a maker makes has a Z count below 6000: its first checks are those of the header
in-time : (wrong : Bool) (f g : Frame) (rest : Made)
    → cond (header_outside f.header) (refused_made 5) (cond wrong (refused_made 6) (cond (late f.header.z) (refused_made 7) rest)) ≡ done_made g
    → late f.header.z ≡ false
in-time wrong f g rest = go (header_outside f.header) wrong (late f.header.z)
  where
    go : (o w l : Bool) → cond o (refused_made 5) (cond w (refused_made 6) (cond l (refused_made 7) rest)) ≡ done_made g → l ≡ false
    go true w l e = absurd (done-apart 5 g e)
    go false true l e = absurd (done-apart 6 g e)
    go false false true e = absurd (done-apart 7 g e)
    go false false false e = refl

-- every record made anew is the frame that was read, all but its pair, and its Z count can be sent
again : (f : Frame) (m : Made) → length f.words ≡ 31 → Remade f m → (m ≡ done_made (bare f)) × (late f.header.z ≡ false)
unfolding make_observations make_generals make_general_null make_position make_null make_text
again f m full (of_list l es c d many n e s q) =
    let L = list_of l in
    let anew = lists-read-made L (owed-of l) f es c d full many (count-told (counted L f) c n)
    (λ i h. (owed-of l).says-told (entry_at L f i) (get_or es i d) (e i h)) s in
    (q ∙ anew, in-time (other_layout L.asked f.header.kind) f (bare f) _ anew)
again f m full (of_observations x a os c d l n h e q) =
    let made = observations-read-made x f a os c d full l (count-told (count_observations f) c n) (epoch-told (read_epoch f) a h)
    (λ i j. observation-told (observation_at x f i) (get_or os i d) (e i j)) in
    (q ∙ made, in-time (other_layout layout.Observation f.header.kind) f (bare f) _ made)
again f m full (of_generals a gs c d l n h e s q) =
    let made = generals-read-made f a gs c d full l (count-told (count_generals f) c n) (head-told (read_head f) a h)
    (λ i j. general-told (general_at f i) (get_or gs i d) (e i j)) s in
    (q ∙ made, in-time (other_layout layout.General f.header.kind) f (bare f) _ made)
again f m full (of_general_null n x e s q) =
    let made = general-null-read-made f n x full (general-null-told (read_general_null f) n x e) s in
    (q ∙ made, in-time (other_than_null f.header.kind) f (bare f) _ made)
again f m full (of_position p e q) =
    let made = position-read-made f p full (position-told (read_position f) p e) in
    (q ∙ made, in-time (other_layout layout.Position f.header.kind) f (bare f) _ made)
again f m full (of_null n e s q) =
    let made = null-read-made f n full (null-told (read_null f) n e) s in
    (q ∙ made, in-time (other_layout layout.Null f.header.kind) f (bare f) _ made)
again f m full (of_text buffer c e q) =
    let made = text-read-made f buffer c full (count-told (read_text f buffer) c e) in
    (q ∙ made, in-time (other_layout layout.Text f.header.kind) f (bare f) _ made)

pub made-anew : MadeAnew
made-anew f m full r = unfold done_made in ap says_made (again f m full r).0

zero-inside : pair_outside zero_pair ≡ false
zero-inside = unfold pair_outside in refl

-- ITS OWN BITS, if the buffer has room for them
pub its-own-bits : ItsOwnBits
its-own-bits d s m r buffer room = record {
  frame = bare (frame_at d);
  made = unfold done_made in ap says_made anew.0;
  answer = ap says_written (unseen-answer zero_pair (frame_at d) zero-inside (frame-within d) (pair_before d) buffer) ∙ back.answer;
  bits =
      ap (λ bs. line_bits (take (5 * size d) bs)) (unseen-bytes zero_pair (frame_at d) zero-inside (frame-within d) (pair_before d) buffer)
      ∙ back.bits;
}
  where
    anew : (m ≡ done_made (bare (frame_at d))) × (late (frame_at d).header.z ≡ false)
    anew = again (frame_at d) m (frame-full d) r

    back : WritesBack d buffer
    back = writes-back d s anew.1 buffer room

pub demand-2 : Demand2
demand-2 = record {
  parity = gps-parity-rule;
  frames = frames-of-rtcm;
  records = records-of-rtcm;
  generals = generals-of-rtcm;
  read = what-is-read;
  sent = what-can-be-sent;
  reads-back = reads-back-equal;
  pair = pair-beside;
  made-anew = made-anew;
  own_bits = its-own-bits;
}
