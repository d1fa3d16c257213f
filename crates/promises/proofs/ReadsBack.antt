-- Every record that can be sent is made, written, and reads back from the line, layout by layout. Assumes nothing.
use mathlib.Core.Path.{◌≡◌, refl, sym, ap, subst, ◌∙◌}
use mathlib.Core.Bool.{false, ◌||◌}
use mathlib.Core.List.{List, [], ◌∷◌, ◌++◌}
use Prim.Native.Nat.{ℕ, ◌*◌}
use lib.ListN.{length, take, get_or, replicate}
use Rattle.bits.specs.Rows.{words_in, FillAfter}
use Rattle.frame.specs.Frames.{after_pair}
use Rattle.frame.specs.Widths.{any_of, pair_outside}
use Rattle.frame.specs.declared.Header.{Header}
use Rattle.frame.specs.declared.Carried.{Carried}
use Rattle.frame.specs.declared.Frame.{Frame}
use Rattle.frame.specs.declared.Layout.TheVariants as layout
use Rattle.frame.specs.Layout.{system_of}
use Rattle.frame.proofs.FrameLaws.{after-inside}
use Rattle.record_fields.specs.Coding.{frame_bits, entry_bits, frame_with, frame_after}
use Rattle.record_stages.specs.Stages.{wrong_count, make_order, says_count}
use Rattle.record_observations.specs.declared.Edition.{Edition}
use Rattle.record_observations.specs.declared.Epoch.{Epoch}
use Rattle.record_observations.specs.declared.Observation.{Observation}
use Rattle.record_positions.specs.declared.Position.{Position}
use Rattle.record_stages.specs.Lists.{ListLayout, coding_of, width_of, list_order, ListMade}
use Rattle.record_observations.specs.Editions.{quantity_of}
use Rattle.record_observations.specs.Observations as observations
use Rattle.record_positions.specs.Positions as positions
use Rattle.record_nulls.specs.Nulls as nulls
use Rattle.record_texts.specs.Texts as texts
use Rattle.record_laws.proofs.PairLaws.{position-same, null-same, text-count, text-left}
use Rattle.record_laws.proofs.PairLaws.{observations-count, epoch-same, observation-entry}
use Rattle.record_laws.proofs.PlainLists.{OwedList, lists-sent, list_count_lem, list-entry}
use Rattle.record_laws.proofs.ObservationTrips.{observations-sent}
use Rattle.record_laws.proofs.PositionTrips.{position-sent}
use Rattle.record_laws.proofs.NullTrips.{null-sent}
use Rattle.record_laws.proofs.TextTrips.{text-sent}
use Rattle.promises.specs.RecordLayouts.{list_of}
use Rattle.promises.specs.ReadsBack.{PlainBack, ObservationsBack, PositionBack, NullBack, TextBack, WhatCanBeSent}
use Rattle.promises.proofs.RecordLayouts.{owed-of}
use Rattle.promises.proofs.Sending.{sent-reads-back}
use Rattle.promises.proofs.GeneralsBack.{generals-written, general-null-written}

-- ---- what was made reads back, in the table's terms

pub list_back : (L : ListLayout) → OwedList L → (h : Header) (es : List L.Entry) (c : ℕ) (d : L.Entry) (f : Frame) → ListMade L h es c d f
    → PlainBack L h es c d f
list_back L o h es c d f m = record {
  header = m.header;
  inside = m.inside;
  counted = ap says_count m.counts;
  each = λ i l. ap L.says (m.entries i l) ∙ o.says-entry (get_or es i d);
  n = m.n;
  fill = m.fill;
}

pub observations-back : (e : Edition) (h : Header) (a : Epoch) (os : List Observation) (c : ℕ) (d : Observation) (f : Frame)
    → observations.ObservationsMade e h a os c d f → ObservationsBack e h a os c d f
observations-back e h a os c d f m = record {
  header = m.header;
  inside = m.inside;
  counted = ap says_count m.counts;
  epoch = ap observations.says_epoch_read m.epoch;
  each = λ i l. ap observations.says_observation_read (m.entries i l);
  n = m.n;
}

pub position-back : (h : Header) (p : Position) (f : Frame) → positions.PositionMade h p f → PositionBack h p f
position-back h p f m = record { header = m.header; inside = m.inside; reads = ap positions.says_position_read m.reads; n = m.n }

pub null-back : (h : Header) (n : ℕ) (f : Frame) → nulls.NullMade h n f → NullBack h n f
null-back h n f m = record { header = m.header; inside = m.inside; reads = ap nulls.says_null_read m.reads; n = m.n; fill = m.fill }

pub text-back : (h : Header) (t : List ℕ) (f : Frame) → texts.TextMade h t f → TextBack h t f
text-back h t f m = record {
  header = m.header;
  inside = m.inside;
  reads = λ buffer l. ap says_count (m.reads buffer l);
  writes = m.writes;
  n = m.n;
  fill = m.fills;
}

-- ---- and after any pair too: no reader of records looks at it

module _ (k : Carried) (p : pair_outside k ≡ false) where
  list-unseen : (L : ListLayout) (h : Header) (es : List L.Entry) (c : ℕ) (d : L.Entry) (f : Frame) → PlainBack L h es c d f
      → PlainBack L h es c d (after_pair k f)
  list-unseen L h es c d f b = record {
    header = same.0 ∙ b.header;
    inside = after-inside k f p b.inside;
    counted = ap says_count (list_count_lem L k f p b.inside) ∙ b.counted;
    each = λ i l. ap L.says (list-entry L k f p b.inside i) ∙ b.each i l;
    n = same.1.0 ∙ b.n;
    fill = subst (FillAfter L.pattern (c * width_of L h)) (sym same.1.1) b.fill;
  }
    where
      same : ((after_pair k f).header ≡ f.header) × (((after_pair k f).n ≡ f.n) × (frame_bits (after_pair k f) ≡ frame_bits f))
      same = unfold frame_bits after_pair in (refl, (refl, refl))

  observations-unseen : (e : Edition) (h : Header) (a : Epoch) (os : List Observation) (c : ℕ) (d : Observation) (f : Frame)
      → ObservationsBack e h a os c d f → ObservationsBack e h a os c d (after_pair k f)
  unfolding after_pair
  observations-unseen e h a os c d f b = record {
    header = b.header;
    inside = after-inside k f p b.inside;
    counted = ap says_count (observations-count k f p b.inside) ∙ b.counted;
    epoch = ap observations.says_epoch_read (epoch-same k f p b.inside) ∙ b.epoch;
    each = λ i l. ap observations.says_observation_read (observation-entry k f p b.inside e i) ∙ b.each i l;
    n = b.n;
  }

  position-unseen : (h : Header) (q : Position) (f : Frame) → PositionBack h q f → PositionBack h q (after_pair k f)
  unfolding after_pair
  position-unseen h q f b = record {
    header = b.header;
    inside = after-inside k f p b.inside;
    reads = ap positions.says_position_read (position-same k f p b.inside) ∙ b.reads;
    n = b.n;
  }

  null-unseen : (h : Header) (n : ℕ) (f : Frame) → NullBack h n f → NullBack h n (after_pair k f)
  unfolding after_pair
  null-unseen h n f b = record {
    header = b.header;
    inside = after-inside k f p b.inside;
    reads = ap nulls.says_null_read (null-same k f p b.inside) ∙ b.reads;
    n = b.n;
    fill = b.fill;
  }

  text-unseen : (h : Header) (t : List ℕ) (f : Frame) → TextBack h t f → TextBack h t (after_pair k f)
  unfolding frame_bits after_pair
  text-unseen h t f b = record {
    header = b.header;
    inside = after-inside k f p b.inside;
    reads = λ buffer l. ap says_count (text-count k f p b.inside buffer) ∙ b.reads buffer l;
    writes = λ buffer l. text-left k f p b.inside buffer ∙ b.writes buffer l;
    n = b.n;
    fill = b.fill;
  }

-- THE SENTENCE, layout by layout
pub what-can-be-sent : WhatCanBeSent
unfolding observations.make_observations positions.make_position nulls.make_null texts.make_text
    frame_with frame_after
what-can-be-sent = record {
  lists = λ l h es c d typed s.
      let L = list_of l in
      let sent = lists-sent L (owed-of l) h es c d typed s in
      sent-reads-back h (list_order L h es c) (words_in L.pattern (entry_bits (coding_of L h) (take c es)))
      (ListMade L h es c d) (PlainBack L h es c d) (list_back L (owed-of l) h es c d) (λ k o. list-unseen k o L h es c d) sent
      s.header.hour sent.reads.header sent.reads.inside;
  observations = λ e h a os c d typed s.
      let sent = observations-sent e h a os c d typed s in
      sent-reads-back h
      (make_order layout.Observation h
      ((wrong_count 15 c, 12) ∷ (observations.epoch_out a || any_of (observations.out_of_range e (quantity_of h.kind)) (take c os), 10) ∷ []))
      (words_in 0 (observations.epoch_bits a ++ entry_bits (observations.coding e (quantity_of h.kind)) (take c os)))
      (observations.ObservationsMade e h a os c d) (ObservationsBack e h a os c d) (observations-back e h a os c d)
      (λ k o. observations-unseen k o e h a os c d) sent s.header.hour sent.reads.header sent.reads.inside;
  generals = generals-written;
  general-null = general-null-written;
  position = λ h p typed s.
      let sent = position-sent h p typed s in
      sent-reads-back h (make_order layout.Position h ((positions.out_of_range p, 10) ∷ []))
      (words_in positions.fill (entry_bits positions.coding (p ∷ [])))
      (positions.PositionMade h p) (PositionBack h p) (position-back h p) (λ k o. position-unseen k o h p) sent
      s.header.hour sent.reads.header sent.reads.inside;
  null = λ h n s.
      let sent = null-sent h n s in
      sent-reads-back h (make_order layout.Null h ((nulls.too_many n, 12) ∷ [])) (replicate n nulls.fill)
      (nulls.NullMade h n) (NullBack h n) (null-back h n) (λ k o. null-unseen k o h n) sent s.header.hour sent.reads.header sent.reads.inside;
  text = λ h t s.
      let sent = text-sent h t s in
      sent-reads-back h
      (make_order layout.Text h ((wrong_count 90 (length t), 12) ∷ (any_of (texts.forbidden (system_of h.kind)) t, 11) ∷ []))
      (words_in texts.fill (entry_bits texts.coding t))
      (texts.TextMade h t) (TextBack h t) (text-back h t) (λ k o. text-unseen k o h t) sent s.header.hour sent.reads.header sent.reads.inside;
}
