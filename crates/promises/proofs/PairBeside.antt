-- The carried pair of a frame: writer and journal do not look at which it is, and what is made or recalled has 00. Assumes nothing.
use mathlib.Core.Path.{◌≡◌, refl, ap, subst}
use mathlib.Core.Bool.{◌||◌}
use mathlib.Core.List.{List, [], ◌∷◌, ◌++◌}
use Prim.Native.Nat.{ℕ}
use native.Mathlib.Omega.{arith}
use lib.ListN.{length, take, replicate}
use Rattle.answer.specs.Order.{answers, Check, in_order}
use Rattle.answer.proofs.OrderLaws.{order-told}
use Rattle.bits.specs.Rows.{words_in}
use Rattle.frame.specs.Frames.{framed, after_pair, bare}
use Rattle.frame.specs.Layout.{system_of}
use Rattle.frame.specs.Widths.{any_of}
use Rattle.frame.specs.declared.Header.{Header}
use Rattle.frame.specs.declared.Frame.{Frame}
use Rattle.frame.specs.declared.Layout.TheVariants as layout
use Rattle.record_fields.specs.Coding.{entry_bits, frame_with, frame_after}
use Rattle.record_stages.specs.Stages.{wrong_count, make_order, refused_made, done_made, says_made}
use Rattle.record_stages.specs.declared.Made.{Made}
use Rattle.record_stages.specs.declared.Making.{Making}
use Rattle.record_stages.specs.declared.Making.TheVariants as making
use Rattle.record_stages.proofs.StageLaws.{done-apart, done-frame}
use Rattle.record_stages.specs.Lists.{coding_of, list_order}
use Rattle.record_observations.specs.Editions.{quantity_of}
use Rattle.record_observations.specs.Observations as observations
use Rattle.record_generals.specs.Generals.{make_generals}
use Rattle.record_generals.specs.GeneralNulls.{make_general_null}
use Rattle.record_positions.specs.Positions as positions
use Rattle.record_nulls.specs.Nulls as nulls
use Rattle.record_texts.specs.Texts as texts
use Rattle.journal.proofs.RoundTrip as journal
use Rattle.writer.proofs.Wrote as writer
use Rattle.promises.specs.RecordLayouts.{list_of}
use Rattle.promises.specs.Demand2.{PairBeside}
use Rattle.promises.proofs.CarriesItsNumber.{says-inj}
use Rattle.promises.proofs.GeneralsBack.{general_checks, general_words_of, null_checks, null_words_of}

pub made_told : (m : Made) (f : Frame) → says_made m ≡ answers f → m ≡ done_made f
made_told m f e = go m.answer m.frame e
  where
    go : (a : Making) (g : Frame) → says_made (record { answer = a; frame = g }) ≡ answers f → record { answer = a; frame = g } ≡ done_made f
    go making.Done g h = unfold done_made in ap (λ x. record { answer = making.Done; frame = x }) (says-inj h)
    go (making.Refused n) g h = let z : ◌≡◌ {A = ℕ} 0 1 = cc in absurd (omega arith)

-- what is made of words has 00
made-bare : (cs : List Check) (h : Header) (ws : List ℕ) (f : Frame) → says_made (in_order cs refused_made (done_made (framed h ws))) ≡ answers f → bare f ≡ f
made-bare cs h ws f e = subst (λ g. bare g ≡ g) same (unfold framed after_pair in refl)
  where
    same : framed h ws ≡ f
    same = done-frame (order-told refused_made (done_made (framed h ws)) (done_made f) (λ n. done-apart n f) cs (made_told _ f e)).1

pub pair-beside : PairBeside
unfolding observations.make_observations make_generals make_general_null positions.make_position
    nulls.make_null texts.make_text frame_with frame_after
pair-beside = record {
  written = λ k f c buffer p o. (writer.unseen-answer k f p o c buffer, writer.unseen-bytes k f p o c buffer);
  kept = λ k f buffer p o. (journal.unseen-answer k f p o buffer, journal.unseen-bytes k f p o buffer);
  lists = λ l h es c f e.
      let L = list_of l in made-bare (list_order L h es c) h (words_in L.pattern (entry_bits (coding_of L h) (take c es))) f e;
  observations = λ e h a os c f s.
      made-bare (make_order layout.Observation h
      ((wrong_count 15 c, 12) ∷ (observations.epoch_out a || any_of (observations.out_of_range e (quantity_of h.kind)) (take c os), 10) ∷ [])) h
      (words_in 0 (observations.epoch_bits a ++ entry_bits (observations.coding e (quantity_of h.kind)) (take c os))) f s;
  generals = λ h a gs c f e. made-bare (general_checks h a gs c) h (general_words_of a gs c) f e;
  general-null = λ h n s f e. made-bare (null_checks h n s) h (null_words_of s) f e;
  position = λ h p f e.
      made-bare (make_order layout.Position h ((positions.out_of_range p, 10) ∷ [])) h (words_in positions.fill (entry_bits positions.coding (p ∷ []))) f e;
  null = λ h n f e. made-bare (make_order layout.Null h ((nulls.too_many n, 12) ∷ [])) h (replicate n nulls.fill) f e;
  text = λ h t f e.
      made-bare (make_order layout.Text h ((wrong_count 90 (length t), 12) ∷ (any_of (texts.forbidden (system_of h.kind)) t, 11) ∷ [])) h
      (words_in texts.fill (entry_bits texts.coding t)) f e;
  recalled = λ bs f k fits e. journal.recalled-bare bs fits f k e;
}
