-- Words, bytes, headers, frames and counts are those of the papers: the laws of their crates, in the table's terms. Assumes nothing.
use mathlib.Core.Path.{◌≡◌, refl, sym, ap, ap₂, subst, ◌∙◌}
use mathlib.Core.Bool.{Bool, true, false, cond}
use mathlib.Core.List.{List, [], ◌∷◌}
use Prim.Native.Nat.{ℕ, ◌*◌, ◌≤◌}
use native.Mathlib.Omega.{arith}
use lib.Dec.{ltb, eqb}
use borrow.Author.Tests.{ltb-false, not-false, lt-ltb, le-ltb, lt-leb, ne_eqb, eqb-true}
use Rattle.answer.specs.Order.{answers}
use Rattle.bits.proofs.Numbers.{bits-number}
use Rattle.bits.proofs.SignedLaws.{signed-code, code-signed}
use Rattle.line.specs.Line.{is_data, byte_of}
use Rattle.line.specs.Answer.{six_of, says_six}
use Rattle.line.proofs.LineLaws.{byte-six, six-byte, byte-data, six-says}
use Rattle.word.specs.Word.{Row, rows, parity_bit, d29*, d30*, D, data_of, passes}
use Rattle.word.proofs.Linearity.{passes-equal, passes-turned, data-turned}
use Rattle.word.proofs.Tables.{tables_agree}
use Rattle.frame.specs.Header.{factors, state_of, preambled, n_of, header_of, first_word, second_word}
use Rattle.frame.specs.Widths.{state_outside, header_outside, late}
use Rattle.frame.specs.Answer.{header_words, says_words}
use Rattle.frame.specs.declared.Header.{Header}
use Rattle.frame.proofs.HeaderLaws.{length-first, length-second, header-words, n-words, first-preambled}
use Rattle.frame.proofs.HeaderLaws.{first-header, second-header, header-inside, n-lt, words-answered}
use Rattle.record_fields.proofs.SatelliteLaws.{satellite-back, code-back}
use Rattle.record_corrections.specs.declared.Issue.TheVariants.{Iod, Age}
use Rattle.record_corrections.specs.Issues.{issue_of}
use Rattle.record_healths.specs.declared.Condition.TheVariants.{Data}
use Rattle.record_healths.specs.Conditions.{condition_of}
use Rattle.record_values.specs.Values.{hundredths_of, limits, udre_value}
use Rattle.record_values.specs.Answer.{prc_mm, rrc_mm_s, says_distance, says_rate}
use Rattle.record_values.proofs.Readings.{stops-either}
use Rattle.record_values.proofs.AnswerLaws.{prc-says, rrc-says, both-exact, udre-says, minutes-says, z-says}
use Rattle.writer.specs.Answer.{says_written}
use Rattle.frame.specs.declared.Carried.{Carried}
use Rattle.writer.specs.declared.Written.{Written}
use Rattle.writer.specs.declared.Written.TheVariants.{Done, Refused}
use Rattle.writer.proofs.Wrote.{wrote, writes-back, writes-back-turned}
use Rattle.writer.proofs.Streams.{stream-written}
use Rattle.record_observations.specs.Editions.{quantity_of, mark_of}
use Rattle.record_observations.specs.Observations.{count_observations}
use Rattle.record_laws.proofs.ObservationTrips.{observations-held}
use Rattle.promises.specs.RecordLayouts.{list_of}
use Rattle.promises.specs.ThoseOfRtcm.{GpsParityRule, FramesOfRtcm, RecordsOfRtcm}
use Rattle.promises.proofs.CarriesItsNumber.{says-inj, none_told, carries-its-number}
use Rattle.promises.proofs.ParityOfRtcm.{at_each, from_each, received-rows, computed-rows, sent_back, only-said}
use Rattle.promises.proofs.NumbersOfRtcm.{says-exactly, said-value, udre-is, cn0-is, signed_above, signed_below}
use Rattle.promises.proofs.NumbersOfRtcm.{count-told, lists-fit, corrections-fit, healths-fit, null-fit, text-fit}

-- ---- the parity rule

pub gps-parity-rule : GpsParityRule
gps-parity-rule = record {
  remainder = λ w. unfold passes in refl;
  each_row = λ w. (
    λ p. at_each (λ (r : Row). D w r.0) (parity_bit (d29* w) (d30* w) (data_of w)) rows (sym (received-rows w) ∙ (passes-equal w).0 p ∙ computed-rows w),
    λ h. (passes-equal w).1 (received-rows w ∙ from_each (λ (r : Row). D w r.0) (parity_bit (d29* w) (d30* w) (data_of w)) rows h ∙ sym (computed-rows w)),
  );
  tables = tables_agree;
  sent-passes = sent_back;
  only-sent = only-said;
  turned = λ w h. (passes-turned w h, data-turned w h);
}

-- ---- bytes, headers, frames

written-told : (x : Written) (k : ℕ) (c : Carried) → says_written x ≡ answers (k, c) → x ≡ Done k c
written-told (Done j b) k c e = let same : ◌≡◌ {A = ℕ × Carried} (j, b) (k, c) = says-inj e in ap (λ (v : ℕ × Carried). Done v.0 v.1) same
written-told (Refused n) k c e = let z : ◌≡◌ {A = ℕ} 0 1 = cc in absurd (omega arith)

-- the data of a header's two words, in the table's terms
words-said : (h : Header) (n : ℕ) → header_outside h ≡ false → n ≤ 31 → says_words (header_words h n) ≡ answers (first_word h, second_word h n)
words-said h n o l =
    ap says_words (words-answered h n o l)
    ∙ ap₂ (λ x y. answers (x, y)) (bits-number 24 (first_word h) (length-first h)) (bits-number 24 (second_word h n) (length-second h n))

header-told : (h : Header) (n : ℕ) (a b : List Bool) → says_words (header_words h n) ≡ answers (a, b)
    → (header_of a b ≡ h) × (n_of b ≡ n) × (preambled a ≡ true)
header-told h n a b e =
    let none = none_told (carries-its-number.header-words h n) (a, b) e in
    let l = ltb-false 31 n none.1.0 in
    let same : ◌≡◌ {A = List Bool × List Bool} (a, b) (first_word h, second_word h n) = says-inj (sym e ∙ words-said h n none.0 l) in
    subst (λ (v : List Bool × List Bool). (header_of v.0 v.1 ≡ h) × (n_of v.1 ≡ n) × (preambled v.0 ≡ true)) (sym same)
    (header-words h n none.0 l, n-words h n none.0 l, first-preambled h none.0)

byte-told : (b : ℕ) (ds : List Bool) → says_six (six_of b) ≡ answers ds → byte_of ds ≡ b
byte-told b ds e =
    let data-byte = not-false (is_data b) (none_told (carries-its-number.six-of b) ds e).0 in
    ap byte_of (says-inj (sym e ∙ six-says b data-byte)) ∙ byte-six b data-byte

pub frames-of-rtcm : FramesOfRtcm
frames-of-rtcm = record {
  byte-back = byte-told;
  six-back = λ ds h. six-says (byte_of ds) (byte-data ds h) ∙ ap answers (six-byte ds h);
  header-back = header-told;
  words_back = λ a b la lb p.
      words-said (header_of a b) (n_of b) (header-inside a b) (omega (arith, n-lt b))
      ∙ ap₂ (λ x y. answers (x, y)) (first-header a b la p) (second-header a b lb);
  written = λ f c buffer k c' full e. wrote f full c buffer k c' (written-told _ k c' e);
  stream = λ fs buffer g room. stream-written fs g buffer room;
  written_back = λ d buffer s z room. let t = writes-back-turned d s z buffer room in (writes-back d s z buffer room, t.0, t.1.0, t.1.1);
}

-- ---- records

pub records-of-rtcm : RecordsOfRtcm
records-of-rtcm = record {
  below = signed_below;
  above = signed_above;
  signed_back = signed-code;
  code-back = code-signed;
  satellite-0 = refl;
  satellite-n = λ n some few. ap (λ t. cond t 32 n) (ne_eqb n 0 (λ z. omega arith));
  satellite-back = satellite-back;
  satellite-code = code-back;
  lists-n = λ l. lists-fit (list_of l);
  corrections-n = corrections-fit;
  healths-n = healths-fit;
  observations-n = λ f c e. (observations-held f c (count-told (count_observations f) c e)).n;
  position-n = λ f p e. eqb-true f.n 4 (not-false (eqb f.n 4) (none_told (carries-its-number.read-position f) p e).1.1.1.0);
  null-n = null-fit;
  issue-gps = λ v. unfold issue_of in ap Iod (omega arith);
  issue-glonass = λ c t l. unfold issue_of in ap₂ Age (omega arith) (omega arith);
  mark-half = λ b. unfold mark_of quantity_of in refl;
  mark-reserved = λ b. unfold mark_of quantity_of in refl;
  mark-more = λ kind b. unfold mark_of in refl;
  condition-gps = λ v. unfold condition_of in refl;
  condition-glonass = λ d r l. unfold condition_of in ap₂ Data (omega arith) (omega arith);
  letter-ascii = λ c some few. rw (le-ltb c 1 some, le-ltb 191 c (omega arith), lt-ltb c 128 (omega arith));
  letter-russian = λ c some few. rw (le-ltb c 1 (omega arith), le-ltb 191 c few, le-ltb c 128 some);
  text-n = text-fit;
  prc = says-exactly 15 20 320 (λ scale z. says_distance (prc_mm scale z)) prc-says;
  rrc = says-exactly 7 2 32 (λ scale z. says_rate (rrc_mm_s scale z)) rrc-says;
  stopped = λ e. stops-either e.prc e.rrc;
  usable = λ e. both-exact e.scale e.prc e.rrc;
  states = unfold state_of factors in refl;
  hundredths = λ k. unfold hundredths_of in refl;
  udre-0 = udre-is 0 1000 refl refl (unfold limits in refl);
  udre-1 = udre-is 1 4000 refl refl (unfold limits in refl);
  udre-2 = udre-is 2 8000 refl refl (unfold limits in refl);
  udre-3 = λ s inside.
      said-value ((state_outside s, 5) ∷ (ltb 3 3, 10) ∷ []) (udre_value s 3) (udre-says s 3) (inside, (refl, tt)) ∙ (unfold udre_value in refl);
  cn0-0 = refl;
  cn0 = cn0-is;
  minutes = λ code l. said-value ((ltb 15 code, 10) ∷ []) (5 * code) (minutes-says code) (le-ltb 15 code l, tt);
  tenths = λ z l.
      said-value ((ltb 8191 z, 5) ∷ (late z, 7) ∷ []) (6 * z) (z-says z) (le-ltb 8191 z (omega arith), (lt-leb 6000 z l, tt));
}
