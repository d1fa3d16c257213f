-- The worked values hold: each is computed from the definitions that the contracts cite; what the reader hands out, through demand 3.
-- Assumes nothing.
use mathlib.Core.Path.{◌≡◌, refl, ap, ◌∙◌}
use mathlib.Core.Bool.{false}
use mathlib.Core.List.{[], ◌∷◌, map}
use lib.ListN.{replicate}
use Rattle.answer.specs.Order.{refuses}
use Rattle.bits.specs.Bits.{bits, number}
use Rattle.line.specs.Line.{six, line_bits, without}
use Rattle.word.specs.Word.{rows, places, parity, data_of, received, computed, remainder_of, passes, turned_by, sent}
use Rattle.frame.specs.Header.{factors, state_of, code_of, preambled, n_of, header_of}
use Rattle.frame.specs.Frames.{framed, after_pair, turned_frame}
use Rattle.frame.specs.Widths.{state_outside, numbers_outside, header_outside, pair_outside, outside}
use Rattle.frame.specs.Layout.{layout_of}
use Rattle.record_stages.specs.Stages.{other_layout, misfit_after}
use Rattle.record_corrections.specs.Corrections.{count_corrections}
use Rattle.record_values.specs.Values.{signed_value, hundredths_of, limits, udre_value}
use Rattle.stream.specs.Standing.{right, n_at, data_from, frame_at, placed, all_right, stands, scan, frames_in}
use Rattle.printing.specs.Printing.{last_digits, digits_up_to, decimal}
use Rattle.stream.specs.Verdict.{verdict_from, fault_of}
use Rattle.stream.specs.Faults.{odd_in, even_in, faults}
use Rattle.listing.specs.Text.{spaced, odd_line, last_line, lines_in, text_of}
use Rattle.reader.specs.Reading.{started, says_next}
use Rattle.reader.specs.declared.Next.{Next}
use Rattle.promises.specs.Calls.{feeds, replied, reply_to, reported}
use Rattle.promises.specs.Worked.{eleven_bytes, turned_bytes, ten_bytes, eleven_frame, three_lines, WorkedValues}
use Rattle.promises.proofs.Kept.{kept-started}
use Rattle.promises.proofs.Runs.{fed_by_lem, never-past}
use Rattle.promises.proofs.Serving.{byte-bits}
use Rattle.promises.proofs.Demand3.{one_by_one}
use Rattle.promises.proofs.Progress.{text-comes}

frames-eleven : map reported (frames_in (line_bits eleven_bytes)) ≡ (6, eleven_frame) ∷ []
unfolding bits number six line_bits rows places parity data_of received computed remainder_of passes factors state_of preambled n_of header_of framed after_pair right
    n_at data_from frame_at placed all_right stands scan reported
frames-eleven = refl

frames-turned : map reported (frames_in (line_bits turned_bytes)) ≡ (6, turned_frame eleven_frame) ∷ []
unfolding bits number six line_bits rows places parity data_of received computed remainder_of passes factors state_of preambled n_of header_of framed after_pair right
    n_at data_from frame_at placed all_right stands scan reported
frames-turned = refl

frames-ten : map reported (frames_in (line_bits ten_bytes)) ≡ []
unfolding bits number six line_bits rows places parity data_of received computed remainder_of passes factors state_of preambled n_of header_of framed after_pair right
    n_at data_from frame_at placed all_right stands scan reported
frames-ten = refl

text-eleven : text_of eleven_bytes ≡ three_lines 48
unfolding bits number six line_bits rows places parity data_of received computed remainder_of passes factors state_of code_of preambled n_of header_of framed after_pair
    right n_at data_from frame_at placed all_right stands scan without last_digits digits_up_to decimal spaced last_line lines_in
    verdict_from fault_of faults odd_in even_in odd_line text_of three_lines
text-eleven = refl

text-turned : text_of turned_bytes ≡ three_lines 49
unfolding bits number six line_bits rows places parity data_of received computed remainder_of passes factors state_of code_of preambled n_of header_of framed after_pair
    right n_at data_from frame_at placed all_right stands scan without last_digits digits_up_to decimal spaced last_line lines_in
    verdict_from fault_of faults odd_in even_in odd_line text_of three_lines
text-turned = refl

-- a fresh reader is not ended, and no frame waits
goes : started.ended ≡ false
goes = unfold started in refl

none : started.candidate.waits ≡ false
none = unfold started in refl

byte-refused : reply_to started (feeds 0x3F) ≡ replied (refuses 1)
unfolding reply_to
byte-refused = ap (λ (f : Next). replied (says_next f)) (fed_by_lem started false false false (never-past [] [] started kept-started) goes none 0x3F false refl)

zero_bits : six 0x40 ≡ replicate 6 false
zero_bits = unfold bits number six in refl

pub worked : WorkedValues
unfolding factors state_of signed_value hundredths_of limits udre_value outside pair_outside header_outside numbers_outside state_outside layout_of
    other_layout misfit_after count_corrections
worked = record {
  word-1 = unfold bits number rows parity turned_by sent in refl;
  word-2 = unfold bits number rows parity turned_by sent in refl;
  eleven = (one_by_one eleven_bytes).ended ∙ frames-eleven;
  turned = (one_by_one turned_bytes).ended ∙ frames-turned;
  ten = (one_by_one ten_bytes).ended ∙ frames-ten;
  eleven-text = λ ps out f n e. text-comes eleven_bytes ps out f n e ∙ text-eleven;
  turned-text = λ ps out f n e. text-comes turned_bytes ps out f n e ∙ text-turned;
  byte-3F = refl;
  byte-40 = unfold bits number six in refl;
  fed-3F = byte-refused;
  fed-40 = byte-bits [] [] started kept-started goes none 0x40 ∙ zero_bits;
  prc-highest = refl;
  prc-lowest = refl;
  prc-stop-0 = refl;
  prc-stop-1 = refl;
  rrc-highest = refl;
  rrc-lowest = refl;
  rrc-stop-0 = refl;
  rrc-stop-1 = refl;
  udre-health-3 = refl;
  udre-health-6 = refl;
  n-5 = refl;
  n-7 = refl;
  n-1 = refl;
  n-3 = refl;
  n-31 = refl;
  cn0-31 = refl;
  cn0-0 = refl;
  z-5999 = refl;
  z-6000 = refl;
}
