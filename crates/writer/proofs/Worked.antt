-- The worked stream is what the definitions that the contracts cite compute. Assumes nothing.
use mathlib.Core.Path.{refl}
use Rattle.bits.specs.Bits.{bits, number}
use Rattle.line.specs.Line.{byte_of}
use Rattle.word.specs.Word.{turned_by, parity, sent}
use Rattle.frame.specs.Header.{factors, code_of, first_word, second_word}
use Rattle.frame.specs.Frames.{words_of}
use Rattle.frame.specs.Widths.{state_outside, numbers_outside, header_outside, pair_outside, outside}
use Rattle.writer.specs.Sending.{sent_from, bytes_for}
use Rattle.writer.specs.Worked.{WorkedStream}

pub worked-bytes : WorkedStream
unfolding bits number byte_of turned_by parity sent factors code_of first_word second_word words_of state_outside numbers_outside header_outside pair_outside outside
    sent_from bytes_for
worked-bytes = record {
  opened-to = refl;
  opened-short = refl;
  answer = refl;
  bytes = refl;
  short = refl;
  turned-answer = refl;
  turned = refl;
  stream = refl;
}
