-- DEMAND 1, call by call: bytes, words and frames. Assumes nothing.
use Rattle.std.specs.Prelude.{◌%◌}
use Rattle.answer.specs.Table.{refusal_number}
use Rattle.line.specs.Answer.{six_of}
use Rattle.bits.specs.Bits.{bits, number}
use Rattle.line.specs.Line.{byte_of}
use Rattle.word.specs.Word.{data_of}
use Rattle.word.specs.Answer.{tested_by, remainder_at, word_of}
use Rattle.frame.specs.Header.{state_of, header_of, n_of, preambled}
use Rattle.frame.specs.Answer.{health_of, header_widths, header_words, frame_widths, clock_of}
use Rattle.frame.specs.Frames.{built_of, blank}
use Rattle.frame.specs.Layout.{layout_of, layout_number, system_of}
use Rattle.answer.proofs.Refusal.number as table_number
use Rattle.line.proofs.six_of
use Rattle.line.proofs.byte_of
use Rattle.word.proofs.data_of
use Rattle.word.proofs.remainder as word-remainder
use Rattle.word.proofs.test as word_test
use Rattle.word.proofs.word_of
use Rattle.frame.proofs.state_of
use Rattle.frame.proofs.health_of
use Rattle.frame.proofs.header_of
use Rattle.frame.proofs.built as frame-built
use Rattle.frame.proofs.no_frame
use Rattle.frame.proofs.n_of
use Rattle.frame.proofs.has_preamble
use Rattle.frame.proofs.header_widths
use Rattle.frame.proofs.header_words
use Rattle.frame.proofs.frame_widths
use Rattle.frame.proofs.clock_of
use Rattle.frame.proofs.layout_of
use Rattle.frame.proofs.layout_number
use Rattle.frame.proofs.system_of
use Rattle.promises.specs.Answered.{Answered}

pub record PartCalls : Type 2 where
  -- answer
  pub refusal-number : Answered table_number.Reads.Asked table_number.Reads.Learnt table_number.Statement.statement
      (λ κs (refusal, _). refusal_number refusal)
  -- line
  pub six-of : Answered six_of.Reads.Asked six_of.Reads.Learnt six_of.Statement.statement
      (λ κs (byte, _). six_of byte)
  pub byte-of : Answered byte_of.Reads.Asked byte_of.Reads.Learnt byte_of.Statement.statement
      (λ κs (six, _). byte_of (bits 6 six))
  -- word
  pub data-of : Answered data_of.Reads.Asked data_of.Reads.Learnt data_of.Statement.statement
      (λ κs (window, _). number (data_of (bits 32 window)))
  pub word-remainder : Answered word-remainder.Reads.Asked word-remainder.Reads.Learnt word-remainder.Statement.statement
      (λ κs (window, _). remainder_at window)
  pub word_test : Answered word_test.Reads.Asked word_test.Reads.Learnt word_test.Statement.statement
      (λ κs (window, _). tested_by (bits 32 window))
  pub word-of : Answered word_of.Reads.Asked word_of.Reads.Learnt word_of.Statement.statement
      (λ κs (carried, (d, _)). word_of carried d)
  -- frame
  pub state-of : Answered state_of.Reads.Asked state_of.Reads.Learnt state_of.Statement.statement
      (λ κs (health, _). state_of (health % 8))
  pub health-of : Answered health_of.Reads.Asked health_of.Reads.Learnt health_of.Statement.statement
      (λ κs (state, _). health_of state)
  pub header-of : Answered header_of.Reads.Asked header_of.Reads.Learnt header_of.Statement.statement
      (λ κs (first, (second, _)). header_of (bits 24 first) (bits 24 second))
  pub frame-built : Answered frame-built.Reads.Asked frame-built.Reads.Learnt frame-built.Statement.statement
      (λ κs (header, (n, (words, _))). built_of header n words)
  pub no-frame : Answered no_frame.Reads.Asked no_frame.Reads.Learnt no_frame.Statement.statement
      (λ κs a. blank)
  pub n-of : Answered n_of.Reads.Asked n_of.Reads.Learnt n_of.Statement.statement
      (λ κs (second, _). n_of (bits 24 second))
  pub has-preamble : Answered has_preamble.Reads.Asked has_preamble.Reads.Learnt has_preamble.Statement.statement
      (λ κs (first, _). preambled (bits 24 first))
  pub header-widths : Answered header_widths.Reads.Asked header_widths.Reads.Learnt header_widths.Statement.statement
      (λ κs (header, _). header_widths header)
  pub header-words : Answered header_words.Reads.Asked header_words.Reads.Learnt header_words.Statement.statement
      (λ κs (header, (n, _)). header_words header n)
  pub frame-widths : Answered frame_widths.Reads.Asked frame_widths.Reads.Learnt frame_widths.Statement.statement
      (λ κs (frame, _). frame_widths frame)
  pub clock-of : Answered clock_of.Reads.Asked clock_of.Reads.Learnt clock_of.Statement.statement
      (λ κs (z, _). clock_of z)
  pub layout-of : Answered layout_of.Reads.Asked layout_of.Reads.Learnt layout_of.Statement.statement
      (λ κs (kind, _). layout_of kind)
  pub layout-number : Answered layout_number.Reads.Asked layout_number.Reads.Learnt layout_number.Statement.statement
      (λ κs (layout, _). layout_number layout)
  pub system-of : Answered system_of.Reads.Asked system_of.Reads.Learnt system_of.Statement.statement
      (λ κs (kind, _). system_of kind)
