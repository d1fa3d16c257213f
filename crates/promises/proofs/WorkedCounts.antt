-- The totals of the worked streams, each computed from the definitions. Assumes nothing.
use mathlib.Core.Path.{◌≡◌, refl}
use mathlib.Core.List.{[], ◌∷◌}
use Rattle.bits.specs.Bits.{bits, number}
use Rattle.line.specs.Line.{six, line_bits}
use Rattle.word.specs.Word.{rows, places, parity, data_of, received, computed, remainder_of, passes}
use Rattle.frame.specs.Header.{factors, state_of, preambled, n_of, header_of}
use Rattle.frame.specs.Frames.{framed}
use Rattle.stream.specs.Standing.{right, n_at, data_from, frame_at, placed, all_right, stands, scan}
use Rattle.stream.specs.Verdict.{verdict_from, fault_of}
use Rattle.stream.specs.Faults.{odd_in, even_in, faults}
use Rattle.promises.specs.Counters.{totals_of, WorkedCounts}

nick-is : totals_of (0x40 ∷ 0x66 ∷ 0x61 ∷ 0x45 ∷ 0x68 ∷ 0x7F ∷ 0x7F ∷ 0x6C ∷ 0x73 ∷ 0x7F ∷ 0x44 ∷ []) ≡ (1, 0)
unfolding bits number six line_bits rows places parity data_of received computed remainder_of passes factors state_of preambled n_of header_of framed right
    n_at data_from frame_at placed all_right stands scan verdict_from fault_of faults odd_in even_in
nick-is = refl

two_is : totals_of (0x40 ∷ 0x66 ∷ 0x61 ∷ 0x41 ∷ 0x68 ∷ 0x7F ∷ 0x4F ∷ 0x6C ∷ 0x73 ∷ 0x7F ∷ 0x44 ∷ []) ≡ (0, 1)
unfolding bits number six line_bits rows places parity data_of received computed remainder_of passes factors state_of preambled n_of header_of framed right
    n_at data_from frame_at placed all_right stands scan verdict_from fault_of faults odd_in even_in
two_is = refl

both_is : totals_of (0x40 ∷ 0x64 ∷ 0x61 ∷ 0x45 ∷ 0x68 ∷ 0x7F ∷ 0x7F ∷ 0x6C ∷ 0x73 ∷ 0x7F ∷ 0x44 ∷ []) ≡ (0, 0)
unfolding bits number six line_bits rows places parity data_of received computed remainder_of passes factors state_of preambled n_of header_of framed right
    n_at data_from frame_at placed all_right stands scan verdict_from fault_of faults odd_in even_in
both_is = refl

right_is : totals_of (0x40 ∷ 0x66 ∷ 0x61 ∷ 0x41 ∷ 0x68 ∷ 0x7F ∷ 0x7F ∷ 0x6C ∷ 0x73 ∷ 0x7F ∷ 0x44 ∷ []) ≡ (0, 0)
unfolding bits number six line_bits rows places parity data_of received computed remainder_of passes factors state_of preambled n_of header_of framed right
    n_at data_from frame_at placed all_right stands scan verdict_from fault_of faults odd_in even_in
right_is = refl

then_is : totals_of
    (0x40 ∷ 0x66 ∷ 0x61 ∷ 0x41 ∷ 0x68 ∷ 0x7F ∷ 0x7F ∷ 0x6C ∷ 0x77 ∷ 0x7F ∷ 0x44 ∷ 0x66 ∷ 0x61 ∷ 0x41 ∷ 0x68 ∷ 0x7F
    ∷ 0x7F ∷ 0x6C ∷ 0x73 ∷ 0x7F ∷ 0x44 ∷ []) ≡ (1, 0)
unfolding bits number six line_bits rows places parity data_of received computed remainder_of passes factors state_of preambled n_of header_of framed right
    n_at data_from frame_at placed all_right stands scan verdict_from fault_of faults odd_in even_in
then_is = refl

end_is : totals_of
    (0x40 ∷ 0x66 ∷ 0x41 ∷ 0x42 ∷ 0x68 ∷ 0x48 ∷ 0x40 ∷ 0x53 ∷ 0x7C ∷ 0x47 ∷ 0x40 ∷ 0x48 ∷ 0x71 ∷ 0x62 ∷ 0x5A ∷ 0x60
    ∷ 0x59 ∷ 0x5E ∷ 0x7E ∷ 0x57 ∷ 0x65 ∷ 0x7F ∷ 0x6C ∷ 0x73 ∷ 0x7F ∷ 0x61 ∷ []) ≡ (1, 0)
unfolding bits number six line_bits rows places parity data_of received computed remainder_of passes factors state_of preambled n_of header_of framed right
    n_at data_from frame_at placed all_right stands scan verdict_from fault_of faults odd_in even_in
end_is = refl

stray-is : totals_of
    (0x40 ∷ 0x66 ∷ 0x41 ∷ 0x42 ∷ 0x68 ∷ 0x48 ∷ 0x40 ∷ 0x53 ∷ 0x7C ∷ 0x47 ∷ 0x40 ∷ 0x48 ∷ 0x71 ∷ 0x62 ∷ 0x5A ∷ 0x60
    ∷ 0x73 ∷ 0x7C ∷ 0x7C ∷ 0x6F ∷ 0x40 ∷ 0x40 ∷ 0x66 ∷ 0x58 ∷ 0x40 ∷ 0x76 ∷ 0x41 ∷ []) ≡ (1, 0)
unfolding bits number six line_bits rows places parity data_of received computed remainder_of passes factors state_of preambled n_of header_of framed right
    n_at data_from frame_at placed all_right stands scan verdict_from fault_of faults odd_in even_in
stray-is = refl

ten-is : totals_of (0x40 ∷ 0x66 ∷ 0x61 ∷ 0x41 ∷ 0x68 ∷ 0x7F ∷ 0x7F ∷ 0x6C ∷ 0x73 ∷ 0x7F ∷ []) ≡ (0, 0)
unfolding bits number six line_bits rows places parity data_of received computed remainder_of passes factors state_of preambled n_of header_of framed right
    n_at data_from frame_at placed all_right stands scan verdict_from fault_of faults odd_in even_in
ten-is = refl

pub worked-counts : WorkedCounts
worked-counts = record { nick = nick-is; two = two_is; both = both_is; right = right_is; then = then_is; end = end_is; stray = stray-is; ten = ten-is }
