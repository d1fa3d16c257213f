-- A byte that needs no hunt, fed to the reader that is held: it ends no word, or one past the second that passes. Assumes nothing.
use Rattle.std.specs.Prelude.{Bool, true, false, cond, ◌&&◌, List, ℕ, ◌+◌, ◌*◌, ◌/◌, ◌%◌, ◌^◌, ltb, leb, take, drop}
use Rattle.std.proofs.lemmas.List.Edits.{sets}
use Rattle.answer.specs.Order.{in_order}
use Rattle.bits.specs.Bits.{number}
use Rattle.line.specs.Line.{is_data, six}
use Rattle.word.specs.Word.{passes}
use Rattle.stream.specs.Standing.{word_at, size}
use Rattle.reader.specs.Cells.{put_pair, put_cells, held_bits}
use Rattle.reader.specs.Reading.{busy_by}
use Rattle.reader.specs.declared.Candidate.{Candidate}
use Rattle.rtcm2_state.specs.Numbers.{low_bytes, number_in}
use Rattle.rtcm2_state.specs.State.{start_size, holds_state, state_in}
use Rattle.rtcm2_state.specs.declared.hold.After.{After}
use Rattle.rtcm2_state.specs.declared.hold.After.TheVariants.{Known, Whole, Untold}

-- the counts of a reader that takes bits, with room for six more where the cells stand
unfoldable pub takes_six : Candidate → Bool → Bool
takes_six c ended = in_order (busy_by c ended) (λ n. false) (leb c.end 1216)

-- the bits held with six more
abbrev pub held_after : List ℕ → Candidate → ℕ → List Bool
held_after cells c six_bits = held_bits (put_cells cells c.end six_bits) (c.end + 6) (c.held + 6)

-- six bits more bring a word past the second to its end, and it passes
abbrev pub passes_after : List ℕ → Candidate → ℕ → Bool
passes_after cells c six_bits = leb 2 c.words && ltb c.held (32 + 30 * c.words) && passes (word_at c.words (held_after cells c six_bits))

-- WHAT SIX BITS MORE TELL without a hunt: how many words are then known, or that all words of the frame have come
unfoldable pub after_six : List ℕ → Candidate → ℕ → After
after_six cells c six_bits =
    let more = cond (leb (size (held_after cells c six_bits)) (c.words + 1)) Whole (Known (c.words + 1)) in
    cond (ltb (c.held + 6) (32 + 30 * c.words)) (Known c.words) (cond (passes_after cells c six_bits) more Untold)

abbrev pub told : After → Bool
told (Known words) = true
told Whole = true
told Untold = false

-- QUIET: the bytes hold such a reader, the byte carries six bits, and no hunt is needed
unfoldable pub quiet_in : List ℕ → ℕ → Bool
quiet_in bs b =
    let r = state_in bs in
    holds_state bs && takes_six r.candidate r.ended && is_data b && told (after_six r.cells r.candidate (number (six b)))

-- six bits put into the cells at bit `end`, both counts six higher, so many words known, and whether a frame waits
unfoldable pub six_put : List ℕ → ℕ → ℕ → ℕ → ℕ → ℕ → List ℕ
six_put bs end held words waits six_bits =
    let at = start_size + 4 * (end / 32) in
    let both = put_pair (number_in (take 4 (drop at bs))) (end % 32) six_bits in
    let cells = sets (sets bs at (low_bytes 4 (both / 2 ^ 32))) (at + 4) (low_bytes 4 (both % 2 ^ 32)) in
    let counts = sets (sets cells 4 (low_bytes 4 (end + 6))) 8 (low_bytes 4 (held + 6)) in
    sets (sets counts 12 (low_bytes 4 words)) 20 (low_bytes 4 waits)
