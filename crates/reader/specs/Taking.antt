-- What taking finds in the bits held: the frame that stands there, or that none does. Assumes nothing.
use Rattle.std.specs.Prelude.{◌≡◌, ℕ, Bool, true, cond, List, Option, Some, None}
use Rattle.word.specs.Word.{data_of}
use Rattle.frame.specs.Header.{preambled, header_of}
use Rattle.frame.specs.declared.Header.{Header}
use Rattle.frame.specs.declared.Carried.{Carried}
use Rattle.stream.specs.Standing.{word_at, n_at, all_right, stands, pair_before, frame_at}
use Rattle.frame.specs.declared.Frame.{Frame}

unfoldable pub there_in : List Bool → Option Frame
there_in d = cond (stands d) (Some (frame_at d)) None

-- the two words of a header, of which the first has the preamble, the two bits before them, and N: a frame stands exactly where the N words behind are right
pub record HeaderIn (d : List Bool) (header : Header) (carried : Carried) (n : ℕ) : Type 0 where
  pub pair : carried ≡ pair_before d
  pub words : header ≡ header_of (data_of (word_at 0 d)) (data_of (word_at 1 d))
  pub count : n ≡ n_at d
  pub head : preambled (data_of (word_at 0 d)) ≡ true
  pub rest : stands d ≡ all_right n 2 d
