-- What the calls on lists share: entries are counted, and one goes out as a row of bytes. Assumes nothing.
use Rattle.std.specs.Prelude.{List, ℕ}
use Rattle.answer.specs.Order.{Says}
use Rattle.frame.specs.declared.Frame.{Frame}
use Rattle.frame.specs.declared.Layout.{Layout}
use Rattle.record_fields.specs.Coding.{Coding}
use Rattle.record_stages.specs.Stages.{count_after, says_count}
use Rattle.rtcm2_rows.specs.Rows.{put_by, row_after, says_put}
use Rattle.rtcm2.specs.Answer.{left, and_then}

-- COUNT of a list: the refusal that there was, or 6, 7, 8
abbrev pub counted_in : Layout → ℕ → ℕ → Says Frame → Says ℕ
counted_in asked head width said = and_then said (λ f. says_count (count_after asked head width f))

module _ {A : Type 0} (k : Coding A) where
  -- GOES OUT: the refusal that there was, or 13 where the bytes are too few for the row
  abbrev pub row_to : Says A → List ℕ → Says (Unit {0})
  row_to said bytes = and_then said (λ e. says_put (put_by k bytes))

  -- what the bytes then hold: the row and past it what they held, or on a refusal what they held
  abbrev pub row_held : Says A → List ℕ → List ℕ
  row_held said bytes = left said (λ e. row_after k e bytes) bytes
