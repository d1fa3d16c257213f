-- `put_frame` meets its contract: word 1, word 2, then the data words after them. Assumes nothing.
use mathlib.Core.List.{◌∷◌}
use Rattle.writer.proofs.Carrying.{pair_lt}
use Rattle.writer.proofs.Putting.{put-frame}
use Rattle.writer.proofs.put_frame.Goals as goal

pub returns : goal.returns
returns c =
    let a = c.args in
    let put = put-frame _ _ _ _ a.words.now (c.put_word-pair.ensures.value, c.put_word-pair.ensures.buffer_after) (c.put_word-next.ensures.value, c.put_word-next.ensures.buffer_after) (c.put_words.ensures.value, c.put_words.ensures.buffer_after) in
    record { value = put.0; buffer_after = put.1; upper_bound = rw put.0 (pair_lt a.carried (a.first ∷ a.second ∷ a.words.now) c.requires.carried_bound) }
