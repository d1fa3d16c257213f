-- No reader of records looks at a frame's carried pair, but for its width; of plain lists that is said in PlainLists. Assumes nothing.
use mathlib.Core.Path.{◌≡◌, sym, ◌∙◌}
use mathlib.Core.Bool.{false}
use mathlib.Core.List.{List}
use Prim.Native.Nat.{ℕ}
use Rattle.frame.specs.Frames.{after_pair}
use Rattle.frame.specs.Widths.{pair_outside, outside}
use Rattle.frame.specs.declared.Carried.{Carried}
use Rattle.frame.specs.declared.Frame.{Frame}
use Rattle.frame.proofs.FrameLaws.{after-inside}
use Rattle.record_fields.specs.Coding.{frame_bits}
use Rattle.record_positions.specs.Positions.{read_position}
use Rattle.record_nulls.specs.Nulls.{read_null}
use Rattle.record_observations.specs.declared.Edition.{Edition}
use Rattle.record_observations.specs.Observations.{count_observations, read_epoch, observation_at}
use Rattle.record_generals.specs.Generals.{count_generals, read_head, general_at}
use Rattle.record_generals.specs.GeneralNulls.{read_general_null}
use Rattle.record_texts.specs.Texts.{read_text, buffer_after}

module _ (k : Carried) (f : Frame) (p : pair_outside k ≡ false) (o : outside f ≡ false) where
  same : outside (after_pair k f) ≡ outside f
  same = after-inside k f p o ∙ sym o

  pub position-same : read_position (after_pair k f) ≡ read_position f
  unfolding read_position frame_bits after_pair
  position-same = rw same

  pub null-same : read_null (after_pair k f) ≡ read_null f
  unfolding read_null after_pair
  null-same = rw same

  pub text-count : (buffer : List ℕ) → read_text (after_pair k f) buffer ≡ read_text f buffer
  unfolding read_text frame_bits after_pair
  text-count buffer = rw same

  pub text-left : (buffer : List ℕ) → buffer_after (after_pair k f) buffer ≡ buffer_after f buffer
  unfolding buffer_after frame_bits after_pair
  text-left buffer = rw same

  pub observations-count : count_observations (after_pair k f) ≡ count_observations f
  unfolding count_observations after_pair
  observations-count = rw same

  pub epoch-same : read_epoch (after_pair k f) ≡ read_epoch f
  unfolding read_epoch frame_bits after_pair
  epoch-same = rw same

  pub observation-entry : (e : Edition) (i : ℕ) → observation_at e (after_pair k f) i ≡ observation_at e f i
  unfolding observation_at frame_bits after_pair
  observation-entry e i = rw same

  pub generals-count : count_generals (after_pair k f) ≡ count_generals f
  unfolding count_generals frame_bits after_pair
  generals-count = rw same

  pub head-same : read_head (after_pair k f) ≡ read_head f
  unfolding read_head frame_bits after_pair
  head-same = rw same

  pub general-entry : (i : ℕ) → general_at (after_pair k f) i ≡ general_at f i
  unfolding general_at frame_bits after_pair
  general-entry i = rw same

  pub general-null-same : read_general_null (after_pair k f) ≡ read_general_null f
  unfolding read_general_null frame_bits after_pair
  general-null-same = rw same
