-- DEMAND 2, types 41 and 42: what reads back of a frame of general corrections, and of the null frame. Assumes nothing.
use Rattle.std.specs.Prelude.{◌≡◌, false, List, ℕ, ◌<◌, get_or}
use Rattle.answer.specs.Order.{answers}
use Rattle.bits.specs.Rows.{FillAfter}
use Rattle.frame.specs.Widths.{outside}
use Rattle.frame.specs.declared.Header.{Header}
use Rattle.frame.specs.declared.Frame.{Frame}
use Rattle.record_fields.specs.Coding.{frame_bits}
use Rattle.record_stages.specs.Stages.{says_count}
use Rattle.record_generals.specs.declared.GeneralHead.{GeneralHead}
use Rattle.record_generals.specs.declared.General.{General}
use Rattle.record_generals.specs.Generals.{count_generals, read_head, general_at, says_head_read, says_general_read}
use Rattle.record_generals.specs.GeneralRounds.{general_bits, general_words}
use Rattle.record_generals.specs.GeneralNulls.{read_general_null, says_general_null_read}

-- the head, the count and every satellite; it is within its widths, N is worked out, the fill is standard
pub record GeneralsBack (h : Header) (a : GeneralHead) (gs : List General) (c : ℕ) (d : General) (f : Frame) : Type 0 where
  pub header : f.header ≡ h
  pub inside : outside f ≡ false
  pub counted : says_count (count_generals f) ≡ answers c
  pub head : says_head_read (read_head f) ≡ answers a
  pub each : (i : ℕ) → i < c → says_general_read (general_at f i) ≡ answers (get_or gs i d)
  pub n : f.n ≡ general_words a c
  pub fill : FillAfter 0xAAAAAA (general_bits a c) (frame_bits f)

-- N and the system, then 20 bits of fill
pub record GeneralNullBack (h : Header) (wanted s : ℕ) (f : Frame) : Type 0 where
  pub header : f.header ≡ h
  pub inside : outside f ≡ false
  pub reads : says_general_null_read (read_general_null f) ≡ answers (wanted, s)
  pub n : f.n ≡ wanted
  pub fill : FillAfter 0xAAAAAA 4 (frame_bits f)
