-- What a disk may do to a kept journal so that the mender puts it back: marks and N bytes stay, and in each word at most one bit is turned.
-- Assumes nothing.
use Rattle.std.specs.Prelude.{◌≡◌, ℕ, ◌^◌, ◌<◌, ◌≤◌, List, [], ◌∷◌, ◌++◌, length}
use Rattle.answer.specs.Order.{answers}
use Rattle.bits.specs.Bits.{differ, bits}
use Rattle.frame.specs.declared.Frame.{Frame}
use Rattle.journal.specs.Forms.{record_with}
use Rattle.journal.specs.Journal.{says_recalled}
use Rattle.journal.specs.Words.{recalled_words}

-- kept words and what came of them: none has more than one turned bit
abbrev pub FewTurned : List ℕ → List ℕ → Type 0
FewTurned [] [] = Unit {0}
FewTurned [] (u ∷ us) = ⊥
FewTurned (v ∷ vs) [] = ⊥
FewTurned (v ∷ vs) (u ∷ us) = (v < 2 ^ 32) × (u < 2 ^ 32) × (differ (bits 32 v) (bits 32 u) ≤ 1) × FewTurned vs us

-- A RECORD that reads, and what came of it: its mark and N byte are sound
pub record OneTurned (r r' : List ℕ) : Type 0 where
  pub n : ℕ
  pub ws : List ℕ
  pub us : List ℕ
  pub frame : Frame
  pub was : r ≡ record_with 0x34 4 n ws
  pub came : r' ≡ record_with 0x34 4 n us
  pub read : says_recalled (recalled_words r) ≡ answers (length r, frame)
  pub few : FewTurned ws us

-- A JOURNAL of such records
abbrev pub AllTurned : List (List ℕ) → List (List ℕ) → Type 0
AllTurned [] [] = Unit {0}
AllTurned [] (r' ∷ rs') = ⊥
AllTurned (r ∷ rs) [] = ⊥
AllTurned (r ∷ rs) (r' ∷ rs') = OneTurned r r' × AllTurned rs rs'

-- records one after the other
unfoldable pub joined_all : List (List ℕ) → List ℕ
joined_all [] = []
joined_all (r ∷ rs) = r ++ joined_all rs
