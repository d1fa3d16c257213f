-- What a call that keeps a frame leaves: its answer, the bytes and the length follow from what the maker said. Assumes nothing.
use mathlib.Core.Path.{◌≡◌, refl, subst}
use mathlib.Core.List.{List}
use Prim.Native.Nat.{ℕ}
use native.Mathlib.Omega.{arith}
use Rattle.answer.specs.Order.{Says, refuses, answers}
use Rattle.frame.specs.declared.Frame.{Frame}
use Rattle.record_stages.specs.Stages.{says_made}
use Rattle.record_stages.specs.declared.Making.{Making}
use Rattle.record_stages.specs.declared.Making.TheVariants as making
use Rattle.record_stages.specs.declared.Made.{Made}
use Rattle.rtcm2.specs.Answer.{number_of}
use Rattle.rtcm2.specs.Frames.{kept_to, held_to, size_to}

-- the answer, the bytes and the length that are left
abbrev pub Keeps : List ℕ → ℕ → ℕ → List ℕ → ℕ → Says Frame → Type 0
Keeps buffer size answer held length said =
    (answer ≡ number_of (kept_to said buffer)) × ((held ≡ held_to said buffer) × (length ≡ size_to said buffer size))

module _ (buffer : List ℕ) (size : ℕ) where
  -- a refusal leaves all as it was
  pub keeps-refused : {number : ℕ} {said : Says Frame} → refuses number ≡ said → Keeps buffer size number buffer size said
  keeps-refused {number} e = subst (Keeps buffer size number buffer size) e (refl, (refl, refl))

  -- what is said in another way is kept the same
  pub keeps-as : {answer : ℕ} {held : List ℕ} {length : ℕ} {said said' : Says Frame} → said ≡ said'
      → Keeps buffer size answer held length said → Keeps buffer size answer held length said'
  keeps-as {answer} {held} {length} e k = subst (Keeps buffer size answer held length) e k

-- ---- what was made

made_by_lem : (a : Making) (f : Frame) → making.Done ≡ a → answers f ≡ says_made (record { answer = a; frame = f })
made_by_lem making.Done f e = refl
made_by_lem (making.Refused n) f e = let z : ◌≡◌ {A = ℕ} 0 1 = cc in absurd (omega arith)

refused-by : (a : Making) (f : Frame) {number : ℕ} → making.Refused number ≡ a → refuses number ≡ says_made (record { answer = a; frame = f })
refused-by making.Done f e = let z : ◌≡◌ {A = ℕ} 0 1 = cc in absurd (omega arith)
refused-by (making.Refused n) f e = cc

pub says-made : (m : Made) → making.Done ≡ m.answer → answers m.frame ≡ says_made m
says-made m e = made_by_lem m.answer m.frame e

pub says-refused : (m : Made) {number : ℕ} → making.Refused number ≡ m.answer → refuses number ≡ says_made m
says-refused m e = refused-by m.answer m.frame e
