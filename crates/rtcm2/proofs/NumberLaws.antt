-- What a call that recalls a frame leaves: its answer and the seven numbers follow from what the journal said. Assumes nothing.
use mathlib.Core.Path.{◌≡◌, refl, subst}
use Prim.Native.Nat.{ℕ}
use Rattle.answer.specs.Order.{Says, refuses, answers}
use Rattle.frame.specs.Header.{code_of}
use Rattle.frame.specs.declared.Frame.{Frame}
use Rattle.rtcm2.specs.Answer.{number_of, left}
use Rattle.rtcm2.specs.Frames.{kind_said, station_said, z_count_said, sequence_said, health_said, n_said, length_said}

module _ (kind station z sequence health n length : ℕ) where
  -- the answer and the numbers that are left
  abbrev pub Recalls : ℕ → ℕ → ℕ → ℕ → ℕ → ℕ → ℕ → ℕ → Says (ℕ × Frame) → Type 0
  Recalls answer kind' station' z' sequence' health' n' length' said =
      (answer ≡ number_of said)
      × ((kind' ≡ left said kind_said kind)
      × ((station' ≡ left said station_said station)
      × ((z' ≡ left said z_count_said z)
      × ((sequence' ≡ left said sequence_said sequence)
      × ((health' ≡ left said health_said health) × ((n' ≡ left said n_said n) × (length' ≡ left said length_said length)))))))

  -- a refusal leaves all as it was
  pub recalls-refused : {number : ℕ} {said : Says (ℕ × Frame)} → refuses number ≡ said
      → Recalls number kind station z sequence health n length said
  recalls-refused {number} e =
      subst (Recalls number kind station z sequence health n length) e (refl, (refl, (refl, (refl, (refl, (refl, (refl, refl)))))))

  -- a frame leaves its numbers, its health as the state's code
  pub recalls-told : (f : Frame) {size code : ℕ} {said : Says (ℕ × Frame)} → answers (size, f) ≡ said → code ≡ code_of f.header.state
      → Recalls 0 f.header.kind f.header.station f.header.z f.header.sequence code f.n size said
  recalls-told f {size} {code} e h =
      subst (Recalls 0 f.header.kind f.header.station f.header.z f.header.sequence code f.n size) e
      (refl, (refl, (refl, (refl, (refl, (h, (refl, refl)))))))
