-- What a call that reads a text leaves: its answer, the bytes and the length follow from which frame there was. Assumes nothing.
use mathlib.Core.Path.{◌≡◌, refl, subst}
use mathlib.Core.List.{List}
use Prim.Native.Nat.{ℕ}
use Rattle.answer.specs.Order.{Says, refuses}
use Rattle.frame.specs.declared.Frame.{Frame}
use Rattle.rtcm2.specs.Answer.{number_of}
use Rattle.rtcm2.specs.Texts.{text_said, text_after, count_after}

-- the answer, the bytes and the length that are left
abbrev pub Reads : List ℕ → ℕ → ℕ → List ℕ → ℕ → Says Frame → Type 0
Reads buffer size answer held length said =
    (answer ≡ number_of (text_said said buffer)) × ((held ≡ text_after said buffer) × (length ≡ count_after said buffer size))

module _ (buffer : List ℕ) (size : ℕ) where
  -- a refusal leaves all as it was
  pub reads-refused : {number : ℕ} {said : Says Frame} → refuses number ≡ said → Reads buffer size number buffer size said
  reads-refused {number} e = subst (Reads buffer size number buffer size) e (refl, (refl, refl))

  -- what is said in another way is read the same
  pub reads_as : {answer : ℕ} {held : List ℕ} {length : ℕ} {said said' : Says Frame} → said ≡ said'
      → Reads buffer size answer held length said → Reads buffer size answer held length said'
  reads_as {answer} {held} {length} e r = subst (Reads buffer size answer held length) e r
