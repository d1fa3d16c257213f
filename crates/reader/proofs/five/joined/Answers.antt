-- `joined` meets its contract: each byte has its place. Assumes nothing.
use Rattle.std.proofs.Common.{◌≡◌, ℕ, suc, ◌+◌, ◌^◌, ◌<◌, [], ◌∷◌, get_or, ap, ◌∙◌, arith}
use Rattle.reader.specs.Five.{five_bytes}
use Rattle.reader.proofs.Joining.{five-same, joined-law}
use Rattle.reader.proofs.five.joined.Goals as goal

pub returns : goal.returns
returns c =
    let a = c.args in
    let byte : ℕ → ℕ = λ i. get_or a.bytes.now i 0 in
    let place : (i j : ℕ) → i ≡ j → byte i ≡ byte j = λ i j e. ap byte e in
    let low : (i : ℕ) → byte i < 256 = λ i. omega (arith, c.type_inv.bytes i) in
    let law : (c.from_le_bytes.result < 2 ^ 40) × (five_bytes c.from_le_bytes.result ≡ byte a.at ∷ byte (a.at + 1) ∷ byte (a.at + 2) ∷ byte (a.at + 3) ∷ byte (a.at + 4) ∷ []) =
    joined-law (byte a.at) (byte (a.at + 1)) (byte (a.at + 2)) (byte (a.at + 3)) (byte (a.at + 4)) _
    (low a.at) (low (a.at + 1)) (low (a.at + 2)) (low (a.at + 3)) (low (a.at + 4)) (omega (arith, c.from_le_bytes.ensures)) in (
      law.0,
      law.1
          ∙ five-same (place a.at a.at (omega arith)) (place (a.at + 1) (suc a.at) (omega arith))
          (place (a.at + 2) (suc (suc a.at)) (omega arith))
          (place (a.at + 3) (suc (suc (suc a.at))) (omega arith))
          (place (a.at + 4) (suc (suc (suc (suc a.at)))) (omega arith)),
    )
