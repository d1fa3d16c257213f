-- What is said of the widths, whatever the delay takes: each is narrow, and together they are 32 bits and the delay's; what the row of a head
-- and that of a system leave in a packer. Assumes nothing.
use mathlib.Core.Path.{◌≡◌, sym, subst}
use mathlib.Core.Bool.{Bool, true, false, cond}
use mathlib.Core.List.{[], ◌∷◌}
use Prim.Native.Nat.{ℕ, ◌+◌, ◌*◌, ◌-◌, ◌^◌, ◌≤◌}
use native.Mathlib.Omega.{arith}
use lib.Dec.{eqb}
use lib.ListN.{length}
use lib.Pow.{pow_mono}
use Rattle.bits.specs.Fields.{span}
use Rattle.bits.proofs.FieldLaws.{length-packed}
use Rattle.record_fields.specs.Packing.{empty_packer}
use Rattle.record_fields.specs.Tables.{row, codes_of, no_rows, put_row}
use Rattle.record_fields.proofs.Holds.{Narrow, Ready}
use Rattle.record_fields.proofs.TableLaws.{push-codes}
use Rattle.record_fields.proofs.Making.{head-ready}
use Rattle.record_stages.proofs.ListCode.{held-le}
use Rattle.record_generals.specs.declared.GeneralHead.{GeneralHead}
use Rattle.record_generals.specs.Generals.{head_widths, head_numbers, head_bits, head_rows, delay_width, widths, most_generals}
use Rattle.record_generals.specs.GeneralNulls.{system_coding, system_bits, system_rows}

-- a delay has 12 bits at most
pub delay-small : (i : ℕ) → delay_width i ≤ 12
delay-small i = go (eqb i 0)
  where
    go : (b : Bool) → cond b 0 12 ≤ 12
    go true = omega arith
    go false = omega arith

pub narrow : (d : ℕ) → d ≤ 12 → Narrow (widths d)
narrow d l = (omega arith, (omega arith, (omega arith, (omega arith, (omega arith, tt)))))

pub span-is : (d : ℕ) → span (widths d) ≡ 32 + d
span-is d = omega arith

pub power_small : (d : ℕ) → d ≤ 12 → 2 ^ d ≤ 4096
power_small d l = pow_mono {i = d} {j = 12} l

-- the head is 13 bits, and its bits are in the packer
pub head-long : (a : GeneralHead) → length (head_bits a) ≡ 13
head-long a = length-packed head_widths (codes_of head_widths (head_numbers a))

pub head-held : (a : GeneralHead) → Ready (head_rows a).packer (head_bits a)
unfolding put_row no_rows
head-held a =
    subst (λ p. Ready p (head_bits a)) (sym (push-codes head_widths (head_numbers a) empty_packer))
    (head-ready head_widths (codes_of head_widths (head_numbers a)) (omega arith, (omega arith, (omega arith, (omega arith, (omega arith, tt)))))
    (omega arith))

-- head and satellites are at most 31 words
pub few : (a : GeneralHead) (d : ℕ) → length (head_bits a) + most_generals d * span (widths d) ≤ 744
few a d =
    subst (λ w. length (head_bits a) + most_generals d * w ≤ 744) (sym (span-is d))
    (sum (length (head_bits a)) (most_generals d * (32 + d)) (head-long a) (held-le 13 (32 + d) 31))
  where
    sum : (l m : ℕ) → l ≡ 13 → m ≤ 24 * 31 - 13 → l + m ≤ 744
    sum l m e h = omega arith

-- so is the system of a null frame, 4 bits
pub system-long : (s : ℕ) → length (system_bits s) ≡ 4
system-long s = length-packed system_coding.widths (system_coding.codes s)

pub system-held : (s : ℕ) → Ready (system_rows s).packer (system_bits s)
unfolding put_row no_rows
system-held s =
    subst (λ p. Ready p (system_bits s)) (sym (push-codes system_coding.widths (row (s ∷ [])) empty_packer))
    (head-ready system_coding.widths (system_coding.codes s) (omega arith, tt) (omega arith))
