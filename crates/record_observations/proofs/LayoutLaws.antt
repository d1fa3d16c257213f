-- What is said of the widths, for both types: each is narrow, and together they are 48 bits; what the row of a head leaves in a packer.
-- Assumes nothing.
use mathlib.Core.Path.{◌≡◌, refl, sym, subst}
use Prim.Native.Nat.{◌-◌, ◌^◌, ◌≤◌}
use native.Mathlib.Omega.{arith}
use lib.ListN.{length}
use Rattle.bits.specs.Fields.{span}
use Rattle.bits.proofs.FieldLaws.{length-packed}
use Rattle.record_fields.specs.Packing.{empty_packer}
use Rattle.record_fields.specs.Tables.{codes_of, no_rows, put_row}
use Rattle.record_fields.proofs.Holds.{Narrow, Ready}
use Rattle.record_fields.proofs.TableLaws.{push-codes}
use Rattle.record_fields.proofs.Making.{head-ready}
use Rattle.record_observations.specs.declared.Quantity.{Quantity}
use Rattle.record_observations.specs.declared.Quantity.TheVariants as quantity
use Rattle.record_observations.specs.declared.Epoch.{Epoch}
use Rattle.record_observations.specs.Editions.{quality_width}
use Rattle.record_observations.specs.Observations.{widths, epoch_widths, epoch_numbers, epoch_bits, epoch_rows}

pub narrow : (q : Quantity) → Narrow (widths q)
narrow quantity.Phase = (omega arith, (omega arith, (omega arith, (omega arith, (omega arith, (omega arith, (omega arith, tt)))))))
narrow quantity.Range = (omega arith, (omega arith, (omega arith, (omega arith, (omega arith, (omega arith, (omega arith, tt)))))))

pub span-48 : (q : Quantity) → span (widths q) ≡ 48
span-48 quantity.Phase = refl
span-48 quantity.Range = refl

-- quality and what stands beside it are eight bits together
pub quality-byte : (q : Quantity) → 2 ^ quality_width q ≤ 256
quality-byte quantity.Phase = omega arith
quality-byte quantity.Range = omega arith

pub beside-byte : (q : Quantity) → 2 ^ (8 - quality_width q) ≤ 256
beside-byte quantity.Phase = omega arith
beside-byte quantity.Range = omega arith

-- the head is a word
pub head-long : (a : Epoch) → length (epoch_bits a) ≡ 24
head-long a = length-packed epoch_widths (codes_of epoch_widths (epoch_numbers a))

-- its bits are in the packer
pub head-held : (a : Epoch) → Ready (epoch_rows a).packer (epoch_bits a)
unfolding put_row no_rows
head-held a =
    subst (λ p. Ready p (epoch_bits a)) (sym (push-codes epoch_widths (epoch_numbers a) empty_packer))
    (head-ready epoch_widths (codes_of epoch_widths (epoch_numbers a)) (omega arith, (omega arith, (omega arith, tt))) (omega arith))
