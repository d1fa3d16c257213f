-- Every entry of a journal's bytes is a sound row, whatever the bytes: a frame is read only within its widths, and a correction only in its ranges.
-- Assumes nothing.
use mathlib.Core.Path.{◌≡◌, refl, sym, subst}
use mathlib.Core.Bool.{Bool, true, false, cond}
use mathlib.Core.List.{List, [], ◌∷◌, ◌++◌, map}
use Prim.Native.Nat.{ℕ, zero, suc, ◌-◌, ◌*◌, ◌^◌, ◌≤◌, ◌<◌}
use native.Mathlib.Nat.{le_trans, mul-le-mul_right}
use native.Mathlib.Omega.{arith}
use lib.Dec.{ltb, eqb}
use lib.IntN.{ℤ, pos, negsuc, nat_abs, ◌*ℤ◌}
use lib.Signed.{mag}
use borrow.Author.Tests.{ltb-true}
use Rattle.answer.specs.Order.{Check, NoneApplies}
use Rattle.answer.proofs.OrderLaws.{order-told}
use Rattle.bits.specs.Signed.{signed}
use Rattle.frame.specs.Layout.{system_of}
use Rattle.frame.specs.declared.Frame.{Frame}
use Rattle.frame.specs.declared.Layout.TheVariants as layout
use Rattle.frame.proofs.FrameLaws.{header-within}
use Rattle.frame.proofs.WidthLaws.{to_inside}
use Rattle.journal.specs.declared.Found.{Found}
use Rattle.journal.specs.declared.Found.TheVariants as found
use Rattle.journal.specs.Words.{recalled_either}
use Rattle.record_fields.specs.Coding.{Each, entry_in, frame_bits}
use Rattle.record_fields.proofs.TableLaws.{row_told}
use Rattle.record_stages.specs.Stages.{entry_order}
use Rattle.record_stages.specs.declared.Count.{Count}
use Rattle.record_stages.specs.declared.Count.TheVariants as count
use Rattle.record_corrections.specs.declared.Correction.{Correction}
use Rattle.record_corrections.specs.declared.CorrectionRead.{CorrectionRead}
use Rattle.record_corrections.specs.declared.CorrectionRead.TheVariants as read
use Rattle.record_corrections.specs.Corrections.{coding, least, most, numbers, out_of_range, count_corrections, correction_at}
use Rattle.record_values.specs.Values.{exactly, stop, is_lowest, step_of, signed_value, prc_value}
use Rattle.record_values.proofs.Products.{abs-product}
use Rattle.season_reports.specs.Season.{reading_of, reading_row, entry_row}
use Rattle.season_reports.specs.Journals.{one_entry, entries_after, entries_counted, entries_read, then_on, contents_from}
use Rattle.season_reports.specs.Reports.{journal_rows}
use Rattle.season_reports.specs.Tables.{SoundRow}
use Rattle.season_reports.specs.declared.Key.{Key}
use Rattle.season_reports.proofs.PlaceLaws.{each_append}
use Rattle.season_reports.proofs.ReadingLaws.{usable-sound, stop-sound}
use Rattle.season_reports.proofs.TotalLaws.{map-append}

-- ---- a PRC in mm fits 32 bits

mag-abs : (z : ℤ) → mag z ≤ nat_abs z
mag-abs (pos n) = omega arith
mag-abs (negsuc n) = omega arith

abs-signed : (v : ℕ) → nat_abs (signed 15 v) ≤ 65536
unfolding signed
abs-signed v = go (ltb v (2 ^ 15)) refl
  where
    go : (t : Bool) → ltb v (2 ^ 15) ≡ t → nat_abs (cond t (pos v) (negsuc (2 ^ 16 - suc v))) ≤ 65536
    go true e = omega (arith, ltb-true v (2 ^ 15) e)
    go false e = omega arith

step-most : (scale : ℕ) → step_of 20 320 scale ≤ 320
step-most scale = go (eqb scale 0)
  where
    go : (b : Bool) → cond b 20 320 ≤ 320
    go true = omega arith
    go false = omega arith

product-most : (a k : ℕ) → a ≤ 65536 → k ≤ 320 → a * k ≤ 20971520
product-most a k ha hk = le_trans (mul-le-mul_right k ha) room
  where
    room : 65536 * k ≤ 20971520
    room = omega arith

mm-fits : (scale v : ℕ) → mag (signed 15 v *ℤ pos (step_of 20 320 scale)) < 2 ^ 31
mm-fits scale v =
    omega (
      arith,
      mag-abs (signed 15 v *ℤ pos (step_of 20 320 scale)),
      abs-product (signed 15 v) (step_of 20 320 scale),
      product-most (nat_abs (signed 15 v)) (step_of 20 320 scale) (abs-signed v) (step-most scale),
    )

-- ---- an entry

module _ (k : Key) (station : k.station < 2 ^ 16) (satellite : k.satellite < 2 ^ 8) where
  reading-sound : (e : Correction) (v : ℕ) → e.prc ≡ signed 15 v → SoundRow (reading_row k (reading_of e))
  unfolding reading_of signed_value
  reading-sound e v q = stopped (is_lowest 7 e.rrc)
    where
      lowest : (b : Bool) → SoundRow (reading_row k (cond b stop (exactly (e.prc *ℤ pos (step_of 20 320 e.scale)))))
      lowest true = stop-sound k station satellite
      lowest false =
          usable-sound k station satellite (e.prc *ℤ pos (step_of 20 320 e.scale))
          (subst (λ (z : ℤ). mag (z *ℤ pos (step_of 20 320 e.scale)) < 2 ^ 31) (sym q) (mm-fits e.scale v))

      stopped : (b : Bool) → SoundRow (reading_row k (cond b stop (prc_value e.scale e.prc)))
      stopped true = stop-sound k station satellite
      stopped false = lowest (is_lowest 15 e.prc)

entry-sound : (f : Frame) (i : ℕ) (e : Correction) → correction_at f i ≡ read.Entry e
    → SoundRow (reading_row (record { system = system_of f.header.kind; station = f.header.station; satellite = e.satellite }) (reading_of e))
unfolding correction_at
entry-sound f i e q = subst (λ (y : Correction). SoundRow (reading_row (key_of y) (reading_of y))) same sound
  where
    key_of : Correction → Key
    key_of y = record { system = system_of f.header.kind; station = f.header.station; satellite = y.satellite }

    x : Correction
    x = entry_in (coding (system_of f.header.kind)) i (frame_bits f)

    apart : (n : ℕ) → read.Refused n ≡ read.Entry e → ⊥
    apart n z = let w : ◌≡◌ {A = ℕ} 0 1 = cc in omega arith

    cs : List Check
    cs = entry_order layout.Correction 40 f i ((out_of_range (system_of f.header.kind) x, 10) ∷ [])

    t : NoneApplies cs × (read.Entry x ≡ read.Entry e)
    t = order-told read.Refused (read.Entry x) (read.Entry e) apart cs q

    same : x ≡ e
    same = let z = t.1 in cc

    inside : f.header.station < 2 ^ 10
    inside = (to_inside f.header (header-within f t.0.0)).station

    few : x.satellite ≤ 32
    few = (row_told least (most (system_of f.header.kind)) (numbers (system_of f.header.kind) x) t.0.1.1.1.1.1.0).2.2.1

    sound : SoundRow (reading_row (key_of x) (reading_of x))
    sound = reading-sound (key_of x) (omega (arith, inside)) (omega (arith, few)) x _ refl

-- ---- a frame, and a journal

entries-sound : (f : Frame) (c i : ℕ) → Each SoundRow (map entry_row (entries_after f c i))
unfolding entries_after
entries-sound f zero i = tt
entries-sound f (suc c) i = go (correction_at f i) refl (entries-sound f c (suc i))
  where
    go : (r : CorrectionRead) → correction_at f i ≡ r → Each SoundRow (map entry_row (entries_after f c (suc i)))
        → Each SoundRow (map entry_row (one_entry f r ++ entries_after f c (suc i)))
    go (read.Entry e) q rest = (entry-sound f i e q, rest)
    go (read.Refused n) q rest = rest

frame-sound : (f : Frame) → Each SoundRow (map entry_row (entries_read f))
unfolding entries_read
frame-sound f = go (count_corrections f)
  where
    go : (c : Count) → Each SoundRow (map entry_row (entries_counted f c))
    go (count.Of c) = entries-sound f c 0
    go (count.Refused n) = tt

contents-sound : (skip : ℕ) (bs : List ℕ) → Each SoundRow (map entry_row (contents_from skip bs).entries)
unfolding contents_from
contents-sound skip [] = tt
contents-sound (suc skip) (b ∷ bs) = contents-sound skip bs
contents-sound zero (b ∷ bs) = go (recalled_either (b ∷ bs)).answer (recalled_either (b ∷ bs)).frame (λ n. contents-sound n bs)
  where
    go : (a : Found) (f : Frame) → ((n : ℕ) → Each SoundRow (map entry_row (contents_from n bs).entries))
        → Each SoundRow (map entry_row (then_on a f (λ n. contents_from n bs)).entries)
    go (found.Record size) f rest =
        subst (Each SoundRow) (sym (map-append entry_row (entries_read f) (contents_from (size - 1) bs).entries))
        (each_append SoundRow (map entry_row (entries_read f)) (map entry_row (contents_from (size - 1) bs).entries) (frame-sound f) (rest (size - 1)))
    go (found.Refused n) f rest = tt

pub journal-sound : (bs : List ℕ) → Each SoundRow (journal_rows bs)
unfolding journal_rows
journal-sound bs = contents-sound 0 bs
