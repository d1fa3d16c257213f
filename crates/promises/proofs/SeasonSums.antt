-- Sums have room in 64 bits: each entry that is read is small, so are the least and the largest, and a sum lies between count times these.
-- And least and largest are absent exactly where no entry is usable. Assumes nothing.
use mathlib.Core.Path.{◌≡◌, refl, sym, ap, subst, ◌∙◌}
use mathlib.Core.Bool.{Bool, true, false, cond}
use mathlib.Core.List.{List, [], ◌∷◌, map}
use Prim.Native.Nat.{ℕ, zero, suc, ◌+◌, ◌*◌, ◌-◌, ◌^◌, ◌≤◌, ◌<◌}
use native.Mathlib.Nat.{mul-le-mul_right}
use native.Mathlib.Omega.{arith}
use lib.Dec.{eqb, leb}
use lib.IntN.{ℤ, pos, negsuc, nat_abs, ◌*ℤ◌}
use lib.ListN.{length, get_or}
use lib.Signed.{mag, nat_abs-le}
use borrow.Author.Tests.{leb-false}
use Rattle.answer.proofs.OrderLaws.{order-told}
use Rattle.bits.specs.Fields.{fields_at, span}
use Rattle.bits.proofs.FieldLaws.{fits-field}
use Rattle.bits.proofs.SignedLaws.{mag-signed}
use Rattle.frame.specs.Layout.{system_of}
use Rattle.frame.specs.declared.Frame.{Frame}
use Rattle.frame.specs.declared.Layout.TheVariants as layout
use Rattle.frame.proofs.WidthLaws.{both_false}
use Rattle.journal.specs.declared.Found.{Found}
use Rattle.journal.specs.declared.Found.TheVariants as found
use Rattle.journal.specs.Words.{recalled_either}
use Rattle.record_fields.specs.Coding.{entry_in, frame_bits, Each}
use Rattle.record_stages.specs.Stages.{entry_order}
use Rattle.record_stages.specs.declared.Count.{Count}
use Rattle.record_stages.specs.declared.Count.TheVariants as count
use Rattle.record_corrections.specs.declared.Correction.{Correction}
use Rattle.record_corrections.specs.declared.CorrectionRead.{CorrectionRead}
use Rattle.record_corrections.specs.declared.CorrectionRead.TheVariants as read
use Rattle.record_corrections.specs.Corrections.{widths, coding, out_of_range, count_corrections, correction_at}
use Rattle.record_values.specs.Values.{Reading, exactly, stop, is_lowest, step_of, signed_value}
use Rattle.record_values.proofs.Products.{abs-product}
use Rattle.season_reports.specs.Rows.{same_key, widest, blank_row, wrong_sum, over_count}
use Rattle.season_reports.specs.Season.{Entry, reading_of, usable_with, usable_of, ends_of, row_of, entry_row}
use Rattle.season_reports.specs.Journals.{one_entry, entries_after, entries_counted, entries_read, then_on, contents_from, contents_of}
use Rattle.season_reports.specs.Running.{season_entries}
use Rattle.season_reports.specs.Tables.{EndsTyped, SoundRow}
use Rattle.season_reports.specs.declared.Key.{Key}
use Rattle.season_reports.specs.declared.Row.{Row}
use Rattle.season_reports.specs.declared.Extremes.{Extremes}
use Rattle.season_reports.specs.declared.Extremes.TheVariants.{Absent, Present}
use Rattle.season_reports.proofs.Integers.{lesser-typed, greater-typed}
use Rattle.season_reports.proofs.RightLaws.{sum_fits}
use Rattle.season_reports.proofs.PlaceLaws.{each_append}
use Rattle.promises.proofs.SeasonRuns.{total-entries, total_right, entries-right}

-- ---- entries are small

-- of 32 bits, where it is a distance
abbrev SmallReading : Reading → Type 0
SmallReading (exactly mm) = mag mm < 2 ^ 31
SmallReading stop = Unit {0}

abbrev Small : Entry → Type 0
Small e = SmallReading e.reading

mag-abs : (z : ℤ) → mag z ≤ nat_abs z
mag-abs (pos n) = omega arith
mag-abs (negsuc n) = omega arith

mm-small : (z : ℤ) (k : ℕ) → mag z < 2 ^ 15 → k ≤ 320 → mag (z *ℤ pos k) < 2 ^ 31
mm-small z k h l =
    omega (arith, mag-abs (z *ℤ pos k), abs-product z k, mul-le-mul_right {m = nat_abs z} {n = 2 ^ 15} k (nat_abs-le z h))

step-few : (b : Bool) → cond b 20 320 ≤ 320
step-few true = omega arith
step-few false = omega arith

reading_small : (e : Correction) → mag e.prc < 2 ^ 15 → SmallReading (reading_of e)
unfolding reading_of signed_value
reading_small e h = go (is_lowest 7 e.rrc) (is_lowest 15 e.prc)
  where
    go : (s t : Bool) → SmallReading (cond s stop (cond t stop (exactly (e.prc *ℤ pos (step_of 20 320 e.scale)))))
    go true t = tt
    go false true = tt
    go false false = mm-small e.prc (step_of 20 320 e.scale) h (step-few (eqb e.scale 0))

-- PRC has 16 bits
prc-small : (f : Frame) (i : ℕ) (e : Correction) → correction_at f i ≡ read.Entry e → mag e.prc < 2 ^ 15
unfolding correction_at
prc-small f i e q =
    let s = system_of f.header.kind in
    let x = entry_in (coding s) i (frame_bits f) in
    let t = order-told read.Refused (read.Entry x) (read.Entry e) (λ n z. apart n z) (entry_order layout.Correction 40 f i ((out_of_range s x, 10) ∷ [])) q in
    let z : x ≡ e = cc in
    subst (λ (y : Correction). mag y.prc < 2 ^ 15) z
    (mag-signed 15 (get_or (fields_at widths (i * span widths) (frame_bits f)) 3 0) (fits-field (i * span widths + 1 + 2 + 5) 16 (frame_bits f)))
  where
    apart : (n : ℕ) → read.Refused n ≡ read.Entry e → ⊥
    apart n z = let w : ◌≡◌ {A = ℕ} 0 1 = cc in omega arith

one-small : (f : Frame) (i : ℕ) → Each Small (one_entry f (correction_at f i))
one-small f i = go (correction_at f i) refl
  where
    go : (x : CorrectionRead) → correction_at f i ≡ x → Each Small (one_entry f x)
    go (read.Entry e) q = (reading_small e (prc-small f i e q), tt)
    go (read.Refused n) q = tt

after_small : (f : Frame) (c i : ℕ) → Each Small (entries_after f c i)
unfolding entries_after
after_small f zero i = tt
after_small f (suc c) i = each_append Small (one_entry f (correction_at f i)) (entries_after f c (suc i)) (one-small f i) (after_small f c (suc i))

frame_small : (f : Frame) → Each Small (entries_read f)
unfolding entries_read
frame_small f = go (count_corrections f)
  where
    go : (x : Count) → Each Small (entries_counted f x)
    go (count.Of c) = after_small f c 0
    go (count.Refused n) = tt

contents-small : (skip : ℕ) (bs : List ℕ) → Each Small (contents_from skip bs).entries
unfolding contents_from
contents-small zero [] = tt
contents-small (suc skip) [] = tt
contents-small (suc skip) (b ∷ bs) = contents-small skip bs
contents-small zero (b ∷ bs) = go (recalled_either (b ∷ bs)).answer (λ skip. contents-small skip bs)
  where
    f : Frame
    f = (recalled_either (b ∷ bs)).frame

    go : (x : Found) → ((skip : ℕ) → Each Small (contents_from skip bs).entries) → Each Small (then_on x f (λ skip. contents_from skip bs)).entries
    go (found.Record size) again = each_append Small (entries_read f) (contents_from (size - 1) bs).entries (frame_small f) (again (size - 1))
    go (found.Refused n) again = tt

pub season-small : (js : List (List ℕ)) → Each Small (season_entries js)
season-small [] = tt
season-small (j ∷ js) = each_append Small (contents_of j).entries (season_entries js) (contents-small 0 j) (season-small js)

-- ---- so are least and largest

-- of 32 bits with its sign
abbrev Few : ℤ → Type 0
Few z = mag z < 2 ^ 31

with-few : (r : Reading) (us : List ℤ) → SmallReading r → Each Few us → Each Few (usable_with r us)
with-few (exactly mm) us h k = (h, k)
with-few stop us h k = k

usable-few : (k : Key) (es : List Entry) → Each Small es → Each Few (usable_of k es)
unfolding usable_of
usable-few k [] h = tt
usable-few k (e ∷ es) h = go (same_key k e.key) (usable-few k es h.1)
  where
    go : (t : Bool) → Each Few (usable_of k es) → Each Few (cond t (usable_with e.reading (usable_of k es)) (usable_of k es))
    go true rest = with-few e.reading (usable_of k es) h.0 rest
    go false rest = rest

wider-typed : (z : ℤ) (x : Extremes) → Few z → EndsTyped x → EndsTyped (widest (Present z z) x)
unfolding widest
wider-typed z Absent h t = (h, h)
wider-typed z (Present l m) h t = (lesser-typed z l (2 ^ 31) h t.0, greater-typed z m (2 ^ 31) h t.1)

ends-typed : (zs : List ℤ) → Each Few zs → EndsTyped (ends_of zs)
unfolding ends_of
ends-typed [] h = tt
ends-typed (z ∷ zs) h = wider-typed z (ends_of zs) h.0 (ends-typed zs h.1)

-- ---- and sums have room

-- a row's key does not matter for its sum
abbrev keyless : Row → Row
keyless r = record { key = blank_row.key; usable = r.usable; stops = r.stops; extremes = r.extremes; sum = r.sum }

keyless-sound : (r : Row) → over_count r ≡ false → EndsTyped r.extremes → wrong_sum r ≡ false → SoundRow (keyless r)
unfolding over_count wrong_sum
keyless-sound r e t w =
    let o = both_false (leb (2 ^ 32) r.usable) (leb (2 ^ 32) r.stops) e in
    record {
      typed = record {
        station = omega arith;
        satellite = omega arith;
        usable = leb-false (2 ^ 32) r.usable o.0;
        stops = leb-false (2 ^ 32) r.stops o.1;
        ends = t;
      };
      right = w;
    }

row_ends : (k : Key) (es : List Entry) → Each Small es → EndsTyped (row_of k es).extremes
unfolding row_of
row_ends k es h = ends-typed (usable_of k es) (usable-few k es h)

pub row_room : (k : Key) (es : List Entry) → Each Small es → over_count (row_of k es) ≡ false → mag (row_of k es).sum < 2 ^ 63
row_room k es h e =
    sum_fits (keyless (row_of k es))
    (keyless-sound (row_of k es) e (row_ends k es h) (sym (ap wrong_sum (total-entries k es)) ∙ total_right k (map entry_row es) (entries-right es)))

-- ---- absent

none-absent : (zs : List ℤ) → length zs ≡ 0 → ends_of zs ≡ Absent
unfolding ends_of
none-absent [] e = refl
none-absent (z ∷ zs) e = absurd (omega arith)

absent_none : (zs : List ℤ) → ends_of zs ≡ Absent → length zs ≡ 0
unfolding ends_of widest
absent_none [] e = refl
absent_none (z ∷ zs) e = absurd (go (ends_of zs) e)
  where
    go : (x : Extremes) → widest (Present z z) x ≡ Absent → ⊥
    go Absent q = let w : ◌≡◌ {A = ℕ} 0 1 = cc in omega arith
    go (Present l h) q = let w : ◌≡◌ {A = ℕ} 0 1 = cc in omega arith

pub row-absent : (k : Key) (es : List Entry) → (row_of k es).usable ≡ 0 → (row_of k es).extremes ≡ Absent
unfolding row_of
row-absent k es e = none-absent (usable_of k es) e

pub row-present : (k : Key) (es : List Entry) → (row_of k es).extremes ≡ Absent → (row_of k es).usable ≡ 0
unfolding row_of
row-present k es e = absent_none (usable_of k es) e
