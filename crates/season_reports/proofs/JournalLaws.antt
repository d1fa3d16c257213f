-- Records of a journal one after the other, and the entries of a frame: what is read of them, and that each is a sound row. Assumes nothing.
use mathlib.Core.Path.{◌≡◌, refl, sym, ap, subst, ◌∙◌}
use mathlib.Core.Bool.{Bool, true, false, cond}
use mathlib.Core.List.{List, [], ◌∷◌, ◌++◌, map, append_assoc}
use Prim.Native.Nat.{ℕ, zero, suc, ◌+◌, ◌-◌, ◌*◌, ◌≤◌, ◌<◌}
use native.Mathlib.Omega.{arith}
use native.Mathlib.Numerals.{add-one}
use lib.Dec.{eqb}
use lib.ListN.{length, take, drop, get_or, set}
use lib.Seq.{take-suc-set}
use borrow.Author.Tests.{ltb-false}
use Rattle.answer.proofs.OrderLaws.{order-map, order-told, none-parts}
use Rattle.frame.specs.Layout.{system_of}
use Rattle.frame.specs.declared.Frame.{Frame}
use Rattle.frame.specs.declared.Layout.TheVariants as layout
use Rattle.frame.proofs.WidthLaws.{both_false}
use Rattle.journal.specs.Forms.{n_byte, words_after, start_order}
use Rattle.journal.specs.Journal.{data_order, recall_order, recalled, refused_recall, recalled_by}
use Rattle.journal.specs.Words.{live_order, recall_words_order, found_words, recalled_words, recalled_either}
use Rattle.journal.specs.declared.Found.TheVariants as found
use Rattle.journal.proofs.FormLaws.{start-whole}
use Rattle.record_fields.specs.Coding.{entry_in, frame_bits}
use Rattle.record_fields.proofs.TableLaws.{row_told}
use Rattle.record_stages.specs.Stages.{misfit_after, held_after, read_order, entry_order}
use Rattle.record_stages.specs.declared.Count.TheVariants as count
use Rattle.record_corrections.specs.declared.Correction.{Correction}
use Rattle.record_corrections.specs.declared.CorrectionRead.TheVariants as read
use Rattle.record_corrections.specs.Corrections.{coding, least, most, numbers, out_of_range, count_corrections, correction_at}
use Rattle.season_reports.specs.Season.{entry_row}
use Rattle.season_reports.specs.Journals.{entry_under, one_entry, entries_after, entries_counted, entries_read, no_contents}
use Rattle.season_reports.specs.Journals.{read_before, then_on, contents_from, contents_of}
use Rattle.season_reports.specs.declared.Row.{Row}
use Rattle.season_reports.proofs.TotalLaws.{map-append}

-- ---- an entry and a count that were read

-- the scale of an entry that was read is 0 or 1
pub entry-scale : (f : Frame) (i : ℕ) (e : Correction) → correction_at f i ≡ read.Entry e → e.scale ≤ 1
unfolding correction_at
entry-scale f i e q =
    let s = system_of f.header.kind in
    let x = entry_in (coding s) i (frame_bits f) in
    let t = order-told read.Refused (read.Entry x) (read.Entry e) (λ n z. apart n z)
    (entry_order layout.Correction 40 f i ((out_of_range s x, 10) ∷ [])) q in
    let z : x ≡ e = cc in
    subst (λ y. y.scale ≤ 1) z (row_told least (most s) (numbers s x) t.0.1.1.1.1.1.0).1
  where
    apart : (n : ℕ) → read.Refused n ≡ read.Entry e → ⊥
    apart n z = let w : ◌≡◌ {A = ℕ} 0 1 = cc in omega arith

-- a frame has at most 18 entries
pub count-few : (f : Frame) (c : ℕ) → count_corrections f ≡ count.Of c → c ≤ 18
unfolding count_corrections misfit_after
count-few f c q =
    let t = order-told count.Refused (count.Of (held_after 0 40 f.n)) (count.Of c) (λ n z. apart n z)
    (read_order layout.Correction f (misfit_after 0 40 f.n) []) q in
    let is : held_after 0 40 f.n ≡ c = cc in
    let few = ltb-false 31 f.n (both_false _ _ (both_false _ _ t.0.1.1.1.0).0).0 in
    omega (arith, is, few)
  where
    apart : (n : ℕ) → count.Refused n ≡ count.Of c → ⊥
    apart n z = let w : ◌≡◌ {A = ℕ} 0 1 = cc in omega arith

-- ---- the entries of a frame, one by one

-- what is read so far, and what is left
abbrev pub left_of : Frame → ℕ → ℕ → List Row
left_of f n i = map entry_row (entries_after f (n - i) i)

left-opens : (f : Frame) (n i : ℕ) → i < n → left_of f n i ≡ map entry_row (one_entry f (correction_at f i)) ++ left_of f n (i + 1)
unfolding entries_after
left-opens f n i h =
    ap (λ m. map entry_row (entries_after f m i)) less
    ∙ map-append entry_row (one_entry f (correction_at f i)) (entries_after f (n - (i + 1)) (suc i))
    ∙ ap (λ j. map entry_row (one_entry f (correction_at f i)) ++ map entry_row (entries_after f (n - (i + 1)) j)) (sym (add-one i))
  where
    less : n - i ≡ suc (n - (i + 1))
    less = omega arith

pub left-entry : (f : Frame) (n i : ℕ) (e : Correction) → i < n → correction_at f i ≡ read.Entry e
    → left_of f n i ≡ entry_row (entry_under f e) ∷ left_of f n (i + 1)
left-entry f n i e h q = left-opens f n i h ∙ ap (λ x. map entry_row (one_entry f x) ++ left_of f n (i + 1)) q

pub left-refused : (f : Frame) (n i m : ℕ) → i < n → correction_at f i ≡ read.Refused m → left_of f n i ≡ left_of f n (i + 1)
left-refused f n i m h q = left-opens f n i h ∙ ap (λ x. map entry_row (one_entry f x) ++ left_of f n (i + 1)) q

pub left-none : (f : Frame) (n : ℕ) → left_of f n n ≡ []
unfolding entries_after
left-none f n = ap (λ m. map entry_row (entries_after f m n)) none
  where
    none : n - n ≡ 0
    none = omega arith

-- one row more behind those found
pub row-behind : (rows : List Row) (found : ℕ) (x : Row) (rest all : List Row) → found < length rows → take found rows ++ (x ∷ rest) ≡ all
    → take (found + 1) (set rows found x) ++ rest ≡ all
row-behind rows found x rest all h e =
    ap (λ l. l ++ rest) (ap (λ j. take j (set rows found x)) (add-one found) ∙ take-suc-set rows found x h)
    ∙ append_assoc (take found rows) (x ∷ []) rest ∙ e

-- ---- the records of a journal

-- bytes that belong to a record are passed over
skip-drops : (n : ℕ) (bs : List ℕ) → contents_from n bs ≡ contents_from 0 (drop n bs)
unfolding contents_from
skip-drops zero bs = refl
skip-drops (suc n) [] = refl
skip-drops (suc n) (b ∷ bs) = skip-drops n bs

-- how long a record that recalls is
pub record Whole (bs : List ℕ) (size : ℕ) : Type 0 where
  pub some : 1 ≤ size
  pub inside : size ≤ length bs

data-whole : (bs : List ℕ) (size : ℕ) → (recalled_by bs).answer ≡ found.Record size → Whole bs size
data-whole bs size e =
    let t = order-told found.Refused (found.Record (3 * n_byte bs + 9)) (found.Record size) (λ n z. apart n z) (recall_order bs)
    (sym (order-map (λ r. r.answer) (recall_order bs) refused_recall (recalled (n_byte bs) (words_after 3 bs))) ∙ e) in
    let is : 3 * n_byte bs + 9 ≡ size = cc in
    let whole = start-whole 0x32 3 bs (none-parts (start_order 0x32 3 bs) (data_order (n_byte bs) (words_after 3 bs)) t.0).0 in
    record { some = omega arith; inside = omega (arith, whole) }
  where
    apart : (n : ℕ) → found.Refused n ≡ found.Record size → ⊥
    apart n z = let w : ◌≡◌ {A = ℕ} 0 1 = cc in omega arith

words-whole : (bs : List ℕ) (size : ℕ) → (recalled_words bs).answer ≡ found.Record size → Whole bs size
words-whole bs size e =
    let t = order-told found.Refused (found.Record (4 * n_byte bs + 11)) (found.Record size) (λ n z. apart n z) (recall_words_order bs)
    (sym (order-map (λ r. r.answer) (recall_words_order bs) refused_recall (found_words (n_byte bs) (words_after 4 bs))) ∙ e) in
    let is : 4 * n_byte bs + 11 ≡ size = cc in
    let whole = start-whole 0x34 4 bs (none-parts (start_order 0x34 4 bs) (live_order (n_byte bs) (words_after 4 bs)) t.0).0 in
    record { some = omega arith; inside = omega (arith, whole) }
  where
    apart : (n : ℕ) → found.Refused n ≡ found.Record size → ⊥
    apart n z = let w : ◌≡◌ {A = ℕ} 0 1 = cc in omega arith

pub either-whole : (bs : List ℕ) (size : ℕ) → (recalled_either bs).answer ≡ found.Record size → Whole bs size
either-whole bs size e = go (eqb (get_or bs 1 0) 0x34) refl
  where
    go : (t : Bool) → eqb (get_or bs 1 0) 0x34 ≡ t → Whole bs size
    go true f = words-whole bs size (sym (ap (λ u. (cond u (recalled_words bs) (recalled_by bs)).answer) f) ∙ e)
    go false f = data-whole bs size (sym (ap (λ u. (cond u (recalled_words bs) (recalled_by bs)).answer) f) ∙ e)

-- contents of bytes that begin with a record, and of bytes that do not
contents-cons : (b : ℕ) (bs : List ℕ)
    → contents_from 0 (b ∷ bs) ≡ then_on (recalled_either (b ∷ bs)).answer (recalled_either (b ∷ bs)).frame (λ skip. contents_from skip bs)
unfolding contents_from
contents-cons b bs = refl

drop-record : (b : ℕ) (bs : List ℕ) (size : ℕ) → 1 ≤ size → contents_from (size - 1) bs ≡ contents_from 0 (drop size (b ∷ bs))
drop-record b bs zero h = absurd (omega arith)
drop-record b bs (suc n) h = ap (λ m. contents_from m bs) one ∙ skip-drops n bs
  where
    one : suc n - 1 ≡ n
    one = omega arith

pub contents-record : (bs : List ℕ) (size : ℕ) → (recalled_either bs).answer ≡ found.Record size
    → contents_of bs ≡ read_before size (recalled_either bs).frame (contents_of (drop size bs))
contents-record [] size e = let w = either-whole [] size e in absurd (omega (arith, w.some, w.inside))
contents-record (b ∷ bs) size e =
    let w = either-whole (b ∷ bs) size e in
    contents-cons b bs ∙ ap (λ a. then_on a (recalled_either (b ∷ bs)).frame (λ skip. contents_from skip bs)) e
    ∙ ap (read_before size (recalled_either (b ∷ bs)).frame) (drop-record b bs size w.some)

pub contents-none : contents_of [] ≡ no_contents
unfolding contents_from
contents-none = refl

pub contents-refused : (bs : List ℕ) (n : ℕ) → (recalled_either bs).answer ≡ found.Refused n → contents_of bs ≡ no_contents
contents-refused [] n e = contents-none
contents-refused (b ∷ bs) n e = contents-cons b bs ∙ ap (λ a. then_on a (recalled_either (b ∷ bs)).frame (λ skip. contents_from skip bs)) e

-- before anything is read, all is left
pub left-all : (f : Frame) (n : ℕ) → left_of f n 0 ≡ map entry_row (entries_after f n 0)
left-all f n = ap (λ m. map entry_row (entries_after f m 0)) none
  where
    none : n - 0 ≡ n
    none = omega arith

-- the entries of a frame by its count
pub entries-counted : (f : Frame) (c : ℕ) → count_corrections f ≡ count.Of c → entries_read f ≡ entries_after f c 0
unfolding entries_read
entries-counted f c e = ap (entries_counted f) e

pub entries-refused : (f : Frame) (n : ℕ) → count_corrections f ≡ count.Refused n → entries_read f ≡ []
unfolding entries_read
entries-refused f n e = ap (entries_counted f) e
