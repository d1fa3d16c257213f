-- A run over the bytes of a journal, record by record: what went into the table, and what is left. Assumes nothing.
use mathlib.Core.Path.{◌≡◌, refl, sym, ap, ap₂, subst, ◌∙◌}
use mathlib.Core.List.{List, [], ◌++◌, map}
use Prim.Native.Nat.{ℕ, ◌+◌, ◌-◌, ◌≤◌}
use native.Mathlib.Nat.{zero-add}
use native.Mathlib.Omega.{arith}
use lib.ListN.{length, take, drop, length-drop, drop_of_length-le}
use lib.Seq.{drop-drop, take_all}
use Rattle.journal.specs.declared.Found.TheVariants as found
use Rattle.journal.specs.Words.{recalled_either}
use Rattle.record_fields.specs.Coding.{Each}
use Rattle.season_reports.specs.Season.{entry_row}
use Rattle.season_reports.specs.Journals.{entries_read, no_contents, contents_of}
use Rattle.season_reports.specs.Reports.{journal_rows}
use Rattle.season_reports.specs.Tables.{with_rows, SoundRow, SoundTable}
use Rattle.season_reports.specs.declared.Row.{Row}
use Rattle.season_reports.specs.declared.table.Table.{Table}
use Rattle.season_reports.proofs.TotalLaws.{map-append}
use Rattle.season_reports.proofs.PlaceLaws.{each_append}
use Rattle.season_reports.proofs.SoundLaws.{rows-sound, rows_append}
use Rattle.season_reports.proofs.JournalLaws.{Whole, either-whole, contents-record, contents-none}

-- ---- a run over bytes, record by record

pub tail_all : (n : ℕ) (bs : List ℕ) → take (length bs - n) (drop n bs) ≡ drop n bs
tail_all n bs = take_all (length bs - n) (drop n bs) (omega (arith, length-drop n bs))

-- the rows of bytes that begin with a record
rows-record : (bs : List ℕ) (size : ℕ) → (recalled_either bs).answer ≡ found.Record size
    → journal_rows bs ≡ map entry_row (entries_read (recalled_either bs).frame) ++ journal_rows (drop size bs)
unfolding journal_rows
rows-record bs size e =
    ap (λ x. map entry_row x.entries) (contents-record bs size e)
    ∙ map-append entry_row (entries_read (recalled_either bs).frame) (contents_of (drop size bs)).entries

rows_none : (bs : List ℕ) → contents_of bs ≡ no_contents → journal_rows bs ≡ []
unfolding journal_rows
rows_none bs e = ap (λ x. map entry_row x.entries) e

-- what was read so far into the table `now`, and what is left
pub record ReadSoFar (t : Table) (bs : List ℕ) (now : Table) (used : ℕ) : Type 0 where
  pub same : with_rows t (journal_rows bs) ≡ with_rows now (journal_rows (drop used bs))
  pub total : (contents_of bs).used ≡ used + (contents_of (drop used bs)).used
  pub sound : SoundTable now
  pub inside : used ≤ length bs
  pub each : Each SoundRow (journal_rows (drop used bs)) → Each SoundRow (journal_rows bs)

pub read-start : (t : Table) (bs : List ℕ) → SoundTable t → ReadSoFar t bs t 0
read-start t bs s = record { same = refl; total = sym (zero-add (contents_of bs).used); sound = s; inside = omega arith; each = λ e. e }

module _ (t : Table) (bs : List ℕ) (now : Table) (used : ℕ) (s : ReadSoFar t bs now used) where
  -- a record, whose rows went into the table
  module _ (size : ℕ) (e : (recalled_either (drop used bs)).answer ≡ found.Record size) where
    long : Whole (drop used bs) size
    long = either-whole (drop used bs) size e

    pub size-some : 1 ≤ size
    size-some = long.some

    pub size-inside : used + size ≤ length bs
    size-inside = omega (arith, long.inside, length-drop used bs, s.inside)

    pub read-on : (rows : List Row) (next : Table) → rows ≡ map entry_row (entries_read (recalled_either (drop used bs)).frame) → Each SoundRow rows
        → next ≡ with_rows now rows → ReadSoFar t bs next (used + size)
    read-on rows next is q e2 = record {
      same = s.same ∙ ap (with_rows now) left ∙ rows_append now rows (journal_rows (drop (used + size) bs))
          ∙ ap (λ x. with_rows x (journal_rows (drop (used + size) bs))) (sym e2);
      total = omega (arith, s.total, ap (λ x. x.used) (contents-record (drop used bs) size e), ap (λ l. (contents_of l).used) onwards);
      sound = subst SoundTable (sym e2) (rows-sound now rows s.sound q);
      inside = size-inside;
      each = λ p. s.each (subst (Each SoundRow) (sym left) (each_append SoundRow rows (journal_rows (drop (used + size) bs)) q p));
    }
      where
        onwards : drop size (drop used bs) ≡ drop (used + size) bs
        onwards = drop-drop size used bs

        left : journal_rows (drop used bs) ≡ rows ++ journal_rows (drop (used + size) bs)
        left = rows-record (drop used bs) size e ∙ ap₂ (λ a l. a ++ journal_rows l) (sym is) onwards

  -- nothing more
  module _ (e : contents_of (drop used bs) ≡ no_contents) where
    pub read-end : now ≡ with_rows t (journal_rows bs)
    unfolding with_rows
    read-end = sym (s.same ∙ ap (with_rows now) (rows_none (drop used bs) e))

    pub read-used : used ≡ (contents_of bs).used
    read-used = omega (arith, s.total, ap (λ x. x.used) e)

    pub read-each : Each SoundRow (journal_rows bs)
    read-each = s.each (subst (Each SoundRow) (sym (rows_none (drop used bs) e)) tt)

pub contents-past : (bs : List ℕ) (n : ℕ) → length bs ≤ n → contents_of (drop n bs) ≡ no_contents
contents-past bs n h = ap contents_of (drop_of_length-le bs {i = n} h) ∙ contents-none
