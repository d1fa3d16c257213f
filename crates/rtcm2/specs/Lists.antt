-- A LIST OF THE LIBRARY: a plain list layout of the package and its row of bytes; and over it what the three calls on a list say: how many entries,
-- one as a row, a frame made of rows. Assumes nothing.
use Rattle.std.specs.Prelude.{List, ℕ, length}
use Rattle.answer.specs.Order.{Says}
use Rattle.frame.specs.Layout.{system_of}
use Rattle.frame.specs.declared.Frame.{Frame}
use Rattle.frame.specs.declared.Header.{Header}
use Rattle.frame.specs.declared.System.{System}
use Rattle.record_fields.specs.Coding.{Coding}
use Rattle.record_stages.specs.Stages.{says_count, says_made}
use Rattle.record_stages.specs.Lists.{ListLayout, counted, entry_at, made}
use Rattle.rtcm2_rows.specs.Rows.{row_size, count_of, entries_from}
use Rattle.rtcm2.specs.Answer.{and_then}

pub record LibraryList : Type 1 where
  pub plain : ListLayout
  -- an entry as a row of bytes; what is put does not look at the system: `row Gps` stands for both there
  pub row : System → Coding plain.Entry

module _ (L : LibraryList) where
  -- COUNT: the refusal that there was, or 6, 7, 8
  abbrev pub count_said : Says Frame → Says ℕ
  count_said said = and_then said (λ f. says_count (counted L.plain f))

  -- ENTRY: the refusal that there was, or 6, 7, 8, 9, and 10 where reading has it
  abbrev pub entry_said : Says Frame → ℕ → Says L.plain.Entry
  entry_said said i = and_then said (λ f. L.plain.says (entry_at L.plain f i))

  -- MAKING of a header and the rows of its type's system, as many as the bytes are: the refusal that there was, or 5, 6, 7, 12, 10
  abbrev pub made_said : Says Header → List ℕ → Says Frame
  made_said said bytes =
      and_then said (λ h. let k = L.row (system_of h.kind) in
      says_made (made L.plain h (entries_from k L.plain.most bytes) (count_of (row_size k) (length bytes))))
