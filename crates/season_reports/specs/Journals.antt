-- The entries of a journal's bytes: records are taken from the start while they recall, each by the form of its mark. Assumes nothing.
use Rattle.std.specs.Prelude.{List, [], ◌∷◌, ◌++◌, ℕ, zero, suc, ◌+◌, ◌-◌}
use Rattle.frame.specs.Layout.{system_of}
use Rattle.frame.specs.declared.Frame.{Frame}
use Rattle.journal.specs.declared.Found.{Found}
use Rattle.journal.specs.declared.Found.TheVariants as found
use Rattle.journal.specs.Words.{recalled_either}
use Rattle.record_corrections.specs.declared.Correction.{Correction}
use Rattle.record_corrections.specs.declared.CorrectionRead.{CorrectionRead}
use Rattle.record_corrections.specs.declared.CorrectionRead.TheVariants as read
use Rattle.record_corrections.specs.Corrections.{count_corrections, correction_at}
use Rattle.record_stages.specs.declared.Count.{Count}
use Rattle.record_stages.specs.declared.Count.TheVariants as count
use Rattle.season_reports.specs.Season.{Entry, reading_of}

-- ---- the entries of a frame

-- an entry, of the system and the station of its frame
abbrev pub entry_under : Frame → Correction → Entry
entry_under f e = record {
  key = record { system = system_of f.header.kind; station = f.header.station; satellite = e.satellite };
  reading = reading_of e;
}

-- one that can't be read adds nothing
abbrev pub one_entry : Frame → CorrectionRead → List Entry
one_entry f (read.Entry e) = entry_under f e ∷ []
one_entry f (read.Refused number) = []

-- c entries from number i on
unfoldable pub entries_after : Frame → ℕ → ℕ → List Entry
entries_after f zero i = []
entries_after f (suc c) i = one_entry f (correction_at f i) ++ entries_after f c (suc i)

-- a frame of another type, or whose entries are not counted, adds nothing
abbrev pub entries_counted : Frame → Count → List Entry
entries_counted f (count.Of c) = entries_after f c 0
entries_counted f (count.Refused number) = []

unfoldable pub entries_read : Frame → List Entry
entries_read f = entries_counted f (count_corrections f)

-- ---- the records of a journal

-- what was read: the entries, and how many bytes their records have
pub record Contents : Type 0 where
  pub entries : List Entry
  pub used : ℕ

abbrev pub no_contents : Contents
no_contents = record { entries = []; used = 0 }

abbrev pub read_before : ℕ → Frame → Contents → Contents
read_before size f rest = record { entries = entries_read f ++ rest.entries; used = size + rest.used }

-- the record and then the rest, or nothing more
abbrev pub then_on : Found → Frame → (ℕ → Contents) → Contents
then_on (found.Record size) f rest = read_before size f (rest (size - 1))
then_on (found.Refused number) f rest = no_contents

-- the bytes from here on, of which `skip` belong to a record that was read
unfoldable pub contents_from : ℕ → List ℕ → Contents
contents_from skip [] = no_contents
contents_from (suc skip) (b ∷ bs) = contents_from skip bs
contents_from zero (b ∷ bs) =
    let r = recalled_either (b ∷ bs) in
    then_on r.answer r.frame (λ skip. contents_from skip bs)

-- THE CONTENTS of a journal's bytes, up to the first record that is refused
abbrev pub contents_of : List ℕ → Contents
contents_of bs = contents_from 0 bs
