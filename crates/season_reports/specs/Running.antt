-- A run over many journals, one after the other, and what is promised of runs. Assumes nothing.
use Rattle.std.specs.Prelude.{List, [], ◌∷◌, ◌++◌, ℕ}
use Rattle.season_reports.specs.Season.{Entry}
use Rattle.season_reports.specs.Journals.{contents_of}
use Rattle.season_reports.specs.Reports.{journal_added, report_with}
use Rattle.season_reports.specs.declared.Adding.{Adding}
use Rattle.season_reports.specs.declared.Adding.TheVariants.{Done, Refused}
use Rattle.season_reports.specs.declared.Added.{Added}
use Rattle.season_reports.specs.declared.Report.{Report}

-- the rest of a run, or the refusal that ends it
abbrev pub go_on : Adding → Report → Added → Added
go_on Done next rest = rest
go_on (Refused n) next rest = record { answer = Refused n; report = next }

-- the journals' bytes added to a report in order, as far as the first refusal: then the report is as it was before that journal
unfoldable pub after_journals : Report → List (List ℕ) → Added
after_journals r [] = record { answer = Done; report = r }
after_journals r (j ∷ js) =
    let a = journal_added r j in
    go_on a.answer a.report (after_journals a.report js)

-- THE RUN, from a report without rows
abbrev pub season_run : List (List ℕ) → Added
season_run js = after_journals (report_with []) js

-- ALL ENTRIES READ, over all journals
abbrev pub season_entries : List (List ℕ) → List Entry
season_entries [] = []
season_entries (j ∷ js) = (contents_of j).entries ++ season_entries js
