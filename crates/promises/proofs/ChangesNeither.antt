-- What a refusal leaves is the argument itself, and an answer's bytes stand before the rest of the buffer: two laws over any order. Assumes nothing.
use mathlib.Core.Path.{◌≡◌, refl, sym, ap, subst, ◌∙◌}
use mathlib.Core.Bool.{Bool, true, false, cond}
use mathlib.Core.List.{List, [], ◌∷◌, ◌++◌}
use Prim.Native.Nat.{ℕ, ◌+◌, ◌*◌, ◌/◌}
use native.Mathlib.Omega.{arith}
use lib.ListN.{length, drop}
use borrow.Author.Tests.{ltb-false}
use Rattle.answer.specs.Order.{Says, refuses, answers, Check, in_order}
use Rattle.answer.proofs.OrderLaws.{order-refuses}
use Rattle.frame.specs.Frames.{blank}
use Rattle.frame.specs.Widths.{numbers_outside, header_outside, outside}
use Rattle.reader.specs.Reading.{fed_by, fed_all_by, ended_by, taken_by}
use Rattle.reader.specs.Rows.{no_rows, rows_by, rows_to}
use Rattle.reader.specs.declared.Reader.{Reader}
use Rattle.reader.specs.declared.Answer.TheVariants.{Refused}
use Rattle.reader.specs.declared.Next.{Next}
use Rattle.reader.specs.declared.FedAll.{FedAll}
use Rattle.reader.specs.declared.Taken.{Taken}
use Rattle.reader.specs.declared.rows.RowsRead.{RowsRead}
use Rattle.writer.specs.Sending.{bits_after, carried_on, bytes_for, line_length}
use Rattle.writer.specs.Answer.{over, lead, says_opened, says_written}
use Rattle.writer.proofs.Bytes.{length-bytes}
use Rattle.writer.specs.declared.Opened.TheVariants as opened
use Rattle.writer.specs.declared.Written.TheVariants as written
use Rattle.journal.specs.Journal.{record_of, recalled_by, says_kept, says_recalled}
use Rattle.journal.specs.Journal.{refused_recall as unrecalled}
use Rattle.journal.specs.declared.Recalled.{Recalled}
use Rattle.journal.specs.declared.Kept.TheVariants as kept
use Rattle.journal.proofs.KeepLaws.{length-record}
use Rattle.journal.proofs.LiveLaws.{length-live}
use Rattle.journal.specs.Words.{words_record, recalled_words, keeps_words}
use Rattle.journal_moves.specs.Moving.{other_record, moved_by, says_moved}
use Rattle.journal_moves.specs.declared.Moved.{Moved}
use Rattle.journal_moves.specs.declared.Moved.TheVariants as moved
use Rattle.journal_moves.proofs.RunLaws.{step_of, moved-held, moved-unchanged}
use Rattle.record_fields.specs.Coding.{frame_bits}
use Rattle.record_texts.proofs.TextCode.{length-characters}
use Rattle.record_stages.specs.Stages.{refused_made, says_count}
use Rattle.record_observations.specs.Observations.{make_observations}
use Rattle.record_generals.specs.Generals.{make_generals}
use Rattle.record_generals.specs.GeneralNulls.{make_general_null}
use Rattle.record_positions.specs.Positions.{make_position}
use Rattle.record_nulls.specs.Nulls.{make_null}
use Rattle.record_stages.specs.declared.Made.{Made}
use Rattle.record_stages.specs.declared.Count.TheVariants as count
use Rattle.record_texts.specs.Texts.{length_in, text_in, read_text, buffer_after, make_text}
use Rattle.profile.specs.declared.Cut.{Cut}
use Rattle.profile.specs.Cutting.{refused_cut, cut_corrections}
use Rattle.season_reports.specs.Reports.{refused_add, added_by, journal_added}
use Rattle.season_reports.specs.declared.Adding.TheVariants as adding
use Rattle.season_reports.specs.declared.Report.{Report}
use Rattle.season_reports.specs.declared.Added.{Added}
use Rattle.season_reports.specs.declared.JournalReport.{JournalReport}
use Rattle.printing.specs.Printing.{printed_by, printed_to}
use Rattle.listing.specs.Listing.{line_room, end_room, refused_listing, lines_of}
use Rattle.listing.specs.Listing.{final_lines, piece_by, piece_text, finish_by, finish_text, line_put, line_to}
use Rattle.mender.specs.Steps.{refused_mend}
use Rattle.mender.specs.declared.Mended.{Mended}
use Rattle.listing.specs.declared.Listed.{Listed}
use Rattle.listing.proofs.Lengths.{lines-le, final-le}
use Rattle.promises.specs.CarriesItsNumber.{Ordered}
use Rattle.promises.specs.ChangesNeither.{Keeps, ChangesNeither, NumberAlone, OnlyFirst, OnlyItsBytes}
use Rattle.promises.proofs.CarriesItsNumber.{carries-its-number}
use Rattle.promises.proofs.Owning.{owns, first-bytes, print-owns, listing-owns}

-- ---- a refusal

-- what the reader's calls and a season's leave when they refuse
abbrev fed-none : Reader → ℕ → FedAll
fed-none r n = record { answer = Refused n; used = 0; passed = 0; reader = r }

abbrev journal-none : Report → ℕ → JournalReport
journal-none a n = record { answer = adding.Refused n; report = a; used = 0 }

abbrev taken_none : Reader → ℕ → Taken
taken_none r n = record { answer = Refused n; at = 0; frame = blank; reader = r }

-- what is made of each refusal is what was there, so what is made of the order is
pub keeps : {A X B : Type 0} {numbers : List ℕ} {cs : List Check} {s : Says A} → Ordered numbers cs s
    → (of : X → B) (refuse : ℕ → X) (answer : X) (was : B) → ((n : ℕ) → of (refuse n) ≡ was) → Keeps s (of (in_order cs refuse answer)) was
keeps {cs} o of refuse answer was same n e = ap of (order-refuses refuse answer cs n (o.only n e)) ∙ same n

-- what a move answered, from what it says
moved-refused : (m : Moved) (n : ℕ) → says_moved m ≡ refuses n → m ≡ moved.Refused n
moved-refused (moved.Done read written) n e = let z : ◌≡◌ {A = ℕ} 0 1 = cc in absurd (omega arith)
moved-refused (moved.Refused k) n e = cc

moved-done : (m : Moved) (v : ℕ × ℕ) → says_moved m ≡ answers v → m ≡ moved.Done v.0 v.1
moved-done (moved.Done read written) v e = cc
moved-done (moved.Refused k) v e = let z : ◌≡◌ {A = ℕ} 0 1 = cc in absurd (omega arith)

pub changes-neither : ChangesNeither
unfolding fed_by fed_all_by ended_by taken_by rows_by rows_to read_text buffer_after printed_by printed_to piece_by piece_text finish_by finish_text line_put line_to added_by
    journal_added
changes-neither = record {
  feed = λ r b. keeps (carries-its-number.feed r b) (λ (x : Next). x.reader) (λ n. record { answer = Refused n; reader = r }) _ _ (λ n. refl);
  feed-all = λ r bs. keeps (carries-its-number.feed-all r bs) (λ (x : FedAll). x.reader) (fed-none r) _ _ (λ n. refl);
  reader-end = λ r. keeps (carries-its-number.reader-end r) (λ (x : Next). x.reader) (λ n. record { answer = Refused n; reader = r }) _ _ (λ n. refl);
  reader-take = λ r. keeps (carries-its-number.reader-take r) (λ (x : Taken). x.reader) (taken_none r) _ _ (λ n. refl);
  read-rows = λ r bytes rows. keeps (carries-its-number.read-rows r bytes rows) (λ (x : RowsRead). x.reader) (no_rows r) _ _ (λ n. refl);
  read-rows-output = λ r bytes rows. keeps (carries-its-number.read-rows r bytes rows) (λ b. b) (λ n. rows) _ _ (λ n. refl);
  writer-open = λ buffer. keeps (carries-its-number.writer-open buffer) (λ b. b) (λ n. buffer) _ _ (λ n. refl);
  write = λ f c buffer. keeps (carries-its-number.write f c buffer) (λ b. b) (λ n. buffer) _ _ (λ n. refl);
  put-frame = λ f buffer. keeps (carries-its-number.put-frame f buffer) (λ b. b) (λ n. buffer) _ _ (λ n. refl);
  keep = λ f buffer. keeps (carries-its-number.keep f buffer) (λ b. b) (λ n. buffer) _ _ (λ n. refl);
  keep-words = λ f buffer. keeps (carries-its-number.keep-words f buffer) (λ b. b) (λ n. buffer) _ _ (λ n. refl);
  move = λ w bs buffer n e. moved-unchanged w bs buffer (moved-refused (moved_by w bs (length buffer)) n e);
  read-text = λ f buffer. keeps (carries-its-number.read-text f buffer) (λ b. b) (λ n. buffer) _ _ (λ n. refl);
  print = λ text place buffer. keeps (carries-its-number.print text place buffer) (λ b. b) (λ n. buffer) _ _ (λ n. refl);
  put-line = λ at f out. keeps (carries-its-number.put-line at f out) (λ b. b) (λ n. out) _ _ (λ n. refl);
  mend-bytes = λ bs at s out. keeps (carries-its-number.mend bs at s out) (λ b. b) (λ n. bs) _ _ (λ n. refl);
  mend-output = λ bs at s out. keeps (carries-its-number.mend bs at s out) (λ b. b) (λ n. out) _ _ (λ n. refl);
  add-report = λ a b. keeps (carries-its-number.add-report a b) (λ (x : Added). x.report) (refused_add a) _ _ (λ n. refl);
  add-journal = λ a bs. keeps (carries-its-number.add-journal a bs) (λ (x : JournalReport). x.report) (journal-none a) _ _ (λ n. refl);
  list-piece = λ l bs room. keeps (carries-its-number.list-piece l bs room) (λ (x : Listed). x.listing) (refused_listing l) _ _ (λ n. refl);
  list-piece-output = λ l bs out. keeps (carries-its-number.list-piece l bs (length out)) (λ b. b) (λ n. out) _ _ (λ n. refl);
  finish = λ l room. keeps (carries-its-number.finish l room) (λ (x : Listed). x.listing) (refused_listing l) _ _ (λ n. refl);
  finish-output = λ l out. keeps (carries-its-number.finish l (length out)) (λ b. b) (λ n. out) _ _ (λ n. refl);
}

-- a record of either form, by its form
either-alone : (bs : List ℕ) (words : Bool)
    → Keeps (says_recalled (cond words (recalled_words bs) (recalled_by bs))) (cond words (recalled_words bs) (recalled_by bs)).frame blank
either-alone bs true = keeps (carries-its-number.recall-words bs) (λ (x : Recalled). x.frame) unrecalled _ _ (λ n. refl)
either-alone bs false = keeps (carries-its-number.recall bs) (λ (x : Recalled). x.frame) unrecalled _ _ (λ n. refl)

pub number-alone : NumberAlone
unfolding fed_all_by taken_by rows_by make_observations make_generals make_general_null make_position make_null make_text cut_corrections refused_made
    refused_cut piece_by finish_by
    journal_added
number-alone = record {
  blank-outside = unfold blank outside header_outside numbers_outside in refl;
  feed-all = λ r bs. keeps (carries-its-number.feed-all r bs) (λ (x : FedAll). (x.used, x.passed)) (fed-none r) _ _ (λ n. refl);
  reader-take = λ r. keeps (carries-its-number.reader-take r) (λ (x : Taken). (x.at, x.frame)) (taken_none r) _ _ (λ n. refl);
  read-rows = λ r bytes rows.
      keeps (carries-its-number.read-rows r bytes rows) (λ (x : RowsRead). (x.used, (x.passed, x.count))) (no_rows r) _ _ (λ n. refl);
  recall = λ bs. keeps (carries-its-number.recall bs) (λ (x : Recalled). x.frame) unrecalled _ _ (λ n. refl);
  recall-words = λ bs. keeps (carries-its-number.recall-words bs) (λ (x : Recalled). x.frame) unrecalled _ _ (λ n. refl);
  recall-either = λ bs. either-alone bs (keeps_words bs);
  lists = λ l h es c. keeps ((carries-its-number.lists l).make h es c) (λ (x : Made). x.frame) refused_made _ _ (λ n. refl);
  make-observations = λ e h a os c. keeps (carries-its-number.make-observations e h a os c) (λ (x : Made). x.frame) refused_made _ _ (λ n. refl);
  make-generals = λ h a gs c. keeps (carries-its-number.make-generals h a gs c) (λ (x : Made). x.frame) refused_made _ _ (λ n. refl);
  make-general-null = λ h n s. keeps (carries-its-number.make-general-null h n s) (λ (x : Made). x.frame) refused_made _ _ (λ n. refl);
  make-position = λ h p. keeps (carries-its-number.make-position h p) (λ (x : Made). x.frame) refused_made _ _ (λ n. refl);
  make-null = λ h n. keeps (carries-its-number.make-null h n) (λ (x : Made). x.frame) refused_made _ _ (λ n. refl);
  cut-corrections = λ h es c. keeps (carries-its-number.cut-corrections h es c) (λ (x : Cut). x.frames) refused_cut _ _ (λ n. refl);
  make-text = λ h t. keeps (carries-its-number.make-text h t) (λ (x : Made). x.frame) refused_made _ _ (λ n. refl);
  mend = λ bs at s out. keeps (carries-its-number.mend bs at s out) (λ (x : Mended). (x.step, x.written)) refused_mend _ _ (λ n. refl);
  add-journal = λ a bs. keeps (carries-its-number.add-journal a bs) (λ (x : JournalReport). x.used) (journal-none a) _ _ (λ n. refl);
  list-piece = λ l bs room. keeps (carries-its-number.list-piece l bs room) (λ (x : Listed). (x.used, x.written)) (refused_listing l) _ _ (λ n. refl);
  finish = λ l room. keeps (carries-its-number.finish l room) (λ (x : Listed). (x.used, x.written)) (refused_listing l) _ _ (λ n. refl);
}

-- ---- an answer

pub only-its-bytes : OnlyItsBytes
unfolding read_text buffer_after piece_by piece_text finish_by finish_text
only-its-bytes = record {
  writer-open = λ buffer.
      owns says_opened opened.Refused opened.Done tt (carries-its-number.writer-open buffer) refl (λ v. 1) buffer (over (lead ∷ []) buffer)
      (λ none. first-bytes (lead ∷ []) buffer 1 refl (ltb-false (length buffer) 1 none.0));
  write = λ f c buffer.
      let bytes = bytes_for (line_length f) (bits_after c f) in
      let long = length-bytes (line_length f) (bits_after c f) in
      owns says_written written.Refused (written.Done (line_length f) (carried_on (bits_after c f))) _ (carries-its-number.write f c buffer) refl
      (λ v. v.0) buffer (over bytes buffer)
      (λ none. subst (λ k. OnlyFirst (line_length f) (bytes ++ drop k buffer) buffer) (sym long)
      (first-bytes bytes buffer (line_length f) long (ltb-false (length buffer) (line_length f) none.1.1.1.1.0)));
  keep = λ f buffer full.
      owns says_kept kept.Refused (kept.Done (3 * f.n + 9)) _ (carries-its-number.keep f buffer) refl (λ v. v) buffer
      (record_of f ++ drop (3 * f.n + 9) buffer)
      (λ none. first-bytes (record_of f) buffer (3 * f.n + 9) (length-record f none.0 full) (ltb-false (length buffer) (3 * f.n + 9) none.1.0));
  keep-words = λ f buffer full.
      owns says_kept kept.Refused (kept.Done (4 * f.n + 11)) _ (carries-its-number.keep-words f buffer) refl (λ v. v) buffer
      (words_record f ++ drop (4 * f.n + 11) buffer)
      (λ none. first-bytes (words_record f) buffer (4 * f.n + 11) (length-live f none.0 full) (ltb-false (length buffer) (4 * f.n + 11) none.1.0));
  move = λ w bs buffer v e.
      let done = moved-done (moved_by w bs (length buffer)) v e in
      let s = step_of w bs (length buffer) done in
      subst (λ b. OnlyFirst v.1 b buffer) (sym (moved-held w bs buffer done)) (first-bytes (other_record w bs) buffer v.1 s.long s.fits);
  read-text = λ f buffer.
      owns says_count count.Refused (count.Of (length_in f)) _ (carries-its-number.read-text f buffer) refl (λ v. v) buffer
      (text_in f ++ drop (length_in f) buffer)
      (λ none. first-bytes (text_in f) buffer (length_in f) (length-characters (length_in f) (frame_bits f))
      (ltb-false (length buffer) (length_in f) none.1.1.1.1.1.0));
  print = print-owns;
  list-piece = λ l bs out.
      listing-owns l (lines_of (length out / line_room) l bs) out (carries-its-number.list-piece l bs (length out))
      (λ none. omega (arith, lines-le (length out / line_room) l bs));
  finish = λ l out.
      listing-owns l (final_lines l) out (carries-its-number.finish l (length out))
      (λ none. omega (arith, final-le l, ltb-false (length out) end_room none.1.1.1.0));
}
