-- DEMAND 1, "A refusal carries its number from the table": a call refuses when a number of its order applies, only then, and with the first of them
-- (RULES 11). What a call says is its answer in the table's terms. Assumes nothing.
use Rattle.std.specs.Prelude.{◌≡◌, Bool, false, not, ◌||◌, cond, List, [], ◌∷◌, ◌++◌, map, ℕ, ◌^◌, ℤ, ltb, leb, eqb, length, take}
use Rattle.answer.specs.Order.{Says, refuses, answers, Check, NoneApplies, FirstIs}
use Rattle.answer.specs.Table.{table_numbers}
use Rattle.line.specs.Line.{is_data}
use Rattle.line.specs.Answer.{six_of, says_six}
use Rattle.word.specs.Answer.{word_of, says_sent}
use Rattle.frame.specs.Widths.{any_of, state_outside, header_outside, outside, late}
use Rattle.frame.specs.Answer.{health_of, header_words, header_widths, frame_widths, clock_of, says_health_code, says_words, says_widths, says_clock}
use Rattle.frame.specs.declared.State.{State}
use Rattle.frame.specs.declared.Header.{Header}
use Rattle.frame.specs.declared.Frame.{Frame}
use Rattle.frame.specs.declared.Layout.{Layout}
use Rattle.frame.specs.declared.Layout.TheVariants as layout
use Rattle.frame.specs.Layout.{system_of}
use Rattle.reader.specs.Reading.{past, frame_waits, busy, fed_by, fed_all_by, ended_by, taken_by, says_answer}
use Rattle.reader.specs.Rows.{rows_order, rows_by}
use Rattle.reader.specs.declared.Reader.{Reader}
use Rattle.writer.specs.Answer.{open_checks, opened_by, write_checks, written_by, says_opened, says_written}
use Rattle.frame.specs.declared.Carried.{Carried}
use Rattle.journal.specs.Journal.{record_order, recorded_by, keep_order, kept_by, recall_order, recalled_by, says_kept, says_recalled}
use Rattle.journal.specs.Words.{keep_words_order, kept_words, recall_words_order, recalled_words, recall_either_order, recalled_either}
use Rattle.journal_moves.specs.Moving.{move_order, moved_by, says_moved}
use Rattle.journal_moves.specs.declared.Way.TheVariants.{New, Old}
use Rattle.record_fields.specs.declared.Rows.{Rows}
use Rattle.record_stages.specs.Stages.{wrong_count, other_layout, wrong_size, asked_of, count_after, place_after, size_of, entry_refusal, made_by}
use Rattle.record_stages.specs.Stages.{misfit_after, headed_order}
use Rattle.record_stages.specs.Stages.{read_order, make_order, made_order, says_asked, says_size, says_count, says_place, says_made}
use Rattle.record_stages.specs.Lists.{ListLayout, count_order, at_order, list_order, counted, entry_at, made}
use Rattle.record_observations.specs.Observations as observations
use Rattle.record_observations.specs.Editions.{quantity_of, mark_number}
use Rattle.record_observations.specs.Meanings.{frequency_of, phase_step, says_frequency, says_step}
use Rattle.record_observations.specs.declared.Edition.{Edition}
use Rattle.record_observations.specs.declared.Quantity.TheVariants as quantity
use Rattle.record_observations.specs.declared.Mark.{Mark}
use Rattle.record_observations.specs.declared.Epoch.{Epoch}
use Rattle.record_observations.specs.declared.Observation.{Observation}
use Rattle.record_generals.specs.declared.GeneralHead.{GeneralHead}
use Rattle.record_generals.specs.declared.General.{General}
use Rattle.record_generals.specs.Generals as generals
use Rattle.record_generals.specs.GeneralNulls.{system_in, other_than_null, read_general_null, make_general_null, says_general_null_read}
use Rattle.record_positions.specs.Positions as positions
use Rattle.record_nulls.specs.Nulls as nulls
use Rattle.record_texts.specs.Texts as texts
use Rattle.record_corrections.specs.declared.Correction.{Correction}
use Rattle.record_positions.specs.declared.Position.{Position}
use Rattle.profile.specs.Profile.{profile_order, check_profile, says_profile}
use Rattle.profile.specs.Cutting.{cut_order, cut_corrections, says_cut}
use Rattle.season_reports.specs.Reports.{report_out, add_order, added_by, journal_order, journal_added, row_numbered, says_added, says_journal, says_row}
use Rattle.season_reports.specs.declared.Report.{Report}
use Rattle.record_values.specs.Values.{no_letter}
use Rattle.record_values.specs.GeneralValues.{outside14}
use Rattle.record_values.specs.GeneralAnswer.{general_prc_mm, delay_mm, general_udre, use_seconds, says_delay, says_general_limit, says_period}
use Rattle.record_values.specs.Answer.{prc_mm, rrc_mm_s, udre_limit, cn0_db_hz, minutes_of, z_tenths, letter_of}
use Rattle.record_values.specs.Answer.{says_distance, says_rate, says_limit, says_strength, says_time, says_since_hour, says_letter}
use Rattle.mender.specs.Steps.{mend_order, mend_by, says_mended}
use Rattle.printing.specs.Printing.{print_order, printed_by, says_printed}
use Rattle.listing.specs.Listing.{piece_order, piece_by, end_order, finish_by, line_order, line_put}
use Rattle.listing.specs.declared.Listing.{Listing}
use Rattle.promises.specs.RecordLayouts.{EachList}

-- the numbers of checks, in their order
abbrev pub check_numbers : List Check → List ℕ
check_numbers cs = map (λ (c : Check). c.1) cs

-- a number that the table does not have
abbrev pub outside_table : ℕ → Bool
outside_table n = not (any_of (eqb n) table_numbers)

-- THE ORDER: the checks have these numbers, each of the table. Where none applies the call answers; it refuses with n exactly when the first check
-- that applies has the number n.
pub record Ordered {A : Type 0} (numbers : List ℕ) (checks : List Check) (s : Says A) : Type 0 where
  pub numbered : check_numbers checks ≡ numbers
  pub table : any_of outside_table numbers ≡ false
  pub answered : NoneApplies checks → (value : A) × (s ≡ answers value)
  pub refused : (n : ℕ) → FirstIs checks n → s ≡ refuses n
  pub only : (n : ℕ) → s ≡ refuses n → FirstIs checks n

-- a plain list layout: counting 5, 6, 7, 8; an entry 9 after these, and 10 where reading has it; making 5, 6, 7, 12, 10
pub record ListOrders (L : ListLayout) : Type 0 where
  pub count : (f : Frame) → Ordered (5 ∷ 6 ∷ 7 ∷ 8 ∷ []) (count_order L f) (says_count (counted L f))
  pub entry : (f : Frame) (i : ℕ)
      → Ordered (5 ∷ 6 ∷ 7 ∷ 8 ∷ 9 ∷ cond L.ranged (10 ∷ []) []) (at_order L f i) (L.says (entry_at L f i))
  pub make : (h : Header) (es : List L.Entry) (c : ℕ) → Ordered (5 ∷ 6 ∷ 7 ∷ 12 ∷ 10 ∷ []) (list_order L h es c) (says_made (made L h es c))

-- every public function that can refuse; where a number stands twice, two conditions have it
pub record CarriesItsNumber : Type 0 where
  -- feeding: 5, 3, 2, 1; ending: 5, 3, 2; taking: 5, 4
  pub feed : (r : Reader) (b : ℕ) → Ordered (5 ∷ 3 ∷ 2 ∷ 1 ∷ []) (busy r ++ ((not (is_data b), 1) ∷ [])) (says_answer (fed_by r b).answer)
  pub feed-all : (r : Reader) (bs : List ℕ) → Ordered (5 ∷ 3 ∷ 2 ∷ []) (busy r) (says_answer (fed_all_by r bs).answer)
  pub reader-end : (r : Reader) → Ordered (5 ∷ 3 ∷ 2 ∷ []) (busy r) (says_answer (ended_by r).answer)
  pub reader-take : (r : Reader) → Ordered (5 ∷ 4 ∷ []) ((past r, 5) ∷ (not (frame_waits r), 4) ∷ []) (says_answer (taken_by r).answer)
  -- reading rows: 5, 5 where a frame is said to wait and none stands, 3, 13
  pub read-rows : (r : Reader) (bytes rows : List ℕ) → Ordered (5 ∷ 5 ∷ 3 ∷ 13 ∷ []) (rows_order r rows) (says_answer (rows_by r bytes rows).answer)
  -- plain lists: counting, an entry, making
  pub lists : EachList ListOrders
  -- reading a record: 5, 6, 7, 8; 9 of an entry; 10 of a field; 11, then 13 of a text
  pub count-observations : (f : Frame)
      → Ordered (5 ∷ 6 ∷ 7 ∷ 8 ∷ []) (read_order layout.Observation f (misfit_after 24 48 f.n) []) (says_count (observations.count_observations f))
  pub read-epoch : (f : Frame)
      → Ordered (5 ∷ 6 ∷ 7 ∷ 8 ∷ 10 ∷ [])
      (read_order layout.Observation f (misfit_after 24 48 f.n) ((observations.late_time (observations.epoch_in f), 10) ∷ []))
      (observations.says_epoch_read (observations.read_epoch f))
  pub observation-at : (e : Edition) (f : Frame) (i : ℕ)
      → Ordered (5 ∷ 6 ∷ 7 ∷ 8 ∷ 9 ∷ 10 ∷ [])
      (headed_order layout.Observation 24 48 f i ((observations.late_time (observations.epoch_in f), 10) ∷ []))
      (observations.says_observation_read (observations.observation_at e f i))
  -- types 41 and 42: 8 for too few words, 23, 8 for an N that the layout doesn't give; 9; 10 for satellite 0
  pub count-generals : (f : Frame) → Ordered (5 ∷ 6 ∷ 7 ∷ 8 ∷ 23 ∷ 8 ∷ []) (generals.list_order f []) (says_count (generals.count_generals f))
  pub read-head : (f : Frame) → Ordered (5 ∷ 6 ∷ 7 ∷ 8 ∷ 23 ∷ 8 ∷ []) (generals.list_order f []) (generals.says_head_read (generals.read_head f))
  pub general-at : (f : Frame) (i : ℕ)
      → Ordered (5 ∷ 6 ∷ 7 ∷ 8 ∷ 23 ∷ 8 ∷ 9 ∷ 10 ∷ [])
      (generals.list_order f ((leb (generals.generals_held f) i, 9) ∷ (generals.no_satellite (generals.general_in f i), 10) ∷ []))
      (generals.says_general_read (generals.general_at f i))
  pub read-general-null : (f : Frame)
      → Ordered (5 ∷ 6 ∷ 7 ∷ 8 ∷ 23 ∷ [])
      ((outside f, 5) ∷ (other_than_null f.header.kind, 6) ∷ (late f.header.z, 7) ∷ (wrong_size 1 f.n, 8)
      ∷ (generals.other_system (system_in f), 23) ∷ [])
      (says_general_null_read (read_general_null f))
  pub read-position : (f : Frame)
      → Ordered (5 ∷ 6 ∷ 7 ∷ 8 ∷ 10 ∷ [])
      (read_order layout.Position f (wrong_size 4 f.n) ((positions.out_of_range (positions.position_in f), 10) ∷ []))
      (positions.says_position_read (positions.read_position f))
  pub read-null : (f : Frame)
      → Ordered (5 ∷ 6 ∷ 7 ∷ 8 ∷ []) (read_order layout.Null f (nulls.too_many f.n) [])
      (nulls.says_null_read (nulls.read_null f))
  pub read-text : (f : Frame) (buffer : List ℕ)
      → Ordered (5 ∷ 6 ∷ 7 ∷ 8 ∷ 11 ∷ 13 ∷ []) (texts.text_order f buffer) (says_count (texts.read_text f buffer))
  -- making a frame: 5, 6, 7, 12; 10 of a field; 11 of a text
  pub make-observations : (e : Edition) (h : Header) (a : Epoch) (os : List Observation) (c : ℕ)
      → Ordered (5 ∷ 6 ∷ 7 ∷ 12 ∷ 10 ∷ [])
      (make_order layout.Observation h
      ((wrong_count 15 c, 12) ∷ (observations.epoch_out a || any_of (observations.out_of_range e (quantity_of h.kind)) (take c os), 10) ∷ []))
      (says_made (observations.make_observations e h a os c))
  -- types 41 and 42: 23 before 12
  pub make-generals : (h : Header) (a : GeneralHead) (gs : List General) (c : ℕ)
      → let d = generals.delay_width a.ionosphere in
      Ordered (5 ∷ 6 ∷ 7 ∷ 23 ∷ 12 ∷ 10 ∷ [])
      (make_order layout.General h ((generals.other_system a.system, 23)
      ∷ (wrong_count (generals.most_generals d) c, 12) ∷ (generals.head_out a || any_of (generals.out_of_range d) (take c gs), 10) ∷ []))
      (says_made (generals.make_generals h a gs c))
  pub make-general-null : (h : Header) (n s : ℕ)
      → Ordered (5 ∷ 6 ∷ 7 ∷ 23 ∷ 12 ∷ [])
      ((header_outside h, 5) ∷ (other_than_null h.kind, 6) ∷ (late h.z, 7) ∷ (generals.other_system s, 23) ∷ (wrong_size 1 n, 12) ∷ [])
      (says_made (make_general_null h n s))
  pub make-position : (h : Header) (p : Position)
      → Ordered (5 ∷ 6 ∷ 7 ∷ 10 ∷ []) (make_order layout.Position h ((positions.out_of_range p, 10) ∷ [])) (says_made (positions.make_position h p))
  pub make-null : (h : Header) (n : ℕ)
      → Ordered (5 ∷ 6 ∷ 7 ∷ 12 ∷ []) (make_order layout.Null h ((nulls.too_many n, 12) ∷ [])) (says_made (nulls.make_null h n))
  pub make-text : (h : Header) (t : List ℕ)
      → Ordered (5 ∷ 6 ∷ 7 ∷ 12 ∷ 11 ∷ [])
      (make_order layout.Text h ((wrong_count 90 (length t), 12) ∷ (any_of (texts.forbidden (system_of h.kind)) t, 11) ∷ []))
      (says_made (texts.make_text h t))
  -- the small-beacon profile: checking 5, 7, 20, 8, 10 or 11, 21, 22; cutting 5, 6, 7, 12, 10, 22
  pub check-profile : (f : Frame) → Ordered (5 ∷ 7 ∷ 20 ∷ 8 ∷ 10 ∷ 11 ∷ 21 ∷ 22 ∷ []) (profile_order f) (says_profile (check_profile f))
  pub cut-corrections : (h : Header) (es : List Correction) (c : ℕ)
      → Ordered (5 ∷ 6 ∷ 7 ∷ 12 ∷ 10 ∷ 22 ∷ []) (cut_order h es c) (says_cut (cut_corrections h es c))
  -- writing a frame: 5, 7, 13; bad carried bits are 5 too; opening a stream: 13
  pub write : (f : Frame) (c : Carried) (buffer : List ℕ)
      → Ordered (5 ∷ 5 ∷ 5 ∷ 7 ∷ 13 ∷ []) (write_checks f c buffer) (says_written (written_by f c buffer))
  pub writer-open : (buffer : List ℕ) → Ordered (13 ∷ []) (open_checks buffer) (says_opened (opened_by buffer))
  -- writing to the journal: 5, 13; reading from it: 14; 15, no byte for N; 16, N above 31; 15, words missing; 16, another N in word 2; 16, no preamble
  pub put-frame : (f : Frame) (buffer : List ℕ) → Ordered (5 ∷ 5 ∷ 13 ∷ []) (record_order f buffer) (says_kept (recorded_by f buffer))
  pub keep : (f : Frame) (buffer : List ℕ) → Ordered (5 ∷ 13 ∷ []) (keep_order f buffer) (says_kept (kept_by f buffer))
  pub recall : (bs : List ℕ) → Ordered (14 ∷ 15 ∷ 16 ∷ 15 ∷ 16 ∷ 16 ∷ []) (recall_order bs) (says_recalled (recalled_by bs))
  -- the journal that keeps the words: 17 last, for parity or carried bits; when moving, 13 after these
  pub keep-words : (f : Frame) (buffer : List ℕ) → Ordered (5 ∷ 13 ∷ []) (keep_words_order f buffer) (says_kept (kept_words f buffer))
  pub recall-words : (bs : List ℕ) → Ordered (14 ∷ 15 ∷ 16 ∷ 15 ∷ 16 ∷ 16 ∷ 17 ∷ []) (recall_words_order bs) (says_recalled (recalled_words bs))
  pub recall-either : (bs : List ℕ) → Ordered (14 ∷ 15 ∷ 16 ∷ 15 ∷ 16 ∷ 16 ∷ 17 ∷ []) (recall_either_order bs) (says_recalled (recalled_either bs))
  pub renew : (bs : List ℕ) (room : ℕ) → Ordered (14 ∷ 15 ∷ 16 ∷ 15 ∷ 16 ∷ 16 ∷ 13 ∷ []) (move_order New bs room) (says_moved (moved_by New bs room))
  pub restore : (bs : List ℕ) (room : ℕ)
      → Ordered (14 ∷ 15 ∷ 16 ∷ 15 ∷ 16 ∷ 16 ∷ 17 ∷ 13 ∷ []) (move_order Old bs room) (says_moved (moved_by Old bs room))
  -- the parts: a byte, a word, a header, a frame, a layout asked for, a count, an entry's place, an N, a frame of rows
  pub six-of : (b : ℕ) → Ordered (1 ∷ []) ((not (is_data b), 1) ∷ []) (says_six (six_of b))
  pub word-of : (c d : ℕ) → Ordered (5 ∷ 5 ∷ []) ((leb 4 c, 5) ∷ (leb (2 ^ 24) d, 5) ∷ []) (says_sent (word_of c d))
  pub health-of : (s : State) → Ordered (5 ∷ []) ((state_outside s, 5) ∷ []) (says_health_code (health_of s))
  pub header-words : (h : Header) (n : ℕ) → Ordered (5 ∷ 5 ∷ []) ((header_outside h, 5) ∷ (ltb 31 n, 5) ∷ []) (says_words (header_words h n))
  pub header-widths : (h : Header) → Ordered (5 ∷ []) ((header_outside h, 5) ∷ []) (says_widths (header_widths h))
  pub frame-widths : (f : Frame) → Ordered (5 ∷ []) ((outside f, 5) ∷ []) (says_widths (frame_widths f))
  pub clock-of : (z : ℕ) → Ordered (7 ∷ []) ((late z, 7) ∷ []) (says_clock (clock_of z))
  pub asked-of : (l : Layout) (kind : ℕ) → Ordered (6 ∷ []) ((other_layout l kind, 6) ∷ []) (says_asked (asked_of l kind))
  pub count-in : (l : Layout) (h w : ℕ) (f : Frame)
      → Ordered (5 ∷ 6 ∷ 7 ∷ 8 ∷ []) (read_order l f (misfit_after h w f.n) []) (says_count (count_after l h w f))
  pub entry-place : (l : Layout) (h w : ℕ) (f : Frame) (i : ℕ)
      → Ordered (5 ∷ 6 ∷ 7 ∷ 8 ∷ 9 ∷ []) (headed_order l h w f i []) (says_place (place_after l h w f i))
  pub size-of : (wanted n : ℕ) → Ordered (8 ∷ []) ((wrong_size wanted n, 8) ∷ []) (says_size (size_of wanted n))
  pub make-frame : (l : Layout) (most pattern : ℕ) (h : Header) (c : ℕ) (r : Rows)
      → Ordered (5 ∷ 6 ∷ 7 ∷ 12 ∷ entry_refusal l ∷ []) (made_order l most h c r.out) (says_made (made_by l most pattern h c r))
  -- the values of a record's numbers
  pub frequency-of : (e : Edition) (kind c : ℕ)
      → Ordered (6 ∷ 10 ∷ []) ((other_layout layout.Observation kind, 6) ∷ (ltb 3 c, 10) ∷ []) (says_frequency (frequency_of e kind c))
  pub phase-step : (e : Edition) (kind : ℕ) (m : Mark)
      → Ordered (6 ∷ 10 ∷ []) ((not (eqb kind 18), 6) ∷ (ltb 1 (mark_number e quantity.Phase m), 10) ∷ []) (says_step (phase_step e kind m))
  pub prc-mm : (scale : ℕ) (prc : ℤ) → Ordered (10 ∷ []) ((ltb 1 scale, 10) ∷ []) (says_distance (prc_mm scale prc))
  pub rrc-mm-s : (scale : ℕ) (rrc : ℤ) → Ordered (10 ∷ []) ((ltb 1 scale, 10) ∷ []) (says_rate (rrc_mm_s scale rrc))
  pub udre-limit : (s : State) (udre : ℕ) → Ordered (5 ∷ 10 ∷ []) ((state_outside s, 5) ∷ (ltb 3 udre, 10) ∷ []) (says_limit (udre_limit s udre))
  pub cn0-dbhz : (code : ℕ) → Ordered (10 ∷ []) ((ltb 31 code, 10) ∷ []) (says_strength (cn0_db_hz code))
  pub value-minutes : (code : ℕ) → Ordered (10 ∷ []) ((ltb 15 code, 10) ∷ []) (says_time (minutes_of code))
  pub z-tenths : (z : ℕ) → Ordered (5 ∷ 7 ∷ []) ((ltb 8191 z, 5) ∷ (late z, 7) ∷ []) (says_since_hour (z_tenths z))
  pub letter-of : (code : ℕ) → Ordered (11 ∷ []) ((no_letter code, 11) ∷ []) (says_letter (letter_of code))
  pub general-prc-mm : (prc : ℤ) → Ordered (10 ∷ []) ((outside14 prc, 10) ∷ []) (says_distance (general_prc_mm prc))
  pub delay-mm : (code : ℕ) → Ordered (10 ∷ []) ((ltb 4095 code, 10) ∷ []) (says_delay (delay_mm code))
  pub general-udre : (s : State) (udre : ℕ)
      → Ordered (5 ∷ 10 ∷ []) ((state_outside s, 5) ∷ (ltb 15 udre, 10) ∷ []) (says_general_limit (general_udre s udre))
  pub use-seconds : (code : ℕ) → Ordered (10 ∷ []) ((ltb 3 code, 10) ∷ []) (says_period (use_seconds code))
  -- reports of a season: adding 5, 18, 19, where either report can be the one with 5; a row 5, 9
  pub add-report : (a b : Report) → Ordered (5 ∷ 5 ∷ 18 ∷ 19 ∷ []) (add_order a b) (says_added (added_by a b))
  pub add-journal : (a : Report) (bs : List ℕ) → Ordered (5 ∷ 18 ∷ 19 ∷ []) (journal_order a bs) (says_journal (journal_added a bs))
  pub row-at : (a : Report) (i : ℕ) → Ordered (5 ∷ 9 ∷ []) ((report_out a, 5) ∷ (leb a.used i, 9) ∷ []) (says_row (row_numbered a i))
  -- text put into a buffer: 13
  pub print : (text : List ℕ) (place : ℕ) (buffer : List ℕ) → Ordered (13 ∷ []) (print_order text place buffer) (says_printed (printed_by text place buffer))
  -- a step of the mender: 13
  pub mend : (bs : List ℕ) (at : ℕ) (s : Bool) (output : List ℕ) → Ordered (13 ∷ []) (mend_order output) (says_mended (mend_by bs at s output))
  -- the listing
  pub put-line : (at : ℕ) (f : Frame) (out : List ℕ) → Ordered (5 ∷ 13 ∷ []) (line_order f out) (says_printed (line_put at f out))
  pub list-piece : (l : Listing) (bs : List ℕ) (room : ℕ) → Ordered (5 ∷ 3 ∷ 13 ∷ []) (piece_order l room) (says_answer (piece_by l bs room).answer)
  pub finish : (l : Listing) (room : ℕ) → Ordered (5 ∷ 3 ∷ 2 ∷ 13 ∷ []) (end_order l room) (says_answer (finish_by l room).answer)
