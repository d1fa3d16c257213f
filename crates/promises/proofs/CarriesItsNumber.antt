-- Every order is read by `in_order`, so one law serves them all. Assumes nothing.
use mathlib.Core.Path.{◌≡◌, refl, sym, subst, ◌∙◌}
use mathlib.Core.Bool.{Bool, true, false, not, cond}
use mathlib.Core.Logic.{◌⊎◌, inl, inr}
use mathlib.Core.List.{List, [], ◌∷◌, ◌++◌}
use Prim.Native.Nat.{ℕ, ◌*◌}
use native.Mathlib.Omega.{arith}
use lib.ListN.{get_or}
use lib.Dec.{ltb, eqb}
use Rattle.answer.specs.Order.{Says, refuses, answers, Check, in_order, NoneApplies, FirstIs}
use Rattle.answer.proofs.OrderLaws.{order-answers, order-refuses, order-map, first_or_none, refuses-apart, says-order}
use Rattle.line.specs.Answer.{says_six}
use Rattle.word.specs.Answer.{says_sent}
use Rattle.frame.specs.Layout.{layout_number}
use Rattle.frame.specs.Frames.{blank}
use Rattle.frame.specs.Widths.{any_of, state_outside, late}
use Rattle.frame.specs.Answer.{says_health_code, says_words, says_widths, says_clock}
use Rattle.frame.specs.Layout.{system_of}
use Rattle.frame.specs.declared.Layout.{Layout}
use Rattle.frame.specs.declared.Layout.TheVariants as layout
use Rattle.reader.specs.Reading.{fed_by, fed_all_by, ended_by, taken_by, says_answer}
use Rattle.reader.specs.Rows.{no_rows, rows_by}
use Rattle.reader.specs.declared.Answer.TheVariants.{Refused}
use Rattle.reader.specs.declared.Next.{Next}
use Rattle.reader.specs.declared.FedAll.{FedAll}
use Rattle.reader.specs.declared.Taken.{Taken}
use Rattle.reader.specs.declared.rows.RowsRead.{RowsRead}
use Rattle.writer.specs.Answer.{says_opened, says_written}
use Rattle.writer.specs.declared.Opened.TheVariants as opened
use Rattle.writer.specs.declared.Written.TheVariants as written
use Rattle.journal.specs.Journal.{refused_recall, recall_order, recalled_by, says_kept, says_recalled}
use Rattle.journal.specs.Words.{recall_words_order, recalled_words, keeps_words}
use Rattle.journal.specs.declared.Kept.TheVariants as kept
use Rattle.journal_moves.specs.Moving.{says_moved}
use Rattle.journal_moves.specs.declared.Moved.TheVariants as moved
use Rattle.record_stages.specs.Stages.{other_layout, entry_refusal, refused_made, done_made, says_asked, says_size, says_count, says_place, says_made}
use Rattle.record_stages.specs.Lists.{ListLayout, said_at, at_order}
use Rattle.record_positions.specs.Positions.{read_position, make_position, says_position_read}
use Rattle.record_nulls.specs.Nulls.{read_null, make_null, says_null_read}
use Rattle.record_texts.specs.Texts.{read_text, make_text}
use Rattle.record_stages.specs.declared.Count.TheVariants as count
use Rattle.record_positions.specs.declared.PositionRead.TheVariants as position
use Rattle.record_nulls.specs.declared.NullRead.TheVariants as null
use Rattle.record_stages.specs.declared.Asked.TheVariants.{Same, Other}
use Rattle.record_stages.specs.declared.Place.TheVariants as place
use Rattle.record_stages.specs.declared.Size.TheVariants.{Right, Wrong}
use Rattle.record_observations.specs.Editions.{quantity_of, mark_number}
use Rattle.record_observations.specs.Observations.{count_observations, read_epoch, observation_at, make_observations, says_epoch_read, says_observation_read}
use Rattle.record_observations.specs.Meanings.{band_of, step_of}
use Rattle.record_observations.specs.declared.Quantity.TheVariants as quantity
use Rattle.record_observations.specs.declared.EpochRead.TheVariants as epoch
use Rattle.record_observations.specs.declared.ObservationRead.TheVariants as observation
use Rattle.profile.specs.declared.Profile.TheVariants as profile
use Rattle.profile.specs.Profile.{check_profile, says_profile}
use Rattle.profile.specs.Cutting.{cut_order}
use Rattle.profile.proofs.Said.{cut-said}
use Rattle.season_reports.specs.Reports.{refused_add, added_by, journal_added, row_numbered, says_added, says_journal, says_row}
use Rattle.season_reports.specs.declared.Adding.TheVariants as adding
use Rattle.season_reports.specs.declared.RowRead.TheVariants as row_read
use Rattle.record_values.specs.Values.{prc_value, rrc_value, udre_value, cn0_value, no_letter, letter_value}
use Rattle.record_generals.specs.Generals.{count_generals, read_head, general_at, make_generals, says_head_read, says_general_read}
use Rattle.record_generals.specs.GeneralNulls.{read_general_null, make_general_null, says_general_null_read}
use Rattle.record_generals.specs.declared.HeadRead.TheVariants as head
use Rattle.record_generals.specs.declared.GeneralRead.TheVariants as general
use Rattle.record_generals.specs.declared.GeneralNullRead.TheVariants as general-null
use Rattle.record_values.specs.GeneralValues.{general_prc_value, outside14, delay_value, general_udre_value, seconds_of_use}
use Rattle.record_values.proofs.GeneralLaws.{general-prc-says, delay-says, general-udre-says, use-says}
use Rattle.record_values.proofs.AnswerLaws.{prc-says, rrc-says, udre-says, cn0-says, minutes-says, z-says, letter-says}
use Rattle.printing.specs.Printing.{printed_by, says_printed}
use Rattle.listing.specs.Listing.{piece_by, finish_by, line_put}
use Rattle.mender.specs.Steps.{refused_mend, says_mended}
use Rattle.listing.specs.Listing as listing
use Rattle.listing.specs.declared.Listed.{Listed}
use Rattle.promises.proofs.MeaningLaws.{frequency-says, step-says}
use Rattle.record_laws.proofs.PlainLists.{OwedList}
use Rattle.promises.specs.RecordLayouts.{list_of}
use Rattle.promises.specs.CarriesItsNumber.{check_numbers, outside_table, Ordered, ListOrders, CarriesItsNumber}
use Rattle.promises.proofs.RecordLayouts.{owed-of}
use Rattle.answer.specs.Table.{refused, granted}

number-inj : {A : Type 0} (m n : ℕ) → ◌≡◌ {A = Says A} (refuses m) (refuses n) → m ≡ n
number-inj m n e = cc

-- what an order says is its first number or its value
pub ordered : {A : Type 0} {numbers : List ℕ} (cs : List Check) {s : Says A} (value : A) → s ≡ in_order cs refuses (answers value)
    → check_numbers cs ≡ numbers → any_of outside_table numbers ≡ false → Ordered numbers cs s
ordered {A} {numbers} cs {s} value e numbered table = record {
  numbered = numbered;
  table = table;
  answered = λ none. (value, e ∙ order-answers refuses (answers value) cs none);
  refused = λ n first. e ∙ order-refuses refuses (answers value) cs n first;
  only = λ n h. go n h (first_or_none cs);
}
  where
    go : (n : ℕ) → s ≡ refuses n → NoneApplies cs ⊎ ((m : ℕ) × FirstIs cs m) → FirstIs cs n
    go n h (inl none) = absurd (refuses-apart n value (sym h ∙ e ∙ order-answers refuses (answers value) cs none))
    go n h (inr (m, first)) = subst (FirstIs cs) (number-inj m n (sym (e ∙ order-refuses refuses (answers value) cs m first) ∙ h)) first

-- the same through an answer's own type
told : {A X : Type 0} {numbers : List ℕ} {cs : List Check} (says : X → Says A) (refuse : ℕ → X) (answer : X) (value : A)
    → in_order cs (λ n. says (refuse n)) (says answer) ≡ in_order cs refuses (answers value)
    → check_numbers cs ≡ numbers → any_of outside_table numbers ≡ false → Ordered numbers cs (says (in_order cs refuse answer))
told {cs} says refuse answer value e numbered table = ordered cs value (order-map says cs refuse answer ∙ e) numbered table

-- a record of either form, by its form
either-told : (bs : List ℕ) (words : Bool)
    → Ordered (14 ∷ 15 ∷ 16 ∷ 15 ∷ 16 ∷ 16 ∷ 17 ∷ []) (cond words (recall_words_order bs) (recall_order bs ++ ((false, 17) ∷ [])))
    (says_recalled (cond words (recalled_words bs) (recalled_by bs)))
either-told bs true = told says_recalled refused_recall _ _ refl refl refl
either-told bs false = told says_recalled refused_recall _ _ refl refl refl

-- a plain list layout
list-orders : (L : ListLayout) → OwedList L → ListOrders L
unfolding refused_made done_made
list-orders L o = record {
  count = λ f. told says_count count.Refused _ _ refl refl refl;
  entry = λ f i.
      let e = said_at L f i in
      ordered (at_order L f i) e (says-order L.says L.refused o.says-refused (L.entry e) (at_order L f i) (o.says-entry e))
      (ranged L.ranged (L.out (system_of f.header.kind) e)) (in_table L.ranged);
  make = λ h es c. told says_made refused_made _ _ refl refl refl;
}
  where
    ranged : (b x : Bool)
        → ◌≡◌ {A = List ℕ} (5 ∷ 6 ∷ 7 ∷ 8 ∷ 9 ∷ check_numbers (cond b ((x, 10) ∷ []) [])) (5 ∷ 6 ∷ 7 ∷ 8 ∷ 9 ∷ cond b (10 ∷ []) [])
    ranged true x = refl
    ranged false x = refl

    in_table : (b : Bool) → any_of outside_table (5 ∷ 6 ∷ 7 ∷ 8 ∷ 9 ∷ cond b (10 ∷ []) []) ≡ false
    in_table true = refl
    in_table false = refl

-- the numbers of making are of the table, for every layout
entry-numbered : (l : Layout) → any_of outside_table (5 ∷ 6 ∷ 7 ∷ 12 ∷ entry_refusal l ∷ []) ≡ false
entry-numbered l = go (eqb (layout_number l) (layout_number layout.Text))
  where
    go : (b : Bool) → any_of outside_table (5 ∷ 6 ∷ 7 ∷ 12 ∷ cond b 11 10 ∷ []) ≡ false
    go true = refl
    go false = refl

pub carries-its-number : CarriesItsNumber
unfolding fed_by fed_all_by ended_by taken_by rows_by read_position make_position
    count_observations read_epoch observation_at make_observations count_generals read_head general_at make_generals read_general_null make_general_null
    read_null make_null read_text make_text check_profile refused_made done_made printed_by piece_by
    finish_by line_put added_by journal_added row_numbered
carries-its-number = record {
  feed = λ r b. told (λ (x : Next). says_answer x.answer) (λ n. record { answer = Refused n; reader = r }) _ tt refl refl refl;
  feed-all = λ r bs. told (λ (x : FedAll). says_answer x.answer) (λ n. record { answer = Refused n; used = 0; passed = 0; reader = r }) _ tt refl refl refl;
  reader-end = λ r. told (λ (x : Next). says_answer x.answer) (λ n. record { answer = Refused n; reader = r }) _ tt refl refl refl;
  reader-take = λ r. told (λ (x : Taken). says_answer x.answer) (λ n. record { answer = Refused n; at = 0; frame = blank; reader = r }) _ tt refl refl refl;
  read-rows = λ r bytes rows. told (λ (x : RowsRead). says_answer x.answer) (no_rows r) _ tt refl refl refl;
  lists = λ l. list-orders (list_of l) (owed-of l);
  count-observations = λ f. told says_count count.Refused _ _ refl refl refl;
  read-epoch = λ f. told says_epoch_read epoch.Refused _ _ refl refl refl;
  observation-at = λ e f i. told says_observation_read observation.Refused _ _ refl refl refl;
  count-generals = λ f. told says_count count.Refused _ _ refl refl refl;
  read-head = λ f. told says_head_read head.Refused _ _ refl refl refl;
  general-at = λ f i. told says_general_read general.Refused _ _ refl refl refl;
  read-general-null = λ f. told says_general_null_read general-null.Refused _ _ refl refl refl;
  read-position = λ f. told says_position_read position.Refused _ _ refl refl refl;
  read-null = λ f. told says_null_read null.Refused _ _ refl refl refl;
  read-text = λ f buffer. told says_count count.Refused _ _ refl refl refl;
  make-observations = λ e h a os c. told says_made refused_made _ _ refl refl refl;
  make-generals = λ h a gs c. told says_made refused_made _ _ refl refl refl;
  make-general-null = λ h n s. told says_made refused_made _ _ refl refl refl;
  make-position = λ h p. told says_made refused_made _ _ refl refl refl;
  make-null = λ h n. told says_made refused_made _ _ refl refl refl;
  make-text = λ h t. told says_made refused_made _ _ refl refl refl;
  check-profile = λ f. told says_profile profile.Refused profile.Inside tt refl refl refl;
  cut-corrections = λ h es c. ordered (cut_order h es c) _ (cut-said h es c) refl refl;
  write = λ f c buffer. told says_written written.Refused _ _ refl refl refl;
  writer-open = λ buffer. told says_opened opened.Refused _ _ refl refl refl;
  put-frame = λ f buffer. told says_kept kept.Refused _ _ refl refl refl;
  keep = λ f buffer. told says_kept kept.Refused _ _ refl refl refl;
  recall = λ bs. told says_recalled refused_recall _ _ refl refl refl;
  keep-words = λ f buffer. told says_kept kept.Refused _ _ refl refl refl;
  recall-words = λ bs. told says_recalled refused_recall _ _ refl refl refl;
  recall-either = λ bs. either-told bs (keeps_words bs);
  renew = λ bs room. told says_moved moved.Refused _ _ refl refl refl;
  restore = λ bs room. told says_moved moved.Refused _ _ refl refl refl;
  six-of = λ b. told says_six refused _ _ refl refl refl;
  word-of = λ c d. told says_sent refused _ _ refl refl refl;
  health-of = λ s. told says_health_code refused _ _ refl refl refl;
  header-words = λ h n. told says_words refused _ _ refl refl refl;
  header-widths = λ h. told says_widths (λ n. (refused 5)) granted tt refl refl refl;
  frame-widths = λ f. told says_widths (λ n. (refused 5)) granted tt refl refl refl;
  clock-of = λ z. told says_clock (λ n. (refused 7)) granted tt refl refl refl;
  asked-of = λ l kind. told says_asked (λ n. Other) Same tt refl refl refl;
  count-in = λ l h w f. told says_count count.Refused _ _ refl refl refl;
  entry-place = λ l h w f i. told says_place place.Refused _ _ refl refl refl;
  size-of = λ wanted n. told says_size (λ m. Wrong) Right tt refl refl refl;
  make-frame = λ l most pattern h c r. told says_made refused_made _ _ refl refl (entry-numbered l);
  frequency-of = λ e kind c.
      ordered ((other_layout layout.Observation kind, 6) ∷ (ltb 3 c, 10) ∷ []) (band_of e (quantity_of kind) c) (frequency-says e kind c) refl refl;
  phase-step = λ e kind m.
      ordered ((not (eqb kind 18), 6) ∷ (ltb 1 (mark_number e quantity.Phase m), 10) ∷ []) (step_of m) (step-says e kind m) refl refl;
  prc-mm = λ scale prc. ordered ((ltb 1 scale, 10) ∷ []) (prc_value scale prc) (prc-says scale prc) refl refl;
  rrc-mm-s = λ scale rrc. ordered ((ltb 1 scale, 10) ∷ []) (rrc_value scale rrc) (rrc-says scale rrc) refl refl;
  udre-limit = λ s udre. ordered ((state_outside s, 5) ∷ (ltb 3 udre, 10) ∷ []) (udre_value s udre) (udre-says s udre) refl refl;
  cn0-dbhz = λ code. ordered ((ltb 31 code, 10) ∷ []) (cn0_value code) (cn0-says code) refl refl;
  value-minutes = λ code. ordered ((ltb 15 code, 10) ∷ []) (5 * code) (minutes-says code) refl refl;
  z-tenths = λ z. ordered ((ltb 8191 z, 5) ∷ (late z, 7) ∷ []) (6 * z) (z-says z) refl refl;
  letter-of = λ code. ordered ((no_letter code, 11) ∷ []) (letter_value code) (letter-says code) refl refl;
  general-prc-mm = λ prc. ordered ((outside14 prc, 10) ∷ []) (general_prc_value prc) (general-prc-says prc) refl refl;
  delay-mm = λ code. ordered ((ltb 4095 code, 10) ∷ []) (delay_value code) (delay-says code) refl refl;
  general-udre = λ s udre. ordered ((state_outside s, 5) ∷ (ltb 15 udre, 10) ∷ []) (general_udre_value s udre) (general-udre-says s udre) refl refl;
  use-seconds = λ code. ordered ((ltb 3 code, 10) ∷ []) (get_or seconds_of_use code 0) (use-says code) refl refl;
  add-report = λ a b. told says_added (refused_add a) _ _ refl refl refl;
  add-journal = λ a bs. told says_journal (λ n. record { answer = adding.Refused n; report = a; used = 0 }) _ _ refl refl refl;
  row-at = λ a i. told says_row row_read.Refused _ _ refl refl refl;
  print = λ text place buffer. told says_printed refused _ _ refl refl refl;
  put-line = λ at f out. told says_printed refused _ _ refl refl refl;
  mend = λ bs at s output. told says_mended refused_mend _ _ refl refl refl;
  list-piece = λ l bs room. told (λ (x : Listed). says_answer x.answer) (listing.refused_listing l) _ _ refl refl refl;
  finish = λ l room. told (λ (x : Listed). says_answer x.answer) (listing.refused_listing l) _ _ refl refl refl;
}

-- ---- back from what a call says

pub says-inj : {A : Type 0} {v w : A} → answers v ≡ answers w → v ≡ w
says-inj e = cc

-- where an order answers none of its checks applies
pub none_told : {A : Type 0} {numbers : List ℕ} {cs : List Check} {s : Says A} → Ordered numbers cs s → (v : A) → s ≡ answers v → NoneApplies cs
none_told {cs} {s} o v e = go (first_or_none cs)
  where
    go : NoneApplies cs ⊎ ((n : ℕ) × FirstIs cs n) → NoneApplies cs
    go (inl none) = none
    go (inr (n, first)) = let told = o.refused n first in let z : ◌≡◌ {A = ℕ} 0 1 = cc (told, e) in absurd (omega arith)
