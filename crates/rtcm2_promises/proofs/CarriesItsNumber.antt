-- Each call's order is a law of its own (rtcm2/proofs); here it has the header's numbers. Assumes nothing.
use mathlib.Core.Path.{◌≡◌, refl, ap}
use mathlib.Core.Bool.{Bool, true, false, not, cond}
use mathlib.Core.List.{List, [], ◌∷◌, ◌++◌}
use Prim.Native.Nat.{ℕ}
use lib.Dec.{ltb}
use Rattle.answer.specs.Order.{refuses, answers, in_order}
use Rattle.answer.proofs.OrderLaws.{says-order}
use Rattle.bits.specs.Bits.{is_nonzero}
use Rattle.line.specs.Line.{is_data}
use Rattle.frame.specs.Widths.{any_of}
use Rattle.frame.specs.declared.System.TheVariants.{Gps}
use Rattle.reader.specs.Reading.{busy, stepped_by, fed_by}
use Rattle.reader.specs.Rows.{rows_order}
use Rattle.reader.specs.declared.Answer.TheVariants.{Done, Refused}
use Rattle.reader.specs.declared.Next.{Next}
use Rattle.journal.specs.Journal.{recall_order}
use Rattle.writer.specs.Answer.{open_checks}
use Rattle.record_values.specs.Values.{no_letter}
use Rattle.record_values.specs.GeneralValues.{outside14}
use Rattle.record_values.proofs.AnswerLaws.{prc-says, rrc-says, cn0-says, letter-says}
use Rattle.record_values.proofs.GeneralLaws.{general-prc-says, delay-says, use-says}
use Rattle.reader.specs.declared.Candidate.{Candidate}
use Rattle.rtcm2_state.specs.State.{state_in, put_checks, stored_by, says_stored}
use Rattle.rtcm2_state.specs.declared.Stored.TheVariants as stored
use Rattle.record_fields.specs.Coding.{Coding}
use Rattle.rtcm2_rows.specs.Rows.{put_order, put_by, says_put}
use Rattle.rtcm2_rows.specs.Tables.{table_row}
use Rattle.rtcm2_rows.specs.declared.row.Put.TheVariants as put
use Rattle.rtcm2_rows.specs.Corrections as correction
use Rattle.rtcm2_rows.specs.Observations as observation
use Rattle.rtcm2_rows.specs.Generals as general
use Rattle.rtcm2.proofs.ObservationOrders as observations-in-order
use Rattle.rtcm2.proofs.GeneralOrders as generals
use Rattle.rtcm2.specs.Generals.{head_of}
use Rattle.rtcm2.specs.Lists.{LibraryList}
use Rattle.rtcm2.specs.Line.{fed_in}
use Rattle.rtcm2.specs.Orders as orders
use Rattle.rtcm2.specs.ListOrders as list-order
use Rattle.rtcm2.specs.GeneralOrders as general-order
use Rattle.rtcm2.proofs.LineOrders.{held-order, start-order, counts-order, feed-all-order, read-order, end-order}
use Rattle.rtcm2.proofs.LineTaking.{take-order}
use Rattle.rtcm2.proofs.SendOrders.{open_order, write-order}
use Rattle.rtcm2.proofs.WordsOrders.{keep-words-order, restore-order}
use Rattle.rtcm2.proofs.ReadOrders as reads
use Rattle.rtcm2.proofs.MakeOrders as makes
use Rattle.rtcm2.proofs.ListOrders as lists
use Rattle.rtcm2.proofs.BeaconOrders.{profile-order, cut-order}
use Rattle.rtcm2.proofs.ValueOrders.{limit_order_lem, general-limit-order}
use Rattle.promises.specs.CarriesItsNumber.{check_numbers, outside_table, Ordered}
use Rattle.promises.proofs.CarriesItsNumber.{ordered, carries-its-number}
use Rattle.rtcm2_promises.specs.CarriesItsNumber.{after_record, ListNumbers, LibraryNumbers}
use Rattle.rtcm2_promises.proofs.LibraryLists.{Owed, each-list}

-- FEED: 5 for bytes that hold no state, 5, 3, 2, 1
feed-order : (state : List ℕ) (byte : ℕ) → fed_in state byte
    ≡ in_order (orders.held_order state (busy (state_in state) ++ ((not (is_data byte), 1) ∷ []))) refuses
    (answers (record { answer = Done; reader = stepped_by (state_in state) byte }))
unfolding fed_in fed_by
feed-order state byte =
    held-order (λ (x : Next). x.answer) (λ r. fed_by r byte) state (busy (state_in state) ++ ((not (is_data byte), 1) ∷ []))
    (λ n. record { answer = Refused n; reader = state_in state }) (record { answer = Done; reader = stepped_by (state_in state) byte })
    (λ n. refl) refl refl

-- ---- the three calls on a list

-- 10 where reading has it
range-numbers : (b x y : Bool) → ◌≡◌ {A = List ℕ} (check_numbers (cond b ((x, 10) ∷ []) [] ++ ((y, 13) ∷ []))) (cond b (10 ∷ 13 ∷ []) (13 ∷ []))
range-numbers true x y = refl
range-numbers false x y = refl

range-table : (b : Bool) → any_of outside_table (after_record (6 ∷ 7 ∷ 8 ∷ 9 ∷ cond b (10 ∷ 13 ∷ []) (13 ∷ []))) ≡ false
range-table true = refl
range-table false = refl

list-numbers : (L : LibraryList) → Owed L → ListNumbers L
list-numbers L o = record {
  count = λ bs fits. ordered (list-order.count_order L bs) _ (lists.count-order L o.plain bs fits) refl refl;
  entry = λ bs fits i lent.
      ordered (list-order.entry_order L bs i lent) _ (lists.entry-order L o.plain bs fits i lent)
      (ap (λ ns. after_record (6 ∷ 7 ∷ 8 ∷ 9 ∷ ns)) (range-numbers L.plain.ranged _ _)) (range-table L.plain.ranged);
  make = λ kind station z sequence code bs buffer.
      ordered (list-order.list_order L kind station z sequence code bs buffer) _
      (lists.list-made L o.plain kind station z sequence code bs buffer) refl refl;
}

-- an entry as a row of bytes: 13
pub put-ordered : {A : Type 0} (row : Coding A) (lent : List ℕ) → Ordered (13 ∷ []) (put_order row lent) (says_put (put_by row lent))
put-ordered row lent = ordered (put_order row lent) _ (says-order says_put put.Refused (λ n. refl) put.Done (put_order row lent) refl) refl refl

-- a state as bytes: 5, 13
pub put-stored : (c : Candidate) (bytes : List ℕ) → Ordered (5 ∷ 13 ∷ []) (put_checks c bytes) (says_stored (stored_by c bytes))
put-stored c bytes = ordered (put_checks c bytes) _ (says-order says_stored stored.Refused (λ n. refl) stored.Done (put_checks c bytes) refl) refl refl

pub library-numbers : LibraryNumbers
library-numbers = record {
  start = λ state. ordered (orders.started_order state) _ (start-order state) refl refl;
  counts = λ state. ordered (orders.held_order state []) _ (counts-order state) refl refl;
  feed = λ state byte. ordered (orders.held_order state (busy (state_in state) ++ ((not (is_data byte), 1) ∷ []))) _ (feed-order state byte) refl refl;
  feed-all = λ state bs. ordered (orders.held_order state (busy (state_in state))) _ (feed-all-order state bs) refl refl;
  line_read = λ state bytes rows. ordered (orders.held_order state (rows_order (state_in state) rows)) _ (read-order state bytes rows) refl refl;
  line-end = λ state. ordered (orders.held_order state (busy (state_in state))) _ (end-order state) refl refl;
  line-take = λ state frame. ordered (orders.take_order state frame) _ (take-order state frame) refl refl;
  line-open = λ line. ordered (open_checks line) _ (open_order line) refl refl;
  write = λ bs fits d29 d30 line. ordered (orders.write_order bs d29 d30 line) _ (write-order bs fits d29 d30 line) refl refl;
  keep = λ kind station z sequence code bs buffer.
      ordered (orders.kept_order kind station z sequence code bs buffer) _ (makes.keep-order kind station z sequence code buffer bs) refl refl;
  recall = λ bs. ordered (recall_order bs) _ (reads.recall-order bs) refl refl;
  keep-words = λ bs fits d29 d30 words. ordered (orders.keep_words_order bs d29 d30 words) _ (keep-words-order bs fits d29 d30 words) refl refl;
  recall-words = λ bs frame. ordered (orders.restore_order bs frame) _ (restore-order bs frame) refl refl;
  lists = each-list list-numbers;
  count-observations = λ bs fits. ordered (orders.observations_counted bs) _ (observations-in-order.observations-counted bs fits) refl refl;
  read-epoch = λ bs fits. ordered (orders.epoch_order bs) _ (observations-in-order.epoch-order bs fits) refl refl;
  observation-at = λ e bs fits i lent. ordered (orders.observation_order e bs i lent) _ (observations-in-order.observation-row-order bs fits e i lent) refl refl;
  make-observations = λ kind station z sequence code e f s t bs buffer.
      ordered (orders.observations_order kind station z sequence code e (record { frequency = f; smoothing = s; time = t }) bs buffer) _
      (observations-in-order.observations-made kind station z sequence code e (record { frequency = f; smoothing = s; time = t }) bs buffer) refl refl;
  read-position = λ bs fits. ordered (orders.position_order bs) _ (reads.position-order bs fits) refl refl;
  make-position = λ kind station z sequence code x y up buffer.
      ordered (orders.position_made_order kind station z sequence code (record { x = x; y = y; z = up }) buffer) _
      (makes.position-made kind station z sequence code buffer x y up) refl refl;
  count-generals = λ bs fits. ordered (general-order.generals_order bs) _ (generals.generals-counted bs fits) refl refl;
  read-head = λ bs fits. ordered (general-order.generals_order bs) _ (generals.head-order bs fits) refl refl;
  general-at = λ bs fits i lent. ordered (general-order.general_order bs i lent) _ (generals.general-row-order bs fits i lent) refl refl;
  make-generals = λ kind station z sequence code system signal ephemeris period ionosphere bs buffer.
      let a = head_of system signal ephemeris period ionosphere in
      ordered (general-order.generals_made_order kind station z sequence code a bs buffer) _
      (generals.generals-made kind station z sequence code a bs buffer) refl refl;
  read-general-null = λ bs fits. ordered (general-order.general_null_order bs) _ (generals.general-null-order bs fits) refl refl;
  make-general-null = λ kind station z sequence code n system buffer.
      ordered (general-order.general_null_made_order kind station z sequence code n system buffer) _
      (generals.general-null-made kind station z sequence code n system buffer) refl refl;
  check-profile = λ bs fits. ordered (orders.profile_read_order bs) _ (profile-order bs fits) refl refl;
  cut-corrections = λ kind station z sequence code bs buffer.
      ordered (orders.cut_kept_order kind station z sequence code bs buffer) _ (cut-order kind station z sequence code bs buffer) refl refl;
  read-null = λ bs fits. ordered (orders.null_order bs) _ (reads.null_order_lem bs fits) refl refl;
  make-null = λ kind station z sequence code n buffer.
      ordered (orders.null_made_order kind station z sequence code n buffer) _ (makes.null-made kind station z sequence code buffer n) refl refl;
  read-text = λ bs fits buffer. ordered (orders.text_read_order bs buffer) _ (reads.text-order bs fits buffer) refl refl;
  make-text = λ kind station z sequence code t buffer.
      ordered (orders.text_made_order kind station z sequence code t buffer) _ (makes.text-made kind station z sequence code buffer t) refl refl;
  prc-mm = λ scale prc. ordered ((ltb 1 scale, 10) ∷ []) _ (prc-says scale prc) refl refl;
  rrc-mm-s = λ scale rrc. ordered ((ltb 1 scale, 10) ∷ []) _ (rrc-says scale rrc) refl refl;
  stops = λ prc rrc. ordered [] _ refl refl refl;
  udre-limit-mm = λ code udre. ordered (orders.limit_order code udre) _ (limit_order_lem code udre) refl refl;
  cn0-dbhz = λ code. ordered ((ltb 31 code, 10) ∷ []) _ (cn0-says code) refl refl;
  letter-of = λ code. ordered ((no_letter code, 11) ∷ []) _ (letter-says code) refl refl;
  general-prc-mm = λ prc. ordered ((outside14 prc, 10) ∷ []) _ (general-prc-says prc) refl refl;
  delay-mm = λ delay. ordered ((ltb 4095 delay, 10) ∷ []) _ (delay-says delay) refl refl;
  general-udre = λ code udre. ordered (general-order.general_limit_order code udre) _ (general-limit-order code udre) refl refl;
  use-seconds = λ code. ordered ((ltb 3 code, 10) ∷ []) _ (use-says code) refl refl;
  remainder = λ window. ordered [] _ refl refl refl;
  mend = λ bs at searching report. carries-its-number.mend bs at (is_nonzero searching) report;
  put-start = put-stored;
  put-state = λ r bytes. put-stored r.candidate bytes;
  put-observation = put-ordered observation.row;
  put-general = put-ordered general.row;
  put-correction = put-ordered (correction.row Gps);
  put-numbers = λ sizes. put-ordered (table_row sizes);
}
