-- Observations that the library makes read back in their edition: the head, and each row's own bytes. Assumes nothing.
use mathlib.Core.Path.{◌≡◌, refl, sym, ap, subst, ◌∙◌}
use mathlib.Core.Bool.{Bool, true, false, ◌||◌}
use mathlib.Core.List.{List, [], ◌∷◌, ◌++◌}
use Prim.Native.Nat.{ℕ, ◌+◌, ◌*◌, ◌^◌, ◌≤◌, ◌<◌}
use native.Mathlib.Omega.{arith}
use lib.Dec.{ltb}
use lib.ListN.{length, take, drop, get_or, length-drop, length-take}
use lib.Seq.{take_all, get_or-take}
use borrow.Author.Tests.{le-ltb}
use Rattle.answer.specs.Order.{Says, refuses, answers}
use Rattle.answer.proofs.OrderLaws.{refuses-apart}
use Rattle.bits.specs.Rows.{words_in}
use Rattle.bits.specs.Fields.{AreBytes, Fit, octets}
use Rattle.bits.proofs.FieldLaws.{fit-take, fit-drop}
use Rattle.frame.specs.Frames.{framed}
use Rattle.frame.specs.Widths.{any_of}
use Rattle.frame.proofs.WidthLaws.{both_false}
use Rattle.frame.specs.declared.Frame.{Frame}
use Rattle.frame.specs.declared.Header.{Header}
use Rattle.frame.specs.declared.Layout.TheVariants as layout
use Rattle.record_fields.specs.Coding.{entry_bits, frame_after, Each}
use Rattle.record_stages.specs.Stages.{wrong_count, make_order, says_count, says_made}
use Rattle.record_stages.proofs.ListCode.{told-some-few}
use Rattle.record_laws.proofs.SentLaws.{told-entry}
use Rattle.record_observations.specs.declared.Edition.{Edition}
use Rattle.record_observations.specs.declared.Quantity.{Quantity}
use Rattle.record_observations.specs.declared.Epoch.{Epoch}
use Rattle.record_observations.specs.declared.Observation.{Observation}
use Rattle.record_observations.specs.Editions.{quantity_of}
use Rattle.record_observations.specs.Observations as observation
use Rattle.rtcm2_rows.specs.Rows.{count_of, entry_of, entries_from, row_after}
use Rattle.rtcm2_rows.specs.Observations.{row, four_bytes}
use Rattle.rtcm2_rows.proofs.RowLaws.{entry_at, count_held, length-entries}
use Rattle.rtcm2_rows.proofs.Trips.{byte_small, each_read}
use Rattle.rtcm2_rows.proofs.ObservationRows.{named_again, sent-named, measured-typed}
use Rattle.rtcm2.specs.Answer.{and_then}
use Rattle.rtcm2.specs.Header.{headed}
use Rattle.rtcm2.specs.Frames.{frame_said, kept_to}
use Rattle.rtcm2.specs.Rows.{row_to, row_held}
use Rattle.rtcm2.specs.Observations.{edition_named, edition_said, count_said, epoch_said, entry_said, rows_made, made_said}
use Rattle.rtcm2.specs.Orders.{header_with}
use Rattle.promises.specs.ReadsBack.{ObservationsBack}
use Rattle.promises.proofs.CarriesItsNumber.{carries-its-number, none_told}
use Rattle.promises.proofs.Demand2.{reads-back-equal}
use Rattle.rtcm2_promises.specs.ReadsBack.{GivesBack, RowsBack}
use Rattle.rtcm2_promises.proofs.Framed.{framed-by}
use Rattle.rtcm2_promises.proofs.KeptBack.{gives_back}

-- what bytes say is of its types
entry-typed : (bs : List ℕ) → AreBytes bs → observation.Typed (entry_of row bs)
entry-typed bs b =
    measured-typed (get_or vs 7 0) (get_or vs 6 0) (four_bytes vs 8)
    (four (get_or vs 8 0) (get_or vs 9 0) (get_or vs 10 0) (get_or vs 11 0) (small 8) (small 9) (small 10) (small 11))
  where
    vs : List ℕ
    vs = take 12 bs

    small : (j : ℕ) → get_or vs j 0 < 256
    small j = byte_small vs j (fit-take 12 bs b)

    four : (a b c d : ℕ) → a < 256 → b < 256 → c < 256 → d < 256 → a + 256 * (b + 256 * (c + 256 * d)) < 2 ^ 32
    four a b c d ha hb hc hd = omega arith

module _ (x : Edition) (h : Header) (a : Epoch) (rows : List ℕ) (b : AreBytes rows) where
  abbrev all : List Observation
  all = entries_from row 15 rows

  abbrev c : ℕ
  c = count_of 12 (length rows)

  abbrev q : Quantity
  q = quantity_of h.kind

  abbrev none : Observation
  none = entry_of row []

  whole : (f : Frame) → says_made (observation.make_observations x h a all c) ≡ answers f → (ws : List ℕ) × (framed h ws ≡ f)
  unfolding observation.make_observations frame_after
  whole =
      framed-by (make_order layout.Observation h
      ((wrong_count 15 c, 12) ∷ (observation.epoch_out a || any_of (observation.out_of_range x q) (take c all), 10) ∷ [])) h
      (words_in 0 (observation.epoch_bits a ++ entry_bits (observation.coding x q) (take c all))) (observation.make_observations x h a all c) refl

  typed : Each observation.Typed all
  typed = subst (Each observation.Typed) (take_all 15 all (omega (arith, length-entries row 15 rows)))
      (each_read row observation.Typed entry-typed 15 15 rows b)

  module _ (f : Frame) (e : says_made (observation.make_observations x h a all c) ≡ answers f) where
    few : c ≤ 15
    few = (told-some-few c 15 (none_told (carries-its-number.make-observations x h a all c) f e).1.1.1.0).1

    back : ObservationsBack x h a all c none f
    back = reads-back-equal.observations x h a all c none f (length-entries row 15 rows) typed e

    -- each satellite was in range, so its bytes name a mark and a number
    in-range : (i : ℕ) → i < c → observation.out_of_range x q (entry_of row (drop (i * 12) rows)) ≡ false
    in-range i l =
        ap (observation.out_of_range x q) (sym (get_or-take c all i none l ∙ entry_at row 15 rows i none (omega (arith, few))))
        ∙ told-entry (observation.out_of_range x q) (take c all) none i
        (both_false (observation.epoch_out a) (any_of (observation.out_of_range x q) (take c all))
        (none_told (carries-its-number.make-observations x h a all c) f e).1.1.1.1.0).1
        (omega (arith, length-take c all, length-entries row 15 rows, few))

    room : (i : ℕ) → i < c → i * 12 + 12 ≤ length rows
    room i l = omega (arith, count_held 12 (length rows))

    put : (i : ℕ) (lent : List ℕ) → i < c → 12 ≤ length lent
        → row_after row (entry_of row (drop (i * 12) rows)) lent ≡ take 12 (drop (i * 12) rows) ++ drop 12 lent
    put i lent l long = rw (le-ltb (length lent) 12 long)
        (ap (λ v. v ++ drop 12 lent) (named_again (take 12 (drop (i * 12) rows)) fits (sent-named x q (take 12 (drop (i * 12) rows)) (in-range i l))))
      where
        twelve : length (take 12 (drop (i * 12) rows)) ≡ 12
        twelve = omega (arith, length-take 12 (drop (i * 12) rows), length-drop (i * 12) rows, room i l)

        fits : Fit (octets 12) (take 12 (drop (i * 12) rows))
        fits =
            subst (λ n. Fit (octets n) (take 12 (drop (i * 12) rows))) twelve (fit-take 12 (drop (i * 12) rows) (fit-drop (i * 12) rows b))

    rows_back : RowsBack row rows (says_count (observation.count_observations f))
        (λ i. observation.says_observation_read (observation.observation_at x f i))
    rows_back = record {
      counts = back.counted;
      answered = λ i lent l long. ap (λ s. row_to row s lent) (back.each i l) ∙ rw (le-ltb (length lent) 12 long);
      each = λ i lent l long.
          ap (λ s. row_held row s lent) (back.each i l ∙ ap answers (entry_at row 15 rows i none (omega (arith, few)))) ∙ put i lent l long;
    }

-- what reads back of bytes: the head, and the rows in the edition
abbrev Reads : ℕ → Epoch → List ℕ → List ℕ → Type 0
Reads e a rows bytes = (epoch_said (frame_said bytes) ≡ answers a) × RowsBack row rows (count_said (frame_said bytes)) (entry_said e (frame_said bytes))

module _ (kind station z sequence code e : ℕ) (a : Epoch) (rows : List ℕ) (b : AreBytes rows) where
  abbrev H : Header
  H = header_with kind station z sequence code

  abbrev made : Says Frame
  made = made_said e (headed kind station z sequence code) a.frequency a.smoothing a.time rows

  -- an edition that is named
  named : edition_said e ≡ answers (edition_named e) → GivesBack kind station z sequence code made (Reads e a rows)
  named ed =
      subst (λ v. GivesBack kind station z sequence code
      (and_then v (λ x. and_then (headed kind station z sequence code) (λ h. rows_made x h a rows))) (Reads e a rows))
      (sym ed)
      (gives_back kind station z sequence code (λ h. rows_made (edition_named e) h a rows) (Reads e a rows) (whole (edition_named e) H a rows b)
      (λ f rest m s.
      subst (λ v. (epoch_said v ≡ answers a) × RowsBack row rows (count_said v) (entry_said e v)) (sym s) (
        (back (edition_named e) H a rows b f m).epoch,
        subst (λ w. RowsBack row rows (says_count (observation.count_observations f))
            (λ i. and_then w (λ x. observation.says_observation_read (observation.observation_at x f i)))) (sym ed) (rows_back (edition_named e) H a rows b f m),
      )))

  pub observations-back : GivesBack kind station z sequence code made (Reads e a rows)
  observations-back = go (ltb 1 e) refl
    where
      go : (t : Bool) → ltb 1 e ≡ t → GivesBack kind station z sequence code made (Reads e a rows)
      go false q = named (rw q)
      go true q = λ lent rest size k. absurd (refuses-apart 5 size (sym (refused lent) ∙ k))
        where
          refused : (lent : List ℕ) → kept_to made lent ≡ refuses 5
          refused lent = rw q
