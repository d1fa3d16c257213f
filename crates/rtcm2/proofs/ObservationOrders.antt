-- The refusals of the calls on observations, each in ONE order: 5 for the edition comes behind those of a journal record, and first of all where a
-- frame is made. Assumes nothing.
use mathlib.Core.Path.{◌≡◌, refl, ap, subst, sym, ◌∙◌}
use mathlib.Core.Bool.{false}
use mathlib.Core.List.{List, [], ◌∷◌, ◌++◌}
use Prim.Native.Nat.{ℕ, ◌+◌, ◌*◌, ◌≤◌}
use native.Mathlib.Omega.{arith}
use lib.Dec.{ltb, leb}
use lib.ListN.{length, take, length-take}
use Rattle.answer.specs.Order.{Says, refuses, answers, in_order, NoneApplies}
use Rattle.answer.proofs.OrderLaws.{order-map, says-order}
use Rattle.bits.specs.Fields.{AreBytes, span}
use Rattle.frame.specs.Widths.{outside}
use Rattle.frame.specs.declared.Frame.{Frame}
use Rattle.frame.specs.declared.Header.{Header}
use Rattle.frame.specs.declared.Layout.TheVariants as layout
use Rattle.journal.specs.Journal.{recall_order}
use Rattle.record_fields.proofs.Headed.{after-inside}
use Rattle.record_stages.specs.Stages.{held_after, misfit_after, read_order, make_order, says_count}
use Rattle.record_stages.specs.declared.Count.TheVariants as count
use Rattle.record_stages.proofs.ListCode.{told-some-few}
use Rattle.record_observations.specs.declared.Edition.{Edition}
use Rattle.record_observations.specs.declared.Quantity.{Quantity}
use Rattle.record_observations.specs.declared.Epoch.{Epoch}
use Rattle.record_observations.specs.declared.Observation.{Observation}
use Rattle.record_observations.specs.declared.EpochRead.TheVariants as epoch-read
use Rattle.record_observations.specs.declared.ObservationRead.TheVariants as read
use Rattle.record_observations.specs.Editions.{quantity_of}
use Rattle.record_observations.specs.Observations as observation
use Rattle.record_observations.proofs.LayoutLaws.{span-48, head-long}
use Rattle.rtcm2_rows.specs.Observations.{row}
use Rattle.rtcm2.specs.Answer.{and_then}
use Rattle.rtcm2.specs.Header.{headed}
use Rattle.rtcm2.specs.Frames.{frame_said, kept_to}
use Rattle.rtcm2.specs.Rows.{row_to}
use Rattle.rtcm2.specs.declared.observation.Named.TheVariants as named
use Rattle.rtcm2.specs.Observations.{edition_named, says_named, edition_said, count_said, epoch_said, read_said, entry_said, rows_made, made_said}
use Rattle.rtcm2.specs.Orders.{frame_from, header_with, late_checks, observations_counted, epoch_order, observation_in, satellite_checks}
use Rattle.rtcm2.specs.Orders.{observation_order, observation_rows, observation_count, observations_frame, observations_own, observations_order}
use Rattle.rtcm2.proofs.ReadOrders.{read-order, record-order, row-order}
use Rattle.rtcm2.proofs.MakeOrders.{make-order}

-- an edition comes first
edition-order : {A : Type 0} (e : ℕ) (next : Edition → Says A)
    → and_then (edition_said e) next ≡ in_order ((ltb 1 e, 5) ∷ []) refuses (next (edition_named e))
edition-order e next =
    ap (λ s. and_then s next) (says-order says_named named.Refused (λ n. refl) (named.Edition (edition_named e)) ((ltb 1 e, 5) ∷ []) refl)
    ∙ order-map (λ s. and_then s next) ((ltb 1 e, 5) ∷ []) refuses (answers (edition_named e))

module _ (bs : List ℕ) (fits : AreBytes bs) where
  abbrev F : Frame
  F = frame_from bs

  -- COUNT: 14, 15, 16, 15, 16, 6, 7, 8
  pub observations-counted : count_said (frame_said bs) ≡ in_order (observations_counted bs) refuses (answers (held_after 24 48 (frame_from bs).n))
  unfolding observation.count_observations
  observations-counted =
      record-order bs fits layout.Observation (misfit_after 24 48 F.n) [] says_count count.Refused (λ n. refl) observation.count_observations
      (count.Of (held_after 24 48 F.n)) refl refl

  -- HEAD: 14, 15, 16, 15, 16, 6, 7, 8, 10
  pub epoch-order : epoch_said (frame_said bs) ≡ in_order (epoch_order bs) refuses (answers (observation.epoch_in (frame_from bs)))
  unfolding observation.read_epoch
  epoch-order =
      record-order bs fits layout.Observation (misfit_after 24 48 F.n) (late_checks F) observation.says_epoch_read epoch-read.Refused (λ n. refl)
      observation.read_epoch (epoch-read.At (observation.epoch_in F)) refl refl

  -- SATELLITE: 14, 15, 16, 15, 16, 5 for the edition, 6, 7, 8, 9, 10, and 13 for its row
  module _ (e i : ℕ) where
    pub observation-entry : entry_said e (frame_said bs) i
        ≡ in_order (recall_order bs ++ ((ltb 1 e, 5) ∷ satellite_checks (frame_from bs) i)) refuses (answers (observation_in e bs i))
    unfolding observation.observation_at
    observation-entry =
        read-order bs fits (λ f. read_said e f i) ((ltb 1 e, 5) ∷ []) (satellite_checks F i) (observation_in e bs i)
        (edition-order e (λ x. observation.says_observation_read (observation.observation_at x F i))
        ∙ ap (in_order ((ltb 1 e, 5) ∷ []) refuses)
        (says-order observation.says_observation_read read.Refused (λ n. refl) (read.Entry (observation_in e bs i))
        (read_order layout.Observation F (misfit_after 24 48 F.n) ((leb (held_after 24 48 F.n) i, 9) ∷ late_checks F)) refl))

    pub observation-row-order : (lent : List ℕ)
        → row_to row (entry_said e (frame_said bs) i) lent ≡ in_order (observation_order e bs i lent) refuses (answers tt)
    observation-row-order lent =
        ap (λ s. row_to row s lent) observation-entry
        ∙ row-order row (recall_order bs ++ ((ltb 1 e, 5) ∷ satellite_checks F i)) (observation_in e bs i) lent

-- MAKING: 5 for the edition, 5, 6, 7, 12, 10, 13
module _ (kind station z sequence code e : ℕ) (a : Epoch) (bs buffer : List ℕ) where
  abbrev H : Header
  H = header_with kind station z sequence code

  abbrev made : Frame
  made = observations_frame kind station z sequence code e a bs

  -- head and satellites fit a frame once 12 has passed
  within : NoneApplies (make_order layout.Observation H (observations_own kind station z sequence code e a bs)) → outside made ≡ false
  within none =
      after-inside (observation.coding (edition_named e) q) (observation.epoch_bits a) 0 H taken none.0
      (subst (λ m. m + length taken * span (observation.widths q) ≤ 744) (sym (head-long a))
      (subst (λ w. 24 + length taken * w ≤ 744) (sym (span-48 q)) (omega (arith, (told-some-few c 15 none.1.1.1.0).1, length-take c all))))
    where
      q : Quantity
      q = quantity_of kind

      c : ℕ
      c = observation_count kind station z sequence code e a bs

      all : List Observation
      all = observation_rows kind station z sequence code e a bs

      taken : List Observation
      taken = take c all

  pub observations-made : kept_to (made_said e (headed kind station z sequence code) a.frequency a.smoothing a.time bs) buffer
      ≡ in_order (observations_order kind station z sequence code e a bs buffer) refuses
      (answers (3 * (observations_frame kind station z sequence code e a bs).n + 9))
  unfolding observation.make_observations
  observations-made =
      ap (λ s. kept_to s buffer) (edition-order e (λ x. and_then (headed kind station z sequence code) (λ h. rows_made x h a bs)))
      ∙ order-map (λ s. kept_to s buffer) ((ltb 1 e, 5) ∷ []) refuses (and_then (headed kind station z sequence code) (λ h. rows_made (edition_named e) h a bs))
      ∙ ap (in_order ((ltb 1 e, 5) ∷ []) refuses)
      (make-order kind station z sequence code buffer layout.Observation (observations_own kind station z sequence code e a bs) made
      (λ h. observation.make_observations (edition_named e) h a (observation_rows kind station z sequence code e a bs)
      (observation_count kind station z sequence code e a bs)) refl within)
