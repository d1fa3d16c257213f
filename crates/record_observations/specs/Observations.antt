-- Types 18 and 19, over the edition and over what the type measures: the layout as data, what its codes mean, and the answers in their
-- orders. Assumes nothing.
use Rattle.std.specs.Prelude.{◌≡◌, Result, Bool, false, ◌||◌, cond, List, [], ◌∷◌, ℕ, ◌+◌, ◌*◌, ◌-◌, ◌^◌, ◌≤◌, ◌<◌, ltb, length, take, get_or}
use Rattle.answer.specs.Order.{Says, refuses, answers, in_order}
use Rattle.answer.specs.Table.{refused, granted}
use Rattle.answer.specs.declared.Refusal.{Refusal}
use Rattle.bits.specs.Fields.{fields_at, packed}
use Rattle.frame.specs.Widths.{any_of, outside}
use Rattle.frame.specs.declared.Header.{Header}
use Rattle.frame.specs.declared.Frame.{Frame}
use Rattle.frame.specs.declared.Layout.TheVariants as layout
use Rattle.record_fields.specs.declared.Rows.{Rows}
use Rattle.record_fields.specs.Coding.{Coding, frame_bits, entry_after, frame_after}
use Rattle.record_fields.specs.Tables.{row, codes_of, row_out, no_rows, put_row}
use Rattle.record_fields.specs.Satellites.{satellite_of}
use Rattle.record_stages.specs.declared.Count.{Count}
use Rattle.record_stages.specs.declared.Count.TheVariants as count
use Rattle.record_stages.specs.declared.Made.{Made}
use Rattle.record_stages.specs.Stages.{misfit_after, wrong_count, read_order, count_after, headed_order, make_order, refused_made, done_made, HeaderFor, FrameFor}
use Rattle.record_observations.specs.declared.Edition.{Edition}
use Rattle.record_observations.specs.declared.Quantity.{Quantity}
use Rattle.record_observations.specs.declared.Epoch.{Epoch}
use Rattle.record_observations.specs.declared.Observation.{Observation}
use Rattle.record_observations.specs.declared.EpochRead.{EpochRead}
use Rattle.record_observations.specs.declared.EpochRead.TheVariants as epoch
use Rattle.record_observations.specs.declared.ObservationRead.{ObservationRead}
use Rattle.record_observations.specs.declared.ObservationRead.TheVariants as read
use Rattle.record_observations.specs.Editions.{quantity_of, quality_width, mark_of, mark_bit, mark_number, measured_of, beside_of, amount_of}
use Rattle.record_observations.specs.Editions.{MeasuredTyped, MarkInRange, MeasuredInRange}

-- ---- THE HEAD, 24 bits: frequency 2, smoothing or reserved 2, time 20

abbrev pub epoch_widths : List ℕ
epoch_widths = 2 ∷ 2 ∷ 20 ∷ []

abbrev pub epoch_meant : List ℕ → Epoch
epoch_meant vs = record { frequency = get_or vs 0 0; smoothing = get_or vs 1 0; time = get_or vs 2 0 }

abbrev pub epoch_numbers : Epoch → List ℕ
epoch_numbers a = row (a.frequency ∷ a.smoothing ∷ a.time ∷ [])

abbrev pub epoch_coding : Coding Epoch
epoch_coding = record { widths = epoch_widths; meant = epoch_meant; codes = λ a. codes_of epoch_widths (epoch_numbers a) }

-- the head of a frame, and the bits of a head
abbrev pub epoch_in : Frame → Epoch
epoch_in f = epoch_meant (fields_at epoch_widths 0 (frame_bits f))

abbrev pub epoch_bits : Epoch → List Bool
epoch_bits a = packed epoch_widths (epoch_coding.codes a)

-- REFUSAL 10: frequency or smoothing over 3, time over 599999; of a head that is read the time alone can be
abbrev pub epoch_least : List ℕ
epoch_least = 0 ∷ []

abbrev pub epoch_most : List ℕ
epoch_most = 3 ∷ 3 ∷ 599999 ∷ []

abbrev pub epoch_out : Epoch → Bool
epoch_out a = row_out epoch_least epoch_most (epoch_numbers a)

abbrev pub late_time : Epoch → Bool
late_time a = ltb 599999 a.time

abbrev pub time_of : Epoch → Result (Unit {0}) Refusal
time_of a = cond (late_time a) (refused 10) granted

abbrev pub epoch_rows : Epoch → Rows
epoch_rows a = put_row epoch_widths epoch_least epoch_most (epoch_numbers a) no_rows

-- ---- A SATELLITE, 48 bits: first bit, code, system, satellite 5, quality 3 or 4, then 5 or 4, then 32

abbrev pub widths : Quantity → List ℕ
widths q = 1 ∷ 1 ∷ 1 ∷ 5 ∷ quality_width q ∷ (8 - quality_width q) ∷ 32 ∷ []

abbrev pub meant : Edition → Quantity → List ℕ → Observation
meant e q vs = record {
  mark = mark_of e q (get_or vs 0 0);
  code = get_or vs 1 0;
  system = get_or vs 2 0;
  satellite = satellite_of (get_or vs 3 0);
  quality = get_or vs 4 0;
  measured = measured_of q (get_or vs 5 0) (get_or vs 6 0);
}

-- a satellite's numbers, in the order of the fields
abbrev pub numbers : Edition → Quantity → Observation → List ℕ
numbers e q o =
    row (mark_number e q o.mark ∷ o.code ∷ o.system ∷ o.satellite ∷ o.quality ∷ beside_of q o.measured ∷ amount_of q o.measured ∷ [])

abbrev pub coding : Edition → Quantity → Coding Observation
coding e q = record { widths = widths q; meant = meant e q; codes = λ o. codes_of (widths q) (numbers e q o) }

-- REFUSAL 10: another edition's or type's mark, a bit over 1, satellite not 1 to 32, quality or what stands beside it over its width, what the
-- other type measures; any phase and any range may be sent
abbrev pub least : List ℕ
least = 0 ∷ 0 ∷ 0 ∷ 1 ∷ []

abbrev pub most : Quantity → List ℕ
most q = 1 ∷ 1 ∷ 1 ∷ 32 ∷ (2 ^ quality_width q - 1) ∷ (2 ^ (8 - quality_width q) - 1) ∷ []

abbrev pub out_of_range : Edition → Quantity → Observation → Bool
out_of_range e q o = row_out least (most q) (numbers e q o)

-- ---- the answers; what is measured is what the type measures

-- COUNT: 5, 6, 7, 8; N is 2c + 1 for c satellites
unfoldable pub count_observations : Frame → Count
count_observations f = count_after layout.Observation 24 48 f

-- HEAD: 5, 6, 7, 8, 10
unfoldable pub read_epoch : Frame → EpochRead
read_epoch f =
    in_order (read_order layout.Observation f (misfit_after 24 48 f.n) ((late_time (epoch_in f), 10) ∷ [])) epoch.Refused (epoch.At (epoch_in f))

-- SATELLITE: 5, 6, 7, 8, 9, 10 for the time
abbrev pub satellite_in : Edition → Frame → ℕ → Observation
satellite_in e f i = entry_after 24 (coding e (quantity_of f.header.kind)) i (frame_bits f)

unfoldable pub observation_at : Edition → Frame → ℕ → ObservationRead
observation_at e f i =
    in_order (headed_order layout.Observation 24 48 f i ((late_time (epoch_in f), 10) ∷ [])) read.Refused (read.Entry (satellite_in e f i))

-- MAKING: 5, 6, 7, 12, 10; at most 15 satellites
unfoldable pub make_observations : Edition → Header → Epoch → List Observation → ℕ → Made
make_observations e h a os c =
    let q = quantity_of h.kind in
    in_order (make_order layout.Observation h ((wrong_count 15 c, 12) ∷ (epoch_out a || any_of (out_of_range e q) (take c os), 10) ∷ [])) refused_made
    (done_made (frame_after (epoch_bits a) 0 (coding e q) h (take c os)))

-- ---- in the table's terms

abbrev pub says_epoch_read : EpochRead → Says Epoch
says_epoch_read (epoch.At a) = answers a
says_epoch_read (epoch.Refused n) = refuses n

abbrev pub says_observation_read : ObservationRead → Says Observation
says_observation_read (read.Entry o) = answers o
says_observation_read (read.Refused n) = refuses n

-- TOLD ANEW: an observation, and an answer, with its first bit as another edition means it
abbrev pub retold : Edition → Quantity → Observation → Observation
retold e q o = record {
  mark = mark_of e q (mark_bit o.mark);
  code = o.code;
  system = o.system;
  satellite = o.satellite;
  quality = o.quality;
  measured = o.measured;
}

abbrev pub retold_read : Edition → Quantity → ObservationRead → ObservationRead
retold_read e q (read.Entry o) = read.Entry (retold e q o)
retold_read e q (read.Refused n) = read.Refused n

-- ---- what the round trip says

-- what the types of the fields say of every satellite
abbrev pub Typed : Observation → Type 0
Typed o = MeasuredTyped o.measured

-- IN RANGE: frequency and smoothing 0 to 3, time 0 to 599999 microseconds
pub record EpochInRange (a : Epoch) : Type 0 where
  pub frequency : a.frequency ≤ 3
  pub smoothing : a.smoothing ≤ 3
  pub time : a.time ≤ 599999

-- the edition's own mark, code and system 0 or 1, satellite 1 to 32, quality by its width, what the type measures
pub record InRange (e : Edition) (q : Quantity) (o : Observation) : Type 0 where
  pub mark : MarkInRange e q o.mark
  pub code : o.code ≤ 1
  pub system : o.system ≤ 1
  pub least : 1 ≤ o.satellite
  pub most : o.satellite ≤ 32
  pub quality : o.quality < 2 ^ quality_width q
  pub measured : MeasuredInRange q o.measured

-- A RECORD THAT CAN BE SENT in an edition: its header is for the layout, its head in range; 1 to 15 satellites, all of them there, each in its range
pub record SendableObservations (e : Edition) (h : Header) (a : Epoch) (os : List Observation) (c : ℕ) (d : Observation) : Type 0 where
  pub header : HeaderFor layout.Observation h
  pub epoch : EpochInRange a
  pub some : 1 ≤ c
  pub few : c ≤ 15
  pub there : c ≤ length os
  pub ranges : (i : ℕ) → i < c → InRange e (quantity_of h.kind) (get_or os i d)

-- a made frame reads back in its edition: header, head, count, every satellite; it is within its widths, and N is worked out
pub record ObservationsMade (e : Edition) (h : Header) (a : Epoch) (os : List Observation) (c : ℕ) (d : Observation) (f : Frame) : Type 0 where
  pub header : f.header ≡ h
  pub inside : outside f ≡ false
  pub counts : count_observations f ≡ count.Of c
  pub epoch : read_epoch f ≡ epoch.At a
  pub entries : (i : ℕ) → i < c → observation_at e f i ≡ read.Entry (get_or os i d)
  pub n : f.n ≡ 2 * c + 1

-- A FRAME THAT HOLDS c satellites: it is for the layout, c is 1 to 15, N is 2c + 1
pub record HoldsObservations (f : Frame) (c : ℕ) : Type 0 where
  pub frame : FrameFor layout.Observation f
  pub some : 1 ≤ c
  pub few : c ≤ 15
  pub n : f.n ≡ 2 * c + 1

-- what is read of it: its count, whatever the time; its head and each satellite, or 10 where the time is over 599999
abbrev pub in_time : {B : Type 0} → Frame → (ℕ → B) → B → B
in_time f refuse answer = in_order ((late_time (epoch_in f), 10) ∷ []) refuse answer

pub record ReadsObservations (e : Edition) (f : Frame) (c : ℕ) : Type 0 where
  pub counts : count_observations f ≡ count.Of c
  pub epoch : read_epoch f ≡ in_time f epoch.Refused (epoch.At (epoch_in f))
  pub entries : (i : ℕ) → i < c → observation_at e f i ≡ in_time f read.Refused (read.Entry (satellite_in e f i))
