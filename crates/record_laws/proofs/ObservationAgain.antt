-- Types 18 and 19, once over the edition: read then made, and what one edition reads another tells anew. Assumes nothing.
use mathlib.Core.Path.{◌≡◌, sym, ap, ap₂, ◌∙◌}
use mathlib.Core.Bool.{false, ◌||◌}
use mathlib.Core.List.{List}
use Prim.Native.Nat.{ℕ, ◌+◌, ◌*◌, ◌/◌, ◌≤◌, ◌<◌}
use native.Mathlib.Omega.{arith}
use lib.ListN.{length, take, get_or, length-take}
use lib.Seq.{get_or-take}
use Rattle.answer.specs.Order.{in_order}
use Rattle.answer.proofs.OrderLaws.{order-answers, order-told, order-map}
use Rattle.bits.specs.Fields.{fields_at, span}
use Rattle.bits.specs.Rows.{FillAfter}
use Rattle.bits.proofs.FieldLaws.{fits-fields}
use Rattle.frame.specs.Frames.{bare}
use Rattle.frame.specs.Widths.{any_of, outside}
use Rattle.frame.specs.declared.Frame.{Frame}
use Rattle.frame.specs.declared.Layout.TheVariants as layout
use Rattle.frame.proofs.FrameLaws.{header-within}
use Rattle.record_fields.specs.Coding.{frame_bits}
use Rattle.record_fields.proofs.Faithful.{Fine}
use Rattle.record_stages.specs.declared.Count.TheVariants as count
use Rattle.record_stages.specs.Stages.{misfit_after, read_order, headed_order, make_order, refused_made, done_made, HeaderFor}
use Rattle.record_stages.proofs.ListCode.{some-few}
use Rattle.record_observations.specs.declared.Edition.{Edition}
use Rattle.record_observations.specs.declared.Quantity.{Quantity}
use Rattle.record_observations.specs.declared.Epoch.{Epoch}
use Rattle.record_observations.specs.declared.Observation.{Observation}
use Rattle.record_observations.specs.declared.EpochRead.TheVariants as epoch
use Rattle.record_observations.specs.declared.ObservationRead.TheVariants as read
use Rattle.record_observations.specs.Editions.{quantity_of}
use Rattle.record_observations.specs.Observations.{epoch_widths, epoch_coding, epoch_in, epoch_out, late_time, widths, meant, coding, out_of_range}
use Rattle.record_observations.specs.Observations.{count_observations, read_epoch, satellite_in, observation_at, make_observations, retold, retold_read, Typed}
use Rattle.record_observations.specs.Observations.{HoldsObservations}
use Rattle.record_observations.proofs.LayoutLaws.{span-48}
use Rattle.record_laws.proofs.SentLaws.{make-passes, none-taken}
use Rattle.record_laws.proofs.HeadedTrips.{headed-again, nothing_left}
use Rattle.record_laws.proofs.ObservationTrips.{last, checks, observations-held}
use Rattle.record_laws.proofs.ObservationLaws.{epoch-faithful, epoch-late, bit-back, read-in, faithful}

-- ---- answers that no refusal is

at-apart : (n : ℕ) (a : Epoch) → epoch.Refused n ≡ epoch.At a → ⊥
at-apart n a q = let z : ◌≡◌ {A = ℕ} 0 1 = cc in omega arith

at-inj : (a b : Epoch) → epoch.At a ≡ epoch.At b → a ≡ b
at-inj a b q = cc

entry-apart : (n : ℕ) (o : Observation) → read.Refused n ≡ read.Entry o → ⊥
entry-apart n o q = let z : ◌≡◌ {A = ℕ} 0 1 = cc in omega arith

entry-inj : (a b : Observation) → read.Entry a ≡ read.Entry b → a ≡ b
entry-inj a b q = cc

-- READ, THEN MADE, in one edition, all but the pair: no bit is left to fill
pub observations-read-made : (e : Edition) (f : Frame) (a : Epoch) (os : List Observation) (c : ℕ) (d : Observation) → length f.words ≡ 31 → c ≤ length os
    → count_observations f ≡ count.Of c → read_epoch f ≡ epoch.At a → ((i : ℕ) → i < c → observation_at e f i ≡ read.Entry (get_or os i d))
    → make_observations e f.header a os c ≡ done_made (bare f)
unfolding make_observations read_epoch observation_at
observations-read-made e f a os c d full there n head each =
    order-answers refused_made _ (make_order layout.Observation f.header (checks e f.header a os c d))
    (make-passes layout.Observation f.header (checks e f.header a os c d) for (some-few c 15 s.some s.few, (ap₂ ◌||◌ head-fine none, tt)))
    ∙ ap done_made
    (headed-again epoch_coding (coding e u) (Fine (λ x. Unit {0}) epoch_out) (Fine Typed (out_of_range e u)) epoch-faithful (faithful e u) 0
    f a (take c os) d inside full up left ht.1 (λ i l. get_or-take c os i d (omega (arith, size)) ∙ is i (omega (arith, size))))
  where
    u : Quantity
    u = quantity_of f.header.kind

    s : HoldsObservations f c
    s = observations-held f c n

    inside : outside f ≡ false
    inside = s.frame.inside

    for : HeaderFor layout.Observation f.header
    for = record { inside = header-within f inside; kind = s.frame.kind; hour = s.frame.hour }

    size : length (take c os) ≡ c
    size = omega (arith, length-take c os)

    -- the head passed its check, and is the one that was read
    ht : (late_time (epoch_in f) ≡ false) × (epoch_in f ≡ a)
    ht =
        let t = order-told epoch.Refused (epoch.At (epoch_in f)) (epoch.At a) (λ m. at-apart m a)
        (read_order layout.Observation f (misfit_after 24 48 f.n) (last f)) head in
        (t.0.1.1.1.1.0, at-inj (epoch_in f) a t.1)

    head-fine : epoch_out a ≡ false
    head-fine =
        ap epoch_out (sym ht.1) ∙ epoch-late (fields_at epoch_widths 0 (frame_bits f)) (fits-fields epoch_widths 0 (frame_bits f)) ∙ ht.0

    -- so is each satellite, and what is read is in range
    is : (i : ℕ) → i < c → get_or os i d ≡ satellite_in e f i
    is i l =
        sym (entry-inj (satellite_in e f i) (get_or os i d)
        (order-told read.Refused (read.Entry (satellite_in e f i)) (read.Entry (get_or os i d)) (λ m. entry-apart m (get_or os i d))
        (headed_order layout.Observation 24 48 f i (last f)) (each i l)).1)

    none : any_of (out_of_range e u) (take c os) ≡ false
    none =
        none-taken (out_of_range e u) os c d
        (λ i l. ap (out_of_range e u) (is i l) ∙ read-in e u (fields_at (widths u) (24 + i * span (widths u)) (frame_bits f))
        (fits-fields (widths u) (24 + i * span (widths u)) (frame_bits f)))

    used : 24 + length (take c os) * span (widths u) ≡ 24 * f.n
    used = ap (λ w. 24 + length (take c os) * w) (span-48 u) ∙ words
      where
        words : 24 + length (take c os) * 48 ≡ 24 * f.n
        words = omega (arith, size, s.n)

    up : (24 + length (take c os) * span (widths u) + 23) / 24 ≡ f.n
    up = ap (λ m. (m + 23) / 24) used ∙ whole f.n
      where
        whole : (m : ℕ) → (24 * m + 23) / 24 ≡ m
        whole m = omega arith

    left : FillAfter 0 (24 + length (take c os) * span (widths u)) (frame_bits f)
    left = nothing_left 0 (24 + length (take c os) * span (widths u)) f inside full (omega (arith, used))

-- ---- the editions

-- TOLD ANEW: what one edition reads of a frame is what another reads, with the first bit as the first means it; the refusals are equal
pub observation-retold : (e other : Edition) (f : Frame) (i : ℕ) → observation_at e f i ≡ retold_read e (quantity_of f.header.kind) (observation_at other f i)
unfolding observation_at
observation-retold e other f i =
    ap (λ o. in_order (headed_order layout.Observation 24 48 f i (last f)) read.Refused (read.Entry o))
    (sym (anew (fields_at (widths u) (24 + i * span (widths u)) (frame_bits f))))
    ∙ sym (order-map (retold_read e u) (headed_order layout.Observation 24 48 f i (last f)) read.Refused (read.Entry (satellite_in other f i)))
  where
    u : Quantity
    u = quantity_of f.header.kind

    anew : (vs : List ℕ) → retold e u (meant other u vs) ≡ meant e u vs
    anew vs = rw (bit-back other u (get_or vs 0 0))
