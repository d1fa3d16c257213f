-- Types 18 and 19, once over the edition: what can be sent is made, made then read, read then made; what a frame holds is read; and what one
-- edition reads another tells anew. Assumes nothing.
use mathlib.Core.Path.{◌≡◌, sym, ap, ap₂, subst, ◌∙◌}
use mathlib.Core.Bool.{Bool, false, ◌||◌}
use mathlib.Core.List.{List, [], ◌∷◌}
use Prim.Native.Nat.{ℕ, ◌+◌, ◌*◌, ◌/◌, ◌≤◌, ◌<◌}
use native.Mathlib.Omega.{arith}
use lib.Dec.{leb}
use lib.ListN.{length, take, get_or, length-take}
use lib.Seq.{get_or-take}
use borrow.Author.Tests.{lt-leb, le-ltb}
use Rattle.answer.specs.Order.{Check, NoneApplies}
use Rattle.answer.proofs.OrderLaws.{order-answers, order-told}
use Rattle.bits.specs.Fields.{span}
use Rattle.frame.specs.Widths.{any_of}
use Rattle.frame.specs.declared.Header.{Header}
use Rattle.frame.specs.declared.Frame.{Frame}
use Rattle.frame.specs.declared.Layout.TheVariants as layout
use Rattle.frame.proofs.WidthLaws.{both_false}
use Rattle.frame.proofs.FrameLaws.{n_within}
use Rattle.record_fields.specs.Coding.{frame_bits, entry_after, frame_after, Each}
use Rattle.record_fields.proofs.Faithful.{Fine}
use Rattle.record_stages.specs.declared.Count.TheVariants as count
use Rattle.record_stages.specs.Stages.{held_after, misfit_after, wrong_count, read_order, headed_order, make_order, refused_made, done_made, IsMade}
use Rattle.record_stages.proofs.ListCode.{count-right, fitting-after, some-few, told-some-few}
use Rattle.record_stages.proofs.StageLaws.{last-fine, done-apart, done-frame, of-apart, of-inj}
use Rattle.record_observations.specs.declared.Edition.{Edition}
use Rattle.record_observations.specs.declared.Quantity.{Quantity}
use Rattle.record_observations.specs.declared.Epoch.{Epoch}
use Rattle.record_observations.specs.declared.Observation.{Observation}
use Rattle.record_observations.specs.declared.EpochRead.TheVariants as epoch
use Rattle.record_observations.specs.declared.ObservationRead.TheVariants as read
use Rattle.record_observations.specs.Editions.{quantity_of}
use Rattle.record_observations.specs.Observations.{epoch_coding, epoch_in, epoch_bits, epoch_out, late_time, in_time, widths, coding, out_of_range}
use Rattle.record_observations.specs.Observations.{count_observations, read_epoch, satellite_in, observation_at, make_observations, Typed}
use Rattle.record_observations.specs.Observations.{SendableObservations, ObservationsMade, HoldsObservations, ReadsObservations}
use Rattle.record_observations.proofs.LayoutLaws.{span-48}
use Rattle.record_laws.proofs.SentLaws.{make-passes, make-passed, read-passes, read-passed, frame-for, none-taken, told-entry}
use Rattle.record_laws.proofs.ListTrips.{each-fine}
use Rattle.record_laws.proofs.HeadedTrips.{HeadedReads, headed-made}
use Rattle.record_laws.proofs.ObservationLaws.{epoch-faithful, epoch-fine, epoch-told, range-fine, range-told, faithful}

-- ---- N

held-is : (n c : ℕ) → n ≡ 2 * c + 1 → held_after 24 48 n ≡ c
held-is n c e = omega arith

fits : (n c : ℕ) → n ≤ 31 → 1 ≤ c → n ≡ 2 * c + 1 → misfit_after 24 48 n ≡ false
fits n c l s e =
    count-right 24 48 n l (λ z. omega (arith, held-is n c e, z)) (ap (λ m. (24 + m * 48 + 23) / 24) (held-is n c e) ∙ up)
  where
    up : (24 + c * 48 + 23) / 24 ≡ n
    up = omega arith

-- ---- frames that hold satellites

abbrev pub last : Frame → List Check
last f = (late_time (epoch_in f), 10) ∷ []

-- READ: the count of a frame that holds c satellites; its head and every satellite, or 10 for the time
pub observations-read : (e : Edition) (f : Frame) (c : ℕ) → HoldsObservations f c → ReadsObservations e f c
unfolding count_observations read_epoch observation_at
observations-read e f c s = record {
  counts = order-answers count.Refused (count.Of (held_after 24 48 f.n)) (read_order layout.Observation f eight [])
      (read-passes layout.Observation f eight [] s.frame fit tt) ∙ ap count.Of is;
  epoch = order-answers epoch.Refused (in_time f epoch.Refused (epoch.At (epoch_in f))) (read_order layout.Observation f eight [])
      (read-passes layout.Observation f eight [] s.frame fit tt);
  entries = λ i l.
      order-answers read.Refused (in_time f read.Refused (read.Entry (satellite_in e f i))) (headed_order layout.Observation 24 48 f i [])
      (read-passes layout.Observation f eight ((leb (held_after 24 48 f.n) i, 9) ∷ []) s.frame fit (ap (λ m. leb m i) is ∙ lt-leb c i l, tt));
}
  where
    eight : Bool
    eight = misfit_after 24 48 f.n

    is : held_after 24 48 f.n ≡ c
    is = held-is f.n c s.n

    fit : misfit_after 24 48 f.n ≡ false
    fit = fits f.n c (n_within f s.frame.inside) s.some s.n

-- and a count is read of no other frame
pub observations-held : (f : Frame) (c : ℕ) → count_observations f ≡ count.Of c → HoldsObservations f c
unfolding count_observations
observations-held f c e = record {
  frame = read-passed layout.Observation f (misfit_after 24 48 f.n) [] t.0;
  some = omega (arith, fit.0, is);
  few = omega (arith, n_within f t.0.0, up);
  n = sym up;
}
  where
    t : NoneApplies (read_order layout.Observation f (misfit_after 24 48 f.n) []) × (count.Of (held_after 24 48 f.n) ≡ count.Of c)
    t = order-told count.Refused (count.Of (held_after 24 48 f.n)) (count.Of c) (λ m. of-apart m c)
        (read_order layout.Observation f (misfit_after 24 48 f.n) []) e

    is : held_after 24 48 f.n ≡ c
    is = of-inj (held_after 24 48 f.n) c t.1

    fit : (0 < held_after 24 48 f.n) × ((24 + held_after 24 48 f.n * 48 + 23) / 24 ≡ f.n)
    fit = let s = fitting-after 24 48 f.n t.0.1.1.1.0 in (s.some, s.up)

    up : 2 * c + 1 ≡ f.n
    up = two c f.n (ap (λ m. (24 + m * 48 + 23) / 24) (sym is) ∙ fit.1)
      where
        two : (c n : ℕ) → (24 + c * 48 + 23) / 24 ≡ n → 2 * c + 1 ≡ n
        two c n q = omega arith

-- ---- records that can be sent

module _ (e : Edition) (h : Header) (a : Epoch) (os : List Observation) (c : ℕ) (d : Observation) where
  abbrev q : Quantity
  q = quantity_of h.kind

  abbrev made : Frame
  made = frame_after (epoch_bits a) 0 (coding e q) h (take c os)

  abbrev pub checks : List Check
  checks = (wrong_count 15 c, 12) ∷ (epoch_out a || any_of (out_of_range e q) (take c os), 10) ∷ []

  told : (f : Frame) → make_observations e h a os c ≡ done_made f → NoneApplies (make_order layout.Observation h checks) × (done_made made ≡ done_made f)
  unfolding make_observations
  told f s = order-told refused_made (done_made made) (done_made f) (λ n. done-apart n f) (make_order layout.Observation h checks) s

  -- only what can be sent is made
  pub observations-told : (f : Frame) → c ≤ length os → make_observations e h a os c ≡ done_made f → SendableObservations e h a os c d
  observations-told f there s = record {
    header = make-passed layout.Observation h checks t.0;
    epoch = epoch-told a out.0;
    some = (told-some-few c 15 t.0.1.1.1.0).0;
    few = (told-some-few c 15 t.0.1.1.1.0).1;
    there = there;
    ranges = λ i l. range-told e q (get_or os i d) (at i l);
  }
    where
      t : NoneApplies (make_order layout.Observation h checks) × (done_made made ≡ done_made f)
      t = told f s

      out : (epoch_out a ≡ false) × (any_of (out_of_range e q) (take c os) ≡ false)
      out = both_false (epoch_out a) (any_of (out_of_range e q) (take c os)) t.0.1.1.1.1.0

      at : (i : ℕ) → i < c → out_of_range e q (get_or os i d) ≡ false
      at i l = ap (out_of_range e q) (sym (get_or-take c os i d l)) ∙ told-entry (out_of_range e q) (take c os) d i out.1 (omega (arith, length-take c os))

  module _ (typed : Each Typed (take c os)) (s : SendableObservations e h a os c d) where
    size : length (take c os) ≡ c
    size = omega (arith, length-take c os, s.there)

    none : any_of (out_of_range e q) (take c os) ≡ false
    none = none-taken (out_of_range e q) os c d (λ i l. range-fine e q (get_or os i d) (s.ranges i l))

    room : 24 + length (take c os) * span (widths q) ≤ 744
    room = subst (λ w. 24 + length (take c os) * w ≤ 744) (sym (span-48 q)) (omega (arith, size, s.few))

    -- the laws of headed lists
    headed : HeadedReads epoch_coding (coding e q) 0 h a (take c os) d made
    headed =
        headed-made epoch_coding (coding e q) (Fine (λ x. Unit {0}) epoch_out) (Fine Typed (out_of_range e q)) epoch-faithful (faithful e q) 0
        h a (take c os) d (tt, epoch-fine a s.epoch) (each-fine (out_of_range e q) Typed (take c os) typed none) s.header.inside room

    n-is : made.n ≡ 2 * c + 1
    n-is = headed.n ∙ ap (λ w. (24 + length (take c os) * w + 23) / 24) (span-48 q) ∙ omega-n
      where
        omega-n : (24 + length (take c os) * 48 + 23) / 24 ≡ 2 * c + 1
        omega-n = omega (arith, size)

    holds : HoldsObservations made c
    holds = record { frame = frame-for layout.Observation made h headed.header headed.inside s.header; some = s.some; few = s.few; n = n-is }

    in-time : late_time (epoch_in made) ≡ false
    in-time = ap late_time headed.head ∙ le-ltb 599999 a.time s.epoch.time

    made_reads : ObservationsMade e h a os c d made
    made_reads =
        let r = observations-read e made c holds in
        record {
          header = headed.header;
          inside = headed.inside;
          counts = r.counts;
          epoch = r.epoch ∙ sym (last-fine epoch.Refused (epoch.At (epoch_in made)) (late_time (epoch_in made)) 10 in-time) ∙ ap epoch.At headed.head;
          entries = λ i l.
              r.entries i l ∙ sym (last-fine read.Refused (read.Entry (satellite_in e made i)) (late_time (epoch_in made)) 10 in-time)
              ∙ ap read.Entry (entry-is i l);
          n = n-is;
        }
      where
        entry-is : (i : ℕ) → i < c → satellite_in e made i ≡ get_or os i d
        entry-is i l =
            ap (λ x. entry_after 24 (coding e (quantity_of x.kind)) i (frame_bits made)) headed.header
            ∙ headed.entries i (omega (arith, size)) ∙ get_or-take c os i d l

    -- SENT: what can be sent is made, not refused, and reads back in its edition
    pub observations-sent : IsMade (make_observations e h a os c) (ObservationsMade e h a os c d)
    unfolding make_observations
    observations-sent = record {
      frame = made;
      done = order-answers refused_made (done_made made) (make_order layout.Observation h checks)
          (make-passes layout.Observation h checks s.header
          (some-few c 15 s.some s.few, (ap₂ ◌||◌ (epoch-fine a s.epoch) none, tt)));
      reads = made_reads;
    }

  -- MADE, THEN READ
  pub observations-made-read : (f : Frame) → c ≤ length os → Each Typed (take c os) → make_observations e h a os c ≡ done_made f
      → ObservationsMade e h a os c d f
  observations-made-read f there typed s =
      subst (ObservationsMade e h a os c d) (done-frame (told f s).1) (made_reads typed (observations-told f there s))
