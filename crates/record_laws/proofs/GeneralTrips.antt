-- Types 41 and 42, once over the two layouts: what can be sent is made, made then read; what a frame holds is read. Assumes nothing.
use mathlib.Core.Path.{◌≡◌, sym, ap, ap₂, subst, ◌∙◌}
use mathlib.Core.Bool.{false, ◌||◌}
use mathlib.Core.List.{List, [], ◌∷◌}
use Prim.Native.Nat.{ℕ, ◌+◌, ◌*◌, ◌-◌, ◌/◌, ◌≤◌, ◌<◌}
use native.Mathlib.Nat.{mul-le-mul_right}
use native.Mathlib.Omega.{arith}
use lib.Dec.{leb}
use lib.ListN.{length, take, get_or, length-take}
use lib.Seq.{get_or-take}
use borrow.Author.Tests.{lt-leb, ne_eqb}
use Rattle.answer.specs.Order.{Check, NoneApplies}
use Rattle.answer.proofs.OrderLaws.{order-answers, order-told}
use Rattle.bits.specs.Fields.{span}
use Rattle.bits.specs.Rows.{FillAfter}
use Rattle.frame.specs.Widths.{any_of}
use Rattle.frame.specs.declared.Header.{Header}
use Rattle.frame.specs.declared.Frame.{Frame}
use Rattle.frame.specs.declared.Layout.TheVariants as layout
use Rattle.frame.proofs.WidthLaws.{both_false}
use Rattle.frame.proofs.FrameLaws.{n_within}
use Rattle.record_fields.specs.Coding.{frame_bits, entry_after, frame_after, Each}
use Rattle.record_fields.proofs.Faithful.{Fine}
use Rattle.record_stages.specs.declared.Count.TheVariants as count
use Rattle.record_stages.specs.Stages.{misfit_after, wrong_count, make_order, refused_made, done_made, IsMade}
use Rattle.record_stages.specs.Lists.{held_to}
use Rattle.record_stages.proofs.ListCode.{held-le, count-right, fitting-after, some-few, told-some-few}
use Rattle.record_stages.proofs.StageLaws.{last-fine, done-apart, done-frame, of-apart, of-inj}
use Rattle.record_generals.specs.declared.GeneralHead.{GeneralHead}
use Rattle.record_generals.specs.declared.General.{General}
use Rattle.record_generals.specs.declared.HeadRead.TheVariants as head
use Rattle.record_generals.specs.declared.GeneralRead.TheVariants as read
use Rattle.record_generals.specs.Generals.{other_system, head_coding, head_in, head_bits, head_out, delay_width, delay_in, widths, coding, out_of_range}
use Rattle.record_generals.specs.Generals.{no_satellite, fill, too_short, most_generals, list_order, generals_held, general_in, count_generals, read_head, general_at}
use Rattle.record_generals.specs.Generals.{make_generals}
use Rattle.record_generals.specs.GeneralRounds.{SendableGenerals, GeneralsMade, HoldsGenerals, ReadsGenerals, general_bits, general_words}
use Rattle.record_generals.proofs.LayoutLaws.{span-is}
use Rattle.record_laws.proofs.SentLaws.{make-passes, make-passed, read-passes, read-passed, frame-for, none-taken, told-entry}
use Rattle.record_laws.proofs.ListTrips.{each-fine}
use Rattle.record_laws.proofs.HeadedTrips.{HeadedReads, headed-made}
use Rattle.record_laws.proofs.GeneralLaws.{head-faithful, head-fine, head-told, range-fine, range-told, faithful, held-is, held-few, long-enough}

-- ---- frames that hold satellites

module _ (f : Frame) (c : ℕ) where
  abbrev i : ℕ
  i = (head_in f).ionosphere

  abbrev w : ℕ
  w = 32 + delay_in f

  -- the checks of a list after its first 8
  abbrev own : List Check → List Check
  own more = (other_system (head_in f).system, 23) ∷ (misfit_after 13 w f.n, 8) ∷ more

  module _ (s : HoldsGenerals f c) where
    held : generals_held f ≡ c
    held = held-is i f.n c s.n

    fits : misfit_after 13 w f.n ≡ false
    fits =
        count-right 13 w f.n (n_within f s.frame.inside) (λ z. omega (arith, held, z, s.some))
        (ap (λ m. (13 + m * w + 23) / 24) held ∙ sym s.n)

    passes : (more : List Check) → NoneApplies more → NoneApplies (list_order f more)
    passes more none =
        read-passes layout.General f (too_short f.header.kind f.n) (own more) s.frame (long-enough i f.n c f.header.kind s.some s.n)
        (s.system, (fits, none))

    -- READ: the count of a frame that holds c satellites, its head, and every satellite, or 10 for satellite 0
    pub generals-read : ReadsGenerals f c
    unfolding count_generals read_head general_at
    generals-read = record {
      counts = order-answers count.Refused (count.Of (generals_held f)) (list_order f []) (passes [] tt) ∙ ap count.Of held;
      head = order-answers head.Refused (head.Head (head_in f)) (list_order f []) (passes [] tt);
      entries = λ j l.
          order-answers read.Refused (held_to no_satellite read.Refused read.Entry (general_in f j)) (list_order f ((leb (generals_held f) j, 9) ∷ []))
          (passes ((leb (generals_held f) j, 9) ∷ []) (ap (λ m. leb m j) held ∙ lt-leb c j l, tt));
    }

  -- and a count is read of no other frame
  pub generals-held : count_generals f ≡ count.Of c → HoldsGenerals f c
  unfolding count_generals
  generals-held e = record {
    frame = read-passed layout.General f (too_short f.header.kind f.n) (own []) t.0;
    system = t.0.1.1.1.1.0;
    some = omega (arith, fit.0, is);
    few = held-few i f.n c (n_within f t.0.0) is;
    n = sym (ap (λ m. (13 + m * w + 23) / 24) (sym is) ∙ fit.1);
  }
    where
      t : NoneApplies (list_order f []) × (count.Of (generals_held f) ≡ count.Of c)
      t = order-told count.Refused (count.Of (generals_held f)) (count.Of c) (λ m. of-apart m c) (list_order f []) e

      is : generals_held f ≡ c
      is = of-inj (generals_held f) c t.1

      fit : (0 < generals_held f) × ((13 + generals_held f * w + 23) / 24 ≡ f.n)
      fit = let s = fitting-after 13 w f.n t.0.1.1.1.1.1.0 in (s.some, s.up)

-- ---- records that can be sent

module _ (h : Header) (a : GeneralHead) (gs : List General) (c : ℕ) (g0 : General) where
  abbrev d : ℕ
  d = delay_width a.ionosphere

  abbrev made : Frame
  made = frame_after (head_bits a) fill (coding d) h (take c gs)

  abbrev pub checks : List Check
  checks = (other_system a.system, 23) ∷ (wrong_count (most_generals d) c, 12) ∷ (head_out a || any_of (out_of_range d) (take c gs), 10) ∷ []

  told : (f : Frame) → make_generals h a gs c ≡ done_made f → NoneApplies (make_order layout.General h checks) × (done_made made ≡ done_made f)
  unfolding make_generals
  told f s = order-told refused_made (done_made made) (done_made f) (λ n. done-apart n f) (make_order layout.General h checks) s

  -- only what can be sent is made
  pub generals-told : (f : Frame) → c ≤ length gs → make_generals h a gs c ≡ done_made f → SendableGenerals h a gs c g0
  generals-told f there s = record {
    header = make-passed layout.General h checks t.0;
    head = head-told a t.0.1.1.1.0 out.0;
    some = (told-some-few c (most_generals d) t.0.1.1.1.1.0).0;
    few = (told-some-few c (most_generals d) t.0.1.1.1.1.0).1;
    there = there;
    ranges = λ i l. range-told d (get_or gs i g0) (at i l);
  }
    where
      t : NoneApplies (make_order layout.General h checks) × (done_made made ≡ done_made f)
      t = told f s

      out : (head_out a ≡ false) × (any_of (out_of_range d) (take c gs) ≡ false)
      out = both_false (head_out a) (any_of (out_of_range d) (take c gs)) t.0.1.1.1.1.1.0

      at : (i : ℕ) → i < c → out_of_range d (get_or gs i g0) ≡ false
      at i l = ap (out_of_range d) (sym (get_or-take c gs i g0 l)) ∙ told-entry (out_of_range d) (take c gs) g0 i out.1 (omega (arith, length-take c gs))

  module _ (s : SendableGenerals h a gs c g0) where
    size : length (take c gs) ≡ c
    size = omega (arith, length-take c gs, s.there)

    none : any_of (out_of_range d) (take c gs) ≡ false
    none = none-taken (out_of_range d) gs c g0 (λ i l. range-fine d (get_or gs i g0) (s.ranges i l))

    used : 13 + length (take c gs) * span (widths d) ≡ general_bits a c
    used = ap₂ (λ m k. 13 + m * k) size (span-is d)

    room : 13 + length (take c gs) * span (widths d) ≤ 744
    room = subst (λ m. m ≤ 744) (sym used) (sum (c * (32 + d)) (most_generals d * (32 + d)) (mul-le-mul_right (32 + d) s.few) (held-le 13 (32 + d) 31))
      where
        sum : (x y : ℕ) → x ≤ y → y ≤ 24 * 31 - 13 → 13 + x ≤ 744
        sum x y l r = omega arith

    fine : (xs : List General) → Each (λ g. Unit {0}) xs
    fine [] = tt
    fine (x ∷ xs) = (tt, fine xs)

    -- the laws of headed lists
    headed : HeadedReads head_coding (coding d) fill h a (take c gs) g0 made
    headed =
        headed-made head_coding (coding d) (Fine (λ x. Unit {0}) head_out) (Fine (λ g. Unit {0}) (out_of_range d)) head-faithful (faithful d) fill
        h a (take c gs) g0 (tt, head-fine a s.head) (each-fine (out_of_range d) (λ g. Unit {0}) (take c gs) (fine (take c gs)) none)
        s.header.inside room

    n-is : made.n ≡ general_words a c
    n-is = headed.n ∙ ap (λ m. (m + 23) / 24) used

    holds : HoldsGenerals made c
    holds = record {
      frame = frame-for layout.General made h headed.header headed.inside s.header;
      system = ap (λ (x : GeneralHead). other_system x.system) headed.head ∙ s.head.system;
      some = s.some;
      few = subst (λ (x : GeneralHead). c ≤ most_generals (delay_width x.ionosphere)) (sym headed.head) s.few;
      n = n-is ∙ ap (λ (x : GeneralHead). general_words x c) (sym headed.head);
    }

    made_reads : GeneralsMade h a gs c g0 made
    made_reads =
        let r = generals-read made c holds in
        record {
          header = headed.header;
          inside = headed.inside;
          counts = r.counts;
          head = r.head ∙ ap head.Head headed.head;
          entries = λ i l.
              r.entries i l ∙ ap (held_to no_satellite read.Refused read.Entry) (entry-is i l)
              ∙ sym (last-fine read.Refused (read.Entry (get_or gs i g0)) (no_satellite (get_or gs i g0)) 10 (some-satellite i l));
          n = n-is;
          fill = subst (λ m. FillAfter fill m (frame_bits made)) used headed.fill;
        }
      where
        entry-is : (i : ℕ) → i < c → general_in made i ≡ get_or gs i g0
        entry-is i l =
            ap (λ (x : GeneralHead). entry_after 13 (coding (delay_width x.ionosphere)) i (frame_bits made)) headed.head
            ∙ headed.entries i (omega (arith, size)) ∙ get_or-take c gs i g0 l

        some-satellite : (i : ℕ) → i < c → no_satellite (get_or gs i g0) ≡ false
        some-satellite i l = ne_eqb (get_or gs i g0).satellite 0 (λ z. omega (arith, (s.ranges i l).least, z))

    -- SENT: what can be sent is made, not refused, and reads back
    pub generals-sent : IsMade (make_generals h a gs c) (GeneralsMade h a gs c g0)
    unfolding make_generals
    generals-sent = record {
      frame = made;
      done = order-answers refused_made (done_made made) (make_order layout.General h checks)
          (make-passes layout.General h checks s.header
          (s.head.system, (some-few c (most_generals d) s.some s.few, (ap₂ ◌||◌ (head-fine a s.head) none, tt))));
      reads = made_reads;
    }

  -- MADE, THEN READ
  pub generals-made-read : (f : Frame) → c ≤ length gs → make_generals h a gs c ≡ done_made f → GeneralsMade h a gs c g0 f
  generals-made-read f there s = subst (GeneralsMade h a gs c g0) (done-frame (told f s).1) (made_reads (generals-told f there s))
