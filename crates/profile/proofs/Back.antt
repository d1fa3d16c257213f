-- What is cut is the list, in order, in frames of the profile; what can be cut is cut, and nothing else is. Assumes nothing.
use mathlib.Core.Path.{◌≡◌, sym, ap, subst, ◌∙◌}
use mathlib.Core.Bool.{false, not}
use mathlib.Core.List.{List, [], ◌∷◌, ◌++◌}
use Prim.Native.Nat.{ℕ, zero, suc, ◌+◌, ◌*◌, ◌/◌, ◌≤◌, ◌<◌}
use native.Mathlib.Omega.{arith}
use lib.Dec.{eqb}
use lib.IntN.{pos}
use lib.ListN.{length, take, drop, get_or, length-take, length-map, take-append-drop, drop_of_length-le, get_or-map}
use lib.Seq.{drop-drop, take-length, get_or-take}
use borrow.Author.Tests.{lt-leb, eq-eqb, eqb-true, not-false}
use Rattle.answer.specs.Order.{Check, NoneApplies}
use Rattle.answer.proofs.OrderLaws.{order-answers, order-told}
use Rattle.frame.specs.Frames.{blank}
use Rattle.frame.specs.Widths.{any_of, late}
use Rattle.frame.specs.Layout.{layout_of, system_of}
use Rattle.frame.specs.declared.Frame.{Frame}
use Rattle.frame.specs.declared.Header.{Header}
use Rattle.frame.specs.declared.Layout.TheVariants as layout
use Rattle.frame.specs.declared.System.TheVariants.{Gps}
use Rattle.record_fields.specs.Coding.{Each, frame_with}
use Rattle.record_stages.specs.declared.Count.TheVariants as count
use Rattle.record_stages.specs.Stages.{other_layout, wrong_count, make_order, refused_made, done_made, HeaderFor}
use Rattle.record_stages.specs.Lists.{ListMade}
use Rattle.record_stages.proofs.ListCode.{some-few}
use Rattle.record_stages.proofs.StageLaws.{done-apart as made-apart}
use Rattle.record_corrections.specs.declared.Correction.{Correction}
use Rattle.record_corrections.specs.declared.Issue.TheVariants.{Iod}
use Rattle.record_corrections.specs.Corrections.{coding, fill, out_of_range, Typed, correction_layout, HoldsCorrections}
use Rattle.record_corrections.specs.Corrections.{count_corrections, correction_at, make_corrections}
use Rattle.record_laws.proofs.PlainLists.{lists-made-read, lists-held, lists-sent, lists-told}
use Rattle.record_laws.proofs.CorrectionTrips.{corrections-owed}
use Rattle.profile.specs.Profile.{listed, satellite_number, repeated, InProfile, in-corrections}
use Rattle.profile.specs.Cutting.{rising, part, cut_frame, frame_count, cut_frames, satellites_of, cut_order, refused_cut, done_cut, cut_corrections}
use Rattle.profile.specs.Cutting.{Cuttable, Reads, ReadsAll, end, next, CutWell, IsCut}
use Rattle.profile.specs.Arms.{satellite_read}
use Rattle.profile.proofs.Twice.{apart-told, apart-fine}
use Rattle.profile.proofs.Parts.{once-take, once-drop, map-take, map-drop, length-listed, listed_at, each_take, each-drop, get_d_any}
use Rattle.profile.proofs.ArmLaws.{satellite-read}
use Rattle.profile.proofs.CutLaws.{Sound, part-size, part-made}

-- a correction for no satellite, where a list has none
abbrev nobody : Correction
nobody = record { scale = 0; udre = 0; satellite = 0; prc = pos 0; rrc = pos 0; issue = Iod 0 }

satellite-at : (es : List Correction) (i : ℕ) → get_or (satellites_of es) i 0 ≡ (get_or es i nobody).satellite
satellite-at es i = get_or-map (λ e. e.satellite) es i nobody

-- ---- one frame

module _ (h : Header) (es : List Correction) (s : Sound h es) (typed : Each Typed es) where
  module _ (i : ℕ) (there : 3 * i < length es) where
    made : (d : Correction) → ListMade correction_layout (rising h i) (part es i) (length (part es i)) d (cut_frame h es i)
    made d =
        lists-made-read correction_layout corrections-owed (rising h i) (part es i) (length (part es i)) d (cut_frame h es i) (omega arith)
        (subst (Each Typed) (sym (take-length (part es i))) (each_take Typed 3 (drop (3 * i) es) (each-drop Typed (3 * i) es typed)))
        (unfold make_corrections in part-made h es s i there)

    reads : Reads (cut_frame h es i) (part es i)
    unfolding count_corrections correction_at
    reads = record { counts = (made nobody).counts; entries = λ j d l. (made d).entries j l }

    kind-is : (cut_frame h es i).header.kind ≡ 9
    kind-is = ap (λ x. x.kind) (made nobody).header ∙ s.kind

    holds : HoldsCorrections (cut_frame h es i) (length (part es i))
    holds = lists-held correction_layout corrections-owed (cut_frame h es i) (length (part es i)) (made nobody).counts

    -- its satellites are those of its part
    satellite-is : (j : ℕ) → j < length (part es i) → satellite_number (cut_frame h es i) j ≡ get_or (satellites_of (part es i)) j 0
    satellite-is j l =
        sym (satellite-read (cut_frame h es i) (made nobody).inside (ap (λ x. late x.z) (made nobody).header ∙ s.hour) kind-is
        (length (part es i)) holds j l)
        ∙ ap satellite_read (reads.entries j nobody l) ∙ sym (satellite-at (part es i) j)

    module _ (once : repeated (satellites_of es) ≡ false) where
      once-part : repeated (satellites_of (part es i)) ≡ false
      once-part =
          ap repeated (map-take (λ e. e.satellite) 3 (drop (3 * i) es) ∙ ap (take 3) (map-drop (λ e. e.satellite) (3 * i) es))
          ∙ once-take 3 (drop (3 * i) (satellites_of es)) (once-drop (3 * i) (satellites_of es) once)

      of-profile : InProfile (cut_frame h es i)
      of-profile =
          in-corrections kind-is (length (part es i)) record {
            holds = holds;
            few = omega (arith, part-size es i);
            apart = λ a b l m q.
                apart-told (satellites_of (part es i)) once-part a b l (omega (arith, length-map (part es i) (λ e. e.satellite)))
                (sym (satellite-is a (omega arith)) ∙ q ∙ satellite-is b m);
          }

  -- ---- all of them, from number i on

  back : (n i : ℕ) → i + n ≡ frame_count (length es) → ReadsAll (listed (cut_frame h es) n i) (drop (3 * i) es)
  back zero i e = subst (ReadsAll []) (sym (drop_of_length-le es {i = 3 * i} (omega arith))) end
  back (suc n) i e =
      subst (ReadsAll (listed (cut_frame h es) (suc n) i)) joined
      (next (cut_frame h es i) (listed (cut_frame h es) n (suc i)) (part es i) (drop (3 * suc i) es) (reads i (omega arith)) (back n (suc i) (omega arith)))
    where
      three : 3 * i + 3 ≡ 3 * suc i
      three = omega arith

      joined : part es i ++ drop (3 * suc i) es ≡ drop (3 * i) es
      joined =
          ap (λ l. part es i ++ l) (sym (drop-drop 3 (3 * i) es ∙ ap (λ j. drop j es) three))
          ∙ take-append-drop 3 (drop (3 * i) es)

  all-inside : repeated (satellites_of es) ≡ false → (n i : ℕ) → i + n ≡ frame_count (length es) → Each InProfile (listed (cut_frame h es) n i)
  all-inside once zero i e = tt
  all-inside once (suc n) i e = (of-profile i (omega arith) once, all-inside once n (suc i) (omega arith))

  -- CUT WELL
  pub cut-well : repeated (satellites_of es) ≡ false → CutWell h es (cut_frames h es)
  cut-well once = record {
    number = many;
    headers = λ i l.
        ap (λ f. f.header) (listed_at (cut_frame h es) (frame_count (length es)) i blank (omega (arith, many)))
        ∙ (made i (omega (arith, many)) nobody).header;
    threes = λ i l.
        ap count_corrections (listed_at (cut_frame h es) (frame_count (length es)) i blank (omega (arith, many)))
        ∙ (reads i (omega (arith, many))).counts ∙ ap count.Of (full i (omega (arith, many)));
    back = back (frame_count (length es)) 0 (omega arith);
    inside = all-inside once (frame_count (length es)) 0 (omega arith);
  }
    where
      many : length (cut_frames h es) ≡ (length es + 2) / 3
      many = length-listed (cut_frame h es) (frame_count (length es)) 0

      full : (i : ℕ) → suc i < (length es + 2) / 3 → length (part es i) ≡ 3
      full i l = omega (arith, part-size es i)

-- ---- the answer

done-apart : (n : ℕ) (fs : List Frame) → refused_cut n ≡ done_cut fs → ⊥
unfolding refused_cut done_cut
done-apart n fs e = let z : ◌≡◌ {A = ℕ} 0 1 = cc (ap (λ u. u.answer) e) in omega arith

module _ (h : Header) (es : List Correction) (c : ℕ) where
  -- 10, by what making the whole list says, both ways
  abbrev whole : Frame
  whole = frame_with fill (coding (system_of h.kind)) h (take c es)

  abbrev makes : List Check
  makes = make_order layout.Correction h ((wrong_count 18 c, 12) ∷ (any_of (out_of_range (system_of h.kind)) (take c es), 10) ∷ [])

  gps : h.kind ≡ 9 → any_of (out_of_range (system_of h.kind)) (take c es) ≡ any_of (out_of_range Gps) (take c es)
  unfolding system_of
  gps e = ap (λ k. any_of (out_of_range (system_of k)) (take c es)) e

  ranges-fine : (f : Frame) → h.kind ≡ 9 → make_corrections h es c ≡ done_made f → any_of (out_of_range Gps) (take c es) ≡ false
  unfolding make_corrections
  ranges-fine f e q = sym (gps e) ∙ (order-told refused_made (done_made whole) (done_made f) (λ n. made-apart n f) makes q).0.1.1.1.1.0

  whole-made : h.kind ≡ 9 → NoneApplies (cut_order h es c) → make_corrections h es c ≡ done_made whole
  unfolding make_corrections other_layout layout_of
  whole-made e t =
      order-answers refused_made (done_made whole) makes
      (t.0, (ap (other_layout layout.Correction) e, (t.1.1.0, (t.1.1.1.0, (gps e ∙ t.1.1.1.1.0, tt)))))

  -- 22, by numbers of the list
  module _ (d : Correction) (there : c ≤ length es) where
    long : length (take c es) ≡ c
    long = omega (arith, length-take c es, there)

    at : (i : ℕ) → i < c → get_or (satellites_of (take c es)) i 0 ≡ (get_or es i d).satellite
    at i l =
        satellite-at (take c es) i ∙ ap (λ e. e.satellite) (get_or-take c es i nobody l ∙ get_d_any es i nobody d (omega arith))

    size : length (satellites_of (take c es)) ≡ c
    size = length-map (take c es) (λ e. e.satellite) ∙ long

    -- CUT: what can be cut is cut, not refused, and well
    cut-done : Each Typed (take c es) → Cuttable h es c d → IsCut (cut_corrections h es c) h (take c es)
    unfolding cut_corrections
    cut-done typed k = record {
      frames = cut_frames h (take c es);
      done = order-answers refused_cut (done_cut (cut_frames h (take c es))) (cut_order h es c)
          (header.inside, (not9, (hour, (few, (ranges, (once, tt))))));
      well = cut-well h (take c es) record {
        inside = header.inside;
        kind = k.kind;
        hour = hour;
        some = omega (arith, long, k.sendable.some);
        few = omega (arith, long, k.sendable.few);
        ranges = ranges;
      } typed once;
    }
      where
        header : HeaderFor layout.Correction h
        header = k.sendable.header

        not9 : not (eqb h.kind 9) ≡ false
        not9 = rw (eq-eqb h.kind 9 k.kind)

        hour : late h.z ≡ false
        hour = lt-leb 6000 h.z header.hour

        few : wrong_count 18 c ≡ false
        few = some-few c 18 k.sendable.some k.sendable.few

        ranges : any_of (out_of_range Gps) (take c es) ≡ false
        ranges = let m = lists-sent correction_layout corrections-owed h es c d typed k.sendable in
            ranges-fine m.frame k.kind (unfold make_corrections in m.done)

        once : repeated (satellites_of (take c es)) ≡ false
        once =
            apart-fine (satellites_of (take c es))
            (λ i j l m q. k.apart i j l (omega (arith, size)) (sym (at i (omega (arith, size))) ∙ q ∙ at j (omega (arith, size))))

    -- and only what can be cut is cut
    pub cut-told : (fs : List Frame) → cut_corrections h es c ≡ done_cut fs → Cuttable h es c d
    unfolding cut_corrections
    cut-told fs q = record {
      sendable = lists-told correction_layout corrections-owed h es c d whole there (unfold make_corrections in whole-made nine t);
      kind = nine;
      apart = λ i j l m s.
          apart-told (satellites_of (take c es)) t.1.1.1.1.1.0 i j l (omega (arith, size)) (at i (omega arith) ∙ s ∙ sym (at j m));
    }
      where
        t : NoneApplies (cut_order h es c)
        t = (order-told refused_cut (done_cut (cut_frames h (take c es))) (done_cut fs) (λ n. done-apart n fs) (cut_order h es c) q).0

        nine : h.kind ≡ 9
        nine = eqb-true h.kind 9 (not-false (eqb h.kind 9) t.1.0)

pub corrections-cut : (h : Header) (es : List Correction) (c : ℕ) (d : Correction) → Each Typed (take c es) → Cuttable h es c d
    → IsCut (cut_corrections h es c) h (take c es)
corrections-cut h es c d typed k = cut-done h es c d k.sendable.there typed k
