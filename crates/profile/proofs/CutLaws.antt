-- Cutting, step by step: a part as it is made is the frame of the part, and what making the whole list says of the first checks. Assumes nothing.
use mathlib.Core.Path.{◌≡◌, sym, ap, ◌∙◌}
use mathlib.Core.Bool.{Bool, true, false}
use mathlib.Core.List.{List, [], ◌∷◌, ◌++◌}
use Prim.Native.Nat.{ℕ, ◌+◌, ◌*◌, ◌-◌, ◌/◌, ◌≤◌, ◌<◌, min}
use native.Mathlib.Omega.{arith}
use lib.Dec.{eqb}
use lib.ListN.{length, take, drop, length-take, length-drop}
use lib.Seq.{take_all, take-length, take-take}
use Rattle.answer.specs.Order.{Check, in_order, NoneApplies}
use Rattle.answer.proofs.OrderLaws.{order-append, order-map, order-answers, order-told}
use Rattle.frame.specs.Widths.{any_of, header_outside, late}
use Rattle.frame.specs.Layout.{layout_of, system_of}
use Rattle.frame.specs.declared.Frame.{Frame}
use Rattle.frame.specs.declared.Header.{Header}
use Rattle.frame.specs.declared.Layout.TheVariants as layout
use Rattle.frame.specs.declared.System.{System}
use Rattle.frame.specs.declared.System.TheVariants.{Gps}
use Rattle.frame.proofs.WidthLaws.{to_inside, from-inside}
use Rattle.record_fields.specs.Coding.{frame_with}
use Rattle.record_stages.specs.Stages.{other_layout, wrong_count, make_order, refused_made, done_made}
use Rattle.record_stages.specs.declared.Made.{Made}
use Rattle.record_stages.specs.declared.Making.{Making}
use Rattle.record_stages.specs.declared.Making.TheVariants as making
use Rattle.record_stages.proofs.ListCode.{some-few, told-some-few}
use Rattle.record_corrections.specs.declared.Correction.{Correction}
use Rattle.record_corrections.specs.Corrections.{coding, fill, out_of_range, make_corrections}
use Rattle.profile.specs.declared.Cut.{Cut}
use Rattle.profile.specs.declared.Cutting.TheVariants as cutting
use Rattle.profile.specs.Profile.{repeated, listed}
use Rattle.profile.specs.Cutting.{rising, part, cut_frame, frame_count, cut_frames, satellites_of, no_frames, refused_cut, done_cut, cut_corrections}
use Rattle.profile.specs.Arms.{made_part}
use Rattle.profile.proofs.Parts.{part-taken, none-take, none-drop, map-take, listed-alike, length-listed}

-- ---- a frame as the code makes it

-- making looks at the entries below the count alone
made-front : (h : Header) (a b : List Correction) (c : ℕ) → take c a ≡ take c b → make_corrections h a c ≡ make_corrections h b c
unfolding make_corrections
made-front h a b c e =
    ap (λ t. in_order (make_order layout.Correction h ((wrong_count 18 c, 12) ∷ (any_of (out_of_range (system_of h.kind)) t, 10) ∷ [])) refused_made
    (done_made (frame_with fill (coding (system_of h.kind)) h t))) e

pub part-size : (es : List Correction) (i : ℕ) → length (part es i) ≡ min 3 (length es - 3 * i)
part-size es i = length-take 3 (drop (3 * i) es) ∙ ap (min 3) (length-drop (3 * i) es)

-- an array that begins with the three entries, and as many of them as are left
pub made-part : (h : Header) (es front : List Correction) (c i size : ℕ) → c ≤ length es → take 3 front ≡ take 3 (drop (3 * i) es)
    → size ≡ min 3 (c - 3 * i) → (make_corrections (rising h i) front size).frame ≡ made_part h (take c es) i
unfolding made_part
made-part h es front c i size l e is =
    ap (λ m. m.frame)
    (made-front (rising h i) front (part (take c es) i) size same
    ∙ ap (make_corrections (rising h i) (part (take c es) i)) (sym long))
  where
    long : length (part (take c es) i) ≡ size
    long = omega (arith, part-size (take c es) i, length-take c es, is, l)

    few : size ≤ 3
    few = omega (arith, is)

    same : take size front ≡ take size (part (take c es) i)
    same =
        sym (take-take size 3 front few) ∙ ap (take size) e ∙ take-take size 3 (drop (3 * i) es) few
        ∙ ap (λ j. take j (drop (3 * i) es)) is ∙ sym (part-taken 3 (3 * i) c es) ∙ sym (take_all size (part (take c es) i) (omega (arith, long)))

-- ---- a frame of a list that can be cut

-- what the checks before 22 leave
pub record Sound (h : Header) (es : List Correction) : Type 0 where
  pub inside : header_outside h ≡ false
  pub kind : h.kind ≡ 9
  pub hour : late h.z ≡ false
  pub some : 1 ≤ length es
  pub few : length es ≤ 18
  pub ranges : any_of (out_of_range Gps) es ≡ false

pub rising_inside : (h : Header) (i : ℕ) → header_outside h ≡ false → header_outside (rising h i) ≡ false
rising_inside h i e =
    let k = to_inside h e in
    from-inside (rising h i) record {
      least = k.least;
      most = k.most;
      station = k.station;
      z = k.z;
      sequence = omega arith;
      state = k.state;
    }

module _ (h : Header) (es : List Correction) (s : Sound h es) (i : ℕ) (there : 3 * i < length es) where
  size : (1 ≤ length (part es i)) × (length (part es i) ≤ 3)
  size = (omega (arith, part-size es i, there), omega (arith, part-size es i))

  pub part-made : make_corrections (rising h i) (part es i) (length (part es i)) ≡ done_made (cut_frame h es i)
  unfolding make_corrections other_layout layout_of system_of cut_frame
  part-made =
      ap (λ y. in_order (make_order layout.Correction (rising h i) (more y)) refused_made (done_made (frame_with fill (coding y) (rising h i) all)))
      (ap system_of s.kind)
      ∙ order-answers refused_made (done_made (frame_with fill (coding Gps) (rising h i) all)) (make_order layout.Correction (rising h i) (more Gps)) (
        rising_inside h i s.inside,
        (
          ap (other_layout layout.Correction) s.kind,
          (
            s.hour,
            (some-few (length (part es i)) 18 size.0 (omega (arith, size)), (fine, tt)),
          ),
        ),
      )
      ∙ ap (λ t. done_made (frame_with fill (coding Gps) (rising h i) t)) (take-length (part es i))
    where
      all : List Correction
      all = take (length (part es i)) (part es i)

      more : System → List Check
      more y = (wrong_count 18 (length (part es i)), 12) ∷ (any_of (out_of_range y) all, 10) ∷ []

      fine : any_of (out_of_range Gps) all ≡ false
      fine =
          ap (any_of (out_of_range Gps)) (take-length (part es i))
          ∙ none-take (out_of_range Gps) 3 (drop (3 * i) es) (none-drop (out_of_range Gps) (3 * i) es s.ranges)

  made-is : made_part h es i ≡ cut_frame h es i
  unfolding made_part done_made
  made-is = ap (λ m. m.frame) part-made

-- all of them
pub parts-made : (h : Header) (es : List Correction) → Sound h es → listed (made_part h es) (frame_count (length es)) 0 ≡ cut_frames h es
parts-made h es s = listed-alike (made_part h es) (cut_frame h es) (frame_count (length es)) 0 (λ j l. made-is h es s j (omega arith))

-- ---- the checks: 5, 6, then what making the whole list says, then 22

pub cut5 : (h : Header) (es : List Correction) (c : ℕ) → header_outside h ≡ true → refused_cut 5 ≡ cut_corrections h es c
unfolding cut_corrections
cut5 h es c e = rw e

module _ (h : Header) (es : List Correction) (c : ℕ) (inside : header_outside h ≡ false) where
  pub cut6 : eqb h.kind 9 ≡ false → refused_cut 6 ≡ cut_corrections h es c
  unfolding cut_corrections
  cut6 e = rw (inside, e)

  module _ (kind : h.kind ≡ 9) (m : Made) (is : m ≡ make_corrections h es c) where
    abbrev middle : List Check
    middle = (late h.z, 7) ∷ (wrong_count 18 c, 12) ∷ (any_of (out_of_range Gps) (take c es), 10) ∷ []

    abbrev last : List Check
    last = (repeated (satellites_of (take c es)), 22) ∷ []

    abbrev done : Cut
    done = done_cut (cut_frames h (take c es))

    -- what making answers is what the checks in the middle say
    answer-is : m.answer ≡ in_order middle making.Refused making.Done
    unfolding make_corrections other_layout layout_of system_of refused_made done_made
    answer-is =
        ap (λ x. x.answer)
        (is
        ∙ ap (λ y. in_order (make_order layout.Correction h (more y)) refused_made (done_made (frame_with fill (coding y) h (take c es)))) (ap system_of kind)
        ∙ first)
        ∙ order-map (λ x. x.answer) middle refused_made (done_made (frame_with fill (coding Gps) h (take c es)))
      where
        more : System → List Check
        more y = (wrong_count 18 c, 12) ∷ (any_of (out_of_range y) (take c es), 10) ∷ []

        first : in_order (make_order layout.Correction h (more Gps)) refused_made (done_made (frame_with fill (coding Gps) h (take c es)))
            ≡ in_order middle refused_made (done_made (frame_with fill (coding Gps) h (take c es)))
        first = rw (inside, ap (other_layout layout.Correction) kind)

    past6 : cut_corrections h es c ≡ in_order (middle ++ last) refused_cut done
    unfolding cut_corrections
    past6 = rw (inside, kind)

    abbrev on_made : Making → Cut
    on_made making.Done = in_order last refused_cut done
    on_made (making.Refused n) = refused_cut n

    by_answer : cut_corrections h es c ≡ on_made m.answer
    by_answer =
        past6 ∙ order-append middle last refused_cut done ∙ sym (order-map on_made middle making.Refused making.Done) ∙ ap on_made (sym answer-is)

    pub cut-unmade : (n : ℕ) → m.answer ≡ making.Refused n → refused_cut n ≡ cut_corrections h es c
    cut-unmade n e = sym (by_answer ∙ ap on_made e)

    module _ (e : m.answer ≡ making.Done) where
      none : NoneApplies middle
      none = (order-told making.Refused making.Done making.Done apart middle (sym answer-is ∙ e)).0
        where
          apart : (n : ℕ) → making.Refused n ≡ making.Done → ⊥
          apart n q = let z : ◌≡◌ {A = ℕ} 0 1 = cc in omega arith

      pub count_most : c ≤ 18
      count_most = (told-some-few c 18 none.1.0).1

      -- 22 alone is left
      left22 : (b : Bool) → repeated (take c (satellites_of es)) ≡ b → cut_corrections h es c ≡ in_order ((b, 22) ∷ []) refused_cut done
      left22 b t =
          by_answer ∙ ap on_made e
          ∙ ap (λ x. in_order ((x, 22) ∷ []) refused_cut done) (ap repeated (map-take (λ x. x.satellite) c es) ∙ t)

      pub cut22 : repeated (take c (satellites_of es)) ≡ true → refused_cut 22 ≡ cut_corrections h es c
      cut22 t = sym (left22 true t)

      pub cut-done : length es ≡ 18 → repeated (take c (satellites_of es)) ≡ false → (fs : List Frame)
          → fs ≡ listed (made_part h (take c es)) ((c + 2) / 3) 0 ++ drop ((c + 2) / 3) no_frames
          → record { answer = cutting.Frames ((c + 2) / 3); frames = fs } ≡ cut_corrections h es c
      unfolding done_cut
      cut-done full t fs q =
          ap (λ x. record { answer = cutting.Frames ((c + 2) / 3); frames = x }) filled
          ∙ ap (λ n. record { answer = cutting.Frames n; frames = cut_frames h (take c es) ++ drop n no_frames }) (sym many) ∙ sym (left22 false t)
        where
          long : length (take c es) ≡ c
          long = omega (arith, length-take c es, full, count_most)

          sound : Sound h (take c es)
          sound = record {
            inside = inside;
            kind = kind;
            hour = none.0;
            some = omega (arith, long, told-some-few c 18 none.1.0);
            few = omega (arith, long, count_most);
            ranges = none.1.1.0;
          }

          many : length (cut_frames h (take c es)) ≡ (c + 2) / 3
          many = length-listed (cut_frame h (take c es)) (frame_count (length (take c es))) 0 ∙ ap frame_count long

          filled : fs ≡ cut_frames h (take c es) ++ drop ((c + 2) / 3) no_frames
          filled =
              q
              ∙ ap (λ l. l ++ drop ((c + 2) / 3) no_frames)
              (ap (λ n. listed (made_part h (take c es)) (frame_count n) 0) (sym long) ∙ parts-made h (take c es) sound)
