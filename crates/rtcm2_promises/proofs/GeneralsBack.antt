-- General corrections that the library makes read back: the head, and each row's own bytes; and the null frame of type 42. Assumes nothing.
use mathlib.Core.Path.{◌≡◌, refl, sym, ap, subst, ◌∙◌}
use mathlib.Core.Bool.{Bool, true, false, cond, ◌||◌}
use mathlib.Core.List.{List, [], ◌∷◌, ◌++◌}
use Prim.Native.Nat.{ℕ, ◌≤◌}
use native.Mathlib.Omega.{arith}
use lib.Dec.{eqb}
use lib.ListN.{length, take}
use Rattle.answer.specs.Order.{answers}
use Rattle.bits.specs.Fields.{AreBytes}
use Rattle.bits.specs.Rows.{words_in}
use Rattle.frame.specs.Frames.{framed}
use Rattle.frame.specs.Widths.{any_of, header_outside, late}
use Rattle.frame.specs.declared.Frame.{Frame}
use Rattle.frame.specs.declared.Header.{Header}
use Rattle.frame.specs.declared.Layout.TheVariants as layout
use Rattle.record_fields.specs.Coding.{entry_bits, frame_after}
use Rattle.record_stages.specs.Stages.{wrong_count, wrong_size, make_order, says_count, says_made}
use Rattle.record_stages.proofs.ListCode.{told-some-few}
use Rattle.record_generals.specs.declared.GeneralHead.{GeneralHead}
use Rattle.record_generals.specs.declared.General.{General}
use Rattle.record_generals.specs.Generals as general
use Rattle.record_generals.specs.GeneralNulls as general-null
use Rattle.rtcm2_rows.specs.Rows.{row_size, count_of, entry_of, entries_from}
use Rattle.rtcm2_rows.specs.Generals as general-bytes
use Rattle.rtcm2_rows.proofs.RowLaws.{length-entries}
use Rattle.rtcm2_rows.proofs.Trips.{row-again}
use Rattle.rtcm2_rows.proofs.GeneralRows.{faithful}
use Rattle.rtcm2.specs.Frames.{frame_said}
use Rattle.rtcm2.specs.Header.{headed}
use Rattle.rtcm2.specs.Generals.{count_said, head_said, entry_said, made_said, general_null_said, general_null_made}
use Rattle.rtcm2.specs.Orders.{header_with}
use Rattle.promises.specs.GeneralsBack.{GeneralsBack}
use Rattle.promises.proofs.CarriesItsNumber.{carries-its-number, none_told}
use Rattle.promises.proofs.Demand2.{reads-back-equal}
use Rattle.rtcm2_promises.specs.ReadsBack.{GivesBack, RowsBack}
use Rattle.rtcm2_promises.proofs.Framed.{framed-by}
use Rattle.rtcm2_promises.proofs.KeptBack.{gives_back}
use Rattle.rtcm2_promises.proofs.RowsBack.{rows_back}

-- at most 22 satellites in either layout
most-22 : (ionosphere c : ℕ) → c ≤ general.most_generals (general.delay_width ionosphere) → c ≤ 22
most-22 ionosphere c = go (eqb ionosphere 0)
  where
    go : (t : Bool) → let d : ℕ = cond t 0 12 in c ≤ general.most_generals d → c ≤ 22
    go true h = omega (arith, h)
    go false h = omega (arith, h)

module _ (h : Header) (a : GeneralHead) (rows : List ℕ) (b : AreBytes rows) where
  abbrev all : List General
  all = entries_from general-bytes.row 22 rows

  abbrev c : ℕ
  c = count_of (row_size general-bytes.row) (length rows)

  abbrev d : ℕ
  d = general.delay_width a.ionosphere

  abbrev none : General
  none = entry_of general-bytes.row []

  whole : (f : Frame) → says_made (general.make_generals h a all c) ≡ answers f → (ws : List ℕ) × (framed h ws ≡ f)
  unfolding general.make_generals frame_after
  whole =
      framed-by (make_order layout.General h ((general.other_system a.system, 23) ∷ (wrong_count (general.most_generals d) c, 12)
      ∷ (general.head_out a || any_of (general.out_of_range d) (take c all), 10) ∷ [])) h
      (words_in general.fill (general.head_bits a ++ entry_bits (general.coding d) (take c all))) (general.make_generals h a all c) refl

  module _ (f : Frame) (e : says_made (general.make_generals h a all c) ≡ answers f) where
    few : c ≤ 22
    few =
        most-22 a.ionosphere c
        (told-some-few c (general.most_generals d) (none_told (carries-its-number.make-generals h a all c) f e).1.1.1.1.0).1

    back : GeneralsBack h a all c none f
    back = reads-back-equal.generals h a all c none f (length-entries general-bytes.row 22 rows) e

    general-rows-back : RowsBack general-bytes.row rows (says_count (general.count_generals f)) (λ i. general.says_general_read (general.general_at f i))
    general-rows-back =
        rows_back general-bytes.row (row-again general-bytes.row general-bytes.Typed faithful refl) 22 rows b
        (says_count (general.count_generals f)) (λ i. general.says_general_read (general.general_at f i)) few back.counted back.each

module _ (kind station z sequence code : ℕ) where
  abbrev H : Header
  H = header_with kind station z sequence code

  -- what reads back of bytes: the head, and the rows
  pub generals-back : (a : GeneralHead) (rows : List ℕ) (b : AreBytes rows)
      → GivesBack kind station z sequence code (made_said (headed kind station z sequence code) a rows)
      (λ bytes. (head_said (frame_said bytes) ≡ answers a)
      × RowsBack general-bytes.row rows (count_said (frame_said bytes)) (entry_said (frame_said bytes)))
  generals-back a rows b =
      gives_back kind station z sequence code
      (λ h. says_made (general.make_generals h a (entries_from general-bytes.row 22 rows) (count_of (row_size general-bytes.row) (length rows)))) _
      (whole H a rows b)
      (λ f rest e s.
      subst (λ v. (head_said v ≡ answers a) × RowsBack general-bytes.row rows (count_said v) (entry_said v)) (sym s)
      ((back H a rows b f e).head, general-rows-back H a rows b f e))

  -- the null frame: N and the system
  null-framed : (n system : ℕ) (f : Frame) → says_made (general-null.make_general_null H n system) ≡ answers f → (ws : List ℕ) × (framed H ws ≡ f)
  unfolding general-null.make_general_null frame_after
  null-framed n system =
      framed-by ((header_outside H, 5) ∷ (general-null.other_than_null kind, 6) ∷ (late z, 7) ∷ (general.other_system system, 23) ∷ (wrong_size 1 n, 12) ∷ []) H
      (words_in general.fill (general-null.system_bits system ++ entry_bits (general.coding 0) [])) (general-null.make_general_null H n system) refl

  pub general-null-back : (n system : ℕ) → GivesBack kind station z sequence code (general_null_made (headed kind station z sequence code) n system)
      (λ bytes. general_null_said (frame_said bytes) ≡ answers (n, system))
  general-null-back n system =
      gives_back kind station z sequence code (λ h. says_made (general-null.make_general_null h n system)) _ (null-framed n system)
      (λ f rest e s. ap general_null_said s ∙ (reads-back-equal.general-null H n system f e).reads)
