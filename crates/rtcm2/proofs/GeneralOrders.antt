-- The refusals of the calls on general corrections, each in ONE order: 23 stands between the two 8 where a frame is read, and before 12 where
-- one is made. Assumes nothing.
use mathlib.Core.Path.{◌≡◌, refl, ap, subst, sym, ◌∙◌}
use mathlib.Core.Bool.{Bool, true, false, cond}
use mathlib.Core.List.{List, [], ◌∷◌, ◌++◌}
use Prim.Native.Nat.{ℕ, ◌+◌, ◌*◌, ◌≤◌}
use native.Mathlib.Omega.{arith}
use lib.Dec.{eqb, leb}
use lib.ListN.{length, take, length-take}
use Rattle.answer.specs.Order.{refuses, answers, Check, in_order, NoneApplies}
use Rattle.answer.proofs.OrderLaws.{says-order}
use Rattle.bits.specs.Fields.{AreBytes, span}
use Rattle.bits.proofs.FieldLaws.{length-packed}
use Rattle.frame.specs.Widths.{outside}
use Rattle.frame.specs.declared.Frame.{Frame}
use Rattle.frame.specs.declared.Header.{Header}
use Rattle.frame.specs.declared.Layout.TheVariants as layout
use Rattle.journal.specs.Journal.{recall_order}
use Rattle.record_fields.specs.Tables.{row as numbered, codes_of}
use Rattle.record_fields.proofs.Headed.{after-inside}
use Rattle.record_stages.specs.Stages.{misfit_after, make_order, says_count}
use Rattle.record_stages.specs.declared.Count.TheVariants as count
use Rattle.record_stages.proofs.ListCode.{told-some-few}
use Rattle.record_generals.specs.declared.GeneralHead.{GeneralHead}
use Rattle.record_generals.specs.declared.General.{General}
use Rattle.record_generals.specs.declared.HeadRead.TheVariants as head_read
use Rattle.record_generals.specs.declared.GeneralRead.TheVariants as read
use Rattle.record_generals.specs.declared.GeneralNullRead.TheVariants as null-read
use Rattle.record_generals.specs.Generals as general
use Rattle.record_generals.specs.GeneralNulls as general-null
use Rattle.rtcm2_rows.specs.Generals.{row}
use Rattle.rtcm2.specs.Header.{headed}
use Rattle.rtcm2.specs.Frames.{frame_said, kept_to}
use Rattle.rtcm2.specs.Rows.{row_to}
use Rattle.rtcm2.specs.Generals.{count_said, head_said, entry_said, made_said, general_null_said, general_null_made}
use Rattle.rtcm2.specs.Orders.{frame_from, header_with}
use Rattle.rtcm2.specs.GeneralOrders.{generals_order, entry_checks, general_order, null_checks, general_null_order, delay_bits, general_rows}
use Rattle.rtcm2.specs.GeneralOrders.{general_count, generals_frame, generals_own, generals_made_order, general_null_frame, general_null_own, general_null_made_order}
use Rattle.rtcm2.proofs.ReadOrders.{read-order, record-order, row-order}
use Rattle.rtcm2.proofs.MakeOrders.{make-order, own-order}

module _ (bs : List ℕ) (fits : AreBytes bs) where
  abbrev F : Frame
  F = frame_from bs

  -- what every call on a list looks at behind the first 8
  abbrev behind : List Check → List Check
  behind more = (general.other_system (general.head_in F).system, 23) ∷ (misfit_after 13 (32 + general.delay_in F) F.n, 8) ∷ more

  -- COUNT: 14, 15, 16, 15, 16, 6, 7, 8, 23, 8
  pub generals-counted : count_said (frame_said bs) ≡ in_order (generals_order bs) refuses (answers (general.generals_held (frame_from bs)))
  unfolding general.count_generals
  generals-counted =
      record-order bs fits layout.General (general.too_short F.header.kind F.n) (behind []) says_count count.Refused (λ n. refl)
      general.count_generals (count.Of (general.generals_held F)) refl refl

  -- HEAD: the same
  pub head-order : head_said (frame_said bs) ≡ in_order (generals_order bs) refuses (answers (general.head_in (frame_from bs)))
  unfolding general.read_head
  head-order =
      record-order bs fits layout.General (general.too_short F.header.kind F.n) (behind []) general.says_head_read head_read.Refused (λ n. refl)
      general.read_head (head_read.Head (general.head_in F)) refl refl

  -- SATELLITE: 14, 15, 16, 15, 16, 6, 7, 8, 23, 8, 9, 10, and 13 for its row
  module _ (i : ℕ) where
    general-entry : entry_said (frame_said bs) i ≡ in_order (recall_order bs ++ entry_checks (frame_from bs) i) refuses (answers (general.general_in (frame_from bs) i))
    unfolding general.general_at
    general-entry =
        record-order bs fits layout.General (general.too_short F.header.kind F.n)
        (behind ((leb (general.generals_held F) i, 9) ∷ (general.no_satellite (general.general_in F i), 10) ∷ [])) general.says_general_read read.Refused
        (λ n. refl) (λ f. general.general_at f i) (read.Entry (general.general_in F i)) refl refl

    pub general-row-order : (lent : List ℕ) → row_to row (entry_said (frame_said bs) i) lent ≡ in_order (general_order bs i lent) refuses (answers tt)
    general-row-order lent =
        ap (λ s. row_to row s lent) general-entry ∙ row-order row (recall_order bs ++ entry_checks F i) (general.general_in F i) lent

  -- NULL of type 42: 14, 15, 16, 15, 16, 6, 7, 8, 23
  pub general-null-order : general_null_said (frame_said bs)
      ≡ in_order (general_null_order bs) refuses (answers ((frame_from bs).n, general-null.system_in (frame_from bs)))
  unfolding general-null.read_general_null
  general-null-order =
      read-order bs fits (λ f. general-null.says_general_null_read (general-null.read_general_null f)) [] (null_checks F) (F.n, general-null.system_in F)
      (says-order general-null.says_general_null_read null-read.Refused (λ n. refl) (null-read.Null F.n (general-null.system_in F))
      ((outside F, 5) ∷ null_checks F) refl)

-- ---- making

-- head and satellites of either layout fit 31 words, as many as there may be
few_bits : (ionosphere n : ℕ) → let d = general.delay_width ionosphere in n ≤ general.most_generals d → 13 + n * span (general.widths d) ≤ 744
few_bits ionosphere n = go (eqb ionosphere 0)
  where
    go : (t : Bool) → let d : ℕ = cond t 0 12 in n ≤ general.most_generals d → 13 + n * span (general.widths d) ≤ 744
    go true h = omega (arith, h)
    go false h = omega (arith, h)

module _ (kind station z sequence code : ℕ) where
  abbrev H : Header
  H = header_with kind station z sequence code

  -- MAKING: 5, 6, 7, 23, 12, 10, 13
  module _ (a : GeneralHead) (bs buffer : List ℕ) where
    abbrev made : Frame
    made = generals_frame kind station z sequence code a bs

    abbrev c : ℕ
    c = general_count kind station z sequence code a bs

    abbrev taken : List General
    taken = take c (general_rows kind station z sequence code a bs)

    -- head and satellites fit a frame once 12 has passed
    within : NoneApplies (make_order layout.General H (generals_own kind station z sequence code a bs)) → outside made ≡ false
    within none =
        after-inside (general.coding d) (general.head_bits a) general.fill H taken none.0
        (subst (λ m. m + length taken * span (general.widths d) ≤ 744)
        (sym (length-packed general.head_widths (codes_of general.head_widths (general.head_numbers a))))
        (few_bits a.ionosphere (length taken)
        (omega (arith, (told-some-few c (general.most_generals d) none.1.1.1.1.0).1, length-take c (general_rows kind station z sequence code a bs)))))
      where
        d : ℕ
        d = delay_bits kind station z sequence code a bs

    pub generals-made : kept_to (made_said (headed kind station z sequence code) a bs) buffer
        ≡ in_order (generals_made_order kind station z sequence code a bs buffer) refuses
        (answers (3 * (generals_frame kind station z sequence code a bs).n + 9))
    unfolding general.make_generals
    generals-made =
        make-order kind station z sequence code buffer layout.General (generals_own kind station z sequence code a bs) made
        (λ h. general.make_generals h a (general_rows kind station z sequence code a bs) c) refl within

  -- MAKING the null frame: 5, 6, 7, 23, 12, 13
  module _ (n system : ℕ) (buffer : List ℕ) where
    -- four bits of the system fit a frame
    one_word : NoneApplies (general_null_own kind station z sequence code n system)
        → outside (general_null_frame kind station z sequence code n system) ≡ false
    one_word none =
        after-inside (general.coding 0) (general-null.system_bits system) general.fill H [] none.0
        (omega (arith, length-packed (4 ∷ []) (codes_of (4 ∷ []) (numbered (system ∷ [])))))

    pub general-null-made : kept_to (general_null_made (headed kind station z sequence code) n system) buffer
        ≡ in_order (general_null_made_order kind station z sequence code n system buffer) refuses
        (answers (3 * (general_null_frame kind station z sequence code n system).n + 9))
    unfolding general-null.make_general_null
    general-null-made =
        own-order kind station z sequence code buffer (general_null_own kind station z sequence code n system)
        (general_null_frame kind station z sequence code n system) (λ h. general-null.make_general_null h n system) refl one_word
