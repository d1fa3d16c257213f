-- The three calls on a list, each in ONE order, over the list: by what its layout owes. Assumes nothing.
use mathlib.Core.Path.{◌≡◌, refl, ap, ◌∙◌}
use mathlib.Core.Bool.{false}
use mathlib.Core.List.{List, [], ◌++◌}
use Prim.Native.Nat.{ℕ, ◌+◌, ◌*◌, ◌≤◌}
use native.Mathlib.Omega.{arith}
use lib.ListN.{length, take, length-take}
use Rattle.answer.specs.Order.{refuses, answers, in_order}
use Rattle.bits.specs.Fields.{AreBytes}
use Rattle.frame.specs.Layout.{system_of}
use Rattle.frame.specs.declared.Frame.{Frame}
use Rattle.frame.specs.declared.Header.{Header}
use Rattle.frame.specs.declared.System.{System}
use Rattle.frame.specs.declared.System.TheVariants.{Gps}
use Rattle.journal.specs.Journal.{recall_order}
use Rattle.record_stages.specs.Stages.{wrong_count, entries_held, misfit, says_count}
use Rattle.record_stages.specs.Lists.{ListLayout, coding_of, width_of, said_at, counted, entry_at, made}
use Rattle.record_stages.specs.declared.Count.TheVariants as count
use Rattle.record_stages.proofs.ListCode.{told-some-few}
use Rattle.record_laws.proofs.PlainLists.{OwedList}
use Rattle.rtcm2_rows.specs.Rows.{row_size, count_of, entries_from}
use Rattle.rtcm2.specs.Header.{headed}
use Rattle.rtcm2.specs.Frames.{frame_said, kept_to}
use Rattle.rtcm2.specs.Rows.{row_to}
use Rattle.rtcm2.specs.Lists.{LibraryList, count_said, entry_said, made_said}
use Rattle.rtcm2.specs.Orders.{frame_from, record_checks, header_with}
use Rattle.rtcm2.specs.ListOrders as orders
use Rattle.rtcm2.proofs.ReadOrders.{record-order, row-order}
use Rattle.rtcm2.proofs.MakeOrders.{entries-order}

module _ (L : LibraryList) (o : OwedList L.plain) where
  abbrev P : ListLayout
  P = L.plain

  module _ (bs : List ℕ) (fits : AreBytes bs) where
    abbrev F : Frame
    F = frame_from bs

    abbrev w : ℕ
    w = width_of P F.header

    -- COUNT: 14, 15, 16, 15, 16, 6, 7, 8
    pub count-order : count_said L (frame_said bs) ≡ in_order (orders.count_order L bs) refuses (answers (entries_held w F.n))
    count-order =
        record-order bs fits P.asked (misfit w F.n) [] says_count count.Refused (λ n. refl) (counted P) (count.Of (entries_held w F.n)) refl refl

    -- ENTRY: 14, 15, 16, 15, 16, 6, 7, 8, 9, 10 where reading has it, and 13 for its row
    pub entry-order : (i : ℕ) (lent : List ℕ)
        → row_to (L.row Gps) (entry_said L (frame_said bs) i) lent ≡ in_order (orders.entry_order L bs i lent) refuses (answers tt)
    entry-order i lent =
        ap (λ s. row_to (L.row Gps) s lent)
        (record-order bs fits P.asked (misfit w F.n) (orders.entry_checks L bs i) P.says P.refused o.says-refused
        (λ f. entry_at P f i) (P.entry (said_at P F i)) (o.says-entry (said_at P F i)) refl)
        ∙ row-order (L.row Gps) (recall_order bs ++ record_checks P.asked F (misfit w F.n) (orders.entry_checks L bs i)) (said_at P F i) lent

  -- MAKING: 5, 6, 7, 12, 10, 13
  module _ (kind station z sequence code : ℕ) (bs buffer : List ℕ) where
    abbrev s : System
    s = system_of kind

    abbrev H : Header
    H = header_with kind station z sequence code

    abbrev es : List P.Entry
    es = orders.rows_from L kind station z sequence code bs

    abbrev c : ℕ
    c = orders.row_count L kind station z sequence code bs

    pub list-made : kept_to (made_said L (headed kind station z sequence code) bs) buffer
        ≡ in_order (orders.list_order L kind station z sequence code bs buffer) refuses
        (answers (3 * (orders.list_frame L kind station z sequence code bs).n + 9))
    list-made =
        entries-order kind station z sequence code buffer P.asked (coding_of P H) P.pattern (take c es)
        (orders.own_checks L kind station z sequence code bs)
        (λ h. let k = L.row (system_of h.kind) in made P h (entries_from k P.most bs) (count_of (row_size k) (length bs)))
        refl (λ none. o.room s (length (take c es)) (few none.0))
      where
        few : wrong_count P.most c ≡ false → length (take c es) ≤ P.most
        few e = omega (arith, (told-some-few c P.most e).1, length-take c es)
