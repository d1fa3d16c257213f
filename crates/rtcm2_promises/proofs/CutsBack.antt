-- What the library cuts is kept record after record, and is cut well. Assumes nothing.
use mathlib.Core.Path.{◌≡◌, refl, sym, ap, subst, ◌∙◌}
use mathlib.Core.Bool.{Bool, true, false, cond}
use mathlib.Core.List.{List, [], ◌∷◌, ◌++◌, append_assoc}
use Prim.Native.Nat.{ℕ, ◌+◌, ◌*◌}
use native.Mathlib.Omega.{arith}
use lib.Dec.{ltb}
use lib.ListN.{length, take, drop}
use lib.Seq.{take_all, take_at, drop_at}
use Rattle.answer.specs.Order.{Says, refuses, answers, NoneApplies}
use Rattle.answer.proofs.OrderLaws.{order-told, refuses-apart}
use Rattle.bits.specs.Fields.{AreBytes}
use Rattle.frame.specs.Frames.{bare}
use Rattle.frame.specs.declared.Frame.{Frame}
use Rattle.frame.specs.declared.Header.{Header}
use Rattle.frame.specs.declared.System.TheVariants.{Gps}
use Rattle.journal.specs.Journal.{record_of, says_recalled}
use Rattle.journal.proofs.KeepLaws.{length-record}
use Rattle.journal.proofs.RoundTrip.{recall-record}
use Rattle.record_fields.specs.Coding.{Each}
use Rattle.record_stages.proofs.ListCode.{told-some-few}
use Rattle.record_corrections.specs.declared.Correction.{Correction}
use Rattle.record_corrections.specs.Corrections.{Typed}
use Rattle.profile.specs.Cutting.{cut_frames, cut_order, cut_corrections, says_cut, frame_count}
use Rattle.profile.proofs.Parts.{each_take}
use Rattle.profile.proofs.CutLaws.{Sound}
use Rattle.profile.proofs.Back.{cut-well}
use Rattle.profile.proofs.Said.{Whole, all_whole, own_pair, cut-said, sound}
use Rattle.rtcm2_rows.specs.Rows.{row_size, count_of, entries_from}
use Rattle.rtcm2_rows.specs.Corrections.{row}
use Rattle.rtcm2_rows.proofs.RowLaws.{length-entries}
use Rattle.rtcm2_rows.proofs.Trips.{each_read}
use Rattle.rtcm2.specs.Header.{headed}
use Rattle.rtcm2.specs.Frames.{recall_said}
use Rattle.rtcm2.specs.Beacon.{cut_said, records_of, kept_all, held_all}
use Rattle.rtcm2.specs.Orders.{header_with}
use Rattle.rtcm2.proofs.MakeOrders.{headed-order}
use Rattle.promises.proofs.CarriesItsNumber.{says-inj}
use Rattle.rtcm2_promises.specs.CutsBack.{RecallsAll, CutBack, LibraryCutsBack}
use Rattle.rtcm2_promises.proofs.LibraryLists.{correction-typed}

-- the records of frames that can be kept, one after the other, are recalled
recalls-all : (fs : List Frame) (rest : List ℕ) → Each Whole fs → Each (λ f. bare f ≡ f) fs → RecallsAll fs (records_of fs ++ rest)
recalls-all [] rest w o = tt
recalls-all (f ∷ fs) rest w o = (
  ap recall_said front ∙ ap says_recalled (recall-record f w.0.1 w.0.0 (records_of fs ++ rest)) ∙ ap (λ g. answers (3 * f.n + 9, g)) o.0,
  subst (RecallsAll fs)
      (sym (ap (drop (3 * f.n + 9)) front ∙ drop_at (record_of f) (records_of fs ++ rest) (3 * f.n + 9) (length-record f w.0.0 w.0.1)))
      (recalls-all fs rest w.1 o.1),
)
  where
    front : (record_of f ++ records_of fs) ++ rest ≡ record_of f ++ (records_of fs ++ rest)
    front = append_assoc (record_of f) (records_of fs) rest

-- what was said and kept: its frames, and their records at the start of the bytes
record Said (said : Says (List Frame)) (lent : List ℕ) (size : ℕ) : Type 0 where
  frames : List Frame
  is : said ≡ answers frames
  held : take size (held_all said lent) ≡ records_of frames

said-kept : (said : Says (List Frame)) (lent : List ℕ) (size : ℕ) → kept_all said lent ≡ answers size → Said said lent size
said-kept (answers fs) lent size e = record { frames = fs; is = refl; held = go (ltb (length lent) (length (records_of fs))) e }
  where
    go : (b : Bool) → cond b (refuses 13) (answers (length (records_of fs))) ≡ answers size
        → take size (cond b lent (records_of fs ++ drop (length (records_of fs)) lent)) ≡ records_of fs
    go true q = absurd (refuses-apart 13 size q)
    go false q = take_at (records_of fs) (drop (length (records_of fs)) lent) size (says-inj q)
said-kept (refuses n) lent size e = absurd (refuses-apart n size e)

module _ (kind station z sequence code : ℕ) (rows : List ℕ) (b : AreBytes rows) where
  abbrev H : Header
  H = header_with kind station z sequence code

  abbrev es : List Correction
  es = entries_from (row Gps) 18 rows

  abbrev c : ℕ
  c = count_of (row_size (row Gps)) (length rows)

  -- a health over 7 would be refused
  headed-told : (fs : List Frame) → cut_said (headed kind station z sequence code) rows ≡ answers fs → says_cut (cut_corrections H es c) ≡ answers fs
  headed-told fs e = go (ltb 7 code) (sym (headed-order kind station z sequence code (λ h. says_cut (cut_corrections h es c))) ∙ e)
    where
      go : (t : Bool) → cond t (refuses 5) (says_cut (cut_corrections H es c)) ≡ answers fs → says_cut (cut_corrections H es c) ≡ answers fs
      go true q = absurd (refuses-apart 5 fs q)
      go false q = q

  -- the frames are those of the list, and no check applied
  told : (fs : List Frame) → says_cut (cut_corrections H es c) ≡ answers fs → NoneApplies (cut_order H es c) × (cut_frames H (take c es) ≡ fs)
  told fs e =
      let t = order-told refuses (answers (cut_frames H (take c es))) (answers fs) (λ n. refuses-apart n fs) (cut_order H es c) (sym (cut-said H es c) ∙ e) in
      (t.0, says-inj t.1)

  typed : Each Typed es
  typed =
      subst (Each Typed) (take_all 18 es (omega (arith, length-entries (row Gps) 18 rows)))
      (each_read (row Gps) Typed (correction-typed Gps) 18 18 rows b)

  cut-back : (fs : List Frame) (rest : List ℕ) → cut_said (headed kind station z sequence code) rows ≡ answers fs
      → CutBack kind station z sequence code rows (records_of fs ++ rest)
  cut-back fs rest e =
      subst (λ l. CutBack kind station z sequence code rows (records_of l ++ rest)) t.1 record {
        frames = cut_frames H (take c es);
        recalls = recalls-all (cut_frames H (take c es)) rest (all_whole H (take c es) s) (own_pair H (take c es) (frame_count (length (take c es))) 0);
        well = cut-well H (take c es) s (each_take Typed c es typed) t.0.1.1.1.1.1.0;
      }
    where
      t : NoneApplies (cut_order H es c) × (cut_frames H (take c es) ≡ fs)
      t = told fs (headed-told fs e)

      s : Sound H (take c es)
      s = sound H es c (omega (arith, told-some-few c 18 t.0.1.1.1.0, length-entries (row Gps) 18 rows)) t.0

pub library-cuts-back : LibraryCutsBack
library-cuts-back kind station z sequence code rows lent rest size b e =
    let said = cut_said (headed kind station z sequence code) rows in
    let k = said-kept said lent size e in
    subst (λ l. CutBack kind station z sequence code rows (l ++ rest)) (sym k.held) (cut-back kind station z sequence code rows b k.frames rest k.is)
