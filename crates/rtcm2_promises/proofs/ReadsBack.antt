-- "A record we write reads back equal" holds of the library: of each frame that it makes or keeps, what the package reads back. Assumes nothing.
use mathlib.Core.Path.{◌≡◌, refl, sym, ap, subst, ◌∙◌}
use mathlib.Core.Bool.{not}
use mathlib.Core.List.{List, [], ◌∷◌, ◌++◌, append_assoc}
use Prim.Native.Nat.{ℕ, ◌*◌, ◌/◌, ◌%◌, ◌≤◌}
use native.Mathlib.Omega.{arith}
use lib.Dec.{ltb, eqb}
use lib.ListN.{length, take, drop, replicate, length-append}
use lib.Seq.{take_all, take_at, drop_at}
use borrow.Author.Tests.{eqb-true, not-false}
use Rattle.answer.specs.Order.{Says, refuses, answers, NoneApplies}
use Rattle.answer.proofs.OrderLaws.{order-told, refuses-apart}
use Rattle.bits.specs.Bits.{number}
use Rattle.bits.specs.Fields.{AreBytes}
use Rattle.bits.specs.Rows.{words_in}
use Rattle.frame.specs.Header.{first_word, second_word}
use Rattle.frame.specs.Frames.{framed, data_words, words_of}
use Rattle.frame.specs.Widths.{any_of}
use Rattle.frame.specs.Layout.{system_of}
use Rattle.frame.specs.declared.Frame.{Frame}
use Rattle.frame.specs.declared.Header.{Header}
use Rattle.frame.specs.declared.Layout.TheVariants as layout
use Rattle.frame.specs.declared.System.{System}
use Rattle.frame.specs.declared.System.TheVariants.{Gps}
use Rattle.frame.proofs.FrameLaws.{data-framed}
use Rattle.journal.specs.Bytes.{bytes_of, written, words_from}
use Rattle.journal.specs.Journal.{record_of}
use Rattle.journal.proofs.ByteLaws.{length-bytes}
use Rattle.journal.proofs.WordLaws.{written-words}
use Rattle.record_fields.specs.Coding.{entry_bits, frame_with}
use Rattle.record_stages.specs.Stages.{wrong_count, make_order, says_count, says_made}
use Rattle.record_stages.specs.Lists.{ListLayout, coding_of, list_order, counted, entry_at, made}
use Rattle.record_stages.proofs.ListCode.{told-some-few}
use Rattle.record_laws.proofs.PlainLists.{lists-made-read}
use Rattle.record_positions.specs.Positions as position
use Rattle.record_positions.specs.declared.Position.{Position}
use Rattle.record_nulls.specs.Nulls as null
use Rattle.record_texts.specs.Texts as text
use Rattle.rtcm2_rows.specs.Rows.{row_size, count_of, entry_of, entries_from}
use Rattle.rtcm2_rows.proofs.RowLaws.{length-entries}
use Rattle.rtcm2_rows.proofs.Trips.{each_read}
use Rattle.rtcm2.specs.Header.{headed}
use Rattle.rtcm2.specs.Frames.{frame_said, words_said}
use Rattle.rtcm2.specs.Lists.{LibraryList, count_said, entry_said, made_said}
use Rattle.rtcm2.specs.Generals.{head_of}
use Rattle.rtcm2.specs.Positions as positions
use Rattle.rtcm2.specs.Nulls as nulls
use Rattle.rtcm2.specs.Texts as texts
use Rattle.rtcm2.specs.Orders.{header_with}
use Rattle.promises.proofs.CarriesItsNumber.{says-inj}
use Rattle.promises.specs.ReadsBack.{PlainBack}
use Rattle.promises.proofs.PairBeside.{made_told}
use Rattle.promises.proofs.ReadsBack.{list_back as Plain-back}
use Rattle.promises.proofs.Demand2.{reads-back-equal}
use Rattle.rtcm2_promises.specs.ReadsBack.{GivesBack, RowsBack, LibraryReadsBack}
use Rattle.rtcm2_promises.proofs.LibraryLists.{Owed, each-list}
use Rattle.rtcm2_promises.proofs.Framed.{made_none, framed-by}
use Rattle.rtcm2_promises.proofs.KeptBack.{gives_back}
use Rattle.rtcm2_promises.proofs.ObservationsBack.{observations-back}
use Rattle.rtcm2_promises.proofs.RowsBack.{rows_back}
use Rattle.rtcm2_promises.proofs.GeneralsBack.{generals-back, general-null-back}

-- ---- what is made is a frame of its header and words

module _ (h : Header) where
  position-framed : (p : Position) (f : Frame) → says_made (position.make_position h p) ≡ answers f → (ws : List ℕ) × (framed h ws ≡ f)
  unfolding position.make_position frame_with
  position-framed p =
      framed-by (make_order layout.Position h ((position.out_of_range p, 10) ∷ [])) h (words_in position.fill (entry_bits position.coding (p ∷ [])))
      (position.make_position h p) refl

  null-framed : (n : ℕ) (f : Frame) → says_made (null.make_null h n) ≡ answers f → (ws : List ℕ) × (framed h ws ≡ f)
  unfolding null.make_null
  null-framed n = framed-by (make_order layout.Null h ((null.too_many n, 12) ∷ [])) h (replicate n null.fill) (null.make_null h n) refl

  text-framed : (t : List ℕ) (f : Frame) → says_made (text.make_text h t) ≡ answers f → (ws : List ℕ) × (framed h ws ≡ f)
  unfolding text.make_text frame_with
  text-framed t =
      framed-by (make_order layout.Text h ((wrong_count 90 (length t), 12) ∷ (any_of (text.forbidden (system_of h.kind)) t, 11) ∷ [])) h
      (words_in text.fill (entry_bits text.coding t)) (text.make_text h t) refl

-- ---- a list: the rows of the type's system

module _ (L : LibraryList) (o : Owed L) (kind station z sequence code : ℕ) (rows : List ℕ) (b : AreBytes rows) where
  abbrev P : ListLayout
  P = L.plain

  abbrev s : System
  s = system_of kind

  abbrev head : Header
  head = header_with kind station z sequence code

  abbrev all : List P.Entry
  all = entries_from (L.row s) P.most rows

  abbrev count : ℕ
  count = count_of (row_size (L.row s)) (length rows)

  whole : (f : Frame) → says_made (made P head all count) ≡ answers f → (ws : List ℕ) × (framed head ws ≡ f)
  unfolding frame_with
  whole = framed-by (list_order P head all count) head (words_in P.pattern (entry_bits (coding_of P head) (take count all))) (made P head all count) refl

  few : (f : Frame) → says_made (made P head all count) ≡ answers f → count ≤ P.most
  few f e = (told-some-few count P.most
      (made_none (list_order P head all count) (frame_with P.pattern (coding_of P head) head (take count all)) (made P head all count) refl f e
      ).1.1.1.0).1

  -- what is made of the rows reads back
  back : (f : Frame) → says_made (made P head all count) ≡ answers f → PlainBack P head all count (entry_of (L.row s) []) f
  back f e =
      Plain-back P o.plain head all count (entry_of (L.row s) []) f
      (lists-made-read P o.plain head all count (entry_of (L.row s) []) f (omega (arith, few f e, length-entries (L.row s) P.most rows))
      (each_read (L.row s) P.Typed (o.typed s) P.most count rows b) (made_told (made P head all count) f e))

  -- what is put is the same in both systems
  in_both : (n : Says ℕ) (e : ℕ → Says P.Entry) → RowsBack (L.row s) rows n e → RowsBack (L.row Gps) rows n e
  in_both n e r =
      let q = subst (λ k. RowsBack k rows n e) (o.puts s) r in
      record { counts = q.counts; answered = q.answered; each = q.each }

  list_back : GivesBack kind station z sequence code (made_said L (headed kind station z sequence code) rows)
      (λ bytes. RowsBack (L.row Gps) rows (count_said L (frame_said bytes)) (entry_said L (frame_said bytes)))
  list_back =
      gives_back kind station z sequence code
      (λ h. let k = L.row (system_of h.kind) in says_made (made P h (entries_from k P.most rows) (count_of (row_size k) (length rows)))) _ whole
      (λ f rest e said. let r = back f e in
      let read : ℕ → Says P.Entry = λ i. P.says (entry_at P f i) in
      subst (λ v. RowsBack (L.row Gps) rows (count_said L v) (entry_said L v)) (sym said)
      (in_both (says_count (counted P f)) read
      (rows_back (L.row s) (o.again s) P.most rows b (says_count (counted P f)) read (few f e) r.counted r.each)))

-- ---- a frame of any type: its data words are the bytes of its record from the tenth on

pub record-data : (f : Frame) (rest : List ℕ) → drop 9 (record_of f ++ rest) ≡ written 3 (data_words f) ++ rest
unfolding record_of words_of written
record-data f rest =
    ap (drop 6) (append_assoc a (b ++ ws) rest ∙ ap (λ l. a ++ l) (append_assoc b ws rest) ∙ sym (append_assoc a b (ws ++ rest)))
    ∙ drop_at (a ++ b) (ws ++ rest) 6
    (omega (arith, length-append a b, length-bytes 3 (number (first_word f.header)), length-bytes 3 (number (second_word f.header f.n))))
  where
    a : List ℕ
    a = bytes_of 3 (number (first_word f.header))

    b : List ℕ
    b = bytes_of 3 (number (second_word f.header f.n))

    ws : List ℕ
    ws = written 3 (data_words f)

module _ (h : Header) (words : List ℕ) (fits : AreBytes words) (f : Frame) (e : words_said h words ≡ answers f) where
  abbrev n : ℕ
  n = length words / 3

  told : NoneApplies ((not (eqb (length words % 3) 0), 5) ∷ (ltb 31 n, 5) ∷ []) × (framed h (words_from 3 n words) ≡ f)
  told =
      let made = framed h (words_from 3 n words) in
      let t = order-told refuses (answers made) (answers f) (λ m. refuses-apart m f) ((not (eqb (length words % 3) 0), 5) ∷ (ltb 31 n, 5) ∷ []) e in
      (t.0, says-inj t.1)

  words-framed : (ws : List ℕ) × (framed h ws ≡ f)
  words-framed = (words_from 3 n words, told.1)

  words-again : written 3 (data_words f) ≡ words
  words-again =
      ap (λ (g : Frame). written 3 (data_words g)) (sym told.1) ∙ ap (written 3) (data-framed h (words_from 3 n words))
      ∙ written-words 3 n words fits (omega arith)
      ∙ take_all (3 * n) words (omega (arith, eqb-true (length words % 3) 0 (not-false (eqb (length words % 3) 0) told.0.0)))

-- ---- every function that makes or keeps a frame

module _ (kind station z sequence code : ℕ) where
  abbrev H : Header
  H = header_with kind station z sequence code

  pub library-reads-back : LibraryReadsBack kind station z sequence code
  library-reads-back = record {
    lists = each-list (λ L o. list_back L o kind station z sequence code);
    make-observations = λ e f s t rows b.
        observations-back kind station z sequence code e (record { frequency = f; smoothing = s; time = t }) rows b;
    make-generals = λ system signal ephemeris period ionosphere rows b.
        generals-back kind station z sequence code (head_of system signal ephemeris period ionosphere) rows b;
    make-general-null = λ n system. general-null-back kind station z sequence code n system;
    make-position = λ x y up typed.
        let p : Position = record { x = x; y = y; z = up } in
        gives_back kind station z sequence code (λ h. says_made (position.make_position h p)) _ (position-framed H p)
        (λ f rest e s. ap positions.position_said s ∙ (reads-back-equal.position H p f typed e).reads);
    make-null = λ n.
        gives_back kind station z sequence code (λ h. says_made (null.make_null h n)) _ (null-framed H n)
        (λ f rest e s. ap nulls.null_said s ∙ (reads-back-equal.null H n f e).reads);
    make-text = λ t.
        gives_back kind station z sequence code (λ h. says_made (text.make_text h t)) _ (text-framed H t)
        (λ f rest e s lent l. (
          ap (λ v. texts.text_said v lent) s ∙ (reads-back-equal.text H t f e).reads lent l,
          ap (λ v. texts.text_after v lent) s ∙ (reads-back-equal.text H t f e).writes lent l,
        ));
    keep = λ words fits.
        gives_back kind station z sequence code (λ h. words_said h words) _ (λ f e. words-framed H words fits f e)
        (λ f rest e s.
        ap (take (length words)) (record-data f rest ∙ ap (λ l. l ++ rest) (words-again H words fits f e)) ∙ take_at words rest (length words) refl);
  }
