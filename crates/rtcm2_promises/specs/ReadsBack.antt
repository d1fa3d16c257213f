-- DEMAND 2 of the library for C and Rust, "A record we write reads back equal": of every frame that a function makes or keeps, rtcm2_recall gives the
-- header's numbers, and the layout's own functions the record. Assumes nothing.
use Rattle.std.specs.Prelude.{◌≡◌, List, ◌++◌, ℕ, ◌+◌, ◌*◌, ◌≤◌, ◌<◌, ℤ, length, take, drop}
use Rattle.answer.specs.Order.{Says, answers}
use Rattle.bits.specs.Fields.{AreBytes}
use Rattle.frame.specs.declared.Frame.{Frame}
use Rattle.frame.specs.declared.System.TheVariants.{Gps}
use Rattle.record_fields.specs.Coding.{Coding}
use Rattle.record_positions.specs.Positions as position
use Rattle.rtcm2_rows.specs.Rows.{row_size, count_of}
use Rattle.rtcm2_rows.specs.Observations as entry-observations
use Rattle.rtcm2_rows.specs.Generals as entry-generals
use Rattle.rtcm2.specs.Answer.{and_then}
use Rattle.rtcm2.specs.Header.{headed}
use Rattle.rtcm2.specs.Frames.{frame_said, kept_to, keep_said, held_to, recall_said, kind_said, station_said, z_count_said, sequence_said, health_said, n_said, length_said}
use Rattle.rtcm2.specs.Rows.{row_to, row_held}
use Rattle.rtcm2.specs.Lists.{LibraryList, count_said, entry_said, made_said}
use Rattle.rtcm2.specs.Observations as observations
use Rattle.rtcm2.specs.Generals as generals
use Rattle.rtcm2.specs.Positions as positions
use Rattle.rtcm2.specs.Nulls as nulls
use Rattle.rtcm2.specs.Texts as texts
use Rattle.rtcm2_promises.specs.LibraryLists.{EachLibraryList}

-- the seven numbers that rtcm2_recall leaves
abbrev pub numbers_said : List ℕ → Says (ℕ × (ℕ × (ℕ × (ℕ × (ℕ × (ℕ × ℕ))))))
numbers_said bytes =
    and_then (recall_said bytes) (λ r. answers (kind_said r, (station_said r, (z_count_said r, (sequence_said r, (health_said r, (n_said r, length_said r)))))))

-- rows: how many, and into any bytes with room each row's own; what is put is the same in both systems
pub record RowsBack {A : Type 0} (row : Coding A) (rows : List ℕ) (counted : Says ℕ) (entry : ℕ → Says A) : Type 0 where
  pub counts : counted ≡ answers (count_of (row_size row) (length rows))
  pub answered : (i : ℕ) (lent : List ℕ) → i < count_of (row_size row) (length rows) → row_size row ≤ length lent → row_to row (entry i) lent ≡ answers tt
  pub each : (i : ℕ) (lent : List ℕ) → i < count_of (row_size row) (length rows) → row_size row ≤ length lent
      → row_held row (entry i) lent ≡ take (row_size row) (drop (i * row_size row) rows) ++ drop (row_size row) lent

-- of the five numbers of a header
module _ (kind station z sequence code : ℕ) where
  -- bytes that begin with a record of this size give the numbers back, and what else is read of them
  pub record Back (size : ℕ) (Reads : List ℕ → Type 0) (bytes : List ℕ) : Type 0 where
    pub n : ℕ
    pub long : size ≡ 3 * n + 9
    pub numbers : numbers_said bytes ≡ answers (kind, (station, (z, (sequence, (code, (n, size))))))
    pub reads : Reads bytes

  -- so does every frame that a call said and put into the bytes lent to it, whatever follows its record
  abbrev pub GivesBack : Says Frame → (List ℕ → Type 0) → Type 0
  GivesBack said Reads = (lent rest : List ℕ) (size : ℕ) → kept_to said lent ≡ answers size → Back size Reads (take size (held_to said lent) ++ rest)

  -- of a list, whatever rows were given
  abbrev pub ListGivesBack : LibraryList → Type 0
  ListGivesBack L = (rows : List ℕ) → AreBytes rows → GivesBack (made_said L (headed kind station z sequence code) rows)
      (λ bytes. RowsBack (L.row Gps) rows (count_said L (frame_said bytes)) (entry_said L (frame_said bytes)))

  -- every function that makes or keeps a frame
  pub record LibraryReadsBack : Type 0 where
    -- of each list the rows
    pub lists : EachLibraryList ListGivesBack
    -- in one edition: the head, and the rows
    pub make-observations : (e frequency smoothing time : ℕ) (rows : List ℕ) → AreBytes rows
        → GivesBack (observations.made_said e (headed kind station z sequence code) frequency smoothing time rows)
        (λ bytes. (observations.epoch_said (frame_said bytes) ≡ answers (record { frequency = frequency; smoothing = smoothing; time = time }))
        × RowsBack entry-observations.row rows (observations.count_said (frame_said bytes)) (observations.entry_said e (frame_said bytes)))
    -- the head, and the rows
    pub make-generals : (system signal ephemeris period ionosphere : ℕ) (rows : List ℕ) → AreBytes rows
        → let a = generals.head_of system signal ephemeris period ionosphere in
        GivesBack (generals.made_said (headed kind station z sequence code) a rows)
        (λ bytes. (generals.head_said (frame_said bytes) ≡ answers a)
        × RowsBack entry-generals.row rows (generals.count_said (frame_said bytes)) (generals.entry_said (frame_said bytes)))
    -- N and the system
    pub make-general-null : (n system : ℕ) → GivesBack (generals.general_null_made (headed kind station z sequence code) n system)
        (λ bytes. generals.general_null_said (frame_said bytes) ≡ answers (n, system))
    pub make-position : (x y up : ℤ) → position.Typed (record { x = x; y = y; z = up }) → GivesBack (positions.make_said kind station z sequence code x y up)
        (λ bytes. positions.position_said (frame_said bytes) ≡ answers (record { x = x; y = y; z = up }))
    pub make-null : (n : ℕ) → GivesBack (nulls.make_said kind station z sequence code n) (λ bytes. nulls.null_said (frame_said bytes) ≡ answers n)
    -- the characters, into any bytes with room for them
    pub make-text : (t : List ℕ) → GivesBack (texts.make_said kind station z sequence code t) (λ bytes. (text : List ℕ) → length t ≤ length text
        → (texts.text_said (frame_said bytes) text ≡ answers (length t)) × (texts.text_after (frame_said bytes) text ≡ t ++ drop (length t) text))
    -- the data words are the bytes from the tenth on
    pub keep : (words : List ℕ) → AreBytes words
        → GivesBack (keep_said kind station z sequence code words) (λ bytes. take (length words) (drop 9 bytes) ≡ words)

-- AND BACK: of any record that rtcm2_recall recalls, its header's numbers and its data words, kept again into any bytes with room, are its own bytes
abbrev pub KeptAgain : Type 0
KeptAgain = (bytes lent : List ℕ) (size : ℕ) (f : Frame) → AreBytes bytes → recall_said bytes ≡ answers (size, f) → size ≤ length lent
    → let r : ℕ × Frame = (size, f) in
    let said = keep_said (kind_said r) (station_said r) (z_count_said r) (sequence_said r) (health_said r) (take (3 * n_said r) (drop 9 bytes)) in
    (kept_to said lent ≡ answers size) × (held_to said lent ≡ take size bytes ++ drop size lent)
