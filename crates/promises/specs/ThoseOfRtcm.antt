-- DEMAND 2, "Frames, parity and records are those of RTCM 10402 and the GPS parity rule as our papers condense them": what is answered for a word, a
-- byte, a header, a frame and a count, held against RULES 2 to 8. Assumes nothing.
use Rattle.std.specs.Prelude.{◌≡◌, ◌↔◌, ◌⊎◌, Bool, true, false, not, ℕ, suc, ◌+◌, ◌-◌, ◌*◌, ◌/◌, ◌^◌, ◌≤◌, ◌<◌, ℤ, pos, neg_ℤ, nat_abs, ◌-ℤ◌, ◌*ℤ◌, eqb, length, take, drop}
use mathlib.Core.List.{List, [], ◌∷◌, ◌++◌, map, Memᴰ}
use Rattle.std.specs.Int.Signed.{mag}
use Rattle.answer.specs.Order.{Says, answers}
use Rattle.bits.specs.Bits.{bits, number}
use Rattle.bits.specs.Signed.{signed, code}
use Rattle.line.specs.Line.{byte_of}
use Rattle.line.specs.Answer.{six_of, says_six}
use Rattle.word.specs.Word.{Row, rows, parity_bit, parity, d29*, d30*, D, data_of, passes}
use Rattle.word.specs.Answer.{remainder_at, word_of, says_sent}
use Rattle.word.specs.Tables.{table_parity}
use Rattle.frame.specs.Header.{state_of, preambled, n_of, header_of}
use Rattle.frame.specs.Frames.{turned_frame}
use Rattle.frame.specs.Widths.{state_outside, late}
use Rattle.frame.specs.Answer.{header_words, says_words}
use Rattle.frame.specs.declared.State.{State}
use Rattle.frame.specs.declared.State.TheVariants.{Factor, Unmonitored, Down}
use Rattle.frame.specs.declared.Header.{Header}
use Rattle.frame.specs.declared.Frame.{Frame}
use Rattle.frame.specs.declared.System.TheVariants.{Gps, Glonass}
use Rattle.stream.specs.Standing.{size, Stands, frame_at}
use Rattle.record_stages.specs.Stages.{says_count}
use Rattle.record_stages.specs.Lists.{width_of, counted}
use Rattle.record_corrections.specs.Corrections.{count_corrections}
use Rattle.record_corrections.specs.declared.Correction.{Correction}
use Rattle.record_corrections.specs.declared.Issue.TheVariants.{Iod, Age}
use Rattle.record_corrections.specs.Issues.{issue_in}
use Rattle.record_healths.specs.Healths.{count_healths}
use Rattle.record_observations.specs.Observations.{count_observations}
use Rattle.record_observations.specs.Editions.{quantity_of, mark_of}
use Rattle.record_observations.specs.declared.Edition.TheVariants.{Gost, Bd}
use Rattle.record_observations.specs.declared.Mark.TheVariants.{Half, Reserved, More}
use Rattle.record_healths.specs.declared.Condition.TheVariants.{Code, Data}
use Rattle.record_healths.specs.Conditions.{condition_of}
use Rattle.record_positions.specs.Positions.{read_position, says_position_read}
use Rattle.record_nulls.specs.Nulls.{read_null, says_null_read}
use Rattle.record_texts.specs.Texts.{read_text}
use Rattle.record_positions.specs.declared.Position.{Position}
use Rattle.record_fields.specs.Satellites.{satellite_of, satellite_code}
use Rattle.record_values.specs.Values.{Reading, exactly, stop, up_to, no_limit, db_hz, not_tracked, step_of, stops_use, hundredths_of}
use Rattle.record_values.specs.Answer.{prc_mm, rrc_mm_s, udre_limit, cn0_db_hz, minutes_of, z_tenths, letter_of}
use Rattle.record_values.specs.Answer.{says_distance, says_rate, says_limit, says_strength, says_time, says_since_hour, says_letter}
use Rattle.writer.specs.Answer.{written_by, says_written}
use Rattle.writer.specs.OneFrame.{Wrote, its_bits, WritesBack}
use Rattle.writer.specs.Streams.{AllWritable, stream_bytes, StreamWritten}
use Rattle.frame.specs.declared.Carried.{Carried}
use Rattle.promises.specs.RecordLayouts.{EachList}

-- "the GPS parity rule". A window is a word with the two bits before it.
pub record GpsParityRule : Type 0 where
  -- the remainder of a window is zero where the word passes
  pub remainder : (w : ℕ) → eqb (remainder_at w) 0 ≡ passes (bits 32 w)
  -- it passes exactly when each parity bit is that of its row of the table, the sum of the row's terms modulo 2
  pub each_row : (w : List Bool) → (passes w ≡ true) ↔ ((r : Row) → Memᴰ r rows → D w r.0 ≡ parity_bit (d29* w) (d30* w) (data_of w) r)
  -- the parity by the four tables of remainders is that of the six equations, for every word and carried pair
  pub tables : (c d : ℕ) → table_parity c d ≡ number (parity (d29* (bits 2 c)) (d30* (bits 2 c)) (bits 24 d))
  -- the word answered for data passes after its carried bits, and gives the data back
  pub sent-passes : (c d : ℕ) (w : List Bool) → says_sent (word_of c d) ≡ answers w
      → (passes (bits 2 c ++ w) ≡ true) × (data_of (bits 2 c ++ w) ≡ bits 24 d)
  -- and no other word passes: one that does is what is answered for its data
  pub only-sent : (w : List Bool) → length w ≡ 32 → passes w ≡ true
      → says_sent (word_of (number (take 2 w)) (number (data_of w))) ≡ answers (drop 2 w)
  -- turned over, it passes or fails alike and has the same data
  pub turned : (w : List Bool) → length w ≡ 32 → (passes (map not w) ≡ passes w) × (data_of (map not w) ≡ data_of w)

-- "Frames .. are those of RTCM 10402"
pub record FramesOfRtcm : Type 0 where
  -- a byte and its six bits
  pub byte-back : (b : ℕ) (ds : List Bool) → says_six (six_of b) ≡ answers ds → byte_of ds ≡ b
  pub six-back : (ds : List Bool) → length ds ≡ 6 → says_six (six_of (byte_of ds)) ≡ answers ds
  -- a header with N, and the data of its two words
  pub header-back : (h : Header) (n : ℕ) (a b : List Bool) → says_words (header_words h n) ≡ answers (a, b)
      → (header_of a b ≡ h) × (n_of b ≡ n) × (preambled a ≡ true)
  pub words_back : (a b : List Bool) → length a ≡ 24 → length b ≡ 24 → preambled a ≡ true
      → says_words (header_words (header_of a b) (n_of b)) ≡ answers (a, b)
  -- what is written after any two carried bits stands, and is that frame after these two
  pub written : (f : Frame) (c : Carried) (buffer : List ℕ) (k : ℕ) (c' : Carried) → length f.words ≡ 31
      → says_written (written_by f c buffer) ≡ answers (k, c') → Wrote f c buffer k c'
  -- a stream of `open` and any frames back to back has each of them standing at its place, and no other
  pub stream : (fs : List Frame) (buffer : List ℕ) → AllWritable fs → stream_bytes fs ≤ length buffer → StreamWritten fs buffer
  -- a frame that stands, written after its own two bits, gives its own bits; in the other polarity it is the same frame but for its pair, which is
  -- turned, and its bits are turned over
  pub written_back : (d : List Bool) (buffer : List ℕ) → Stands d → late (frame_at d).header.z ≡ false → 5 * size d ≤ length buffer
      → WritesBack d buffer × WritesBack (map not d) buffer
      × (frame_at (map not d) ≡ turned_frame (frame_at d)) × (its_bits (map not d) ≡ map not (its_bits d))

-- PRC or RRC, what is said of its number z, in two's complement of h + 1 bits: the lowest means stop and no other does; any other is exact, the number
-- times its step, at most 2^h - 1 steps to either side
pub record SaysExactly (h small large : ℕ) (says : ℕ → ℤ → Says Reading) : Type 0 where
  pub stops : (scale : ℕ) → scale ≤ 1 → says scale (neg_ℤ (pos (2 ^ h))) ≡ answers stop
  pub only : (scale : ℕ) (z : ℤ) → says scale z ≡ answers stop → z ≡ neg_ℤ (pos (2 ^ h))
  pub exact : (scale : ℕ) (z v : ℤ) → mag z < 2 ^ h → says scale z ≡ answers (exactly v)
      → (v ≡ z *ℤ pos (step_of small large scale)) × (nat_abs v ≤ (2 ^ h - 1) * step_of small large scale)

-- the limit of a UDRE code is so many mm times the factor of the state
abbrev pub LimitIs : ℕ → ℕ → Type 0
LimitIs code limit =
    (s : State) → state_outside s ≡ false → (mm : ℕ) × ((says_limit (udre_limit s code) ≡ answers (up_to mm)) × (mm * 100 ≡ limit * hundredths_of s))

-- ".. and records": what their numbers mean, and how many satellites N words hold
pub record RecordsOfRtcm : Type 0 where
  -- two's complement of h + 1 bits: a code below 2^h is its number, any other means its number less 2^(h+1); number and code are inverse
  pub below : (h n : ℕ) → n < 2 ^ h → signed h n ≡ pos n
  pub above : (h n : ℕ) → 2 ^ h ≤ n → n < 2 ^ suc h → signed h n ≡ pos n -ℤ pos (2 ^ suc h)
  pub signed_back : (h : ℕ) (z : ℤ) → mag z < 2 ^ h → signed h (code h z) ≡ z
  pub code-back : (h n : ℕ) → n < 2 ^ suc h → code h (signed h n) ≡ n
  -- a satellite's five bits: 0 is 32, 1 to 31 are themselves
  pub satellite-0 : satellite_of 0 ≡ 32
  pub satellite-n : (n : ℕ) → 1 ≤ n → n ≤ 31 → satellite_of n ≡ n
  pub satellite-back : (s : ℕ) → 0 < s → s ≤ 32 → satellite_of (satellite_code s) ≡ s
  pub satellite-code : (n : ℕ) → n < 32 → satellite_code (satellite_of n) ≡ n
  -- N of a plain list is the words that its bits take, rounded up
  pub lists-n : EachList (λ L. (f : Frame) (c : ℕ) → says_count (counted L f) ≡ answers c → f.n ≡ (c * width_of L f.header + 23) / 24)
  -- 3k satellites take 5k words, 3k + 1 take 5k + 2, 3k + 2 take 5k + 4: every count is one of these, so N is
  pub corrections-n : (f : Frame) (c k : ℕ) → says_count (count_corrections f) ≡ answers c
      → ((c ≡ 3 * k) ↔ (f.n ≡ 5 * k)) × ((c ≡ 3 * k + 1) ↔ (f.n ≡ 5 * k + 2)) × ((c ≡ 3 * k + 2) ↔ (f.n ≡ 5 * k + 4))
  -- types 5 and 33 have one word per satellite, types 3 and 32 N = 4, a null frame N = 0 or 1, types 16 and 36 N 1 to 30 with three
  -- characters a word, the last one or two fill
  pub healths-n : (f : Frame) (c : ℕ) → says_count (count_healths f) ≡ answers c → f.n ≡ c
  -- types 18 and 19 have a word and two for each satellite
  pub observations-n : (f : Frame) (c : ℕ) → says_count (count_observations f) ≡ answers c → f.n ≡ 2 * c + 1
  pub position-n : (f : Frame) (p : Position) → says_position_read (read_position f) ≡ answers p → f.n ≡ 4
  pub null-n : (f : Frame) (n : ℕ) → says_null_read (read_null f) ≡ answers n → (f.n ≡ n) × (n ≤ 1)
  -- the last eight bits of a correction are an IOD, or a change bit and tb; three health bits are a code, or the data health and two reserved bits
  pub issue-gps : (v : ℕ) → issue_in Gps v ≡ Iod v
  pub issue-glonass : (change tb : ℕ) → tb < 2 ^ 7 → issue_in Glonass (change * 2 ^ 7 + tb) ≡ Age change tb
  pub condition-gps : (v : ℕ) → condition_of Gps v ≡ Code v
  pub condition-glonass : (health reserved : ℕ) → reserved < 2 ^ 2 → condition_of Glonass (health * 2 ^ 2 + reserved) ≡ Data health reserved
  -- the first bit of a satellite: in GOST half a wavelength for type 18 and reserved for type 19, in BD that more frames follow
  pub mark-half : (b : ℕ) → mark_of Gost (quantity_of 18) b ≡ Half b
  pub mark-reserved : (b : ℕ) → mark_of Gost (quantity_of 19) b ≡ Reserved b
  pub mark-more : (kind b : ℕ) → mark_of Bd (quantity_of kind) b ≡ More b
  -- the characters of types 16 and 36 in Unicode: ASCII, then 64 letters from U+0410 on
  pub letter-ascii : (c : ℕ) → 1 ≤ c → c ≤ 127 → says_letter (letter_of c) ≡ answers c
  pub letter-russian : (c : ℕ) → 128 ≤ c → c ≤ 191 → says_letter (letter_of c) ≡ answers (0x0410 + (c - 128))
  pub text-n : (f : Frame) (buffer : List ℕ) (c : ℕ) → says_count (read_text f buffer) ≡ answers c
      → (1 ≤ f.n) × (f.n ≤ 30) × (c ≤ 3 * f.n) × (3 * f.n ≤ c + 2)
  -- PRC in steps of 20 mm, or 320 mm with scale 1; RRC in steps of 2 mm/s, or 32 mm/s
  pub prc : SaysExactly 15 20 320 (λ scale z. says_distance (prc_mm scale z))
  pub rrc : SaysExactly 7 2 32 (λ scale z. says_rate (rrc_mm_s scale z))
  -- an entry stops its satellite exactly when its PRC is -32768 or its RRC is -128; of any other, a usable one, both have their exact value
  pub stopped : (e : Correction) → (stops_use e.prc e.rrc ≡ true) ↔ ((e.prc ≡ neg_ℤ (pos 32768)) ⊎ (e.rrc ≡ neg_ℤ (pos 128)))
  pub usable : (e : Correction) → e.scale ≤ 1 → stops_use e.prc e.rrc ≡ false
      → (says_distance (prc_mm e.scale e.prc) ≡ answers (exactly (e.prc *ℤ pos (step_of 20 320 e.scale))))
      × (says_rate (rrc_mm_s e.scale e.rrc) ≡ answers (exactly (e.rrc *ℤ pos (step_of 2 32 e.scale))))
  -- the state that a health code means, factors in hundredths; not monitored and not working use factor 1
  pub states : map state_of (0 ∷ 1 ∷ 2 ∷ 3 ∷ 4 ∷ 5 ∷ 6 ∷ 7 ∷ [])
      ≡ Factor 100 ∷ Factor 75 ∷ Factor 50 ∷ Factor 30 ∷ Factor 20 ∷ Factor 10 ∷ Unmonitored ∷ Down ∷ []
  pub hundredths : (k : ℕ) → map hundredths_of (Factor k ∷ Unmonitored ∷ Down ∷ []) ≡ k ∷ 100 ∷ 100 ∷ []
  -- UDRE: 1 m, 4 m, 8 m, times the station's factor, each a whole number of mm; code 3 has no limit
  pub udre-0 : LimitIs 0 1000
  pub udre-1 : LimitIs 1 4000
  pub udre-2 : LimitIs 2 8000
  pub udre-3 : (s : State) → state_outside s ≡ false → says_limit (udre_limit s 3) ≡ answers no_limit
  -- C/N0: code 0 is not tracked, 1 to 31 are 25 to 55 dBHz
  pub cn0-0 : says_strength (cn0_db_hz 0) ≡ answers not_tracked
  pub cn0 : (code : ℕ) → 1 ≤ code → code ≤ 31 → says_strength (cn0_db_hz code) ≡ answers (db_hz (24 + code))
  -- the time of a health entry, 5 minutes each; a Z count, 0.6 s each
  pub minutes : (code : ℕ) → code ≤ 15 → says_time (minutes_of code) ≡ answers (5 * code)
  pub tenths : (z : ℕ) → z < 6000 → says_since_hour (z_tenths z) ≡ answers (6 * z)
