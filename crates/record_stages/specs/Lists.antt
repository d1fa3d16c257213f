-- List layouts: a layout as data, and what follows from it: its count, its entry by number and a frame made of its entries, each in its
-- order; which lists can be sent, and which frames can be read. Assumes nothing.
use Rattle.std.specs.Prelude.{◌≡◌, Bool, false, cond, List, [], ◌∷◌, ℕ, ◌+◌, ◌*◌, ◌/◌, ◌%◌, ◌≤◌, ◌<◌, eqb, length, take, get_or}
use Rattle.answer.specs.Order.{Says, Check, in_order}
use Rattle.bits.specs.Fields.{span}
use Rattle.bits.specs.Rows.{FillAfter}
use Rattle.frame.specs.Widths.{any_of, outside}
use Rattle.frame.specs.declared.Header.{Header}
use Rattle.frame.specs.declared.Frame.{Frame}
use Rattle.frame.specs.declared.Layout.{Layout}
use Rattle.frame.specs.declared.System.{System}
use Rattle.frame.specs.Layout.{system_of}
use Rattle.record_fields.specs.Coding.{Coding, frame_bits, entry_in, frame_with}
use Rattle.record_stages.specs.declared.Count.{Count}
use Rattle.record_stages.specs.declared.Count.TheVariants as count
use Rattle.record_stages.specs.declared.Made.{Made}
use Rattle.record_stages.specs.Stages.{wrong_count, count_in, entries_held, misfit, read_order, entry_order, make_order}
use Rattle.record_stages.specs.Stages.{refused_made, done_made, HeaderFor, FrameFor}

module _ {A : Type 0} (asked : Layout) (k : Coding A) where
  -- COUNT: 5, 6, 7, 8
  abbrev pub list_count : Frame → Count
  list_count f = count_in asked (span k.widths) f

  -- ENTRY, by a range for reading: 5, 6, 7, 8, 9, 10; of a layout that has none, `λ e. false`
  abbrev pub list_ranged : {B : Type 0} → (A → Bool) → (ℕ → B) → (A → B) → Frame → ℕ → B
  list_ranged out refuse entry f i =
      in_order (entry_order asked (span k.widths) f i ((out (entry_in k i (frame_bits f)), 10) ∷ [])) refuse (entry (entry_in k i (frame_bits f)))

  -- MAKING: 5, 6, 7, 12, 10; the entries past the count are not looked at
  abbrev pub list_made : (pattern most : ℕ) → (A → Bool) → Header → List A → ℕ → Made
  list_made pattern most out h es c =
      in_order (make_order asked h ((wrong_count most c, 12) ∷ (any_of out (take c es), 10) ∷ [])) refused_made
      (done_made (frame_with pattern k h (take c es)))

-- what is answered for an entry that is there, by its range for reading: 10, or the entry
abbrev pub held_to : {A B : Type 0} → (A → Bool) → (ℕ → B) → (A → B) → A → B
held_to out refuse entry e = in_order ((out e, 10) ∷ []) refuse (entry e)

-- A made frame f reads back: its header, its count, every entry; it is within its widths, N is worked out, its fill is standard
pub record MadeReads {A B : Type 0} (k : Coding A) (pattern : ℕ) (counting : Frame → Count) (at : Frame → ℕ → B) (entry : A → B)
    (h : Header) (es : List A) (c : ℕ) (d : A) (f : Frame) : Type 0 where
  pub header : f.header ≡ h
  pub inside : outside f ≡ false
  pub counts : counting f ≡ count.Of c
  pub entries : (i : ℕ) → i < c → at f i ≡ entry (get_or es i d)
  pub n : f.n ≡ (c * span k.widths + 23) / 24
  pub fill : FillAfter pattern (c * span k.widths) (frame_bits f)

-- A LIST THAT CAN BE SENT: its header is for the layout; 1 to `most` entries, all of them there; each in its range
pub record Sendable {A : Type 0} (asked : Layout) (most : ℕ) (InRange : A → Type 0) (h : Header) (es : List A) (c : ℕ) (d : A) : Type 0 where
  pub header : HeaderFor asked h
  pub some : 1 ≤ c
  pub few : c ≤ most
  pub there : c ≤ length es
  pub ranges : (i : ℕ) → i < c → InRange (get_or es i d)

-- A FRAME THAT HOLDS A LIST of c entries: it is for the layout, c is 1 to `most`, N is the words that c entries take
pub record Holding {A : Type 0} (asked : Layout) (k : Coding A) (most : ℕ) (f : Frame) (c : ℕ) : Type 0 where
  pub frame : FrameFor asked f
  pub some : 1 ≤ c
  pub few : c ≤ most
  pub n : f.n ≡ (c * span k.widths + 23) / 24

-- its count is read, and so is every entry below the count: what the frame's bits say
pub record ListRead {A B : Type 0} (k : Coding A) (counting : Frame → Count) (at : Frame → ℕ → B) (entry : A → B) (f : Frame) (c : ℕ) : Type 0 where
  pub counts : counting f ≡ count.Of c
  pub entries : (i : ℕ) → i < c → at f i ≡ entry (entry_in k i (frame_bits f))

-- ---- A PLAIN LIST LAYOUT AS DATA: entries alone, by tables, over the system

pub record ListLayout : Type 1 where
  -- an entry; the answer to reading one, a refusal's number or the entry, and what it says in the table's terms
  pub Entry : Type 0
  pub Read : Type 0
  pub refused : ℕ → Read
  pub entry : Entry → Read
  pub says : Read → Says Entry
  -- its case among the layouts; the fields of an entry; the fill of the last word; the most entries of a frame
  pub asked : Layout
  pub coding : System → Coding Entry
  pub pattern : ℕ
  pub most : ℕ
  -- refusal 10 of making, and whether reading has it too; in words of the rules, which entries that are read it is for
  pub out : System → Entry → Bool
  pub ranged : Bool
  pub late : Entry → Bool
  -- what the types of the fields say of an entry; its range, in words of the rules
  pub Typed : Entry → Type 0
  pub InRange : System → Entry → Type 0

module _ (L : ListLayout) where
  -- a header's type has the system: its coding, and the bits of an entry
  abbrev pub coding_of : Header → Coding L.Entry
  coding_of h = L.coding (system_of h.kind)

  abbrev pub width_of : Header → ℕ
  width_of h = span (coding_of h).widths

  -- what a frame's bits say of entry number i
  abbrev pub said_at : Frame → ℕ → L.Entry
  said_at f i = entry_in (coding_of f.header) i (frame_bits f)

  -- the orders: COUNT 5, 6, 7, 8; ENTRY 5, 6, 7, 8, 9, and 10 where reading has it; MAKING 5, 6, 7, 12, 10
  abbrev pub count_order : Frame → List Check
  count_order f = read_order L.asked f (misfit (width_of f.header) f.n) []

  abbrev pub range_order : Frame → ℕ → List Check
  range_order f i = cond L.ranged ((L.out (system_of f.header.kind) (said_at f i), 10) ∷ []) []

  abbrev pub at_order : Frame → ℕ → List Check
  at_order f i = entry_order L.asked (width_of f.header) f i (range_order f i)

  abbrev pub list_order : Header → List L.Entry → ℕ → List Check
  list_order h es c = make_order L.asked h ((wrong_count L.most c, 12) ∷ (any_of (L.out (system_of h.kind)) (take c es), 10) ∷ [])

  -- THE ANSWERS
  abbrev pub counted : Frame → Count
  counted f = in_order (count_order f) count.Refused (count.Of (entries_held (width_of f.header) f.n))

  abbrev pub entry_at : Frame → ℕ → L.Read
  entry_at f i = in_order (at_order f i) L.refused (L.entry (said_at f i))

  abbrev pub made : Header → List L.Entry → ℕ → Made
  made h es c = in_order (list_order h es c) refused_made (done_made (frame_with L.pattern (coding_of h) h (take c es)))

  -- STANDARD FILL of a frame with c entries: the pattern; entries that are whole words leave nothing to fill
  abbrev pub StandardFill : Frame → ℕ → Type 0
  StandardFill f c = eqb (width_of f.header % 24) 0 ≡ false → FillAfter L.pattern (c * width_of f.header) (frame_bits f)

  -- made, then read
  abbrev pub ListMade : Header → List L.Entry → ℕ → L.Entry → Frame → Type 0
  ListMade h = MadeReads (coding_of h) L.pattern counted entry_at L.entry h

  -- c entries that can be sent; a frame that holds c entries
  abbrev pub SendableList : Header → List L.Entry → ℕ → L.Entry → Type 0
  SendableList h = Sendable L.asked L.most (L.InRange (system_of h.kind)) h

  abbrev pub HoldsList : Frame → ℕ → Type 0
  HoldsList f = Holding L.asked (coding_of f.header) L.most f

  -- its count is read, and so is every entry below the count, or 10
  abbrev pub ReadsList : Frame → ℕ → Type 0
  ReadsList f = ListRead (coding_of f.header) counted entry_at (λ e. cond (L.late e) (L.refused 10) (L.entry e)) f
