-- The orders of refusals that reading and making share, what passes their first checks, and what each answer says in the table's terms.
-- Assumes nothing.
use Rattle.std.specs.Prelude.{◌≡◌, Bool, false, not, ◌||◌, ◌&&◌, cond, Option, None, Some, List, [], ◌∷◌, ℕ, ◌+◌, ◌*◌, ◌-◌, ◌/◌, ◌<◌, ltb, leb, eqb}
use Rattle.answer.specs.Order.{Says, refuses, answers, Check, in_order}
use Rattle.frame.specs.Frames.{built_of, blank}
use Rattle.frame.specs.Layout.{layout_of, layout_number}
use Rattle.frame.specs.Widths.{header_outside, outside, late}
use Rattle.frame.specs.declared.Header.{Header}
use Rattle.frame.specs.declared.Frame.{Frame}
use Rattle.frame.specs.declared.Layout.{Layout}
use Rattle.frame.specs.declared.Layout.TheVariants as layout
use Rattle.record_fields.specs.declared.Packer.{Packer}
use Rattle.record_fields.specs.declared.Rows.{Rows}
use Rattle.record_fields.specs.Packing.{filled_up}
use Rattle.record_stages.specs.declared.Asked.{Asked}
use Rattle.record_stages.specs.declared.Asked.TheVariants.{Same, Other}
use Rattle.record_stages.specs.declared.Size.{Size}
use Rattle.record_stages.specs.declared.Size.TheVariants.{Right, Wrong}
use Rattle.record_stages.specs.declared.Indexed.{Indexed}
use Rattle.record_stages.specs.declared.Indexed.TheVariants.{Below, Past}
use Rattle.record_stages.specs.declared.Ranged.{Ranged}
use Rattle.record_stages.specs.declared.Ranged.TheVariants.{Inside, Outside}
use Rattle.record_stages.specs.declared.Place.{Place}
use Rattle.record_stages.specs.declared.Place.TheVariants as place
use Rattle.record_stages.specs.declared.Count.{Count}
use Rattle.record_stages.specs.declared.Count.TheVariants as count
use Rattle.record_stages.specs.declared.checks.Suited.{Suited}
use Rattle.record_stages.specs.declared.checks.Suited.TheVariants as suited
use Rattle.record_stages.specs.declared.Making.{Making}
use Rattle.record_stages.specs.declared.Making.TheVariants as making
use Rattle.record_stages.specs.declared.Made.{Made}

-- ---- refusal 6: ONE DECISION over type numbers, held against the layout asked for

abbrev pub same_layout : Layout → Layout → Bool
same_layout a b = eqb (layout_number a) (layout_number b)

-- the layout found serves the one asked for: they are the same, or the found one is `CorrectionOrNull` and corrections or null are asked for
abbrev pub is_of : Layout → Layout → Bool
is_of found asked =
    same_layout found asked
    || (same_layout found layout.CorrectionOrNull && (same_layout asked layout.Correction || same_layout asked layout.Null))

-- a type number does not have the layout that is asked for
unfoldable pub other_layout : Layout → ℕ → Bool
other_layout asked kind = not (is_of (layout_of kind) asked)

abbrev pub asked_of : Layout → ℕ → Asked
asked_of asked kind = cond (other_layout asked kind) Other Same

-- ---- refusal 8 of a list: N words, at most 31, hold a head of h bits and c entries of w bits, one or more, exactly when these bits
-- take N words of 24, rounded up. Most lists have no head, and h is 0

abbrev pub held_after : ℕ → ℕ → ℕ → ℕ
held_after h w n = (24 * n - h) / w

unfoldable pub misfit_after : ℕ → ℕ → ℕ → Bool
misfit_after h w n = ltb 31 n || eqb (held_after h w n) 0 || not (eqb ((h + held_after h w n * w + 23) / 24) n)

abbrev pub entries_in : ℕ → ℕ → ℕ → Option ℕ
entries_in h w n = cond (misfit_after h w n) None (Some (held_after h w n))

abbrev pub entries_held : ℕ → ℕ → ℕ
entries_held w n = held_after 0 w n

abbrev pub misfit : ℕ → ℕ → Bool
misfit w n = misfit_after 0 w n

-- ---- refusal 8 of a type with one N

abbrev pub wrong_size : ℕ → ℕ → Bool
wrong_size wanted n = not (eqb n wanted)

abbrev pub size_of : ℕ → ℕ → Size
size_of wanted n = cond (wrong_size wanted n) Wrong Right

-- ---- refusal 9: the number of an entry is the count or more

abbrev pub index_of : ℕ → ℕ → Indexed
index_of count i = cond (leb count i) Past Below

-- ---- refusal 10 when reading: a number is outside its range

abbrev pub ranged_of : Bool → Ranged
ranged_of out = cond out Outside Inside

-- ---- the orders

-- READING: 5, 6, 7, 8, then the layout's own
abbrev pub read_order : Layout → Frame → Bool → List Check → List Check
read_order asked f wrong_n more = (outside f, 5) ∷ (other_layout asked f.header.kind, 6) ∷ (late f.header.z, 7) ∷ (wrong_n, 8) ∷ more

-- how many entries of w bits a frame of a layout has, behind a head of h bits: 5, 6, 7, 8
abbrev pub count_after : Layout → ℕ → ℕ → Frame → Count
count_after asked h w f = in_order (read_order asked f (misfit_after h w f.n) []) count.Refused (count.Of (held_after h w f.n))

abbrev pub count_in : Layout → ℕ → Frame → Count
count_in asked w f = count_after asked 0 w f

-- reading entry number i of a list, w bits an entry, behind a head of h bits: 5, 6, 7, 8, 9, then the layout's own
abbrev pub headed_order : Layout → ℕ → ℕ → Frame → ℕ → List Check → List Check
headed_order asked h w f i more = read_order asked f (misfit_after h w f.n) ((leb (held_after h w f.n) i, 9) ∷ more)

abbrev pub entry_order : Layout → ℕ → Frame → ℕ → List Check → List Check
entry_order asked w f i more = headed_order asked 0 w f i more

-- where entry number i of w bits starts in a frame of a layout, behind a head of h bits: 5, 6, 7, 8, 9
abbrev pub place_after : Layout → ℕ → ℕ → Frame → ℕ → Place
place_after asked h w f i = in_order (headed_order asked h w f i []) place.Refused (place.At (h + i * w))

-- MAKING: 5, 6, 7, then the layout's own
abbrev pub make_order : Layout → Header → List Check → List Check
make_order asked h more = (header_outside h, 5) ∷ (other_layout asked h.kind, 6) ∷ (late h.z, 7) ∷ more

-- a number is not 1 to the most
abbrev pub wrong_count : ℕ → ℕ → Bool
wrong_count most c = eqb c 0 || ltb most c

-- a header suits a layout, and a number of entries does: 5, 6, 7, 12
abbrev pub suited_by : Layout → Header → ℕ → ℕ → Suited
suited_by asked h most c = in_order (make_order asked h ((wrong_count most c, 12) ∷ [])) suited.Refused suited.Yes

-- the refusal of an entry that can't be sent: 11 for a character of a text, else 10
abbrev pub entry_refusal : Layout → ℕ
entry_refusal asked = cond (eqb (layout_number asked) (layout_number layout.Text)) 11 10

-- a refusal to make, with the blank frame
unfoldable pub refused_made : ℕ → Made
refused_made n = record { answer = making.Refused n; frame = blank }

unfoldable pub done_made : Frame → Made
done_made f = record { answer = making.Done; frame = f }

-- the frame of what a packer holds, its last word filled by a pattern
abbrev pub packed_frame : ℕ → Header → Packer → Frame
packed_frame pattern h p = built_of h (filled_up pattern p).whole (filled_up pattern p).words

-- MAKING a frame of the rows of c entries: 5, 6, 7, 12, then 10 or 11
abbrev pub made_order : Layout → ℕ → Header → ℕ → Bool → List Check
made_order asked most h c out = make_order asked h ((wrong_count most c, 12) ∷ (out, entry_refusal asked) ∷ [])

abbrev pub made_by : Layout → ℕ → ℕ → Header → ℕ → Rows → Made
made_by asked most pattern h c r = in_order (made_order asked most h c r.out) refused_made (done_made (packed_frame pattern h r.packer))

-- ---- what passes the first checks

-- a header under which a record of a layout can be sent: within its widths, of a type of that layout, Z count below 6000
pub record HeaderFor (asked : Layout) (h : Header) : Type 0 where
  pub inside : header_outside h ≡ false
  pub kind : other_layout asked h.kind ≡ false
  pub hour : h.z < 6000

-- a frame of which such a record can be read: the same, and its words within their widths
pub record FrameFor (asked : Layout) (f : Frame) : Type 0 where
  pub inside : outside f ≡ false
  pub kind : other_layout asked f.header.kind ≡ false
  pub hour : f.header.z < 6000

-- the answer to making is a frame, not a refusal, and this is said of it
pub record IsMade (m : Made) (Reads : Frame → Type 0) : Type 0 where
  pub frame : Frame
  pub done : m ≡ done_made frame
  pub reads : Reads frame

-- ---- in the table's terms

abbrev pub says_asked : Asked → Says (Unit {0})
says_asked Same = answers tt
says_asked Other = refuses 6

abbrev pub says_size : Size → Says (Unit {0})
says_size Right = answers tt
says_size Wrong = refuses 8

abbrev pub says_place : Place → Says ℕ
says_place (place.At o) = answers o
says_place (place.Refused n) = refuses n

abbrev pub says_count : Count → Says ℕ
says_count (count.Of c) = answers c
says_count (count.Refused n) = refuses n

-- a made frame, or the number alone
abbrev pub says_made : Made → Says Frame
says_made m = by m.answer
  where
    by : Making → Says Frame
    by making.Done = answers m.frame
    by (making.Refused n) = refuses n
