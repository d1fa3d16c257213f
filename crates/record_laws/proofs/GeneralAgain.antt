-- Types 41 and 42, once over the two layouts: read then made, with standard fill the frame itself. Assumes nothing.
use mathlib.Core.Path.{◌≡◌, sym, ap, ap₂, subst, ◌∙◌}
use mathlib.Core.Bool.{false, ◌||◌}
use mathlib.Core.List.{List, [], ◌∷◌}
use Prim.Native.Nat.{ℕ, ◌+◌, ◌*◌, ◌/◌, ◌≤◌, ◌<◌}
use native.Mathlib.Omega.{arith}
use lib.Dec.{leb}
use lib.ListN.{length, take, get_or, length-take}
use lib.Seq.{get_or-take}
use Rattle.answer.proofs.OrderLaws.{order-answers, order-told}
use Rattle.bits.specs.Fields.{fields_at, span}
use Rattle.bits.specs.Rows.{FillAfter}
use Rattle.bits.proofs.FieldLaws.{fits-fields}
use Rattle.frame.specs.Frames.{bare}
use Rattle.frame.specs.Widths.{any_of, outside}
use Rattle.frame.specs.declared.Frame.{Frame}
use Rattle.frame.specs.declared.Layout.TheVariants as layout
use Rattle.frame.proofs.FrameLaws.{header-within}
use Rattle.record_fields.specs.Coding.{frame_bits, entry_after}
use Rattle.record_fields.proofs.Faithful.{Fine}
use Rattle.record_stages.specs.declared.Count.TheVariants as count
use Rattle.record_stages.specs.Stages.{make_order, refused_made, done_made, HeaderFor}
use Rattle.record_stages.proofs.ListCode.{some-few}
use Rattle.record_generals.specs.declared.GeneralHead.{GeneralHead}
use Rattle.record_generals.specs.declared.General.{General}
use Rattle.record_generals.specs.declared.HeadRead.TheVariants as head
use Rattle.record_generals.specs.declared.GeneralRead.TheVariants as read
use Rattle.record_generals.specs.Generals.{other_system, head_widths, head_coding, head_in, head_out, delay_width, widths, coding, out_of_range}
use Rattle.record_generals.specs.Generals.{no_satellite, fill, most_generals, list_order, generals_held, general_in}
use Rattle.record_generals.specs.Generals.{count_generals, read_head, general_at, make_generals}
use Rattle.record_generals.specs.GeneralRounds.{HoldsGenerals, general_bits}
use Rattle.record_generals.proofs.LayoutLaws.{span-is}
use Rattle.record_laws.proofs.SentLaws.{make-passes, none-taken}
use Rattle.record_laws.proofs.HeadedTrips.{headed-again}
use Rattle.record_laws.proofs.GeneralTrips.{checks, generals-held}
use Rattle.record_laws.proofs.GeneralLaws.{head-faithful, head_in_lem, read-in, faithful}

-- ---- answers that no refusal is

head_apart : (n : ℕ) (a : GeneralHead) → head.Refused n ≡ head.Head a → ⊥
head_apart n a q = let z : ◌≡◌ {A = ℕ} 0 1 = cc in omega arith

head-inj : (a b : GeneralHead) → head.Head a ≡ head.Head b → a ≡ b
head-inj a b q = cc

entry-apart : (n : ℕ) (g : General) → read.Refused n ≡ read.Entry g → ⊥
entry-apart n g q = let z : ◌≡◌ {A = ℕ} 0 1 = cc in omega arith

entry-inj : (a b : General) → read.Entry a ≡ read.Entry b → a ≡ b
entry-inj a b q = cc

-- READ, THEN MADE, all but the pair: the fill is standard
pub generals-read-made : (f : Frame) (a : GeneralHead) (gs : List General) (c : ℕ) (g0 : General) → length f.words ≡ 31 → c ≤ length gs
    → count_generals f ≡ count.Of c → read_head f ≡ head.Head a → ((i : ℕ) → i < c → general_at f i ≡ read.Entry (get_or gs i g0))
    → FillAfter fill (general_bits a c) (frame_bits f) → make_generals f.header a gs c ≡ done_made (bare f)
unfolding make_generals read_head general_at
generals-read-made f a gs c g0 full there n said each filled =
    order-answers refused_made _ (make_order layout.General f.header (checks f.header a gs c g0))
    (make-passes layout.General f.header (checks f.header a gs c g0) for
    (known, (some-few c (most_generals d) s.some few, (ap₂ ◌||◌ head-fine none, tt))))
    ∙ ap done_made
    (headed-again head_coding (coding d) (Fine (λ x. Unit {0}) head_out) (Fine (λ g. Unit {0}) (out_of_range d)) head-faithful (faithful d) fill
    f a (take c gs) g0 inside full up (subst (λ m. FillAfter fill m (frame_bits f)) (sym used) filled) is
    (λ i l. get_or-take c gs i g0 (omega (arith, size)) ∙ at i (omega (arith, size))))
  where
    d : ℕ
    d = delay_width a.ionosphere

    s : HoldsGenerals f c
    s = generals-held f c n

    inside : outside f ≡ false
    inside = s.frame.inside

    for : HeaderFor layout.General f.header
    for = record { inside = header-within f inside; kind = s.frame.kind; hour = s.frame.hour }

    size : length (take c gs) ≡ c
    size = omega (arith, length-take c gs)

    -- the head that was read
    is : head_in f ≡ a
    is = head-inj (head_in f) a (order-told head.Refused (head.Head (head_in f)) (head.Head a) (λ m. head_apart m a) (list_order f []) said).1

    known : other_system a.system ≡ false
    known = ap (λ (x : GeneralHead). other_system x.system) (sym is) ∙ s.system

    head-fine : head_out a ≡ false
    head-fine = ap head_out (sym is) ∙ head_in_lem (fields_at head_widths 0 (frame_bits f)) (fits-fields head_widths 0 (frame_bits f))

    few : c ≤ most_generals d
    few = subst (λ (x : GeneralHead). c ≤ most_generals (delay_width x.ionosphere)) is s.few

    -- each satellite that was read, by the width that the head says
    told : (i : ℕ) → i < c → (no_satellite (general_in f i) ≡ false) × (general_in f i ≡ get_or gs i g0)
    told i l =
        let t = order-told read.Refused (read.Entry (general_in f i)) (read.Entry (get_or gs i g0)) (λ m. entry-apart m (get_or gs i g0))
        (list_order f ((leb (generals_held f) i, 9) ∷ (no_satellite (general_in f i), 10) ∷ [])) (each i l) in
        (t.0.1.1.1.1.1.1.1.0, entry-inj (general_in f i) (get_or gs i g0) t.1)

    at : (i : ℕ) → i < c → get_or gs i g0 ≡ entry_after 13 (coding d) i (frame_bits f)
    at i l = sym (told i l).1 ∙ ap (λ (x : GeneralHead). entry_after 13 (coding (delay_width x.ionosphere)) i (frame_bits f)) is

    none : any_of (out_of_range d) (take c gs) ≡ false
    none =
        none-taken (out_of_range d) gs c g0
        (λ i l. ap (out_of_range d) (at i l)
        ∙ read-in d (fields_at (widths d) (13 + i * span (widths d)) (frame_bits f)) (fits-fields (widths d) (13 + i * span (widths d)) (frame_bits f))
        ∙ ap no_satellite (sym (at i l) ∙ sym (told i l).1) ∙ (told i l).0)

    used : 13 + length (take c gs) * span (widths d) ≡ general_bits a c
    used = ap₂ (λ m k. 13 + m * k) size (span-is d)

    up : (13 + length (take c gs) * span (widths d) + 23) / 24 ≡ f.n
    up = ap (λ m. (m + 23) / 24) used ∙ sym (s.n ∙ ap (λ (x : GeneralHead). (general_bits x c + 23) / 24) is)
