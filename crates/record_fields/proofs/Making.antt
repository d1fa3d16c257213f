-- Over the layout: the frame that a filled packer leaves, and that a field within N words is one of the frame's bits. Assumes nothing.
use mathlib.Core.Path.{◌≡◌, sym, ap, ap₂, ◌∙◌}
use mathlib.Core.Bool.{Bool, false}
use mathlib.Core.List.{List, [], ◌++◌}
use Prim.Native.Nat.{ℕ, ◌+◌, ◌*◌, ◌-◌, ◌≤◌}
use native.Mathlib.Omega.{arith}
use lib.ListN.{length, drop, replicate, length-map, take-append-drop}
use Rattle.bits.specs.Fields.{fields_at, span, packed}
use Rattle.bits.specs.Rows.{data_bits, rows_at, filled, words_in}
use Rattle.bits.proofs.RowLaws.{fields-front, rows-front}
use Rattle.bits.proofs.WordLaws.{length-data, data-append}
use Rattle.frame.specs.Frames.{built_of, framed, data_words}
use Rattle.frame.specs.Widths.{outside}
use Rattle.frame.specs.declared.Header.{Header}
use Rattle.frame.specs.declared.Frame.{Frame}
use Rattle.frame.proofs.FrameLaws.{length-data as length-data-words}
use Rattle.record_fields.specs.declared.Packer.{Packer}
use Rattle.record_fields.specs.Packing.{empty_packer, pushed_all, pushed_rows, filled_up}
use Rattle.record_fields.specs.Coding.{Coding, frame_bits, rows_of, entry_bits, frame_with, frame_after}
use Rattle.record_fields.proofs.Holds.{Narrow, Ready, empty_holds, all-holds, rows-hold, fill_holds, whole-holds}

-- ---- what the packer leaves

-- entries behind what a packer holds already, the bits of a head
pub packed-after : {A : Type 0} (k : Coding A) (pattern : ℕ) (h : Header) (es : List A) (start : Packer) (front : List Bool) (p : Packer)
    → Ready start front → Narrow k.widths → length front + length es * span k.widths ≤ 744
    → p ≡ filled_up pattern (pushed_rows k.widths (rows_of k es) start)
    → built_of h p.whole p.words ≡ frame_after front pattern k h es
unfolding frame_after framed entry_bits
packed-after k pattern h es start front p begun narrow room e = ap₂ (λ n ws. built_of h n ws) whole.0 whole.1
  where
    rows : Ready (pushed_rows k.widths (rows_of k es) start) (front ++ entry_bits k es)
    rows =
        rows-hold k.widths (rows_of k es) start front begun narrow
        (omega (arith, ap (λ m. m * span k.widths) (length-map es k.codes)))

    ready : Ready p (filled pattern (front ++ entry_bits k es))
    ready = rw e (fill_holds pattern (pushed_rows k.widths (rows_of k es) start) (front ++ entry_bits k es) rows)

    whole : (p.whole ≡ length (words_in pattern (front ++ entry_bits k es)))
        × (p.words ≡ words_in pattern (front ++ entry_bits k es) ++ replicate (31 - length (words_in pattern (front ++ entry_bits k es))) 0)
    whole = whole-holds pattern p (front ++ entry_bits k es) ready

-- a packer that was begun by the row of a head
pub head-ready : (ws vs : List ℕ) → Narrow ws → span ws ≤ 744 → Ready (pushed_all ws vs empty_packer) (packed ws vs)
head-ready ws vs narrow room = all-holds ws vs empty_packer [] empty_holds narrow (omega arith)

pub packed-frame : {A : Type 0} (k : Coding A) (pattern : ℕ) (h : Header) (es : List A) (p : Packer) → Narrow k.widths
    → length es * span k.widths ≤ 744
    → p ≡ filled_up pattern (pushed_rows k.widths (rows_of k es) empty_packer)
    → built_of h p.whole p.words ≡ frame_with pattern k h es
unfolding frame_with frame_after
packed-frame k pattern h es p narrow room e = packed-after k pattern h es empty_packer [] p empty_holds narrow (omega arith) e

-- ---- fields within N words

pub fields-frame : (ws : List ℕ) (o : ℕ) (f : Frame) → outside f ≡ false → length f.words ≡ 31 → o + span ws ≤ 24 * f.n
    → fields_at ws o (data_bits f.words) ≡ fields_at ws o (frame_bits f)
unfolding frame_bits
fields-frame ws o f e full h =
    ap (λ l. fields_at ws o (data_bits l)) (sym (take-append-drop f.n f.words))
    ∙ ap (fields_at ws o) (data-append (data_words f) (drop f.n f.words))
    ∙ fields-front ws o (data_bits (data_words f)) (data_bits (drop f.n f.words))
    (omega (arith, length-data (data_words f), length-data-words f e full))

pub rows_frame : (ws : List ℕ) (m : ℕ) (f : Frame) → outside f ≡ false → length f.words ≡ 31 → m * span ws ≤ 24 * f.n
    → rows_at ws m 0 (data_bits f.words) ≡ rows_at ws m 0 (frame_bits f)
unfolding frame_bits
rows_frame ws m f e full h =
    ap (λ l. rows_at ws m 0 (data_bits l)) (sym (take-append-drop f.n f.words))
    ∙ ap (rows_at ws m 0) (data-append (data_words f) (drop f.n f.words))
    ∙ rows-front ws m 0 (data_bits (data_words f)) (data_bits (drop f.n f.words))
    (omega (arith, length-data (data_words f), length-data-words f e full))
