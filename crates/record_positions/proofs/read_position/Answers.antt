-- `read_position` meets its contract: the position that is held to its range is the one that the frame's bits say. Assumes nothing.
use mathlib.Core.Path.{◌≡◌, ap, ◌∙◌}
use mathlib.Core.Bool.{false}
use native.Mathlib.Omega.{arith}
use lib.ListN.{length}
use borrow.Author.Rules.{rules}
use Rattle.frame.specs.declared.Frame.{Frame}
use Rattle.bits.specs.Fields.{fields_at}
use Rattle.bits.specs.Rows.{data_bits}
use Rattle.frame.specs.Widths.{outside}
use Rattle.record_fields.proofs.Making.{fields-frame}
use Rattle.record_positions.specs.declared.Position.{Position}
use Rattle.record_positions.specs.Positions.{widths, meant, position_in, read_position}
use Rattle.record_positions.proofs.read_position.Goals as goal

-- the first 96 bits of four words are the frame's
from_frame : (f : Frame) (p : Position) → outside f ≡ false → f.n ≡ 4 → length f.words ≡ 31 → p ≡ meant (fields_at widths 0 (data_bits f.words))
    → p ≡ position_in f
from_frame f p inside n full is = is ∙ ap meant (fields-frame widths 0 f inside full (omega arith))

pub returns-in_default-range_of : goal.returns-in_default-range_of
unfolding read_position
returns-in_default-range_of c =
    let f = c.args.frame in
    let inside : outside f ≡ false = search rules in
    let four : f.n ≡ 4 = search rules in
    let full : length f.words ≡ 31 = search rules in
    let is : c.position_from-position.result ≡ position_in f = from_frame f _ inside four full c.position_from-position.ensures in
    search rules

pub returns : goal.returns
unfolding read_position
returns c =
    let f = c.args.frame in
    let inside : outside f ≡ false = search rules in
    let four : f.n ≡ 4 = search rules in
    let full : length f.words ≡ 31 = search rules in
    let is : c.position_from-position.result ≡ position_in f = from_frame f _ inside four full c.position_from-position.ensures in
    search rules
