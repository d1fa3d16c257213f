-- `characters_of` meets its contract: the characters passed are allowed. Assumes nothing.
use mathlib.Core.Path.{sym, ap, ◌∙◌}
use mathlib.Core.Bool.{Bool, cond}
use native.Mathlib.Omega.{arith}
use Rattle.std.specs.Prelude.{Result}
use Rattle.answer.specs.Table.{refused, granted}
use Rattle.answer.specs.declared.Refusal.{Refusal}
use Rattle.bits.specs.Rows.{data_bits}
use Rattle.frame.proofs.WidthLaws.{any-hit, any-miss, any-end}
use Rattle.record_texts.specs.Texts.{characters, forbidden}
use Rattle.record_texts.proofs.TextCode.{length-characters, character-at}
use Rattle.record_texts.proofs.characters_of.Goals as goal

-- what the test answers
abbrev answered : Bool → Result (Unit {0}) Refusal
answered b = cond b (refused 11) granted

pub returns-then-is_forbidden : goal.returns-then-is_forbidden
returns-then-is_forbidden c =
    let a = c.args in
    let i = c.loop-i.i in
    let cs = characters a.count (data_bits a.words) in
    let l = length-characters a.count (data_bits a.words) in
    ap answered (sym (c.loop-i.invariant
    ∙ any-hit (forbidden a.system) i cs (omega (arith, l))
    (ap (forbidden a.system) (character-at a.count i (data_bits a.words) (omega arith) ∙ sym c.character.ensures.0)
    ∙ sym c.is_forbidden.ensures ∙ c.if-is_forbidden.true)))

pub loop-i-preserved : goal.loop-i-preserved
loop-i-preserved c =
    let a = c.args in
    let i = c.loop-i.i in
    let cs = characters a.count (data_bits a.words) in
    let l = length-characters a.count (data_bits a.words) in
    c.loop-i.invariant
    ∙ any-miss (forbidden a.system) i cs (omega (arith, l))
    (ap (forbidden a.system) (character-at a.count i (data_bits a.words) (omega arith) ∙ sym c.character.ensures.0)
    ∙ sym c.is_forbidden.ensures ∙ c.if-is_forbidden.false)

pub returns : goal.returns
returns c =
    let a = c.args in
    ap answered (sym (c.loop-i.invariant
    ∙ any-end (forbidden a.system) c.loop-i.i (characters a.count (data_bits a.words))
    (omega (arith, length-characters a.count (data_bits a.words)))))
