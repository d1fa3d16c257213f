-- `put_frame` meets its contract: the seven numbers, and the pair behind them. Assumes nothing.
use Rattle.std.proofs.Common.{ℕ, ◌+◌, List, [], ◌∷◌, length, sym, ap, ◌∙◌, arith}
use lib.Seq.{sets}
use Rattle.frame.specs.Header.{code_of}
use Rattle.listing.specs.Text.{spaced}
use Rattle.listing.proofs.TextLaws.{store_line, length-line, health-code, health-refused}
use Rattle.listing.proofs.text.put_frame.Goals as goal

pub returns-in_default : goal.returns-in_default
returns-in_default c =
    absurd (health-refused c.args.frame.header.state c.requires.0 _ (sym c.health_of.ensures ∙ c.in_default.is))

pub put_pair-requires : goal.put_pair-requires
put_pair-requires c =
    (c.requires.1, omega (arith, c.put_numbers-next.ensures.value.1))

pub returns : goal.returns
returns c =
    let f = c.args.frame in
    let code = health-code f.header.state c.requires.0 _ (sym c.health_of.ensures ∙ c.in-Ok.is) in
    let numbers : ℕ → List ℕ = λ x. c.args.at ∷ f.header.kind ∷ f.header.station ∷ f.header.z ∷ f.header.sequence ∷ f.n ∷ x ∷ [] in
    let next = c.put_numbers-next.ensures.value.0 ∙ ap (λ x. c.args.place + length (spaced (numbers x))) code in
    let stored = c.put_numbers-next.ensures.buffer_after ∙ ap (λ x. sets c.args.buffer.now c.args.place (spaced (numbers x))) code in
    let whole = numbers (code_of f.header.state) in
    record { value = (c.put_pair.ensures.value ∙ length-line whole c.args.place f.carried _ next, omega (arith, c.put_pair.ensures.value, c.put_numbers-next.ensures.value.1)); buffer_after = c.put_pair.ensures.buffer_after ∙ store_line c.args.buffer.now whole c.args.place f.carried _ stored _ next }
