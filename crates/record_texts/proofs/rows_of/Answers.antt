-- `rows_of` meets its contract: a row a character. Assumes nothing.
use mathlib.Core.Path.{◌≡◌, refl, sym, ap, ap₂, ◌∙◌}
use mathlib.Core.List.{List, [], ◌∷◌, map}
use Prim.Native.Nat.{ℕ, zero, suc, ◌+◌, ◌<◌}
use native.Mathlib.Numerals.{add-one}
use native.Mathlib.Omega.{arith}
use lib.ListN.{length, take}
use Rattle.record_fields.specs.declared.Rows.{Rows}
use Rattle.record_fields.specs.Tables.{put_row, put_rows}
use Rattle.record_texts.specs.Texts.{widths, least, numbers}
use Rattle.record_texts.proofs.rows_of.Goals as goal

-- the rows of n of the characters, put after what is there
abbrev put : List ℕ → ℕ → List ℕ → Rows → Rows
put one n t r = put_rows widths least one (map numbers (take n t)) r

next : (one : List ℕ) (n left x : ℕ) (t rest : List ℕ) (r s : Rows) → t ≡ x ∷ rest → left + 1 ≡ n → s ≡ put_row widths least one (numbers x) r
    → put one n t r ≡ put one left rest s
next one n left x t rest r s et en es = rw (et, sym en, add-one left, es)

ended : (one : List ℕ) (n : ℕ) (t : List ℕ) (r : Rows) → (0 < n → length t ≡ 0) → put one n t r ≡ r
ended one zero t r e = refl
ended one (suc n) [] r e = refl
ended one (suc n) (x ∷ t) r e = let z = e (omega arith) in absurd (omega arith)

pub loop-c-init : goal.loop-c-init
loop-c-init c =
    let t = c.args.text.now in
    let into = c.into_iter-c-iterator.ensures.into_iter_gives in
    ap₂ (λ n u. put (c.last_code.result ∷ []) n u c.no_rows-rows.result)
    (sym (ap (λ i. i.n) into ∙ c.take-c-items.ensures.count))
    (sym (ap (λ i. i.iter.rest.now) into ∙ ap (λ i. i.rest.now) c.take-c-items.ensures.source ∙ c.iter.ensures.rest))

pub loop-c-preserved : goal.loop-c-preserved
loop-c-preserved c =
    let l = c.loop-c.c-iterator in
    let s = c.in-Some.ensures.steps in
    c.loop-c.invariant
    ∙ next (c.last_code.result ∷ []) l.n _ c.in-Some.c.now l.iter.rest.now _ c.loop-c.rows c.put_row-rows.result s.0 s.1
    (c.put_row-rows.ensures ∙ ap (λ n. put_row widths least (c.last_code.result ∷ []) (numbers n) c.loop-c.rows) c.from.ensures)

pub returns : goal.returns
returns c =
    let l = c.loop-c.c-iterator in
    let t = c.args.text.now in
    let one = c.last_code.result ∷ [] in
    sym (c.loop-c.invariant ∙ ended one l.n l.iter.rest.now c.loop-c.rows (λ h. (c.in-None.ensures.steps h).0))
    ∙ ap₂ (λ last r. put (last ∷ []) 90 t r) c.last_code.ensures c.no_rows-rows.ensures
