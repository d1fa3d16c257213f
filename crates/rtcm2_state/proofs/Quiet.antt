-- When a byte needs no hunt, and that holding it is feeding it to the reader. Assumes nothing.
use mathlib.Core.Path.{◌≡◌, refl, sym, ap, subst, ◌∙◌}
use mathlib.Core.Bool.{Bool, true, false, cond, ◌&&◌, and-eq-true_iff}
use mathlib.Core.List.{List, [], ◌∷◌}
use Prim.Native.Nat.{ℕ, ◌≤◌}
use native.Mathlib.Omega.{arith}
use lib.Dec.{leb}
use borrow.Author.Tests.{leb-true}
use Rattle.answer.specs.Order.{in_order}
use Rattle.bits.specs.Bits.{number, val}
use Rattle.bits.specs.Fields.{AreBytes}
use Rattle.line.specs.Line.{is_data, six}
use Rattle.reader.specs.Reading.{past_of, stepped_by, fed_by}
use Rattle.reader.specs.declared.Candidate.{Candidate}
use Rattle.reader.specs.declared.Answer.TheVariants.{Done}
use Rattle.reader.proofs.Accepted.{Accepted, to-accepted}
use Rattle.rtcm2_state.specs.State.{holds_state, state_in, state_put}
use Rattle.rtcm2_state.specs.Holding.{takes_six, after_six, told, quiet_in, six_put}
use Rattle.rtcm2_state.specs.declared.hold.After.{After}
use Rattle.rtcm2_state.specs.declared.hold.After.TheVariants.{Known, Whole, Untold}
use Rattle.rtcm2_state.proofs.Telling.{Right, is-told}
use Rattle.rtcm2_state.proofs.Holding.{cells-full, place-small, quiet_put}

no : false ≡ true → ⊥
no e = let z : ◌≡◌ {A = ℕ} 0 1 = ap val e in omega arith

pub record Takes (c : Candidate) (ended : Bool) : Type 0 where
  pub fine : past_of c ≡ false
  pub goes : ended ≡ false
  pub free : c.waits ≡ false
  pub room : c.end ≤ 1216

pub takes_told : (c : Candidate) (ended : Bool) → takes_six c ended ≡ true → Takes c ended
unfolding takes_six
takes_told c ended e = go (past_of c) refl ended refl c.waits refl e
  where
    go : (p : Bool) → past_of c ≡ p → (x : Bool) → ended ≡ x → (w : Bool) → c.waits ≡ w
        → in_order ((p, 5) ∷ (x, 3) ∷ (w, 2) ∷ []) (λ n. false) (leb c.end 1216) ≡ true → Takes c ended
    go true ep x ex w ew h = absurd (no h)
    go false ep true ex w ew h = absurd (no h)
    go false ep false ex true ew h = absurd (no h)
    go false ep false ex false ew h = record { fine = ep; goes = ex; free = ew; room = leb-true c.end 1216 h }

-- past the other tests it is by the room
pub takes-by : (c : Candidate) (ended : Bool) → past_of c ≡ false → ended ≡ false → c.waits ≡ false → leb c.end 1216 ≡ takes_six c ended
unfolding takes_six
takes-by c ended p x w = rw (p, x, w)

module _ (bs : List ℕ) (b : ℕ) where
  abbrev c : Candidate
  c = (state_in bs).candidate

  abbrev tells : After
  tells = after_six (state_in bs).cells c (number (six b))

  abbrev loud_in : Type 0
  loud_in = (false ≡ quiet_in bs b) × (bs ≡ cond (quiet_in bs b) (state_put (fed_by (state_in bs) b).reader bs) bs)

  loud : quiet_in bs b ≡ false → loud_in
  loud e = (sym e, ap (λ t. cond t (state_put (fed_by (state_in bs) b).reader bs) bs) (sym e))

  neither : (t : Bool) → t && false ≡ false
  neither true = refl
  neither false = refl

  -- no state is held, the reader takes no bits, the byte carries none, or nothing is told without a hunt
  pub none-held : holds_state bs ≡ false → loud_in
  none-held e = loud (unfold quiet_in in rw e)

  pub takes_none : holds_state bs ≡ true → takes_six c (state_in bs).ended ≡ false → loud_in
  takes_none h e = loud (unfold quiet_in in rw (h, e))

  pub no_bits : is_data b ≡ false → loud_in
  unfolding quiet_in
  no_bits e = loud (ap (λ t. (others && t) && told tells) e ∙ ap (λ t. t && told tells) (neither others))
    where
      others : Bool
      others = holds_state bs && takes_six c (state_in bs).ended

  pub not-told : tells ≡ Untold → loud_in
  unfolding quiet_in
  not-told e = loud (ap (λ (o : After). others && told o) e ∙ neither others)
    where
      others : Bool
      others = holds_state bs && takes_six c (state_in bs).ended && is_data b

  -- a byte that needs no hunt
  module _ (f : AreBytes bs) (h : holds_state bs ≡ true) (q : takes_six c (state_in bs).ended ≡ true) (d : is_data b ≡ true) where
    abbrev takes : Takes c (state_in bs).ended
    takes = takes_told c (state_in bs).ended q

    abbrev accepted : Accepted c
    accepted = to-accepted c takes.fine

    fed : (fed_by (state_in bs) b).reader ≡ stepped_by (state_in bs) b
    unfolding fed_by
    fed = rw (takes.fine, takes.goes, takes.free, d)

    right : Right (state_in bs).cells c (number (six b)) tells
    right = is-told (state_in bs).cells (cells-full bs f h) c accepted (place-small bs f h) takes.room (number (six b))

    put_on : told tells ≡ true → {l : List ℕ} → l ≡ state_put (stepped_by (state_in bs) b) bs
        → (true ≡ quiet_in bs b) × (l ≡ cond (quiet_in bs b) (state_put (fed_by (state_in bs) b).reader bs) bs)
    unfolding quiet_in
    put_on t e = (
      sym quiet,
      e ∙ ap (λ r. state_put r bs) (sym fed) ∙ ap (λ t. cond t (state_put (fed_by (state_in bs) b).reader bs) bs) (sym quiet),
    )
      where
        quiet : holds_state bs && takes_six c (state_in bs).ended && is_data b && told tells ≡ true
        quiet = rw (h, q, d, t)

    pub known_on : (words : ℕ) → tells ≡ Known words → {l : List ℕ} → l ≡ six_put bs c.end c.held words 0 (number (six b))
        → (true ≡ quiet_in bs b) × (l ≡ cond (quiet_in bs b) (state_put (fed_by (state_in bs) b).reader bs) bs)
    known_on words t e =
        let r = subst (Right (state_in bs).cells c (number (six b))) t right in
        put_on (ap told t) (e ∙ quiet_put bs f h accepted takes.room b words false r.0 r.1)

    pub whole-on : tells ≡ Whole → {l : List ℕ} → l ≡ six_put bs c.end c.held 0 1 (number (six b))
        → (true ≡ quiet_in bs b) × (l ≡ cond (quiet_in bs b) (state_put (fed_by (state_in bs) b).reader bs) bs)
    whole-on t e =
        put_on (ap told t)
        (e ∙ quiet_put bs f h accepted takes.room b 0 true (omega arith) (subst (Right (state_in bs).cells c (number (six b))) t right))

  -- where it is quiet a state is held, and the reader takes the byte
  pub quiet-taken : quiet_in bs b ≡ true → (holds_state bs ≡ true) × ((fed_by (state_in bs) b).answer ≡ Done)
  unfolding quiet_in fed_by
  quiet-taken e =
      let o = (and-eq-true_iff (holds_state bs && takes_six c (state_in bs).ended && is_data b) (told tells)).0 e in
      let p = (and-eq-true_iff (holds_state bs && takes_six c (state_in bs).ended) (is_data b)).0 o.0 in
      let q = (and-eq-true_iff (holds_state bs) (takes_six c (state_in bs).ended)).0 p.0 in
      let takes = takes_told c (state_in bs).ended q.1 in
      (q.0, rw (takes.fine, takes.goes, takes.free, p.1))
