-- What the calls' code computes against what the definitions say of it, over plain values. Assumes nothing.
use Rattle.std.proofs.Common.{◌≡◌, ℕ, ◌+◌, Bool, true, false, cond, not, List, [], ◌∷◌, sym, refl, ap, ◌∙◌, arith}
use Rattle.answer.specs.Order.{in_order}
use Rattle.answer.proofs.OrderLaws.{order-map, order-append}
use Rattle.bits.specs.Bits.{number}
use Rattle.line.specs.Line.{is_data, six}
use Rattle.reader.specs.Cells.{room_end, pushed_cells}
use Rattle.reader.specs.Hunting.{hunt_of}
use Rattle.reader.specs.Reading.{past_of, busy, ready_of, moved_to, step_cells, step_to, stepped_by, fed_by, Run, run_to, ran_by, fed_all_by, end_to, ended_by}
use Rattle.reader.specs.declared.hunt.Halt.{Halt}
use Rattle.reader.specs.declared.Candidate.{Candidate}
use Rattle.reader.specs.declared.Reader.{Reader}
use Rattle.reader.specs.declared.Answer.TheVariants as answer
use Rattle.reader.specs.declared.Next.{Next}
use Rattle.reader.specs.declared.checks.Ready.{Ready}
use Rattle.reader.specs.declared.checks.Ready.TheVariants.{Yes, Refused}

-- ---- 5, 3, 2

-- what a call makes of a reader's readiness
abbrev on_ready : {A : Type 0} → (ℕ → A) → A → Ready → A
on_ready refuse answer Yes = answer
on_ready refuse answer (Refused n) = refuse n

module _ {A : Type 0} (refuse : ℕ → A) (done : A) (r : Reader) (state : Ready) (is : state ≡ ready_of r.candidate r.ended) where
  staged : in_order (busy r) refuse done ≡ on_ready refuse done state
  staged =
      sym (order-map (on_ready refuse done) (busy r) Refused Yes) ∙ ap (on_ready refuse done) (sym is)

  pub not-ready : (n : ℕ) → state ≡ Refused n → refuse n ≡ in_order (busy r) refuse done
  not-ready n e = sym (staged ∙ ap (on_ready refuse done) e)

  pub is-ready : state ≡ Yes → done ≡ in_order (busy r) refuse done
  is-ready e = sym (staged ∙ ap (on_ready refuse done) e)

-- a reader that is ready: not past, not ended, nothing waits
pub record Free (r : Reader) : Type 0 where
  pub fine : past_of r.candidate ≡ false
  pub goes : r.ended ≡ false
  pub none : r.candidate.waits ≡ false

pub free : (r : Reader) (state : Ready) → state ≡ ready_of r.candidate r.ended → state ≡ Yes → Free r
free r state is e = go (past_of r.candidate) refl r.ended refl r.candidate.waits refl (sym is ∙ e)
  where
    go : (p : Bool) → past_of r.candidate ≡ p → (x : Bool) → r.ended ≡ x → (w : Bool) → r.candidate.waits ≡ w
        → in_order ((p, 5) ∷ (x, 3) ∷ (w, 2) ∷ []) Refused Yes ≡ Yes → Free r
    go true ep x ex w ew f = absurd (let z : ◌≡◌ {A = ℕ} 0 1 = cc in omega arith)
    go false ep true ex w ew f = absurd (let z : ◌≡◌ {A = ℕ} 0 1 = cc in omega arith)
    go false ep false ex true ew f = absurd (let z : ◌≡◌ {A = ℕ} 0 1 = cc in omega arith)
    go false ep false ex false ew f = record { fine = ep; goes = ex; none = ew }

-- ---- six bits more

pub step-law : (cells : List ℕ) (c : Candidate) (six : ℕ) (after : List ℕ) (end : ℕ) (halt : Halt)
    → after ≡ pushed_cells cells c.end c.held six → end ≡ room_end c.end c.held + 6
    → halt ≡ hunt_of after end (c.held + 6) c.words false c.tally
    → moved_to c.at end (c.held + 6) halt ≡ step_to cells c six
unfolding step_to step_cells
step-law cells c six after end halt a e s = rw (s, a, e)

-- ---- a byte fed

module _ (r : Reader) (b : ℕ) where
  refused : ℕ → Next
  refused n = record { answer = answer.Refused n; reader = r }

  fed-order : fed_by r b ≡ in_order (busy r) refused (in_order ((not (is_data b), 1) ∷ []) refused (record { answer = answer.Done; reader = stepped_by r b }))
  unfolding fed_by refused
  fed-order = order-append (busy r) ((not (is_data b), 1) ∷ []) refused (record { answer = answer.Done; reader = stepped_by r b })

  module _ (state : Ready) (is : state ≡ ready_of r.candidate r.ended) where
    pub fed-refused : (n : ℕ) → state ≡ Refused n → record { answer = answer.Refused n; reader = r } ≡ fed_by r b
    unfolding refused
    fed-refused n e = not-ready refused _ r state is n e ∙ sym fed-order

    pub fed-empty : state ≡ Yes → is_data b ≡ false → record { answer = answer.Refused 1; reader = r } ≡ fed_by r b
    unfolding refused
    fed-empty e d =
        ap (λ t. cond (not t) (refused 1) (record { answer = answer.Done; reader = stepped_by r b })) (sym d) ∙ is-ready refused _ r state is e ∙ sym fed-order

    pub fed-done : state ≡ Yes → is_data b ≡ true → (cells : List ℕ) → cells ≡ step_cells r.cells r.candidate (number (six b))
        → (c : Candidate) → c ≡ step_to r.cells r.candidate (number (six b))
        → record { answer = answer.Done; reader = record { cells = cells; candidate = c; ended = r.ended } } ≡ fed_by r b
    unfolding stepped_by
    fed-done e d cells ec c cc' =
        rw (ec, cc') (ap (λ t. cond (not t) (refused 1) (record { answer = answer.Done; reader = stepped_by r b })) (sym d)
        ∙ is-ready refused _ r state is e ∙ sym fed-order)

-- ---- bytes fed, and the end

module _ (r : Reader) (bs : List ℕ) (state : Ready) (is : state ≡ ready_of r.candidate r.ended) where
  pub all-refused : (n : ℕ) → state ≡ Refused n → record { answer = answer.Refused n; used = 0; passed = 0; reader = r } ≡ fed_all_by r bs
  unfolding fed_all_by
  all-refused n e = not-ready (λ m. record { answer = answer.Refused m; used = 0; passed = 0; reader = r }) _ r state is n e

  pub all_done : state ≡ Yes → (x : Run) → x ≡ run_to r.cells r.candidate bs → ran_by r x ≡ fed_all_by r bs
  unfolding fed_all_by
  all_done e x h = ap (ran_by r) h ∙ is-ready (λ m. record { answer = answer.Refused m; used = 0; passed = 0; reader = r }) _ r state is e

module _ (r : Reader) (state : Ready) (is : state ≡ ready_of r.candidate r.ended) where
  pub end_refused : (n : ℕ) → state ≡ Refused n → record { answer = answer.Refused n; reader = r } ≡ ended_by r
  unfolding ended_by
  end_refused n e = not-ready (λ m. record { answer = answer.Refused m; reader = r }) _ r state is n e

  pub end-done : state ≡ Yes → (s : Halt)
      → s ≡ hunt_of r.cells r.candidate.end r.candidate.held r.candidate.words true r.candidate.tally
      → (c : Candidate) → c ≡ moved_to r.candidate.at r.candidate.end r.candidate.held s
      → record { answer = answer.Done; reader = record { cells = r.cells; candidate = c; ended = true } } ≡ ended_by r
  unfolding ended_by end_to
  end-done e s h c k = rw (k, h) (is-ready (λ m. record { answer = answer.Refused m; reader = r }) _ r state is e)
