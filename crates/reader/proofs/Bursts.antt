-- Bytes that carry sixes of which all but the last leave nothing that waits: what the loop of `run` goes by. Assumes nothing.
use Rattle.std.proofs.Common.{◌≡◌, ℕ, zero, suc, ◌+◌, ◌<◌, ◌≤◌, true, false, List, [], ◌∷◌, length, get_or, drop, sym, refl, ap, ◌∙◌, subst, add-one, arith}
use mathlib.Core.Bool.{and-eq-true_iff}
use Rattle.bits.specs.Bits.{number}
use Rattle.line.specs.Line.{is_data, six}
use Rattle.line.proofs.LineLaws.{six-lt}
use Rattle.reader.specs.Five.{bytes_from, all_data, sixes_in}
use Rattle.reader.specs.Reading.{step_cells, step_to, many_cells, many_to, SixesAt, Run, spent, run_to}
use Rattle.reader.specs.declared.Candidate.{Candidate}
use Rattle.reader.proofs.Accepted.{Accepted, length-step, accepted-step}
use Rattle.reader.proofs.Running.{loop-on}
use Rattle.reader.proofs.Ahead.{Quiet}

-- ---- the loop: the run from the start is what was used, and the run after all of them

pub record Goes (whole : Run) (bytes : List ℕ) (cells : List ℕ) (c : Candidate) (used passed : ℕ) : Type 0 where
  pub long : length cells ≡ 40
  pub fine : Accepted c
  pub is : whole ≡ spent used passed (run_to cells c (drop used bytes))

goes_one : (whole : Run) (bytes : List ℕ) (s : ℕ) (cells : List ℕ) (c : Candidate) (used passed : ℕ) → Goes whole bytes cells c used passed → c.waits ≡ false
    → used < length bytes → is_data (get_or bytes used 0) ≡ true → s ≡ number (six (get_or bytes used 0))
    → Goes whole bytes (step_cells cells c s) (step_to cells c s) (suc used) passed
goes_one whole bytes s cells c used passed g w h d e = record {
  long = length-step cells g.long c g.fine w s;
  fine = accepted-step cells g.long c g.fine w s;
  is = loop-on whole bytes cells c used passed g.is w h d (step_cells cells c s) (ap (step_cells cells c) e) (step_to cells c s) (ap (step_to cells c) e)
      ∙ ap (λ n. spent n passed (run_to (step_cells cells c s) (step_to cells c s) (drop n bytes))) (add-one used);
}

pub goes-many : (whole : Run) (bytes ss : List ℕ) (cells : List ℕ) (c : Candidate) (used passed : ℕ) → Goes whole bytes cells c used passed
    → c.waits ≡ false → SixesAt bytes used ss → Quiet cells c ss
    → Goes whole bytes (many_cells cells c ss) (many_to cells c ss) (used + length ss) passed
unfolding many_cells many_to
goes-many whole bytes [] cells c used passed g w t q = subst (λ n. Goes whole bytes cells c n passed) none g
  where
    none : used ≡ used + 0
    none = omega arith
goes-many whole bytes (s ∷ []) cells c used passed g w t q =
    subst (λ n. Goes whole bytes (step_cells cells c s) (step_to cells c s) n passed) (sym (add-one used))
    (goes_one whole bytes s cells c used passed g w t.0 t.1 t.2)
goes-many whole bytes (s ∷ r ∷ ss) cells c used passed g w t q =
    subst (λ n. Goes whole bytes (many_cells cells c (s ∷ r ∷ ss)) (many_to cells c (s ∷ r ∷ ss)) n passed) more
    (goes-many whole bytes (r ∷ ss) (step_cells cells c s) (step_to cells c s) (suc used) passed
    (goes_one whole bytes s cells c used passed g w t.0 t.1 t.2) q.0 t.4 q.1)
  where
    more : suc used + length (r ∷ ss) ≡ used + length (s ∷ r ∷ ss)
    more = omega arith

-- bytes that carry line bits carry their sixes
pub sixes-at : (k : ℕ) (bytes : List ℕ) (at : ℕ) → at + k ≤ length bytes → all_data (bytes_from k bytes at) ≡ true
    → SixesAt bytes at (sixes_in (bytes_from k bytes at))
sixes-at zero bytes at h d = tt
sixes-at (suc k) bytes at h d =
    let both = (and-eq-true_iff (is_data (get_or bytes at 0)) (all_data (bytes_from k bytes (suc at)))).0 d in
    (omega (arith, h), both.0, refl, six-lt (get_or bytes at 0), sixes-at k bytes (suc at) (omega (arith, h)) both.1)
