-- The counters count what the definition says, after any calls. Assumes nothing.
use mathlib.Core.Path.{◌≡◌, ap, subst, ◌∙◌}
use mathlib.Core.List.{List, ◌∷◌, ◌++◌}
use Prim.Native.Nat.{ℕ}
use lib.ListN.{length, length-map}
use Rattle.line.specs.Line.{line_bits}
use Rattle.word.proofs.Testing.{tested-says}
use Rattle.stream.specs.Standing.{frames_in}
use Rattle.stream.specs.Faults.{faults, faults_in}
use Rattle.stream.proofs.Verdicts.{verdict-wrong}
use Rattle.reader.specs.Reading.{started}
use Rattle.reader.specs.declared.Tally.{Tally}
use Rattle.promises.specs.Calls.{Call, ends, after_all, bits_taken, handed_out, outcome, reported, takes_all, served}
use Rattle.promises.specs.Counters.{tally_of, met_by, Counted, Counters}
use Rattle.promises.proofs.Runs.{kept}
use Rattle.promises.proofs.Demand3.{last-ended, last-bits, one_by_one}
use Rattle.promises.proofs.Turned.{turned-counts}
use Rattle.promises.proofs.Counting.{kept-counts}
use Rattle.promises.proofs.WorkedCounts.{worked-counts}

counted : (cs : List Call) → Counted (tally_of (outcome cs)) (met_by (outcome cs))
counted cs =
    let is = kept-counts (bits_taken started cs) (handed_out started cs) (after_all started cs) (kept cs) in
    record { odd = ap (λ (t : Tally). t.odd) is; even = ap (λ (t : Tally). t.even) is }

-- a whole stream
counted-whole : (bs : List ℕ) → Counted (tally_of (outcome (served bs ++ (ends ∷ takes_all)))) (faults_in (line_bits bs))
counted-whole bs = subst (Counted (tally_of (outcome all))) met (counted all)
  where
    all : List Call
    all = served bs ++ (ends ∷ takes_all)

    as_many : length (handed_out started (served bs ++ (ends ∷ takes_all))) ≡ length (frames_in (line_bits bs))
    as_many = ap length (one_by_one bs).ended ∙ length-map (frames_in (line_bits bs)) reported

    met : met_by (outcome (served bs ++ (ends ∷ takes_all))) ≡ faults_in (line_bits bs)
    met = λ i. faults (last-ended bs i) (as_many i) 0 (last-bits bs i)

pub counters : Counters
counters = record {
  says = tested-says;
  first = verdict-wrong;
  calls = counted;
  whole = counted-whole;
  turned = turned-counts;
  values = worked-counts;
}
