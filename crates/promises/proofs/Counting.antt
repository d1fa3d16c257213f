-- A reader's counters are those of the faults that it met in the bits taken. Assumes nothing.
use mathlib.Core.Path.{◌≡◌, sym, ap, ap₂, ◌∙◌}
use mathlib.Core.Bool.{Bool}
use mathlib.Core.List.{List, [], ◌++◌, append-nil}
use Prim.Native.Nat.{ℕ, ◌+◌}
use native.Mathlib.Nat.{add-zero}
use lib.ListN.{length, length-map}
use Rattle.frame.specs.declared.Frame.{Frame}
use Rattle.stream.specs.Faults.{faults}
use Rattle.stream.proofs.Hunting.{met_all}
use Rattle.reader.specs.Hunting.{fresh, tallied}
use Rattle.reader.specs.Reading.{bits_of}
use Rattle.reader.specs.declared.Reader.{Reader}
use Rattle.reader.proofs.Tallies.{counts_of, tallied-counts}
use Rattle.promises.specs.Calls.{reported}
use Rattle.promises.proofs.Kept.{Kept}
use Rattle.promises.proofs.Demand3.{none-comes}

module _ (s : List Bool) (out : List (ℕ × Frame)) (r : Reader) (k : Kept s out r) where
  as_many : length out ≡ length k.hits + 0
  as_many = ap length k.given ∙ length-map k.hits reported ∙ sym (add-zero (length k.hits))

  -- nothing more is met where the hunt is
  none_here : faults r.ended 0 0 (bits_of r) ≡ []
  none_here = met_all r.ended r.candidate.words r.candidate.waits (bits_of r) k.found k.idle

  met-is : k.met ≡ faults r.ended (length out) 0 s
  met-is =
      sym (ap₂ (λ n l. faults r.ended n 0 l) as_many (sym (append-nil s))
      ∙ k.stage.faulted r.ended (λ e. e) 0 [] (none-comes r.ended)
      ∙ ap (λ l. k.met ++ faults r.ended 0 0 l) (append-nil (bits_of r))
      ∙ ap (λ l. k.met ++ l) none_here
      ∙ append-nil k.met)

  pub kept-counts : r.candidate.tally ≡ counts_of (faults r.ended (length out) 0 s)
  kept-counts = k.tally ∙ ap (tallied fresh) met-is ∙ tallied-counts (faults r.ended (length out) 0 s)
