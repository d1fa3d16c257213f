-- `bit_of` meets its contract: by a loop over the bits, of which none before this one has the remainder. Assumes nothing.
use Prim.Native.Nat.{◌≤◌}
use Rattle.mender_words.specs.Words.{place_of}
use Rattle.mender_words.proofs.bit_of.Given as goal

-- the place of the remainder is not before this one
abbrev pub invariant-loop-place : goal.invariant-loop-place
invariant-loop-place l = l.place ≤ place_of l.remainder
