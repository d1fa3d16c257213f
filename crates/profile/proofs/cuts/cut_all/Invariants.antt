-- `cut_all` meets its contract: by a loop, a frame a turn. Assumes nothing.
use mathlib.Core.Path.{◌≡◌}
use lib.ListN.{length, take, drop}
use Rattle.profile.specs.Profile.{listed}
use Rattle.profile.specs.Cutting.{no_frames}
use Rattle.profile.specs.Arms.{made_part}
use Rattle.profile.proofs.cuts.cut_all.Given as goal

-- the first i frames are there, and blank ones behind them
abbrev pub invariant-loop-i : goal.invariant-loop-i
invariant-loop-i l =
    (take l.i l.frames ≡ listed (made_part l.header (take l.count l.entries)) l.i 0) × ((drop l.i l.frames ≡ drop l.i no_frames) × (length l.frames ≡ 6))
