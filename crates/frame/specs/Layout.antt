-- The layout of a frame and the system that it speaks of: its type number decides both, and nothing else. Assumes nothing.
use Rattle.std.specs.Prelude.{◌||◌, cond, ℕ, eqb, ltb}
use Rattle.frame.specs.declared.Layout.{Layout}
use Rattle.frame.specs.declared.Layout.TheVariants.{Correction, CorrectionOrNull, Position, Health, Null, Text, Observation, General, Plain}
use Rattle.frame.specs.declared.System.{System}
use Rattle.frame.specs.declared.System.TheVariants.{Gps, Glonass}

-- ONE DECISION over type numbers; every number that is not named has a plain frame. Types 34 and 42 are read as a
-- list and as null, by their N
unfoldable pub layout_of : ℕ → Layout
layout_of kind =
    cond (eqb kind 1 || eqb kind 9 || eqb kind 31) Correction
    (cond (eqb kind 34) CorrectionOrNull
    (cond (eqb kind 3 || eqb kind 32) Position
    (cond (eqb kind 5 || eqb kind 33) Health
    (cond (eqb kind 6) Null
    (cond (eqb kind 16 || eqb kind 36) Text
    (cond (eqb kind 18 || eqb kind 19) Observation
    (cond (eqb kind 41 || eqb kind 42) General Plain)))))))

-- the layouts by number, so that two can be compared
abbrev pub layout_number : Layout → ℕ
layout_number Correction = 0
layout_number Position = 1
layout_number Health = 2
layout_number Null = 3
layout_number Text = 4
layout_number Plain = 5
layout_number CorrectionOrNull = 6
layout_number Observation = 7
layout_number General = 8

-- THE SYSTEM: GLONASS has the types 31 to 36
unfoldable pub system_of : ℕ → System
system_of kind = cond (ltb kind 31 || ltb 36 kind) Gps Glonass
