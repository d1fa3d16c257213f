-- Satellite numbers: five bits on the line, 0 means 32. Assumes nothing.
use Rattle.std.specs.Prelude.{cond, ℕ, ◌%◌, eqb}

-- the satellite that a code of five bits means
abbrev pub satellite_of : ℕ → ℕ
satellite_of n = cond (eqb n 0) 32 n

-- the code of a satellite 1 to 32: 32 is sent as 0
abbrev pub satellite_code : ℕ → ℕ
satellite_code s = s % 32
