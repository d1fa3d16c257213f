-- The station's position: what reading and making say. Assumes nothing.
use Rattle.std.specs.Prelude.{ℕ, ℤ}
use Rattle.answer.specs.Order.{Says}
use Rattle.frame.specs.declared.Frame.{Frame}
use Rattle.record_stages.specs.Stages.{says_made}
use Rattle.record_positions.specs.Positions.{read_position, says_position_read, make_position}
use Rattle.record_positions.specs.declared.Position.{Position}
use Rattle.rtcm2.specs.Answer.{and_then}
use Rattle.rtcm2.specs.Header.{headed}

-- READING: the refusal that there was, then 6, 7, 8, 10
abbrev pub position_said : Says Frame → Says Position
position_said said = and_then said (λ f. says_position_read (read_position f))

-- its three numbers
abbrev pub x_said : Position → ℤ
x_said p = p.x

abbrev pub y_said : Position → ℤ
y_said p = p.y

abbrev pub z_said : Position → ℤ
z_said p = p.z

-- MAKING: 5, 6, 7, 10
abbrev pub make_said : ℕ → ℕ → ℕ → ℕ → ℕ → ℤ → ℤ → ℤ → Says Frame
make_said kind station z sequence health x y up =
    and_then (headed kind station z sequence health) (λ h. says_made (make_position h (record { x = x; y = y; z = up })))
