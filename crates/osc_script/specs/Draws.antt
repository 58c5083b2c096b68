-- Numbers that are drawn from a seed.
use Rattle.std.specs.Prelude.{ℕ, zero, suc, ◌+◌, ◌*◌, ◌/◌, ◌%◌, ◌^◌}

-- the number after this one
unfoldable pub following : ℕ → ℕ
following number = (number * 6364136223846793005 + 1442695040888963407) % 2 ^ 64

-- the number that so many draws leave
abbrev pub after : ℕ → ℕ → ℕ
after zero number = number
after (suc draws) number = following (after draws number)

-- the n-th draw from a number on, counted from 1: a number below the bound
abbrev pub drawn : ℕ → ℕ → ℕ → ℕ
drawn n bound number = after n number / 2 ^ 33 % bound
