-- Numbers, as a person reads them.
use Rattle.std.specs.Prelude.{ℕ, ◌+◌, ◌/◌, ◌%◌, ◌==◌, ◌&&◌, nat_lt, if◌then◌else◌, List, [], ◌∷◌}
use Rattle.std.specs.Prelude.{◌++◌, length, codes}
use Rattle.std.specs.Fmt.{decimal}

-- the last two digits
unfoldable pub two : ℕ → List ℕ
two number = (48 + number / 10 % 10) ∷ (48 + number % 10) ∷ []

-- the last three digits
unfoldable pub three : ℕ → List ℕ
three number = (48 + number / 100 % 10) ∷ (48 + number / 10 % 10) ∷ (48 + number % 10) ∷ []

-- a comma, where so many digits are left that begin a group of three
abbrev pub comma_before : ℕ → List ℕ
comma_before left = if nat_lt 0 left && left % 3 == 0 then codes "," else []

-- digits with a comma between their groups of three, counted from the last
abbrev pub grouped : List ℕ → List ℕ
grouped [] = []
grouped (first ∷ others) = (first ∷ comma_before (length others)) ++ grouped others

-- a number in decimal, in groups of three digits
abbrev pub thousands : ℕ → List ℕ
thousands number = grouped (decimal number)
