-- Hosts and ports.
use Rattle.osc_patch.specs.declared.host.TheConstants.{MAX_HOST}
use Rattle.std.specs.Prelude.{ℕ, ◌==◌, ◌&&◌, ◌||◌, Bool, not, nat_le, nat_lt, if◌then◌else◌, List}
use Rattle.std.specs.Prelude.{length, slice_index, Option, Some, None}
use Rattle.std.specs.List.{slice_split, list_all}
use Rattle.std.specs.Char.{is_ascii_digit, is_ascii_alphanumeric}
use Rattle.std.specs.Str.Parse.{digits_value}

-- decimal digits alone
abbrev pub all_digits : List ℕ → Bool
all_digits word = list_all is_ascii_digit word

abbrev pub is_dot : ℕ → Bool
is_dot byte = byte == 46

-- digits and dots alone
abbrev pub is_numeric : List ℕ → Bool
is_numeric word = list_all (λ byte. is_ascii_digit byte || is_dot byte) word

-- a number below 256 in decimal, without a leading zero
abbrev pub is_octet : List ℕ → Bool
is_octet part = all_digits part && nat_lt 0 (length part)
    && (length part == 1 || not (slice_index part 0 == 48)) && nat_lt (digits_value 10 part) 256

-- four octets with dots between them
abbrev pub is_dotted : List ℕ → Bool
is_dotted word =
    length (slice_split is_dot word) == 4 && list_all is_octet (slice_split is_dot word)

-- a letter, a digit, `-` or `.`
abbrev pub is_name_byte : ℕ → Bool
is_name_byte byte = is_ascii_alphanumeric byte || byte == 45 || byte == 46

abbrev pub is_name : List ℕ → Bool
is_name word = nat_le (length word) MAX_HOST && list_all is_name_byte word

-- an IPv4 address where there are digits and dots alone, else a name
abbrev pub is_host : List ℕ → Bool
is_host word = if is_numeric word then is_dotted word else is_name word

abbrev pub within_ports : ℕ → Option ℕ
within_ports number = if nat_lt 0 number && nat_lt number 65536 then Some number else None

-- the number that digits write, from 1 to 65535
abbrev pub port_of : List ℕ → Option ℕ
port_of word = if all_digits word then within_ports (digits_value 10 word) else None
