-- Which addresses a pattern selects.
use Rattle.std.specs.Prelude.{ℕ, Bool, ◌&&◌, nat_le, List, length}
use Rattle.std.specs.List.{list_all}
use Rattle.osc_pattern.specs.declared.limits.TheConstants.{MAX_NAME}
use Rattle.osc_pattern.specs.Patterns.{begins_with_slash, parts_of, matches}

-- a name isn't longer than that of an address may be
abbrev pub is_short : List ℕ → Bool
is_short name = nat_le (length name) MAX_NAME

-- A pattern matches a text that is read as an address: it begins with a slash, and its names, which
-- may have any bytes, so that a pattern is a text, too, aren't longer than those of an address.
abbrev pub selects : List ℕ → List ℕ → Bool
selects pattern text =
    begins_with_slash text && list_all is_short (parts_of text) && matches pattern text
