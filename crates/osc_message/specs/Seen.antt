-- Inside the crate: what the slices of a message hold.
use Rattle.std.specs.Prelude.{◌≡◌, ℕ, Option, option_and_then, find}
use Rattle.std.specs.Option.{option_map}
use Rattle.osc_message.specs.declared.parts.Slices.{Slices}
use Rattle.osc_message.specs.Tags.{is_unknown}
use Rattle.osc_message.specs.Reading.{Parts}

-- the parts that they are
abbrev pub seen : Slices → Parts
seen s = record {
  pattern = s.pattern.now;
  tags = option_map (λ tags. tags.now) s.tags;
  place = s.place;
}

-- the first unknown tag of a message with these parts
abbrev pub unknown_in : Parts → Option ℕ
unknown_in parts = option_and_then (λ tags. find is_unknown tags) parts.tags

-- they hold the first unknown tag
abbrev pub KeepsUnknown : Slices → Type 0
KeepsUnknown s = s.unknown ≡ unknown_in (seen s)
