-- Submits and releases, read field by field: each at its place, with no look at the tags. Nothing
-- public rests on this: what an entry is, `entry_of` of Reading says.
use Rattle.std.specs.Prelude.{ℕ, ◌==◌, if◌then◌else◌, List, length, Option, Some, None}
use Rattle.std.specs.Prelude.{option_and_then, option_map}
use Rattle.std.specs.Int.{w32, w64, cast_signed}
use Rattle.std.specs.Result.{result_ok}
use Rattle.osc_atoms.specs.Reading.{word_read, tag_read, blob_read}
use Rattle.osc_model.specs.Events.{submit, release, Entry as Recorded}
use Rattle.osc_record.specs.declared.version.Version.{Version}
use Rattle.osc_record.specs.declared.version.Version.TheVariants.{First, Second}
use Rattle.osc_record.specs.Reading.{natural_of, submit_answer, release_answer}

-- the number in four bytes at a place, where it isn't negative, and the place after it
abbrev pub int_at : List ℕ → ℕ → Option (ℕ × ℕ)
int_at bytes at =
    option_and_then (λ word. option_map (λ n. (n, word.1)) (natural_of (cast_signed w32 word.0)))
    (result_ok (word_read bytes at))

-- a number that only the second version has; in the first it is 0, and takes no bytes
abbrev pub later_at : Version → List ℕ → ℕ → Option (ℕ × ℕ)
later_at First bytes at = Some (0, at)
later_at Second bytes at = int_at bytes at

-- the number in eight bytes at a place, where it isn't negative, and the place after it
abbrev pub long_at : List ℕ → ℕ → Option (ℕ × ℕ)
long_at bytes at =
    option_and_then (λ word. option_map (λ n. (n, word.1)) (natural_of (cast_signed w64 word.0)))
    (result_ok (tag_read bytes at))

-- the bytes of the blob at a place, and the place after its padding
abbrev pub content_at : List ℕ → ℕ → Option (List ℕ × ℕ)
content_at bytes at = result_ok (blob_read bytes at)

-- what is read where the place is the end
abbrev pub ended_at : {X : Type 0} → List ℕ → ℕ → Option X → Option X
ended_at bytes at read = if at == length bytes then read else None

-- the entry of a submit whose arguments are from a place on
abbrev pub submit_at : Version → List ℕ → ℕ → Option Recorded
submit_at version bytes at =
    option_and_then (λ caller.
    option_and_then (λ packet.
    option_and_then (λ code.
    option_and_then (λ first.
    option_and_then (λ second.
    option_and_then (λ third.
    ended_at bytes third.1
    (option_map (λ a. record { caller = caller.0; event = submit packet.0; answer = a })
    (submit_answer code.0 first.0 second.0 third.0)))
    (later_at version bytes second.1)) (int_at bytes first.1)) (long_at bytes code.1))
    (int_at bytes packet.1)) (content_at bytes caller.1)) (int_at bytes at)

-- the entry of a release whose arguments are from a place on
abbrev pub release_at : List ℕ → ℕ → Option Recorded
release_at bytes at =
    option_and_then (λ caller.
    option_and_then (λ unit.
    option_and_then (λ hits.
    ended_at bytes hits.1
    (option_map (λ a. record { caller = caller.0; event = release; answer = a })
    (release_answer unit.0 hits.0)))
    (content_at bytes unit.1)) (long_at bytes caller.1)) (int_at bytes at)
