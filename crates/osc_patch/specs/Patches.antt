-- What a patch says, line by line.
use Rattle.osc_patch.specs.declared.patch.TheConstants.{MAX_PATCH}
use Rattle.std.specs.Prelude.{◌≡◌, ◌≢◌, ℕ, ◌+◌, ◌==◌, ◌≤◌, ◌<◌, ◌&&◌, ◌||◌, Bool, false, nat_le}
use Rattle.std.specs.Prelude.{nat_lt}
use Rattle.std.specs.Prelude.{if◌then◌else◌, List, [], ◌∷◌, ◌++◌, length, find, map, bytes_eq}
use Rattle.std.specs.List.{AllPairs}
use Rattle.std.specs.Prelude.{Option, Some, None, option_map, option_to_list, Result, Ok, Err}
use Rattle.osc_pattern.specs.Addresses.{is_proper_prefix}
use Rattle.osc_patch.specs.declared.fault.Fault.{Fault}
use Rattle.osc_patch.specs.declared.fault.Fault.TheVariants.{Repeated, Nested, TooMany}
use Rattle.osc_patch.specs.declared.fault.WrongLine.{WrongLine}
use Rattle.osc_patch.specs.declared.fault.PatchError.{PatchError}
use Rattle.osc_patch.specs.declared.fault.PatchError.TheVariants.{TooLong, NoMethod, Lines}
use Rattle.osc_patch.specs.declared.entry.Entry.{Entry}
use Rattle.osc_patch.specs.declared.method.Route.{Route}
use Rattle.osc_patch.specs.declared.method.PatchMethod.{PatchMethod}
use Rattle.osc_patch.specs.declared.draft.Draft.{Draft}
use Rattle.osc_patch.specs.Words.{lines_of}
use Rattle.osc_patch.specs.Entries.{wrong_line, line_says}

-- a method of this address
abbrev pub is_at : List ℕ → PatchMethod → Bool
is_at address method = bytes_eq method.address address

-- a method that lies above this address, or under it
abbrev pub is_nested : List ℕ → PatchMethod → Bool
is_nested address method =
    is_proper_prefix method.address address || is_proper_prefix address method.address

-- a route to the same host and port
abbrev pub is_same : Route → Route → Bool
is_same route other = bytes_eq other.host route.host && other.port == route.port

-- what stands against a route of a method that is there
abbrev pub repeated : Option Route → PatchMethod → Option Fault
repeated None method = None
repeated (Some route) method =
    option_map (λ other. Repeated other.line) (find (is_same route) method.routes)

-- what stands against one method more, after the methods that lie above or under it
abbrev pub refused : ℕ → List PatchMethod → Option PatchMethod → Option Fault
refused limit methods (Some method) = Some (Nested method.line)
refused limit methods None = if nat_le limit (length methods) then Some (TooMany limit) else None

-- the same, by the method that has this address
abbrev pub clash_with : ℕ → List PatchMethod → Entry → Option PatchMethod → Option Fault
clash_with limit methods entry (Some method) = repeated entry.route method
clash_with limit methods entry None =
    refused limit methods (find (is_nested entry.address) methods)

-- what stands against an entry, after these methods
abbrev pub clash : ℕ → List PatchMethod → Entry → Option Fault
clash limit methods entry =
    clash_with limit methods entry (find (is_at entry.address) methods)

-- a method with this route too
abbrev pub with_route : Option Route → PatchMethod → PatchMethod
with_route route method = record method { routes = method.routes ++ option_to_list route }

-- the method that an entry alone adds
abbrev pub alone : Entry → PatchMethod
alone entry = record {
  address = entry.address;
  line = entry.line;
  routes = option_to_list entry.route;
}

-- the methods with an entry more: its route at the method of its address, or a method of its own
abbrev pub entered : List PatchMethod → Entry → List PatchMethod
entered [] entry = alone entry ∷ []
entered (method ∷ methods) entry = if is_at entry.address method
    then with_route entry.route method ∷ methods else method ∷ entered methods entry

-- the next wrong line
abbrev pub with_wrong : Draft → WrongLine → Draft
with_wrong reading line = record reading { wrong = reading.wrong ++ line ∷ [] }

-- an entry that nothing stands against, or the fault of its line
abbrev pub settled : Draft → Entry → Option Fault → Draft
settled reading entry None = record reading { methods = entered reading.methods entry }
settled reading entry (Some fault) = with_wrong reading (wrong_line entry.line fault entry.address)

-- what is read after one line more
abbrev pub after_line : ℕ → Draft → Result (Option Entry) WrongLine → Draft
after_line limit reading (Ok None) = reading
after_line limit reading (Ok (Some entry)) =
    settled reading entry (clash limit reading.methods entry)
after_line limit reading (Err line) = with_wrong reading line

-- what is read after these lines, counted from a number on
abbrev pub read_from : ℕ → ℕ → Draft → List (List ℕ) → Draft
read_from limit number reading [] = reading
read_from limit number reading (text ∷ texts) =
    read_from limit (number + 1) (after_line limit reading (line_says number text)) texts

-- nothing
abbrev pub unread : Draft
unread = record { methods = []; wrong = [] }

-- the methods, or all wrong lines; there is a method at least
abbrev pub outcome : List PatchMethod → List WrongLine → Result (List PatchMethod) PatchError
outcome methods (line ∷ lines) = Err (Lines (line ∷ lines))
outcome [] [] = Err NoMethod
outcome (method ∷ methods) [] = Ok (method ∷ methods)

abbrev pub outcome_of : Draft → Result (List PatchMethod) PatchError
outcome_of reading = outcome reading.methods reading.wrong

-- the methods of a patch, with a limit on how many, or why it isn't read
abbrev pub patch_of : ℕ → List ℕ → Result (List PatchMethod) PatchError
patch_of limit bytes = if nat_lt MAX_PATCH (length bytes) then Err TooLong
    else outcome_of (read_from limit 1 unread (lines_of bytes))

-- the addresses of methods
abbrev pub addresses_of : List PatchMethod → List (List ℕ)
addresses_of methods = map (λ method. method.address) methods

-- two addresses that a server takes, one after the other
pub record IsApart (a b : List ℕ) : Type 0 where
  pub other : a ≢ b
  pub above : is_proper_prefix a b ≡ false
  pub under : is_proper_prefix b a ≡ false

-- at least one method and at most so many, at addresses that differ, of which none lies under
-- another
pub record ArePatched (limit : ℕ) (methods : List PatchMethod) : Type 0 where
  pub some : 0 < length methods
  pub few : length methods ≤ limit
  pub apart : AllPairs IsApart (addresses_of methods)
