-- Addresses of methods: a slash before each name.
use Rattle.osc_pattern.specs.declared.limits.TheConstants.{MAX_ADDRESS, MAX_NAME, MAX_NAMES}
use Rattle.std.specs.Prelude.{◌≡◌, ℕ, ◌≤◌, Bool, false, not, ◌&&◌, ◌||◌, ◌==◌, nat_le, nat_lt}
use Rattle.std.specs.Prelude.{nat_eq, IsTrue, List, [], ◌∷◌, ◌++◌, length, All, find, codes, Option}
use Rattle.std.specs.Prelude.{is_none}
use Rattle.std.specs.List.{list_any, starts_with}
use Rattle.osc_pattern.specs.declared.faults.AddressFault.{AddressFault}
use Rattle.osc_pattern.specs.declared.faults.AddressFault.TheVariants.{NoSlash, EmptyName, BadByte}
use Rattle.osc_pattern.specs.declared.faults.AddressFault.TheVariants.{NameLong, AddressLong}
use Rattle.osc_pattern.specs.declared.faults.AddressFault.TheVariants.{TooManyParts, NoMemory}
use Rattle.osc_pattern.specs.Patterns.{begins_with_slash, parts_of}

-- a byte that no name has: outside 0x21 to 0x7e, or one of `#*,?[]{}`
abbrev pub is_bad_byte : ℕ → Bool
is_bad_byte byte =
    not (nat_le 0x21 byte && nat_le byte 0x7e)
    || list_any (λ other. byte == other) (codes "#*,?[]{}")

-- a lawful address: a slash before each of at most 16 names of 1 to 63 bytes, without bad bytes, at
-- most 255 bytes in all
pub record IsAddress (bytes : List ℕ) : Type 0 where
  pub slash : IsTrue (begins_with_slash bytes)
  pub named : All (λ name. 1 ≤ length name) (parts_of bytes)
  pub spelled : All (λ name. list_any is_bad_byte name ≡ false) (parts_of bytes)
  pub names_short : All (λ name. length name ≤ MAX_NAME) (parts_of bytes)
  pub short : length bytes ≤ MAX_ADDRESS
  pub few : length (parts_of bytes) ≤ MAX_NAMES

-- whether the text breaks the rule that the fault names
abbrev pub breaks : List ℕ → AddressFault → Bool
breaks bytes NoSlash = not (begins_with_slash bytes)
breaks bytes EmptyName = list_any (λ name. nat_lt (length name) 1) (parts_of bytes)
breaks bytes BadByte = list_any (list_any is_bad_byte) (parts_of bytes)
breaks bytes NameLong = list_any (λ name. nat_lt MAX_NAME (length name)) (parts_of bytes)
breaks bytes AddressLong = nat_lt MAX_ADDRESS (length bytes)
breaks bytes TooManyParts = nat_lt MAX_NAMES (length (parts_of bytes))
breaks bytes NoMemory = false

-- the rules in the order in which they are tried, each over the whole text before the next
abbrev pub address_rules : List AddressFault
address_rules = NoSlash ∷ EmptyName ∷ BadByte ∷ NameLong ∷ AddressLong ∷ TooManyParts ∷ []

-- the first rule that the text breaks
abbrev pub address_fault : List ℕ → Option AddressFault
address_fault bytes = find (breaks bytes) address_rules

-- whether the bytes are an address
abbrev pub is_address : List ℕ → Bool
is_address bytes = is_none (address_fault bytes)

-- the second address is the first, a slash, and more
abbrev pub is_proper_prefix : List ℕ → List ℕ → Bool
is_proper_prefix prefix address = starts_with nat_eq address (prefix ++ 47 ∷ [])
