-- What a tree holds, and which methods stand at, above and below an address.
use Rattle.std.specs.Prelude.{◌≡◌, ◌≢◌, ℕ, ◌≤◌, ◌==◌, false, not, IsTrue, List, length, filter}
use Rattle.std.specs.Prelude.{find, All, Contains, Option}
use Rattle.std.specs.Option.{option_map}
use Rattle.std.specs.Str.{bytes_eq}
use Rattle.osc_pattern.specs.Addresses.{is_proper_prefix}
use Rattle.osc_pattern.specs.Methods.{Method, IsMethodList, nodes}

-- the methods in the order of adding, and how many methods and how many nodes there may be
pub record Registry : Type 0 where
  pub methods : List Method
  pub method_limit : ℕ
  pub node_limit : ℕ

-- a lawful list of methods, with no more methods and nodes than there may be
pub record IsLawful (tree : Registry) : Type 0 where
  pub list : IsMethodList tree.methods
  pub few_methods : length tree.methods ≤ tree.method_limit
  pub few_nodes : nodes tree.methods ≤ tree.node_limit

-- the method with this number has this address
abbrev pub IsAt : List Method → ℕ → List ℕ → Type 0
IsAt methods id address = Contains methods (record { id = id; address = address })

-- the method with this number has a proper prefix of the address
abbrev pub IsAbove : List Method → ℕ → List ℕ → Type 0
IsAbove methods id address = (above : List ℕ) × IsAt methods id above
    × IsTrue (is_proper_prefix above address)

-- a method has an address of which this one is a proper prefix
abbrev pub HasBelow : List Method → List ℕ → Type 0
HasBelow methods address = (id : ℕ) × (below : List ℕ) × IsAt methods id below
    × IsTrue (is_proper_prefix address below)

-- no method has this number
abbrev pub IsNewId : List Method → ℕ → Type 0
IsNewId methods id = All (λ method. method.id ≢ id) methods

-- no method has the address
abbrev pub NoneAt : List Method → List ℕ → Type 0
NoneAt methods address = All (λ method. method.address ≢ address) methods

-- no method has a proper prefix of the address
abbrev pub NoneAbove : List Method → List ℕ → Type 0
NoneAbove methods address = All (λ method. is_proper_prefix method.address address ≡ false) methods

-- the address is a proper prefix of no method's address
abbrev pub NoneBelow : List Method → List ℕ → Type 0
NoneBelow methods address = All (λ method. is_proper_prefix address method.address ≡ false) methods

-- the number of the method that has the address
abbrev pub id_at : List Method → List ℕ → Option ℕ
id_at methods address =
    option_map (λ method. method.id) (find (λ method. bytes_eq method.address address) methods)

-- the number of the method that has a proper prefix of the address
abbrev pub id_above : List Method → List ℕ → Option ℕ
id_above methods address =
    option_map (λ method. method.id)
    (find (λ method. is_proper_prefix method.address address) methods)

-- the methods but for the one that has the address
abbrev pub without : List Method → List ℕ → List Method
without methods address = filter (λ method. not (bytes_eq method.address address)) methods

-- the address of the method with this number
abbrev pub address_by_id : List Method → ℕ → Option (List ℕ)
address_by_id methods id =
    option_map (λ method. method.address) (find (λ method. method.id == id) methods)
