-- What is kept goes on with a note.
use Rattle.osc_atoms.specs.declared.limits.TheConstants.{MAX_PACKET}
use Rattle.std.proofs.Common.{◌≡◌, ℕ, ◌<◌, ◌≤◌, ◌^◌, Bool, true, false, cond, nat_lt, List, [], ◌∷◌, ◌++◌, length, fold, Option, Some, None, Result, Ok, Err}
use Rattle.std.proofs.Common.{refl, sym, ap, ◌∙◌, subst, arith}
use Rattle.std.proofs.lemmas.Bool.Decides.{nat_tests}
use Rattle.osc_packet.specs.Bundling.{Bundling}
use Rattle.osc_pattern.specs.Methods.{Method}
use Rattle.osc_tree.specs.Registry.{Registry, IsLawful, IsNewId}
use Rattle.osc_tree.specs.Adding.{Refusal, taken, under_method, is_container, methods_full, nodes_full, add_refusal}
use Rattle.osc_score.specs.declared.run.Run.{Run}
use Rattle.osc_score.specs.declared.reader.Reader.{Reader}
use Rattle.osc_score.specs.declared.fault.ScoreFaultKind.{ScoreFaultKind}
use Rattle.osc_score.specs.declared.fault.ScoreFaultKind.TheVariants as kinds
use Rattle.osc_script.specs.declared.fault.LineRefusal.{LineRefusal}
use Rattle.osc_script.specs.declared.fault.LineRefusal.TheVariants.{Kind, NoMemory}
use Rattle.osc_score.specs.Scores.{Note, Group, groups_of, bundle_text, addresses_of, methods_from, tree_of}
use Rattle.osc_score.specs.Reading.{run_with, extended, unless_refused, note_added}
use Rattle.osc_score.specs.Keeping.{KeepsLast, KeepsRuns, PushesNote, Registers, Keeps, IsReading, Goes}
use Rattle.osc_score.proofs.Grouping.{groups_on}
use Rattle.osc_score.proofs.Trees.{new_id, as_many, uses_same, uses_more, methods_more}

less : (m n : ℕ) → m < n → nat_lt m n ≡ true
less m n is = grind (arith, nat_tests)

not_less : (m n : ℕ) → n ≤ m → nat_lt m n ≡ false
not_less m n is = grind (arith, nat_tests)

last_tag : (least : ℕ) (notes : List Note) (note : Note) → fold (λ (last : ℕ) (other : Note). other.tag) least (notes ++ note ∷ []) ≡ note.tag
last_tag least [] note = refl
last_tag least (first ∷ notes) note = last_tag first.tag notes note

-- the next id, and the number of addresses

pub id_new : (reader : Reader) → IsReading reader → IsNewId reader.tree.methods (length reader.addresses.items)
id_new reader is =
    let methods : methods_from 0 (addresses_of is.notes) ≡ reader.tree.methods = ap (λ (t : Registry). t.methods) (sym is.kept.tree) in
    let count : length (addresses_of is.notes) ≡ length reader.addresses.items = ap (λ (l : List (List ℕ)). length l) (sym is.kept.addresses) in
    subst (λ (l : List Method). IsNewId l (length reader.addresses.items)) methods
    (subst (λ (n : ℕ). IsNewId (methods_from 0 (addresses_of is.notes)) n) count (new_id (addresses_of is.notes)))

pub few_addresses : (reader : Reader) → IsReading reader → length reader.addresses.items < 2 ^ 32
few_addresses reader is =
    let few = is.lawful.few_methods in
    omega (arith, as_many 0 (addresses_of is.notes), ap (λ (l : List (List ℕ)). length l) is.kept.addresses)

-- a bundle is too long

pub too_long : (notes : List Note) (note : Note) (reader : Reader) (kind : ScoreFaultKind) → kind ≡ kinds.Bundle
    → MAX_PACKET < length (bundle_text (run_with (groups_of notes) note)) → note_added notes note ≡ Err kind
too_long notes note reader kind is long =
    ap (λ (t : Bool). cond {A = Result (List Note) ScoreFaultKind} t (Err kinds.Bundle)
    (unless_refused (add_refusal (tree_of notes) note.address) (notes ++ note ∷ [])))
    (less MAX_PACKET (length (bundle_text (run_with (groups_of notes) note))) long)
    ∙ ap (λ (k : ScoreFaultKind). Err k) (sym is)

pub refused_goes : (notes : List Note) (note : Note) (reader : Reader) (more : List Group) (runs : List Run) (refusal : LineRefusal ScoreFaultKind)
    → PushesNote (Err refusal) (groups_of notes) more note runs → Goes (Err refusal) (note_added notes note) reader
refused_goes notes note reader more runs (Kind kind) pushes = too_long notes note reader kind pushes.0 pushes.1
refused_goes notes note reader more runs NoMemory pushes = tt

-- the runs before a note are kept with the last one taken out
pub runs_kept : (reader : Reader) (notes : List Note) (last : Option Bundling) → Keeps reader notes → last ≡ reader.last
    → KeepsRuns reader.least reader.runs.items last (groups_of notes)
runs_kept reader notes last keeps is = subst (λ (o : Option Bundling). KeepsRuns reader.least reader.runs.items o (groups_of notes)) (sym is) keeps.runs

-- what is kept of the old notes and the note, where the address is registered or there already

pub note_kept : (notes : List Note) (note : Note) (old new : Reader) (own : ℕ) (address : List ℕ) (making : Bundling)
    (result : Result (Unit {0}) (LineRefusal ScoreFaultKind))
    → IsReading old → Keeps old notes
    → note.tag ≡ own → note.address ≡ address → PushesNote (Ok making) (groups_of notes) (extended (groups_of notes) note) note new.runs.items
    → new.last ≡ Some making → new.least ≡ own
    → Registers result (add_refusal old.tree address) old.tree new.tree old.addresses.items new.addresses.items address
    → Goes result (note_added notes note) new
note_kept notes note old new own address making result reading keeps tag_is address_is pushes last_is least_is registers =
    subst (λ (r : Result (List Note) ScoreFaultKind). Goes result r new) (sym decided)
    (go result (add_refusal (tree_of notes) note.address) refl
    (subst (λ (t : Registry). Registers result (add_refusal t note.address) t new.tree old.addresses.items new.addresses.items note.address) keeps.tree
    (subst (λ (a : List ℕ). Registers result (add_refusal old.tree a) old.tree new.tree old.addresses.items new.addresses.items a)
    (sym address_is) registers))) where
      after : List Note
      after = notes ++ note ∷ []

      decided : note_added notes note ≡ unless_refused (add_refusal (tree_of notes) note.address) (notes ++ note ∷ [])
      decided =
          ap (λ (t : Bool). cond {A = Result (List Note) ScoreFaultKind} t (Err kinds.Bundle) (unless_refused (add_refusal (tree_of notes) note.address)
          (notes ++ note ∷ [])))
          (not_less MAX_PACKET (length (bundle_text (run_with (groups_of notes) note))) pushes.0)

      lawful : IsLawful (tree_of notes)
      lawful = subst IsLawful (sym reading.kept.tree ∙ keeps.tree) reading.lawful

      runs : KeepsRuns new.least new.runs.items new.last (groups_of (notes ++ note ∷ []))
      runs =
          subst (λ (o : Option Bundling). KeepsRuns new.least new.runs.items o (groups_of (notes ++ note ∷ []))) (sym last_is)
          (subst (λ (l : List Group). KeepsLast new.least new.runs.items making l) (sym (groups_on notes note))
          (subst (λ (n : ℕ). KeepsLast n new.runs.items making (extended (groups_of notes) note)) (tag_is ∙ sym least_is) pushes.1))

      kept : new.tree ≡ tree_of (notes ++ note ∷ []) → new.addresses.items ≡ addresses_of (notes ++ note ∷ []) → Keeps new (notes ++ note ∷ [])
      kept tree addresses = record {
        tree = tree;
        addresses = addresses;
        least = least_is ∙ sym tag_is ∙ sym (last_tag 2 notes note);
        runs = runs;
      }

      go : (r : Result (Unit {0}) (LineRefusal ScoreFaultKind)) → (o : Option Refusal) → add_refusal (tree_of notes) note.address ≡ o
          → Registers r o (tree_of notes) new.tree old.addresses.items new.addresses.items note.address → Goes r (unless_refused o (notes ++ note ∷ [])) new
      go (Ok done) None is so =
          let more : addresses_of (notes ++ note ∷ []) ≡ addresses_of notes ++ note.address ∷ [] = uses_more notes note lawful is in
          kept
          (so.0
          ∙ ap (λ (l : List (List ℕ)). let t : Registry = record {
            methods = methods_from 0 (addresses_of notes) ++ record { id = length l; address = note.address } ∷ [];
            method_limit = 1024;
            node_limit = 4096;
          } in t) keeps.addresses
          ∙ ap (λ (l : List Method). let t : Registry = record { methods = l; method_limit = 1024; node_limit = 4096 } in t)
          (sym (methods_more (addresses_of notes) note.address) ∙ ap (methods_from 0) (sym more)))
          (so.1 ∙ ap (λ (l : List (List ℕ)). l ++ note.address ∷ []) keeps.addresses ∙ sym more)
      go (Ok done) (Some (taken id)) is so =
          let stays : addresses_of (notes ++ note ∷ []) ≡ addresses_of notes = uses_same notes note id lawful is in
          kept
          (so.0 ∙ ap (λ (l : List (List ℕ)). let t : Registry = record { methods = methods_from 0 l; method_limit = 1024; node_limit = 4096 } in t) (sym stays))
          (so.1 ∙ keeps.addresses ∙ sym stays)
      go (Ok done) (Some (under_method id)) is so = absurd so
      go (Ok done) (Some is_container) is so = absurd so
      go (Ok done) (Some (methods_full limit)) is so = absurd so
      go (Ok done) (Some (nodes_full need free)) is so = absurd so
      go (Err (Kind kind)) o is so = so (notes ++ note ∷ [])
      go (Err NoMemory) o is so = tt
