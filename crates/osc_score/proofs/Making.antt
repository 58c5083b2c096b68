-- The last run is in the making, and goes on with a note, or a new one begins.
use Rattle.osc_atoms.specs.declared.limits.TheConstants.{MAX_PACKET}
use Rattle.std.proofs.Common.{◌≡◌, ◌≢◌, ℕ, ◌<◌, ◌≤◌, ◌==◌, Bool, true, false, cond, List, [], ◌∷◌, ◌++◌, length, map, Result, Ok, Err, refl, sym, ap, ◌∙◌}
use Rattle.std.proofs.Common.{subst, arith}
use Rattle.std.proofs.Common.{append_assoc}
use Rattle.std.specs.List.{flat_map}
use Rattle.std.proofs.lemmas.Bool.Decides.{nat_tests}
use Rattle.std.proofs.lemmas.List.{map-append}
use Rattle.osc_atoms.specs.Atoms.{word, tag}
use Rattle.osc_message.specs.Messages.{message_text}
use Rattle.osc_packet.specs.Packets.{elements_text, bundle_word}
use Rattle.osc_packet.specs.Bundling.{Bundling, with_message, sized, bundled}
use Rattle.osc_score.specs.declared.run.Run.{Run}
use Rattle.osc_score.specs.declared.fault.ScoreFaultKind.{ScoreFaultKind}
use Rattle.osc_script.specs.declared.fault.LineRefusal.{LineRefusal}
use Rattle.osc_script.specs.declared.fault.LineRefusal.TheVariants.{Kind, NoMemory}
use Rattle.osc_score.specs.Scores.{Note, Group, alone, message_of, elements_of, bundle_text}
use Rattle.osc_score.specs.Plans.{run_of}
use Rattle.osc_score.specs.Reading.{run_with, extended}
use Rattle.osc_score.specs.Keeping.{texts_of, making_of, KeepsLast, Pushes, PushesNote}

texts_are : (notes : List Note) → flat_map sized (texts_of notes) ≡ elements_text (elements_of notes)
texts_are [] = refl
texts_are (note ∷ notes) =
    let text : List ℕ = message_text (message_of note) in
    append_assoc (word (length text)) text (flat_map sized (texts_of notes)) ∙ ap (λ (l : List ℕ). word (length text) ++ (text ++ l)) (texts_are notes)

making_text : (group : Group) → bundled (making_of group) ≡ bundle_text group
making_text group = ap (λ (l : List ℕ). bundle_word ++ (tag group.tag ++ l)) (texts_are group.notes)

run_last : (done : List Group) (last : Group) (note : Note) → run_with (done ++ last ∷ []) note ≡ run_with (last ∷ []) note
run_last [] last note = refl
run_last (group ∷ []) last note = refl
run_last (group ∷ next ∷ done) last note = run_last (next ∷ done) last note

extended_last : (done : List Group) (last : Group) (note : Note) → extended (done ++ last ∷ []) note ≡ done ++ extended (last ∷ []) note
extended_last [] last note = refl
extended_last (group ∷ []) last note = refl
extended_last (group ∷ next ∷ done) last note = ap (λ (l : List Group). group ∷ l) (extended_last (next ∷ done) last note)

equal : (m n : ℕ) → m ≡ n → (m == n) ≡ true
equal m n same = grind (arith, nat_tests)

unequal : (m n : ℕ) → m ≢ n → (m == n) ≡ false
unequal m n other = grind (arith, nat_tests)

-- the last run is kept, too
pub last_kept : (least : ℕ) (runs new : List Run) (making : Bundling) (groups : List Group) → KeepsLast least runs making groups
    → new ≡ runs ++ record { tag = least; bundle = bundled making } ∷ [] → new ≡ map run_of groups
last_kept least runs new making groups keeps added =
    let done : List Group = keeps.done in
    let last : Group = keeps.last in
    added
    ∙ ap (λ (l : List Run). l ++ record { tag = least; bundle = bundled making } ∷ []) keeps.kept
    ∙ ap (λ (n : ℕ). let r : Run = record { tag = n; bundle = bundled making } in map run_of done ++ r ∷ []) (sym keeps.tag_is)
    ∙ ap (λ (l : List ℕ). let r : Run = record { tag = last.tag; bundle = l } in map run_of done ++ r ∷ []) (ap bundled keeps.making_is ∙ making_text last)
    ∙ sym (map-append run_of done (last ∷ []))
    ∙ ap (λ (l : List Group). map run_of l) (sym keeps.parts)

-- the note ends this run, which is in the making after others
ended : (groups done : List Group) (group : Group) (note : Note) (runs : List Run) (making : Bundling) (result : Result Bundling (LineRefusal ScoreFaultKind))
    → run_with groups note ≡ group → extended groups note ≡ done ++ group ∷ [] → runs ≡ map run_of done → making ≡ making_of group → group.tag ≡ note.tag
    → Pushes result making (length (bundled making)) → PushesNote result groups (extended groups note) note runs
ended groups done group note runs making result is more kept made tag_is pushes = go result pushes where
  size : length (bundled making) ≡ length (bundle_text (run_with groups note))
  size = ap (λ (b : Bundling). length (bundled b)) made ∙ ap (λ (l : List ℕ). length l) (making_text group)
      ∙ ap (λ (g : Group). length (bundle_text g)) (sym is)

  go : (r : Result Bundling (LineRefusal ScoreFaultKind)) → Pushes r making (length (bundled making)) → PushesNote r groups (extended groups note) note runs
  go (Ok new) so = (
    subst (λ (n : ℕ). n ≤ MAX_PACKET) size so.1,
    record { done = done; last = group; parts = more; kept = kept; making_is = so.0 ∙ made; tag_is = tag_is },
  )
  go (Err (Kind kind)) so = (so.0, subst (λ (n : ℕ). MAX_PACKET < n) size so.1)
  go (Err NoMemory) so = tt

-- a message is pushed to the last run

pub same_pushed : (least own : ℕ) (runs : List Run) (making : Bundling) (groups : List Group) (note : Note) (bytes : List ℕ)
    (result : Result Bundling (LineRefusal ScoreFaultKind))
    → KeepsLast least runs making groups → note.tag ≡ own → own ≡ least → bytes ≡ message_text (message_of note)
    → Pushes result (with_message making bytes) (length (bundled (with_message making bytes))) → PushesNote result groups (extended groups note) note runs
same_pushed least own runs making groups note bytes result keeps tag_is least_is is pushes =
    let done : List Group = keeps.done in
    let last : Group = keeps.last in
    let group : Group = record { tag = last.tag; notes = last.notes ++ note ∷ [] } in
    let tags : last.tag ≡ note.tag = keeps.tag_is ∙ sym least_is ∙ sym tag_is in
    let test : (last.tag == note.tag) ≡ true = equal last.tag note.tag tags in
    let text : List ℕ = message_text (message_of note) in
    ended groups done group note runs (with_message making bytes) result
    (ap (λ (l : List Group). run_with l note) keeps.parts ∙ run_last done last note ∙ ap (λ (t : Bool). cond t group (alone note)) test)
    (ap (λ (l : List Group). extended l note) keeps.parts ∙ extended_last done last note
    ∙ ap (λ (t : Bool). done ++ cond t (group ∷ []) (last ∷ alone note ∷ [])) test)
    keeps.kept
    (ap (λ (b : Bundling). with_message b bytes) keeps.making_is ∙ ap (λ (l : List ℕ). with_message (making_of last) l) is
    ∙ ap (λ (l : List (List ℕ)). let b : Bundling = record { tag = last.tag; messages = l } in b)
    (sym (map-append (λ (n : Note). message_text (message_of n)) last.notes (note ∷ []))))
    tags pushes

-- a run begins with it

begins : (groups : List Group) (note : Note) (runs : List Run) (own : ℕ) (bytes : List ℕ) (result : Result Bundling (LineRefusal ScoreFaultKind))
    → run_with groups note ≡ alone note
    → extended groups note ≡ groups ++ alone note ∷ [] → runs ≡ map run_of groups → note.tag ≡ own → bytes ≡ message_text (message_of note)
    → Pushes result (record { tag = own; messages = bytes ∷ [] }) (length (bundled (record { tag = own; messages = bytes ∷ [] })))
    → PushesNote result groups (extended groups note) note runs
begins groups note runs own bytes result is more kept tag_is text_is pushes =
    ended groups groups (alone note) note runs (record { tag = own; messages = bytes ∷ [] }) result is more kept
    (ap (λ (n : ℕ). let b : Bundling = record { tag = n; messages = bytes ∷ [] } in b) (sym tag_is)
    ∙ ap (λ (l : List ℕ). let b : Bundling = record { tag = note.tag; messages = l ∷ [] } in b) text_is)
    refl pushes

pub first_begun : (groups : List Group) (note : Note) (runs : List Run) (own : ℕ) (bytes : List ℕ)
    (result : Result Bundling (LineRefusal ScoreFaultKind)) → groups ≡ []
    → runs ≡ []
    → note.tag ≡ own → bytes ≡ message_text (message_of note)
    → Pushes result (record { tag = own; messages = bytes ∷ [] }) (length (bundled (record { tag = own; messages = bytes ∷ [] })))
    → PushesNote result groups (extended groups note) note runs
first_begun groups note runs own bytes result none empty tag_is text_is pushes =
    begins groups note runs own bytes result (ap (λ (l : List Group). run_with l note) none)
    (ap (λ (l : List Group). extended l note) none ∙ ap (λ (l : List Group). l ++ alone note ∷ []) (sym none))
    (empty ∙ ap (λ (l : List Group). map run_of l) (sym none)) tag_is text_is pushes

pub next_begun : (least own : ℕ) (runs new : List Run) (making : Bundling) (groups : List Group) (note : Note) (bytes : List ℕ)
    (result : Result Bundling (LineRefusal ScoreFaultKind))
    → KeepsLast least runs making groups → new ≡ runs ++ record { tag = least; bundle = bundled making } ∷ [] → note.tag ≡ own → own ≢ least
    → bytes ≡ message_text (message_of note)
    → Pushes result (record { tag = own; messages = bytes ∷ [] }) (length (bundled (record { tag = own; messages = bytes ∷ [] })))
    → PushesNote result groups (extended groups note) note new
next_begun least own runs new making groups note bytes result keeps added tag_is other text_is pushes =
    let done : List Group = keeps.done in
    let last : Group = keeps.last in
    let test : (last.tag == note.tag) ≡ false = unequal last.tag note.tag (λ tags. other (sym tag_is ∙ sym tags ∙ keeps.tag_is)) in
    let grown : Group = record { tag = last.tag; notes = last.notes ++ note ∷ [] } in
    let kept : new ≡ map run_of groups = last_kept least runs new making groups keeps added in
    begins groups note new own bytes result
    (ap (λ (l : List Group). run_with l note) keeps.parts ∙ run_last done last note ∙ ap (λ (t : Bool). cond t grown (alone note)) test)
    (ap (λ (l : List Group). extended l note) keeps.parts ∙ extended_last done last note
    ∙ ap (λ (t : Bool). done ++ cond t (grown ∷ []) (last ∷ alone note ∷ [])) test
    ∙ sym (append_assoc done (last ∷ []) (alone note ∷ [])) ∙ ap (λ (l : List Group). l ++ alone note ∷ []) (sym keeps.parts))
    kept tag_is text_is pushes
