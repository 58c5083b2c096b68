-- The script of a score is a script: each of its acts can be said by a line, and it isn't too long.
use Rattle.osc_script.specs.declared.script.TheConstants.{MAX_SCRIPT}
use Rattle.std.proofs.Common.{◌≡◌, ℕ, zero, suc, ◌+◌, ◌*◌, ◌<◌, ◌≤◌, ◌||◌, Bool, true, false, cond, List, [], ◌∷◌, ◌++◌, length, map, take, drop, replicate, refl, sym, ap, ◌∙◌, subst, arith}
use Rattle.std.proofs.Common.{length-append, take-append-drop}
use Rattle.std.specs.List.{AllByRecursion, flat_map, list_any}
use Rattle.std.specs.Str.{bytes_eq}
use Rattle.std.proofs.lemmas.Bool.Decides.{nat_tests}
use Rattle.std.proofs.lemmas.List.Concat.{flat_map-append}
use Rattle.hex.specs.Hex.{IsBytes, encode_lower, lower_digits}
use Rattle.hex.proofs.HexLemmas.{length-encode_with}
use Rattle.osc_atoms.specs.Atoms.{word, tag, string, string_end, blob, blob_end}
use Rattle.osc_pattern.specs.Patterns.{IsPattern, is_outside}
use Rattle.osc_message.specs.Messages.{Argument, integer, float, text, content, long, time, double, symbol, character, rgba, midi, true_, false_, nil, infinitum}
use Rattle.osc_message.specs.Messages.{array_start, array_end, tag_of, atom_of, tag_string, message_text}
use Rattle.osc_packet.specs.Packets.{elements_text, bundle_word}
use Rattle.osc_script.specs.declared.act.Act.{Act}
use Rattle.osc_script.specs.declared.act.Act.TheVariants.{Add, Send, Tick, Pump}
use Rattle.osc_script.specs.Written.{IsWritable, act_line, written}
use Rattle.osc_score.specs.Scores.{Note, Group, groups_of, message_of, elements_of, bundle_text, first_uses, addresses_of, IsNote, IsOfBytes, IsScore, score_size}
use Rattle.osc_score.specs.Scripted.{batch, batches, score_acts, score_script}
use Rattle.osc_score.proofs.Acts.{adds, sends, ticks}
use Rattle.osc_score_laws.specs.Known.{Known}
use Rattle.osc_score_laws.proofs.Grouped.{IsRun, groups_run}
use Rattle.osc_score_laws.proofs.Adds.{adds_size}
use Rattle.osc_score_laws.proofs.Lists.{all_on, all_front, all_back}
use Rattle.osc_score_laws.proofs.Batches.{runs_size}
use Rattle.osc_score_laws.proofs.Sizes.{score_few}

-- Bytes.

abbrev IsSmall : ℕ → Type 0
IsSmall byte = byte < 256

abbrev AreSmall : List ℕ → Type 0
AreSmall bytes = AllByRecursion IsSmall bytes

small_of : (bytes : List ℕ) → IsBytes bytes → AreSmall bytes
small_of [] each = tt
small_of (byte ∷ bytes) each = (each 0, small_of bytes (λ k. each (suc k)))

first_small : (byte : ℕ) (bytes : List ℕ) → byte < 256 → IsBytes bytes → IsBytes (byte ∷ bytes)
first_small byte bytes small each zero = small
first_small byte bytes small each (suc k) = each k

bytes_of : (bytes : List ℕ) → AreSmall bytes → IsBytes bytes
bytes_of [] small = λ k. omega arith
bytes_of (byte ∷ bytes) small = first_small byte bytes small.0 (bytes_of bytes small.1)

small_zeros : (n : ℕ) → AreSmall (replicate n 0)
small_zeros zero = tt
small_zeros (suc n) = (omega arith, small_zeros n)

small_word : (n : ℕ) → AreSmall (word n)
small_word n = (omega arith, (omega arith, (omega arith, (omega arith, tt))))

small_tag : (n : ℕ) → AreSmall (tag n)
small_tag n = (omega arith, (omega arith, (omega arith, (omega arith, (omega arith, (omega arith, (omega arith, (omega arith, tt))))))))

small_string : (bytes : List ℕ) → AreSmall bytes → AreSmall (string bytes)
small_string bytes small = all_on IsSmall bytes (replicate (string_end (length bytes)) 0) small (small_zeros (string_end (length bytes)))

small_blob : (bytes : List ℕ) → AreSmall bytes → AreSmall (blob bytes)
small_blob bytes small =
    all_on IsSmall (word (length bytes)) (bytes ++ replicate (blob_end (length bytes)) 0) (small_word (length bytes))
    (all_on IsSmall bytes (replicate (blob_end (length bytes)) 0) small (small_zeros (blob_end (length bytes))))

small_atom : (argument : Argument) → IsOfBytes argument → AreSmall (atom_of argument)
small_atom (integer number) is = small_word _
small_atom (float bits) is = small_word bits
small_atom (text bytes) is = small_string bytes (small_of bytes is)
small_atom (content bytes) is = small_blob bytes (small_of bytes is)
small_atom (long number) is = small_tag _
small_atom (time number) is = small_tag number
small_atom (double bits) is = small_tag bits
small_atom (symbol bytes) is = small_string bytes (small_of bytes is)
small_atom (character number) is = small_word number
small_atom (rgba number) is = small_word number
small_atom (midi number) is = small_word number
small_atom true_ is = tt
small_atom false_ is = tt
small_atom nil is = tt
small_atom infinitum is = tt
small_atom array_start is = tt
small_atom array_end is = tt

tag_few : (argument : Argument) → tag_of argument < 256
tag_few (integer number) = omega arith
tag_few (float bits) = omega arith
tag_few (text bytes) = omega arith
tag_few (content bytes) = omega arith
tag_few (long number) = omega arith
tag_few (time number) = omega arith
tag_few (double bits) = omega arith
tag_few (symbol bytes) = omega arith
tag_few (character number) = omega arith
tag_few (rgba number) = omega arith
tag_few (midi number) = omega arith
tag_few true_ = omega arith
tag_few false_ = omega arith
tag_few nil = omega arith
tag_few infinitum = omega arith
tag_few array_start = omega arith
tag_few array_end = omega arith

small_tags : (arguments : List Argument) → AreSmall (map tag_of arguments)
small_tags [] = tt
small_tags (argument ∷ arguments) = (tag_few argument, small_tags arguments)

small_atoms : (arguments : List Argument) → AllByRecursion IsOfBytes arguments → AreSmall (flat_map atom_of arguments)
small_atoms [] all = tt
small_atoms (argument ∷ arguments) all =
    all_on IsSmall (atom_of argument) (flat_map atom_of arguments) (small_atom argument all.0) (small_atoms arguments all.1)

inside_small : (bytes : List ℕ) → list_any is_outside bytes ≡ false → AreSmall bytes
inside_small [] e = tt
inside_small (byte ∷ bytes) e = go (is_outside byte) refl e (inside_small bytes) where
  go : (t : Bool) → is_outside byte ≡ t → (t || list_any is_outside bytes) ≡ false → (list_any is_outside bytes ≡ false → AreSmall bytes)
      → AreSmall (byte ∷ bytes)
  go true is so more = absurd (cc)
  go false is so more = (grind (arith, nat_tests), more so)

small_message : Known → (note : Note) → IsNote note → AreSmall (message_text (message_of note))
small_message known note is =
    let tags : List ℕ = map tag_of note.arguments in
    let atoms : List ℕ = flat_map atom_of note.arguments in
    let pattern : IsPattern note.address = known.pattern note.address is.address in
    all_on IsSmall (string note.address) (tag_string tags ++ atoms) (small_string note.address (inside_small note.address pattern.inside))
    (all_on IsSmall (tag_string tags) atoms (small_string (44 ∷ tags) (omega arith, small_tags note.arguments)) (small_atoms note.arguments is.bytes))

small_elements : Known → (notes : List Note) → AllByRecursion IsNote notes → AreSmall (elements_text (elements_of notes))
small_elements known [] all = tt
small_elements known (note ∷ notes) all =
    let text : List ℕ = message_text (message_of note) in
    all_on IsSmall (word (length text)) (text ++ elements_text (elements_of notes)) (small_word (length text))
    (all_on IsSmall text (elements_text (elements_of notes)) (small_message known note all.0) (small_elements known notes all.1))

small_head : AreSmall bundle_word
small_head = (omega arith, (omega arith, (omega arith, (omega arith, (omega arith, (omega arith, (omega arith, (omega arith, tt))))))))

small_bundle : Known → (group : Group) → IsRun group → AreSmall (bundle_text group)
small_bundle known group is =
    all_on IsSmall bundle_word (tag group.tag ++ elements_text (elements_of group.notes)) small_head
    (all_on IsSmall (tag group.tag) (elements_text (elements_of group.notes)) (small_tag group.tag) (small_elements known group.notes is.lawful))

-- Acts.

abbrev AreWritable : List Act → Type 0
AreWritable acts = AllByRecursion IsWritable acts

adds_writable : Known → (before : List (List ℕ)) (notes : List Note) → AllByRecursion IsNote notes → AreWritable (adds (first_uses before notes))
adds_writable known before [] all = tt
adds_writable known before (note ∷ notes) all =
    go (list_any (bytes_eq note.address) before) (adds_writable known before notes all.1) (adds_writable known (before ++ note.address ∷ []) notes all.1) where
      go : (t : Bool) → AreWritable (adds (first_uses before notes)) → AreWritable (adds (first_uses (before ++ note.address ∷ []) notes))
          → AreWritable (adds (cond t (first_uses before notes) (note.address ∷ first_uses (before ++ note.address ∷ []) notes)))
      go true old new = old
      go false old new = (known.spelled note.address (all.0).address, new)

sends_writable : Known → (groups : List Group) → AllByRecursion IsRun groups → AreWritable (sends groups)
sends_writable known [] all = tt
sends_writable known (group ∷ groups) all =
    ((bytes_of (bundle_text group) (small_bundle known group all.0), omega arith), sends_writable known groups all.1)

ticks_writable : (groups : List Group) → AllByRecursion IsRun groups → AreWritable (ticks groups)
ticks_writable [] all = tt
ticks_writable (group ∷ groups) all = ((all.0).fits, (tt, ticks_writable groups all.1))

batches_writable : Known → (count : ℕ) (groups : List Group) → AllByRecursion IsRun groups → AreWritable (batches count groups)
batches_writable known zero groups all = tt
batches_writable known (suc count) groups all =
    let first : List Group = take 16 groups in
    let more : List Group = drop 16 groups in
    let whole : AllByRecursion IsRun (first ++ more) = subst (AllByRecursion IsRun) (sym (take-append-drop 16 groups)) all in
    all_on IsWritable (batch first) (batches count more)
    (all_on IsWritable (sends first) (ticks first) (sends_writable known first (all_front IsRun first more whole)) (ticks_writable first (all_front IsRun first more whole)))
    (batches_writable known count more (all_back IsRun first more whole))

pub score_writable : Known → (notes : List Note) → IsScore notes → AreWritable (score_acts notes)
score_writable known notes is =
    all_on IsWritable (adds (addresses_of notes)) (batches (length (groups_of notes)) (groups_of notes)) (adds_writable known [] notes is.lawful)
    (batches_writable known (length (groups_of notes)) (groups_of notes) (groups_run notes is.lawful))

-- Lines.

abbrev adds_text : List (List ℕ) → ℕ
adds_text [] = 0
adds_text (address ∷ addresses) = 5 + length address + adds_text addresses

abbrev runs_text : List Group → ℕ
runs_text [] = 0
runs_text (group ∷ groups) = 33 + 2 * length (bundle_text group) + runs_text groups

lines_on : (first more : List Act) → length (written (first ++ more)) ≡ length (written first) + length (written more)
lines_on first more = ap length (flat_map-append act_line first more) ∙ length-append (written first) (written more)

adds_long : (addresses : List (List ℕ)) → length (written (adds addresses)) ≡ adds_text addresses
adds_long [] = refl
adds_long (address ∷ addresses) =
    omega (arith, adds_long addresses, length-append (act_line (Add address)) (written (adds addresses)), length-append address (10 ∷ []))

abbrev sends_text : List Group → ℕ
sends_text [] = 0
sends_text (group ∷ groups) = 6 + 2 * length (bundle_text group) + sends_text groups

digits_long : (bytes : List ℕ) → length (encode_lower bytes) ≡ 2 * length bytes
digits_long bytes = length-encode_with lower_digits bytes

sends_long : (groups : List Group) → length (written (sends groups)) ≡ sends_text groups
sends_long [] = refl
sends_long (group ∷ groups) =
    omega (
      arith,
      sends_long groups,
      length-append (act_line (Send (bundle_text group))) (written (sends groups)),
      length-append (encode_lower (bundle_text group)) (10 ∷ []),
      digits_long (bundle_text group),
    )

ticks_long : (groups : List Group) → length (written (ticks groups)) ≡ 27 * length groups
ticks_long [] = omega arith
ticks_long (group ∷ groups) =
    omega (
      arith,
      ticks_long groups,
      length-append (act_line (Tick group.tag)) (act_line Pump ++ written (ticks groups)),
      length-append (act_line Pump) (written (ticks groups)),
      length-append (encode_lower (tag group.tag)) (10 ∷ []),
      digits_long (tag group.tag),
    )

both_text : (groups : List Group) → sends_text groups + 27 * length groups ≡ runs_text groups
both_text [] = omega arith
both_text (group ∷ groups) = omega (arith, both_text groups)

batch_long : (groups : List Group) → length (written (batch groups)) ≡ runs_text groups
batch_long groups = omega (arith, lines_on (sends groups) (ticks groups), sends_long groups, ticks_long groups, both_text groups)

runs_on : (first more : List Group) → runs_text (first ++ more) ≡ runs_text first + runs_text more
runs_on [] more = omega arith
runs_on (group ∷ first) more = omega (arith, runs_on first more)

batches_long : (count : ℕ) (groups : List Group) → length (written (batches count groups)) ≤ runs_text groups
batches_long zero groups = omega arith
batches_long (suc count) groups =
    let first : List Group = take 16 groups in
    let more : List Group = drop 16 groups in
    omega (
      arith,
      lines_on (batch first) (batches count more),
      batch_long first,
      batches_long count more,
      runs_on first more,
      ap runs_text (take-append-drop 16 groups),
    )

string_long : (bytes : List ℕ) → length bytes ≤ length (string bytes)
string_long bytes = omega (arith, length-append bytes (replicate (string_end (length bytes)) 0))

adds_few : (addresses : List (List ℕ)) → adds_text addresses ≤ adds_size addresses
adds_few [] = omega arith
adds_few (address ∷ addresses) = omega (arith, adds_few addresses, string_long address)

runs_few : (groups : List Group) → runs_text groups ≤ 2 * runs_size groups
runs_few [] = omega arith
runs_few (group ∷ groups) = omega (arith, runs_few groups)

pub script_few : (notes : List Note) → length (score_script notes) ≤ 32 * score_size notes
script_few notes =
    omega (
      arith,
      lines_on (adds (addresses_of notes)) (batches (length (groups_of notes)) (groups_of notes)),
      adds_long (addresses_of notes),
      batches_long (length (groups_of notes)) (groups_of notes),
      adds_few (addresses_of notes),
      runs_few (groups_of notes),
      score_few notes,
    )

pub script_short : (notes : List Note) → score_size notes ≤ 1048576 → length (score_script notes) ≤ MAX_SCRIPT
script_short notes few = omega (arith, script_few notes)
