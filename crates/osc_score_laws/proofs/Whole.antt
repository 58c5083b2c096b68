-- The script of a score is played.
use Rattle.std.proofs.Common.{◌≡◌, ℕ, ◌+◌, ◌*◌, ◌≤◌, ◌==◌, Bool, true, false, cond, List, [], ◌∷◌, length, None, Result, Ok, Err, IfOk, refl, sym, ◌∙◌, subst, arith}
use Rattle.std.specs.List.{AllByRecursion, flat_map}
use Rattle.osc_pattern.specs.Methods.{Method}
use Rattle.osc_model.specs.Limits.{Limits, header_size}
use Rattle.osc_model.specs.State.{State, opening}
use Rattle.osc_score.specs.declared.limits.TheConstants.{MAX_SCORE}
use Rattle.osc_script.specs.declared.act.Act.{Act}
use Rattle.osc_player.specs.Plain.{plain}
use Rattle.osc_score.specs.Scores.{Note, Group, alone, joined, groups_of, addresses_of, methods_from, IsScore, score_size}
use Rattle.osc_score.specs.Scripted.{batches, score_acts}
use Rattle.osc_score.proofs.Acts.{adds}
use Rattle.osc_score_laws.specs.Known.{Known}
use Rattle.osc_score.specs.Reading.{score_of, IsScored}
use Rattle.osc_score_laws.specs.Heard.{score_lines, IsRoomy, PlaysNotes, PlaysScore}
use Rattle.osc_score_laws.proofs.Playing.{history_from, plain_is}
use Rattle.osc_score_laws.proofs.Faultless.{score_faultless}
use Rattle.osc_score_laws.proofs.Plays.{Plays, plays_on}
use Rattle.osc_score_laws.proofs.Adds.{server, adds_size, adds_play}
use Rattle.osc_score_laws.proofs.Grouped.{groups_rise, groups_run, groups_heard, run_sounds}
use Rattle.osc_score_laws.proofs.Bundles.{all_playable}
use Rattle.osc_score_laws.proofs.Calls.{HasMethod, notes_have}
use Rattle.osc_score_laws.proofs.Releases.{HasMethods}
use Rattle.osc_score_laws.proofs.Batches.{runs_size, BatchesPlay, batches_play}
use Rattle.osc_score_laws.proofs.Sizes.{score_few}

joined_have : (methods : List Method) (note : Note) (groups : List Group) → HasMethod methods note.address → AllByRecursion (HasMethods methods) groups
    → AllByRecursion (HasMethods methods) (joined note groups)
joined_have methods note [] one have = ((one, tt), tt)
joined_have methods note (group ∷ groups) one have = go (note.tag == group.tag) where
  go : (t : Bool)
      → AllByRecursion (HasMethods methods) (cond t (record { tag = group.tag; notes = note ∷ group.notes } ∷ groups) (alone note ∷ group ∷ groups))
  go true = ((one, have.0), have.1)
  go false = ((one, tt), have)

groups_have : (methods : List Method) (notes : List Note) → AllByRecursion (λ note. HasMethod methods note.address) notes
    → AllByRecursion (HasMethods methods) (groups_of notes)
groups_have methods [] have = tt
groups_have methods (note ∷ notes) have = joined_have methods note (groups_of notes) have.0 (groups_have methods notes have.1)

pub score_plays : Known → (caps : Limits) (notes : List Note) → IsScore notes → IsRoomy caps (score_size notes) → PlaysScore caps (score_size notes) notes
score_plays known caps notes is roomy =
    let addresses : List (List ℕ) = addresses_of notes in
    let groups : List Group = groups_of notes in
    let methods : List Method = methods_from 0 addresses in
    let tree = is.tree in
    let few = tree.few_methods in
    let few_nodes = tree.few_nodes in
    let most = roomy.methods in
    let most_nodes = roomy.nodes in
    let most_bytes = roomy.recording in
    let bytes = score_few notes in
    let start : ℕ = header_size + adds_size addresses in
    let middle : State = server caps methods [] 1 0 start in
    let one : Plays (opening caps) (adds addresses) middle [] =
    adds_play caps [] addresses 1 0 header_size tree.list (omega arith) (omega arith) (omega arith) in
    let two : BatchesPlay middle (batches (length groups) groups) caps methods (start + runs_size groups) (flat_map run_sounds groups) =
    batches_play known caps (score_size notes) roomy methods tree.list (length groups) groups 1 0 start (omega arith)
    (all_playable groups (groups_run notes is.lawful) is.short) (groups_have methods notes (notes_have notes)) (groups_rise notes is.ordered) (omega arith) in
    let end : State = server caps methods [] two.clock two.next (start + runs_size groups) in
    let both : Plays (opening caps) (score_acts notes) end (flat_map run_sounds groups) =
    plays_on (opening caps) middle end (adds addresses) (batches (length groups) groups) [] (flat_map run_sounds groups) one two.plays in
    let total : ℕ = start + runs_size groups in
    let bound : total ≤ header_size + 16 * score_size notes = omega arith in
    let acts : List Act = score_acts notes in
    let played : plain caps (score_lines notes) ≡ record { history = history_from (opening caps) acts; faults = []; stop = None } =
    plain_is (opening caps) 1 acts (score_faultless known notes is) both.goes_on in
    subst (PlaysNotes caps (score_size notes) notes) (sym played) (record {
      heard = both.heard ∙ groups_heard notes;
      accepted = both.accepted;
      faultless = refl;
      goes_on = refl;
      recorded = subst (λ (s : State). s.recorded ≤ header_size + 16 * score_size notes) (sym both.ends) bound;
    })

each_ok : {X E : Type 0} (P Q : X → Type 0) → ((x : X) → P x → Q x) → (r : Result X E) → IfOk r P → IfOk r Q
each_ok P Q more (Ok x) holds = more x holds
each_ok P Q more (Err e) holds = tt

-- the limits are enough for less, too
less_roomy : (caps : Limits) (size most : ℕ) → size ≤ most → IsRoomy caps most → IsRoomy caps size
less_roomy caps size most few roomy =
    let bytes = roomy.recording in
    record { units = roomy.units; blocks = roomy.blocks; methods = roomy.methods; nodes = roomy.nodes; recording = omega arith }

input_plays : Known → (caps : Limits) (size : ℕ) → IsRoomy caps MAX_SCORE → (notes : List Note) → IsScored size notes → PlaysScore caps size notes
input_plays known caps size roomy notes is =
    let few = is.short in
    let within = is.within in
    let plays = score_plays known caps notes is.score (less_roomy caps (score_size notes) MAX_SCORE (omega arith) roomy) in
    let bound = plays.recorded in
    record { heard = plays.heard; accepted = plays.accepted; faultless = plays.faultless; goes_on = plays.goes_on; recorded = omega arith }

pub read_plays : Known → (caps : Limits) (bytes : List ℕ) → IsRoomy caps MAX_SCORE → IfOk (score_of bytes) (IsScored (length bytes))
    → IfOk (score_of bytes) (PlaysScore caps (length bytes))
read_plays known caps bytes roomy is =
    each_ok (IsScored (length bytes)) (PlaysScore caps (length bytes)) (input_plays known caps (length bytes) roomy) (score_of bytes) is
