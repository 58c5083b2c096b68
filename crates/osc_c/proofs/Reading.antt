-- What a release leaves to be read is what it invoked.
use Rattle.std.proofs.Common.{◌≡◌, ℕ, zero, suc, ◌+◌, ◌<◌, ◌≤◌, Bool, true, false, cond, List, [], ◌∷◌, ◌++◌, map, drop, length}
use Rattle.std.proofs.Common.{refl, sym, ap, subst, ◌∙◌, arith}
use Rattle.std.specs.Prelude.{is_some, nat_le, nat_lt, MatchBool, Some}
use Rattle.std.specs.List.{list_all}
use Rattle.std.proofs.lemmas.Bool.{and_parts, ltb-true, lt-ltb}
use Rattle.std.proofs.lemmas.List.{drop-drop, length-drop, length-map}
use Rattle.osc_pattern.specs.Methods.{Method}
use Rattle.osc_message.specs.Reading.{pattern_of}
use Rattle.osc_message.specs.Arguments.{unknown_of}
use Rattle.osc_tree.specs.Matching.{matching}
use Rattle.osc_packet.specs.Units.{TimedUnit, blocks, stored_size}
use Rattle.osc_queue.specs.Timed.{due_of, unit_of}
use Rattle.osc_model.specs.Counts.{queued_blocks}
use Rattle.osc_model.specs.Events.{Event, release, Answer, nothing_due, adds_entry, Entry, Invocation}
use Rattle.osc_model.specs.Events.{Call as Made}
use Rattle.osc_model.specs.State.{State, Queued, opening}
use Rattle.osc_model.specs.Step.{Stepped, step, leaves, releases, release_first, calls_of, calls_from, invocations_of}
use Rattle.osc_model.specs.History.{Performance, IsSound, state_of, stepped_in, onward}
use Rattle.osc_model.proofs.Stepping.{step_so}
use Rattle.osc_core.specs.Answers.{TellsRelease}
use Rattle.osc_core.specs.Calls.{hit_by}
use Rattle.osc_core.specs.Invoked.{is_release, last_invocations, Call, call_of, last_calls}
use Rattle.osc_core.specs.declared.answers.Releasing.{Releasing}
use Rattle.osc_core.specs.declared.answers.Releasing.TheVariants as releasing
use Rattle.osc_core.proofs.Played.{stays}
use Rattle.osc_core.proofs.Telling.{told_hits, hits_stepped, last_more}
use Rattle.osc_c.specs.Reading.{TellsNext}
use Rattle.osc_c.specs.Short.{is_short}
use Rattle.osc_c.specs.declared.called.Called.{Called}

-- The last release, where a history goes on.

-- any event but a release leaves its calls as they are
pub still_last : (now next : Performance) (caller : ℕ) (event : Event) → is_release event ≡ false → next ≡ onward now caller event
    → last_calls next ≡ last_calls now
still_last now next caller event other is = ap last_calls is ∙ go (adds_entry (stepped_in now event).answer) refl where
  go : (t : Bool) → adds_entry (stepped_in now event).answer ≡ t → last_calls (onward now caller event) ≡ last_calls now
  go true e = rw e
      (ap (map call_of)
      (last_more (opening now.caps) [] now.history (record { caller = caller; event = event; answer = (stepped_in now event).answer })
      ∙ ap (λ (t : Bool). cond t (step (state_of now) event).invocations (last_invocations now)) other))
  go false e = rw e refl

none_of : (list : List Invocation) → [] ≡ map hit_by list → map call_of list ≡ []
none_of [] is = refl
none_of (invocation ∷ list) is = absurd (cc)

-- What a release of a unit leaves: its calls are the last, and there are as many as it tells.
pub record LeavesCalls (calls : ℕ) (now next : Performance) : Type 0 where
  pub are : last_calls next ≡ map call_of (stepped_in now release).invocations
  pub many : length (last_calls next) ≡ calls

pub released_last : (answering : Releasing) (unit calls : ℕ) (now next : Performance) (caller : ℕ) → answering ≡ releasing.Released unit calls
    → TellsRelease answering (stepped_in now release).answer → next ≡ onward now caller release → LeavesCalls calls now next
released_last answering unit calls now next caller same told is =
    go (subst (λ (a : Releasing). TellsRelease a (stepped_in now release).answer) same told) where
      go : TellsRelease (releasing.Released unit calls) (stepped_in now release).answer → LeavesCalls calls now next
      go (hits, answer, many) =
          let entry : Entry = record { caller = caller; event = release; answer = (stepped_in now release).answer } in
          let adds : adds_entry (stepped_in now release).answer ≡ true = ap adds_entry answer in
          let grown : onward now caller release ≡ record now { history = now.history ++ entry ∷ [] } = rw adds refl in
          let are : last_calls next ≡ map call_of (stepped_in now release).invocations =
          ap last_calls (is ∙ grown) ∙ ap (map call_of) (last_more (opening now.caps) [] now.history entry) in
          let told : length hits ≡ length (map hit_by (stepped_in now release).invocations) =
          ap (λ (a : Answer). length (told_hits a)) (sym answer) ∙ ap length (hits_stepped (state_of now)) in
          record {
            are = are;
            many = omega (
              arith,
              ap length are,
              length-map (stepped_in now release).invocations call_of,
              length-map (stepped_in now release).invocations hit_by,
              told,
              many,
            );
          }

-- a release of no unit invokes nothing, and leaves all as it was
pub record LeavesNone (now next : Performance) : Type 0 where
  pub none : map call_of (stepped_in now release).invocations ≡ []
  pub same : next ≡ now

pub waiting_last : (answering : Releasing) (now next : Performance) (caller : ℕ) → TellsRelease answering (stepped_in now release).answer
    → ((unit calls : ℕ) → answering ≡ releasing.Released unit calls → ⊥) → next ≡ onward now caller release → LeavesNone now next
waiting_last (releasing.Released unit calls) now next caller told none is = absurd (none unit calls refl)
waiting_last (releasing.NothingDue due) now next caller told none is = record {
  none = none_of (stepped_in now release).invocations (sym (ap told_hits told) ∙ hits_stepped (state_of now));
  same = is ∙ stays now caller release (ap adds_entry told);
}
waiting_last (releasing.RecordFull room) now next caller told none is = record {
  none = none_of (stepped_in now release).invocations (sym (ap told_hits told) ∙ hits_stepped (state_of now));
  same = is ∙ stays now caller release (ap adds_entry told);
}

-- The messages of a unit are short, since so are its blocks.

module _ (unit : ℕ) (methods : List Method) where
  abbrev pub are_short : List Made → Type 0
  are_short calls = list_all is_short (map call_of (invocations_of unit calls)) ≡ true

  short_matching : (message : List ℕ) → nat_lt (length message) 4294967296 ≡ true → (index : ℕ) (found : List Method) (rest : List Made) → are_short rest
      → are_short (map (λ (m : Method). record { index = index; id = m.id; address = m.address; message = message }) found ++ rest)
  short_matching message short index [] rest more = more
  short_matching message short index (m ∷ found) rest more = rw short (short_matching message short index found rest more)

  short_message : (message : List ℕ) → nat_lt (length message) 4294967296 ≡ true → (index : ℕ) (rest : List Made) → are_short rest
      → are_short (calls_of methods index message ++ rest)
  short_message message short index rest more = go (is_some (unknown_of message)) refl where
    go : (none : Bool) → is_some (unknown_of message) ≡ none → are_short (calls_of methods index message ++ rest)
    go true is = rw is more
    go false is = rw is (short_matching message short index (matching (pattern_of message) methods) rest more)

  pub short_from : (index : ℕ) (messages : List (List ℕ)) → stored_size messages < 4294967296 → are_short (calls_from methods index messages)
  short_from index [] few = refl
  short_from index (message ∷ messages) few =
      short_message message (lt-ltb (length message) 4294967296 (omega (arith, few))) index (calls_from methods (index + 1) messages)
      (short_from (index + 1) messages (omega (arith, few)))

stored_few : (unit : TimedUnit) → blocks unit ≤ 1048576 → stored_size unit.messages < 4294967296
stored_few unit few = omega (arith, few)

short_first : (state : State) (queue : List Queued) → queued_blocks queue ≤ 1048576
    → list_all is_short (map call_of (release_first state queue).invocations) ≡ true
short_first state [] few = refl
short_first state (unit ∷ units) few = go (nat_le (due_of unit) state.clock) where
  go : (t : Bool)
      → list_all is_short (map call_of (cond t (releases state unit units) (leaves state (nothing_due (Some (due_of unit))))).invocations) ≡ true
  go true = short_from (unit_of unit) state.methods 0 unit.2.messages (stored_few unit.2 (omega (arith, few)))
  go false = refl

-- so are those that a release calls
pub short_released : (state : State) → IsSound state → list_all is_short (map call_of (step state release).invocations) ≡ true
short_released state sound =
    let few : queued_blocks state.queue ≤ 1048576 = omega (arith, sound.few_blocks, sound.caps.blocks) in
    step_so (λ (s : Stepped). list_all is_short (map call_of s.invocations) ≡ true) state release
    (record { silent = λ is. short_first state state.queue few; full = λ is less. refl; room = λ is fits. short_first state state.queue few })

-- The first of the calls that are left.

pub short_at : (n : ℕ) (calls : List Call) (call : Call) (rest : List Call) → list_all is_short calls ≡ true → drop n calls ≡ call ∷ rest
    → length call.message < 4294967296
short_at zero calls call rest all is =
    let parts = and_parts (is_short call) (list_all is_short rest) (sym (ap (list_all is_short) is) ∙ all) in
    ltb-true (length call.message) 4294967296 parts.0
short_at (suc n) [] call rest all is = absurd (cc)
short_at (suc n) (one ∷ calls) call rest all is = short_at n calls call rest (and_parts (is_short one) (list_all is_short calls) all).1 is

pub record Follows (n : ℕ) (calls rest : List Call) : Type 0 where
  pub within : n + 1 ≤ length calls
  pub are : drop (n + 1) calls ≡ rest

pub follows : (n : ℕ) (calls : List Call) (call : Call) (rest : List Call) → drop n calls ≡ call ∷ rest → Follows n calls rest
follows n calls call rest is = record {
  within = omega (arith, ap length is, length-drop n calls);
  are = sym (drop-drop 1 n calls) ∙ ap (drop 1) is;
}

module _ (call : Call) (rest : List Call) (given : Called) (before buffer : List ℕ) where
  fits_so : (t : Bool) → nat_lt (length before) (length call.message) ≡ t → length call.message ≤ length before
      → buffer ≡ call.message ++ drop (length call.message) before
      → MatchBool t (◌≡◌ {A = ℕ} 0 19 × (rest ≡ call ∷ rest) × (buffer ≡ before))
      (◌≡◌ {A = ℕ} 0 0 × (rest ≡ rest) × (buffer ≡ call.message ++ drop (length call.message) before))
  fits_so true e fits copied = let less : length before < length call.message = ltb-true (length before) (length call.message) e in absurd (omega (arith, less, fits))
  fits_so false e fits copied = (refl, refl, copied)

  -- a call that was read is told, and the others are left
  pub tells : (left later : List Call) → left ≡ call ∷ rest → later ≡ rest → length call.message ≤ length before
      → buffer ≡ call.message ++ drop (length call.message) before
      → TellsNext left later 0 given (record { unit = call.unit; method = call.id; index = call.index; size = length call.message }) before buffer
  tells left later is same fits copied =
      subst (λ (l : List Call). TellsNext l later 0 given (record { unit = call.unit; method = call.id; index = call.index; size = length call.message }) before buffer)
      (sym is)
      (subst (λ (l : List Call). TellsNext (call ∷ rest) l 0 given (record { unit = call.unit; method = call.id; index = call.index; size = length call.message }) before buffer)
      (sym same) (refl, fits_so (nat_lt (length before) (length call.message)) refl fits copied))
