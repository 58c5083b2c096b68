-- The calls of the last release are those that it made.
use Rattle.std.proofs.Common.{◌≡◌, ◌≢◌, ℕ, zero, suc, ◌+◌, ◌*◌, ◌-◌, ◌<◌, ◌≤◌, ◌^◌, Bool, true, false, cond, IsTrue, List, [], ◌∷◌, ◌++◌, map, take, drop}
use Rattle.std.proofs.Common.{length}
use Rattle.std.proofs.Common.{get_or, refl, sym, ap, subst, ◌∙◌, arith, length-append, append_assoc}
use Rattle.std.specs.Prelude.{is_some, nat_le, slice_index, Option, Some, None}
use Rattle.std.specs.Int.{w32, from_be_bytes}
use Rattle.std.specs.List.{list_all, AllByRecursion}
use Rattle.std.proofs.lemmas.Bool.{and_parts, leb-true}
use Rattle.std.proofs.lemmas.Bool.Decides.{nat_tests}
use Rattle.std.proofs.lemmas.List.{take_all, take-append-le, length-take-le, drop_all, drop_at, drop-append-le, drop-drop, drop-map, length-drop}
use Rattle.osc_atoms.specs.Atoms.{word}
use Rattle.osc_pattern.specs.Methods.{Method}
use Rattle.osc_message.specs.Reading.{pattern_of, is_message}
use Rattle.osc_message.specs.Arguments.{unknown_of}
use Rattle.osc_tree.specs.Matching.{matching}
use Rattle.osc_model.specs.Events.{Event, enrol, submit, add, remove, tick, release, Answer, released, nothing_due, record_full, adds_entry, Entry, Hit}
use Rattle.osc_model.specs.Events.{Invocation}
use Rattle.osc_model.specs.Events.{Call as Made}
use Rattle.osc_model.specs.Recordings.{record_text, entry_text, hits_in, hits_text, IsHit, IsRecordable}
use Rattle.osc_model.specs.State.{State, Queued, opening}
use Rattle.osc_model.specs.Step.{Stepped, step, leaves, releases, release_first, calls_of, calls_of_unit, calls_from, hits_of, invocations_of}
use Rattle.osc_model.proofs.Stepping.{step_so}
use Rattle.osc_queue.specs.Timed.{due_of, unit_of}
use Rattle.osc_model.specs.History.{Performance, after, state_of, stepped_in, onward}
use Rattle.osc_record.specs.Writing.{release_head}
use Rattle.osc_record.proofs.Kept.{record_more}
use Rattle.osc_record.proofs.Lawful.{hits_again}
use Rattle.osc_record.proofs.Releases.{release_text}
use Rattle.osc_core.specs.Frames.{framed, first_length, first_framed, after_framed, messages_in, AreFramed}
use Rattle.osc_core.specs.Answers.{TellsRelease, OnReleased, OnWaiting}
use Rattle.osc_core.specs.declared.answers.Releasing.{Releasing}
use Rattle.osc_core.specs.declared.answers.Releasing.TheVariants as releasing
use Rattle.osc_core.specs.declared.release.LastRelease.{LastRelease}
use Rattle.osc_core.specs.Calls.{hit_by}
use Rattle.osc_core.specs.Invoked.{is_release, last_from, last_invocations, Call, call_of, last_calls, starts_of, FindEach, message_at, call_at, hits_at}
use Rattle.osc_core.specs.Invoked.{calls_in, SplitsHit}
use Rattle.osc_core.proofs.Firsts.{hits_by}
use Rattle.osc_core.proofs.Played.{stays}
use Rattle.osc_core.proofs.Storing.{message_small, message_again, rest_again, messages-framed, split_is}

-- Where messages begin.

-- each place is where the message begins that has its index
pub started : (front bytes : List ℕ) (start : ℕ) (messages : List (List ℕ)) → IsTrue (list_all (is_message 1073741824) messages)
    → bytes ≡ front ++ framed messages → length front ≡ start → (k : ℕ) → k < length messages
    → message_at (starts_of start messages) bytes k ≡ get_or messages k []
started front bytes start [] read is at k lt = absurd (omega arith)
started front bytes start (message ∷ messages) read is at zero lt =
    let parts = and_parts (is_message 1073741824 message) (list_all (is_message 1073741824) messages) read in
    ap first_framed (ap (drop start) is ∙ drop_at front (framed (message ∷ messages)) start at)
    ∙ message_again message (framed messages) (message_small message parts.0)
started front bytes start (message ∷ messages) read is at (suc k) lt =
    let parts = and_parts (is_message 1073741824 message) (list_all (is_message 1073741824) messages) read in
    let more : List ℕ = word (length message) ++ message in
    let size : length (front ++ more) ≡ start + (4 + length message) =
    omega (arith, length-append front more, length-append (word (length message)) message, at) in
    started (front ++ more) bytes (start + (4 + length message)) messages parts.1
    (is ∙ ap (λ (l : List ℕ). front ++ l) (sym (append_assoc (word (length message)) message (framed messages)))
    ∙ sym (append_assoc front more (framed messages))) size k (omega (arith, lt))

-- a message after its length, and what follows it, are all of the bytes
framed_size : (bytes : List ℕ) → 4 + first_length bytes ≤ length bytes → 4 + length (first_framed bytes) + length (after_framed bytes) ≡ length bytes
framed_size bytes fits =
    let rest : length (drop 4 bytes) ≡ length bytes - 4 = length-drop 4 bytes in
    omega (arith, fits, rest, length-take-le (first_length bytes) (drop 4 bytes) (omega (arith, fits, rest)), length-drop (first_length bytes) (drop 4 bytes))

pub rest_shorter : (rest : List ℕ) → AreFramed rest → 0 < length rest → 4 + length (after_framed rest) ≤ length rest
rest_shorter rest are some = omega (arith, framed_size rest (split_is are some).begins.0)

-- one place more is found
pub start_more : (starts bytes rest : List ℕ) → AreFramed rest → 0 < length rest → length rest ≤ length bytes
    → starts ++ starts_of (length bytes - length rest) (messages_in rest) ≡ starts_of 0 (messages_in bytes)
    → (starts ++ (length bytes - length rest) ∷ []) ++ starts_of (length bytes - length (after_framed rest)) (messages_in (after_framed rest))
    ≡ starts_of 0 (messages_in bytes)
start_more starts bytes rest are some within said =
    let split = split_is are some in
    let here = length bytes - length rest in
    let size : 4 + length (first_framed rest) + length (after_framed rest) ≡ length rest = framed_size rest split.begins.0 in
    let next : here + (4 + length (first_framed rest)) ≡ length bytes - length (after_framed rest) = omega (arith, size, within) in
    append_assoc starts (here ∷ []) (starts_of (length bytes - length (after_framed rest)) (messages_in (after_framed rest)))
    ∙ ap (λ (n : ℕ). starts ++ here ∷ starts_of n (messages_in (after_framed rest))) (sym next)
    ∙ ap (λ (l : List (List ℕ)). starts ++ starts_of here l) (sym split.shows)
    ∙ said

-- What a release invokes is what its hits tell.

hits_append : (xs ys : List Made) → hits_of (xs ++ ys) ≡ hits_of xs ++ hits_of ys
hits_append [] ys = refl
hits_append (x ∷ xs) ys = ap (λ (l : List Hit). record { index = x.index; id = x.id } ∷ l) (hits_append xs ys)

-- the calls of one message
module _ (unit : ℕ) (starts bytes : List ℕ) (index : ℕ) (message : List ℕ) (at : message_at starts bytes index ≡ message) where
  told_matching : (methods : List Method) (rest : List Made)
      → map (call_at unit starts bytes) (hits_of rest) ≡ map call_of (invocations_of unit rest)
      → map (call_at unit starts bytes) (hits_of (map (λ (m : Method). record { index = index; id = m.id; address = m.address; message = message }) methods ++ rest))
      ≡ map call_of (invocations_of unit (map (λ (m : Method). record { index = index; id = m.id; address = m.address; message = message }) methods ++ rest))
  told_matching [] rest more = more
  told_matching (m ∷ methods) rest more =
      let first : call_at unit starts bytes (record { index = index; id = m.id }) ≡ record { unit = unit; index = index; id = m.id; message = message } =
      ap (λ (l : List ℕ). record { unit = unit; index = index; id = m.id; message = l }) at in
      λ i. first i ∷ told_matching methods rest more i

  told_message : (methods : List Method) (rest : List Made)
      → map (call_at unit starts bytes) (hits_of rest) ≡ map call_of (invocations_of unit rest)
      → map (call_at unit starts bytes) (hits_of (calls_of methods index message ++ rest)) ≡ map call_of (invocations_of unit (calls_of methods index message ++ rest))
  told_message methods rest more = go (is_some (unknown_of message)) refl where
    go : (none : Bool) → is_some (unknown_of message) ≡ none
        → map (call_at unit starts bytes) (hits_of (calls_of methods index message ++ rest)) ≡ map call_of (invocations_of unit (calls_of methods index message ++ rest))
    go true is = rw is more
    go false is = rw is (told_matching (matching (pattern_of message) methods) rest more)

-- the calls of messages that stand behind so many others
told_from : (unit : ℕ) (starts bytes : List ℕ) (methods : List Method) (index : ℕ) (messages : List (List ℕ))
    → ((k : ℕ) → k < length messages → message_at starts bytes (index + k) ≡ get_or messages k [])
    → map (call_at unit starts bytes) (hits_of (calls_from methods index messages)) ≡ map call_of (invocations_of unit (calls_from methods index messages))
told_from unit starts bytes methods index [] at = refl
told_from unit starts bytes methods index (message ∷ messages) at =
    let none : index ≡ index + 0 = omega arith in
    let here : message_at starts bytes index ≡ message = ap (message_at starts bytes) none ∙ at 0 (omega arith) in
    let rest : (k : ℕ) → k < length messages → message_at starts bytes (index + 1 + k) ≡ get_or messages k [] =
    λ k lt. (let one : index + 1 + k ≡ index + suc k = omega arith in ap (message_at starts bytes) one ∙ at (suc k) (omega (arith, lt))) in
    told_message unit starts bytes index message here methods (calls_from methods (index + 1) messages)
    (told_from unit starts bytes methods (index + 1) messages rest)

told_all : (unit : ℕ) (starts bytes : List ℕ) (methods : List Method) → AreFramed bytes → FindEach starts (messages_in bytes)
    → map (call_at unit starts bytes) (hits_of (calls_from methods 0 (messages_in bytes)))
    ≡ map call_of (invocations_of unit (calls_from methods 0 (messages_in bytes)))
told_all unit starts bytes methods are finds =
    let list : messages_in bytes ≡ are.messages = ap messages_in are.is ∙ messages-framed are.messages are.read in
    let found : FindEach starts are.messages = subst (FindEach starts) list finds in
    let each : (k : ℕ) → k < length are.messages → message_at starts bytes (0 + k) ≡ get_or are.messages k [] =
    λ k lt. (let same : 0 + k ≡ k = omega arith in
    ap (message_at starts bytes) same ∙ ap (λ (n : ℕ). first_framed (drop n bytes)) (found k lt)
    ∙ started [] bytes 0 are.messages are.read are.is refl k lt) in
    subst (λ (l : List (List ℕ)). map (call_at unit starts bytes) (hits_of (calls_from methods 0 l))
    ≡ map call_of (invocations_of unit (calls_from methods 0 l)))
    (sym list) (told_from unit starts bytes methods 0 are.messages each)

-- the hits that an answer tells
abbrev pub told_hits : Answer → List Hit
told_hits (released unit hits) = hits
told_hits _ = []

hits_decided : (state : State) (queue : List Queued) → told_hits (release_first state queue).answer ≡ map hit_by (release_first state queue).invocations
hits_decided state [] = refl
hits_decided state (unit ∷ units) = go (nat_le (due_of unit) state.clock) where
  go : (t : Bool)
      → told_hits (cond t (releases state unit units) (leaves state (nothing_due (Some (due_of unit))))).answer
      ≡ map hit_by (cond t (releases state unit units) (leaves state (nothing_due (Some (due_of unit))))).invocations
  go true = sym (hits_by (unit_of unit) (calls_of_unit state.methods unit))
  go false = refl

-- a release tells the hits of what it invokes
pub hits_stepped : (state : State) → told_hits (step state release).answer ≡ map hit_by (step state release).invocations
hits_stepped state =
    step_so (λ (s : Stepped). told_hits s.answer ≡ map hit_by s.invocations) state release
    (record { silent = λ is. hits_decided state state.queue; full = λ is few. refl; room = λ is fits. hits_decided state state.queue })

-- The hits in a recording.

-- eight bytes are a hit
pub hits_next : (bytes : List ℕ) → 8 ≤ length bytes
    → hits_in bytes ≡ record { index = from_be_bytes w32 (take 4 bytes); id = from_be_bytes w32 (take 4 (drop 4 bytes)) } ∷ hits_in (drop 8 bytes)
hits_next [] long = absurd (omega (arith, long))
hits_next (a ∷ []) long = absurd (omega (arith, long))
hits_next (a ∷ b ∷ []) long = absurd (omega (arith, long))
hits_next (a ∷ b ∷ c ∷ []) long = absurd (omega (arith, long))
hits_next (a ∷ b ∷ c ∷ d ∷ []) long = absurd (omega (arith, long))
hits_next (a ∷ b ∷ c ∷ d ∷ e ∷ []) long = absurd (omega (arith, long))
hits_next (a ∷ b ∷ c ∷ d ∷ e ∷ f ∷ []) long = absurd (omega (arith, long))
hits_next (a ∷ b ∷ c ∷ d ∷ e ∷ f ∷ g ∷ []) long = absurd (omega (arith, long))
hits_next (a ∷ b ∷ c ∷ d ∷ e ∷ f ∷ g ∷ h ∷ rest) long = refl

-- fewer are none
pub hits_none : (bytes : List ℕ) → length bytes ≤ 7 → hits_in bytes ≡ []
hits_none [] few = refl
hits_none (a ∷ []) few = refl
hits_none (a ∷ b ∷ []) few = refl
hits_none (a ∷ b ∷ c ∷ []) few = refl
hits_none (a ∷ b ∷ c ∷ d ∷ []) few = refl
hits_none (a ∷ b ∷ c ∷ d ∷ e ∷ []) few = refl
hits_none (a ∷ b ∷ c ∷ d ∷ e ∷ f ∷ []) few = refl
hits_none (a ∷ b ∷ c ∷ d ∷ e ∷ f ∷ g ∷ []) few = refl
hits_none (a ∷ b ∷ c ∷ d ∷ e ∷ f ∷ g ∷ h ∷ rest) few = absurd (omega (arith, few))

-- the call of the first hit is told, and the others are left
pub call_next : (unit : ℕ) (starts bytes hits : List ℕ) (index id : ℕ) (rest message : List ℕ) → SplitsHit hits (Some (index, id, rest))
    → message ≡ message_at starts bytes index
    → map (call_at unit starts bytes) (hits_in hits)
    ≡ record { unit = unit; index = index; id = id; message = message } ∷ map (call_at unit starts bytes) (hits_in rest)
call_next unit starts bytes hits index id rest message (long, first, second, left) is =
    let next : hits_in hits ≡ record { index = index; id = id } ∷ hits_in rest =
    hits_next hits long ∙ (λ i. record { index = sym first i; id = sym second i } ∷ hits_in (sym left i)) in
    ap (map (call_at unit starts bytes)) next
    ∙ ap (λ (l : List ℕ). record { unit = unit; index = index; id = id; message = l } ∷ map (call_at unit starts bytes) (hits_in rest)) (sym is)

-- so many hits further on
hits_drop : (count : ℕ) (bytes : List ℕ) → hits_in (drop (8 * count) bytes) ≡ drop count (hits_in bytes)
hits_drop zero bytes = refl
hits_drop (suc count) bytes = go (nat_le 8 (length bytes)) refl (hits_drop count (drop 8 bytes)) where
  go : (t : Bool) → nat_le 8 (length bytes) ≡ t → hits_in (drop (8 * count) (drop 8 bytes)) ≡ drop count (hits_in (drop 8 bytes))
      → hits_in (drop (8 * suc count) bytes) ≡ drop (suc count) (hits_in bytes)
  go true e more =
      let long : 8 ≤ length bytes = leb-true 8 (length bytes) e in
      let far : 8 * suc count ≡ 8 + 8 * count = omega arith in
      ap hits_in (ap (λ (n : ℕ). drop n bytes) far ∙ sym (drop-drop (8 * count) 8 bytes)) ∙ more
      ∙ sym (ap (drop (suc count)) (hits_next bytes long))
  go false e more =
      let few : length bytes ≤ 7 = grind (arith, nat_tests) in
      ap hits_in (drop_all (8 * suc count) bytes (omega (arith, few))) ∙ sym (ap (drop (suc count)) (hits_none bytes few))

pub calls_further : (tell : Hit → Call) (count : ℕ) (bytes : List ℕ) → map tell (hits_in (drop (8 * count) bytes)) ≡ drop count (map tell (hits_in bytes))
calls_further tell count bytes = ap (map tell) (hits_drop count bytes) ∙ sym (drop-map tell count (hits_in bytes))

-- What the last release invoked, where a history goes on.

pub last_more : (state : State) (last : List Invocation) (history : List Entry) (entry : Entry)
    → last_from state last (history ++ entry ∷ [])
    ≡ cond (is_release entry.event) (step (after state history) entry.event).invocations (last_from state last history)
last_more state last [] entry = refl
last_more state last (one ∷ history) entry =
    last_more (step state one.event).state (cond (is_release one.event) (step state one.event).invocations last) history entry

-- a server keeps the calls of the last release: their hits are in the recording, and they are what it invoked
pub record KeepsCalls (last : LastRelease) (performance : Performance) : Type 0 where
  pub within : last.place + 8 * last.calls ≤ length (record_text performance.caps performance.history)
  pub calls : calls_in last (record_text performance.caps performance.history) ≡ last_calls performance

-- where another entry follows
kept_after : (last : LastRelease) (now : Performance) (entry : Entry) → is_release entry.event ≡ false → KeepsCalls last now
    → KeepsCalls last (record { caps = now.caps; history = now.history ++ entry ∷ [] })
kept_after last now entry other keeps =
    let text = record_text now.caps now.history in
    let more = entry_text entry.caller entry.event entry.answer in
    let grown : record_text now.caps (now.history ++ entry ∷ []) ≡ text ++ more = record_more now.caps now.history entry in
    let within = keeps.within in
    let place : last.place ≤ length text = omega (arith, within) in
    let long : 8 * last.calls ≤ length (drop last.place text) = omega (arith, within, length-drop last.place text) in
    let same : hits_at last (text ++ more) ≡ hits_at last text =
    ap (take (8 * last.calls)) (drop-append-le last.place text more place) ∙ take-append-le (8 * last.calls) (drop last.place text) more long in
    let invoked : last_invocations (record { caps = now.caps; history = now.history ++ entry ∷ [] }) ≡ last_invocations now =
    last_more (opening now.caps) [] now.history entry
    ∙ ap (λ (t : Bool). cond t (step (state_of now) entry.event).invocations (last_invocations now)) other in
    record {
      within = omega (arith, within, ap length grown, length-append text more);
      calls = ap (λ (l : List ℕ). map (call_at last.unit last.starts.items last.bytes.items) (hits_in l)) (ap (hits_at last) grown ∙ same) ∙ keeps.calls
          ∙ sym (ap (map call_of) invoked);
    }

-- any event but a release keeps the calls
pub kept_on : (last : LastRelease) (now next : Performance) (caller : ℕ) (event : Event) → is_release event ≡ false → next ≡ onward now caller event
    → KeepsCalls last now → KeepsCalls last next
kept_on last now next caller event other is keeps = subst (KeepsCalls last) (sym is) (go (adds_entry (stepped_in now event).answer) refl) where
  go : (t : Bool) → adds_entry (stepped_in now event).answer ≡ t → KeepsCalls last (onward now caller event)
  go true e = rw e (kept_after last now (record { caller = caller; event = event; answer = (stepped_in now event).answer }) other keeps)
  go false e = rw e keeps

pub no_release : (event : Event) → event ≢ release → is_release event ≡ false
no_release enrol other = refl
no_release (submit packet) other = refl
no_release (add address) other = refl
no_release (remove address) other = refl
no_release (tick now) other = refl
no_release release other = absurd (other refl)

-- A release of a unit.

text_after : (now : Performance) (caller unit : ℕ) (hits : List Hit) → (stepped_in now release).answer ≡ released unit hits
    → record_text (onward now caller release).caps (onward now caller release).history
    ≡ (record_text now.caps now.history ++ release_head caller unit (length hits)) ++ hits_text hits
text_after now caller unit hits is =
    rw is (record_more now.caps now.history (record { caller = caller; event = release; answer = released unit hits })
    ∙ ap (λ (l : List ℕ). record_text now.caps now.history ++ l) (sym (release_text caller unit hits))
    ∙ sym (append_assoc (record_text now.caps now.history) (release_head caller unit (length hits)) (hits_text hits)))

length_hits : (hits : List Hit) → length (hits_text hits) ≡ 8 * length hits
length_hits [] = refl
length_hits (hit ∷ hits) = omega (arith, length_hits hits)

pub last_released : (now : Performance) (caller unit : ℕ) (hits : List Hit) → (stepped_in now release).answer ≡ released unit hits
    → last_invocations (onward now caller release) ≡ (stepped_in now release).invocations
last_released now caller unit hits is =
    rw is (last_more (opening now.caps) [] now.history (record { caller = caller; event = release; answer = released unit hits }))

-- there is room in the recording for the hits
pub hits_within : (now next : Performance) (caller unit calls : ℕ) → TellsRelease (releasing.Released unit calls) (stepped_in now release).answer
    → next ≡ onward now caller release → 8 * calls ≤ length (record_text next.caps next.history)
hits_within now next caller unit calls (hits, answer, many) on =
    let front = record_text now.caps now.history ++ release_head caller unit (length hits) in
    let text = ap (λ (p : Performance). record_text p.caps p.history) on ∙ text_after now caller unit hits answer in
    omega (arith, ap length text, length-append front (hits_text hits), length_hits hits, many)

-- what was noted of it are the calls that it made
pub kept_released : (last : LastRelease) (now next : Performance) (caller calls : ℕ)
    → TellsRelease (releasing.Released last.unit calls) (stepped_in now release).answer
    → (stepped_in now release).invocations ≡ invocations_of last.unit (calls_from (state_of now).methods 0 (messages_in last.bytes.items))
    → AreFramed last.bytes.items → FindEach last.starts.items (messages_in last.bytes.items)
    → next ≡ onward now caller release
    → (adds_entry (stepped_in now release).answer ≡ true → IsRecordable caller release (stepped_in now release).answer)
    → last.calls ≡ calls → last.place + 8 * calls ≡ length (record_text next.caps next.history) → KeepsCalls last next
kept_released last now next caller calls (hits, answer, many) made are starts on recordable counted at =
    let unit = last.unit in
    let front = record_text now.caps now.history ++ release_head caller unit (length hits) in
    let text = record_text next.caps next.history in
    let list = calls_from (state_of now).methods 0 (messages_in last.bytes.items) in
    let is : text ≡ front ++ hits_text hits = ap (λ (p : Performance). record_text p.caps p.history) on ∙ text_after now caller unit hits answer in
    let sound : IsRecordable caller release (released unit hits) =
    subst (λ (a : Answer). IsRecordable caller release a) answer (recordable (ap adds_entry answer)) in
    let all : AllByRecursion IsHit hits = sound.sound in
    let size : length text ≡ length front + length (hits_text hits) = ap length is ∙ length-append front (hits_text hits) in
    let start : length front ≡ last.place = omega (arith, at, size, length_hits hits, many) in
    let here : drop last.place text ≡ hits_text hits = ap (drop last.place) is ∙ drop_at front (hits_text hits) last.place start in
    let few : length (hits_text hits) ≤ 8 * last.calls = omega (arith, length_hits hits, many, counted) in
    let found : hits_at last text ≡ hits_text hits = ap (take (8 * last.calls)) here ∙ take_all (8 * last.calls) (hits_text hits) few in
    let are_of : hits ≡ hits_of list = sym (ap told_hits answer) ∙ hits_stepped (state_of now) ∙ ap (map hit_by) made ∙ hits_by unit list in
    record {
      within = omega (arith, at, counted);
      calls = ap (map (call_at unit last.starts.items last.bytes.items)) (ap hits_in found ∙ hits_again hits all ∙ are_of)
          ∙ told_all unit last.starts.items last.bytes.items (state_of now).methods are starts ∙ ap (map call_of) (sym made)
          ∙ sym (ap (map call_of) (ap last_invocations on ∙ last_released now caller unit hits answer));
    }

-- the same, where the release is answered so
pub kept_release : (answering : Releasing) (last : LastRelease) (unit calls : ℕ) (messages : List ℕ) (now next : Performance) (caller : ℕ)
    → answering ≡ releasing.Released unit calls → TellsRelease answering (stepped_in now release).answer
    → OnReleased answering (λ number. (stepped_in now release).invocations ≡ invocations_of number (calls_from (state_of now).methods 0 (messages_in messages)))
    → OnReleased answering (λ number. AreFramed messages) → next ≡ onward now caller release
    → (adds_entry (stepped_in now release).answer ≡ true → IsRecordable caller release (stepped_in now release).answer)
    → last.unit ≡ unit → last.calls ≡ calls → last.bytes.items ≡ messages → FindEach last.starts.items (messages_in messages)
    → last.place + 8 * calls ≡ length (record_text next.caps next.history) → KeepsCalls last next
kept_release answering last unit calls messages now next caller same told made framed on recordable number many there starts at =
    let stepped = stepped_in now release in
    let methods = (state_of now).methods in
    let tells = subst (λ (a : Releasing). TellsRelease a stepped.answer) same told in
    let makes = subst (λ (a : Releasing). OnReleased a (λ number. stepped.invocations ≡ invocations_of number (calls_from methods 0 (messages_in messages)))) same made in
    let are = subst (λ (a : Releasing). OnReleased a (λ number. AreFramed messages)) same framed in
    kept_released last now next caller calls
    (subst (λ (n : ℕ). TellsRelease (releasing.Released n calls) stepped.answer) (sym number) tells)
    (subst (λ (n : ℕ). stepped.invocations ≡ invocations_of n (calls_from methods 0 (messages_in last.bytes.items))) (sym number)
    (subst (λ (l : List ℕ). stepped.invocations ≡ invocations_of unit (calls_from methods 0 (messages_in l))) (sym there) makes))
    (subst AreFramed (sym there) are) (subst (λ (l : List ℕ). FindEach last.starts.items (messages_in l)) (sym there) starts) on recordable many at

-- there is room in the recording for its hits
pub hits_fit : (answering : Releasing) (now next : Performance) (caller unit calls : ℕ) → answering ≡ releasing.Released unit calls
    → TellsRelease answering (stepped_in now release).answer → next ≡ onward now caller release → 8 * calls ≤ length (record_text next.caps next.history)
hits_fit answering now next caller unit calls same told on =
    hits_within now next caller unit calls (subst (λ (a : Releasing). TellsRelease a (stepped_in now release).answer) same told) on

-- where no unit is released, all stays
pub kept_waiting : (answering : Releasing) (last later : LastRelease) (now next : Performance) (caller : ℕ)
    → ((unit calls : ℕ) → answering ≡ releasing.Released unit calls → ⊥) → TellsRelease answering (stepped_in now release).answer
    → OnWaiting answering (later ≡ last) → next ≡ onward now caller release → KeepsCalls last now → KeepsCalls later next
kept_waiting (releasing.Released unit calls) last later now next caller none told same is keeps = absurd (none unit calls refl)
kept_waiting (releasing.NothingDue due) last later now next caller none told same is keeps =
    subst (λ (l : LastRelease). KeepsCalls l next) (sym same) (subst (KeepsCalls last) (sym (is ∙ stays now caller release (ap adds_entry told))) keeps)
kept_waiting (releasing.RecordFull room) last later now next caller none told same is keeps =
    subst (λ (l : LastRelease). KeepsCalls l next) (sym same) (subst (KeepsCalls last) (sym (is ∙ stays now caller release (ap adds_entry told))) keeps)

pub waits_for : {P Q : Type 0} (answering : Releasing) → (P → Q) → OnWaiting answering P → OnWaiting answering Q
waits_for (releasing.Released unit calls) carries waits = tt
waits_for (releasing.NothingDue due) carries waits = carries waits
waits_for (releasing.RecordFull room) carries waits = carries waits

-- at opening nothing was called
pub keeps_none : (last : LastRelease) (now : Performance) → last.calls ≡ 0 → last.place ≡ 0 → now.history ≡ [] → KeepsCalls last now
keeps_none last now calls place new = record {
  within = omega (arith, calls, place);
  calls = ap (λ (n : ℕ). map (call_at last.unit last.starts.items last.bytes.items)
      (hits_in (take (8 * n) (drop last.place (record_text now.caps now.history))))) calls
      ∙ sym (ap (λ (l : List Entry). map call_of (last_from (opening now.caps) [] l)) new);
}
