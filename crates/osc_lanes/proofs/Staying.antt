-- What a removed box has heard stays what the history says.
use Rattle.std.proofs.Common.{◌≡◌, ◌≢◌, ◌⊎◌, inl, inr, ℕ, zero, suc, ◌==◌, Bool, true, false, cond, List, [], ◌∷◌, ◌++◌, All, Option, Some, None, MatchBool}
use Rattle.std.proofs.Common.{refl, sym, ap, subst, ◌∙◌, append_assoc}
use Rattle.std.specs.Prelude.{MatchOption, map}
use Rattle.std.specs.Option.{option_map}
use Rattle.std.specs.List.{AllByRecursion, Contains, flat_map, filter}
use Rattle.std.proofs.lemmas.Bool.{eqb-true}
use Rattle.std.proofs.lemmas.List.Elements.{recursion_from_All, Contains-append_left}
use Rattle.osc_atoms.specs.declared.fault.Fault.{Fault}
use Rattle.osc_atoms.specs.declared.limits.TheConstants.{MAX_PACKET}
use Rattle.osc_packet.specs.Reading.{packet_fault}
use Rattle.osc_model.specs.Limits.{Limits}
use Rattle.osc_model.specs.State.{opening}
use Rattle.osc_model.specs.Events.{Event, add, remove, submit, tick, release, Answer, number, callers_full, queued, units_full, pool_full, added, refused}
use Rattle.osc_model.specs.Events.{removed, not_there, ticked, clock_back, released, nothing_due, record_full, adds_entry, Entry, Invocation, Room, room_in}
use Rattle.osc_model.specs.Heard.{Told, bytes_of, calls_bytes}
use Rattle.osc_model.specs.History.{Legal, after, invocations, HasHeard}
use Rattle.osc_model.proofs.Calls.{all_append}
use Rattle.osc_model.proofs.Onward.{invoked_more}
use Rattle.osc_method.specs.Heard.{Fixed, last_of}
use Rattle.osc_core.specs.Standing.{history_in, CarriesMark, text_with}
use Rattle.osc_core.proofs.Texts.{read_more}
use Rattle.osc_script.specs.declared.act.Act.{Act}
use Rattle.osc_script.specs.declared.act.Act.TheVariants.{Add, Remove, Send, Tick, Pump}
use Rattle.osc_script.specs.declared.line.Line.{Line}
use Rattle.osc_turn.specs.declared.view.Entry.{Entry as Seen}
use Rattle.osc_turn.specs.History.{StartsWith, texts, entry}
use Rattle.osc_turn.proofs.Histories.{starts_here, starts_on, starts_texts}
use Rattle.osc_live.proofs.Answered.{texts_more}
use Rattle.osc_live.proofs.Asks.{history_starts}
use Rattle.osc_life.specs.Holders.{Holder}
use Rattle.osc_life.specs.Lives.{id_in}
use Rattle.osc_lanes.specs.Shares.{Answered, EntersOne, Releases, Account, then_told, ended, known_of, IsRemovedAt, PlaysAct, Plays}

-- no invocation of an id stands after its method was removed
abbrev pub StaySilent : Type 0
StaySilent = (caps : Limits) (before later : List Entry) (entry : Entry) (id : ℕ) → Legal caps (before ++ entry ∷ later) → entry.answer ≡ removed id
    → All (λ invocation. invocation.call.id ≢ id) (invocations (after (opening caps) (before ++ entry ∷ [])) later)

-- invocations of others add no bytes
quiet : (id : ℕ) (first more : List Invocation) → AllByRecursion (λ invocation. invocation.call.id ≢ id) more
    → calls_bytes (first ++ more) id ≡ calls_bytes first id
quiet id [] [] all = refl
quiet id [] (one ∷ more) all = go (one.call.id == id) refl (quiet id [] more all.1) where
  go : (t : Bool) → (one.call.id == id) ≡ t → calls_bytes more id ≡ []
      → flat_map bytes_of (cond t (one ∷ filter (λ invocation. invocation.call.id == id) more) (filter (λ invocation. invocation.call.id == id) more)) ≡ []
  go true is none = absurd (all.0 (eqb-true one.call.id id is))
  go false is none = none
quiet id (one ∷ first) more all = go (one.call.id == id) (quiet id first more all) where
  go : (t : Bool) → calls_bytes (first ++ more) id ≡ calls_bytes first id
      → flat_map bytes_of
      (cond t (one ∷ filter (λ invocation. invocation.call.id == id) (first ++ more)) (filter (λ invocation. invocation.call.id == id) (first ++ more)))
      ≡ flat_map bytes_of (cond t (one ∷ filter (λ invocation. invocation.call.id == id) first) (filter (λ invocation. invocation.call.id == id) first))
  go true same = ap (λ (l : List ℕ). bytes_of one ++ l) same
  go false same = same

-- what was heard up to a removal is what any later history says
heard_still : StaySilent → (caps : Limits) (before later : List Entry) (one : Entry) (told : Told) → Legal caps (before ++ one ∷ later)
    → one.answer ≡ removed told.id → HasHeard (invocations (opening caps) (before ++ one ∷ [])) told
    → HasHeard (invocations (opening caps) (before ++ one ∷ later)) told
heard_still silent caps before later one told legal is heard =
    let first = invocations (opening caps) (before ++ one ∷ []) in
    let more = invocations (after (opening caps) (before ++ one ∷ [])) later in
    let all : invocations (opening caps) (before ++ one ∷ later) ≡ first ++ more =
    ap (invocations (opening caps)) (sym (append_assoc before (one ∷ []) later)) ∙ invoked_more (opening caps) (before ++ one ∷ []) later in
    let none = recursion_from_All (λ invocation. invocation.call.id ≢ told.id) more (silent caps before later one told.id legal is) in
    let same : calls_bytes (invocations (opening caps) (before ++ one ∷ later)) told.id ≡ calls_bytes first told.id =
    ap (λ (l : List Invocation). calls_bytes l told.id) all ∙ quiet told.id first more none in
    heard ∙ ap (λ (bytes : List ℕ). option_map (λ _. last_of told.keep.most bytes) told.heard) (sym same)

-- a mark that was carried is carried on
pub mark_still : (later there : List Seen) (id : ℕ) (mark : List ℕ) → StartsWith later there → CarriesMark (texts there) id mark → CarriesMark (texts later) id mark
mark_still later there id mark starts (one, is, read, written) =
    let more = starts_texts later there starts in
    let history = history_starts (texts later) (texts there) more in (
      one,
      is,
      subst (λ (h : List Entry). Contains h one) (sym history.1) (Contains-append_left (history_in (texts there)) history.0 one read),
      subst (λ (l : List (List ℕ)). Contains l (text_with mark one)) (sym more.1) (Contains-append_left (texts there) more.0 (text_with mark one) written),
    )

module _ {M : Type 0} (keep : M → Fixed) (heard : M → Option (List ℕ)) where
  -- a box that was removed by the last entry
  removed_still : StaySilent → (caps : Limits) (token : ℕ) (one : Entry) (found there later : List Seen) (box : ℕ × M) → EntersOne token one found there
      → one.answer ≡ removed box.0 → StartsWith later there → Legal caps (history_in (texts later)) → IsRemovedAt keep heard caps there box
      → IsRemovedAt keep heard caps later box
  removed_still silent caps token one found there later box enters is starts legal at =
      let history = history_starts (texts later) (texts there) (starts_texts later there starts) in
      let place : history_in (texts there) ≡ history_in (texts found) ++ one ∷ [] =
      ap history_in (ap texts enters.last ∙ texts_more found (entry token enters.text)) ∙ read_more (texts found) enters.text one enters.read in
      let whole : history_in (texts later) ≡ history_in (texts found) ++ one ∷ history.0 =
      history.1 ∙ ap (λ (h : List Entry). h ++ history.0) place ∙ append_assoc (history_in (texts found)) (one ∷ []) history.0 in
      let then = heard_still silent caps (history_in (texts found)) history.0 one (known_of keep heard box.0 box.1) (subst (Legal caps) whole legal) is
      (subst (λ (h : List Entry). HasHeard (invocations (opening caps) h) (known_of keep heard box.0 box.1)) place at.1) in (
        mark_still later there box.0 _ starts at.0,
        subst (λ (h : List Entry). HasHeard (invocations (opening caps) h) (known_of keep heard box.0 box.1)) (sym whole) then,
      )

-- an answer that hands a method out, and no other
only_id : (answer : Answer) (id : ℕ) (rest : List ℕ) → id ∷ rest ≡ id_in answer → (answer ≡ removed id) × (rest ≡ [])
only_id (removed other) id rest is = (let same : id ≡ other = cc in ap removed (sym same), let none : rest ≡ [] = cc in none)
only_id (number caller) id rest is = absurd (cc)
only_id callers_full id rest is = absurd (cc)
only_id (queued first count late) id rest is = absurd (cc)
only_id (units_full room) id rest is = absurd (cc)
only_id (pool_full room) id rest is = absurd (cc)
only_id (added other) id rest is = absurd (cc)
only_id (refused why) id rest is = absurd (cc)
only_id not_there id rest is = absurd (cc)
only_id ticked id rest is = absurd (cc)
only_id (clock_back clock) id rest is = absurd (cc)
only_id (released unit hits) id rest is = absurd (cc)
only_id (nothing_due next) id rest is = absurd (cc)
only_id (record_full room) id rest is = absurd (cc)

-- What is seen goes on.

pub answered_starts : (holder : Holder) (event : Event) (answer : Answer) (here there : List Seen) → Answered holder event answer here there → StartsWith there here
answered_starts holder event answer here there a = go (adds_entry answer) a.then_seen where
  go : (t : Bool)
      → MatchBool t (EntersOne holder.token (record { caller = holder.caller; event = event; answer = answer }) a.found there) (there ≡ a.found)
      → StartsWith there here
  go true enters = starts_on there a.found here (_, enters.last) a.onward.0
  go false same = subst (λ (l : List Seen). StartsWith l here) (sym same) a.onward.0

releases_start : (holder : Holder) (count : ℕ) (here there : List Seen) → Releases holder count here there → StartsWith there here
releases_start holder zero here there same = subst (λ (l : List Seen). StartsWith l here) (sym same) (starts_here here)
releases_start holder (suc count) here there (place, unit, hits, first, last) =
    starts_on there place here (answered_starts holder _ _ place there last) (releases_start holder count here place first)

module _ {M : Type 0} (keep : M → Fixed) (heard : M → Option (List ℕ)) (holder : Holder) where
  -- a legal history is seen then, or nothing more is seen and no box was removed
  abbrev SeesMore : List Seen → List Seen → List (ℕ × M) → Type 0
  SeesMore here there out = Legal holder.caps (history_in (texts there)) ⊎ ((there ≡ here) × (out ≡ []))

  -- what is said of a part that was played: it goes on, and what it removed has heard what each later history says
  record Stays (account : Account M) (here there : List Seen) : Type 0 where
    starts : StartsWith there here
    sees : SeesMore here there account.removed
    later_on : (later : List Seen) → StartsWith later there → Legal holder.caps (history_in (texts later))
        → AllByRecursion (IsRemovedAt keep heard holder.caps later) account.removed

  -- an event that hands no box out
  stays_kept : (event : Event) (answer : Answer) (account : Account M) (here place there : List Seen) → StartsWith place here
      → Answered holder event answer place there → account.removed ≡ [] → Stays account here there
  stays_kept event answer account here place there starts a none = record {
    starts = starts_on there place here (answered_starts holder event answer place there a) starts;
    sees = inl a.legal;
    later_on = λ later on legal. subst (AllByRecursion (IsRemovedAt keep heard holder.caps later)) (sym none) tt;
  }

  module _ (silent : StaySilent) where
    stays_removed : (address : List ℕ) (out : List (ℕ × M)) (answer : Answer) (account : Account M) (here there : List Seen)
        → Answered holder (remove address) answer here there → map (λ (one : ℕ × M). one.0) out ≡ id_in answer
        → AllByRecursion (IsRemovedAt keep heard holder.caps there) out → account.removed ≡ out → Stays account here there
    stays_removed address out answer account here there a ids are same = record {
      starts = answered_starts holder (remove address) answer here there a;
      sees = inl a.legal;
      later_on = λ later on legal. subst (AllByRecursion (IsRemovedAt keep heard holder.caps later)) (sym same) (go later on legal out ids are);
    }
      where
        go : (later : List Seen) → StartsWith later there → Legal holder.caps (history_in (texts later)) → (boxes : List (ℕ × M))
            → map (λ (one : ℕ × M). one.0) boxes ≡ id_in answer → AllByRecursion (IsRemovedAt keep heard holder.caps there) boxes
            → AllByRecursion (IsRemovedAt keep heard holder.caps later) boxes
        go later on legal [] ids are = tt
        go later on legal (box ∷ []) ids are =
            let told = only_id answer box.0 [] ids in (
              removed_still keep heard silent holder.caps holder.token
                  (record { caller = holder.caller; event = remove address; answer = answer }) a.found there later
                  box
                  (subst (λ (t : Bool). MatchBool t
                  (EntersOne holder.token (record { caller = holder.caller; event = remove address; answer = answer }) a.found there) (there ≡ a.found))
                  (ap adds_entry told.0) a.then_seen)
                  told.0 on legal are.0,
              tt,
            )
        go later on legal (box ∷ next ∷ boxes) ids are =
            let told = only_id answer box.0 (next.0 ∷ map (λ (one : ℕ × M). one.0) boxes) ids in
            let none = told.1 in
            absurd (cc)

    act_stays : (n : ℕ) (act : Act) (boxes left : List M) (account : Account M) (here there : List Seen)
        → PlaysAct keep heard holder n act boxes left account here there → Stays account here there
    act_stays n (Add address) boxes left account here there (box, answer, first, a, marked, is) =
        stays_kept (add address) answer account here here there (starts_here here) a (ap (λ (one : Account M). one.removed) is)
    act_stays n (Remove address) boxes left account here there (out, answer, same, a, ids, are, is) =
        stays_removed address out answer account here there a ids are (ap (λ (one : Account M). one.removed) is)
    act_stays n (Send bytes) boxes left account here there (same, sent) = go (packet_fault MAX_PACKET bytes) sent where
      go : (fault : Option Fault)
          → MatchOption fault ((answer : Answer) × Answered holder (submit bytes) answer here there × (account ≡ ended [] (room_in answer)))
          (λ one. (there ≡ here) × (account ≡ record { faults = (n, one) ∷ []; removed = []; back = []; stop = None }))
          → Stays account here there
      go None (answer, a, is) = stays_kept (submit bytes) answer account here here there (starts_here here) a (ap (λ (one : Account M). one.removed) is)
      go (Some fault) (still, is) = record {
        starts = subst (λ (l : List Seen). StartsWith l here) (sym still) (starts_here here);
        sees = inr (still, ap (λ (one : Account M). one.removed) is);
        later_on = λ later on legal. subst (AllByRecursion (IsRemovedAt keep heard holder.caps later)) (sym (ap (λ (one : Account M). one.removed) is)) tt;
      }
    act_stays n (Tick moment) boxes left account here there (same, answer, a, is) =
        stays_kept (tick moment) answer account here here there (starts_here here) a (ap (λ (one : Account M). one.removed) is)
    act_stays n Pump boxes left account here there (same, count, place, answer, releases, a, ends, is) =
        stays_kept release answer account here place there (releases_start holder count here place releases) a (ap (λ (one : Account M). one.removed) is)

    -- a part that is played, and then the rest
    stays_on : (account first rest : Account M) (here place there : List Seen) → account.removed ≡ first.removed ++ rest.removed
        → Stays first here place → Stays rest place there → Stays account here there
    stays_on account first rest here place there is one more = record {
      starts = starts_on there place here more.starts one.starts;
      sees = go one.sees more.sees;
      later_on = λ later on legal. subst (AllByRecursion (IsRemovedAt keep heard holder.caps later)) (sym is)
          (all_append (IsRemovedAt keep heard holder.caps later) first.removed rest.removed
          (one.later_on later (starts_on later there place on more.starts) legal)
          (more.later_on later on legal));
    }
      where
        go : SeesMore here place first.removed → SeesMore place there rest.removed → SeesMore here there account.removed
        go sees (inl legal) = inl legal
        go (inl legal) (inr (same, none)) = inl (subst (λ (l : List Seen). Legal holder.caps (history_in (texts l))) (sym same) legal)
        go (inr (still, before)) (inr (same, none)) =
            inr (same ∙ still, is ∙ ap (λ (l : List (ℕ × M)). l ++ rest.removed) before ∙ none)

    stays_ended : (account : Account M) (here there : List Seen) → account.removed ≡ [] → there ≡ here → Stays account here there
    stays_ended account here there none same = record {
      starts = subst (λ (l : List Seen). StartsWith l here) (sym same) (starts_here here);
      sees = inr (same, none);
      later_on = λ later on legal. subst (AllByRecursion (IsRemovedAt keep heard holder.caps later)) (sym none) tt;
    }

    plays_stays : (lines : List Line) (boxes : List M) (account : Account M) (here there : List Seen) → Plays keep heard holder lines boxes account here there
        → Stays account here there
    plays_stays [] boxes account here there (is, same) = stays_ended account here there (ap (λ (one : Account M). one.removed) is) same
    plays_stays (line ∷ lines) boxes account here there (left, first, place, one, more) =
        go first.stop more (λ rest plays. plays_stays lines left rest place there plays) where
          go : (stop : Option Room)
              → MatchOption stop ((rest : Account M) × (account ≡ then_told first rest) × Plays keep heard holder lines left rest place there)
              (λ room. (account ≡ then_told first (ended left (Some room))) × (there ≡ place))
              → ((rest : Account M) → Plays keep heard holder lines left rest place there → Stays rest place there) → Stays account here there
          go None (rest, is, plays) stay =
              stays_on account first rest here place there (ap (λ (one : Account M). one.removed) is)
              (act_stays line.number line.act boxes left first here place one) (stay rest plays)
          go (Some room) (is, same) stay =
              stays_on account first (ended left (Some room)) here place there (ap (λ (one : Account M). one.removed) is)
              (act_stays line.number line.act boxes left first here place one) (stays_ended (ended left (Some room)) place there refl same)

    -- what was removed has heard what each later history says
    pub removed_later : (lines : List Line) (boxes : List M) (account : Account M) (here there later : List Seen)
        → Plays keep heard holder lines boxes account here there → StartsWith later there → Legal holder.caps (history_in (texts later))
        → AllByRecursion (IsRemovedAt keep heard holder.caps later) account.removed
    removed_later lines boxes account here there later plays on legal = (plays_stays lines boxes account here there plays).later_on later on legal

    -- what was removed has heard what the history says in which the lines were played
    pub removed_then : (lines : List Line) (boxes : List M) (account : Account M) (here there : List Seen)
        → Plays keep heard holder lines boxes account here there → AllByRecursion (IsRemovedAt keep heard holder.caps there) account.removed
    removed_then lines boxes account here there plays = let stays = plays_stays lines boxes account here there plays in go stays stays.sees where
      go : Stays account here there → SeesMore here there account.removed → AllByRecursion (IsRemovedAt keep heard holder.caps there) account.removed
      go stays (inl legal) = stays.later_on there (starts_here there) legal
      go stays (inr (same, none)) = subst (AllByRecursion (IsRemovedAt keep heard holder.caps there)) (sym none) tt
