-- From the close of a server to what its life comes to.
use Rattle.std.proofs.Common.{◌≡◌, ◌≢◌, ◌⊎◌, inl, inr, ℕ, zero, suc, ◌+◌, ◌≤◌, List, [], ◌∷◌, ◌++◌, length, get_or, map, All, refl, sym, ap, subst, ◌∙◌, arith}
use Rattle.std.specs.List.{AllByRecursion, AllZip}
use Rattle.std.specs.List.Sorted.{IsPermutation}
use Rattle.std.proofs.lemmas.List.{map-append}
use Rattle.std.proofs.lemmas.List.Elements.{All-contains, All-from_recursion, recursion_from_All}
use Rattle.osc_model.specs.Limits.{Limits, AreInRange}
use Rattle.osc_model.specs.State.{opening}
use Rattle.osc_model.specs.Events.{Event, Answer, removed, Entry, Room, enrol, record_full}
use Rattle.osc_model.specs.History.{IsSound, stepped_in}
use Rattle.osc_model.specs.Heard.{Told}
use Rattle.osc_model.proofs.Calls.{all_append}
use Rattle.osc_core.specs.Standing.{history_in}
use Rattle.osc_turn.specs.declared.view.Entry.{Entry as Seen}
use Rattle.osc_turn.specs.declared.view.View.{View}
use Rattle.osc_turn.specs.History.{StartsWith, texts, own}
use Rattle.osc_turn.specs.Rule.{number_of}
use Rattle.osc_turn.specs.Passes.{view}
use Rattle.osc_turn.proofs.Histories.{starts_here, starts_on}
use Rattle.osc_live.specs.declared.caller.Caller.{Caller}
use Rattle.osc_live.specs.declared.guest.Guest.{Guest}
use Rattle.osc_live.specs.declared.guest.EnrolRefusal.{EnrolRefusal}
use Rattle.osc_live.specs.declared.guest.EnrolRefusal.TheVariants.{CallersFull}
use Rattle.osc_live.specs.Enrolments.{refusal_of}
use Rattle.osc_live.specs.Resuming.{removed_in}
use Rattle.osc_live.specs.Seen.{history_of, performance_in}
use Rattle.osc_live.specs.Closing.{known, views_of, Closes}
use Rattle.osc_life.specs.declared.worker.Job.{Job}
use Rattle.osc_life.specs.declared.worker.Done.{Done}
use Rattle.osc_life.specs.declared.life.Played.{Played}
use Rattle.osc_life.specs.Holders.{Holder, Stays, seen_by, holder_at}
use Rattle.osc_life.specs.Crews.{names_of, same_names, IsSilent, HasSeen, IsCrewFrom, AreOld, FindsNoRoom}
use Rattle.osc_life.specs.Lives.{IsAtWork, IsLife, IsClosed, HasNoRoomToEnrol, AreShares, HasPlayed, Lives, added_ids}
use Rattle.osc_life.specs.Works.{IsDone, caller_of, work_of, caller_in, end_in}
use Rattle.osc_life.proofs.Balance.{StaysSound, gone_ids, balance, ascends}
use Rattle.osc_life.proofs.After.{IsWithin, within_seen, within_none, nothing_after}
use Rattle.osc_life.proofs.Learning.{HasHeard}
use Rattle.osc_life.proofs.Enrolments.{IsNamed, IsOfToken, all_named, all_of_tokens, none_named, only_first, alone_from, each_named}
use Rattle.osc_life.proofs.Sharing.{Carried, all_carried, silent_then, silent_before, none_seen, names_back, shares}

pub all_split : {X : Type 0} (P : X → Type 0) (xs ys : List X) → AllByRecursion P (xs ++ ys) → AllByRecursion P xs × AllByRecursion P ys
all_split P [] ys all = (tt, all)
all_split P (x ∷ xs) ys all = let rest = all_split P xs ys all.1 in ((all.0, rest.0), rest.1)

gone_one : (caller : ℕ) (event : Event) (answer : Answer) (rest : List Entry) → gone_ids rest ≡ removed_in rest
    → gone_ids (record { caller = caller; event = event; answer = answer } ∷ rest)
    ≡ removed_in (record { caller = caller; event = event; answer = answer } ∷ rest)
gone_one caller event (removed id) rest is = ap (λ (l : List ℕ). id ∷ l) is
gone_one caller event _ rest is = is

pub gone_is : (history : List Entry) → gone_ids history ≡ removed_in history
gone_is [] = refl
gone_is (one ∷ history) = gone_one one.caller one.event one.answer history (gone_is history)

names_joined : (first count more total : ℕ) → total ≡ count + more → same_names first count ++ same_names (first + count) more ≡ same_names first total
names_joined first zero more total is =
    let at : first + 0 ≡ first = omega arith in
    let all : more ≡ total = omega (arith, is) in
    λ i. same_names (at i) (all i)
names_joined first (suc count) more zero is = absurd (omega (arith, is))
names_joined first (suc count) more (suc total) is =
    ap (λ (l : List (ℕ × ℕ)). (first, first) ∷ l)
    (ap (λ (n : ℕ). same_names (first + 1) count ++ same_names n more) (let e : first + suc count ≡ (first + 1) + count = omega arith in e)
    ∙ names_joined (first + 1) count more total (omega (arith, is)))

-- The callers of a past.

-- where the token of a caller stands: at work, or without an entry
abbrev IsPlaced : List Seen → ℕ → ℕ → ℕ × View → Type 0
IsPlaced history old new caller = IsAtWork old new (number_of caller.1) ⊎ (own (number_of caller.1) history ≡ [])

at_work : (history : List Seen) (old new first count : ℕ) (callers : List Caller) → names_of callers ≡ same_names first count → old ≤ first
    → first + count ≤ old + new → AllByRecursion (IsPlaced history old new) (known callers)
at_work history old new first count [] named from to = tt
at_work history old new first zero (caller ∷ callers) named from to = absurd (cc)
at_work history old new first (suc count) (caller ∷ callers) named from to =
    let head : ◌≡◌ {A = ℕ × ℕ} (caller.number, number_of (view caller.pass)) (first, first) = cc in
    let rest : names_of callers ≡ same_names (first + 1) count = cc in
    let token : number_of (view caller.pass) ≡ first = ap (λ (p : ℕ × ℕ). p.1) head in
    (inl (inr (omega (arith, token), omega (arith, token))), at_work history old new (first + 1) count callers rest (omega arith) (omega arith))

quiet_placed : (history : List Seen) (old new : ℕ) (knows : List (ℕ × View)) → AllByRecursion (λ other. own (number_of other.1) history ≡ []) knows
    → AllByRecursion (IsPlaced history old new) knows
quiet_placed history old new [] quiet = tt
quiet_placed history old new (one ∷ knows) quiet = (inr quiet.0, quiet_placed history old new knows quiet.1)

at_place : (history : List Seen) (old new : ℕ) (knows : List (ℕ × View)) → AllByRecursion (IsPlaced history old new) knows → (one : Seen)
    → ((number : ℕ) → own number history ≡ [] → one.number ≢ number) → IsOfToken knows one → IsAtWork old new one.number
at_place history old new knows placed one off (caller, there, same) =
    go (All-contains (IsPlaced history old new) knows caller (All-from_recursion (IsPlaced history old new) knows placed) there) where
      go : IsPlaced history old new caller → IsAtWork old new one.number
      go (inl at) = subst (IsAtWork old new) same at
      go (inr none) = absurd (off (number_of caller.1) none (sym same))

pub known_joined : (callers more : List Caller) → known (callers ++ more) ≡ known callers ++ known more
known_joined callers more = map-append (λ (caller : Caller). (caller.number, view caller.pass)) callers more

-- an enrolment isn't refused for both causes
pub never_both : (room : Room) (why : EnrolRefusal) → why ≡ CallersFull → refusal_of why ≡ record_full room → ⊥
never_both room why is full = let same = sym (ap refusal_of is) ∙ full in cc

-- each server opens sound
abbrev pub OpensSound : Type 0
OpensSound = (caps : Limits) → AreInRange caps → IsSound (opening caps)

-- what is known of a history that was closed
pub closed_so : {caps : Limits} {past : List (List ℕ)} {knows : List (ℕ × View)} {seen : List View} {bytes : List ℕ} {kept : List Told} → StaysSound → OpensSound
    → (closes : Closes caps past knows seen bytes kept) → IsClosed caps closes.history bytes kept
closed_so {caps = caps} stays opens closes =
    let entries = history_in (texts closes.history) in
    record {
      recorded = closes.recorded;
      ids = subst (λ (q : List ℕ × List ℕ). IsPermutation (added_ids entries) (q.0 ++ q.1)) (λ i. (sym closes.heard.ids i, gone_is entries i))
          (balance stays caps entries closes.legal (opens caps closes.legal.0));
      ascending = ascends caps entries closes.legal;
      heard = closes.heard;
      marked = closes.marked;
    }

-- What a close says of a server where caller 0, the old callers and these others hand their tokens in.
pub record Stands (caps : Limits) (past : List (List ℕ)) (start : List Entry) (next count : ℕ) (v : View) (history : List Seen) : Type 0 where
  pub starts : StartsWith history v.seen
  pub owned : own 0 history ≡ own 0 v.seen
  pub alone : own 0 v.seen ≡ v.seen
  pub stage : IsLife caps past start next count history

module _ (history there : List Seen) where
  pub within_olds : (olds : List Caller) → AllByRecursion (λ other. own (number_of other.1) history ≡ []) (known olds)
      → AllByRecursion (IsWithin history there) (known olds)
  within_olds [] quiet = tt
  within_olds (one ∷ olds) quiet = (within_none history there (one.number, view one.pass) quiet.0, within_olds olds quiet.1)

  pub within_told : (callers : List Caller) → AllByRecursion (Carried history) callers → AllByRecursion (HasHeard there) (known callers)
      → AllByRecursion (IsWithin history there) (known callers)
  within_told [] carried told = tt
  within_told (one ∷ callers) carried told =
      (within_seen history there (one.number, view one.pass) told.0 carried.0.1, within_told callers carried.1 told.1)

module _ (caps : Limits) (past : List (List ℕ)) (start : List Entry) (made : ℕ) (first : Caller) (v : View) (olds enrolled : List Caller)
    (on : Stays v (view first.pass)) (zero_is : first.number ≡ 0) (old : AreOld past olds) (crew : IsCrewFrom (1 + length olds) start made v enrolled) where
  pub stands : {bytes : List ℕ} {kept : List Told} (others : List Caller) (guests : List Guest) → names_of others ≡ names_of enrolled
      → ((history : List Seen) → StartsWith history v.seen → AllByRecursion (Carried history) others
      → AllByRecursion (λ other. own (number_of other.1) v.seen ≡ []) (known others))
      → (closes : Closes caps past (known (first ∷ (olds ++ others))) (views_of (first ∷ (olds ++ others)) guests) bytes kept)
      → Stands caps past start (1 + length olds) (length enrolled) v closes.history
      × AllByRecursion (λ other. own (number_of other.1) closes.history ≡ []) (known olds)
  stands others guests named none closes =
      let history = closes.history in
      let carried = all_carried (first ∷ (olds ++ others)) guests closes in
      let parts = all_split (Carried history) olds others carried.1 in
      let now : List Seen = (view first.pass).seen in
      let zeroth : number_of (view first.pass) ≡ 0 = on.token ∙ crew.token in
      let starts : StartsWith history v.seen = starts_on history now v.seen carried.0.0 on.starts in
      let owned : own 0 history ≡ own 0 v.seen =
      subst (λ (n : ℕ). own n history ≡ own n now) zeroth carried.0.1 ∙ subst (λ (n : ℕ). own n now ≡ own n v.seen) crew.token on.own_same in
      let quiet = silent_then history olds (recursion_from_All IsSilent olds old.silent) parts.0 in
      let quiet_seen : AllByRecursion (λ (other : ℕ × View). own (number_of other.1) v.seen ≡ []) (known (olds ++ others)) =
      subst (AllByRecursion (λ (other : ℕ × View). own (number_of other.1) v.seen ≡ [])) (sym (known_joined olds others))
      (all_append (λ (other : ℕ × View). own (number_of other.1) v.seen ≡ []) (known olds) (known others)
      (silent_before history v.seen starts (known olds) quiet) (none history starts parts.1)) in
      let tokens = all_of_tokens closes in
      let alone : own 0 v.seen ≡ v.seen =
      alone_from caps start v enrolled (1 + length olds) made crew history (first.number, view first.pass) (olds ++ others) zeroth quiet_seen starts tokens in
      let here = crew.alone alone in
      let new = length enrolled in
      let all_names : names_of (olds ++ others) ≡ same_names 1 (length olds + new) =
      map-append (λ (caller : Caller). (caller.number, number_of (view caller.pass))) olds others
      ∙ (λ i. old.named i ++ (named ∙ here.1) i) ∙ names_joined 1 (length olds) new (length olds + new) refl in
      let most = length olds + new in
      let named_all : AllByRecursion (IsNamed most) (known (first ∷ (olds ++ others))) = (
        (zero_is ∙ sym zeroth, omega (arith, zeroth)),
        all_named 1 most most (olds ++ others) all_names (omega arith),
      ) in
      let placed : AllByRecursion (IsPlaced history (1 + length olds) new) (known (first ∷ (olds ++ others))) = (
        inl (inl zeroth),
        subst (AllByRecursion (IsPlaced history (1 + length olds) new)) (sym (known_joined olds others))
            (all_append (IsPlaced history (1 + length olds) new) (known olds) (known others)
            (quiet_placed history (1 + length olds) new (known olds) quiet)
            (at_work history (1 + length olds) new (1 + length olds) new others (named ∙ here.1) (omega arith) (omega arith))),
      ) in (
        record {
          starts = starts;
          owned = owned;
          alone = alone;
          stage = record {
            since = closes.since;
            goes_on = closes.begins;
            legal = closes.legal;
            laws = closes.laws;
            begins = subst (StartsWith history) (sym (owned ∙ alone)) starts;
            enrolled = ap (λ (l : List Seen). history_in (texts l)) (owned ∙ alone) ∙ here.0;
            named = λ k d inside.
                (each_named caps start v enrolled (1 + length olds) made crew history most (known (first ∷ (olds ++ others))) named_all
                (get_or closes.since k d) (closes.named k d inside)).0;
            within = λ k d inside.
                at_place history (1 + length olds) new (known (first ∷ (olds ++ others))) placed (get_or history k d)
                (λ number empty. none_named number history empty k d inside)
                (All-from_recursion (IsOfToken (known (first ∷ (olds ++ others)))) history tokens k d inside);
          };
        },
        quiet,
      )

  -- what caller 0's token has seen that was told of all is the whole history
  whole_seen : {bytes : List ℕ} {kept : List Told} (others : List Caller) (guests : List Guest)
      → (closes : Closes caps past (known (first ∷ (olds ++ others))) (views_of (first ∷ (olds ++ others)) guests) bytes kept)
      → AllByRecursion (λ other. own (number_of other.1) closes.history ≡ []) (known olds) → AllByRecursion (HasHeard (seen_by first)) (known others)
      → seen_by first ≡ closes.history
  whole_seen others guests closes quiet told =
      let history = closes.history in
      let now : List Seen = (view first.pass).seen in
      let carried = all_carried (first ∷ (olds ++ others)) guests closes in
      let parts = all_split (Carried history) olds others carried.1 in
      let within : AllByRecursion (IsWithin history now) (known (first ∷ (olds ++ others))) = (
        within_seen history now (first.number, view first.pass) (starts_here now) carried.0.1,
        subst (AllByRecursion (IsWithin history now)) (sym (known_joined olds others))
            (all_append (IsWithin history now) (known olds) (known others) (within_olds history now olds quiet) (within_told history now others parts.1 told)),
      ) in
      sym (nothing_after (known (first ∷ (olds ++ others))) now history carried.0.0 within (all_of_tokens closes))

  -- where no other has played, all entries are of caller 0's token
  pub stands_alone : {bytes : List ℕ} {kept : List Told} (guests : List Guest)
      → (closes : Closes caps past (known (first ∷ (olds ++ enrolled))) (views_of (first ∷ (olds ++ enrolled)) guests) bytes kept)
      → (Stands caps past start (1 + length olds) (length enrolled) v closes.history
      × AllByRecursion (λ other. own (number_of other.1) closes.history ≡ []) (known olds)) × (own 0 closes.history ≡ closes.history) × (closes.history ≡ v.seen)
  stands_alone guests closes =
      let history = closes.history in
      let carried = all_carried (first ∷ (olds ++ enrolled)) guests closes in
      let silent = all_append IsSilent olds enrolled (recursion_from_All IsSilent olds old.silent) (recursion_from_All IsSilent enrolled crew.silent) in
      let none = silent_then history (olds ++ enrolled) silent carried.1 in
      let whole : own 0 history ≡ history =
      only_first (first.number, view first.pass) (known (olds ++ enrolled)) history (on.token ∙ crew.token) none (all_of_tokens closes) in
      let both =
      stands enrolled guests refl
      (λ log starts there. silent_before log v.seen starts (known enrolled)
      (silent_then log enrolled (recursion_from_All IsSilent enrolled crew.silent) there)) closes in
      (both, whole, sym whole ∙ both.0.owned ∙ both.0.alone)

-- A server was closed after the last round: caller 0's token ended so, and has seen what those of
-- these callers have.
pub record Finishes (ends_so : View → Type 0) (caps : Limits) (past : List (List ℕ))
    (others callers : List Caller) (guests : List Guest) (bytes : List ℕ)
    (kept : List Told) : Type 0 where
  pub last : Caller
  pub number : last.number ≡ 0
  pub ended : ends_so (view last.pass)
  pub told : All (λ one. StartsWith (seen_by last) one.1.seen) (known callers)
  pub closes : Closes caps past (known (last ∷ (others ++ callers)))
      (views_of (last ∷ (others ++ callers)) guests) bytes kept

-- where caller 0 could enrol no one, there was no room for it
pub full_none : (caps : Limits) (past : List (List ℕ)) (v0 v : View) (olds enrolled : List Caller) → AreOld past olds → v0.made ≡ 1 + length olds
    → (bytes : List ℕ) (kept : List Told) (ends_so : View → Type 0) (made : ℕ) → IsCrewFrom v0.made (history_of v0) made v enrolled → (why : EnrolRefusal)
    → FindsNoRoom caps v why → (guests : List Guest) → (done : Finishes ends_so caps past olds enrolled guests bytes kept) → Stays v (view done.last.pass)
    → (room : Room) × (refusal_of why ≡ record_full room)
full_none caps past v0 v olds enrolled old next_is bytes kept ends_so made crew why refused guests done on =
    let first = done.last in
    let crew_is : IsCrewFrom (1 + length olds) (history_of v0) made v enrolled =
    subst (λ (n : ℕ). IsCrewFrom n (history_of v0) made v enrolled) next_is crew in
    let all =
    stands_alone caps past (history_of v0) made first v olds enrolled on done.number old crew_is guests done.closes in
    let full = refused all.0.0.alone in (full.0, full.1)

module _ {P E X F : Type 0} (plays : P → E → Holder → List Seen → List Seen → Type 0) (ends : X → X → F → Holder → List (List Seen) → View → View → Type 0)
    (caps : Limits) (past : List (List ℕ)) (stays_sound : StaysSound) (opens : OpensSound) (v0 v start : View) (olds enrolled : List Caller)
    (old : AreOld past olds) (next_is : v0.made ≡ 1 + length olds) (begun : StartsWith v.seen v0.seen) (before after : X) (bytes : List ℕ) (kept : List Told) (end : F)
    (works : List P) (played : Played P E) where
  -- all works were played
  pub lives_each : (made : ℕ) → IsCrewFrom v0.made (history_of v0) made v enrolled → (jobs : List (Job P)) (all : List (Done E))
      → names_of (map caller_of jobs) ≡ names_of enrolled → length jobs ≡ length enrolled → AllByRecursion IsSilent (map caller_of jobs)
      → AllByRecursion (HasSeen v.seen) (map caller_of jobs) → AllZip (IsDone plays caps) jobs all
      → (done : Finishes (λ w. ends before after end (holder_at caps 0) (map seen_by (map caller_in all)) start w) caps past olds (map caller_in all) [] bytes kept)
      → Stays v (view done.last.pass)
      → ((history : List Seen) → AreShares plays caps (own 0 history) history v0.made (map work_of jobs) (map end_in all) (map seen_by (map caller_in all))
      → HasPlayed plays caps v0.made (length enrolled) history works (map seen_by (map caller_in all)) played)
      → Lives plays ends caps past v0 works before after bytes kept played end
  lives_each made crew jobs all named many silent has zip done on so =
      let others = map caller_in all in
      let first = done.last in
      let closes = done.closes in
      let history = closes.history in
      let crew_is : IsCrewFrom (1 + length olds) (history_of v0) made v enrolled =
      subst (λ (n : ℕ). IsCrewFrom n (history_of v0) made v enrolled) next_is crew in
      let back = names_back plays caps jobs all zip in
      let both =
      stands caps past (history_of v0) made first v olds enrolled on done.number old crew_is others [] (back ∙ named)
      (λ log starts there. none_seen v.seen (map caller_of jobs) others back silent has) closes in
      let whole =
      whole_seen caps past (history_of v0) made first v olds enrolled on done.number old crew_is others [] closes both.1
      (recursion_from_All (HasHeard (seen_by first)) (known others) done.told) in
      let carried = all_carried (first ∷ (olds ++ others)) [] closes in
      let mine = (all_split (Carried history) olds others carried.1).1 in
      let here : names_of (map caller_of jobs) ≡ same_names v0.made (length jobs) =
      named ∙ (crew.alone both.0.alone).1 ∙ ap (same_names v0.made) (sym many) in
      let shared = shares plays caps v.seen history v0.made jobs all here silent has zip mine in
      record {
        history = history;
        callers = length enrolled;
        goes_on = subst (λ (l : List Seen). StartsWith l v0.seen) (sym (both.0.owned ∙ both.0.alone)) begun;
        stage = subst (λ (n : ℕ). IsLife caps past (history_of v0) n (length enrolled) history) (sym next_is) both.0.stage;
        closed = closed_so stays_sound opens closes;
        played_so = so history
            (subst (λ (l : List Seen). AreShares plays caps l history v0.made (map work_of jobs) (map end_in all) (map seen_by others))
            (sym (both.0.owned ∙ both.0.alone)) shared);
        start = start;
        last = view first.pass;
        tokens = map seen_by others;
        ended = done.ended;
        whole = whole;
      }

  -- there was no room for an enrolment
  pub lives_none : (made : ℕ) → IsCrewFrom v0.made (history_of v0) made v enrolled → (why : EnrolRefusal) → FindsNoRoom caps v why → (guests : List Guest)
      → (done : Finishes (λ w. ends before after end (holder_at caps 0) (map seen_by enrolled) start w) caps past olds enrolled guests bytes kept)
      → Stays v (view done.last.pass)
      → (room : Room) × (refusal_of why ≡ record_full room)
      × (((history : List Seen) → HasNoRoomToEnrol caps history room
      → HasPlayed plays caps v0.made (length enrolled) history works (map seen_by enrolled) played)
      → Lives plays ends caps past v0 works before after bytes kept played end)
  lives_none made crew why refused guests done on =
      let first = done.last in
      let closes = done.closes in
      let history = closes.history in
      let crew_is : IsCrewFrom (1 + length olds) (history_of v0) made v enrolled =
      subst (λ (n : ℕ). IsCrewFrom n (history_of v0) made v enrolled) next_is crew in
      let all =
      stands_alone caps past (history_of v0) made first v olds enrolled on done.number old crew_is guests closes in
      let whole =
      whole_seen caps past (history_of v0) made first v olds enrolled on done.number old crew_is enrolled guests closes all.0.1
      (recursion_from_All (HasHeard (seen_by first)) (known enrolled) done.told) in
      let full = refused all.0.0.alone in (
        full.0,
        full.1,
        λ so. record {
          history = history;
          callers = length enrolled;
          goes_on = subst (λ (l : List Seen). StartsWith l v0.seen) (sym (all.0.0.owned ∙ all.0.0.alone)) begun;
          stage = subst (λ (n : ℕ). IsLife caps past (history_of v0) n (length enrolled) history) (sym next_is) all.0.0.stage;
          closed = closed_so stays_sound opens closes;
          played_so = so history (full.2 ∙ ap (λ (l : List Seen). (stepped_in (performance_in caps (texts l)) enrol).answer) (sym all.2), all.1);
          start = start;
          last = view first.pass;
          tokens = map seen_by enrolled;
          ended = done.ended;
          whole = whole;
        },
      )
