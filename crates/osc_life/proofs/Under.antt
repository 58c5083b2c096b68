-- From the close of a server where something else was done under a token of its own to what its life comes to.
use Rattle.std.proofs.Common.{◌≡◌, ℕ, suc, ◌+◌, List, [], ◌∷◌, ◌++◌, length, map, All, Option, sym, ap, subst, ◌∙◌, arith, length-append}
use Rattle.std.specs.List.{AllByRecursion, AllZip}
use Rattle.std.proofs.lemmas.List.{length-map, map-append}
use Rattle.std.proofs.lemmas.List.Elements.{recursion_from_All}
use Rattle.osc_model.specs.Limits.{Limits}
use Rattle.osc_model.specs.Events.{Room, enrol, record_full}
use Rattle.osc_model.specs.History.{stepped_in}
use Rattle.osc_model.specs.Heard.{Told}
use Rattle.osc_model.proofs.Calls.{all_append}
use Rattle.osc_turn.specs.declared.view.Entry.{Entry as Seen}
use Rattle.osc_turn.specs.declared.view.View.{View}
use Rattle.osc_turn.specs.History.{StartsWith, texts, own}
use Rattle.osc_turn.specs.Rule.{number_of}
use Rattle.osc_turn.specs.Passes.{view}
use Rattle.osc_turn.proofs.Histories.{starts_here}
use Rattle.osc_live.specs.declared.caller.Caller.{Caller}
use Rattle.osc_live.specs.declared.guest.Guest.{Guest}
use Rattle.osc_live.specs.declared.guest.EnrolRefusal.{EnrolRefusal}
use Rattle.osc_live.specs.Enrolments.{refusal_of}
use Rattle.osc_live.specs.Seen.{history_of, performance_in}
use Rattle.osc_live.specs.Closing.{known, views_of, Closes}
use Rattle.osc_life.specs.declared.worker.Job.{Job}
use Rattle.osc_life.specs.declared.worker.Done.{Done}
use Rattle.osc_life.specs.declared.life.Played.{Played}
use Rattle.osc_life.specs.Holders.{Holder, Stays, seen_by, holder_of, holder_at}
use Rattle.osc_life.specs.Crews.{names_of, same_names, IsSilent, HasSeen, IsCrewFrom, AreOld, FindsNoRoom}
use Rattle.osc_life.specs.Lives.{IsLife, HasNoRoomToEnrol, AreShares, IsUnder, HasPlayedUnder, LivesUnder}
use Rattle.osc_life.specs.Works.{IsDone, caller_of, work_of, caller_in, end_in}
use Rattle.osc_life.proofs.Balance.{StaysSound}
use Rattle.osc_life.proofs.After.{IsWithin, within_seen, nothing_after}
use Rattle.osc_life.proofs.Ending.{OpensSound, known_joined, all_split, closed_so, within_olds, within_told, stands, stands_alone}
use Rattle.osc_life.proofs.Enrolling.{init_same, names_push}
use Rattle.osc_life.proofs.Learning.{HasHeard}
use Rattle.osc_life.proofs.Sharing.{Carried, all_carried, none_seen, names_back, shares}
use Rattle.osc_life.proofs.Enrolments.{all_of_tokens}

last_same : {X : Type 0} (xs ys : List X) (x y : X) → xs ++ x ∷ [] ≡ ys ++ y ∷ [] → x ≡ y
last_same [] [] x y e = let head : x ≡ y = cc in head
last_same [] (b ∷ ys) x y e = absurd (omega (arith, ap length e, length-append ys (y ∷ [])))
last_same (a ∷ xs) [] x y e = absurd (omega (arith, ap length e, length-append xs (x ∷ [])))
last_same (a ∷ xs) (b ∷ ys) x y e = let tail : xs ++ x ∷ [] ≡ ys ++ y ∷ [] = cc in last_same xs ys x y tail

name : Caller → ℕ × ℕ
name caller = (caller.number, number_of (view caller.pass))

-- callers who are numbered from one on, and the last of them
names_front : (callers : List Caller) (last : Caller) (next count : ℕ) → count ≡ suc (length callers)
    → names_of (callers ++ last ∷ []) ≡ same_names next count
    → (names_of callers ≡ same_names next (length callers))
    × (◌≡◌ {A = ℕ × ℕ} (last.number, number_of (view last.pass)) (next + length callers, next + length callers))
names_front callers last next count is named =
    let k = length callers in
    let all : names_of callers ++ (last.number, number_of (view last.pass)) ∷ [] ≡ same_names next k ++ (next + k, next + k) ∷ [] =
    sym (map-append (λ (caller : Caller). (caller.number, number_of (view caller.pass))) callers (last ∷ []))
    ∙ named ∙ ap (same_names next) is ∙ sym (names_push next k) in (
      init_same (names_of callers) (same_names next k) (last.number, number_of (view last.pass)) (next + k, next + k) all,
      last_same (names_of callers) (same_names next k) (last.number, number_of (view last.pass)) (next + k, next + k) all,
    )

-- where caller 0 could enrol no one, there was no room for it
pub full_under : (caps : Limits) (past : List (List ℕ)) (v0 v : View) (olds enrolled : List Caller) → AreOld past olds → v0.made ≡ 1 + length olds
    → (bytes : List ℕ) (kept : List Told) (first : Caller) → first.number ≡ 0 → Stays v (view first.pass) → (made : ℕ)
    → IsCrewFrom v0.made (history_of v0) made v enrolled → (why : EnrolRefusal) → FindsNoRoom caps v why → (guests : List Guest)
    → Closes caps past (known (first ∷ (olds ++ enrolled))) (views_of (first ∷ (olds ++ enrolled)) guests) bytes kept
    → (room : Room) × (refusal_of why ≡ record_full room)
full_under caps past v0 v olds enrolled old next_is bytes kept first zero_is on made crew why refused guests closes =
    let crew_is : IsCrewFrom (1 + length olds) (history_of v0) made v enrolled =
    subst (λ (n : ℕ). IsCrewFrom n (history_of v0) made v enrolled) next_is crew in
    let all = stands_alone caps past (history_of v0) made first v olds enrolled on zero_is old crew_is guests closes in
    let full = refused all.0.0.alone in (full.0, full.1)

module _ {P E X F : Type 0} (plays : P → E → Holder → List Seen → List Seen → Type 0) (ends : X → X → F → Holder → List (List Seen) → View → View → Type 0)
    (caps : Limits) (past : List (List ℕ)) (stays_sound : StaysSound) (opens : OpensSound) (v0 v : View) (olds enrolled : List Caller)
    (old : AreOld past olds) (next_is : v0.made ≡ 1 + length olds) (begun : StartsWith v.seen v0.seen) (before after : X) (bytes : List ℕ) (kept : List Told)
    (works : List P) (played : Played P E) (end : Option F) (first : Caller) (zero_is : first.number ≡ 0) (on : Stays v (view first.pass)) where
  -- all works were played, and something else
  pub under_each : (made : ℕ) → IsCrewFrom v0.made (history_of v0) made v enrolled → (jobs : List (Job P)) (all : List (Done E)) (own0 own1 : Caller) (how : F)
      → names_of (map caller_of jobs ++ own0 ∷ []) ≡ names_of enrolled → length enrolled ≡ suc (length jobs)
      → AllByRecursion IsSilent (map caller_of jobs ++ own0 ∷ []) → AllByRecursion (HasSeen v.seen) (map caller_of jobs ++ own0 ∷ [])
      → AllZip (IsDone plays caps) jobs all → holder_of caps own1 ≡ holder_of caps own0 → StartsWith (seen_by own1) (seen_by own0)
      → StartsWith (seen_by own1) (seen_by first)
      → All (λ one. StartsWith (seen_by own1) one.1.seen) (known (map caller_in all))
      → ends before after how (holder_of caps own0) (map seen_by (map caller_in all)) (view own0.pass) (view own1.pass)
      → (closes : Closes caps past (known (first ∷ (olds ++ (map caller_in all ++ own1 ∷ [])))) (views_of (first ∷ (olds ++ (map caller_in all ++ own1 ∷ []))) [])
      bytes kept)
      → ((history : List Seen) → AreShares plays caps (own 0 history) history v0.made (map work_of jobs) (map end_in all) (map seen_by (map caller_in all))
      → IsUnder ends (holder_at caps (v0.made + length jobs)) (own 0 history) history (map seen_by (map caller_in all)) before after how
      → HasPlayedUnder plays ends caps v0.made (length enrolled) history works before after played end)
      → LivesUnder plays ends caps past v0 works before after bytes kept played end
  under_each made crew jobs all own0 own1 how named many silent has zip holder longer knows_first told ended closes so =
      let mine = map caller_in all in
      let others = mine ++ own1 ∷ [] in
      let met = map caller_of jobs ++ own0 ∷ [] in
      let tokens = map seen_by mine in
      let history = closes.history in
      let there = seen_by own1 in
      let crew_is : IsCrewFrom (1 + length olds) (history_of v0) made v enrolled =
      subst (λ (n : ℕ). IsCrewFrom n (history_of v0) made v enrolled) next_is crew in
      let back : names_of others ≡ names_of met =
      map-append (λ (caller : Caller). (caller.number, number_of (view caller.pass))) mine (own1 ∷ [])
      ∙ (λ i. names_back plays caps jobs all zip i
      ++ ((ap (λ (h : Holder). h.caller) holder) i, (ap (λ (h : Holder). h.token) holder) i) ∷ [])
      ∙ sym (map-append (λ (caller : Caller). (caller.number, number_of (view caller.pass))) (map caller_of jobs) (own0 ∷ [])) in
      let both =
      stands caps past (history_of v0) made first v olds enrolled on zero_is old crew_is others [] (back ∙ named)
      (λ log starts there. none_seen v.seen met others back silent has) closes in
      let carried = all_carried (first ∷ (olds ++ others)) [] closes in
      let split = (all_split (Carried history) olds others carried.1).1 in
      let parts = all_split (Carried history) mine (own1 ∷ []) split in
      let numbered : names_of met ≡ same_names v0.made (length enrolled) = named ∙ (crew.alone both.0.alone).1 in
      let front =
      names_front (map caller_of jobs) own0 v0.made (length enrolled) (many ∙ ap suc (sym (length-map jobs caller_of))) numbered in
      let count : length (map caller_of jobs) ≡ length jobs = length-map jobs caller_of in
      let silents = all_split IsSilent (map caller_of jobs) (own0 ∷ []) silent in
      let seens = all_split (HasSeen v.seen) (map caller_of jobs) (own0 ∷ []) has in
      let own_first : own 0 history ≡ v.seen = both.0.owned ∙ both.0.alone in
      let shared =
      shares plays caps v.seen history v0.made jobs all (front.0 ∙ ap (same_names v0.made) count) silents.0 seens.0 zip parts.0 in
      let at : holder_of caps own0 ≡ holder_at caps (v0.made + length jobs) =
      λ i. record {
        caps = caps;
        token = (ap (λ (p : ℕ × ℕ). p.1) front.1 ∙ ap (λ (n : ℕ). v0.made + n) count) i;
        caller = (ap (λ (p : ℕ × ℕ). p.0) front.1 ∙ ap (λ (n : ℕ). v0.made + n) count) i;
      } in
      let heard = recursion_from_All (HasHeard there) (known mine) told in
      let within : AllByRecursion (IsWithin history there) (known (first ∷ (olds ++ others))) = (
        within_seen history there (first.number, view first.pass) knows_first carried.0.1,
        subst (AllByRecursion (IsWithin history there)) (sym (known_joined olds others))
            (all_append (IsWithin history there) (known olds) (known others) (within_olds history there olds both.1)
            (within_told history there others split
            (subst (AllByRecursion (HasHeard there)) (sym (known_joined mine (own1 ∷ [])))
            (all_append (HasHeard there) (known mine) (known (own1 ∷ [])) heard (starts_here there, tt))))),
      ) in
      let whole : there ≡ history =
      sym (nothing_after (known (first ∷ (olds ++ others))) there history parts.1.0.0 within (all_of_tokens closes)) in
      record {
        history = history;
        callers = length enrolled;
        goes_on = subst (λ (l : List Seen). StartsWith l v0.seen) (sym (both.0.owned ∙ both.0.alone)) begun;
        stage = subst (λ (n : ℕ). IsLife caps past (history_of v0) n (length enrolled) history) (sym next_is) both.0.stage;
        closed = closed_so stays_sound opens closes;
        played_so = so history
            (subst (λ (l : List Seen). AreShares plays caps l history v0.made (map work_of jobs) (map end_in all) tokens) (sym own_first) shared)
            (record {
              start = view own0.pass;
              last = view own1.pass;
              comes_after = subst (StartsWith (seen_by own0)) (sym own_first) seens.1.0;
              fresh = subst (λ (n : ℕ). own n (seen_by own0) ≡ []) (ap (λ (h : Holder). h.token) at) silents.1.0;
              ended = subst (λ (h : Holder). ends before after how h tokens (view own0.pass) (view own1.pass)) at ended;
              whole = whole;
            });
      }

  -- there was no room for an enrolment
  pub under_none : (made : ℕ) → IsCrewFrom v0.made (history_of v0) made v enrolled → (why : EnrolRefusal) → FindsNoRoom caps v why → (guests : List Guest)
      → (closes : Closes caps past (known (first ∷ (olds ++ enrolled))) (views_of (first ∷ (olds ++ enrolled)) guests) bytes kept)
      → (room : Room) × (refusal_of why ≡ record_full room)
      × (((history : List Seen) → HasNoRoomToEnrol caps history room
      → HasPlayedUnder plays ends caps v0.made (length enrolled) history works before after played end)
      → LivesUnder plays ends caps past v0 works before after bytes kept played end)
  under_none made crew why refused guests closes =
      let history = closes.history in
      let crew_is : IsCrewFrom (1 + length olds) (history_of v0) made v enrolled =
      subst (λ (n : ℕ). IsCrewFrom n (history_of v0) made v enrolled) next_is crew in
      let all = stands_alone caps past (history_of v0) made first v olds enrolled on zero_is old crew_is guests closes in
      let full = refused all.0.0.alone in (
        full.0,
        full.1,
        λ so. record {
          history = history;
          callers = length enrolled;
          goes_on = subst (λ (l : List Seen). StartsWith l v0.seen) (sym (all.0.0.owned ∙ all.0.0.alone)) begun;
          stage = subst (λ (n : ℕ). IsLife caps past (history_of v0) n (length enrolled) history) (sym next_is) all.0.0.stage;
          closed = closed_so stays_sound opens closes;
          played_so = so history (full.2 ∙ ap (λ (l : List Seen). (stepped_in (performance_in caps (texts l)) enrol).answer) (sym all.2), all.1);
        },
      )
