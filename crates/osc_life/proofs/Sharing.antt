-- From what the workers' tokens have seen to the one history.
use Rattle.std.proofs.Common.{◌≡◌, ℕ, ◌+◌, List, [], ◌∷◌, ◌++◌, length, map, refl, sym, ap, subst, ◌∙◌}
use Rattle.std.specs.List.{AllByRecursion, AllZip}
use Rattle.std.proofs.lemmas.List.Elements.{recursion_from_All}
use Rattle.osc_model.specs.Limits.{Limits}
use Rattle.osc_model.specs.Heard.{Told}
use Rattle.osc_turn.specs.declared.view.Entry.{Entry as Seen}
use Rattle.osc_turn.specs.declared.view.View.{View}
use Rattle.osc_turn.specs.History.{StartsWith, own}
use Rattle.osc_turn.specs.Rule.{number_of}
use Rattle.osc_turn.specs.Passes.{view}
use Rattle.osc_turn.proofs.Histories.{none_begun}
use Rattle.osc_live.specs.declared.caller.Caller.{Caller}
use Rattle.osc_live.specs.declared.guest.Guest.{Guest}
use Rattle.osc_live.specs.Closing.{known, views_of, Closes}
use Rattle.osc_life.specs.declared.worker.Job.{Job}
use Rattle.osc_life.specs.declared.worker.Done.{Done}
use Rattle.osc_life.specs.Holders.{Holder, seen_by, holder_of, holder_at}
use Rattle.osc_life.specs.Crews.{names_of, same_names, IsSilent, HasSeen}
use Rattle.osc_life.specs.Lives.{AreShares}
use Rattle.osc_life.specs.Works.{IsDone, HasShare, caller_of, work_of, caller_in, end_in}

-- the history begins with what the token has seen, and has no further entry of it
abbrev pub Carried : List Seen → Caller → Type 0
Carried history caller = StartsWith history (seen_by caller)
    × (own (number_of (view caller.pass)) history ≡ own (number_of (view caller.pass)) (seen_by caller))

abbrev views : List Caller → List View
views callers = map (λ (caller : Caller). view caller.pass) callers

module _ (history : List Seen) where
  carried_each : (callers : List Caller) (more : List View) → AllByRecursion (λ v. StartsWith history v.seen) (views callers ++ more)
      → AllByRecursion (λ v. own (number_of v) history ≡ own (number_of v) v.seen) (views callers ++ more) → AllByRecursion (Carried history) callers
  carried_each [] more starts owned = tt
  carried_each (caller ∷ callers) more starts owned = ((starts.0, owned.0), carried_each callers more starts.1 owned.1)

-- the history of a close begins with what each caller has seen, and has no further entry of it
pub all_carried : {caps : Limits} {past : List (List ℕ)} {knows : List (ℕ × View)} {bytes : List ℕ} {kept : List Told} (callers : List Caller)
    (guests : List Guest) (closes : Closes caps past knows (views_of callers guests) bytes kept) → AllByRecursion (Carried closes.history) callers
all_carried callers guests closes =
    carried_each closes.history callers (map (λ (guest : Guest). view guest.pass) guests)
    (recursion_from_All (λ v. StartsWith closes.history v.seen) (views_of callers guests) closes.carried)
    (recursion_from_All (λ v. own (number_of v) closes.history ≡ own (number_of v) v.seen) (views_of callers guests) closes.owned)

-- What was silent before stays so.

pub silent_then : (history : List Seen) (callers : List Caller) → AllByRecursion IsSilent callers → AllByRecursion (Carried history) callers
    → AllByRecursion (λ other. own (number_of other.1) history ≡ []) (known callers)
silent_then history [] silent carried = tt
silent_then history (caller ∷ callers) silent carried = (carried.0.1 ∙ silent.0, silent_then history callers silent.1 carried.1)

pub silent_before : (history seen : List Seen) → StartsWith history seen → (knows : List (ℕ × View))
    → AllByRecursion (λ other. own (number_of other.1) history ≡ []) knows → AllByRecursion (λ other. own (number_of other.1) seen ≡ []) knows
silent_before history seen starts [] none = tt
silent_before history seen starts (one ∷ knows) none =
    (none_begun (number_of one.1) history seen starts none.0, silent_before history seen starts knows none.1)

-- callers that had no entries have none in what all of them had seen
pub none_seen : (seen : List Seen) (before after : List Caller) → names_of after ≡ names_of before → AllByRecursion IsSilent before
    → AllByRecursion (HasSeen seen) before → AllByRecursion (λ other. own (number_of other.1) seen ≡ []) (known after)
none_seen seen [] [] named silent has = tt
none_seen seen [] (caller ∷ after) named silent has = absurd (cc)
none_seen seen (caller ∷ before) [] named silent has = absurd (cc)
none_seen seen (caller ∷ before) (other ∷ after) named silent has =
    let head : ◌≡◌ {A = ℕ × ℕ} (other.number, number_of (view other.pass)) (caller.number, number_of (view caller.pass)) = cc in
    let rest : names_of after ≡ names_of before = cc in (
      subst (λ (n : ℕ). own n seen ≡ []) (sym (ap (λ (p : ℕ × ℕ). p.1) head))
          (none_begun (number_of (view caller.pass)) (seen_by caller) seen has.0 silent.0),
      none_seen seen before after rest silent.1 has.1,
    )

module _ {P E : Type 0} (plays : P → E → Holder → List Seen → List Seen → Type 0) (caps : Limits) where
  -- the callers that come back have the names of the jobs'
  pub names_back : (jobs : List (Job P)) (all : List (Done E)) → AllZip (IsDone plays caps) jobs all
      → names_of (map caller_in all) ≡ names_of (map caller_of jobs)
  names_back [] [] zip = refl
  names_back [] (done ∷ all) zip = absurd zip
  names_back (job ∷ jobs) [] zip = absurd zip
  names_back (job ∷ jobs) (done ∷ all) zip =
      λ i. ((ap (λ (p : Holder). p.caller) zip.0.holder) i, (ap (λ (p : Holder). p.token) zip.0.holder) i) ∷ names_back jobs all zip.1 i

  module _ (first history : List Seen) where
    share : (number : ℕ) (job : Job P) (done : Done E)
        → ◌≡◌ {A = ℕ × ℕ} (job.caller.number, number_of (view job.caller.pass)) (number, number) → IsSilent job.caller → HasSeen first job.caller
        → IsDone plays caps job done → Carried history done.caller
        → HasShare plays (holder_at caps number) first history job.work done.end (seen_by done.caller)
    share number job done name silent has is carried =
        let holder : holder_of caps job.caller ≡ holder_at caps number =
        λ i. record { caps = caps; token = (ap (λ (n : ℕ × ℕ). n.1) name) i; caller = (ap (λ (n : ℕ × ℕ). n.0) name) i } in
        let token : number_of (view done.caller.pass) ≡ number_of (view job.caller.pass) = ap (λ (p : Holder). p.token) is.holder in
        subst (λ (p : Holder). HasShare plays p first history job.work done.end (seen_by done.caller)) holder
        (record {
          here = seen_by job.caller;
          comes_after = has;
          fresh = silent;
          played = is.played;
          onward = (carried.0, subst (λ (n : ℕ). own n history ≡ own n (seen_by done.caller)) token carried.1);
        })

    pub shares : (next : ℕ) (jobs : List (Job P)) (all : List (Done E)) → names_of (map caller_of jobs) ≡ same_names next (length jobs)
        → AllByRecursion IsSilent (map caller_of jobs) → AllByRecursion (HasSeen first) (map caller_of jobs) → AllZip (IsDone plays caps) jobs all
        → AllByRecursion (Carried history) (map caller_in all)
        → AreShares plays caps first history next (map work_of jobs) (map end_in all) (map seen_by (map caller_in all))
    shares next [] [] named silent has zip carried = tt
    shares next [] (done ∷ all) named silent has zip carried = absurd zip
    shares next (job ∷ jobs) [] named silent has zip carried = absurd zip
    shares next (job ∷ jobs) (done ∷ all) named silent has zip carried =
        let head : ◌≡◌ {A = ℕ × ℕ} (job.caller.number, number_of (view job.caller.pass)) (next, next) = cc in
        let rest : names_of (map caller_of jobs) ≡ same_names (next + 1) (length jobs) = cc in
        (share next job done head silent.0 has.0 zip.0 carried.0, shares (next + 1) jobs all rest silent.1 has.1 zip.1 carried.1)
