-- How a life is finished: what is handed in, and who knows what.
use Rattle.std.proofs.Common.{◌≡◌, ℕ, List, [], ◌∷◌, ◌++◌, length, map, All, refl, sym, ap, subst, ◌∙◌}
use Rattle.std.specs.List.{AllByRecursion}
use Rattle.std.proofs.lemmas.List.{length-map}
use Rattle.std.proofs.lemmas.List.Elements.{All-from_recursion, recursion_from_All}
use Rattle.osc_method.specs.declared.method.Method.{Ghosts}
use Rattle.osc_model.specs.Limits.{Limits}
use Rattle.osc_model.specs.Heard.{Told}
use Rattle.osc_turn.specs.declared.view.Entry.{Entry as Seen}
use Rattle.osc_turn.specs.declared.view.View.{View}
use Rattle.osc_turn.specs.History.{StartsWith}
use Rattle.osc_turn.specs.Rule.{number_of}
use Rattle.osc_turn.specs.Passes.{view}
use Rattle.osc_live.specs.declared.caller.Caller.{Caller}
use Rattle.osc_live.specs.declared.guest.Guest.{Guest}
use Rattle.osc_live.specs.declared.live.Live.{Live}
use Rattle.osc_live.specs.Closing.{known, views_of, Closes}
use Rattle.osc_live.specs.Tokens.{IsOurs}
use Rattle.osc_life.specs.declared.worker.Job.{Job}
use Rattle.osc_life.specs.Crews.{names_of}
use Rattle.osc_life.specs.Holders.{Holder, Learns, holder_of, holder_at, seen_by}
use Rattle.osc_life.specs.Works.{CanPlay, IsOver, caller_of, work_of}
use Rattle.osc_life.proofs.Ending.{Finishes, known_joined}
use Rattle.osc_life.proofs.Learning.{HasHeard}

-- as many callers who know the same
pub known_many : (these those : List Caller) → known these ≡ known those → length these ≡ length those
known_many these those is =
    let know : Caller → ℕ × View = λ caller. (caller.number, view caller.pass) in
    sym (length-map these know) ∙ ap length is ∙ length-map those know

-- as many callers with the same names
pub names_many : (these those : List Caller) → names_of these ≡ names_of those → length these ≡ length those
names_many these those is =
    let name : Caller → ℕ × ℕ = λ caller. (caller.number, number_of (view caller.pass)) in
    sym (length-map these name) ∙ ap length is ∙ length-map those name

views_known : (callers : List Caller) → map (λ caller. view caller.pass) callers ≡ map (λ one. one.1) (known callers)
views_known [] = refl
views_known (caller ∷ callers) = ap (λ (l : List View). view caller.pass ∷ l) (views_known callers)

-- who knows the same has the same views
same_views : (these those : List Caller) (guests : List Guest) → known these ≡ known those → views_of these guests ≡ views_of those guests
same_views these those guests is =
    ap (λ (l : List View). l ++ map (λ (guest : Guest). view guest.pass) guests)
    (views_known these ∙ ap (map (λ (one : ℕ × View). one.1)) is ∙ sym (views_known those))

-- a close with other callers who know the same
pub closed_with : (caps : Limits) (past : List (List ℕ)) (last : Caller) (others crew callers : List Caller) (guests : List Guest) (bytes : List ℕ) (kept : List Told)
    → known crew ≡ known callers → Closes caps past (known (last ∷ (others ++ crew))) (views_of (last ∷ (others ++ crew)) guests) bytes kept
    → Closes caps past (known (last ∷ (others ++ callers))) (views_of (last ∷ (others ++ callers)) guests) bytes kept
closed_with caps past last others crew callers guests bytes kept same closes =
    let is : known (last ∷ (others ++ crew)) ≡ known (last ∷ (others ++ callers)) =
    ap (λ (l : List (ℕ × View)). (last.number, view last.pass) ∷ l)
    (known_joined others crew ∙ ap (λ (l : List (ℕ × View)). known others ++ l) same ∙ sym (known_joined others callers)) in
    subst (λ (q : List (ℕ × View) × List View). Closes caps past q.0 q.1 bytes kept)
    (λ i. (is i, same_views (last ∷ (others ++ crew)) (last ∷ (others ++ callers)) guests is i)) closes

seen_told : (seen : List Seen) (callers : List Caller) → AllByRecursion (HasHeard seen) (known callers)
    → AllByRecursion (StartsWith seen) (map seen_by callers)
seen_told seen [] told = tt
seen_told seen (caller ∷ callers) told = (told.0, seen_told seen callers told.1)

-- what was told of each is a beginning of what is seen
pub all_told : (seen : List Seen) (crew callers : List Caller) → known crew ≡ known callers → All (λ other. StartsWith seen other.1.seen) (known crew)
    → All (StartsWith seen) (map seen_by callers)
all_told seen crew callers same told =
    All-from_recursion (StartsWith seen) (map seen_by callers)
    (seen_told seen callers (recursion_from_All (HasHeard seen) (known callers) (subst (All (HasHeard seen)) same told)))

-- who was told of others holds the same token
pub same_holder : (caps : Limits) (first next : Caller) → next.number ≡ first.number → Learns (view first.pass) (view next.pass)
    → holder_of caps next ≡ holder_of caps first
same_holder caps first next number learns = λ i. record { caps = caps; token = ap number_of learns.same i; caller = number i }

-- caller 0 holds the first token
pub zeroth : (caps : Limits) (first : Caller) → first.number ≡ 0 → number_of (view first.pass) ≡ 0 → holder_of caps first ≡ holder_at caps 0
zeroth caps first number token = λ i. record { caps = caps; token = token i; caller = number i }

module _ {M : Type 0} {G : Ghosts M} (live : Live M G) {P : Type 0} (ready : P → Type 0) where
  each_playable : (jobs : List (Job P)) → AllByRecursion (IsOurs live) (map caller_of jobs) → AllByRecursion ready (map work_of jobs)
      → AllByRecursion (CanPlay live ready) jobs
  each_playable [] ours can = tt
  each_playable (job ∷ jobs) ours can = (record { ours = ours.0; is_ready = can.0 }, each_playable jobs ours.1 can.1)

  -- jobs of these callers and works can be played
  pub all_playable : (jobs : List (Job P)) (callers : List Caller) (works : List P) → map caller_of jobs ≡ callers → map work_of jobs ≡ works
      → All (IsOurs live) callers → All ready works → All (CanPlay live ready) jobs
  all_playable jobs callers works callers_are works_are ours can =
      All-from_recursion (CanPlay live ready) jobs
      (each_playable jobs (recursion_from_All (IsOurs live) (map caller_of jobs) (subst (All (IsOurs live)) (sym callers_are) ours))
      (recursion_from_All ready (map work_of jobs) (subst (All ready) (sym works_are) can)))

module _ {M : Type 0} {G : Ghosts M} (live : Live M G) {X T F : Type 0} (rounds : X → X → T → Holder → View → View → Type 0)
    (ends : X → X → F → Holder → List (List Seen) → View → View → Type 0) (past : List (List ℕ)) (on after : X) (state : T) (end : F) (caller last : Caller)
    (others back olds : List Caller) (guests : List Guest) (bytes : List ℕ) (kept : List Told) where
  -- a server was closed after the last round of caller 0
  pub finishes : caller.number ≡ 0 → holder_of live.caps caller ≡ holder_at live.caps 0
      → IsOver live rounds ends on after state end caller last others back → (before : X) (v : View)
      → rounds before on state (holder_at live.caps 0) v (view caller.pass)
      → Closes live.caps past (known (last ∷ (olds ++ back))) (views_of (last ∷ (olds ++ back)) guests) bytes kept
      → Finishes (λ w. ends before after end (holder_at live.caps 0) (map seen_by others) v w) live.caps past olds others guests bytes kept
  finishes number zero over before v played closes = record {
    last = last;
    number = ap (λ (h : Holder). h.caller) over.holder ∙ number;
    ended = subst (λ (h : Holder). ends before after end h (map seen_by others) v (view last.pass)) zero
        (over.ended before v (subst (λ (h : Holder). rounds before on state h v (view caller.pass)) (sym zero) played));
    told = over.told;
    closes = closed_with live.caps past last olds back others guests bytes kept over.same closes;
  }
