-- Entries that are played again, one after another.
use Rattle.std.proofs.Common.{◌≢◌, ◌⊎◌, inl, inr, ne_eqb, ◌≡◌, ℕ, zero, suc, ◌+◌, ◌<◌, ◌≤◌, ◌==◌, Bool, true, false, not, cond, List, [], ◌∷◌, ◌++◌, length}
use Rattle.std.proofs.Common.{map, drop, filter, Option, Some, None}
use Rattle.std.proofs.Common.{append_assoc, refl, sym, ap, subst, ◌∙◌, arith, is_some}
use Rattle.std.specs.Prelude.{slice_get}
use Rattle.std.proofs.lemmas.List.Sums.{sum_by-cons, sum_by-append, sum_by_push}
use Rattle.std.specs.List.{AllByRecursion, Contains, cons_option}
use Rattle.std.proofs.lemmas.List.{map-append, append-nil, length-drop}
use Rattle.std.proofs.lemmas.List.Elements.{filter_map-append, Contains-append_left, Contains-append_right}
use Rattle.osc_tree.proofs.Lists.{contains_later}
use mathlib.Core.Logic.{dite}
use native.Mathlib.Decide.{ℕ_discrete, dec_le}
use Rattle.osc_method.specs.Heard.{Fixed, after_call}
use Rattle.osc_model.specs.Limits.{Limits}
use Rattle.osc_model.specs.State.{State, opening}
use Rattle.osc_model.specs.Events.{Event, enrol, submit, add, remove, tick, release, Answer, number, queued, added, removed, ticked, record_full, Entry}
use Rattle.osc_model.specs.Events.{Invocation, is_added, is_removed}
use Rattle.osc_model.specs.Heard.{Told, bytes_of, reset, hear, hear_all, all_hear, without_id}
use Rattle.osc_packet.specs.Reading.{units_read}
use Rattle.osc_model.specs.Refusals.{IsRefusal}
use Rattle.osc_model.specs.Step.{Stepped, step, leaves, late_count, after_submit}
use Rattle.osc_model.specs.History.{IsLawful, LegalFrom, Legal, Performance, after, state_of, stepped_in, invoked_in, HasHeard, HaveHeard}
use Rattle.osc_model.proofs.Boxes.{same_id}
use Rattle.osc_model.proofs.Onward.{legal_split}
use Rattle.osc_model.proofs.Stepping.{step_so, decided_so}
use Rattle.osc_tree.proofs.Lists.{all_filter}
use Rattle.osc_core.specs.Redoing.{Redoes, HandsIn, with_entry, told_as}
use Rattle.osc_core.specs.Standing.{mark_of}
use Rattle.osc_live.specs.Resuming.{needed_by, takes_box, added_in, removed_id, HasMarkOf}
use Rattle.osc_live.specs.Redone.{Takes, Moves, TellsMarkOf, HeardTill, IsRedone}

-- What is handed in.

pub handed : {M : Type 0} (event : Event) (answer : Answer) (address : Option (List ℕ)) (given : Option M) (bank rest : List M)
    → address ≡ needed_by event answer → Takes (takes_box event answer) given bank rest → HandsIn event answer address given
handed {M} (add bytes) answer address given bank rest is takes = go (is_added answer) is takes where
  go : (t : Bool) → address ≡ cond t (Some bytes) None → Takes t given bank rest
      → cond t ((address ≡ Some bytes) × (is_some given ≡ true)) ((address ≡ None) × (given ≡ None))
  go true is takes = (is, ap is_some takes.1)
  go false is takes = (is, takes.0)
handed {M} (remove bytes) answer address given bank rest is takes = (go (is_removed answer) is, takes.0) where
  go : (t : Bool) → address ≡ cond t (Some bytes) None → cond t (address ≡ Some bytes) (address ≡ None)
  go true is = is
  go false is = is
handed enrol answer address given bank rest is takes = (is, takes.0)
handed (submit packet) answer address given bank rest is takes = (is, takes.0)
handed (tick now) answer address given bank rest is takes = (is, takes.0)
handed release answer address given bank rest is takes = (is, takes.0)

-- What comes of it.

module _ {M : Type 0} (keep : M → Fixed) (heard : M → Option (List ℕ)) where
  -- only a removed method's box comes out
  pub out_removed : (event : Event) (answer : Answer) (calls : List Invocation) (given : Option M) (old new : List Told) (method : M)
      → Redoes keep heard event answer calls given old new (Some method) → (id : ℕ) × (answer ≡ removed id)
  out_removed (remove bytes) (removed id) calls given old new method redoes = (id, refl)
  out_removed (remove bytes) answer calls given old new method redoes = absurd (cc)
  out_removed (add bytes) answer calls given old new method redoes = let none = redoes.1 in absurd (cc)
  out_removed enrol answer calls given old new method redoes = let none = redoes.1 in absurd (cc)
  out_removed (submit packet) answer calls given old new method redoes = let none = redoes.1 in absurd (cc)
  out_removed (tick now) answer calls given old new method redoes = let none = redoes.1 in absurd (cc)
  out_removed release answer calls given old new method redoes = let none = redoes.1 in absurd (cc)

  taken_box : (id : ℕ) (given : Option M) (bank rest : List M) (old new : List Told) → Takes true given bank rest
      → Redoes keep heard (add []) (added id) [] given old new None
      → (method : M) × (bank ≡ method ∷ rest) × (new ≡ old ++ reset (told_as keep heard id method) ∷ [])
  taken_box id (Some method) bank rest old new takes redoes =
      let same : method ≡ takes.0 = (let e = takes.1 in cc) in
      (method, takes.2 ∙ ap (λ (m : M). m ∷ rest) (sym same), redoes.0)
  taken_box id None bank rest old new takes redoes = let none = takes.1 in absurd (cc)

  -- no box comes out
  pub moved_none : (event : Event) (answer : Answer) (calls : List Invocation) (given : Option M) (bank rest : List M) (old new : List Told)
      (out more : List (ℕ × M)) → Takes (takes_box event answer) given bank rest → Redoes keep heard event answer calls given old new None → more ≡ out
      → Moves keep heard event answer calls bank rest old new out more
  moved_none (add bytes) (added id) calls given bank rest old new out more takes redoes same = (taken_box id given bank rest old new takes redoes, same)
  moved_none (add bytes) answer calls given bank rest old new out more takes redoes same = (takes.1, redoes.0, same)
  moved_none (remove bytes) (removed id) calls given bank rest old new out more takes redoes same = absurd redoes.0
  moved_none (remove bytes) answer calls given bank rest old new out more takes redoes same = (takes.1, redoes.1, same)
  moved_none enrol answer calls given bank rest old new out more takes redoes same = (takes.1, redoes.0, same)
  moved_none (submit packet) answer calls given bank rest old new out more takes redoes same = (takes.1, redoes.0, same)
  moved_none (tick now) answer calls given bank rest old new out more takes redoes same = (takes.1, redoes.0, same)
  moved_none release answer calls given bank rest old new out more takes redoes same = (takes.1, redoes.0, same)

  -- a removed method's box comes out
  pub moved_some : (event : Event) (answer : Answer) (calls : List Invocation) (given : Option M) (bank rest : List M) (old new : List Told)
      (out more : List (ℕ × M)) (id : ℕ) (method : M) → Takes (takes_box event answer) given bank rest
      → Redoes keep heard event answer calls given old new (Some method) → answer ≡ removed id → more ≡ out ++ (id, method) ∷ []
      → Moves keep heard event answer calls bank rest old new out more
  moved_some (remove bytes) (removed other) calls given bank rest old new out more id method takes redoes is same =
      let e : id ≡ other = cc in
      (takes.1, (method, redoes.0, redoes.1, same ∙ ap (λ (n : ℕ). out ++ (n, method) ∷ []) e))
  moved_some (remove bytes) answer calls given bank rest old new out more id method takes redoes is same = absurd (cc)
  moved_some (add bytes) answer calls given bank rest old new out more id method takes redoes is same = let none = redoes.1 in absurd (cc)
  moved_some enrol answer calls given bank rest old new out more id method takes redoes is same = let none = redoes.1 in absurd (cc)
  moved_some (submit packet) answer calls given bank rest old new out more id method takes redoes is same = let none = redoes.1 in absurd (cc)
  moved_some (tick now) answer calls given bank rest old new out more id method takes redoes is same = let none = redoes.1 in absurd (cc)
  moved_some release answer calls given bank rest old new out more id method takes redoes is same = let none = redoes.1 in absurd (cc)

-- Ids are given in order, and only a removal answers that an id was removed.

-- the id whose box comes out
abbrev gives : Event → Answer → Option ℕ
gives (remove bytes) answer = removed_id answer
gives event answer = None

record IsGiven (state : State) (event : Event) (stepped : Stepped) : Type 0 where
  next : stepped.state.next_id ≡ state.next_id + cond (is_added stepped.answer) 1 0
  id : (id : ℕ) → stepped.answer ≡ added id → id ≡ state.next_id
  takes : is_added stepped.answer ≡ takes_box event stepped.answer
  left : removed_id stepped.answer ≡ gives event stepped.answer

-- one, where a test is passed
abbrev one_if : Bool → ℕ
one_if t = cond t 1 0

one_or : {s t : Bool} → s ≡ t → one_if s ≡ one_if t
one_or e = ap one_if e

-- neither adds nor removes
plain : (state then : State) (event : Event) (answer : Answer) (calls : List Invocation) → then.next_id ≡ state.next_id → is_added answer ≡ false
    → takes_box event answer ≡ false → removed_id answer ≡ None → gives event answer ≡ None
    → IsGiven state event record { answer = answer; state = then; invocations = calls }
plain state then event answer calls same none takes out left = record {
  next = omega (arith, same, one_or none);
  id = λ id is. absurd (let yes = ap is_added is in cc);
  takes = none ∙ sym takes;
  left = out ∙ sym left;
}

refusal_plain : (state : State) (event : Event) (answer : Answer) → IsRefusal answer → IsGiven state event (leaves state answer)
refusal_plain state event answer is =
    plain state state event answer [] refl (not_added answer is) (none_taken event answer (not_added answer is)) (none_out answer is)
    (none_given event answer (none_out answer is))
  where
    not_added : (answer : Answer) → IsRefusal answer → is_added answer ≡ false
    not_added (added id) is = absurd is
    not_added _ is = refl

    none_out : (answer : Answer) → IsRefusal answer → removed_id answer ≡ None
    none_out (removed id) is = absurd is
    none_out _ is = refl

    none_taken : (event : Event) (answer : Answer) → is_added answer ≡ false → takes_box event answer ≡ false
    none_taken (add bytes) answer none = none
    none_taken enrol answer none = refl
    none_taken (submit packet) answer none = refl
    none_taken (remove bytes) answer none = refl
    none_taken (tick now) answer none = refl
    none_taken release answer none = refl

    none_given : (event : Event) (answer : Answer) → removed_id answer ≡ None → gives event answer ≡ None
    none_given (remove bytes) answer none = none
    none_given enrol answer none = refl
    none_given (submit packet) answer none = refl
    none_given (add bytes) answer none = refl
    none_given (tick now) answer none = refl
    none_given release answer none = refl

given : (state : State) (event : Event) → IsGiven state event (step state event)
given state event =
    let here = decided_so (λ event stepped. IsGiven state event stepped) state event
    (record {
      refused = λ event answer is. refusal_plain state event answer is;
      enrolled = plain state (record state { callers = state.callers + 1 }) enrol (number state.callers) [] refl refl refl refl refl;
      queued = λ packet. plain state (after_submit state (units_read packet)) (submit packet)
          (queued state.next_unit (length (units_read packet)) (late_count state (units_read packet))) []
          refl refl refl refl refl;
      added = λ address. record { next = refl; id = λ id is. (let e : state.next_id ≡ id = cc in sym e); takes = refl; left = refl };
      removed = λ address id. record { next = omega arith; id = λ other is. absurd (cc); takes = refl; left = refl };
      ticked = λ now later. plain state (record state { clock = now }) (tick now) ticked [] refl refl refl refl refl;
      released = λ unit units first. record { next = omega arith; id = λ other is. absurd (cc); takes = refl; left = refl };
    }) in
    step_so (IsGiven state event) state event
    (record {
      silent = λ none. here;
      full = λ some full. refusal_plain state event (record_full (record { need = _; free = _ })) tt;
      room = λ some fits. record { next = here.next; id = here.id; takes = here.takes; left = here.left };
    })

-- so the next id is how many methods were added
pub ids_counted : (state : State) (history : List Entry) → LegalFrom state history → (after state history).next_id ≡ state.next_id + added_in history
ids_counted state [] legal = omega arith
ids_counted state (entry ∷ history) legal =
    omega (
      arith,
      ids_counted (step state entry.event).state history legal.4,
      (given state entry.event).next,
      one_or (ap is_added legal.3),
      sum_by-cons (λ (e : Entry). one_if (is_added e.answer)) entry history,
    )

added_more : (before : List Entry) (entry : Entry) → added_in (before ++ entry ∷ []) ≡ added_in before + cond (is_added entry.answer) 1 0
added_more before entry = sum_by_push (λ (e : Entry). one_if (is_added e.answer)) before entry

-- Marks.

mark_reset : (told : Told) → mark_of (reset told) ≡ mark_of told
mark_reset told = ap (λ (t : Bool). cond t (told.keep.most + 1) 0 ∷ told.keep.name) (go told.heard) where
  go : (heard : Option (List ℕ)) → is_some (reset (record told { heard = heard })).heard ≡ is_some heard
  go None = refl
  go (Some bytes) = refl

hear_mark : (told : Told) (invocation : Invocation) → mark_of (hear told invocation) ≡ mark_of told
hear_mark told invocation = go (invocation.call.id == told.id) where
  some : (heard : Option (List ℕ)) → is_some (after_call told.keep.most (bytes_of invocation) heard) ≡ is_some heard
  some None = refl
  some (Some bytes) = refl

  go : (t : Bool) → mark_of (cond t (record told { heard = after_call told.keep.most (bytes_of invocation) told.heard }) told) ≡ mark_of told
  go true = ap (λ (t : Bool). cond t (told.keep.most + 1) 0 ∷ told.keep.name) (some told.heard)
  go false = refl

hear_all_mark : (invocations : List Invocation) (told : Told) → mark_of (hear_all invocations told) ≡ mark_of told
hear_all_mark [] told = refl
hear_all_mark (invocation ∷ invocations) told = hear_all_mark invocations (hear told invocation) ∙ hear_mark told invocation

-- Lists.

pub all_has : {X : Type 0} (P : X → Type 0) (xs : List X) (x : X) → AllByRecursion P xs → Contains xs x → P x
all_has P [] x all (k, within, is) = absurd (omega arith)
all_has P (y ∷ xs) x all (zero, within, is) = subst P is all.0
all_has P (y ∷ xs) x all (suc k, within, is) = all_has P xs x all.1 (k, omega arith, is)

all_snoc : {X : Type 0} (P : X → Type 0) (xs : List X) (x : X) → AllByRecursion P xs → P x → AllByRecursion P (xs ++ x ∷ [])
all_snoc P [] x all this = (this, tt)
all_snoc P (y ∷ xs) x all this = (all.0, all_snoc P xs x all.1 this)

get_dropped : {X : Type 0} (k : ℕ) (xs rest : List X) (x : X) → drop k xs ≡ x ∷ rest → (slice_get xs k ≡ Some x) × (drop (suc k) xs ≡ rest)
get_dropped zero [] rest x e = absurd (cc)
get_dropped zero (y ∷ xs) rest x e = (let here : y ≡ x = cc in ap Some here, let there : xs ≡ rest = cc in there)
get_dropped (suc k) [] rest x e = absurd (cc)
get_dropped (suc k) (y ∷ xs) rest x e = get_dropped k xs rest x e

module _ {M : Type 0} (keep : M → Fixed) (heard : M → Option (List ℕ)) where
  marks_hear : (bank : List M) (calls : List Invocation) (boxes : List Told) → AllByRecursion (TellsMarkOf keep heard bank) boxes
      → AllByRecursion (TellsMarkOf keep heard bank) (all_hear calls boxes)
  marks_hear bank calls [] all = tt
  marks_hear bank calls (told ∷ boxes) all =
      ((all.0.0, ap (slice_get bank) (same_id calls told) ∙ all.0.1, hear_all_mark calls told ∙ all.0.2), marks_hear bank calls boxes all.1)

  -- what one entry makes of the bank, of the marks and of those that were removed, where so many methods were added before
  record Moved (event : Event) (answer : Answer) (k : ℕ) (bank less : List M) (new : List Told) (out more : List (ℕ × M)) : Type 0 where
    rest : less ≡ drop (k + cond (takes_box event answer) 1 0) bank
    marks : AllByRecursion (TellsMarkOf keep heard bank) new
    ids : map (λ one. one.0) more ≡ map (λ one. one.0) out ++ cons_option (gives event answer) []
    out_marks : AllByRecursion (HasMarkOf keep heard bank) more

  abbrev Moving : Event → Answer → Type 0
  Moving event answer = (calls : List Invocation) (k : ℕ) (bank rest less : List M) (boxes new : List Told) (out more : List (ℕ × M))
      → ((id : ℕ) → answer ≡ added id → id ≡ k) → rest ≡ drop k bank → AllByRecursion (TellsMarkOf keep heard bank) boxes
      → AllByRecursion (HasMarkOf keep heard bank) out → Moves keep heard event answer calls rest less boxes new out more
      → Moved event answer k bank less new out more

  -- nothing but what the boxes hear changes
  still : (event : Event) (answer : Answer) (k : ℕ) (bank rest less : List M) (boxes new : List Told) (out more : List (ℕ × M))
      → takes_box event answer ≡ false → gives event answer ≡ None → rest ≡ drop k bank → AllByRecursion (TellsMarkOf keep heard bank) new
      → AllByRecursion (HasMarkOf keep heard bank) out → less ≡ rest → more ≡ out → Moved event answer k bank less new out more
  still event answer k bank rest less boxes new out more none kept at marks outs same all = record {
    rest = same ∙ at ∙ ap (λ (n : ℕ). drop n bank) (let e : k ≡ k + one_if (takes_box event answer) = omega (arith, one_or none) in e);
    marks = marks;
    ids = ap (map (λ (one : ℕ × M). one.0)) all ∙ sym (append-nil (map (λ (one : ℕ × M). one.0) out))
        ∙ ap (λ (o : Option ℕ). map (λ (one : ℕ × M). one.0) out ++ cons_option o []) (sym kept);
    out_marks = subst (AllByRecursion (HasMarkOf keep heard bank)) (sym all) outs;
  }

  stays_so : (event : Event) (answer : Answer) → takes_box event answer ≡ false → gives event answer ≡ None
      → (calls : List Invocation) (k : ℕ) (bank rest less : List M) (boxes new : List Told) (out more : List (ℕ × M))
      → rest ≡ drop k bank → AllByRecursion (TellsMarkOf keep heard bank) boxes → AllByRecursion (HasMarkOf keep heard bank) out
      → (less ≡ rest) × (new ≡ boxes) × (more ≡ out) → Moved event answer k bank less new out more
  stays_so event answer none kept calls k bank rest less boxes new out more at marks outs moves =
      still event answer k bank rest less boxes new out more none kept at
      (subst (AllByRecursion (TellsMarkOf keep heard bank)) (sym moves.1) marks) outs moves.0 moves.2

  moving : (event : Event) (answer : Answer) → Moving event answer
  moving (add bytes) (added id) calls k bank rest less boxes new out more here at marks outs ((method, takes, stands), same) =
      let found = get_dropped k bank less method (sym at ∙ takes) in
      let there : slice_get bank id ≡ Some method = ap (slice_get bank) (here id refl) ∙ found.0 in
      record {
        rest = sym found.1 ∙ ap (λ (n : ℕ). drop n bank) (let e : suc k ≡ k + 1 = omega arith in e);
        marks = subst (AllByRecursion (TellsMarkOf keep heard bank)) (sym stands)
            (all_snoc (TellsMarkOf keep heard bank) boxes (reset (told_as keep heard id method)) marks
            (method, there, mark_reset (told_as keep heard id method)));
        ids = ap (map (λ (one : ℕ × M). one.0)) same ∙ sym (append-nil (map (λ (one : ℕ × M). one.0) out));
        out_marks = subst (AllByRecursion (HasMarkOf keep heard bank)) (sym same) outs;
      }
  moving (add bytes) answer calls k bank rest less boxes new out more here at marks outs moves =
      stays_so (add bytes) answer refl refl calls k bank rest less boxes new out more at marks outs moves
  moving (remove bytes) (removed id) calls k bank rest less boxes new out more here at marks outs (kept, (method, held, left, gone)) = record {
    rest = kept ∙ at ∙ ap (λ (n : ℕ). drop n bank) (let e : k ≡ k + 0 = omega arith in e);
    marks = subst (AllByRecursion (TellsMarkOf keep heard bank)) (sym left)
        (all_filter (TellsMarkOf keep heard bank) (λ (told : Told). not (told.id == id)) boxes marks);
    ids = ap (map (λ (one : ℕ × M). one.0)) gone ∙ map-append (λ (one : ℕ × M). one.0) out ((id, method) ∷ []);
    out_marks = subst (AllByRecursion (HasMarkOf keep heard bank)) (sym gone)
        (all_snoc (HasMarkOf keep heard bank) out (id, method) outs
        (all_has (TellsMarkOf keep heard bank) boxes (told_as keep heard id method) marks held));
  }
  moving (remove bytes) answer calls k bank rest less boxes new out more here at marks outs moves =
      stays_so (remove bytes) answer refl refl calls k bank rest less boxes new out more at marks outs moves
  moving enrol answer calls k bank rest less boxes new out more here at marks outs moves =
      stays_so enrol answer refl refl calls k bank rest less boxes new out more at marks outs moves
  moving (submit packet) answer calls k bank rest less boxes new out more here at marks outs moves =
      stays_so (submit packet) answer refl refl calls k bank rest less boxes new out more at marks outs moves
  moving (tick now) answer calls k bank rest less boxes new out more here at marks outs moves =
      stays_so (tick now) answer refl refl calls k bank rest less boxes new out more at marks outs moves
  moving release answer calls k bank rest less boxes new out more here at marks outs (kept, hears, same) =
      still release answer k bank rest less boxes new out more refl refl at
      (subst (AllByRecursion (TellsMarkOf keep heard bank)) (sym hears) (marks_hear bank calls boxes marks)) outs kept same

  -- no entry is played yet
  pub redone_none : (caps : Limits) (history : List Entry) (bank : List M) (performance : Performance) (boxes : List Told)
      (out : List (ℕ × M)) → performance.caps ≡ caps → performance.history ≡ [] → boxes ≡ [] → out ≡ []
      → IsRedone keep heard caps history bank history performance boxes bank out
  redone_none caps history bank performance boxes out limits none bare nothing = record {
    before = [];
    all = refl;
    played = λ i. record { caps = limits i; history = none i };
    rest_is = refl;
    marks = subst (AllByRecursion (TellsMarkOf keep heard bank)) (sym bare) tt;
    covers = λ id below. absurd (let none : added_in [] ≡ 0 = refl in omega arith);
    out_ids = ap (map (λ (one : ℕ × M). one.0)) nothing;
    out_marks = subst (AllByRecursion (HasMarkOf keep heard bank)) (sym nothing) tt;
    out_heard = subst (AllByRecursion (HeardTill keep heard caps [])) (sym nothing) tt;
  }

  -- what the next entry is on the server that played those before it
  pub next_is : (caps : Limits) (history : List Entry) (bank : List M) (entry : Entry) (left : List Entry) (performance : Performance) (boxes : List Told)
      (rest : List M) (out : List (ℕ × M)) → Legal caps history
      → (is : IsRedone keep heard caps history bank (entry ∷ left) performance boxes rest out)
      → LegalFrom (after (opening performance.caps) performance.history) (entry ∷ left) × (added_in is.before + added_in (entry ∷ left) ≡ added_in history)
  next_is caps history bank entry left performance boxes rest out legal is = (
    subst (λ (p : Performance). LegalFrom (after (opening p.caps) p.history) (entry ∷ left)) (sym is.played)
        (legal_split (opening caps) is.before (entry ∷ left) (subst (LegalFrom (opening caps)) is.all legal.1)).1,
    sym (ap added_in is.all ∙ sum_by-append (λ (e : Entry). one_if (is_added e.answer)) is.before (entry ∷ left)),
  )

  -- what holds of each box that was removed, where it holds of one that leaves
  outs_more : (P : ℕ × M → Type 0) (event : Event) (answer : Answer) (calls : List Invocation) (rest less : List M) (boxes new : List Told)
      (out more : List (ℕ × M)) → Moves keep heard event answer calls rest less boxes new out more
      → ((id : ℕ) (method : M) → answer ≡ removed id → Contains boxes (told_as keep heard id method) → P (id, method)) → AllByRecursion P out
      → AllByRecursion P more
  outs_more P (add bytes) (added id) calls rest less boxes new out more moves one all = subst (AllByRecursion P) (sym moves.1) all
  outs_more P (add bytes) answer calls rest less boxes new out more moves one all = subst (AllByRecursion P) (sym moves.2) all
  outs_more P (remove bytes) (removed id) calls rest less boxes new out more (kept, (method, held, left, gone)) one all =
      subst (AllByRecursion P) (sym gone) (all_snoc P out (id, method) all (one id method refl held))
  outs_more P (remove bytes) answer calls rest less boxes new out more moves one all = subst (AllByRecursion P) (sym moves.2) all
  outs_more P enrol answer calls rest less boxes new out more moves one all = subst (AllByRecursion P) (sym moves.2) all
  outs_more P (submit packet) answer calls rest less boxes new out more moves one all = subst (AllByRecursion P) (sym moves.2) all
  outs_more P (tick now) answer calls rest less boxes new out more moves one all = subst (AllByRecursion P) (sym moves.2) all
  outs_more P release answer calls rest less boxes new out more moves one all = subst (AllByRecursion P) (sym moves.2) all

  -- each id that was given stands among the boxes or among those that were removed
  abbrev Stands : List Told → List (ℕ × M) → ℕ → Type 0
  Stands boxes out id = Contains (map (λ (told : Told). told.id) boxes) id ⊎ Contains (map (λ (one : ℕ × M). one.0) out) id

  stands_still : (k : ℕ) (boxes new : List Told) (out more : List (ℕ × M)) → ((id : ℕ) → id < k → Stands boxes out id) → new ≡ boxes → more ≡ out → (id : ℕ)
      → id < k + 0 → Stands new more id
  stands_still k boxes new out more all same outs id below = (λ (z : Stands boxes out id). subst (λ (l : List Told). Stands l more id) (sym same)
      (subst (λ (l : List (ℕ × M)). Stands boxes l id) (sym outs) z)) (all id (omega arith))

  hear_ids : (calls : List Invocation) (boxes : List Told) → map (λ (told : Told). told.id) (all_hear calls boxes) ≡ map (λ (told : Told). told.id) boxes
  hear_ids calls [] = refl
  hear_ids calls (told ∷ boxes) = λ i. same_id calls told i ∷ hear_ids calls boxes i

  other_stays : (id other : ℕ) (boxes : List Told) → id ≢ other → Contains (map (λ (told : Told). told.id) boxes) id
      → Contains (map (λ (told : Told). told.id) (filter (λ (told : Told). not (told.id == other)) boxes)) id
  other_stays id other [] apart held = held
  other_stays id other (told ∷ boxes) apart (zero, within, is) =
      subst (λ (t : Bool). Contains (map (λ (one : Told). one.id) (cond (not t) (told ∷ filter (λ (one : Told). not (one.id == other)) boxes)
      (filter (λ (one : Told). not (one.id == other)) boxes))) id) (sym (ne_eqb told.id other (λ same. apart (sym is ∙ same)))) (0, omega arith, is)
  other_stays id other (told ∷ boxes) apart (suc k, within, is) =
      go (not (told.id == other)) (other_stays id other boxes apart (k, omega arith, is)) where
        go : (t : Bool) → Contains (map (λ (one : Told). one.id) (filter (λ (one : Told). not (one.id == other)) boxes)) id
            → Contains (map (λ (one : Told). one.id) (cond t (told ∷ filter (λ (one : Told). not (one.id == other)) boxes)
            (filter (λ (one : Told). not (one.id == other)) boxes))) id
        go true there = contains_later id told.id (map (λ (one : Told). one.id) (filter (λ (one : Told). not (one.id == other)) boxes)) there
        go false there = there

  covers_more : (event : Event) (answer : Answer) (calls : List Invocation) (k : ℕ) (rest less : List M) (boxes new : List Told) (out more : List (ℕ × M))
      → Moves keep heard event answer calls rest less boxes new out more → ((id : ℕ) → answer ≡ added id → id ≡ k)
      → ((id : ℕ) → id < k → Stands boxes out id) → (id : ℕ) → id < k + one_if (takes_box event answer) → Stands new more id
  covers_more (add bytes) (added new_id) calls k rest less boxes new out more ((method, takes, stands), same) here all id below =
      subst (λ (l : List Told). Stands l more id) (sym stands) (subst (λ (l : List (ℕ × M)). Stands (boxes ++ reset told ∷ []) l id) (sym same)
      (dite (dec_le k id) far (λ near. both (all id (omega arith)))))
    where
      told : Told
      told = told_as keep heard new_id method

      ids : map (λ (one : Told). one.id) (boxes ++ reset told ∷ []) ≡ map (λ (one : Told). one.id) boxes ++ new_id ∷ []
      ids = map-append (λ (one : Told). one.id) boxes (reset told ∷ [])

      far : k ≤ id → Stands (boxes ++ reset told ∷ []) out id
      far enough =
          let at : new_id ≡ id = omega (arith, here new_id refl) in
          inl (subst (λ (l : List ℕ). Contains l id) (sym ids)
          (Contains-append_right (map (λ (one : Told). one.id) boxes) (new_id ∷ []) id (0, omega arith, at)))

      both : Stands boxes out id → Stands (boxes ++ reset told ∷ []) out id
      both (inl held) = inl (subst (λ (l : List ℕ). Contains l id) (sym ids)
          (Contains-append_left (map (λ (one : Told). one.id) boxes) (new_id ∷ []) id held))
      both (inr gone) = inr gone
  covers_more (add bytes) answer calls k rest less boxes new out more moves here all id below =
      stands_still k boxes new out more all moves.1 moves.2 id below
  covers_more (remove bytes) (removed gone_id) calls k rest less boxes new out more (kept, (method, held, left, gone)) here all id below =
      subst (λ (l : List Told). Stands l more id) (sym left)
      (subst (λ (l : List (ℕ × M)). Stands (without_id gone_id boxes) l id) (sym gone)
      (dite (ℕ_discrete id gone_id) (λ same. last same) (λ apart. before_it apart (all id (omega arith)))))
    where
      ids : map (λ (one : ℕ × M). one.0) (out ++ (gone_id, method) ∷ []) ≡ map (λ (one : ℕ × M). one.0) out ++ gone_id ∷ []
      ids = map-append (λ (one : ℕ × M). one.0) out ((gone_id, method) ∷ [])

      last : id ≡ gone_id → Stands (without_id gone_id boxes) (out ++ (gone_id, method) ∷ []) id
      last same = inr (subst (λ (l : List ℕ). Contains l id) (sym ids)
          (Contains-append_right (map (λ (one : ℕ × M). one.0) out) (gone_id ∷ []) id (0, omega arith, sym same)))

      before_it : id ≢ gone_id → Stands boxes out id → Stands (without_id gone_id boxes) (out ++ (gone_id, method) ∷ []) id
      before_it apart (inl there) = inl (other_stays id gone_id boxes apart there)
      before_it apart (inr there) = inr (subst (λ (l : List ℕ). Contains l id) (sym ids)
          (Contains-append_left (map (λ (one : ℕ × M). one.0) out) (gone_id ∷ []) id there))
  covers_more (remove bytes) answer calls k rest less boxes new out more moves here all id below =
      stands_still k boxes new out more all moves.1 moves.2 id below
  covers_more enrol answer calls k rest less boxes new out more moves here all id below = stands_still k boxes new out more all moves.1 moves.2 id below
  covers_more (submit packet) answer calls k rest less boxes new out more moves here all id below =
      stands_still k boxes new out more all moves.1 moves.2 id below
  covers_more (tick now) answer calls k rest less boxes new out more moves here all id below = stands_still k boxes new out more all moves.1 moves.2 id below
  covers_more release answer calls k rest less boxes new out more (kept, hears, same) here all id below =
      go (all id (omega arith)) where
        go : Stands boxes out id → Stands new more id
        go (inl held) = inl (subst (λ (l : List ℕ). Contains l id) (sym (ap (map (λ (one : Told). one.id)) hears ∙ hear_ids calls boxes)) held)
        go (inr gone) = inr (subst (λ (l : List (ℕ × M)). Contains (map (λ (one : ℕ × M). one.0) l) id) (sym same) gone)

  all_older : (caps : Limits) (before : List Entry) (entry : Entry) (out : List (ℕ × M)) → AllByRecursion (HeardTill keep heard caps before) out
      → AllByRecursion (HeardTill keep heard caps (before ++ entry ∷ [])) out
  all_older caps before entry [] all = tt
  all_older caps before entry (one ∷ out) all =
      let h = all.0 in (
        record {
          first = h.first;
          entry = h.entry;
          later = h.later ++ entry ∷ [];
          place = ap (λ (l : List Entry). l ++ entry ∷ []) h.place ∙ append_assoc h.first (h.entry ∷ h.later) (entry ∷ []);
          removes = h.removes;
          heard_then = h.heard_then;
        },
        all_older caps before entry out all.1,
      )

  -- one entry more is played again
  pub redone_more : (caps : Limits) (history : List Entry) (bank : List M) (entry : Entry) (left : List Entry) (performance next : Performance)
      (calls : List Invocation) (boxes new : List Told) (rest less : List M) (out more : List (ℕ × M)) → Legal caps history
      → HaveHeard performance boxes
      → IsRedone keep heard caps history bank (entry ∷ left) performance boxes rest out → next ≡ with_entry performance entry
      → Moves keep heard entry.event entry.answer calls rest less boxes new out more
      → IsRedone keep heard caps history bank left next new less more
  redone_more caps history bank entry left performance next calls boxes new rest less out more legal have is on moves =
      let parts = legal_split (opening caps) is.before (entry ∷ left) (subst (LegalFrom (opening caps)) is.all legal.1) in
      let state = after (opening caps) is.before in
      let gave = given state entry.event in
      let same = parts.1.3 in
      let k = added_in is.before in
      let next_id : state.next_id ≡ k = omega (arith, ids_counted (opening caps) is.before parts.0) in
      let takes : is_added entry.answer ≡ takes_box entry.event entry.answer =
      subst (λ (a : Answer). is_added a ≡ takes_box entry.event a) (sym same) gave.takes in
      let lefts : removed_id entry.answer ≡ gives entry.event entry.answer = subst (λ (a : Answer). removed_id a ≡ gives entry.event a) (sym same) gave.left in
      let moved = moving entry.event entry.answer calls k bank rest less boxes new out more (λ id e. gave.id id (sym same ∙ e) ∙ next_id) is.rest_is is.marks
      is.out_marks moves in
      record {
        before = is.before ++ entry ∷ [];
        all = is.all ∙ sym (append_assoc is.before (entry ∷ []) left);
        played = on ∙ ap (λ (p : Performance). with_entry p entry) is.played;
        rest_is = moved.rest ∙ ap (λ (n : ℕ). drop n bank)
            (let e : k + one_if (takes_box entry.event entry.answer) ≡ added_in (is.before ++ entry ∷ []) =
            omega (arith, added_more is.before entry, one_or takes) in e);
        marks = moved.marks;
        covers = λ id below. covers_more entry.event entry.answer calls k rest less boxes new out more moves
            (λ other e. gave.id other (sym same ∙ e) ∙ next_id) is.covers id
            (omega (arith, below, added_more is.before entry, one_or takes));
        out_ids = moved.ids ∙ (λ i. is.out_ids i ++ cons_option (sym lefts i) [])
            ∙ sym (filter_map-append (λ (e : Entry). removed_id e.answer) is.before (entry ∷ []));
        out_marks = moved.out_marks;
        out_heard = outs_more (HeardTill keep heard caps (is.before ++ entry ∷ [])) entry.event entry.answer calls rest less boxes new out more moves
            (λ id method e held. record {
              first = is.before;
              entry = entry;
              later = [];
              place = refl;
              removes = e;
              heard_then = subst (λ (p : Performance). HasHeard (invoked_in p) (told_as keep heard id method)) is.played
                  (all_has (HasHeard (invoked_in performance)) boxes (told_as keep heard id method) have.heard held);
            })
            (all_older caps is.before entry out is.out_heard);
      }

-- what the next entry asks for is there
pub record Asks {M : Type 0} (entry : Entry) (performance : Performance) (rest : List M) : Type 0 where
  pub caller : entry.caller < (state_of performance).callers
  pub lawful : IsLawful entry.event
  pub answer : entry.answer ≡ (stepped_in performance entry.event).answer
  pub method : takes_box entry.event entry.answer ≡ true → 0 < length rest

pub asks : {M : Type 0} (keep : M → Fixed) (heard : M → Option (List ℕ)) (caps : Limits) (history : List Entry) (bank : List M) (entry : Entry)
    (left : List Entry) (performance : Performance) (boxes : List Told) (rest : List M) (out : List (ℕ × M))
    → Legal caps history → added_in history ≤ length bank
    → IsRedone keep heard caps history bank (entry ∷ left) performance boxes rest out → Asks entry performance rest
asks keep heard caps history bank entry left performance boxes rest out legal enough is =
    let next = next_is keep heard caps history bank entry left performance boxes rest out legal is in
    let state = state_of performance in
    let takes : is_added entry.answer ≡ takes_box entry.event entry.answer =
    subst (λ (a : Answer). is_added a ≡ takes_box entry.event a) (sym next.0.3) (given state entry.event).takes in
    record {
      caller = next.0.0;
      lawful = next.0.1;
      answer = next.0.3;
      method = λ some. omega (
        arith,
        next.1,
        enough,
        one_or (takes ∙ some),
        sum_by-cons (λ (e : Entry). one_if (is_added e.answer)) entry left,
        ap length is.rest_is,
        length-drop (added_in is.before) bank,
      );
    }
