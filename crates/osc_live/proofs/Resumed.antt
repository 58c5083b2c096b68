-- What a server is that goes on from a recording.
use Rattle.std.proofs.Common.{◌≡◌, ℕ, zero, suc, ◌+◌, ◌≢◌, ◌<◌, ◌≤◌, ◌==◌, Bool, true, cond, All, ne_eqb, List, [], ◌∷◌, ◌++◌, length, map, drop, Option, Some}
use Rattle.std.proofs.Common.{refl, sym, ap, subst, ◌∙◌, arith}
use Rattle.std.proofs.lemmas.List.{append-nil, map-append, length-drop}
use Rattle.std.proofs.lemmas.List.Sums.{sum_by-append}
use Rattle.std.proofs.lemmas.List.Elements.{All-from_recursion, recursion_from_All, filter-append}
use Rattle.std.specs.Prelude.{slice_get, Result, Ok, IfOk, OnOk}
use Rattle.std.specs.List.{AllByRecursion, Contains, list_all, insert, flat_map, filter}
use Rattle.std.specs.Option.{option_map}
use Rattle.osc_laws.proofs.Members.{sent_from}
use Rattle.osc_turn.specs.declared.view.Entry.{Entry as Seen}
use Rattle.osc_turn.specs.declared.view.View.{View}
use Rattle.osc_turn.specs.History.{entries_of, texts, own}
use Rattle.osc_turn.specs.Passes.{view}
use Rattle.osc_model.specs.Limits.{Limits}
use Rattle.osc_model.specs.State.{State, opening}
use Rattle.osc_model.specs.Events.{removed, Entry, Invocation, is_added}
use Rattle.osc_model.specs.Step.{step}
use Rattle.osc_model.proofs.Onward.{after_more, invoked_more, legal_split}
use Rattle.osc_model.proofs.Silence.{loses}
use Rattle.osc_method.specs.Heard.{Fixed, last_of}
use Rattle.osc_model.specs.Enrolled.{callers_in}
use Rattle.osc_model.specs.Heard.{Told, bytes_of}
use Rattle.osc_model.specs.History.{Legal, Performance, state_of, after, invocations, HasHeard}
use Rattle.osc_core.specs.Redoing.{told_as}
use Rattle.osc_core.specs.Standing.{mark_of, AreTexts, history_in, CarriesMark, StandsFor}
use Rattle.osc_live.specs.Resuming.{added_in, removed_in, roomier, first_resumed, other_resumed, others_resumed, all_resumed, HasMarkOf, HaveHeardAll, Resumes}
use Rattle.osc_live.specs.Redone.{TellsMarkOf, HeardTill, IsRedone, IsOut}
use Rattle.osc_live.specs.declared.caller.Caller.{Caller}
use Rattle.osc_live.specs.Seen.{history_of, names, names_own}
use Rattle.osc_live.specs.Closing.{known}
use Rattle.osc_live.proofs.Closings.{own_later, inserted_first}
use Rattle.osc_live.proofs.PlayedAgain.{all_has}

-- What holds of an answer.

pub ok_there : {A E : Type 0} (P : A → Type 0) (r : Result A E) (x : A) → r ≡ Ok x → IfOk r P → P x
ok_there {A} {E} P r x is held = subst (λ (z : Result A E). IfOk z P) is held

pub on_ok : {A E P : Type 0} (r : Result A E) (x : A) → r ≡ Ok x → OnOk r P → P
on_ok {A} {E} {P} r x is held = subst (λ (z : Result A E). OnOk z P) is held

-- Tokens, one after another.

pub others_more : (caps : Limits) (opened : List (List ℕ)) (number k : ℕ)
    → others_resumed caps opened number (suc k) ≡ others_resumed caps opened number k ++ (number + k, other_resumed caps opened (number + k)) ∷ []
others_more caps opened number zero =
    ap (λ (n : ℕ). let one : List (ℕ × View) = (n, other_resumed caps opened n) ∷ [] in one) (let e : number ≡ number + 0 = omega arith in e)
others_more caps opened number (suc k) =
    ap (λ (l : List (ℕ × View)). (number, other_resumed caps opened number) ∷ l)
    (others_more caps opened (number + 1) k
    ∙ ap (λ (n : ℕ). others_resumed caps opened (number + 1) k ++ (n, other_resumed caps opened n) ∷ [])
    (let e : (number + 1) + k ≡ number + suc k = omega arith in e))

pub opened_texts : (opened : List (List ℕ)) → texts (entries_of opened) ≡ opened
opened_texts [] = refl
opened_texts (text ∷ opened) = ap (λ (l : List (List ℕ)). text ∷ l) (opened_texts opened)

pub seen_enrolled : (opened : List (List ℕ)) (v : View) (number count : ℕ) → v.seen ≡ entries_of opened → count ≤ callers_in (history_in opened)
    → number < count → number < callers_in (history_of v)
seen_enrolled opened v number count is enough less =
    subst (λ (l : List (List ℕ)). number < callers_in (history_in l)) (sym (ap texts is ∙ opened_texts opened)) (omega arith)

-- the first token has no own entries but those that were there
pub first_named : (caps : Limits) (opened : List (List ℕ)) (made : ℕ) (v : View) → v ≡ first_resumed caps opened made → names_own 0 v ≡ true
first_named caps opened made v is =
    ap (names_own 0) is
    ∙ ap (list_all (names 0))
    (ap (λ (l : List Seen). drop (cond (0 == 0) (length opened) 0) (own 0 l)) (sym (append-nil (entries_of opened))) ∙ own_later 0 opened [])

pub tokens_more : (caps : Limits) (opened : List (List ℕ)) (callers : List Caller) (new : Caller) (k number : ℕ)
    → known callers ≡ others_resumed caps opened 1 k → number ≡ suc k → new.number ≡ number → view new.pass ≡ other_resumed caps opened number
    → known (callers ++ new ∷ []) ≡ others_resumed caps opened 1 (suc k)
tokens_more caps opened callers new k number is counted numbered sees =
    let at : number ≡ 1 + k = omega arith in
    map-append (λ (caller : Caller). (caller.number, view caller.pass)) callers (new ∷ [])
    ∙ (λ i. is i ++ (numbered i, sees i) ∷ [])
    ∙ ap (λ (n : ℕ). others_resumed caps opened 1 k ++ (n, other_resumed caps opened n) ∷ []) at
    ∙ sym (others_more caps opened 1 k)

pub tokens_all : (caps : Limits) (opened : List (List ℕ)) (callers all : List Caller) (first : Caller) (k count : ℕ)
    → known callers ≡ others_resumed caps opened 1 k → count ≡ suc k → first.number ≡ 0 → view first.pass ≡ first_resumed caps opened count
    → all ≡ insert callers 0 first → known all ≡ all_resumed caps opened count
tokens_all caps opened callers all first k count is counted numbered sees inserted =
    ap known (inserted ∙ inserted_first callers first)
    ∙ (λ i. (numbered i, sees i) ∷ is i)
    ∙ ap (λ (n : ℕ). (0, first_resumed caps opened n) ∷ others_resumed caps opened 1 k) counted
    ∙ sym (ap (all_resumed caps opened) counted)

-- What a box has heard.

abbrev pub RemovedLaw : Type 0
RemovedLaw = (caps : Limits) (before later : List Entry) (entry : Entry) (id : ℕ) → Legal caps (before ++ entry ∷ later) → entry.answer ≡ removed id
    → All (λ invocation. invocation.call.id ≢ id) (invocations (after (opening caps) (before ++ entry ∷ [])) later)

none_of : (id : ℕ) (calls : List Invocation) → AllByRecursion (λ call. call.call.id ≢ id) calls
    → filter (λ (call : Invocation). call.call.id == id) calls ≡ []
none_of id [] all = refl
none_of id (call ∷ calls) all =
    ap (λ (t : Bool). cond t (call ∷ filter (λ (call : Invocation). call.call.id == id) calls) (filter (λ (call : Invocation). call.call.id == id) calls))
    (ne_eqb call.call.id id all.0)
    ∙ none_of id calls all.1

-- calls of other ids change nothing
still_heard : (calls more : List Invocation) (told : Told) → filter (λ (call : Invocation). call.call.id == told.id) more ≡ [] → HasHeard calls told
    → HasHeard (calls ++ more) told
still_heard calls more told none heard =
    let p : Invocation → Bool = λ call. call.call.id == told.id in
    let same : filter p (calls ++ more) ≡ filter p calls =
    filter-append p calls more ∙ (ap (λ (l : List Invocation). filter p calls ++ l) none ∙ append-nil (filter p calls)) in
    heard ∙ ap (λ (l : List Invocation). option_map (λ _. last_of told.keep.most (flat_map bytes_of l)) told.heard) (sym same)

module _ {M : Type 0} (keep : M → Fixed) (heard : M → Option (List ℕ)) where
  -- what is known once all entries are played again
  pub record IsWhole (limits : Limits) (history : List Entry) (bank : List M) (performance : Performance) (boxes : List Told) (rest : List M)
      (out : List (ℕ × M)) : Type 0 where
    pub redone : IsRedone keep heard limits history bank [] performance boxes rest out

  history_is : (limits : Limits) (history : List Entry) (bank : List M) (performance : Performance) (boxes : List Told)
      (rest : List M) (out : List (ℕ × M)) (is : IsRedone keep heard limits history bank [] performance boxes rest out) → is.before ≡ history
  history_is limits history bank performance boxes rest out is = sym (is.all ∙ append-nil is.before)

  pub performance_is : (limits : Limits) (history : List Entry) (bank : List M) (performance : Performance) (boxes : List Told)
      (rest : List M) (out : List (ℕ × M)) → IsRedone keep heard limits history bank [] performance boxes rest out
      → performance ≡ record { caps = limits; history = history }
  performance_is limits history bank performance boxes rest out is =
      is.played ∙ ap (λ (h : List Entry). let p : Performance = record { caps = limits; history = h } in p)
      (history_is limits history bank performance boxes rest out is)

  marked_so : (bank : List M) (boxes : List Told) (opened : List (List ℕ)) → AllByRecursion (TellsMarkOf keep heard bank) boxes
      → AllByRecursion (λ told. CarriesMark opened told.id (mark_of told)) boxes → (id : ℕ) (method : M) → slice_get bank id ≡ Some method
      → Contains (map (λ (told : Told). told.id) boxes) id → CarriesMark opened id (mark_of (told_as keep heard id method))
  marked_so bank boxes opened marks carried id method there held =
      let from = sent_from (λ (told : Told). told.id) boxes id held in
      let told : Told = from.0 in
      let mark = all_has (TellsMarkOf keep heard bank) boxes told marks from.1 in
      let carries = all_has (λ (told : Told). CarriesMark opened told.id (mark_of told)) boxes told carried from.1 in
      let both : Some mark.0 ≡ Some method = sym mark.1 ∙ (ap (slice_get bank) from.2 ∙ there) in
      let same : mark.0 ≡ method = cc in
      subst (λ (n : ℕ). CarriesMark opened n (mark_of (told_as keep heard id method))) from.2
      (subst (λ (n : List ℕ). CarriesMark opened told.id n) (mark.2 ∙ ap (λ (m : M). mark_of (told_as keep heard id m)) same) carries)

  pub resumed : (caps limits : Limits) (room : ℕ) (history : List Entry) (bank : List M) (performance : Performance) (boxes : List Told)
      (rest left : List M) (out : List (ℕ × M)) (opened : List (List ℕ)) (callers : List (ℕ × View)) (count : ℕ)
      → limits ≡ roomier caps room → Legal limits history → IsRedone keep heard limits history bank [] performance boxes rest out
      → StandsFor performance boxes opened → callers ≡ all_resumed limits opened count → count ≡ callers_in history → left ≡ rest
      → Resumes keep heard caps history room bank limits opened callers out left
  resumed caps limits room history bank performance boxes rest left out opened callers count limited legal is stands tokens counted lefts =
      let whole = performance_is limits history bank performance boxes rest out is in
      let same = history_is limits history bank performance boxes rest out is in
      record {
        limits_are = limited;
        legal = legal;
        read = stands.read ∙ ap (λ (p : Performance). p.history) whole;
        written = subst (λ (p : Performance). AreTexts p.history opened) whole stands.written;
        tokens = tokens ∙ ap (all_resumed limits opened) counted;
        marked = λ id method there held. marked_so bank boxes opened is.marks stands.marked id method there
            (subst (λ (l : List ℕ). Contains l id)
            (sym (stands.heard.ids ∙ ap (λ (p : Performance). map (λ one. one.id) (state_of p).methods) whole)) held);
        out_ids = is.out_ids ∙ ap (λ (h : List Entry). removed_in h) same;
        out_marks = All-from_recursion (HasMarkOf keep heard bank) out is.out_marks;
        rest = lefts ∙ is.rest_is ∙ ap (λ (h : List Entry). drop (added_in h) bank) same;
      }

  -- the box of a removed method has heard the whole history, in which nothing calls its id later
  pub heard_whole : RemovedLaw → (caps : Limits) (history : List Entry) → Legal caps history → (one : ℕ × M) → HeardTill keep heard caps history one
      → HasHeard (invocations (opening caps) history) (told_as keep heard one.0 one.1)
  heard_whole law caps history legal one h =
      let state = after (opening caps) h.first in
      let legal_there : Legal caps (h.first ++ h.entry ∷ h.later) = subst (Legal caps) h.place legal in
      let here = (legal_split (opening caps) h.first (h.entry ∷ h.later) legal_there.1).1 in
      let next = (step state h.entry.event).state in
      let quiet = (loses state h.entry.event one.0 (sym here.3 ∙ h.removes)).silent in
      let later = subst (λ (s : State). All (λ invocation. invocation.call.id ≢ one.0) (invocations s h.later))
      (after_more (opening caps) h.first (h.entry ∷ [])) (law caps h.first h.later h.entry one.0 legal_there h.removes) in
      let more = (step state h.entry.event).invocations ++ invocations next h.later in
      let none : filter (λ (call : Invocation). call.call.id == one.0) more ≡ [] =
      ap (λ (l : List Invocation). filter (λ (call : Invocation). call.call.id == one.0) (l ++ invocations next h.later)) quiet
      ∙ none_of one.0 (invocations next h.later) (recursion_from_All (λ invocation. invocation.call.id ≢ one.0) (invocations next h.later) later) in
      subst (λ (l : List Invocation). HasHeard l (told_as keep heard one.0 one.1))
      (sym (ap (invocations (opening caps)) h.place ∙ invoked_more (opening caps) h.first (h.entry ∷ h.later)))
      (still_heard (invocations (opening caps) h.first) more (told_as keep heard one.0 one.1) none h.heard_then)

  all_whole : RemovedLaw → (caps : Limits) (history : List Entry) → Legal caps history → (out : List (ℕ × M))
      → AllByRecursion (HeardTill keep heard caps history) out
      → AllByRecursion (λ one. HasHeard (invocations (opening caps) history) (told_as keep heard one.0 one.1)) out
  all_whole law caps history legal [] all = tt
  all_whole law caps history legal (one ∷ out) all = (heard_whole law caps history legal one all.0, all_whole law caps history legal out all.1)

  pub heard_all : RemovedLaw → (limits : Limits) (history : List Entry) (bank : List M) (performance : Performance) (boxes : List Told)
      (rest : List M) (out : List (ℕ × M)) → Legal limits history
      → IsRedone keep heard limits history bank [] performance boxes rest out → HaveHeardAll keep heard limits history out
  heard_all law limits history bank performance boxes rest out legal is =
      All-from_recursion (λ one. HasHeard (invocations (opening limits) history) (told_as keep heard one.0 one.1)) out
      (all_whole law limits history legal out
      (subst (λ (h : List Entry). AllByRecursion (HeardTill keep heard limits h) out)
      (history_is limits history bank performance boxes rest out is) is.out_heard))

-- Boxes where entries up to some are played again.

pub fewer_added : (history before left : List Entry) → history ≡ before ++ left → added_in before ≤ added_in history
fewer_added history before left is = omega (arith, ap added_in is, sum_by-append (λ (e : Entry). cond (is_added e.answer) 1 0) before left)

pub is_out : {M : Type 0} (keep : M → Fixed) (heard : M → Option (List ℕ)) (caps : Limits) (history : List Entry) (bank : List M) (left : List Entry)
    (performance : Performance) (boxes : List Told) (rest : List M) (out : List (ℕ × M)) (taken room : ℕ) → added_in history ≤ length bank
    → IsRedone keep heard caps history bank left performance boxes rest out → taken + length rest ≡ length bank → length bank ≤ room
    → IsOut keep heard bank boxes out rest taken room
is_out keep heard caps history bank left performance boxes rest out taken room enough is counted fits =
    let added = added_in is.before in
    let long : length rest ≡ length (drop added bank) = ap length is.rest_is in
    let all : added_in history ≡ added + added_in left =
    ap added_in is.all ∙ sum_by-append (λ (e : Entry). cond (is_added e.answer) 1 0) is.before left in
    let same : taken ≡ added = omega (arith, counted, long, enough, all, length-drop added bank) in
    record {
      counted = sym counted;
      rest_is = is.rest_is ∙ ap (λ (n : ℕ). drop n bank) (sym same);
      room_is = fits;
      covers = λ id below. is.covers id (omega (arith, below, same));
      marks = is.marks;
      out_marks = is.out_marks;
    }
