-- Where no line is refused, no box comes back but those that no line adds.
use Rattle.std.proofs.Common.{◌≡◌, ◌⊎◌, inl, inr, ℕ, ◌+◌, Bool, true, false, cond, List, [], ◌∷◌, ◌++◌, length, map, drop, Option, Some, None, refl, sym, ap, subst, ◌∙◌}
use Rattle.std.proofs.Common.{arith, suc}
use Rattle.std.proofs.Math.Seq.{drop-length}
use Rattle.std.specs.Prelude.{MatchOption, nat_lt, min}
use Rattle.std.specs.List.{AllByRecursion}
use Rattle.std.proofs.lemmas.List.{length-map}
use Rattle.osc_atoms.specs.declared.fault.Fault.{Fault}
use Rattle.osc_atoms.specs.declared.limits.TheConstants.{MAX_PACKET}
use Rattle.osc_packet.specs.Reading.{packet_fault}
use Rattle.osc_queue.specs.Timed.{due_of}
use Rattle.osc_tree.specs.Adding.{Refusal, add_refusal}
use Rattle.osc_method.specs.Heard.{Fixed}
use Rattle.osc_model.specs.Limits.{Limits}
use Rattle.osc_model.specs.State.{State, Queued, registry}
use Rattle.osc_model.specs.Events.{submit, add, Answer, added, adds_entry, is_added, Entry, Room, room_in}
use Rattle.osc_model.specs.History.{after}
use Rattle.osc_model.specs.Refusals.{IsRefusal}
use Rattle.osc_model.specs.Step.{Stepped, step, decided, add_at}
use Rattle.osc_model.proofs.Stepping.{step_so}
use Rattle.osc_script.specs.Adds.{adds_of, count_adds}
use Rattle.osc_script.specs.declared.act.Act.{Act}
use Rattle.osc_script.specs.declared.act.Act.TheVariants.{Add, Remove, Send, Tick, Pump}
use Rattle.osc_script.specs.declared.line.Line.{Line}
use Rattle.osc_score.proofs.Acts.{adds}
use Rattle.osc_score_laws.specs.Heard.{NoneIsRefused}
use Rattle.osc_player.specs.Plain.{entry_of, entry_if, entries_of, stop_of, act_faults, LineFault, Played, followed, plain_from}
use Rattle.osc_turn.specs.declared.view.Entry.{Entry as Seen}
use Rattle.osc_turn.specs.History.{StartsWith, own}
use Rattle.osc_life.specs.Holders.{Holder, holder_at}
use Rattle.osc_life.proofs.Enrolling.{own_before}
use Rattle.osc_lanes.specs.Shares.{Answered, Account, back_by, then_told, ended, PlaysAct, Plays}
use Rattle.osc_links.proofs.Opening.{counts_plays}
use Rattle.osc_carry.specs.Carried.{packet_of, ticks_to, queue_acts, carried_acts}
use Rattle.osc_alike.specs.Alike.{address_of}
use Rattle.osc_stage.specs.Lines.{acts_of}
use Rattle.osc_chain_laws.proofs.Alone.{state_at, state_on, event_alone, act_alone}

-- an add that finds room adds an entry, and is accepted or refused
added_or_refused : (state : State) (address : List ℕ) → room_in (step state (add address)).answer ≡ None
    → (adds_entry (step state (add address)).answer ≡ true)
    × ((is_added (step state (add address)).answer ≡ true) ⊎ IsRefusal (step state (add address)).answer)
added_or_refused state address =
    step_so (λ (s : Stepped). room_in s.answer ≡ None → IsSo s) state (add address)
    (record { silent = λ none room. here; full = λ some full room. absurd (cc); room = λ some fits room. here })
  where
    IsSo : Stepped → Type 0
    IsSo stepped = (adds_entry stepped.answer ≡ true) × ((is_added stepped.answer ≡ true) ⊎ IsRefusal stepped.answer)

    here : IsSo (decided state (add address))
    here = go (add_refusal (registry state) address) where
      go : (refusal : Option Refusal) → IsSo (add_at state address refusal)
      go None = (refl, inl refl)
      go (Some refusal) = (refl, inr tt)

added_back : {M : Type 0} (box : M) (answer : Answer) → is_added answer ≡ true → back_by box answer ≡ []
added_back box (added id) is = refl
added_back box _ is = absurd (cc)

-- so the box of an add that isn't refused doesn't come back
none_back : {M : Type 0} (box : M) (state : State) (address : List ℕ) (answer : Answer) → answer ≡ (step state (add address)).answer
    → room_in (step state (add address)).answer ≡ None → NoneIsRefused (entry_if state (add address)) → back_by box answer ≡ []
none_back box state address answer is room accepted =
    let so = added_or_refused state address room in
    let one : NoneIsRefused (entry_of state (add address) ∷ []) =
    subst (λ (t : Bool). NoneIsRefused (cond t (entry_of state (add address) ∷ []) [])) so.0 accepted in
    ap (back_by box) is ∙ go so.1 one.0
  where
    go : (is_added (step state (add address)).answer ≡ true) ⊎ IsRefusal (step state (add address)).answer
        → (IsRefusal (step state (add address)).answer → ⊥) → back_by box (step state (add address)).answer ≡ []
    go (inl stands) never = added_back box (step state (add address)).answer stands
    go (inr refusal) never = absurd (never refusal)

all_split : {X : Type 0} (P : X → Type 0) (first more : List X) → AllByRecursion P (first ++ more) → AllByRecursion P first × AllByRecursion P more
all_split P [] more all = (tt, all)
all_split P (x ∷ first) more all = let rest = all_split P first more all.1 in ((all.0, rest.0), rest.1)

-- what is known of lines that are all accepted, of the first one and of the others
record Accepts (entries : List Entry) (stop : Option Room) (later : Played) : Type 0 where
  stop_is : stop ≡ None
  first : NoneIsRefused entries
  goes_on : later.stop ≡ None
  more : NoneIsRefused later.history

accepts : (entries : List Entry) (faults : List LineFault) (stop : Option Room) (later : Played) → (followed entries faults stop later).stop ≡ None
    → NoneIsRefused (followed entries faults stop later).history → Accepts entries stop later
accepts entries faults (Some room) later none accepted = absurd (cc)
accepts entries faults None later none accepted =
    let both = all_split (λ (entry : Entry). IsRefusal entry.answer → ⊥) entries later.history accepted in
    record { stop_is = refl; first = both.0; goes_on = none; more = both.1 }

module _ (caps : Limits) {M : Type 0} (keep : M → Fixed) (heard : M → Option (List ℕ)) where
  abbrev holder : Holder
  holder = holder_at caps 0

  same_back : (boxes left back rest : List M) (n : ℕ) → left ≡ boxes → back ≡ [] → rest ≡ drop n left → back ++ rest ≡ drop (0 + n) boxes
  same_back boxes left back rest n same none is =
      let zero_more : 0 + n ≡ n = omega arith in
      ap (λ (l : List M). l ++ rest) none ∙ is ∙ ap (drop n) same ∙ ap (λ (k : ℕ). drop k boxes) (sym zero_more)

  act_back : (number : ℕ) (act : Act) (boxes left : List M) (first : Account M) (here there : List Seen) (rest : List M) (n : ℕ)
      → PlaysAct keep heard holder number act boxes left first here there → own 0 there ≡ there → stop_of (state_at caps here) act ≡ None
      → NoneIsRefused (entries_of (state_at caps here) act) → rest ≡ drop n left → first.back ++ rest ≡ drop (adds_of act + n) boxes
  act_back number (Add address) boxes left first here there rest n (box, answer, same, a, marked, is) alone room accepted rest_is =
      let state : State = state_at caps here in
      let does = event_alone caps (add address) answer here there a alone in
      let none : back_by box answer ≡ [] = none_back box state address answer does.1 room accepted in
      let one_more : 1 + n ≡ suc n = omega arith in
      ap (λ (l : List M). l ++ rest) (ap (λ (a : Account M). a.back) is ∙ none)
      ∙ rest_is
      ∙ ap (λ (k : ℕ). drop k (box ∷ left)) (sym one_more)
      ∙ ap (drop (1 + n)) (sym same)
  act_back number (Remove address) boxes left first here there rest n (out, answer, same, a, ids, are, is) alone room accepted rest_is =
      same_back boxes left first.back rest n same (ap (λ (a : Account M). a.back) is) rest_is
  act_back number (Send bytes) boxes left first here there rest n (same, sent_so) alone room accepted rest_is =
      same_back boxes left first.back rest n same (go (packet_fault MAX_PACKET bytes) sent_so) rest_is where
        go : (fault : Option Fault)
            → MatchOption fault ((answer : Answer) × Answered holder (submit bytes) answer here there × (first ≡ ended [] (room_in answer)))
            (λ one. (there ≡ here) × (first ≡ record { faults = (number, one) ∷ []; removed = []; back = []; stop = None }))
            → first.back ≡ []
        go None (answer, a, is) = ap (λ (a : Account M). a.back) is
        go (Some fault) (still, is) = ap (λ (a : Account M). a.back) is
  act_back number (Tick moment) boxes left first here there rest n (same, answer, a, is) alone room accepted rest_is =
      same_back boxes left first.back rest n same (ap (λ (a : Account M). a.back) is) rest_is
  act_back number Pump boxes left first here there rest n (same, count, place, answer, takes, a, ends, is) alone room accepted rest_is =
      same_back boxes left first.back rest n same (ap (λ (a : Account M). a.back) is) rest_is

  pub plays_back : (lines : List Line) (boxes : List M) (account : Account M) (here there : List Seen)
      → Plays keep heard holder lines boxes account here there → own 0 there ≡ there → (plain_from (state_at caps here) lines).stop ≡ None
      → NoneIsRefused (plain_from (state_at caps here) lines).history → account.back ≡ drop (count_adds lines) boxes
  plays_back [] boxes account here there (is, same) alone goes_on accepted = ap (λ (a : Account M). a.back) is
  plays_back (line ∷ lines) boxes account here there (left, first, place, one, more) alone goes_on accepted =
      go first.stop refl more (λ rest plays. plays_back lines left rest place there plays alone) where
        state : State
        state = state_at caps here

        entries : List Entry
        entries = entries_of state line.act

        later : Played
        later = plain_from (after state entries) lines

        all : Accepts entries (stop_of state line.act) later
        all = accepts entries (act_faults line.number line.act) (stop_of state line.act) later goes_on accepted

        go : (stop : Option Room) → first.stop ≡ stop
            → MatchOption stop ((rest : Account M) × (account ≡ then_told first rest) × Plays keep heard holder lines left rest place there)
            (λ room. (account ≡ then_told first (ended left (Some room))) × (there ≡ place))
            → ((rest : Account M) → Plays keep heard holder lines left rest place there → (plain_from (state_at caps place) lines).stop ≡ None
            → NoneIsRefused (plain_from (state_at caps place) lines).history → rest.back ≡ drop (count_adds lines) left)
            → account.back ≡ drop (count_adds (line ∷ lines)) boxes
        go None stops (rest, is, plays) back =
            let starts : StartsWith there place = (counts_plays holder keep heard lines left rest place there plays).0 in
            let mine : own 0 place ≡ place = own_before 0 there place starts alone in
            let does = act_alone caps keep heard line.number line.act boxes left first here place one mine in
            let same : after state entries ≡ state_at caps place = sym (state_on caps here place entries does.adds) in
            let rest_back : rest.back ≡ drop (count_adds lines) left =
            back rest plays (subst (λ (s : State). (plain_from s lines).stop ≡ None) same all.goes_on)
            (subst (λ (s : State). NoneIsRefused (plain_from s lines).history) same all.more) in
            ap (λ (a : Account M). a.back) is
            ∙ act_back line.number line.act boxes left first here place rest.back (count_adds lines) one mine all.stop_is all.first rest_back
        go (Some room) stops (is, same) back =
            let mine : own 0 place ≡ place = subst (λ (l : List Seen). own 0 l ≡ l) same alone in
            let does = act_alone caps keep heard line.number line.act boxes left first here place one mine in
            let none : first.stop ≡ None = does.stop ∙ all.stop_is in
            absurd (cc)

-- How many methods lines add that carry a server on.

abbrev count_of : List Act → ℕ
count_of [] = 0
count_of (act ∷ acts) = adds_of act + count_of acts

counted : (lines : List Line) → count_adds lines ≡ count_of (acts_of lines)
counted [] = refl
counted (line ∷ lines) = ap (λ (n : ℕ). adds_of line.act + n) (counted lines)

ticks_counted : (now moment : ℕ) (acts : List Act) → count_of (ticks_to now moment ++ acts) ≡ count_of acts
ticks_counted now moment acts = go (nat_lt now moment) where
  go : (t : Bool) → count_of (cond t (Tick moment ∷ []) [] ++ acts) ≡ count_of acts
  go true = omega arith
  go false = refl

queue_counted : (now clock : ℕ) (units : List Queued) → count_of (queue_acts now clock units) ≡ 0
queue_counted now clock [] = go (nat_lt now clock) where
  go : (t : Bool) → count_of (cond t (Tick clock ∷ []) []) ≡ 0
  go true = omega arith
  go false = refl
queue_counted now clock (unit ∷ units) =
    let moment : ℕ = min (due_of unit) clock in
    ticks_counted now moment (Send (packet_of unit.2) ∷ queue_acts moment clock units) ∙ omega (arith, queue_counted moment clock units)

adds_counted : (addresses : List (List ℕ)) (acts : List Act) → count_of acts ≡ 0 → count_of (adds addresses ++ acts) ≡ length addresses
adds_counted [] acts none = none
adds_counted (address ∷ addresses) acts none = omega (arith, adds_counted addresses acts none)

pub carried_counted : (state : State) (lines : List Line) → acts_of lines ≡ carried_acts state → count_adds lines ≡ length (map address_of state.methods)
carried_counted state lines are =
    counted lines
    ∙ ap count_of are
    ∙ adds_counted (map address_of state.methods) (queue_acts 1 state.clock state.queue) (queue_counted 1 state.clock state.queue)

-- where there is a box for each of them and no more, none comes back
pub none_left : {M X : Type 0} (boxes : List M) (count : ℕ) (address : M → X) (addresses : List X) → count ≡ length addresses
    → map address boxes ≡ addresses → drop count boxes ≡ []
none_left boxes count address addresses is are =
    let many : count ≡ length boxes = is ∙ sym (ap length are) ∙ length-map boxes address in
    ap (λ (n : ℕ). drop n boxes) many ∙ drop-length boxes
