-- One act of a lane, and what is told of it.
use Rattle.std.proofs.Common.{◌≡◌, ℕ, List, [], ◌∷◌, ◌++◌, map, Option, Some, None, refl, sym, ap, ◌∙◌, subst, append-nil}
use Rattle.std.specs.Option.{option_map}
use Rattle.std.specs.List.{AllByRecursion}
use Rattle.osc_atoms.specs.declared.fault.Fault.{Fault}
use Rattle.osc_atoms.specs.declared.room.Room.{Room as CodeRoom}
use Rattle.osc_atoms.specs.declared.limits.TheConstants.{MAX_PACKET}
use Rattle.osc_packet.specs.Reading.{packet_fault}
use Rattle.osc_method.specs.Heard.{Fixed}
use Rattle.osc_model.specs.Events.{Answer, Room, room_in, add, remove, submit, tick, release}
use Rattle.osc_model.specs.History.{invoked_in, HasHeard}
use Rattle.osc_record.specs.Shown.{room_of}
use Rattle.osc_core.specs.declared.answers.AddRefusal.TheVariants as adding
use Rattle.osc_core.specs.declared.answers.Adding.{Adding}
use Rattle.osc_core.specs.declared.answers.Adding.TheVariants.{Added, Refused}
use Rattle.osc_core.specs.declared.answers.Removing.{Removing}
use Rattle.osc_core.specs.declared.answers.Removing.TheVariants as removing
use Rattle.osc_core.specs.Answers.{adding_of, removing_of, handed_back, handed_out, OnAdded, OnRefused, OnRemoved}
use Rattle.osc_core.specs.Standing.{CarriesMark, mark_of}
use Rattle.osc_script.specs.declared.act.Act.TheVariants.{Add, Remove, Send, Tick, Pump}
use Rattle.osc_turn.specs.declared.view.Entry.{Entry as Seen}
use Rattle.osc_turn.specs.History.{texts}
use Rattle.osc_live.specs.declared.pumped.PumpEnd.{PumpEnd}
use Rattle.osc_live.specs.declared.pumped.PumpEnd.TheVariants as pumped
use Rattle.osc_live.specs.Pumps.{end_of}
use Rattle.osc_live.specs.Seen.{performance_in}
use Rattle.osc_life.specs.Holders.{Holder}
use Rattle.osc_life.specs.Lives.{id_in}
use Rattle.osc_lanes.specs.Shares.{Answered, Releases, EndsPump, Account, ended, back_by, known_of, IsMarkedBy, IsRemovedAt}
use Rattle.osc_lanes.specs.Tells.{TellsAct}

module _ {M : Type 0} where
  abbrev told : List (ℕ × Fault) → List (ℕ × M) → List M → Option Room → Account M
  told fs rs bs stop = record { faults = fs; removed = rs; back = bs; stop = stop }

  back_same : (box : M) (address : List ℕ) (given : Adding M) → OnRefused given (λ back untouched. (back ≡ address) × (untouched ≡ box))
      → handed_back given ≡ back_by box (adding_of given)
  back_same box address (Added id) handed = refl
  back_same box address (Refused (adding.RecordFull room) back method) handed = ap (λ (m : M). m ∷ []) handed.1
  back_same box address (Refused (adding.Taken id) back method) handed = ap (λ (m : M). m ∷ []) handed.1
  back_same box address (Refused (adding.UnderMethod id) back method) handed = ap (λ (m : M). m ∷ []) handed.1
  back_same box address (Refused adding.IsContainer back method) handed = ap (λ (m : M). m ∷ []) handed.1
  back_same box address (Refused (adding.MethodsFull limit) back method) handed = ap (λ (m : M). m ∷ []) handed.1
  back_same box address (Refused (adding.NodesFull room) back method) handed = ap (λ (m : M). m ∷ []) handed.1

  ids_same : (given : Removing M) → map (λ (one : ℕ × M). one.0) (handed_out given) ≡ id_in (removing_of given)
  ids_same (removing.Removed id method) = refl
  ids_same (removing.RecordFull room) = refl
  ids_same removing.NotThere = refl

  module _ (keep : M → Fixed) (heard : M → Option (List ℕ)) (holder : Holder) (number : ℕ) (boxes : List M) (fs : List (ℕ × Fault)) (rs : List (ℕ × M))
      (bs : List M) (was : Option Room)
      (here there : List Seen) where
    marked_by : (box : M) (given : Adding M) → OnAdded given (λ id. CarriesMark (texts there) id (mark_of (known_of keep heard id box)))
        → IsMarkedBy keep heard box (adding_of given) there
    marked_by box (Added id) marked = marked
    marked_by box (Refused (adding.RecordFull room) back method) marked = tt
    marked_by box (Refused (adding.Taken id) back method) marked = tt
    marked_by box (Refused (adding.UnderMethod id) back method) marked = tt
    marked_by box (Refused adding.IsContainer back method) marked = tt
    marked_by box (Refused (adding.MethodsFull limit) back method) marked = tt
    marked_by box (Refused (adding.NodesFull room) back method) marked = tt

    removed_at : (given : Removing M) → OnRemoved given (λ id method. CarriesMark (texts there) id (mark_of (known_of keep heard id method)))
        → OnRemoved given (λ id method. HasHeard (invoked_in (performance_in holder.caps (texts there))) (known_of keep heard id method))
        → AllByRecursion (IsRemovedAt keep heard holder.caps there) (handed_out given)
    removed_at (removing.Removed id method) marked hears = ((marked, hears), tt)
    removed_at (removing.RecordFull room) marked hears = tt
    removed_at removing.NotThere marked hears = tt

    pub played_add : (address : List ℕ) (box : M) (left bs' : List M) (given : Adding M) (stop : Option CodeRoom) → boxes ≡ box ∷ left
        → Answered holder (add address) (adding_of given) here there
        → OnAdded given (λ id. CarriesMark (texts there) id (mark_of (known_of keep heard id box)))
        → OnRefused given (λ back untouched. (back ≡ address) × (untouched ≡ box)) → option_map room_of stop ≡ room_in (adding_of given)
        → bs' ≡ bs ++ handed_back given
        → TellsAct keep heard holder number (Add address) boxes left (told fs rs bs was) (told fs rs bs' (option_map room_of stop)) here there
    played_add address box left bs' given stop first answered marked handed stops kept = record {
      first = told [] [] (back_by box (adding_of given)) (room_in (adding_of given));
      plays = (box, adding_of given, first, answered, marked_by box given marked, refl);
      told_is = λ i. told (sym (append-nil fs) i) (sym (append-nil rs) i)
          ((kept ∙ ap (λ (l : List M). bs ++ l) (back_same box address given handed)) i) (stops i);
    }

    pub played_remove : (address : List ℕ) (rs' : List (ℕ × M)) (given : Removing M) (stop : Option CodeRoom)
        → Answered holder (remove address) (removing_of given) here there
        → OnRemoved given (λ id method. CarriesMark (texts there) id (mark_of (known_of keep heard id method)))
        → OnRemoved given (λ id method. HasHeard (invoked_in (performance_in holder.caps (texts there))) (known_of keep heard id method))
        → option_map room_of stop ≡ room_in (removing_of given) → rs' ≡ rs ++ handed_out given
        → TellsAct keep heard holder number (Remove address) boxes boxes (told fs rs bs was) (told fs rs' bs (option_map room_of stop)) here there
    played_remove address rs' given stop answered marked hears stops kept = record {
      first = told [] (handed_out given) [] (room_in (removing_of given));
      plays = (handed_out given, removing_of given, refl, answered, ids_same given, removed_at given marked hears, refl);
      told_is = λ i. told (sym (append-nil fs) i) (kept i) (sym (append-nil bs) i) (stops i);
    }

    pub played_send : (bytes shown packet : List ℕ) (answer : Answer) → shown ≡ bytes → None ≡ packet_fault MAX_PACKET shown
        → packet ≡ shown
        → Answered holder (submit packet) answer here there
        → TellsAct keep heard holder number (Send bytes) boxes boxes (told fs rs bs was) (told fs rs bs (room_in answer)) here there
    played_send bytes shown packet answer is valid same answered = record {
      first = ended [] (room_in answer);
      plays = (
        refl,
        rw (ap (packet_fault MAX_PACKET) (sym is) ∙ sym valid)
            (answer, subst (λ (l : List ℕ). Answered holder (submit l) answer here there) (same ∙ is) answered, refl),
      );
      told_is = λ i. told (sym (append-nil fs) i) (sym (append-nil rs) i) (sym (append-nil bs) i) (room_in answer);
    }

    pub played_fault : (bytes shown : List ℕ) (fault : Fault) (fs' : List (ℕ × Fault)) → shown ≡ bytes → Some fault ≡ packet_fault MAX_PACKET shown
        → there ≡ here → fs' ≡ fs ++ (number, fault) ∷ []
        → TellsAct keep heard holder number (Send bytes) boxes boxes (told fs rs bs was) (told fs' rs bs None) here there
    played_fault bytes shown fault fs' is faulty same kept = record {
      first = told ((number, fault) ∷ []) [] [] None;
      plays = (refl, rw (ap (packet_fault MAX_PACKET) (sym is) ∙ sym faulty) (same, refl));
      told_is = λ i. told (kept i) (sym (append-nil rs) i) (sym (append-nil bs) i) None;
    }

    -- bytes that were sent, told after what stopped otherwise, with this stop
    pub played_bytes : (bytes shown : List ℕ) (fs' : List (ℕ × Fault)) (stop other : Option Room) → shown ≡ bytes → other ≡ stop
        → TellsAct keep heard holder number (Send shown) boxes boxes (told fs rs bs None) (told fs' rs bs stop) here there
        → TellsAct keep heard holder number (Send bytes) boxes boxes (told fs rs bs was) (told fs' rs bs other) here there
    played_bytes bytes shown fs' stop other is stops p = subst
        (λ (l : List ℕ). TellsAct keep heard holder number (Send l) boxes boxes (told fs rs bs was) (told fs' rs bs other) here there) is
        (record { first = p.first; plays = p.plays; told_is = ap (told fs' rs bs) stops ∙ p.told_is })

    pub played_tick : (moment : ℕ) (answer : Answer) (stop : Option CodeRoom) → Answered holder (tick moment) answer here there
        → option_map room_of stop ≡ room_in answer
        → TellsAct keep heard holder number (Tick moment) boxes boxes (told fs rs bs was) (told fs rs bs (option_map room_of stop)) here there
    played_tick moment answer stop answered stops = record {
      first = ended [] (room_in answer);
      plays = (refl, answer, answered, refl);
      told_is = λ i. told (sym (append-nil fs) i) (sym (append-nil rs) i) (sym (append-nil bs) i) (stops i);
    }

    ends_pump : (end : PumpEnd) → EndsPump (end_of end)
    ends_pump (pumped.NothingDue next) = tt
    ends_pump (pumped.RecordFull room) = tt

    pub played_pump : (count : ℕ) (place : List Seen) (end : PumpEnd) (stop : Option CodeRoom) → Releases holder count here place
        → Answered holder release (end_of end) place there → option_map room_of stop ≡ room_in (end_of end)
        → TellsAct keep heard holder number Pump boxes boxes (told fs rs bs was) (told fs rs bs (option_map room_of stop)) here there
    played_pump count place end stop releases answered stops = record {
      first = ended [] (room_in (end_of end));
      plays = (refl, count, place, end_of end, releases, answered, ends_pump end, refl);
      told_is = λ i. told (sym (append-nil fs) i) (sym (append-nil rs) i) (sym (append-nil bs) i) (stops i);
    }
