-- Lines that are played one after another.
use Rattle.std.proofs.Common.{◌≡◌, ℕ, List, [], ◌∷◌, Option, Some, None, is_some, true, false, refl, sym, ap, ◌∙◌, subst, append_assoc}
use Rattle.std.specs.Option.{option_map}
use Rattle.osc_atoms.specs.declared.room.Room.{Room as CodeRoom}
use Rattle.osc_method.specs.Heard.{Fixed}
use Rattle.osc_model.specs.Events.{Room}
use Rattle.osc_record.specs.Shown.{room_of}
use Rattle.osc_script.specs.declared.act.Act.{Act}
use Rattle.osc_script.specs.declared.line.Line.{Line}
use Rattle.osc_turn.specs.declared.view.Entry.{Entry as Seen}
use Rattle.osc_life.specs.Holders.{Holder}
use Rattle.osc_lanes.specs.Shares.{Account, then_told, ended, Plays}
use Rattle.osc_lanes.specs.Tells.{TellsAct, TellsLines}

module _ {M : Type 0} where
  pub then_assoc : (a b c : Account M) → then_told (then_told a b) c ≡ then_told a (then_told b c)
  then_assoc a b c i = record {
    faults = append_assoc a.faults b.faults c.faults i;
    removed = append_assoc a.removed b.removed c.removed i;
    back = append_assoc a.back b.back c.back i;
    stop = c.stop;
  }

  -- where the act stopped
  pub stop_told : {keep : M → Fixed} {heard : M → Option (List ℕ)} {holder : Holder} {number : ℕ} {act : Act} {boxes left : List M} {before now : Account M}
      {here there : List Seen} → (p : TellsAct keep heard holder number act boxes left before now here there) → p.first.stop ≡ now.stop
  stop_told p = ap (λ (a : Account M). a.stop) (sym p.told_is)

  module _ (keep : M → Fixed) (heard : M → Option (List ℕ)) (holder : Holder) (all : List Line) (boxes : List M) (told : Account M) (here : List Seen) where
    -- Whatever comes of the rest of the lines comes of all lines, with what was told so far.
    abbrev pub GoesOn : List Line → List M → Account M → List Seen → Type 0
    GoesOn rest left so_far now =
        (t : Account M) (there : List Seen) → Plays keep heard holder rest left t now there
        → (u : Account M) × Plays keep heard holder all boxes u here there × (then_told told u ≡ then_told so_far t)

    pub goes_begun : (rest : List Line) → rest ≡ all → GoesOn rest boxes told here
    goes_begun rest is t there plays = (t, subst (λ (ls : List Line). Plays keep heard holder ls boxes t here there) is plays, refl)

    -- a line that leaves room
    pub goes_on : (line : Line) (lines rest : List Line) (left less : List M) (so_far more : Account M) (now then : List Seen)
        → GoesOn lines left so_far now → lines ≡ line ∷ rest → TellsAct keep heard holder line.number line.act left less so_far more now then
        → more.stop ≡ None → GoesOn rest less more then
    goes_on line lines rest left less so_far more now then goes is p none t there plays =
        let one : Plays keep heard holder (line ∷ rest) left (then_told p.first t) now there =
        (less, p.first, then, p.plays, rw (stop_told p ∙ none) (t, refl, plays)) in
        let whole = goes (then_told p.first t) there
        (subst (λ (ls : List Line). Plays keep heard holder ls left (then_told p.first t) now there) (sym is) one) in
        (whole.0, whole.1, whole.2 ∙ (sym (then_assoc so_far p.first t) ∙ ap (λ (a : Account M). then_told a t) (sym p.told_is)))

    -- a line that finds no room
    pub goes_to : (line : Line) (lines rest : List Line) (left less : List M) (so_far more : Account M) (now then : List Seen)
        → GoesOn lines left so_far now → lines ≡ line ∷ rest → TellsAct keep heard holder line.number line.act left less so_far more now then
        → (stop : Option Room) → more.stop ≡ stop → is_some stop ≡ true
        → TellsLines keep heard holder all boxes told (then_told more (ended less more.stop)) here then
    goes_to line lines rest left less so_far more now then goes is p None stops some = absurd (cc)
    goes_to line lines rest left less so_far more now then goes is p (Some room) stops some =
        let last = ended less (Some room) in
        let t = then_told p.first last in
        let one : Plays keep heard holder (line ∷ rest) left t now then =
        (less, p.first, then, p.plays, rw (stop_told p ∙ stops) (refl, refl)) in
        let whole = goes t then (subst (λ (ls : List Line). Plays keep heard holder ls left t now then) (sym is) one) in
        record {
          account = whole.0;
          plays = whole.1;
          told_is = ap (λ (s : Option Room). then_told more (ended less s)) stops
              ∙ sym (whole.2 ∙ (sym (then_assoc so_far p.first last) ∙ ap (λ (a : Account M). then_told a last) (sym p.told_is)));
        }

    -- no line is left
    pub goes_over : (rest : List Line) (left : List M) (so_far : Account M) (now : List Seen) → GoesOn rest left so_far now → rest ≡ []
        → so_far.stop ≡ None → TellsLines keep heard holder all boxes told (then_told so_far (ended left so_far.stop)) here now
    goes_over rest left so_far now goes is none =
        let whole = goes (ended left None) now (subst (λ (ls : List Line). Plays keep heard holder ls left (ended left None) now now) (sym is) (refl, refl)) in
        record {
          account = whole.0;
          plays = whole.1;
          told_is = ap (λ (s : Option Room). then_told so_far (ended left s)) none ∙ sym whole.2;
        }

  -- what another holder of the same number did
  pub played_by : (keep : M → Fixed) (heard : M → Option (List ℕ)) (start holder : Holder) (number : ℕ) (act : Act) (boxes left : List M) (before now : Account M)
      (here there : List Seen) → holder ≡ start → TellsAct keep heard holder number act boxes left before now here there
      → TellsAct keep heard start number act boxes left before now here there
  played_by keep heard start holder number act boxes left before now here there same p =
      subst (λ (q : Holder). TellsAct keep heard q number act boxes left before now here there) same p

pub no_stop : (stop : Option CodeRoom) → is_some stop ≡ false → stop ≡ None
no_stop None e = refl
no_stop (Some room) e = absurd (cc)

pub some_stop : (stop : Option CodeRoom) → is_some stop ≡ true → is_some (option_map room_of stop) ≡ true
some_stop None e = absurd (cc)
some_stop (Some room) e = refl
