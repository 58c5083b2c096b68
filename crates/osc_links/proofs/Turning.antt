-- The turns of a link, one after another.
use Rattle.std.proofs.Common.{◌≡◌, ℕ, ◌+◌, List, [], ◌∷◌, ◌++◌, Option, Some, None, refl, sym, ap, ◌∙◌, subst, append-nil}
use Rattle.std.specs.Option.{option_map}
use Rattle.osc_atoms.specs.declared.fault.Fault.{Fault}
use Rattle.osc_atoms.specs.declared.room.Room.{Room as CodeRoom}
use Rattle.osc_method.specs.Heard.{Fixed}
use Rattle.osc_model.specs.Events.{Room}
use Rattle.osc_record.specs.Shown.{room_of}
use Rattle.osc_script.specs.declared.act.Act.TheVariants.{Send}
use Rattle.osc_turn.specs.declared.view.Entry.{Entry as Seen}
use Rattle.osc_links.specs.declared.link_work.Over.{Over}
use Rattle.osc_links.specs.declared.link_work.Over.TheVariants.{Full, End, Failed}
use Rattle.osc_links.specs.declared.link_worker.Step.{Step}
use Rattle.osc_links.specs.declared.link_worker.Step.TheVariants as came
use Rattle.osc_links.specs.declared.served.Bounds.{Bounds}
use Rattle.osc_life.specs.Holders.{Holder}
use Rattle.osc_lanes.specs.Shares.{Account, then_told, ended}
use Rattle.osc_links.specs.Links.{LinkTurn, IsOpen, EndsAfter, stop_by, link_account, PlaysTurns}
use Rattle.osc_lanes.specs.Tells.{TellsAct}
use Rattle.osc_links.specs.Taken.{TakesOne, TakesAll}
use Rattle.osc_lanes.proofs.Going.{stop_told, then_assoc}

-- nothing was taken
left_same : (left : Option (List LinkTurn)) → left ≡ option_map (λ more. [] ++ more) left
left_same None = refl
left_same (Some turns) = refl

-- one turn was taken, and then these
left_on : (turn : LinkTurn) (turns : List LinkTurn) (left between after : Option (List LinkTurn)) → left ≡ option_map (λ more. turn ∷ more) between
    → between ≡ option_map (λ more. turns ++ more) after → left ≡ option_map (λ more. (turn ∷ turns) ++ more) after
left_on turn turns left between None one rest = one ∙ ap (option_map (λ (more : List LinkTurn). turn ∷ more)) rest
left_on turn turns left between (Some after) one rest = one ∙ ap (option_map (λ (more : List LinkTurn). turn ∷ more)) rest

module _ {M : Type 0} (keep : M → Fixed) (heard : M → Option (List ℕ)) (holder : Holder) where
  -- a datagram that was sent, with this stop
  pub sent_so : (number : ℕ) (bytes : List ℕ) (so_far more : List (ℕ × Fault)) (told : Option Room) (stop other : Option CodeRoom) (now then : List Seen)
      → option_map room_of stop ≡ told → stop ≡ other
      → TellsAct keep heard holder number (Send bytes) [] [] (link_account so_far None) (link_account more told) now then
      → TellsAct keep heard holder number (Send bytes) [] [] (link_account so_far None) (link_account more (option_map room_of other)) now then
  sent_so number bytes so_far more told stop other now then reported is p = subst
      (λ (s : Option Room). TellsAct keep heard holder number (Send bytes) [] [] (link_account so_far None) (link_account more s) now then)
      (sym reported ∙ ap (option_map room_of) is) p

module _ {M : Type 0} (keep : M → Fixed) (heard : M → Option (List ℕ)) (holder : Holder) (bounds : Bounds) (told : List (ℕ × Fault)) (start : Option (List LinkTurn))
    (here : List Seen) where
  -- Whatever comes of further turns comes of all turns, with what was told so far.
  abbrev pub TurnsGoOn : ℕ → ℕ → List (ℕ × Fault) → Option (List LinkTurn) → List Seen → Type 0
  TurnsGoOn taken quiets so_far left now =
      (turns : List LinkTurn) (over : Over) (t : Account M) (there : List Seen) (after : Option (List LinkTurn))
      → PlaysTurns keep heard holder bounds taken quiets turns over t now there → left ≡ option_map (λ more. turns ++ more) after
      → (all : List LinkTurn) × (u : Account M) × PlaysTurns keep heard holder bounds 0 0 all over u here there
      × (then_told (link_account told None) u ≡ then_told (link_account so_far None) t) × (start ≡ option_map (λ more. all ++ more) after)

  pub turns_begun : TurnsGoOn 0 0 told start here
  turns_begun turns over t there after plays is = (turns, t, plays, refl, is)

  -- a quiet
  pub turns_quiet : (taken quiets : ℕ) (so_far : List (ℕ × Fault)) (left after : Option (List LinkTurn)) (now : List Seen) → TurnsGoOn taken quiets so_far left now
      → IsOpen bounds taken quiets → left ≡ option_map (λ more. None ∷ more) after → TurnsGoOn taken (quiets + 1) so_far after now
  turns_quiet taken quiets so_far left after now goes within is turns over t there end plays rest =
      goes (None ∷ turns) over t there end (within, plays) (left_on None turns left after end is rest)

  -- a datagram that leaves room
  pub turns_sent : (taken quiets : ℕ) (so_far more : List (ℕ × Fault)) (left after : Option (List LinkTurn)) (bytes : List ℕ) (now then : List Seen)
      → TurnsGoOn taken quiets so_far left now → IsOpen bounds taken quiets → left ≡ option_map (λ rest. Some bytes ∷ rest) after
      → TellsAct keep heard holder (taken + 1) (Send bytes) [] [] (link_account so_far None) (link_account more None) now then
      → TurnsGoOn (taken + 1) 0 more after then
  turns_sent taken quiets so_far more left after bytes now then goes within is p turns over t there end plays rest =
      let one : PlaysTurns keep heard holder bounds taken quiets (Some bytes ∷ turns) over (then_told p.first t) now there =
      (within, p.first, then, p.plays, rw (stop_told p) (t, refl, plays)) in
      let whole = goes (Some bytes ∷ turns) over (then_told p.first t) there end one (left_on (Some bytes) turns left after end is rest) in (
        whole.0,
        whole.1,
        whole.2,
        whole.3 ∙ (sym (then_assoc (link_account so_far None) p.first t) ∙ ap (λ (a : Account M). then_told a t) (sym p.told_is)),
        whole.4,
      )

  -- a datagram that finds no room
  pub turns_full : (taken quiets : ℕ) (so_far more : List (ℕ × Fault)) (left after : Option (List LinkTurn)) (bytes : List ℕ) (room : CodeRoom)
      (now then : List Seen) → TurnsGoOn taken quiets so_far left now → IsOpen bounds taken quiets
      → left ≡ option_map (λ rest. Some bytes ∷ rest) after
      → TellsAct keep heard holder (taken + 1) (Send bytes) [] [] (link_account so_far None) (link_account more (Some (room_of room))) now then
      → TakesAll keep heard holder bounds told more start after (Full room) here then
  turns_full taken quiets so_far more left after bytes room now then goes within is p =
      let one : PlaysTurns keep heard holder bounds taken quiets (Some bytes ∷ []) (Full room) p.first now then =
      (within, p.first, then, p.plays, rw (stop_told p) (refl, refl, refl, refl)) in
      let whole = goes (Some bytes ∷ []) (Full room) p.first then after one (left_on (Some bytes) [] left after after is (left_same after)) in
      record { turns = whole.0; account = whole.1; plays = whole.2; told_is = p.told_is ∙ sym whole.3; taken = whole.4 }

  -- the link is over
  pub turns_over : (taken quiets : ℕ) (so_far : List (ℕ × Fault)) (left : Option (List LinkTurn)) (now : List Seen) (over : Over)
      → TurnsGoOn taken quiets so_far left now → EndsAfter bounds taken quiets over → stop_by over ≡ None
      → TakesAll keep heard holder bounds told so_far start left over here now
  turns_over taken quiets so_far left now over goes ends none =
      let whole = goes [] over (ended [] None) now left (ends, refl, refl) (left_same left) in record {
        turns = whole.0;
        account = whole.1;
        plays = whole.2;
        told_is = (λ i. link_account (sym (append-nil so_far) i) (none i)) ∙ sym whole.3;
        taken = whole.4;
      }

  -- another holder of the same number took a turn, which came to this
  came_as : (other : Holder) (number : ℕ) (so_far more : List (ℕ × Fault)) (left after : Option (List LinkTurn)) (before count : ℕ) (turn to : Step)
      (now then : List Seen)
      → other ≡ holder → turn ≡ to → TakesOne keep heard other number so_far more left after before count turn now then
      → TakesOne keep heard holder number so_far more left after before count to now then
  came_as other number so_far more left after before count turn to now then same is one = subst
      (λ (p : Holder × Step). TakesOne keep heard p.0 number so_far more left after before count p.1 now then) (λ i. (same i, is i)) one

  -- no datagram was taken
  still : (so_far more : List (ℕ × Fault)) (left after : Option (List LinkTurn)) (over : Over) (now then : List Seen) → after ≡ left → more ≡ so_far → then ≡ now
      → TakesAll keep heard holder bounds told so_far start left over here now → TakesAll keep heard holder bounds told more start after over here then
  still so_far more left after over now then a b c t = subst
      (λ (l : Option (List LinkTurn)). TakesAll keep heard holder bounds told more start l over here then) (sym a)
      (subst (λ (f : List (ℕ × Fault)). TakesAll keep heard holder bounds told f start left over here then) (sym b)
      (subst (λ (s : List Seen). TakesAll keep heard holder bounds told so_far start left over here s) (sym c) t))

  module _ (other : Holder) (same : other ≡ holder) (taken quiets : ℕ) (so_far more : List (ℕ × Fault)) (left after : Option (List LinkTurn)) (before count : ℕ)
      (turn : Step) (now then : List Seen) (goes : TurnsGoOn taken quiets so_far left now) (within : IsOpen bounds taken quiets)
      (one : TakesOne keep heard other (taken + 1) so_far more left after before count turn now then) where
    pub came_sent : turn ≡ came.Sent → TurnsGoOn (taken + 1) 0 more after then × (count ≡ before)
    came_sent is = let t = came_as other (taken + 1) so_far more left after before count turn came.Sent now then same is one in
        (turns_sent taken quiets so_far more left after t.1 now then goes within t.2 t.3, t.0)

    pub came_quiet : turn ≡ came.Quiet → TurnsGoOn taken (quiets + 1) more after then × (count ≡ before)
    came_quiet is = let t = came_as other (taken + 1) so_far more left after before count turn came.Quiet now then same is one in (
      subst (λ (f : List (ℕ × Fault)). TurnsGoOn taken (quiets + 1) f after then) (sym t.2)
          (subst (λ (s : List Seen). TurnsGoOn taken (quiets + 1) so_far after s) (sym t.3) (turns_quiet taken quiets so_far left after now goes within t.1)),
      t.0,
    )

    pub came_end : turn ≡ came.End → TakesAll keep heard holder bounds told more start after End here then
    came_end is = let t = came_as other (taken + 1) so_far more left after before count turn came.End now then same is one in
        still so_far more left after End now then t.1 t.3 t.4 (turns_over taken quiets so_far left now End goes within refl)

    pub came_failed : turn ≡ came.Failed → TakesAll keep heard holder bounds told more start after Failed here then
    came_failed is = let t = came_as other (taken + 1) so_far more left after before count turn came.Failed now then same is one in
        still so_far more left after Failed now then t.1 t.2 t.3 (turns_over taken quiets so_far left now Failed goes within refl)

    pub came_full : (room : CodeRoom) → turn ≡ came.Full room → TakesAll keep heard holder bounds told more start after (Full room) here then
    came_full room is = let t = came_as other (taken + 1) so_far more left after before count turn (came.Full room) now then same is one in
        turns_full taken quiets so_far more left after t.1 room now then goes within t.2 t.3

-- what a link tells is what it told of its turns, where nothing was told before
pub link_tells : {M : Type 0} (keep : M → Fixed) (heard : M → Option (List ℕ)) (holder : Holder) (bounds : Bounds) (told now : List (ℕ × Fault))
    (left after : Option (List LinkTurn)) (over : Over) (here there : List Seen) → told ≡ []
    → (all : TakesAll keep heard holder bounds told now left after over here there)
    → PlaysTurns keep heard holder bounds 0 0 all.turns over (link_account now (stop_by over)) here there
link_tells {M = M} keep heard holder bounds told now left after over here there none all = subst
    (λ (a : Account M). PlaysTurns keep heard holder bounds 0 0 all.turns over a here there)
    (sym (all.told_is ∙ ap (λ (f : List (ℕ × Fault)). then_told (link_account f None) all.account) none)) all.plays
