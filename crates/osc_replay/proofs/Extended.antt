-- A recording that was played again, and one that goes on from it.
use Rattle.std.proofs.Common.{◌≡◌, ℕ, ◌≤◌, Bool, List, ◌++◌, length, sym, ap, subst, ◌∙◌, arith, length-append}
use Rattle.osc_model.specs.Limits.{Limits}
use Rattle.osc_model.specs.State.{State}
use Rattle.osc_model.specs.Events.{Entry}
use Rattle.osc_model.specs.Recordings.{header_text}
use Rattle.osc_model.proofs.Sizes.{header_size}
use Rattle.osc_record.specs.Unread.{Remaining, HasHeader}
use Rattle.osc_record.proofs.Readings.{texts_differ}
use Rattle.osc_replay.specs.Disagreeing.{IsRecordingOf}
use Rattle.osc_replay.specs.Formed.{IsFormedTo}
use Rattle.osc_replay.specs.Onward.{GoesOnFrom, IsPassing, IsReplayed, IsReplayedTo}
use Rattle.osc_replay.specs.Room.{with_room, in_room}
use Rattle.osc_replay.proofs.Formed.{texts}
use Rattle.osc_replay.proofs.Reached.{StaysWithin}
use Rattle.osc_replay.proofs.Replayed.{AllFit, formed_of}
use Rattle.osc_replay.proofs.Roomier.{prints_the_same_in}

-- bytes record a history and what came since, with some more room
pub record Extends (more : List ℕ) (caps : Limits) (history : List Entry) : Type 0 where
  pub room : ℕ
  pub since : List Entry
  pub enough : caps.recording ≤ room
  pub recording_of : IsRecordingOf more (with_room room caps) (history ++ since)

-- bytes that go on from a recording extend its history
pub extends : AllFit → StaysWithin → (bytes more : List ℕ) (caps : Limits) (history : List Entry) → IsRecordingOf bytes caps history → GoesOnFrom bytes more
    → Extends more caps history
extends fit within bytes more caps history is on =
    let same = texts_differ on.caps caps on.before history (formed_of fit within on.caps on.before on.first.legal).record_
    (formed_of fit within caps history is.legal).record_ (sym on.first.text ∙ is.text) in
    record {
      room = on.room;
      since = on.since;
      enough = subst (λ (l : Limits). l.recording ≤ on.room) same.0 on.enough;
      recording_of = subst (λ (l : Limits). IsRecordingOf more (with_room on.room l) (history ++ on.since)) same.0
          (subst (λ (h : List Entry). IsRecordingOf more (with_room on.room on.caps) (h ++ on.since)) same.1 on.second);
    }

-- the entries up to the end of the recording that was played are there to be passed
pub passing : AllFit → StaysWithin → (bytes more : List ℕ) (caps : Limits) (state : State) (prints : Bool) (text : List ℕ) (entries adds : ℕ)
    (left : Remaining) (own : IsReplayed bytes caps state prints text entries adds) (on : Extends more caps own.history) → HasHeader more left
    → IsPassing more (with_room on.room caps) own.history on.since left (length bytes)
passing fit within bytes more caps state prints text entries adds left own on header =
    let most = on.recording_of.legal.0.recording.below in
    let same = prints_the_same_in on.room caps own.history on.enough most own.recording_of.legal in
    record {
      header = header;
      formed = formed_of fit within (with_room on.room caps) (own.history ++ on.since) on.recording_of.legal;
      begun = formed_of fit within (with_room on.room caps) own.history same.legal;
      text = on.recording_of.text;
      end_is = ap length own.recording_of.text
          ∙ omega (
            arith,
            header_size caps,
            header_size (with_room on.room caps),
            length-append (header_text caps) (texts own.history),
            length-append (header_text (with_room on.room caps)) (texts own.history),
          );
      small = own.small;
    }

-- after them a server with that room stands as one that played them, and the text is theirs
pub replayed_on : StaysWithin → (bytes more : List ℕ) (caps : Limits) (state new : State) (prints : Bool) (text : List ℕ) (entries adds room : ℕ)
    (left : Remaining) (own : IsReplayed bytes caps state prints text entries adds) (on : Extends more caps own.history)
    → IsFormedTo more (with_room on.room caps) own.history left → new ≡ in_room room state → room ≡ left.caps.recording
    → IsReplayedTo more left new text entries adds
replayed_on within bytes more caps state new prints text entries adds room left own on to made room_is =
    let most = on.recording_of.legal.0.recording.below in
    let same = prints_the_same_in on.room caps own.history on.enough most own.recording_of.legal in
    let long = within (with_room on.room caps) (own.history ++ on.since) on.recording_of.legal in
    let there : room ≡ on.room = room_is ∙ ap (λ (l : Limits). l.recording) to.caps_are in
    record {
      caps = with_room on.room caps;
      before = own.history;
      formed = to;
      legal = same.legal;
      state_is = made ∙ (λ i. in_room (there i) (own.state_is i)) ∙ sym same.state;
      text_is = own.text_is ∙ sym same.lines;
      entries_are = own.entries_are;
      adds_are = own.adds_are;
      small = omega (arith, long, most, ap length on.recording_of.text);
    }
