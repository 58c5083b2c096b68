-- What a link over a stream has left to give, and what its calls do.
use Rattle.std.specs.Prelude.{◌≡◌, ℕ, ◌+◌, ◌^◌, ◌<◌, ◌≤◌, Bool, true, false, nat_lt, IsTrue, List}
use Rattle.std.specs.Prelude.{[], ◌∷◌, ◌++◌, length, take, map, Option, Some, None, option_map}
use Rattle.osc_atoms.specs.declared.limits.TheConstants.{MAX_PACKET}
use Rattle.osc_edge.specs.declared.link.Datagram.{Datagram}
use Rattle.osc_edge.specs.declared.link.Datagram.TheVariants.{Got, Quiet, End, Failed}
use Rattle.osc_edge.specs.Faults.{Rose}
use Rattle.osc_stream.specs.declared.fed.Fed.{Fed}
use Rattle.osc_stream.specs.declared.fed.Fed.TheVariants.{More, Ready, Broken as BrokenWord}
use Rattle.osc_stream.specs.declared.front.Front.{Front}
use Rattle.osc_stream.specs.declared.front.Front.TheVariants.{Short, Whole, Bad}
use Rattle.osc_stream.specs.declared.state.StreamState.{StreamState}
use Rattle.osc_stream.specs.declared.state.StreamState.TheVariants.{Going, Clean, Cut, Broken}
use Rattle.osc_stream.specs.declared.state.StreamState.TheVariants.{SourceFailed}
use Rattle.osc_stream.specs.Frames.{Framing, ends, with_packet, front, frames}
use Rattle.osc_stream.specs.Frames.{Clean as CleanEnd, Cut as CutEnd, Broken as BrokenEnd}
use Rattle.osc_stream.specs.Feeding.{StreamView, taken}

-- the link has ended
abbrev pub is_end : StreamState → Bool
is_end Going = false
is_end Clean = true
is_end (Cut at) = true
is_end (Broken at size) = true
is_end SourceFailed = false

-- the frames of what is held and of what the source has left, where it tells
abbrev pub frames_left : StreamView → Option (List ℕ) → Option Framing
frames_left stream left = option_map (λ bytes. frames stream.place (stream.held ++ bytes)) left

-- the frames that a link has left; once it has ended only their end
abbrev pub framing_left : StreamState → StreamView → Option (List ℕ) → Option Framing
framing_left Going stream left = frames_left stream left
framing_left Clean stream left = option_map (λ bytes. ends CleanEnd) left
framing_left (Cut at) stream left = option_map (λ bytes. ends (CutEnd at)) left
framing_left (Broken at size) stream left = option_map (λ bytes. ends (BrokenEnd at size)) left
framing_left SourceFailed stream left = frames_left stream left

-- the packets of frames, as turns of a link
abbrev pub turns_of : Framing → List (Option (List ℕ))
turns_of framing = map Some framing.packets

abbrev pub turns_left : StreamState → StreamView → Option (List ℕ) → Option (List (Option (List ℕ)))
turns_left state stream left = option_map turns_of (framing_left state stream left)

-- fewer than 2^63 bytes were taken and are left, where the source tells
abbrev pub is_below : StreamView → Option (List ℕ) → Bool
is_below stream None = true
is_below stream (Some left) = nat_lt (taken stream + length left) (2 ^ 63)

abbrev pub is_short : Front → Bool
is_short Short = true
is_short (Whole size) = false
is_short (Bad size) = false

-- while the link goes on, less than a frame is held
abbrev pub is_sound : StreamState → List ℕ → Bool
is_sound Going held = is_short (front held)
is_sound Clean held = true
is_sound (Cut at) held = true
is_sound (Broken at size) held = true
is_sound SourceFailed held = is_short (front held)

-- What reading to the end of a frame finds, by the frames left before and after: a packet is in
-- hand, or the source failed and all frames are left, or they end.
abbrev pub HasFound : StreamState → StreamView → StreamView → Option (List ℕ) → Option (List ℕ)
    → Type 0
HasFound Going old new before after = (packet : List ℕ) × (new.packet ≡ Some packet)
    × (length packet ≤ MAX_PACKET)
    × (frames_left old before ≡ option_map (with_packet packet) (frames_left new after))
HasFound Clean old new before after = frames_left old before ≡ framing_left Clean new after
HasFound (Cut at) old new before after = frames_left old before ≡ framing_left (Cut at) new after
HasFound (Broken at size) old new before after =
    frames_left old before ≡ framing_left (Broken at size) new after
HasFound SourceFailed old new before after = frames_left old before ≡ frames_left new after

-- how a stream ends where no byte is left
abbrev pub ending_by : List ℕ → ℕ → StreamState
ending_by [] place = Clean
ending_by (byte ∷ bytes) place = Cut place

abbrev pub ending_of : StreamView → StreamState
ending_of stream = ending_by stream.held stream.place

-- what is found, by what a stream answers; nothing where the frame lacks more
abbrev pub found_of : Fed → Option StreamState
found_of More = None
found_of Ready = Some Going
found_of (BrokenWord at size) = Some (Broken at size)

-- the source's count rose where the source failed, and is left where it didn't
abbrev pub HasSourceCause : StreamState → ℕ → ℕ → Type 0
HasSourceCause Going before now = now ≡ before
HasSourceCause Clean before now = now ≡ before
HasSourceCause (Cut at) before now = now ≡ before
HasSourceCause (Broken at size) before now = now ≡ before
HasSourceCause SourceFailed before now = Rose before now

-- a link that had ended reads no more; of any other the source's count by the state after the call
abbrev pub IsSourceCause : StreamState → StreamState → ℕ → ℕ → Type 0
IsSourceCause Going new before now = HasSourceCause new before now
IsSourceCause Clean new before now = now ≡ before
IsSourceCause (Cut at) new before now = now ≡ before
IsSourceCause (Broken at size) new before now = now ≡ before
IsSourceCause SourceFailed new before now = HasSourceCause new before now

-- the result of one read: more of the frame, or what was found
abbrev pub HasRead : Option StreamState → StreamView → StreamView → Option (List ℕ)
    → Option (List ℕ) → Type 0
HasRead None old new before after = (frames_left old before ≡ frames_left new after)
    × (front new.held ≡ Short) × (length old.held < length new.held)
HasRead (Some found) old new before after =
    HasFound found old new before after × IsTrue (is_sound found new.held)

abbrev pub HasReadCause : Option StreamState → ℕ → ℕ → Type 0
HasReadCause None before now = now ≡ before
HasReadCause (Some found) before now = HasSourceCause found before now

-- neither cut within a frame nor ended by a failure of the source
abbrev pub IsAtLimit : StreamState → Type 0
IsAtLimit Going = Unit {0}
IsAtLimit Clean = Unit {0}
IsAtLimit (Cut at) = ⊥
IsAtLimit (Broken at size) = Unit {0}
IsAtLimit SourceFailed = ⊥

-- one fault more once the frames ended within a frame or at a word that is no size
abbrev pub own_faults : StreamState → ℕ
own_faults Going = 0
own_faults Clean = 0
own_faults (Cut at) = 1
own_faults (Broken at size) = 1
own_faults SourceFailed = 0

-- The frames left before and after a call, where the source tells: a packet is the first of them,
-- and any other answer leaves all, of which a link that has ended has only the end.
abbrev pub TakesFrame : Option Framing → Option Framing → Datagram → List ℕ → Type 0
TakesFrame before after (Got count) into =
    before ≡ option_map (with_packet (take count into)) after
TakesFrame before after Quiet into = ⊥
TakesFrame before after End into = before ≡ after
TakesFrame before after Failed into = before ≡ after

-- What a call of a link answers by the state after it.
abbrev pub AnswersBy : StreamState → Datagram → Type 0
AnswersBy Going answer = (count : ℕ) × (answer ≡ Got count)
AnswersBy Clean answer = answer ≡ End
AnswersBy (Cut at) answer = answer ≡ Failed
AnswersBy (Broken at size) answer = answer ≡ Failed
AnswersBy SourceFailed answer = answer ≡ Failed

-- What a call answers by the state before it and the one after it: once the link has ended the end,
-- and the state stays.
abbrev pub HasAnswered : StreamState → StreamState → Datagram → Type 0
HasAnswered Going new answer = AnswersBy new answer
HasAnswered Clean new answer = (new ≡ Clean) × (answer ≡ End)
HasAnswered (Cut at) new answer = (new ≡ Cut at) × (answer ≡ End)
HasAnswered (Broken at size) new answer = (new ≡ Broken at size) × (answer ≡ End)
HasAnswered SourceFailed new answer = AnswersBy new answer
