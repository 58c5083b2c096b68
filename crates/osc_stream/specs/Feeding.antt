-- What a stream knows, and the result of taking bytes.
use Rattle.std.specs.Prelude.{◌≡◌, ℕ, ◌+◌, ◌≤◌, Bool, nat_le, ◌==◌, true, false, List, [], ◌++◌}
use Rattle.std.specs.Prelude.{length, take, drop, Option, Some, None}
use Rattle.osc_stream.specs.declared.fed.Fed.{Fed}
use Rattle.osc_stream.specs.declared.fed.Fed.TheVariants.{More, Ready, Broken}
use Rattle.osc_stream.specs.declared.front.Front.{Front}
use Rattle.osc_stream.specs.declared.front.Front.TheVariants.{Short, Whole, Bad}
use Rattle.osc_stream.specs.Frames.{front}

-- what a stream knows: the bytes of the frame that isn't whole yet, the packet of the last `Ready`
-- while it is in hand, and the place of the frame that is next
pub record StreamView : Type 0 where
  pub held : List ℕ
  pub packet : Option (List ℕ)
  pub place : ℕ

-- nothing is held and nothing was taken
abbrev pub at_start : StreamView
at_start = record { held = []; packet = None; place = 0 }

-- how many bytes were taken
abbrev pub taken : StreamView → ℕ
taken stream = stream.place + length stream.held

-- what may be held: less than a frame, or a word that is no size
abbrev pub is_held_by : Front → ℕ → Bool
is_held_by Short size = true
is_held_by (Whole packet) size = false
is_held_by (Bad word) size = size == 4

abbrev pub is_held : List ℕ → Bool
is_held bytes = is_held_by (front bytes) (length bytes)

-- a stream of such bytes, of which a packet is in hand or isn't
abbrev pub view_of : Bool → List ℕ → ℕ → StreamView
view_of true bytes place = record { held = []; packet = Some (drop 4 bytes); place = place }
view_of false bytes place = record { held = bytes; packet = None; place = place }

-- the bytes that a stream keeps
abbrev pub is_kept : Bool → List ℕ → Bool
is_kept true bytes = nat_le 4 (length bytes)
is_kept false bytes = is_held bytes

-- What adding so many bytes of a piece to the result of is held: they go to the end, up to where a
-- packet is whole or the word is no size.
abbrev pub has_filled : Front → ℕ → ℕ → ℕ → Type 0
has_filled Short count piece size = count ≡ piece
has_filled (Whole packet) count piece size = size ≡ 4 + packet
has_filled (Bad word) count piece size = size ≡ 4

pub record HasFilled (front_found : Front) (count : ℕ) (piece old new : List ℕ) : Type 0 where
  pub within : count ≤ length piece
  pub items : new ≡ old ++ take count piece
  pub found : front_found ≡ front new
  pub size : has_filled front_found count (length piece) (length new)

-- The result of taking so many bytes of a piece. What was held and what was taken, together, are
-- what is held now, or one size and its packet.
abbrev pub IsFed : Fed → ℕ → List ℕ → StreamView → StreamView → Type 0
IsFed More count piece old new =
    (count ≡ length piece) × (front (old.held ++ piece) ≡ Short)
    × (new ≡ record { held = old.held ++ piece; packet = None; place = old.place })
IsFed Ready count piece old new = (size : ℕ)
    × (front (old.held ++ take count piece) ≡ Whole size)
    × (length (old.held ++ take count piece) ≡ 4 + size)
    × (new ≡ record {
      held = [];
      packet = Some (drop 4 (old.held ++ take count piece));
      place = old.place + (4 + size);
    })
IsFed (Broken at size) count piece old new =
    (at ≡ old.place) × (front (old.held ++ take count piece) ≡ Bad size)
    × (length (old.held ++ take count piece) ≡ 4)
    × (new ≡ record { held = old.held ++ take count piece; packet = None; place = old.place })
