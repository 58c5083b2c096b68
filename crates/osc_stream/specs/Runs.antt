-- Calls of a stream one after the other, with any pieces.
use Rattle.std.specs.Prelude.{◌≡◌, ℕ, List, [], ◌∷◌, ◌++◌, take, Option, Some, None}
use Rattle.osc_stream.specs.declared.fed.Fed.{Fed}
use Rattle.osc_stream.specs.declared.fed.Fed.TheVariants.{More, Ready, Broken}
use Rattle.osc_stream.specs.Feeding.{StreamView, IsFed}

-- a call that takes bytes: the piece, how many bytes of it were taken, the answer, and what the
-- stream knows then; bytes that weren't taken may come again in the next piece
pub record Feed : Type 0 where
  pub piece : List ℕ
  pub count : ℕ
  pub fed : Fed
  pub next : StreamView

-- such calls lead from one state of a stream to another
abbrev pub IsRun : StreamView → List Feed → StreamView → Type 0
IsRun old [] new = old ≡ new
IsRun old (feed ∷ feeds) new =
    IsFed feed.fed feed.count feed.piece old feed.next × IsRun feed.next feeds new

-- the bytes that they took, in a row
abbrev pub bytes_taken : List Feed → List ℕ
bytes_taken [] = []
bytes_taken (feed ∷ feeds) = take feed.count feed.piece ++ bytes_taken feeds

-- the packet in hand, where the answer was `Ready`
abbrev pub ready_packets : Fed → Option (List ℕ) → List (List ℕ)
ready_packets More packet = []
ready_packets Ready None = []
ready_packets Ready (Some packet) = packet ∷ []
ready_packets (Broken at size) packet = []

-- the packets that they answered, in a row
abbrev pub packets_answered : List Feed → List (List ℕ)
packets_answered [] = []
packets_answered (feed ∷ feeds) =
    ready_packets feed.fed feed.next.packet ++ packets_answered feeds
