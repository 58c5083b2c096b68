-- What comes out of rings, and is written.
use Rattle.std.specs.Prelude.{◌≡◌, ℕ, ◌<◌, List, [], ◌∷◌, ◌++◌, length, get_or, set, Bool, IsTrue}
use Rattle.osc_ends.specs.Sinks.{SinkChange, GainsAll}
use Rattle.rtrb.specs.declared.consumer.Consumer.{Consumer}
use Rattle.rtrb.specs.Ring.{received}

-- bytes came out of the ring at a place
pub record Piece : Type 0 where
  pub place : ℕ
  pub bytes : List ℕ

-- the bytes of pieces, the last of which stands first
abbrev pub text_of : List Piece → List ℕ
text_of [] = []
text_of (piece ∷ before) = text_of before ++ piece.bytes

module _ {A P : Type 0} where
  -- a ring gave these bytes
  abbrev pub Gave : Consumer ℕ A P → Consumer ℕ A P → List ℕ → Type 0
  Gave before after bytes = received after ≡ received before ++ bytes

  -- A ring gave bytes, and if all of them were taken, the sink has gained them.
  pub record PrintsRing (before after : Consumer ℕ A P) (sink : SinkChange) (taken : Bool)
      : Type 0 where
    pub bytes : List ℕ
    pub gave : Gave before after bytes
    pub gains : IsTrue taken → GainsAll sink bytes

  -- the ring at the piece's place gave it, and the others stand as they were
  pub record TakesAt (piece : Piece) (before after : List (Consumer ℕ A P)) : Type 0 where
    pub ring : Consumer ℕ A P
    pub left : Consumer ℕ A P
    pub within : piece.place < length before
    pub was : ring ≡ get_or before piece.place ring
    pub now : after ≡ set before piece.place left
    pub gave : Gave ring left piece.bytes

  -- these pieces came out of the rings, the last of which stands first
  abbrev pub TakenFrom : List Piece → List (Consumer ℕ A P) → List (Consumer ℕ A P) → Type 0
  TakenFrom [] before after = after ≡ before
  TakenFrom (piece ∷ pieces) before after =
      (mid : List (Consumer ℕ A P)) × TakenFrom pieces before mid × TakesAt piece mid after

  -- pieces came out of the rings, and if all of them were taken, the sink has gained them
  pub record Prints (before after : List (Consumer ℕ A P)) (sink : SinkChange) (taken : Bool)
      : Type 0
    where
      pub pieces : List Piece
      pub came : TakenFrom pieces before after
      pub gains : IsTrue taken → GainsAll sink (text_of pieces)
