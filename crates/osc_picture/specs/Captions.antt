-- The texts above the marks of calls.
use Rattle.std.specs.Prelude.{ℕ, ◌+◌, ◌*◌, min, Bool, ◌&&◌, ◌||◌, nat_le, nat_lt, if◌then◌else◌}
use Rattle.std.specs.Prelude.{List, [], ◌∷◌, ◌++◌, length, filter, codes}
use Rattle.osc_picture.specs.declared.frame.Frame.{Frame}
use Rattle.osc_picture.specs.declared.caption.Side.{Side}
use Rattle.osc_picture.specs.declared.caption.Side.TheVariants.{After, Before, Nowhere}
use Rattle.osc_picture.specs.Frames.{x_of}
use Rattle.osc_picture.specs.Elements.{words_text}

-- a byte that begins a character: all but those from 0x80 to 0xBF
abbrev pub begins_char : ℕ → Bool
begins_char byte = nat_lt byte 128 || nat_le 192 byte

-- how many characters bytes are
abbrev pub width : List ℕ → ℕ
width words = length (filter begins_char words)

-- how much room words take: 84 a character, up to 24 of them
abbrev pub room_of : List ℕ → ℕ
room_of words = min (width words) 24 * 84

-- Words stand after their call where it is free and they end within 7,940; else before it where it
-- is free; else nowhere.
abbrev pub side_of : ℕ → ℕ → ℕ → Side
side_of free x room =
    if nat_le free x && nat_le (x + room) 7940 then After
    else if nat_le (free + room) x then Before else Nowhere

-- from where on it is free then
abbrev pub free_after : Side → ℕ → ℕ → ℕ → ℕ
free_after After free x room = x + room + 84
free_after Before free x room = x + 84
free_after Nowhere free x room = free

abbrev pub caption : Side → ℕ → ℕ → List ℕ → List ℕ
caption After x y words = words_text (codes "q") x y words
caption Before x y words = words_text (codes "q e") x y words
caption Nowhere x y words = []

-- the texts of calls, where it is free from a place on
abbrev pub captions : Frame → ℕ → ℕ → List (ℕ × List ℕ) → List ℕ
captions frame y free [] = []
captions frame y free (said ∷ texts) =
    let x = x_of frame said.0 in
    let room = room_of said.1 in
    let side = side_of free x room in
    caption side x y said.1 ++ captions frame y (free_after side free x room) texts
