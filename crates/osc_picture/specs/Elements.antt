-- The elements of a picture, each a line: paths, words and rectangles (SVG 1.1, "Paths", "Text", "Basic Shapes").
use Rattle.std.specs.Prelude.{ℕ, ◌==◌, ◌||◌, nat_lt, if◌then◌else◌, List, [], ◌∷◌, ◌++◌, length, codes}
use Rattle.std.specs.Fmt.{decimal}
use Rattle.std.specs.List.{flat_map}

-- a letter and a number
abbrev pub step : ℕ → ℕ → List ℕ
step letter number = letter ∷ decimal number

-- a letter, and the two numbers of a point with a space between them
abbrev pub point : ℕ → ℕ → ℕ → List ℕ
point letter x y = step letter x ++ step 32 y

-- a path of a kind, if it has a step
unfoldable pub path_text : List ℕ → List ℕ → List ℕ
path_text kind steps =
    if length steps == 0 then []
    else codes "<path " ++ kind ++ codes "d=\"" ++ steps ++ codes "\"/>\n"

-- a byte as XML wants it (XML 1.0, "Character Data and Markup"), and a control as a point
abbrev pub escaped : ℕ → List ℕ
escaped byte =
    if nat_lt byte 32 || byte == 127 then codes "." else
    if byte == 38 then codes "&amp;" else if byte == 60 then codes "&lt;" else byte ∷ []

-- words of a kind at a place
unfoldable pub words_text : List ℕ → ℕ → ℕ → List ℕ → List ℕ
words_text kind x y words =
    codes "<text class=\"" ++ kind ++ (codes "\" x=\"" ++ decimal x) ++ (codes "\" y=\"" ++ decimal y)
    ++ codes "\">" ++ flat_map escaped words ++ codes "</text>\n"

-- a rectangle of a kind: the place of its upper left corner, and its size
unfoldable pub rect_text : List ℕ → ℕ → ℕ → ℕ → ℕ → List ℕ
rect_text kind x y width height =
    codes "<rect class=\"" ++ kind ++ (codes "\" x=\"" ++ decimal x) ++ (codes "\" y=\"" ++ decimal y)
    ++ (codes "\" width=\"" ++ decimal width) ++ (codes "\" height=\"" ++ decimal height)
    ++ codes "\"/>\n"
