-- The text of a picture.
use Rattle.std.specs.Prelude.{ℕ, ◌+◌, ◌-◌, ◌==◌, Bool, if◌then◌else◌, List, [], ◌++◌, length, codes}
use Rattle.std.specs.Fmt.{decimal}
use Rattle.osc_picture.specs.declared.frame.Frame.{Frame}
use Rattle.osc_picture.specs.declared.picture.Picture.{Picture}
use Rattle.osc_picture.specs.Bundles.{bundles_text}
use Rattle.osc_picture.specs.Elements.{words_text, rect_text}
use Rattle.osc_picture.specs.Headings.{top_of, heading_text}
use Rattle.osc_picture.specs.Legends.{legend}
use Rattle.osc_picture.specs.Scales.{scale_text}
use Rattle.osc_picture.specs.Layouts.{Places, layout_of}
use Rattle.osc_picture.specs.Strips.{heads, lives, strips}
use Rattle.osc_picture.specs.Styles.{style_front, style_rest, svg_front}
use Rattle.osc_picture.specs.Thinnings.{frame_of}

-- the first line of a picture that is so high
unfoldable pub opening_text : ℕ → List ℕ
opening_text height =
    svg_front ++ decimal height ++ codes "\" width=\"100%\">\n"

-- how its elements look
unfoldable pub style_text : ℕ → List ℕ
style_text height =
    codes "<style>" ++ style_front ++ decimal height ++ style_rest ++ codes "</style>\n"

-- what stands before all elements
unfoldable pub front_text : ℕ → List ℕ
front_text height =
    opening_text height ++ style_text height ++ rect_text (codes "p") 0 0 8000 height

-- when methods were there, and the scale
unfoldable pub ground_text : Frame → Places → ℕ → Picture → List ℕ
ground_text frame layout bottom picture =
    lives frame layout.upper picture.rows.items
    ++ scale_text frame layout.top bottom

-- what the rows are that have no method
abbrev pub unheard_head : ℕ → Bool → List ℕ
unheard_head y none = if none then [] else words_text (codes "g") 150 (y + 180) (codes "no method")

-- the names above rows, the lines of bundles, and the rows
unfoldable pub rows_text : Frame → Places → Picture → List ℕ
rows_text frame layout picture =
    heads layout.upper picture.rows.items
    ++ unheard_head layout.middle (length picture.unheard.items == 0)
    ++ bundles_text frame (layout.upper ++ layout.lower)
    picture.bundles.items
    ++ strips frame layout.upper picture.rows.items
    ++ strips frame layout.lower picture.unheard.items

-- the text of a picture whose rows stand so
unfoldable pub text_of : Frame → Places → ℕ → Picture → List ℕ
text_of frame layout bottom picture =
    front_text (bottom + 910) ++ ground_text frame layout bottom picture
    ++ rows_text frame layout picture ++ heading_text frame picture ++ legend (bottom + 480)
    ++ codes "</svg>\n"

-- and where they stand below its heading
abbrev pub places_of : Picture → Places
places_of picture = layout_of (top_of (frame_of picture) picture) picture

-- the text of a picture
abbrev pub svg_text : Picture → List ℕ
svg_text picture =
    text_of (frame_of picture) (places_of picture) ((places_of picture).end - 50) picture
