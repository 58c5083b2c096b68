-- What each form means, in two lines.
use Rattle.std.specs.Prelude.{ℕ, ◌+◌, ◌-◌, List, [], ◌++◌, codes}
use Rattle.osc_picture.specs.Elements.{step, point, path_text, words_text, rect_text}
use Rattle.osc_picture.specs.Columns.{upright, open_mark, cross}
use Rattle.osc_picture.specs.Waits.{square}

abbrev pub line : List ℕ → ℕ → ℕ → ℕ → List ℕ
line kind x top end = path_text kind (upright x top end)

unfoldable pub call_key : ℕ → List ℕ
call_key y = line [] 180 (y - 110) (y + 10) ++ words_text [] 260 y (codes "call")

unfoldable pub bundle_key : ℕ → List ℕ
bundle_key y =
    line (codes "class=\"j\" ") 1320 (y - 110) (y + 10)
    ++ path_text [] (upright 1320 (y - 110) (y - 70) ++ upright 1320 (y - 30) (y + 10))
    ++ words_text [] 1400 y (codes "bundle")

unfoldable pub wait_key : ℕ → List ℕ
wait_key y =
    path_text (codes "class=\"w\" ") (point 77 2710 (y - 50) ++ step 72 2860)
    ++ square 2710 (y - 50) ++ line [] 2860 (y - 90) (y - 10)
    ++ words_text [] 2940 y (codes "came and waited")

unfoldable pub cross_key : ℕ → List ℕ
cross_key y =
    path_text (codes "class=\"x\" ") (cross 4930 (y - 50))
    ++ words_text [] 5020 y (codes "discarded or refused")

unfoldable pub unheard_key : ℕ → List ℕ
unheard_key y =
    path_text (codes "class=\"o\" ") (open_mark 180 (y - 100) y)
    ++ words_text [] 260 y (codes "no method")

unfoldable pub number_key : ℕ → List ℕ
number_key y =
    path_text (codes "class=\"c\" ") (point 77 1270 y ++ step 72 1310 ++ step 86 (y - 50)
    ++ step 72 1350 ++ step 86 (y - 100) ++ step 72 1390)
    ++ words_text [] 1460 y (codes "its number")

unfoldable pub life_key : ℕ → List ℕ
life_key y =
    rect_text (codes "l") 2690 (y - 105) 190 120
    ++ words_text [] 2940 y (codes "the method is there")

-- all of them, the first line at a height
unfoldable pub legend : ℕ → List ℕ
legend y =
    call_key y ++ bundle_key y ++ wait_key y ++ cross_key y ++ unheard_key (y + 230)
    ++ number_key (y + 230) ++ life_key (y + 230)
