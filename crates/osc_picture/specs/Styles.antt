-- How a picture begins (SVG 1.1, "The svg element"), and how its elements look (CSS 2.2; the two
-- conditions: Media Queries, levels 3 and 5).
use Rattle.std.specs.Prelude.{ℕ, List, ◌++◌, codes}

-- how it begins, up to its height
unfoldable pub svg_front : List ℕ
svg_front = codes "<svg xmlns=\"http://www.w3.org/2000/svg\" viewBox=\"0 0 8000 "

-- what stands before the height of the picture
unfoldable pub style_front : List ℕ
style_front = codes "\n" ++ codes "svg{background:#fff;height:auto;aspect-ratio:8000/"

-- and after it: a narrow page has larger text, and a dark one other colours
unfoldable pub style_rest : List ℕ
style_rest =
    codes "}\n"
    ++ codes "text{font:112px system-ui,sans-serif;fill:#555}\n"
    ++ codes ".t{font-size:180px;font-weight:600;fill:#111}\n"
    ++ codes ".g{font:600 120px ui-monospace,Menlo,Consolas,monospace;fill:#111}\n"
    ++ codes ".a,.q{font:120px ui-monospace,Menlo,Consolas,monospace;fill:#111}\n"
    ++ codes ".v{font-size:80px}\n"
    ++ codes ".p{fill:#fff}\n"
    ++ codes ".l{fill:#f0f1f4}\n"
    ++ codes "path{fill:none;stroke:#111;stroke-width:10}\n"
    ++ codes ".s{stroke:#d4d6db;stroke-width:8}\n"
    ++ codes ".j{stroke:#8a8f99;stroke-width:5}\n"
    ++ codes ".k{stroke-width:5}\n"
    ++ codes ".c{stroke:#0a5fc2;stroke-width:13}\n"
    ++ codes ".w{stroke:#555;stroke-width:10;stroke-dasharray:12 24}\n"
    ++ codes ".o{stroke-width:10}\n"
    ++ codes ".x{stroke:#c4141c;stroke-width:20}\n"
    ++ codes ".e{text-anchor:end}\n"
    ++ codes ".m{text-anchor:middle}\n"
    ++ codes "@media(max-width:500px){text,.g{font-size:180px}.t{font-size:220px}.a{font-s"
    ++ codes "ize:164px}.q{font-size:140px}.v{font-size:120px}.h{display:none}\n"
    ++ codes "path{stroke-width:18}.k{stroke-width:12}.c{stroke-width:22}}\n"
    ++ codes "@media(prefers-color-scheme:dark){svg{background:#15171b}.p{fill:#15171b}tex"
    ++ codes "t{fill:#a8adb8}.t,.g,.a,.q{fill:#f2f3f5}.l{fill:#212429}\n"
    ++ codes "path{stroke:#f2f3f5}.s{stroke:#3a3e46}.j{stroke:#7d838f}.c{stroke:#6db3ff}.w"
    ++ codes "{stroke:#a8adb8}.x{stroke:#ff6b6b}}\n"
