-- Lines and boxes, dealt to lanes one line after another.
use Rattle.std.proofs.Common.{◌≡◌, ℕ, zero, suc, ◌+◌, ◌<◌, ◌≤◌, ◌==◌, Bool, true, false, cond, List, [], ◌∷◌, ◌++◌, map, length, filter, take, drop, replicate}
use Rattle.std.proofs.Common.{get_or, slice_set, All, refl, sym, ap, subst, ◌∙◌, arith, append_assoc, length-drop}
use Rattle.std.proofs.lemmas.Bool.Decides.{nat_tests}
use Rattle.std.proofs.lemmas.List.{append-nil, drop-drop, length-map, length-replicate}
use Rattle.std.proofs.lemmas.List.Elements.{All-nil, All-cons, All-head, All-tail}
use Rattle.osc_lanes.specs.declared.part.LanePart.{LanePart}
use Rattle.osc_lanes.specs.Performs.{Part, part_of, IsWhole}
use Rattle.osc_script.specs.declared.line.Line.{Line}
use Rattle.osc_script.specs.declared.lane.TheConstants.{MAX_LANES}
use Rattle.osc_script.specs.declared.mode.Mode.TheVariants.{Lanes}
use Rattle.osc_script.specs.Scripts.{AreOf}
use Rattle.osc_script.specs.Adds.{is_add, adds_of, count_adds}
use Rattle.osc_script.proofs.Counts.{counted}
use Rattle.osc_top.specs.Lanes.{lane_count, lines_in, boxes_at, boxes_in, parts_from, parts_of}
use Rattle.osc_top.specs.Dealt.{no_part, part_with, dealt_at}

-- one line more, of this lane or of another

pub lines_here : (lane : ℕ) (line : Line) (rest : List Line) → (line.lane == lane) ≡ true → lines_in lane (line ∷ rest) ≡ line ∷ lines_in lane rest
lines_here lane line rest is = ap (λ (t : Bool). cond t (line ∷ lines_in lane rest) (lines_in lane rest)) is

pub lines_other : (lane : ℕ) (line : Line) (rest : List Line) → (line.lane == lane) ≡ false → lines_in lane (line ∷ rest) ≡ lines_in lane rest
lines_other lane line rest is = ap (λ (t : Bool). cond t (line ∷ lines_in lane rest) (lines_in lane rest)) is

boxes_by : {M : Type 0} (lane : ℕ) (line : Line) (others : List Line) (boxes : List M) (t here : Bool) → cond t 1 0 ≤ length boxes → (line.lane == lane) ≡ here
    → boxes_at lane (cond t (line ∷ others) others) boxes ≡ cond here (take (cond t 1 0) boxes) [] ++ boxes_at lane others (drop (cond t 1 0) boxes)
boxes_by lane line others boxes false true handed is = refl
boxes_by lane line others boxes false false handed is = refl
boxes_by lane line others [] true here handed is = absurd (omega arith)
boxes_by {M} lane line others (box ∷ boxes) true true handed is =
    ap (λ (t : Bool). cond {A = List M} t (box ∷ []) [] ++ boxes_at lane others boxes) is
boxes_by {M} lane line others (box ∷ boxes) true false handed is =
    ap (λ (t : Bool). cond {A = List M} t (box ∷ []) [] ++ boxes_at lane others boxes) is

module _ {M : Type 0} where
  -- from this lane on, what each part has, and then what is still to be dealt to its lane, is all of its lane
  abbrev pub AreDealt : ℕ → List (Part M) → List Line → List M → List Line → List M → Type 0
  AreDealt lane [] rest boxes lines bank = Unit {0}
  AreDealt lane (part ∷ parts) rest boxes lines bank =
      (part.lines ++ lines_in lane rest ≡ lines_in lane lines) × (part.boxes ++ boxes_in lane rest boxes ≡ boxes_in lane lines bank)
      × AreDealt (lane + 1) parts rest boxes lines bank

  pub none_dealt : (lane count : ℕ) (lines : List Line) (bank : List M) → AreDealt lane (replicate count no_part) lines bank lines bank
  none_dealt lane zero lines bank = tt
  none_dealt lane (suc count) lines bank = (refl, refl, none_dealt (lane + 1) count lines bank)

  pub all_dealt : (lane : ℕ) (parts : List (Part M)) (boxes : List M) (lines : List Line) (bank : List M) → AreDealt lane parts [] boxes lines bank
      → parts ≡ parts_from lane (length parts) lines bank
  all_dealt lane [] boxes lines bank dealt = refl
  all_dealt lane (part ∷ parts) boxes lines bank dealt =
      let lines_so : part.lines ≡ lines_in lane lines = sym (append-nil part.lines) ∙ dealt.0 in
      let boxes_so : part.boxes ≡ boxes_in lane lines bank = sym (append-nil part.boxes) ∙ dealt.1 in
      let here : part ≡ record { lines = lines_in lane lines; boxes = boxes_in lane lines bank } = λ i. record { lines = lines_so i; boxes = boxes_so i } in
      let later : parts ≡ parts_from (lane + 1) (length parts) lines bank = all_dealt (lane + 1) parts boxes lines bank dealt.2 in
      cc (here, later)

  module _ (line : Line) (rest : List Line) (boxes : List M) (lines : List Line) (bank : List M) (handed : adds_of line.act ≤ length boxes) where
    boxes_here : (lane : ℕ) → (line.lane == lane) ≡ true
        → boxes_in lane (line ∷ rest) boxes ≡ take (adds_of line.act) boxes ++ boxes_in lane rest (drop (adds_of line.act) boxes)
    boxes_here lane is = boxes_by lane line (filter (λ other. is_add other.act) rest) boxes (is_add line.act) true handed is

    boxes_other : (lane : ℕ) → (line.lane == lane) ≡ false → boxes_in lane (line ∷ rest) boxes ≡ boxes_in lane rest (drop (adds_of line.act) boxes)
    boxes_other lane is = boxes_by lane line (filter (λ other. is_add other.act) rest) boxes (is_add line.act) false handed is

    -- the parts after that of the line
    dealt_after : (lane : ℕ) (parts : List (Part M)) → line.lane < lane → AreDealt lane parts (line ∷ rest) boxes lines bank
        → AreDealt lane parts rest (drop (adds_of line.act) boxes) lines bank
    dealt_after lane [] below dealt = tt
    dealt_after lane (part ∷ parts) below dealt =
        let other : (line.lane == lane) ≡ false = grind (arith, nat_tests) in (
          ap (λ (l : List Line). part.lines ++ l) (sym (lines_other lane line rest other)) ∙ dealt.0,
          ap (λ (l : List M). part.boxes ++ l) (sym (boxes_other lane other)) ∙ dealt.1,
          dealt_after (lane + 1) parts (omega arith) dealt.2,
        )

    -- the part in the line's place has it, with its box
    pub line_dealt : (lane place : ℕ) (parts : List (Part M)) → line.lane ≡ lane + place → AreDealt lane parts (line ∷ rest) boxes lines bank
        → AreDealt lane (dealt_at place line (take (adds_of line.act) boxes) parts) rest (drop (adds_of line.act) boxes) lines bank
    line_dealt lane place [] at dealt = tt
    line_dealt lane zero (part ∷ parts) at dealt =
        let here : (line.lane == lane) ≡ true = grind (arith, nat_tests) in
        let taken = take (adds_of line.act) boxes in (
          append_assoc part.lines (line ∷ []) (lines_in lane rest) ∙ ap (λ (l : List Line). part.lines ++ l) (sym (lines_here lane line rest here)) ∙ dealt.0,
          append_assoc part.boxes taken (boxes_in lane rest (drop (adds_of line.act) boxes))
              ∙ ap (λ (l : List M). part.boxes ++ l) (sym (boxes_here lane here)) ∙ dealt.1,
          dealt_after (lane + 1) parts (omega arith) dealt.2,
        )
    line_dealt lane (suc place) (part ∷ parts) at dealt =
        let other : (line.lane == lane) ≡ false = grind (arith, nat_tests) in (
          ap (λ (l : List Line). part.lines ++ l) (sym (lines_other lane line rest other)) ∙ dealt.0,
          ap (λ (l : List M). part.boxes ++ l) (sym (boxes_other lane other)) ∙ dealt.1,
          line_dealt (lane + 1) place parts (omega arith) dealt.2,
        )

  -- the code's part in a place
  pub part_set : (line : Line) (boxes : List M) (parts : List (LanePart M)) (place : ℕ) (old one : LanePart M) → place < length parts
      → old ≡ get_or parts place old → part_of one ≡ part_with line boxes (part_of old)
      → map part_of (slice_set parts place one) ≡ dealt_at place line boxes (map part_of parts)
  part_set line boxes [] place old one within is new = absurd (omega arith)
  part_set line boxes (part ∷ parts) zero old one within is new =
      let here : part_of one ≡ part_with line boxes (part_of part) = new ∙ ap (λ (p : LanePart M). part_with line boxes (part_of p)) is in
      ap (λ (p : Part M). p ∷ map part_of parts) here
  part_set line boxes (part ∷ parts) (suc place) old one within is new =
      ap (λ (l : List (Part M)). part_of part ∷ l) (part_set line boxes parts place old one (omega arith) is new)

  pub dealt_length : (place : ℕ) (line : Line) (boxes : List M) (parts : List (Part M)) → length (dealt_at place line boxes parts) ≡ length parts
  dealt_length place line boxes [] = refl
  dealt_length zero line boxes (part ∷ parts) = refl
  dealt_length (suc place) line boxes (part ∷ parts) = ap suc (dealt_length place line boxes parts)

  pub parts_length : (lane count : ℕ) (lines : List Line) (bank : List M) → length (parts_from lane count lines bank) ≡ count
  parts_length lane zero lines bank = refl
  parts_length lane (suc count) lines bank = ap suc (parts_length (lane + 1) count lines bank)

-- Lines were dealt, and the rest are not yet: what the parts have, and the boxes that wait.
pub record IsDealing {M : Type 0} (lines : List Line) (bank : List M) (parts : List (Part M)) (rest : List Line) (boxes : List M) : Type 0 where
  pub lanes : lane_count rest ≤ length parts
  pub count : length parts ≡ lane_count lines
  pub handed : count_adds rest ≤ length boxes
  pub dealt : AreDealt 0 parts rest boxes lines bank
  pub others : drop (count_adds rest) boxes ≡ drop (count_adds lines) bank

pub dealing_begins : {M : Type 0} (lines rest : List Line) (bank boxes : List M) (parts : List (Part M)) → rest ≡ lines → boxes ≡ bank
    → parts ≡ replicate (lane_count lines) no_part → count_adds lines ≤ length bank → IsDealing lines bank parts rest boxes
dealing_begins {M} lines rest bank boxes parts all whole none enough =
    subst (λ (l : List Line). IsDealing lines bank parts l boxes) (sym all)
    (subst (λ (b : List M). IsDealing lines bank parts lines b) (sym whole)
    (subst (λ (p : List (Part M)). IsDealing lines bank p lines bank) (sym none)
    (record {
      lanes = omega (arith, length-replicate (lane_count lines) (no_part {M = M}));
      count = length-replicate (lane_count lines) (no_part {M = M});
      handed = enough;
      dealt = none_dealt 0 (lane_count lines) lines bank;
      others = refl;
    })))

module _ {M : Type 0} (lines : List Line) (bank : List M) (parts : List (Part M)) (now rest : List Line) (line : Line) (boxes : List M)
    (dealing : IsDealing lines bank parts now boxes) (is : now ≡ line ∷ rest) where
  pub next_lane : line.lane < length parts
  next_lane = omega (arith, dealing.lanes, ap lane_count is)

  pub next_handed : adds_of line.act ≤ length boxes
  next_handed = omega (arith, dealing.handed, ap count_adds is)

  pub deals_on : (parts' : List (Part M)) (boxes' : List M) → parts' ≡ dealt_at line.lane line (take (adds_of line.act) boxes) parts
      → boxes' ≡ drop (adds_of line.act) boxes → IsDealing lines bank parts' rest boxes'
  deals_on parts' boxes' grown left =
      let taken = take (adds_of line.act) boxes in
      let more : count_adds now ≡ adds_of line.act + count_adds rest = ap count_adds is in
      let long : length (dealt_at line.lane line taken parts) ≡ length parts = dealt_length line.lane line taken parts in
      let here : AreDealt 0 parts (line ∷ rest) boxes lines bank = subst (λ (l : List Line). AreDealt 0 parts l boxes lines bank) is dealing.dealt in
      subst (λ (p : List (Part M)). IsDealing lines bank p rest boxes') (sym grown)
      (subst (λ (b : List M). IsDealing lines bank (dealt_at line.lane line taken parts) rest b) (sym left)
      (record {
        lanes = omega (arith, dealing.lanes, ap lane_count is, long);
        count = long ∙ dealing.count;
        handed = omega (arith, dealing.handed, more, length-drop (adds_of line.act) boxes);
        dealt = line_dealt line rest boxes lines bank next_handed 0 line.lane parts (omega arith) here;
        others =
            drop-drop (count_adds rest) (adds_of line.act) boxes
            ∙ ap (λ (n : ℕ). drop n boxes) (omega (arith, more)) ∙ dealing.others;
      }))

pub all_parts : {M : Type 0} (lines rest : List Line) (bank boxes : List M) (parts : List (Part M)) → IsDealing lines bank parts rest boxes → rest ≡ []
    → parts ≡ parts_of lines bank
all_parts {M} lines rest bank boxes parts dealing none =
    all_dealt 0 parts boxes lines bank (subst (λ (l : List Line). AreDealt 0 parts l boxes lines bank) none dealing.dealt)
    ∙ ap (λ (n : ℕ). parts_from 0 n lines bank) dealing.count

pub all_others : {M : Type 0} (lines rest : List Line) (bank boxes : List M) (parts : List (Part M)) → IsDealing lines bank parts rest boxes → rest ≡ []
    → boxes ≡ drop (count_adds lines) bank
all_others lines rest bank boxes parts dealing none = sym (ap (λ (l : List Line). drop (count_adds l) boxes) none) ∙ dealing.others

-- Each lane has a box for each line that adds a method.

one_more : {M : Type 0} (line : Line) (lane_lines others : List Line) (lane : ℕ) (boxes : List M) (t here : Bool) → adds_of line.act ≡ cond t 1 0
    → (line.lane == lane) ≡ here → length (cond t (line ∷ others) others) ≤ length boxes
    → ((rest : List M) → length others ≤ length rest → count_adds lane_lines ≡ length (boxes_at lane others rest))
    → count_adds (cond here (line ∷ lane_lines) lane_lines) ≡ length (boxes_at lane (cond t (line ∷ others) others) boxes)
one_more line lane_lines others lane boxes false true add is enough more = omega (arith, add, more boxes enough)
one_more line lane_lines others lane boxes false false add is enough more = more boxes enough
one_more line lane_lines others lane [] true here add is enough more = absurd (omega arith)
one_more {M} line lane_lines others lane (box ∷ boxes) true true add is enough more =
    omega (arith, add, more boxes (omega arith), ap (λ (t : Bool). length (cond {A = List M} t (box ∷ []) [] ++ boxes_at lane others boxes)) is)
one_more {M} line lane_lines others lane (box ∷ boxes) true false add is enough more =
    omega (arith, more boxes (omega arith), ap (λ (t : Bool). length (cond {A = List M} t (box ∷ []) [] ++ boxes_at lane others boxes)) is)

boxes_count : {M : Type 0} (lane : ℕ) (lines : List Line) (bank : List M) → length (filter (λ line. is_add line.act) lines) ≤ length bank
    → count_adds (lines_in lane lines) ≡ length (boxes_in lane lines bank)
boxes_count lane [] bank enough = refl
boxes_count lane (line ∷ lines) bank enough =
    one_more line (lines_in lane lines) (filter (λ other. is_add other.act) lines) lane bank (is_add line.act) (line.lane == lane) refl refl
    enough (λ rest few. boxes_count lane lines rest few)

pub all_whole : {M : Type 0} (lane count : ℕ) (lines : List Line) (bank : List M) → count_adds lines ≤ length bank
    → All IsWhole (parts_from lane count lines bank)
all_whole {M} lane zero lines bank enough = All-nil (IsWhole {M = M})
all_whole {M} lane (suc count) lines bank enough =
    All-cons (IsWhole {M = M}) (record { lines = lines_in lane lines; boxes = boxes_in lane lines bank }) (parts_from (lane + 1) count lines bank)
    (omega (arith, boxes_count lane lines bank (omega (arith, counted lines, enough)))) (all_whole (lane + 1) count lines bank enough)

-- lanes are few
pub few_lanes : (lines : List Line) → AreOf Lanes lines → lane_count lines ≤ MAX_LANES
few_lanes [] few = omega arith
few_lanes (line ∷ lines) few = let more = few_lanes lines few.1 in omega (arith, few.0, more)

all_unmapped : {X Y : Type 0} (P : Y → Type 0) (f : X → Y) (xs : List X) → All P (map f xs) → All (λ x. P (f x)) xs
all_unmapped P f [] all = All-nil (λ x. P (f x))
all_unmapped P f (x ∷ xs) all =
    All-cons (λ x. P (f x)) x xs (All-head P (f x) (map f xs) all) (all_unmapped P f xs (All-tail P (f x) (map f xs) all))

pub parts_whole : {M : Type 0} (lines : List Line) (bank : List M) (parts : List (LanePart M)) → map part_of parts ≡ parts_of lines bank
    → count_adds lines ≤ length bank → All (λ part. IsWhole (part_of part)) parts
parts_whole {M} lines bank parts dealt enough =
    all_unmapped (IsWhole {M = M}) part_of parts
    (subst (All (IsWhole {M = M})) (sym dealt) (all_whole 0 (lane_count lines) lines bank enough))

pub few_parts : {M : Type 0} (lines : List Line) (bank : List M) (parts : List (LanePart M)) → map part_of parts ≡ parts_of lines bank → AreOf Lanes lines
    → length parts ≤ MAX_LANES
few_parts {M} lines bank parts dealt lanes =
    omega (
      arith,
      length-map parts (part_of {M = M}),
      ap (λ (l : List (Part M)). length l) dealt,
      parts_length 0 (lane_count lines) lines bank,
      few_lanes lines lanes,
    )
