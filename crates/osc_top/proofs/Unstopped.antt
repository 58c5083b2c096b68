-- A recording of as many bytes as `enough_lanes` says stops no lane of a script.
use Rattle.std.proofs.Common.{◌≡◌, ℕ, zero, suc, ◌+◌, ◌*◌, ◌<◌, ◌≤◌, ◌==◌, Bool, true, false, List, [], ◌∷◌, length, All, Option, None, sum_by}
use Rattle.std.proofs.Common.{refl, sym, ap, subst}
use Rattle.std.proofs.Common.{◌∙◌, arith}
use Rattle.std.specs.Option.{option_or}
use Rattle.std.proofs.lemmas.Bool.Decides.{nat_tests}
use Rattle.std.proofs.lemmas.List.Elements.{All-head, All-tail}
use Rattle.std.proofs.lemmas.List.Sums.{sum_by-append, sum_by-cons}
use Rattle.osc_method.specs.Heard.{Fixed}
use Rattle.osc_model.specs.Events.{Room}
use Rattle.osc_model.specs.Limits.{Limits, header_size, release_head_size}
use Rattle.osc_script.specs.declared.line.Line.{Line}
use Rattle.osc_script.specs.Enough.{act_size, act_units, act_messages}
use Rattle.osc_lanes.specs.Enough.{all_lines, enough_for}
use Rattle.osc_lanes.specs.Performs.{Part}
use Rattle.osc_lanes.specs.Later.{Performs}
use Rattle.osc_lanes.specs.Shares.{Account}
use Rattle.osc_ends.specs.declared.outcome.Outcome.{Outcome}
use Rattle.osc_ends.specs.declared.outcome.Outcome.TheVariants.{Done}
use Rattle.osc_top.specs.Enough.{enough_lanes}
use Rattle.osc_top.specs.Lanes.{lane_count, lines_in, parts_from, parts_of, first_stop, PlaysLanes}
use Rattle.osc_ends.specs.Outcomes.{stopped}
use Rattle.osc_script.specs.Adds.{adds_of, count_adds}
use Rattle.osc_top.proofs.Dealt.{lines_here, lines_other, parts_length}

-- Each line is in one part.

module _ {M : Type 0} (weight : Line → ℕ) (bank : List M) where
  -- what the lines of so many parts, from this lane on, add up to
  abbrev weights : ℕ → ℕ → List Line → ℕ
  weights lane count lines = sum_by weight (all_lines (parts_from lane count lines bank))

  first_weight : (lane count : ℕ) (lines : List Line)
      → weights lane (suc count) lines ≡ sum_by weight (lines_in lane lines) + weights (lane + 1) count lines
  first_weight lane count lines = sum_by-append weight (lines_in lane lines) (all_lines (parts_from (lane + 1) count lines bank))

  none_weigh : (lane count : ℕ) → weights lane count [] ≡ 0
  none_weigh lane zero = refl
  none_weigh lane (suc count) = none_weigh (lane + 1) count

  -- a line of a lane before these
  below : (lane count : ℕ) (line : Line) (lines : List Line) → line.lane < lane → weights lane count (line ∷ lines) ≡ weights lane count lines
  below lane zero line lines less = refl
  below lane (suc count) line lines less =
      let other : (line.lane == lane) ≡ false = grind (arith, nat_tests) in
      omega (
        arith,
        first_weight lane count (line ∷ lines),
        first_weight lane count lines,
        ap (sum_by weight) (lines_other lane line lines other),
        below (lane + 1) count line lines (omega arith),
      )

  -- a line of one of these lanes
  among : (lane place count : ℕ) (line : Line) (lines : List Line) → line.lane ≡ lane + place → place < count
      → weights lane count (line ∷ lines) ≡ weight line + weights lane count lines
  among lane place zero line lines is less = absurd (omega arith)
  among lane zero (suc count) line lines is less =
      let here : (line.lane == lane) ≡ true = grind (arith, nat_tests) in
      omega (
        arith,
        first_weight lane count (line ∷ lines),
        first_weight lane count lines,
        ap (sum_by weight) (lines_here lane line lines here),
        sum_by-cons weight line (lines_in lane lines),
        below (lane + 1) count line lines (omega arith),
      )
  among lane (suc place) (suc count) line lines is less =
      let other : (line.lane == lane) ≡ false = grind (arith, nat_tests) in
      omega (
        arith,
        first_weight lane count (line ∷ lines),
        first_weight lane count lines,
        ap (sum_by weight) (lines_other lane line lines other),
        among (lane + 1) place count line lines (omega arith) (omega arith),
      )

  each_once : (count : ℕ) (lines : List Line) → lane_count lines ≤ count → weights 0 count lines ≡ sum_by weight lines
  each_once count [] few = none_weigh 0 count
  each_once count (line ∷ lines) few =
      among 0 line.lane count line lines (omega arith) (omega arith) ∙ ap (λ (n : ℕ). weight line + n) (each_once count lines (omega arith))
      ∙ sym (sum_by-cons weight line lines)

  pub all_once : (lines : List Line) → sum_by weight (all_lines (parts_of lines bank)) ≡ sum_by weight lines
  all_once lines = each_once (lane_count lines) lines (omega arith)

-- So what is enough for the parts is enough for the lanes.

summed_adds : (lines : List Line) → count_adds lines ≡ sum_by (λ line. adds_of line.act) lines
summed_adds [] = refl
summed_adds (line ∷ lines) =
    ap (λ (n : ℕ). adds_of line.act + n) (summed_adds lines) ∙ sym (sum_by-cons (λ (line : Line). adds_of line.act) line lines)

module _ {M : Type 0} where
  enough_parts : (lines : List Line) (bank : List M) → enough_for (parts_of lines bank) ≡ enough_lanes lines
  enough_parts lines bank =
      let parts = parts_of lines bank in
      let lanes : length parts ≡ lane_count lines = parts_length 0 (lane_count lines) lines bank in
      let sizes : sum_by (λ line. act_size line.act) (all_lines parts) ≡ sum_by (λ line. act_size line.act) lines =
      all_once (λ line. act_size line.act) bank lines in
      let units : sum_by (λ line. act_units line.act) (all_lines parts) ≡ sum_by (λ line. act_units line.act) lines =
      all_once (λ line. act_units line.act) bank lines in
      let messages : sum_by (λ line. act_messages line.act) (all_lines parts) ≡ sum_by (λ line. act_messages line.act) lines =
      all_once (λ line. act_messages line.act) bank lines in
      let adds : count_adds (all_lines parts) ≡ count_adds lines =
      summed_adds (all_lines parts) ∙ all_once (λ line. adds_of line.act) bank lines
      ∙ sym (summed_adds lines) in
      λ i. header_size + 28 * lanes i + sizes i + release_head_size * units i + 8 * (messages i * adds i)

  none_first : (accounts : List (Account M)) → All (λ account. account.stop ≡ None) accounts → first_stop accounts ≡ None
  none_first [] none = refl
  none_first (account ∷ accounts) none =
      ap (λ (stop : Option Room). option_or stop (first_stop accounts)) (All-head (λ (a : Account M). a.stop ≡ None) account accounts none)
      ∙ none_first accounts (All-tail (λ (a : Account M). a.stop ≡ None) account accounts none)

  pub none_stopped : (keep : M → Fixed) (heard : M → Option (List ℕ))
      → ((caps : Limits) (parts : List (Part M)) (recording : List ℕ) (kept : List (ℕ × M)) (accounts : List (Account M)) (unenrolled : Option Room)
      → Performs keep heard caps parts recording kept accounts unenrolled → enough_for parts ≤ caps.recording
      → (unenrolled ≡ None) × All (λ account. account.stop ≡ None) accounts)
      → (caps : Limits) (watched : Bool) (lines : List Line) (bank : List M) (added : List (ℕ × M)) (left : List M)
      (recording text : List ℕ) (outcome : Outcome)
      → PlaysLanes keep heard caps watched bank added left lines recording text outcome → enough_lanes lines ≤ caps.recording → outcome ≡ Done
  none_stopped keep heard never caps watched lines bank added left recording text outcome plays enough =
      let none = never caps (parts_of lines bank) recording plays.kept plays.accounts plays.unenrolled plays.performs
      (subst (λ (n : ℕ). n ≤ caps.recording) (sym (enough_parts lines bank)) enough) in
      plays.outcome_is
      ∙ ap stopped (ap (λ (first : Option Room). option_or first (first_stop plays.accounts)) none.0 ∙ none_first plays.accounts none.1)
