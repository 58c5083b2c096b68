-- A patch has one line more at most than bytes.
use Rattle.std.proofs.Common.{◌≡◌, ℕ, ◌+◌, ◌≤◌, List, length, map, Result, Ok, Err, IfOk, ap, arith}
use Rattle.std.proofs.Common.{Bor, Vec}
use Rattle.std.proofs.lemmas.List.{length-map}
use Rattle.std.proofs.lemmas.List.Splits.{length-slice_split}
use Rattle.std.proofs.lemmas.List.Sums.{count_by-le-length}
use Rattle.osc_patch.specs.Words.{is_line_feed, lines_of}

pub few_lines : (bytes : List ℕ) (lines : List (Bor (List ℕ))) → map (λ line. line.now) lines ≡ lines_of bytes → length lines ≤ length bytes + 1
few_lines bytes lines are =
    omega (
      arith,
      length-map lines (λ (line : Bor (List ℕ)). line.now),
      ap length are,
      length-slice_split is_line_feed bytes,
      count_by-le-length is_line_feed bytes,
    )

pub few_of : {E : Type 0} {Z : Type 0} (bytes : List ℕ) (result : Result (Vec (Bor (List ℕ)) Z) E)
    → IfOk result (λ lines. map (λ line. line.now) lines.items ≡ lines_of bytes) → IfOk result (λ lines. length lines.items ≤ length bytes + 1)
few_of bytes (Ok lines) are = few_lines bytes lines.items are
few_of bytes (Err e) are = tt
