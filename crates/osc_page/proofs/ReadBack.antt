-- The text of the state is read as the state.
use Rattle.std.proofs.Common.{◌≡◌, ℕ, ◌≤◌, List, [], ◌∷◌, Some, sym, ap, ◌∙◌, append-nil, arith}
use Rattle.std.specs.Prelude.{option_and_then}
use Rattle.json.specs.Lex.{tokens}
use Rattle.json.specs.Json.{Json, document, max_depth, value, if_last}
use Rattle.json.specs.Tree.{json_tokens, depth, items_depth}
use Rattle.json.proofs.Printed.Trees.{value-json_tokens}
use Rattle.osc_page.specs.declared.board.Row.{Row}
use Rattle.osc_page.specs.declared.board.Wait.{Wait}
use Rattle.osc_page.specs.declared.board.Counts.{Counts}
use Rattle.osc_page.specs.Boards.{Shown}
use Rattle.osc_page.specs.States.{items_of, counts_json, row_json, wait_json, board_json}

pub read_back : (text : List ℕ) (j : Json) → tokens text ≡ json_tokens j → depth j ≤ max_depth → document text ≡ Some j
read_back text j is shallow =
    ap (option_and_then (λ p. if_last p.0 p.1))
    (ap (value max_depth) (is ∙ sym (append-nil (json_tokens j))) ∙ value-json_tokens j max_depth [] shallow)

items_shallow : {A : Type 0} (f : A → Json) → ((x : A) → depth (f x) ≤ 1) → (xs : List A) → items_depth (items_of f xs) ≤ 1
items_shallow f each [] = omega arith
items_shallow f each (x ∷ xs) = omega (arith, each x, items_shallow f each xs)

row_shallow : (r : Row) → depth (row_json r) ≤ 1
unfolding row_json
row_shallow r = omega arith

wait_shallow : (w : Wait) → depth (wait_json w) ≤ 1
unfolding wait_json
wait_shallow w = omega arith

counts_shallow : (c : Counts) → depth (counts_json c) ≤ 1
unfolding counts_json
counts_shallow c = omega arith

pub board_shallow : (b : Shown) → depth (board_json b) ≤ max_depth
unfolding board_json
board_shallow b =
    omega (
      arith,
      counts_shallow b.counts,
      items_shallow row_json row_shallow b.methods,
      items_shallow wait_json wait_shallow b.waits,
    )
