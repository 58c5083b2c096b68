use Rattle.std.proofs.Common.{◌≡◌, ◌∙◌, ap, rules}
use Rattle.json.specs.Lex.{tokens}
use Rattle.json.specs.Print.{print}
use Rattle.json.specs.Tree.{json_tokens}
use Rattle.osc_page.specs.States.{board_json}
use Rattle.osc_page.proofs.ReadBack.{read_back, board_shallow}
use Rattle.osc_page.proofs.states.state_text.Goals as goal

pub returns-clause-reads_back : goal.returns-clause-reads_back
returns-clause-reads_back c =
    let j = board_json c.args.board.now in
    let written : c.write_board.new.out.tokens ≡ json_tokens j = search rules in
    let text : c.into_inner.result.items ≡ print c.write_board.new.out.tokens = search rules in
    read_back _ j (ap tokens text ∙ c.into_inner.ensures.reads_back ∙ written) (board_shallow c.args.board.now)
