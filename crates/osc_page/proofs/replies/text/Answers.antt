use Rattle.std.proofs.Common.{subst, rules, List, ℕ}
use Rattle.std.specs.Prelude.{codes, ◌++◌, ◌∷◌}
use Rattle.httparse.specs.Ascii.{space, crlf_bytes}
use Rattle.osc_page.specs.Added.{Grows}
use Rattle.osc_page.proofs.AnswerTexts.{whole}
use Rattle.osc_page.proofs.replies.text.Goals as goal

pub returns : goal.returns
returns c =
    whole c.args.status.now c.args.reason.now c.args.kind.now c.args.body.now c.as_bytes.result.now (search rules)
    (subst (λ (l : List ℕ). Grows l c.write_line.new.out.items (codes "HTTP/1.1 " ++ c.args.status.now ++ (space ∷ c.args.reason.now) ++ crlf_bytes)) c.new-out.ensures.items c.in_ok-write_line.ensures)
    c.in_ok-write_field.ensures
    c.in_ok-write_field-2.ensures c.in_ok-write_bytes.ensures c.in_ok-write_bytes-2.ensures
