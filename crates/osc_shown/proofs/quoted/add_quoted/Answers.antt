use Rattle.std.proofs.Common.{◌≡◌, ◌++◌, ℕ, List, subst}
use Rattle.std.specs.Prelude.{OnOk}
use Rattle.osc_shown.proofs.Lettering.{as_text, as_bytes}
use Rattle.osc_shown.proofs.quoted.add_quoted.Goals as goal

pub returns-in-Ok : goal.returns-in-Ok
returns-in-Ok c =
    let cases = c.in-Ok.ensures.cases in
    subst (λ (l : List ℕ). OnOk c.add_text.result (c.add_text.new.out.items ≡ c.args.out.now.items ++ l))
    (as_text c.args.bytes.now c.in-Ok.text.now cases.0 cases.1) c.add_text.ensures

pub returns-in-Err : goal.returns-in-Err
returns-in-Err c =
    subst (λ (l : List ℕ). OnOk c.add_bytes.result (c.add_bytes.new.out.items ≡ c.args.out.now.items ++ l))
    (as_bytes c.args.bytes.now c.in-Err.ensures.cases.0) c.add_bytes.ensures
