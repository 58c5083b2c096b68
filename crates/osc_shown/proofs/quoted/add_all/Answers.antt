use Rattle.std.proofs.Common.{◌≡◌, ◌++◌, ℕ, List, subst}
use Rattle.std.specs.Prelude.{OnOk}
use Rattle.osc_shown.proofs.Lettering.{all_as_text, all_as_bytes}
use Rattle.osc_shown.proofs.quoted.add_all.Goals as goal

pub returns-in-Ok : goal.returns-in-Ok
returns-in-Ok c =
    let cases = c.in-Ok.ensures.cases in
    subst (λ (l : List ℕ). OnOk c.add_all_chars.result (c.add_all_chars.new.out.items ≡ c.args.out.now.items ++ l))
    (all_as_text c.args.bytes.now c.in-Ok.text.now cases.0 cases.1) c.add_all_chars.ensures

pub returns-in-Err : goal.returns-in-Err
returns-in-Err c =
    subst (λ (l : List ℕ). OnOk c.add_all_shown.result (c.add_all_shown.new.out.items ≡ c.args.out.now.items ++ l))
    (all_as_bytes c.args.bytes.now c.in-Err.ensures.cases.0) c.add_all_shown.ensures
