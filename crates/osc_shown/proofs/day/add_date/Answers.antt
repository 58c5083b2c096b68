use Rattle.std.proofs.Common.{refl}
use Rattle.std.proofs.lemmas.Result.{on_ok_weaker}
use Rattle.jiff_fmt.specs.Text.{date_text}
use Rattle.osc_shown.proofs.day.add_date.Goals as goal

pub returns : goal.returns
returns c =
    let date = c.date_at.result in
    on_ok_weaker c.add_date_of.result (λ e. (date_text date, (date, c.date_at.ensures, refl), e)) c.add_date_of.ensures
