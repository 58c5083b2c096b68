use Rattle.std.proofs.Common.{length, sym, ◌∙◌, arith}
use Rattle.std.proofs.lemmas.Bool.{eqb-false}
use Rattle.osc_core.proofs.Storing.{split_is}
use Rattle.osc_core.proofs.messages.Messages.only.Goals as goal

pub split_first-message-requires : goal.split_first-message-requires
split_first-message-requires c =
    let some = eqb-false (length c.self.inside.bytes.now) 0 (sym c.is_empty.ensures ∙ c.if-is_empty.false) in
    (split_is c.self.invariant (omega arith)).begins
