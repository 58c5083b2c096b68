use Rattle.std.proofs.Common.{length, sym, ap, ◌∙◌, arith}
use Rattle.osc_core.proofs.Storing.{length-framed}
use Rattle.osc_core.proofs.store.Store.put_framed.Goals as goal

pub returns-clause-stored : goal.returns-clause-stored
returns-clause-stored c =
    let are = c.requires.framed in
    record {
      messages = are.messages;
      live = ap length c.in-Ok.ensures.stored ∙ sym c.in-Ok.ensures.len;
      holds = c.in-Ok.ensures.stored ∙ are.is;
      read = are.read;
      small = omega (arith, are.few, ap length are.is, length-framed are.messages);
    }
