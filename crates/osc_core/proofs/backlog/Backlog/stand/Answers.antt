use Rattle.std.proofs.Common.{◌≡◌, ◌++◌, length, length-append, ap, ◌∙◌, arith}
use Rattle.std.specs.Vec.{with_items}
use Rattle.std.proofs.lemmas.List.{with_items_is}
use Rattle.osc_atoms.specs.Atoms.{word}
use Rattle.osc_core.proofs.Waits.{stands}
use Rattle.osc_core.proofs.backlog.Backlog.stand.Goals as goal

pub returns-clause-waiting : goal.returns-clause-waiting
returns-clause-waiting c =
    let message = c.args.message.now in
    let written = with_items c.fit.new.bytes c.write_message.new.out in
    let is : written.items ≡ word (length message) ++ message =
    with_items_is c.fit.new.bytes c.write_message.new.out (omega arith) ∙ c.write_message.ensures in
    let stood = stands written.items message is c.requires.read c.requires.small in
    record {
      kept = c.requires.waiting.kept;
      alone = record {
        framed = stood.framed;
        some = omega (arith, stood.long);
        small = omega (arith, stood.long, c.requires.small);
        none = c.requires.none;
        place = c.requires.place;
        block = c.requires.block;
      };
      room = omega (arith, c.requires.waiting.room, c.fit.ensures.capacity);
    }
