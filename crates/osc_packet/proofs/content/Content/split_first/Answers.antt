use Rattle.std.proofs.Common.{refl, subst}
use Rattle.osc_packet.specs.Contents.{IsSound}
use Rattle.osc_packet.proofs.Bodies.{alone_splits}
use Rattle.osc_packet.proofs.content.Content.split_first.Goals as goal

pub returns-in-Alone : goal.returns-in-Alone
returns-in-Alone c = rw c.in-Alone.is (alone_splits c.in-Alone.message _ (subst IsSound c.in-Alone.is c.requires) refl)
