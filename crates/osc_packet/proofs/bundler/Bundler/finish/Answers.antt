use Rattle.std.proofs.Common.{subst}
use Rattle.osc_packet.proofs.Bundlings.{IsOneUnit, kept_unit, written_is}
use Rattle.osc_packet.proofs.bundler.Bundler.finish.Goals as goal

pub returns-clause-packet : goal.returns-clause-packet
returns-clause-packet c =
    let is : IsOneUnit c.args.self.now = subst IsOneUnit c.self.view_is (kept_unit c.of_messages.ensures c.self.inside.bytes.items c.self.invariant) in
    is.packet

pub returns-clause-read : goal.returns-clause-read
returns-clause-read c =
    let is : IsOneUnit c.args.self.now = subst IsOneUnit c.self.view_is (kept_unit c.of_messages.ensures c.self.inside.bytes.items c.self.invariant) in is.read

pub returns-clause-unit : goal.returns-clause-unit
returns-clause-unit c =
    let is : IsOneUnit c.args.self.now = subst IsOneUnit c.self.view_is (kept_unit c.of_messages.ensures c.self.inside.bytes.items c.self.invariant) in is.unit

pub returns-clause-written : goal.returns-clause-written
returns-clause-written c forms are = written_is c.args.self.now forms are
