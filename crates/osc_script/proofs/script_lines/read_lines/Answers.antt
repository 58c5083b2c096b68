use Rattle.std.proofs.Common.{◌≡◌, length, sym, subst, arith}
use Rattle.std.proofs.lemmas.Bool.Decides.{nat_tests}
use Rattle.osc_script.specs.Words.{lines_of}
use Rattle.osc_script.specs.Scripts.{AreLawful, AreOf}
use Rattle.osc_script.proofs.Lawful.{lines_fit}
use Rattle.osc_script.proofs.script_lines.read_lines.Goals as goal

pub returns-clause-lawful : goal.returns-clause-lawful
returns-clause-lawful c =
    let none : length c.loop-rest.rest.now ≡ 0 = grind (arith, nat_tests) in
    let fit = lines_fit c.args.mode c.loop-rest.lines.items c.loop-rest.number c.loop-rest.rest.now
    (lines_of c.args.bytes.now) none c.loop-rest.invariant.read in
    subst AreLawful (sym c.of.ensures) fit.0

pub returns-clause-fitting : goal.returns-clause-fitting
returns-clause-fitting c =
    let none : length c.loop-rest.rest.now ≡ 0 = grind (arith, nat_tests) in
    let fit = lines_fit c.args.mode c.loop-rest.lines.items c.loop-rest.number c.loop-rest.rest.now
    (lines_of c.args.bytes.now) none c.loop-rest.invariant.read in
    subst (AreOf c.args.mode) (sym c.of.ensures) fit.1
