use Rattle.std.proofs.Common.{◌∙◌, refl, sym, subst}
use Rattle.osc_pattern.proofs.PatternLaws.{IsFound, pattern_fault-found, pattern_fault-none, IsPattern-read, IsFault-read}
use Rattle.osc_pattern.proofs.pattern.Pattern.check.Goals as goal

pub returns-in-Some-clause-exact : goal.returns-in-Some-clause-exact
returns-in-Some-clause-exact c =
    (λ ok. absurd (cc), λ lawful. (let none = IsPattern-read c.args.bytes.now lawful in let some = c.in-Some.ensures in absurd (cc)))

pub returns-in-Some-clause-fault : goal.returns-in-Some-clause-fault
returns-in-Some-clause-fault c = subst (IsFound c.args.bytes.now) (sym c.in-Some.ensures) (pattern_fault-found c.args.bytes.now)

pub returns-in-Some-clause-refuses : goal.returns-in-Some-clause-refuses
returns-in-Some-clause-refuses c = λ kind at fault. c.in-Some.ensures ∙ IsFault-read c.args.bytes.now kind at fault

pub returns-in-None-clause-exact : goal.returns-in-None-clause-exact
returns-in-None-clause-exact c = (λ ok. pattern_fault-none c.args.bytes.now (sym c.in-None.ensures), λ lawful. refl)

pub returns-in-None-clause-refuses : goal.returns-in-None-clause-refuses
returns-in-None-clause-refuses c = λ kind at fault. c.in-None.ensures ∙ IsFault-read c.args.bytes.now kind at fault
