use Rattle.std.proofs.Common.{refl}
use Rattle.osc_pattern.specs.Reading.{read_part}
use Rattle.osc_tree.proofs.laws.examples.Goals as goal

pub returns-clause-bytes : goal.returns-clause-bytes
unfolding read_part
returns-clause-bytes c = refl

pub returns-clause-shared : goal.returns-clause-shared
returns-clause-shared c = refl

pub returns-clause-full : goal.returns-clause-full
returns-clause-full c = refl

pub returns-clause-room : goal.returns-clause-room
returns-clause-room c = refl

pub returns-clause-container : goal.returns-clause-container
returns-clause-container c = refl
