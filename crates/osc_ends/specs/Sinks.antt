-- What becomes of a sink.
use Rattle.std.specs.Prelude.{◌≡◌, ◌⊎◌, ℕ, List, ◌++◌, take, Option, Some, IfSome}
use Rattle.osc_edge.specs.Faults.{Rose}
-- The ghost members of a sink as one record: a clause under `O: Sink` writes it `O.Sink`.
pub use Rattle.osc_edge.specs.declared.sink.Sink.{Ghosts as SinkOf}

-- what a sink holds before and after, where it reports that, and its counts of faults
pub record SinkChange : Type 0 where
  pub held : Option (List ℕ)
  pub held_after : Option (List ℕ)
  pub faults : ℕ
  pub faults_after : ℕ

-- from one state of a sink to another
abbrev pub change : {S : Type 0} → SinkOf S → S → S → SinkChange
change sink before after =
    record {
      held = sink.held before;
      held_after = sink.held after;
      faults = sink.faults before;
      faults_after = sink.faults after;
    }

-- its count of faults rose
abbrev pub Fails : SinkChange → Type 0
Fails sink = Rose sink.faults sink.faults_after

-- it didn't fail
abbrev pub IsSteady : SinkChange → Type 0
IsSteady sink = sink.faults_after ≡ sink.faults

-- what is held is reported, and has gained this text
abbrev pub Gains : SinkChange → List ℕ → Type 0
Gains sink text = IfSome sink.held (λ before. sink.held_after ≡ Some (before ++ text))

-- it has gained this text, and didn't fail
abbrev pub GainsAll : SinkChange → List ℕ → Type 0
GainsAll sink text = Gains sink text × IsSteady sink

-- it failed, and has gained a front of this text
abbrev pub GainsPart : SinkChange → List ℕ → Type 0
GainsPart sink text = IfSome sink.held (λ before. (count : ℕ)
    × (sink.held_after ≡ Some (before ++ take count text))) × Fails sink

-- the text, or a front of it where the count of faults rose
abbrev pub GainsUnless : SinkChange → List ℕ → Type 0
GainsUnless sink text = Gains sink text ⊎ GainsPart sink text

-- it stands as it was
abbrev pub IsUntouched : SinkChange → Type 0
IsUntouched sink = (sink.held_after ≡ sink.held) × IsSteady sink
