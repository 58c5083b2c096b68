-- How a command ends that reads one input to its end and writes to one sink.
use Rattle.std.specs.Prelude.{◌≡◌, ◌≢◌, ◌⊎◌, ℕ, ◌≤◌, List, [], Option, Some, IfSome, IsSomeAnd}
use Rattle.osc_edge.specs.Faults.{Rose}
use Rattle.osc_ends.specs.declared.status.TheConstants.{BANK_SHORT, DONE, NO_MEMORY}
use Rattle.osc_ends.specs.declared.status.TheConstants.{RECORDING_FULL, SINK_FAILED, SOURCE_FAILED}
use Rattle.osc_ends.specs.declared.status.TheConstants.{USAGE}
use Rattle.osc_ends.specs.Inputs.{OfInput, ReadsInput, SourceOf}
use Rattle.osc_ends.specs.Sinks.{SinkChange, SinkOf, change, Fails, IsSteady}

module _ {S O : Type 0} (source_of : SourceOf S) (sink_of : SinkOf O) where
  -- By the status: the source failed (4), and nothing was written; else this holds (`Ends`) of the
  -- bytes that were read and of the sink, which failed at 5. Done (0) means that nothing failed,
  -- and that the input was read to its end. What can be done (`Can`) with the bytes is done where
  -- the source doesn't fail, unless the sink does or memory runs out.
  pub record IsCommandsEnd (most status : ℕ) (source source_after : S) (out out_after : O)
      (Ends : List ℕ → SinkChange → Type 0) (Can : List ℕ → Type 0) : Type 0 where
    pub known : (status ≤ RECORDING_FULL) ⊎ (status ≡ BANK_SHORT)
    pub said : status ≢ USAGE
    pub input : ReadsInput source_of most status source source_after
    pub unwritten : status ≡ SOURCE_FAILED → out_after ≡ out
    pub ends : status ≢ SOURCE_FAILED → OfInput (source_of.left source)
        (λ all. Ends all (change sink_of out out_after))
    pub sink : status ≡ SINK_FAILED → Fails (change sink_of out out_after)
    pub steady : status ≡ DONE → IsSteady (change sink_of out out_after)
    pub ended : status ≡ DONE
        → IfSome (source_of.left source) (λ all. source_of.left source_after ≡ Some [])
    pub complete : IsSomeAnd (source_of.left source) Can
        → ¬ Rose (source_of.faults source) (source_of.faults source_after) →
        (status ≡ DONE) ⊎ (status ≡ NO_MEMORY) ⊎ (status ≡ SINK_FAILED)
