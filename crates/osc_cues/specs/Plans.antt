-- What a contract sees of a sheet.
use Rattle.std.specs.Prelude.{List, Option}
use Rattle.osc_cues.specs.declared.cue.Cue.{Cue}
use Rattle.osc_cues.specs.declared.setting.Tempo.{Tempo}

-- the cues, and how bars and beats are first counted
pub record Plan : Type 0 where
  pub cues : List Cue
  pub tempo : Option Tempo
