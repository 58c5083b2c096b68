-- Lines that follow one another, gathered by their addresses.
use Rattle.std.specs.Prelude.{ℕ, ◌+◌, ◌-◌, ◌==◌, Bool, true, nat_le, if◌then◌else◌}
use Rattle.std.specs.Prelude.{List, [], ◌∷◌, ◌++◌, Option, Some, None}
use Rattle.std.specs.Str.{bytes_eq}
use Rattle.osc_shown.specs.declared.look.Look.{Look}
use Rattle.osc_shown.specs.Times.{millis_of}
use Rattle.osc_runs.specs.declared.limits.TheConstants.{GAP}

-- A line that may be told with others: how it looks; its moment, a time tag; the address that was
-- called; the words of the one argument; and the line as it stands by itself.
pub record Plain : Type 0 where
  pub look : Look
  pub moment : ℕ
  pub address : List ℕ
  pub words : List ℕ
  pub line : List ℕ

-- What is kept of the lines of an address: how the first looks, the moment and the words of the
-- first and of the last, how many there are, and the first two lines. The second is empty where there
-- is one alone.
pub record Gathered : Type 0 where
  pub look : Look
  pub address : List ℕ
  pub since : ℕ
  pub first : List ℕ
  pub till : ℕ
  pub last : List ℕ
  pub count : ℕ
  pub line : List ℕ
  pub second : List ℕ

-- one line
abbrev pub gathered_of : Plain → Gathered
gathered_of plain = record {
  look = plain.look;
  address = plain.address;
  since = plain.moment;
  first = plain.words;
  till = plain.moment;
  last = plain.words;
  count = 1;
  line = plain.line;
  second = [];
}

-- the second line, once one more has come
abbrev pub kept_second : ℕ → List ℕ → List ℕ → List ℕ
kept_second count second line = if count == 1 then line else second

-- one line more of the address
abbrev pub again : Gathered → Plain → Gathered
again row plain = record {
  look = row.look;
  address = row.address;
  since = row.since;
  first = row.first;
  till = plain.moment;
  last = plain.words;
  count = row.count + 1;
  line = row.line;
  second = kept_second row.count row.second plain.line;
}

abbrev pub is_of : List ℕ → Gathered → Bool
is_of address row = bytes_eq row.address address

-- one line more, with those of its address, or as the first of an address after all others
abbrev pub enter : List Gathered → Plain → List Gathered
enter [] plain = gathered_of plain ∷ []
enter (row ∷ rows) plain =
    if is_of plain.address row then again row plain ∷ rows else row ∷ enter rows plain

-- A run: what was gathered, and the moment of the line that came last.
pub record Run : Type 0 where
  pub rows : List Gathered
  pub latest : Option ℕ

abbrev pub none : Run
none = record { rows = []; latest = None }

-- a line goes on with a run up to so long after the line that came last
abbrev pub goes_on : Option ℕ → ℕ → Bool
goes_on None moment = true
goes_on (Some latest) moment = nat_le (millis_of moment - millis_of latest) GAP

abbrev pub gather : Run → Plain → Run
gather run plain = record { rows = enter run.rows plain; latest = Some plain.moment }

-- all of these, one after another
abbrev pub gather_all : Run → List Plain → Run
gather_all run [] = run
gather_all run (plain ∷ plains) = gather_all (gather run plain) plains
