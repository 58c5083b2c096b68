-- How lines look by what is shown.
use Rattle.std.specs.Prelude.{ℕ, Bool, ◌||◌, if◌then◌else◌, Option, Some, None, unwrap_or, is_some}
use Rattle.osc_report.specs.declared.front.Front.{Front}
use Rattle.osc_report.specs.declared.options.Options.{Options}

-- From which moment on lines count seconds, if from one: the one that is given, or where times are to
-- be relative the moment of the first line, which is this one where no line has a time before it.
abbrev pub since_of : Option ℕ → Bool → Option ℕ → ℕ → Option ℕ
since_of (Some since) relative first moment = Some since
since_of None relative first moment = if relative then Some (unwrap_or first moment) else None

-- lines of a moment, by that of the first line that has a time
abbrev pub front_at : Options → Option ℕ → ℕ → Front
front_at options first moment = record {
  look = record options.look {
    since = since_of options.look.since options.relative first moment;
  };
  moment = moment;
}

-- the same lines, which a caller has handed in
abbrev pub front_by : Options → Front → ℕ → Front
front_by options front caller =
    if options.callers then record front { look = record front.look { caller = Some caller } }
    else front

-- lines count seconds in place of the time of day
abbrev pub is_relative : Options → Bool
is_relative options = options.relative || is_some options.look.since
