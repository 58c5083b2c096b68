-- What contracts see of a board, its watchers and its notices.
use Rattle.std.specs.Prelude.{◌≡◌, nat_lt, if◌then◌else◌, List, length}
use Rattle.osc_watch.specs.declared.row.Edit.{Edit}
use Rattle.osc_watch.specs.declared.board.Board.{Board}
use Rattle.osc_watch.specs.declared.watcher.Watcher.{Watcher}
use Rattle.osc_watch.specs.declared.watcher.Notice.{Notice}

-- the edits that the board has read
abbrev pub noted : Board → List Edit
noted board = board.reached.seen.log

-- the edits that its watchers can see
abbrev pub published : Board → List Edit
published board = board.writer.desk.shown.value.reached.seen.log

-- the edits that the watcher has read or was told of
abbrev pub watched : Watcher → List Edit
watched watcher = watcher.told.reached.seen.log

-- the edits that the notice tells of
abbrev pub noticed : Notice → List Edit
noticed notice = notice.told.reached.seen.log

-- the longer of two lists
abbrev pub longer_edits : List Edit → List Edit → List Edit
longer_edits one other = if nat_lt (length one) (length other) then other else one

-- the watcher is one of the board's
abbrev pub IsWatcherOf : Board → Watcher → Type 0
IsWatcherOf board watcher = watcher.told.reached.seen.book ≡ board.reached.seen.book

-- the notice is one of the board's
abbrev pub IsNoticeOf : Board → Notice → Type 0
IsNoticeOf board notice = notice.told.reached.seen.book ≡ board.reached.seen.book

-- the notice is of the watcher's board
abbrev pub IsForWatcher : Watcher → Notice → Type 0
IsForWatcher watcher notice = notice.told.reached.seen.book ≡ watcher.told.reached.seen.book

-- both watchers are of one board
abbrev pub IsOfOneBoard : Watcher → Watcher → Type 0
IsOfOneBoard one other = one.told.reached.seen.book ≡ other.told.reached.seen.book

-- it is the same board, before and after
abbrev pub IsOneBoard : Board → Board → Type 0
IsOneBoard one other = (one.reached.seen.book ≡ other.reached.seen.book)
    × (one.watchers ≡ other.watchers)

-- it has read as far as before
abbrev pub IsSameBoard : Board → Board → Type 0
IsSameBoard one other = IsOneBoard one other × (one.at ≡ other.at)
