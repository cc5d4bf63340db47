-- The tallies after a call (01, 'A commit, from the entry down'; 02, N7): no other call than a commit counts, and it counts for its caller.
use Rattle.std.specs.Prelude.{Option, None, Some}
use Rattle.tally.specs.declared.Caller.{Caller}
use Rattle.tally.specs.declared.Tally.{Tally}
use Rattle.tally.specs.Tally.{counted}
use Rattle.book.specs.Call.{Call, edit, lookup, fetch, figures, commit, whole_image, Answer, erase}

-- whose commit a call is
abbrev pub committer : Call → Option Caller
committer (edit e) = None
committer (lookup key typ) = None
committer (fetch key typ) = None
committer figures = None
committer (commit way caller room) = Some caller
committer (whole_image room) = None

-- after a call that gave an answer
abbrev pub tallied : Call → Answer → Tally → Tally
tallied c a t = counted (committer c) (erase a) t
