-- A lookup's answer (01, 'Edits and lookups') as the code gives it.
use Rattle.std.specs.Prelude.{Option, None, Result, Ok, Err}
use Rattle.refusal.specs.declared.Refusal.{Refusal}
use Rattle.refusal.specs.Refusal.{number}
use Rattle.records.specs.declared.edit.Found.{Found}
use Rattle.book.specs.Call.{Answer, looked}

-- found, none, or refused by a number
abbrev pub lookup_answer : Result (Option Found) Refusal → Answer
lookup_answer (Ok f) = looked 0 f
lookup_answer (Err r) = looked (number r) None
