-- What every call on the active bank asks first: refusals 6 and 7, and where the active bank's records stand.
use Rattle.std.specs.Prelude.{ℕ, ◌+◌, ◌*◌, List, cond, get_or, is_some, Result, Ok, Err}
use Rattle.refusal.specs.declared.Refusal.{Refusal}
use Rattle.refusal.specs.declared.Refusal.TheVariants.{NotSound, NotValid}
use Rattle.book.specs.Book.{part_size}
use Rattle.nvram.specs.declared.state.Kind.{Kind}
use Rattle.nvram.specs.declared.state.Kind.TheVariants.{Empty, Invalid, Valid}
use Rattle.nvram.specs.declared.state.Entry.{Entry}
use Rattle.nvram.specs.declared.state.Nvram.{Nvram}
use Rattle.nvram.specs.Part.{entry}
use Rattle.nvram.specs.Layout.{view}

abbrev pub active_entry : Nvram → Entry
active_entry s = get_or s.banks s.active (entry Empty 0 0)

-- from where to where the active bank's records stand
abbrev pub records_at : Nvram → ℕ × ℕ
records_at s = (s.active * part_size + 24, s.active * part_size + (active_entry s).total)

unfoldable pub by_kind : Kind → Nvram → Result (ℕ × ℕ) Refusal
by_kind Empty s = Err NotValid
by_kind Invalid s = Err NotValid
by_kind Valid s = Ok (records_at s)

unfoldable pub ready_of : Nvram → List ℕ → Result (ℕ × ℕ) Refusal
ready_of s w = cond (is_some (view s w)) (by_kind (active_entry s).kind s) (Err NotSound)
