-- A book laid out as a state and a work area (01, 'Opening'), and the book that a state and a work area hold, if they are sound (refusal 6).
use Rattle.std.specs.Prelude.{ℕ, zero, suc, ◌*◌, ◌-◌, List, [], ◌∷◌, ◌++◌, map, Bool, true, false, ◌&&◌, cond, length, set, take, drop, replicate, leb, ltb, eqb, Option, None, Some}
use Rattle.std.specs.List.{list_all}
use Rattle.bank.specs.Bank.{Slot, part_of}
use Rattle.tally.specs.declared.Tally.{Tally}
use Rattle.book.specs.Book.{part_size, Book}
use Rattle.nvram.specs.declared.state.Kind.{Kind}
use Rattle.nvram.specs.declared.state.Kind.TheVariants.{Empty, Invalid, Valid}
use Rattle.nvram.specs.declared.state.Entry.{Entry}
use Rattle.nvram.specs.declared.state.Nvram.{Nvram}
use Rattle.nvram.specs.Part.{entry, entry_of, view_slot}

-- laid out

-- entries from n on are Empty
unfoldable pub lay_table : List Slot → List Entry
lay_table ss = map entry_of ss ++ replicate (16 - length ss) (entry Empty 0 0)

-- the tallies are no part of the book
abbrev pub lay_state : Book → Tally → Nvram
lay_state b tally = record { n = b.n; active = b.active; tally = tally; banks = lay_table b.slots }

abbrev pub set_entry : Nvram → ℕ → Entry → Nvram
set_entry s i e = record { n = s.n; active = s.active; tally = s.tally; banks = set s.banks i e }

unfoldable pub lay_parts : List Slot → List ℕ
lay_parts [] = []
lay_parts (s ∷ ss) = part_of part_size s ++ lay_parts ss

-- bytes after the banks' parts are untouched
unfoldable pub lay_work : Book → List ℕ → List ℕ
lay_work b w = lay_parts b.slots ++ drop (b.n * part_size) w

-- taken back

abbrev pub is_empty : Kind → Bool
is_empty Empty = true
is_empty Invalid = false
is_empty Valid = false

abbrev pub is_free : Entry → Bool
is_free e = is_empty e.kind && (eqb e.total 0 && eqb e.usable 0)

abbrev pub all_free : List Entry → Bool
all_free es = list_all is_free es

unfoldable pub prepend_slot : Option Slot → Option (List Slot) → Option (List Slot)
prepend_slot None o = None
prepend_slot (Some s) None = None
prepend_slot (Some s) (Some ss) = Some (s ∷ ss)

-- n slots from their entries and parts; the entries behind them are Empty
unfoldable pub view_slots : ℕ → List Entry → List ℕ → Option (List Slot)
view_slots zero es w = cond (all_free es) (Some []) None
view_slots (suc n) [] w = None
view_slots (suc n) (e ∷ es) w = prepend_slot (view_slot e (take part_size w)) (view_slots n es (drop part_size w))

unfoldable pub book_with : Nvram → Option (List Slot) → Option Book
book_with s None = None
book_with s (Some ss) = Some (record { n = s.n; active = s.active; slots = ss })

-- n is 1 to 16, active < n, work long enough
abbrev pub in_range : Nvram → List ℕ → Bool
in_range s w = leb 1 s.n && (leb s.n 16 && (ltb s.active s.n && leb (s.n * part_size) (length w)))

-- refusal 6 is that this gives nothing
unfoldable pub view : Nvram → List ℕ → Option Book
view s w = cond (in_range s w) (book_with s (view_slots s.n s.banks w)) None
