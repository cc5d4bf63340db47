-- A slot laid out in a table entry and in its part of the work area (01, 'Opening'), and taken back if the two are sound (01, refusal 6).
use Rattle.std.specs.Prelude.{ℕ, ◌-◌, List, Bool, ◌&&◌, cond, get_or, take, drop, leb, eqb, Option, None, Some, Result, Ok, Err}
use Rattle.buffers.specs.Bytes.{all_ff}
use Rattle.bank.specs.declared.header.StoreHeader.{StoreHeader}
use Rattle.bank.specs.declared.header.HeaderFault.{HeaderFault}
use Rattle.bank.specs.Header.{read_header}
use Rattle.bank.specs.Record.{Record}
use Rattle.bank.specs.Bank.{Slot, empty, invalid, valid, bank_of}
use Rattle.bank.specs.Totals.{total}
use Rattle.records.specs.View.{view_records}
use Rattle.book.specs.Book.{part_size}
use Rattle.nvram.specs.declared.state.Kind.{Kind}
use Rattle.nvram.specs.declared.state.Kind.TheVariants.{Empty, Invalid, Valid}
use Rattle.nvram.specs.declared.state.Entry.{Entry}

abbrev pub entry : Kind → ℕ → ℕ → Entry
entry k t u = record { kind = k; total = t; usable = u }

-- total and usable are 0 unless the slot is Valid
unfoldable pub entry_of : Slot → Entry
entry_of empty = entry Empty 0 0
entry_of invalid = entry Invalid 0 0
entry_of (valid b) = entry Valid (total b) b.usable

unfoldable pub slot_with : StoreHeader → ℕ → Option (List Record) → Option Slot
slot_with h u None = None
slot_with h u (Some rs) = Some (valid (bank_of h rs u))

-- 24 ≤ usable ≤ size, 24 ≤ total ≤ 131,072, 0xFF from total on; the header's reserved byte is 0
abbrev pub fits : StoreHeader → Entry → List ℕ → Bool
fits h e p =
    eqb (get_or p 15 0) 0
    && (leb 24 e.total
    && (leb e.total part_size && (leb 24 e.usable && (leb e.usable h.size && all_ff (drop e.total p)))))

-- the records end at total
unfoldable pub view_head : Result StoreHeader HeaderFault → Entry → List ℕ → Option Slot
view_head (Ok h) e p = cond (fits h e p) (slot_with h e.usable (view_records (take (e.total - 24) (drop 24 p)))) None
view_head (Err f) e p = None

-- an entry and a part that hold nothing
abbrev pub is_blank : Entry → List ℕ → Bool
is_blank e p = eqb e.total 0 && (eqb e.usable 0 && all_ff p)

unfoldable pub view_kind : Kind → Entry → List ℕ → Option Slot
view_kind Empty e p = cond (is_blank e p) (Some empty) None
view_kind Invalid e p = cond (is_blank e p) (Some invalid) None
view_kind Valid e p = view_head (read_header p) e p

unfoldable pub view_slot : Entry → List ℕ → Option Slot
view_slot e p = view_kind e.kind e p
