-- Records as they would be written (01, 'Opening'), and the list of them that bytes are made of, if they are (01, refusal 6).
use Rattle.std.specs.Prelude.{ℕ, zero, suc, ◌+◌, List, [], ◌∷◌, Bool, true, false, ◌&&◌, cond, length, get_or, drop, eqb, Option, None, Some}
use Rattle.bank.specs.Record.{Record, record_of, name_at, size_at}
use Rattle.bank.specs.Read.{Item, got, halt, found}

abbrev pub is_got : Item → Bool
is_got (got r) = true
is_got (halt c) = false

-- s begins with a record as it would be written: reading takes it (01, 'Bank and record'), and its reserved and closing bytes are 0
unfoldable pub is_record : List ℕ → Bool
is_record s = is_got (found s) && (eqb (get_or s 3 0) 0 && eqb (get_or s (35 + name_at s) 0) 0)

unfoldable pub prepend : Record → Option (List Record) → Option (List Record)
prepend r None = None
prepend r (Some rs) = Some (r ∷ rs)

-- each record is longer than one byte, so the bytes are turns enough
unfoldable pub view_turns : ℕ → List ℕ → Option (List Record)
view_turns zero [] = Some []
view_turns zero (x ∷ s) = None
view_turns (suc n) [] = Some []
view_turns (suc n) (x ∷ s) =
    cond (is_record (x ∷ s)) (prepend (record_of (x ∷ s)) (view_turns n (drop (size_at (x ∷ s)) (x ∷ s)))) None

-- the records that s is made of, to its last byte
unfoldable pub view_records : List ℕ → Option (List Record)
view_records s = view_turns (length s) s
