-- The records of one key and type: deleted, appended and looked up (01, 'Edits and lookups').
use Rattle.std.specs.Prelude.{ℕ, ◌+◌, List, [], ◌∷◌, map, Bool, true, false, ◌&&◌, cond, length, Option, None, Some}
use Rattle.buffers.specs.Bytes.{eq_bytes}
use Rattle.bank.specs.declared.variable.VarType.{VarType}
use Rattle.bank.specs.declared.variable.VarType.TheVariants.{Common, System}
use Rattle.bank.specs.Record.{Record, size_of, live, type_of, guid_of, deleted_state}
use Rattle.records.specs.declared.edit.Found.{Found}

abbrev pub same_type : VarType → VarType → Bool
same_type Common Common = true
same_type Common System = false
same_type System Common = false
same_type System System = true

-- a live record of that key and type
unfoldable pub matches : List ℕ → VarType → Record → Bool
matches key typ r = live r && (eq_bytes r.key key && same_type (type_of r.guid) typ)

-- insert and remove turn 0x7F into 0x7C in every live record of that key and type
unfoldable pub deleted : List ℕ → VarType → Record → Record
deleted key typ r =
    record {
      state = cond (matches key typ r) (deleted_state r.state) r.state;
      attributes = r.attributes;
      guid = r.guid;
      key = r.key;
      value = r.value;
    }

abbrev pub removed : List ℕ → VarType → List Record → List Record
removed key typ rs = map (deleted key typ) rs

-- a record that an insert appends: state 0x7F, the type's GUID
abbrev pub fresh : ℕ → List ℕ → List ℕ → VarType → Record
fresh attributes key value typ = record { state = 0x7F; attributes = attributes; guid = guid_of typ; key = key; value = value }

-- of the first live match the value's place, counted as `at` is, and its length; the records stand from `at` on
unfoldable pub found_in : List ℕ → VarType → ℕ → List Record → Option Found
found_in key typ at [] = None
found_in key typ at (r ∷ rs) =
    cond (matches key typ r) (Some (record { place = at + 36 + (length r.key + 1); long = length r.value }))
    (found_in key typ (at + size_of r) rs)

-- the value of the first live match, empty where there is none
unfoldable pub value_in : List ℕ → VarType → List Record → List ℕ
value_in key typ [] = []
value_in key typ (r ∷ rs) = cond (matches key typ r) r.value (value_in key typ rs)
