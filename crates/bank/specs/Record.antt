-- A record (01, 'Bank and record'), 36 bytes and then name and value: 0x55AA (2), state, reserved, attributes (4), name length (4), value
-- length (4), GUID (16), CRC-32 of the value (4). Name length counts a closing byte; key is the name without it. Reserved and closing bytes
-- are ignored on reading and written 0.
use Rattle.std.specs.Prelude.{ℕ, ◌+◌, ◌-◌, List, [], ◌∷◌, ◌++◌, Bool, cond, length, get_or, take, drop, eqb}
use Rattle.crc32.specs.Crc32.{crc32_of}
use Rattle.buffers.specs.Bytes.{eq_bytes}
use Rattle.bank.specs.declared.variable.VarType.{VarType}
use Rattle.bank.specs.declared.variable.VarType.TheVariants.{Common, System}
use Rattle.bank.specs.Number.{u32_at, le32}

pub record Record : Type 0 where
  pub state : ℕ
  pub attributes : ℕ
  pub guid : List ℕ
  pub key : List ℕ
  pub value : List ℕ

unfoldable pub size_of : Record → ℕ
size_of r = 36 + (length r.key + 1) + length r.value

unfoldable pub sizes : List Record → ℕ
sizes [] = 0
sizes (r ∷ rs) = size_of r + sizes rs

-- as written

-- the 36 bytes, from the fields that stand in them
unfoldable pub var_header_bytes : ℕ → ℕ → ℕ → ℕ → List ℕ → ℕ → List ℕ
var_header_bytes state attributes name value guid crc =
    0xAA ∷ 0x55 ∷ state ∷ 0 ∷ (le32 attributes ++ (le32 name ++ (le32 value ++ (guid ++ le32 crc))))

unfoldable pub record_bytes : Record → List ℕ
record_bytes r =
    var_header_bytes r.state r.attributes (length r.key + 1) (length r.value) r.guid (crc32_of r.value)
    ++ (r.key ++ (0 ∷ r.value))

unfoldable pub records_bytes : List Record → List ℕ
records_bytes [] = []
records_bytes (r ∷ rs) = record_bytes r ++ records_bytes rs

-- as read: s begins with the record

abbrev pub name_at : List ℕ → ℕ
name_at s = u32_at s 8

abbrev pub value_at : List ℕ → ℕ
value_at s = u32_at s 12

-- the record's size by its lengths
abbrev pub size_at : List ℕ → ℕ
size_at s = 36 + name_at s + value_at s

unfoldable pub record_of : List ℕ → Record
record_of s =
    record {
      state = get_or s 2 0;
      attributes = u32_at s 4;
      guid = take 16 (drop 16 s);
      key = take (name_at s - 1) (drop 36 s);
      value = take (value_at s) (drop (36 + name_at s) s);
    }

-- what a record is (01, 'Edits and lookups')

unfoldable pub live : Record → Bool
live r = eqb r.state 0x7F

-- what a record's state becomes when it is removed
unfoldable pub deleted_state : ℕ → ℕ
deleted_state state = cond (eqb state 0x7F) 0x7C state

abbrev pub system_guid : List ℕ
system_guid =
    0x40 ∷ 0xA0 ∷ 0xDD ∷ 0xD2 ∷ 0x77 ∷ 0xF8 ∷ 0x43 ∷ 0x92 ∷ 0xB4 ∷ 0xA3 ∷ 0x1E ∷ 0x73 ∷ 0x04 ∷ 0x20 ∷ 0x65 ∷ 0x16 ∷ []

abbrev pub common_guid : List ℕ
common_guid =
    0x7C ∷ 0x43 ∷ 0x61 ∷ 0x10 ∷ 0xAB ∷ 0x2A ∷ 0x4B ∷ 0xBB ∷ 0xA8 ∷ 0x80 ∷ 0xFE ∷ 0x41 ∷ 0x99 ∷ 0x5C ∷ 0x9F ∷ 0x82 ∷ []

-- a third GUID is Common
unfoldable pub type_of : List ℕ → VarType
type_of guid = cond (eq_bytes guid system_guid) System Common

abbrev pub guid_of : VarType → List ℕ
guid_of System = system_guid
guid_of Common = common_guid
