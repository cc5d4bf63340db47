-- What `banklist` prints (01, 'Bench cases').
use Rattle.std.specs.Prelude.{ℕ, ◌+◌, ◌*◌, List, [], ◌∷◌, ◌++◌, length}
use Rattle.crc32.specs.Crc32.{crc32_of}
use Rattle.bank.specs.declared.header.StoreHeader.{StoreHeader}
use Rattle.bank.specs.declared.variable.VarType.{VarType}
use Rattle.bank.specs.declared.variable.VarType.TheVariants.{Common, System}
use Rattle.bank.specs.Record.{Record, type_of}
use Rattle.bank.specs.Bank.{Bank, Slot, empty, invalid, valid, of_lent}
use Rattle.bank.specs.Read.{read_bank}
use Rattle.bank.specs.Totals.{total}
use Rattle.text.specs.Text.{hex, be32, decimal, line}
use Rattle.text.specs.Words.{short_word, empty_word}

abbrev pub bank_word : List ℕ
bank_word = 0x62 ∷ 0x61 ∷ 0x6E ∷ 0x6B ∷ []

abbrev pub used_word : List ℕ
used_word = 0x75 ∷ 0x73 ∷ 0x65 ∷ 0x64 ∷ []

abbrev pub usable_word : List ℕ
usable_word = 0x75 ∷ 0x73 ∷ 0x61 ∷ 0x62 ∷ 0x6C ∷ 0x65 ∷ []

abbrev pub invalid_word : List ℕ
invalid_word = 0x69 ∷ 0x6E ∷ 0x76 ∷ 0x61 ∷ 0x6C ∷ 0x69 ∷ 0x64 ∷ []

-- `S` or `C`
unfoldable pub type_word : VarType → List ℕ
type_word System = 0x53 ∷ []
type_word Common = 0x43 ∷ []

-- `-` if empty
unfoldable pub key_word : List ℕ → List ℕ
key_word [] = 0x2D ∷ []
key_word (b ∷ k) = hex (b ∷ k)

-- size, generation, limits
unfoldable pub bank_line : StoreHeader → List ℕ
bank_line h =
    line (bank_word ∷ decimal h.size ∷ decimal h.generation ∷ decimal h.system_size ∷ decimal h.common_size ∷ [])

-- index, state, type, key, value length, CRC
unfoldable pub fields_line : ℕ → ℕ → List ℕ → List ℕ → ℕ → ℕ → List ℕ
fields_line index state guid key value crc =
    line (decimal index ∷ hex (state ∷ []) ∷ type_word (type_of guid) ∷ key_word key ∷ decimal value ∷ hex (be32 crc) ∷ [])

unfoldable pub record_line : ℕ → Record → List ℕ
record_line index r = fields_line index r.state r.guid r.key (length r.value) (crc32_of r.value)

-- indices count up from the first record's
unfoldable pub record_lines : ℕ → List Record → List ℕ
record_lines index [] = []
record_lines index (r ∷ rs) = record_line index r ++ record_lines (index + 1) rs

unfoldable pub used_line : ℕ → ℕ → List ℕ
used_line used usable = line (used_word ∷ decimal used ∷ usable_word ∷ decimal usable ∷ [])

unfoldable pub bank_lines : Bank → List ℕ
bank_lines b = bank_line b.header ++ (record_lines 0 b.records ++ used_line (total b) b.usable)

unfoldable pub slot_lines : Slot → List ℕ
slot_lines empty = line (empty_word ∷ [])
slot_lines invalid = line (invalid_word ∷ [])
slot_lines (valid b) = bank_lines b

unfoldable pub listing : List ℕ → List ℕ
listing s = of_lent (line (short_word ∷ [])) (λ b. slot_lines (read_bank b)) s

-- bytes enough for any listing
unfoldable pub out_size : ℕ
out_size = 3 * 65536
