-- The bench cases of 01 that are marked P, over the definitions: one table, one theorem. Each row computes some numbers and says what they are.
use Rattle.std.specs.Prelude.{ℕ, ◌+◌, ◌-◌, ◌≡◌, refl, List, [], ◌∷◌, ◌++◌, length, replicate}
use Rattle.crc32.specs.Crc32.{poly_if, bit_step, bit_steps, byte_step, byte_steps, crc32_of}
use Rattle.buffers.specs.Bytes.{all_ff, all_blank, count_ff, eq_bytes}
use Rattle.tally.specs.declared.Caller.TheVariants.{Clock}
use Rattle.bank.specs.declared.header.StoreHeader.{StoreHeader}
use Rattle.bank.specs.declared.variable.VarType.TheVariants.{Common}
use Rattle.bank.specs.Number.{u16_at, u32_at, le32}
use Rattle.bank.specs.Header.{header_bytes, header_of, signed, read_header}
use Rattle.bank.specs.Record as record-specs
use Rattle.bank.specs.Record.{Record, size_of, sizes, deleted_state, var_header_bytes, record_bytes, record_of, common_guid}
use Rattle.bank.specs.Bank.{Slot, empty, invalid, valid, bank_size, padded, bank_of}
use Rattle.bank.specs.Read.{found, after, walk_turn, walk, walk_from, usable_at, slot_of, erased_slot, after_head, read_bank}
use Rattle.bank.specs.Totals.{select, total, live_total, live_of}
use Rattle.book.specs.Book.{part_size, Book}
use Rattle.book.specs.Opening.{read_slots, active_from, any_valid, Opened, opened, refused, opening}
use Rattle.book.specs.Edit.{plain, insert, remove, edited_by, grows, refused_insert, refused_edit}
use Rattle.book.specs.Commit.{old, judge, judge_as, due, judge_bank, request}
use Rattle.book.specs.Call.{edit, commit, Answer, edited, looked, handed, summed, committed, joined, number, by_slot, edit_as, edit_bank, move_in, commit_as, commit_bank, commit_to, step}

pub record Row : Type 0 where
  pub got : List ℕ
  pub want : List ℕ

infix 1 ◌is◌
abbrev ◌is◌ : List ℕ → List ℕ → Row
got is want = record { got = got; want = want }

-- `123456789`
abbrev digits : List ℕ
digits = 0x31 ∷ 0x32 ∷ 0x33 ∷ 0x34 ∷ 0x35 ∷ 0x36 ∷ 0x37 ∷ 0x38 ∷ 0x39 ∷ []

-- a live common record
abbrev live_record : List ℕ → List ℕ → Record
live_record key value = record { state = 0x7F; attributes = 0; guid = common_guid; key = key; value = value }

abbrev header : ℕ → ℕ → StoreHeader
header size generation =
    record { size = size; generation = generation; state = 0; flags = 0; system_size = 8192; common_size = 8192 }

-- 65,536 bytes: a header, some bytes, and 0xFF
abbrev bank : ℕ → List ℕ → List ℕ
bank size s = padded 65536 (header_bytes (header size 5) ++ s)

abbrev blank : ℕ → List ℕ
blank generation = padded 65536 (header_bytes (header 65536 generation))

-- a slot as numbers: of a Valid one total, usable and how many records
unfoldable pub totals : Slot → List ℕ
totals empty = []
totals invalid = []
totals (valid b) = total b ∷ b.usable ∷ length b.records ∷ []

-- an opening as numbers: 0, n and active, or its refusal
unfoldable pub begins : Opened → List ℕ
begins (opened b) = 0 ∷ b.n ∷ b.active ∷ []
begins (refused k) = k ∷ []

-- what inserting and removing a key answer after an opening
unfoldable pub afterwards : Opened → List ℕ
afterwards (opened b) = number (step b (edit (insert plain digits [] Common))).answer ∷ number (step b (edit (remove digits Common))).answer ∷ []
afterwards (refused k) = []

-- a bank of two whose one record is deleted and brings total to a number; usable is 65,536
abbrev filled : ℕ → Book
filled n =
    record {
      n = 2;
      active = 0;
      slots =
          valid (bank_of (header 65536 5) (record { state = 0x7C; attributes = 0; guid = common_guid; key = []; value = replicate (n - 61) 0 } ∷ []) 65536)
          ∷ empty ∷ [];
    }

-- a commit as numbers: its number and the write's offset
unfoldable pub writes : Answer → List ℕ
writes (edited k) = []
writes (looked k f) = []
writes handed = []
writes (summed k f) = []
writes (committed k e offset long) = k ∷ offset ∷ []
writes (joined k long) = []

unfoldable pub table : List Row
table =
    -- P1 65,535 bytes: 1. 131,071 bytes: one bank
    (begins (opening (replicate 65535 255) 131072) is 1 ∷ [])
    ∷ (begins (opening (blank 5 ++ replicate 65535 255) 131072) is 0 ∷ 1 ∷ 0 ∷ [])
    -- P2 empty key and value: size 37. P3 key `a`, no value: 38
    ∷ (size_of (live_record [] []) ∷ [] is 37 ∷ [])
    ∷ (size_of (live_record (0x61 ∷ []) []) ∷ [] is 38 ∷ [])
    -- P4 size 60: no record is looked at. P5 size 61: one of 37 fits
    ∷ (totals (read_bank (bank 60 (record_bytes (live_record [] [])))) is 24 ∷ 60 ∷ 0 ∷ [])
    ∷ (totals (read_bank (bank 61 (record_bytes (live_record [] [])))) is 61 ∷ 61 ∷ 1 ∷ [])
    -- P6 generations 3, 5, 5: active 1
    ∷ (begins (opening (blank 3 ++ (blank 5 ++ blank 5)) 393216) is 0 ∷ 3 ∷ 1 ∷ [])
    -- P7 Invalid, then Valid with 0: opens, edits give 7
    ∷ (begins (opening (replicate 65536 0 ++ blank 0) 262144) is 0 ∷ 2 ∷ 0 ∷ [])
    ∷ (afterwards (opening (replicate 65536 0 ++ blank 0) 262144) is 7 ∷ 7 ∷ [])
    -- P8 CRC of `123456789`, and of nothing
    ∷ (crc32_of digits ∷ [] is 0xCBF43926 ∷ [])
    ∷ (crc32_of [] ∷ [] is 0 ∷ [])
    -- P9 removing state 0x7F gives 0x7C; 0x7E stays
    ∷ (deleted_state 0x7F ∷ deleted_state 0x7E ∷ [] is 0x7C ∷ 0x7E ∷ [])
    -- P10 total = usable = 65,536 writes in place; 65,537 moves
    ∷ (writes (step (filled 65536) (commit old Clock 65536)).answer is 0 ∷ 0 ∷ [])
    ∷ (writes (step (filled 65537) (commit old Clock 65536)).answer is 0 ∷ 65536 ∷ [])
    -- P11 36 zero bytes, then 0xFF: blank. P12 36 bytes 0xFF, then 0: usable = total + 36
    ∷ (totals (read_bank (bank 65536 (replicate 36 0))) is 24 ∷ 65536 ∷ 0 ∷ [])
    ∷ (totals (read_bank (bank 65536 (replicate 36 255 ++ (0 ∷ [])))) is 24 ∷ (24 + 36) ∷ 0 ∷ [])
    ∷ []

abbrev pub Computed : List Row → Type 0
Computed [] = Unit {0}
Computed (r ∷ rs) = (r.got ≡ r.want) × Computed rs

pub cases : Computed table
unfolding table totals begins writes afterwards opening read_slots active_from any_valid bank_size part_size step by_slot edit_bank edit_as refused_insert refused_edit edited_by grows move_in commit_as commit_bank commit_to judge_bank judge_as judge due request select live_total live_of record-specs.live crc32_of byte_steps byte_step bit_steps bit_step poly_if all_ff all_blank count_ff eq_bytes u16_at u32_at le32 header_bytes header_of signed read_header size_of sizes deleted_state var_header_bytes record_bytes record_of padded found after walk_turn walk walk_from usable_at slot_of erased_slot after_head read_bank total
cases = (refl, (refl, (refl, (refl, (refl, (refl, (refl, (refl, (refl, (refl, (refl, (refl, (refl, (refl, (refl, (refl, tt))))))))))))))))
