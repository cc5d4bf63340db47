-- What the fields of a header, a record and a bank must be for their bytes to be read back as they are.
use Rattle.std.specs.Prelude.{◌+◌, ◌≤◌, ◌<◌, List, [], ◌∷◌, ◌≡◌, length}
use Rattle.crc32.specs.Crc32.{Bytes}
use Rattle.bank.specs.declared.header.StoreHeader.{StoreHeader}
use Rattle.bank.specs.Record.{Record}
use Rattle.bank.specs.Bank.{Bank}

pub record FineHeader (h : StoreHeader) : Type 0 where
  pub size_low : 24 ≤ h.size
  pub size_high : h.size ≤ 65536
  pub generation_fits : h.generation < 4294967296
  pub state_fits : h.state < 256
  pub flags_fit : h.flags < 256
  pub system_fits : h.system_size < 4294967296
  pub common_fits : h.common_size < 4294967296

pub record FineRecord (r : Record) : Type 0 where
  pub state_fits : r.state < 256
  pub attributes_fit : r.attributes < 4294967296
  pub guid_long : length r.guid ≡ 16
  pub guid_bytes : Bytes r.guid
  pub key_fits : length r.key + 1 < 4294967296
  pub key_bytes : Bytes r.key
  pub value_fits : length r.value < 4294967296
  pub value_bytes : Bytes r.value

abbrev pub FineRecords : List Record → Type 0
FineRecords [] = Unit {0}
FineRecords (r ∷ rs) = FineRecord r × FineRecords rs

pub record FineBank (b : Bank) : Type 0 where
  pub header_fine : FineHeader b.header
  pub records_fine : FineRecords b.records
  pub usable_low : 24 ≤ b.usable
  pub usable_high : b.usable ≤ b.header.size
