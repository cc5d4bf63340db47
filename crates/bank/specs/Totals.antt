-- A bank's total, of all its records and of the live ones alone (01, 'A commit, from the entry down'), and which records are live in a section.
use Rattle.std.specs.Prelude.{ℕ, ◌+◌, List, [], ◌∷◌, Bool, ◌&&◌, cond}
use Rattle.buffers.specs.Bytes.{eq_bytes}
use Rattle.bank.specs.Record.{Record, live, sizes}
use Rattle.bank.specs.Bank.{Bank}

-- those records for which a test holds, in order
unfoldable pub select : (Record → Bool) → List Record → List Record
select p [] = []
select p (r ∷ rs) = cond (p r) (r ∷ select p rs) (select p rs)

-- 24 plus all record sizes, dead ones too
unfoldable pub total : Bank → ℕ
total b = 24 + sizes b.records

-- 24 plus the live records' sizes
unfoldable pub live_total : Bank → ℕ
live_total b = 24 + sizes (select live b.records)

-- a live record of one GUID; a third GUID is neither
unfoldable pub live_of : List ℕ → Record → Bool
live_of guid r = live r && eq_bytes r.guid guid
