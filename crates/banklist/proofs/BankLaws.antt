-- The header's line, the records' lines and the last line, one behind the other, are the bank's (`all_put`); room for all is room for each.
use Prim.Native.Nat.{ℕ}
use mathlib.Core.Path.{◌≡◌, ap}
use mathlib.Core.List.{List, ◌++◌}
use Rattle.bank.specs.declared.partition.Partition.{Partition}
use Rattle.bank.specs.Bank.{Bank}
use Rattle.bank.specs.Totals.{total}
use Rattle.bank.specs.Answer.{partition_of}
use Rattle.text.specs.declared.Writer.{Writer}
use Rattle.text.specs.Put.{Room, Put}
use Rattle.text.proofs.PutLaws.{join, front, back}
use Rattle.banklist.specs.Listing.{bank_line, record_lines, used_line, bank_lines}

module _ (b : Bank) {p : Partition} {w : Writer} (e : p ≡ partition_of b) (r : Room w (bank_lines b)) where
  abbrev rest : List ℕ
  rest = record_lines 0 b.records ++ used_line (total b) b.usable

  header_is : p.header ≡ b.header
  unfolding partition_of
  header_is = ap (λ (x : Partition). x.header) e

  pub total_is : p.total_used ≡ total b
  unfolding partition_of
  total_is = ap (λ (x : Partition). x.total_used) e

  usable_is : p.usable_size ≡ b.usable
  unfolding partition_of
  usable_is = ap (λ (x : Partition). x.usable_size) e

  pub room_first : Room w (bank_line p.header)
  unfolding bank_lines
  room_first = rw header_is (front rest r)

  module _ {u : Writer} (a : Put w u (bank_line p.header)) where
    behind : Room u rest
    unfolding bank_lines
    behind = back rest (rw header_is at a) r

    pub room_records : Room u (record_lines 0 b.records)
    room_records = front (used_line (total b) b.usable) behind

    module _ {v : Writer} (c : Put u v (record_lines 0 b.records)) where
      pub room_last : Room v (used_line p.total_used p.usable_size)
      room_last = rw (total_is, usable_is) (back (used_line (total b) b.usable) c behind)

      pub all_put : {x : Writer} → Put v x (used_line p.total_used p.usable_size) → Put w x (bank_lines b)
      unfolding bank_lines
      all_put d = join (rw header_is at a) (join c (rw (total_is, usable_is) at d))
