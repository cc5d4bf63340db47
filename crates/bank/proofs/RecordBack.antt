-- A record that is written is read back, whatever follows it.
use Prim.Native.Nat.{ℕ, ◌+◌, ◌-◌, ◌≤◌}
use mathlib.Core.Path.{◌≡◌, refl, sym, ap, ◌∙◌}
use mathlib.Core.List.{List, ◌∷◌, ◌++◌, append_assoc}
use native.Mathlib.Omega.{arith}
use lib.ListN.{length, take, drop, length-append}
use lib.Seq.{take_at, drop-drop}
use Rattle.crc32.specs.Crc32.{crc32_of}
use Rattle.crc32.proofs.Linear.{crc_lt}
use Rattle.buffers.proofs.Laws.{past_drop}
use Rattle.bank.specs.Number.{u16_at, u32_at, le32}
use Rattle.bank.specs.Record.{Record, record_of, size_of, name_at, value_at, size_at, var_header_bytes, record_bytes}
use Rattle.bank.specs.Read.{got, found}
use Rattle.bank.specs.WellFormed.{FineRecord}
use Rattle.bank.proofs.NumberLaws.{length_le32, u32_sum, u32_back, past_u32}
use Rattle.bank.proofs.WalkLaws.{found_got}

module _ (r : Record) (rest : List ℕ) (f : FineRecord r) where
  -- the bytes from the key, from the sum, and from the front on
  abbrev from_key : List ℕ
  from_key = r.key ++ (0 ∷ (r.value ++ rest))

  abbrev from_sum : List ℕ
  from_sum = le32 (crc32_of r.value) ++ from_key

  abbrev front : List ℕ
  front = 0xAA ∷ 0x55 ∷ r.state ∷ 0 ∷ (le32 r.attributes ++ (le32 (length r.key + 1) ++ le32 (length r.value)))

  abbrev bytes : List ℕ
  bytes = front ++ (r.guid ++ from_sum)

  bytes_are : record_bytes r ++ rest ≡ bytes
  unfolding record_bytes var_header_bytes
  bytes_are = simp append_assoc

  length_front : length front ≡ 16
  unfolding le32
  length_front = refl

  at_key : drop 36 bytes ≡ from_key
  unfolding le32
  at_key = past_drop r.guid from_sum 16 4 f.guid_long

  at_guid : take 16 (drop 16 bytes) ≡ r.guid
  unfolding le32
  at_guid = take_at r.guid from_sum 16 f.guid_long

  at_sum : u32_at bytes 32 ≡ crc32_of r.value
  at_sum =
      past_u32 front (r.guid ++ from_sum) 16 16 length_front ∙ past_u32 r.guid from_sum 16 0 f.guid_long
      ∙ u32_back (crc32_of r.value) from_key (crc_lt r.value f.value_bytes)

  at_attributes : u32_at bytes 4 ≡ r.attributes
  unfolding u32_at le32
  at_attributes = u32_sum r.attributes f.attributes_fit

  at_name : name_at bytes ≡ length r.key + 1
  unfolding u32_at le32
  at_name = u32_sum (length r.key + 1) f.key_fits

  at_length : value_at bytes ≡ length r.value
  unfolding u32_at le32
  at_length = u32_sum (length r.value) f.value_fits

  at_value : drop (36 + (length r.key + 1)) bytes ≡ r.value ++ rest
  at_value =
      sym (drop-drop (length r.key + 1) 36 bytes) ∙ ap (drop (length r.key + 1)) at_key
      ∙ past_drop r.key (0 ∷ (r.value ++ rest)) (length r.key) 1 refl

  value_back : take (value_at bytes) (drop (36 + name_at bytes) bytes) ≡ r.value
  value_back = rw (at_length, at_name, at_value) (take_at r.value rest (length r.value) refl)

  key_back : take (name_at bytes - 1) (drop 36 bytes) ≡ r.key
  key_back =
      rw (at_name, at_key) (take_at r.key (0 ∷ (r.value ++ rest)) (length r.key + 1 - 1) (omega arith))

  fields_back : record_of bytes ≡ r
  unfolding record_of
  fields_back =
      λ i. record { state = r.state; attributes = at_attributes i; guid = at_guid i; key = key_back i; value = value_back i }

  bytes_long : size_of r ≤ length bytes
  unfolding size_of
  bytes_long = simp (length-append, length_le32) (omega (arith, f.guid_long))

  starts : u16_at bytes 0 ≡ 0x55AA
  unfolding u16_at
  starts = refl

  size_back : size_at bytes ≤ length bytes
  unfolding size_of
  size_back = let l = bytes_long in omega (arith, at_name, at_length)

  pub record_of_back : record_of (record_bytes r ++ rest) ≡ r
  record_of_back = rw bytes_are fields_back

  pub record_back : found (record_bytes r ++ rest) ≡ got r
  record_back =
      rw bytes_are
      (found_got bytes starts size_back (λ z. omega (arith, at_name)) (at_sum ∙ ap crc32_of (sym value_back)) ∙ ap got fields_back)
