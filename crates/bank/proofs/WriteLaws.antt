-- A bank that was read, copied and normalized, is the bank as it would be written.
use Prim.Native.Nat.{ℕ, ◌+◌, ◌-◌, ◌≤◌}
use mathlib.Core.Path.{◌≡◌, sym, ap, ap₂, ◌∙◌, subst}
use mathlib.Core.List.{List, [], ◌∷◌, ◌++◌, append_assoc, append-nil}
use native.Mathlib.Omega.{arith}
use lib.ListN.{length, get_or, set, take, drop, replicate, drop_of_length-le, length-append, length-drop, length-set, take-append-drop}
use lib.Seq.{take_at, drop_at, set-append_left, take-set-lt, length-take-le}
use Rattle.crc32.specs.Crc32.{Bytes}
use Rattle.buffers.specs.Bytes.{onto, over}
use Rattle.buffers.proofs.Laws.{onto_fits, length_onto, past_drop}
use Rattle.bank.specs.declared.header.StoreHeader.{StoreHeader}
use Rattle.bank.specs.Number.{u32_at, le32}
use Rattle.bank.specs.Header.{signature, header_bytes, header_of}
use Rattle.bank.specs.Record.{Record, records_bytes}
use Rattle.bank.specs.Bank.{Bank, valid, padded, bank_bytes, part_of}
use Rattle.bank.specs.Read.{walk_from, read_bank}
use Rattle.bank.specs.Raw.{Raw}
use Rattle.bank.specs.Totals.{total}
use Rattle.bank.proofs.Normal.{one_more, u32_split}
use Rattle.bank.proofs.NormalizeLaws.{raw_length}
use Rattle.bank.proofs.LengthLaws.{length_header}
use Rattle.bank.proofs.HeaderLaws.{Headed, headed}
use Rattle.bank.proofs.ReadFine.{take-add, walk_fine}
use Rattle.bank.proofs.ReadBank.{came, came_total}

module _ (s : List ℕ) (h : StoreHeader) (k : Bytes s) (e : Headed s h) where
  -- the bytes before the reserved one, and those after it
  abbrev front : List ℕ
  front = signature ++ (le32 (u32_at s 4) ++ (le32 (u32_at s 8) ++ (get_or s 12 0 ∷ get_or s 13 0 ∷ 1 ∷ [])))

  abbrev back : List ℕ
  back = le32 (u32_at s 16) ++ (le32 (u32_at s 20) ++ drop 24 s)

  bytes_are : s ≡ front ++ (get_or s 15 0 ∷ back)
  unfolding le32
  bytes_are =
      let l = e.long in
      sym (take-append-drop 4 s)
      ∙ ap₂ (λ (a b : List ℕ). a ++ b) e.signs
      (u32_split s 4 k (omega arith)
      ∙ ap (λ (r : List ℕ). le32 (u32_at s 4) ++ r)
      (u32_split s 8 k (omega arith)
      ∙ ap (λ (r : List ℕ). le32 (u32_at s 8) ++ r)
      (one_more s 12 (omega arith)
      ∙ ap (λ (r : List ℕ). get_or s 12 0 ∷ r)
      (one_more s 13 (omega arith)
      ∙ ap (λ (r : List ℕ). get_or s 13 0 ∷ r)
      (one_more s 14 (omega arith)
      ∙ ap₂ (λ (a : ℕ) (r : List ℕ). a ∷ r) e.version
      (one_more s 15 (omega arith)
      ∙ ap (λ (r : List ℕ). get_or s 15 0 ∷ r)
      (u32_split s 16 k (omega arith) ∙ ap (λ (r : List ℕ). le32 (u32_at s 16) ++ r) (u32_split s 20 k (omega arith)))))))))

  -- a header's reserved byte zeroed
  pub header_normal : set s 15 0 ≡ header_bytes h ++ drop 24 s
  unfolding header_bytes header_of le32
  header_normal =
      ap (λ (x : List ℕ). set x 15 0) bytes_are
      ∙ sym (ap (λ (x : StoreHeader). header_bytes x ++ drop 24 s) e.is)

take_past : (p q : List ℕ) (n k : ℕ) → length p ≡ n → take (n + k) (p ++ q) ≡ p ++ take k q
take_past p q n k e = take-add n k (p ++ q) ∙ ap₂ (λ (a z : List ℕ). a ++ z) (take_at p q n e) (ap (take k) (drop_at p q n e))

-- a bank of t bytes that was read from s, and room to write it
pub record Given (s out : List ℕ) (b : Bank) (t : ℕ) : Type 0 where
  pub bytes : Bytes s
  pub long : length s ≡ 65536
  pub room : 65536 ≤ length out
  pub reads : read_bank s ≡ valid b
  pub ends : t ≡ total b

module _ {s out : List ℕ} {b : Bank} {t : ℕ} (g : Given s out b t) where
  abbrev k : Bytes s
  k = g.bytes

  abbrev e : read_bank s ≡ valid b
  e = g.reads

  begins : 24 ≤ length s
  begins = omega (arith, g.long)

  abbrev h : StoreHeader
  h = b.header

  -- the records' bytes as they stand in the bank
  abbrev x : List ℕ
  x = take (t - 24) (drop 24 s)

  ended : t ≡ (walk_from s h.size 24).at
  ended = g.ends ∙ came_total s b (came s b e)

  pub total_low : 24 ≤ t
  total_low = omega (arith, ended, (walk_fine s h.size k 24 begins).low)

  pub total_high : t ≤ 65536
  total_high = omega (arith, g.long, ended, (walk_fine s h.size k 24 begins).high)

  raw : Raw x b.records
  raw =
      subst (λ (i : ℕ). Raw (take (i - 24) (drop 24 s)) b.records) (sym ended)
      (subst (λ (rs : List Record). Raw (take ((walk_from s h.size 24).at - 24) (drop 24 s)) rs) (came s b e).records
      (walk_fine s h.size k 24 begins).raw)

  -- after the copy, with the header's reserved byte zeroed
  module _ (d : List ℕ) (de : d ≡ onto (take (t - 0) (drop 0 s)) out) where
    length_copied : length (set d 15 0) ≡ length out
    length_copied = length-set d 15 0 ∙ ap length de ∙ length_onto (take (t - 0) (drop 0 s)) out

    copied : set d 15 0 ≡ header_bytes h ++ (x ++ drop t out)
    copied =
        let tl = total_low in
        let th = total_high in
        let m : t - 0 ≡ t = omega arith in
        let lt : length (take t s) ≡ t = length-take-le t s (omega (arith, g.long)) in
        let n : t ≡ 24 + (t - 24) = omega arith in
        let o : d ≡ take t s ++ drop t out =
        de ∙ ap (λ (i : ℕ). onto (take i s) out) m ∙ onto_fits (take t s) out (omega (arith, g.room))
        ∙ ap (λ (i : ℕ). take t s ++ drop i out) lt in
        let q : set (take t s) 15 0 ≡ header_bytes h ++ x =
        sym (take-set-lt t s 15 0 (omega arith)) ∙ ap (take t) (header_normal s h k (headed s h (came s b e).head))
        ∙ ap (λ (i : ℕ). take i (header_bytes h ++ drop 24 s)) n
        ∙ take_past (header_bytes h) (drop 24 s) 24 (t - 24) (length_header h) in
        ap (λ (y : List ℕ). set y 15 0) o ∙ set-append_left (take t s) (drop t out) 15 0 (omega arith)
        ∙ ap (λ (y : List ℕ). y ++ drop t out) q
        ∙ append_assoc (header_bytes h) x (drop t out)

    length_x : length x ≡ t - 24
    length_x =
        let tl = total_low in
        let th = total_high in
        length-take-le (t - 24) (drop 24 s) (omega (arith, g.long, length-drop 24 s))

    pub copied_raw : Raw (take (t - 24) (drop 24 (set d 15 0))) b.records
    copied_raw =
        subst (λ (y : List ℕ). Raw y b.records)
        (sym
        (ap (λ (y : List ℕ). take (t - 24) (drop 24 y)) copied
        ∙ ap (take (t - 24)) (drop_at (header_bytes h) (x ++ drop t out) 24 (length_header h))
        ∙ take_at x (drop t out) (t - 24) length_x)) raw

    pub copied_long : t ≤ length (set d 15 0)
    copied_long = let th = total_high in omega (arith, g.room, length_copied)

    -- after the records were normalized
    module _ (u : List ℕ) (ue : u ≡ over 24 (records_bytes b.records) (set d 15 0)) where
      length_rs : length (records_bytes b.records) ≡ t - 24
      length_rs = raw_length raw ∙ length_x

      written : u ≡ bank_bytes b ++ drop t out
      unfolding over bank_bytes
      written =
          let tl = total_low in
          let n : 24 + length (records_bytes b.records) ≡ 24 + (t - 24) = omega (arith, length_rs) in
          ue ∙ ap (λ (y : List ℕ). take 24 y ++ (records_bytes b.records ++ drop (24 + length (records_bytes b.records)) y)) copied
          ∙ ap₂ (λ (a z : List ℕ). a ++ (records_bytes b.records ++ z)) (take_at (header_bytes h) (x ++ drop t out) 24 (length_header h))
          (ap (λ (i : ℕ). drop i (header_bytes h ++ (x ++ drop t out))) n
          ∙ past_drop (header_bytes h) (x ++ drop t out) 24 (t - 24) (length_header h)
          ∙ drop_at x (drop t out) (t - 24) length_x)
          ∙ sym (append_assoc (header_bytes h) (records_bytes b.records) (drop t out))

      length_bytes : length (bank_bytes b) ≡ t
      unfolding bank_bytes
      length_bytes =
          let tl = total_low in length-append (header_bytes h) (records_bytes b.records) ∙ omega (arith, length_header h, length_rs)

      pub length_written : length u ≡ length out
      length_written =
          let th = total_high in
          ap length written ∙ length-append (bank_bytes b) (drop t out) ∙ omega (arith, g.room, length_bytes, length-drop t out)

      pub written_long : t ≤ length u
      written_long = let th = total_high in omega (arith, g.room, length_written)

      -- after the rest was filled
      pub filled : (y : List ℕ) → y ≡ replicate (length (take (length u - t) (drop t u))) 255
          → take t u ++ (y ++ drop (length u - t) (drop t u)) ≡ part_of (length out) (read_bank s)
      unfolding part_of padded
      filled y ye =
          let th = total_high in
          let le : length (drop t u) ≤ length u - t = omega (arith, length-drop t u) in
          let n : length (take (length u - t) (drop t u)) ≡ length out - length (bank_bytes b) =
          length-take-le (length u - t) (drop t u) (omega (arith, length-drop t u)) ∙ omega (arith, g.room, length_written, length_bytes) in
          ap₂ (λ (a z : List ℕ). a ++ (y ++ z)) (ap (take t) written ∙ take_at (bank_bytes b) (drop t out) t length_bytes)
          (drop_of_length-le (drop t u) le)
          ∙ ap (λ (z : List ℕ). bank_bytes b ++ z) (append-nil y ∙ ye ∙ ap (λ (i : ℕ). replicate i 255) n)
          ∙ sym (ap (part_of (length out)) e)
