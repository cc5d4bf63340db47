-- The writes that append a record: its header, its key, the closing byte and its value.
use Prim.Native.Nat.{ℕ, ◌+◌, ◌-◌, ◌≤◌}
use mathlib.Core.Path.{◌≡◌, ap, ◌∙◌}
use mathlib.Core.List.{List, [], ◌∷◌, ◌++◌, append_assoc}
use native.Mathlib.Omega.{arith}
use lib.ListN.{length, set, take, drop, length-append, length-set}
use borrow.Rule.Slice.PartMut.{same_len_mid}
use Rattle.crc32.specs.Crc32.{crc32_of}
use Rattle.buffers.specs.Bytes.{onto, over}
use Rattle.buffers.proofs.Laws.{length_onto}
use Rattle.buffers.proofs.OverLaws.{length_over, over_over, over_set, over_copy}
use Rattle.bank.specs.declared.variable.VarType.{VarType}
use Rattle.bank.specs.declared.variable.VarHeader.{VarHeader}
use Rattle.bank.specs.Record.{guid_of, var_header_bytes, record_bytes}
use Rattle.bank.specs.Answer.{fresh_header}
use Rattle.bank.proofs.LengthLaws.{length_var_header}
use Rattle.records.specs.Match.{fresh}
use Rattle.records.proofs.RecordLists.{guid_length}
use Rattle.records.proofs.RecordSteps.{lent}

-- w after the part from a place on was lent and given back as y
abbrev put : ℕ → List ℕ → List ℕ → List ℕ
put at w y = take at w ++ (y ++ drop (length w - at) (drop at w))

-- the header that was serialized
pub fresh_bytes : (attributes : ℕ) (key value : List ℕ) (typ : VarType) (crc : ℕ) → crc ≡ crc32_of value → (x : VarHeader)
    → x ≡ fresh_header typ attributes (length key + 1) (length value) crc
    → (h : List ℕ)
    → h ≡ var_header_bytes x.state x.attrs x.name_size x.data_size x.guid x.crc
    → h ≡ var_header_bytes 0x7F attributes (length key + 1) (length value) (guid_of typ) (crc32_of value)
unfolding fresh_header
fresh_bytes attributes key value typ crc c x e h q =
    q ∙ ap (λ (y : VarHeader). var_header_bytes y.state y.attrs y.name_size y.data_size y.guid y.crc) e
    ∙ ap (var_header_bytes 0x7F attributes (length key + 1) (length value) (guid_of typ)) c

module _ (at attributes : ℕ) (key value w : List ℕ) (typ : VarType) (room : at + (37 + length key + length value) ≤ length w) (h : List ℕ)
    (is : h ≡ var_header_bytes 0x7F attributes (length key + 1) (length value) (guid_of typ) (crc32_of value)) where
  header_long : length h ≡ 36
  header_long = ap length is ∙ length_var_header 0x7F attributes (length key + 1) (length value) (crc32_of value) (guid_of typ) (guid_length typ)

  module _ (a : List ℕ) (p : a ≡ onto h (lent w at)) where
    abbrev one : List ℕ
    one = put at w a

    one_is : one ≡ over at h w
    one_is = over_copy at h w a (omega (arith, header_long)) p

    one_long : length one ≡ length w
    one_long = ap length one_is ∙ length_over at h w (omega (arith, header_long))

    module _ (b : List ℕ) (q : b ≡ onto key (lent one (at + 36))) where
      abbrev two : List ℕ
      two = put (at + 36) one b

      two_is : two ≡ over at (h ++ key) w
      two_is =
          over_copy (at + 36) key one b (omega (arith, one_long)) q ∙ ap (over (at + 36) key) one_is
          ∙ over_over at (at + 36) h key w (omega (arith, header_long)) (omega arith)

      two_long : length two ≡ length w
      two_long = ap length two_is ∙ length_over at (h ++ key) w (omega (arith, header_long, length-append h key))

      abbrev three : List ℕ
      three = set two (at + 36 + length key) 0

      pub three_long : length three ≡ length w
      three_long = length-set two (at + 36 + length key) 0 ∙ two_long

      three_is : three ≡ over at ((h ++ key) ++ (0 ∷ [])) w
      three_is =
          over_set (at + 36 + length key) 0 two (omega (arith, two_long)) ∙ ap (over (at + 36 + length key) (0 ∷ [])) two_is
          ∙ over_over at (at + 36 + length key) (h ++ key) (0 ∷ []) w (omega (arith, header_long, length-append h key)) (omega arith)

      module _ (d : List ℕ) (r : d ≡ onto value (lent three (at + 36 + length key + 1))) where
        abbrev four : List ℕ
        four = put (at + 36 + length key + 1) three d

        pub four_is : four ≡ over at (record_bytes (fresh attributes key value typ)) w
        unfolding record_bytes
        four_is =
            let x = (h ++ key) ++ (0 ∷ []) in
            let l : length x ≡ 36 + length key + 1 = simp length-append (omega (arith, header_long)) in
            let e : x ++ value ≡ h ++ (key ++ (0 ∷ value)) = simp append_assoc in
            over_copy (at + 36 + length key + 1) value three d (omega (arith, three_long)) r
            ∙ ap (over (at + 36 + length key + 1) value) three_is
            ∙ over_over at (at + 36 + length key + 1) x value w (omega arith) (omega arith)
            ∙ ap (λ (y : List ℕ). over at y w) (e ∙ ap (λ (y : List ℕ). y ++ (key ++ (0 ∷ value))) is)

        pub four_long : length four ≡ length w
        four_long = same_len_mid (at + 36 + length key + 1) (length three - (at + 36 + length key + 1)) three d (ap length r ∙ length_onto value _) ∙ three_long
