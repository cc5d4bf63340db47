-- The fields of a bank's header and of a record's, as the code reads and writes them. `step_length` to `step_next` are `Variable::parse` behind the
-- record's header, by the laws of `found`; `Front` is a record's header as far as it is written.
use Prim.Native.Nat.{ℕ, ◌+◌, ◌-◌, ◌≤◌, ◌<◌}
use mathlib.Core.Path.{◌≡◌, refl, sym, ap, ◌∙◌}
use mathlib.Core.List.{List, [], ◌∷◌, ◌++◌}
use mathlib.Core.Bool.{Bool, true, false, ◌&&◌, and-false}
use native.Mathlib.Omega.{arith}
use lib.ListN.{length, get_or, set, take, drop, replicate}
use lib.Seq.{take_at, drop_at}
use borrow.Rule.Slice.PartMut.{put_mid}
use borrow.Author.Tests.{le-leb, lt-leb}
use Rattle.crc32.specs.Crc32.{crc32_of}
use Rattle.buffers.proofs.Laws.{eq_bytes_lem}
use Rattle.std.specs.Cmp.Lexicographic.{same_text, other_text}
use Rattle.std.proofs.Common.{nat_eq}
use lib.Pointwise.{pointwise}
use lib.Dec.{leb}
use Rattle.buffers.specs.Bytes.{eq_bytes}
use Rattle.bank.specs.declared.header.StoreHeader.{StoreHeader}
use Rattle.bank.specs.declared.variable.VarHeader.{VarHeader}
use Rattle.std.specs.Prelude.{Ok, Err}
use Rattle.bank.specs.declared.partition.Stop.TheVariants.{Length, Name, Crc}
use Rattle.bank.specs.Number.{u16_at, u32_at, le32}
use Rattle.bank.specs.Header.{signature, signed, header_bytes}
use Rattle.bank.specs.Record.{var_header_bytes, name_at, value_at, size_at}
use Rattle.bank.specs.Read.{found}
use Rattle.bank.specs.Answer.{var_header, parsed_header, step_of}
use Rattle.bank.proofs.WalkLaws.{found_length, found_name, found_crc, found_got, size_of_lem}

-- the signature of a bank's header
module _ (s : List ℕ) where
  pub signed_short : length s < 24 → signed s ≡ false
  unfolding signed
  signed_short h = simp (lt-leb _ _ h)

  module _ (long : 24 ≤ length s) where
    pub signed_so : true ≡ pointwise nat_eq signature (take 4 s) → signed s ≡ true
    unfolding signed eq_bytes
    signed_so e = rw (sym (same_text signature (take 4 s) e)) (simp (le-leb _ _ long))

    pub unsigned_so : false ≡ pointwise nat_eq signature (take 4 s) → signed s ≡ false
    unfolding signed
    unsigned_so e = go (eq_bytes (take 4 s) signature) refl
      where
        go : (t : Bool) → eq_bytes (take 4 s) signature ≡ t → (leb 24 (length s) && t) ≡ false
        go true t = absurd (other_text signature (take 4 s) e (sym (eq_bytes_lem (take 4 s) signature t)))
        go false t = and-false (leb 24 (length s))

-- the bytes of a bank's header, as they are written over zeros
pub header_is : (h : StoreHeader) (z a b c d : List ℕ) → z ≡ signature → a ≡ le32 h.size → b ≡ le32 h.generation → c ≡ le32 h.system_size
    → d ≡ le32 h.common_size
    → put_mid 20 4 (put_mid 16 4 (set (set (set (put_mid 8 4 (put_mid 4 4 (z ++ replicate 20 0) a) b) 12 h.state) 13 h.flags) 14 1) c) d ≡ header_bytes h
unfolding header_bytes le32
header_is h z a b c d o p q r t = rw (o, p, q, r, t) refl

-- the header of a record
module _ (s : List ℕ) where
  pub header_short : length s < 36 → parsed_header s ≡ var_header 0 0 0 0 (replicate 16 0) 0
  unfolding parsed_header
  header_short h = simp (lt-leb _ _ h)

  pub header_long : 36 ≤ length s
      → parsed_header s ≡ var_header (get_or s 2 0) (u32_at s 4) (name_at s) (value_at s) (take 16 (drop 16 s)) (u32_at s 32)
  unfolding parsed_header
  header_long long = simp (le-leb _ _ long)

module _ (s : List ℕ) (long : 36 ≤ length s) (h : VarHeader) (e : h ≡ parsed_header s) where
  pub name_is : h.name_size ≡ name_at s
  name_is = ap (λ (x : VarHeader). x.name_size) (e ∙ header_long s long)

  pub value_is : h.data_size ≡ value_at s
  value_is = ap (λ (x : VarHeader). x.data_size) (e ∙ header_long s long)

  pub crc_is : h.crc ≡ u32_at s 32
  crc_is = ap (λ (x : VarHeader). x.crc) (e ∙ header_long s long)

-- the steps behind a record's header, in the numbers that the code has
module _ (s : List ℕ) (b : u16_at s 0 ≡ 0x55AA) (long : 36 ≤ length s) (h : VarHeader)
    (e : h ≡ parsed_header s) (end : ℕ) (size : end ≡ 36 + h.name_size + h.data_size) where
  size_is : end ≡ size_at s
  size_is = omega (arith, (name_is s long h e), (value_is s long h e))

  pub step_length : length s < end → Err Length ≡ step_of (found s)
  unfolding step_of
  step_length l = ap step_of (sym (found_length s b (omega (arith, size_is))))

  module _ (fits : end ≤ length s) where
    ends : size_at s ≤ length s
    ends = omega (arith, size_is)

    pub step_name : h.name_size ≡ 0 → Err Name ≡ step_of (found s)
    unfolding step_of
    step_name n = ap step_of (sym (found_name s b ends (omega (arith, (name_is s long h e)))))

    module _ (named : h.name_size ≡ 0 → ⊥) (value : ℕ) (from : value ≡ 36 + h.name_size + 0) (sum : ℕ)
        (summed : sum ≡ crc32_of (take (end - value) (drop value s))) where
      has_name : name_at s ≡ 0 → ⊥
      has_name z = named ((name_is s long h e) ∙ z)

      sum_is : sum ≡ crc32_of (take (value_at s) (drop (36 + name_at s) s))
      sum_is =
          let p : end - value ≡ value_at s = omega (arith, (value_is s long h e)) in
          let q : value ≡ 36 + name_at s = omega (arith, (name_is s long h e)) in
          summed ∙ rw (p, q)

      pub step_crc : (h.crc ≡ sum → ⊥) → Err Crc ≡ step_of (found s)
      unfolding step_of
      step_crc f = ap step_of (sym (found_crc s b ends has_name (λ g. f ((crc_is s long h e) ∙ g ∙ sym sum_is))))

      pub step_next : h.crc ≡ sum → Ok end ≡ step_of (found s)
      unfolding step_of
      step_next f =
          ap Ok (size_is ∙ sym (size_of_lem s ends has_name)) ∙ ap step_of (sym (found_got s b ends has_name (sym (crc_is s long h e) ∙ f ∙ sum_is)))

-- and those of a record's header
pub var_header_is : (h : VarHeader) (z a b c d : List ℕ) → z ≡ 0xAA ∷ 0x55 ∷ [] → a ≡ le32 h.attrs → b ≡ le32 h.name_size → c ≡ le32 h.data_size
    → length h.guid ≡ 16
    → d ≡ le32 h.crc
    → put_mid 32 4 (put_mid 16 16 (put_mid 12 4 (put_mid 8 4 (put_mid 4 4 (set (z ++ replicate 34 0) 2 h.state) a) b) c) h.guid) d
    ≡ var_header_bytes h.state h.attrs h.name_size h.data_size h.guid h.crc
unfolding var_header_bytes le32
var_header_is h z a b c d o p q r n t =
    rw (o, p, q, r, t) (simp (take_at h.guid (replicate 4 0) 16 n, drop_at h.guid (replicate 4 0) 16 n))
