-- A header, by its faults in order, and what each head shows of the bytes (`head_shows`); and what is written is read back, whatever follows it.
use Prim.Native.Nat.{ℕ, ◌≤◌, ◌<◌}
use mathlib.Core.Path.{◌≡◌, refl, ap, ◌∙◌, subst}
use mathlib.Core.List.{List, ◌++◌}
use mathlib.Core.Bool.{Bool, true, false, ◌&&◌}
use native.Mathlib.Omega.{arith}
use lib.Dec.{leb, eqb}
use lib.ListN.{length, get_or, take, length-append}
use borrow.Author.Tests.{le-leb, lt-leb, eq-eqb, ne_eqb, leb-true, eqb-true, eqb-false}
use Rattle.buffers.specs.Bytes.{eq_bytes}
use Rattle.buffers.proofs.Laws.{clash, eq_bytes_lem, eq_bytes_refl, and_both, by_test}
use Rattle.bank.specs.declared.header.StoreHeader.{StoreHeader}
use Rattle.bank.specs.declared.header.HeaderFault.{HeaderFault}
use Rattle.bank.specs.declared.header.HeaderFault.TheVariants.{Signature, Version, Size}
use Rattle.std.specs.Prelude.{Result, Ok, Err}
use Rattle.bank.specs.Number.{u32_at, le32}
use Rattle.bank.specs.Header.{signature, header_bytes, header_of, signed, read_header}
use Rattle.bank.specs.WellFormed.{FineHeader}
use Rattle.bank.proofs.NumberLaws.{u32_sum}
use Rattle.bank.proofs.LengthLaws.{length_header}

-- a header, by its faults in order
module _ (s : List ℕ) where
  pub head_signature : signed s ≡ false → read_header s ≡ Err Signature
  unfolding read_header
  head_signature a = simp a

  module _ (a : signed s ≡ true) where
    pub head_version : (get_or s 14 0 ≡ 1 → ⊥) → read_header s ≡ Err Version
    unfolding read_header
    head_version b = simp (a, ne_eqb _ _ b)

    module _ (b : get_or s 14 0 ≡ 1) where
      pub head_small : u32_at s 4 < 24 → read_header s ≡ Err Size
      unfolding read_header
      head_small d = simp (a, eq-eqb _ _ b, lt-leb _ _ d)

      pub head_big : 24 ≤ u32_at s 4 → 65536 < u32_at s 4 → read_header s ≡ Err Size
      unfolding read_header
      head_big d e = simp (a, eq-eqb _ _ b, le-leb _ _ d, lt-leb _ _ e)

      pub head_good : 24 ≤ u32_at s 4 → u32_at s 4 ≤ 65536 → read_header s ≡ Ok (header_of s)
      unfolding read_header
      head_good d e = simp (a, eq-eqb _ _ b, le-leb _ _ d, le-leb _ _ e)

-- what a header that was read shows of the bytes
pub record Headed (s : List ℕ) (h : StoreHeader) : Type 0 where
  pub is : h ≡ header_of s
  pub long : 24 ≤ length s
  pub signs : take 4 s ≡ signature
  pub version : get_or s 14 0 ≡ 1
  pub size_low : 24 ≤ u32_at s 4
  pub size_high : u32_at s 4 ≤ 65536

-- and what a fault does: the tests before it were passed
abbrev pub HeadShows : List ℕ → Result StoreHeader HeaderFault → Type 0
HeadShows s (Ok h) = Headed s h
HeadShows s (Err Signature) = 24 ≤ length s → take 4 s ≡ signature → ⊥
HeadShows s (Err Version) = (take 4 s ≡ signature) × (get_or s 14 0 ≡ 1 → ⊥)
HeadShows s (Err Size) = (take 4 s ≡ signature) × (get_or s 14 0 ≡ 1) × ((24 ≤ u32_at s 4) × (u32_at s 4 ≤ 65536) → ⊥)

module _ (s : List ℕ) where
  signs_is : signed s ≡ true → (24 ≤ length s) × (take 4 s ≡ signature)
  unfolding signed
  signs_is a =
      let b = and_both (leb 24 (length s)) (eq_bytes (take 4 s) signature) a in
      (leb-true _ _ b.0, eq_bytes_lem (take 4 s) signature b.1)

  not_signed : signed s ≡ false → 24 ≤ length s → take 4 s ≡ signature → ⊥
  unfolding signed
  not_signed a l e =
      let b : eq_bytes (take 4 s) signature ≡ true = ap (λ (x : List ℕ). eq_bytes x signature) e ∙ eq_bytes_refl signature in
      let c : (leb 24 (length s) && eq_bytes (take 4 s) signature) ≡ true = simp (le-leb 24 (length s) l, b) in
      clash cc

  abbrev SizeTest : Bool
  SizeTest = leb 24 (u32_at s 4) && leb (u32_at s 4) 65536

  size_in : SizeTest ≡ true → (24 ≤ u32_at s 4) × (u32_at s 4 ≤ 65536)
  size_in a = let b = and_both (leb 24 (u32_at s 4)) (leb (u32_at s 4) 65536) a in (leb-true _ _ b.0, leb-true _ _ b.1)

  size_out : SizeTest ≡ false → (24 ≤ u32_at s 4) × (u32_at s 4 ≤ 65536) → ⊥
  size_out a b = let c : SizeTest ≡ true = simp (le-leb _ _ b.0, le-leb _ _ b.1) in clash cc

  head_sound : HeadShows s (read_header s)
  unfolding read_header
  head_sound =
      by_test (HeadShows s) (signed s) _ _
      (λ a. by_test (HeadShows s) (eqb (get_or s 14 0) 1) _ _
      (λ b. by_test (HeadShows s) SizeTest _ _
      (λ c. record {
        is = refl;
        long = (signs_is a).0;
        signs = (signs_is a).1;
        version = eqb-true _ _ b;
        size_low = (size_in c).0;
        size_high = (size_in c).1;
      })
      (λ c. ((signs_is a).1, eqb-true _ _ b, size_out c)))
      (λ b. ((signs_is a).1, eqb-false _ _ b)))
      (λ a. not_signed a)

  pub head_shows : (o : Result StoreHeader HeaderFault) → read_header s ≡ o → HeadShows s o
  head_shows o e = subst (HeadShows s) e head_sound

pub headed : (s : List ℕ) (h : StoreHeader) → read_header s ≡ Ok h → Headed s h
headed s h e = head_shows s (Ok h) e

module _ (h : StoreHeader) (rest : List ℕ) (f : FineHeader h) where
  fields_of_lem : header_of (header_bytes h ++ rest) ≡ h
  unfolding header_bytes header_of u32_at le32
  fields_of_lem =
      λ i. record {
        size = u32_sum h.size (omega arith) i;
        generation = u32_sum h.generation f.generation_fits i;
        state = h.state;
        flags = h.flags;
        system_size = u32_sum h.system_size f.system_fits i;
        common_size = u32_sum h.common_size f.common_fits i;
      }

  size_of_header : u32_at (header_bytes h ++ rest) 4 ≡ h.size
  unfolding header_bytes u32_at le32
  size_of_header = u32_sum h.size (omega arith)

  signature_back : eq_bytes (take 4 (header_bytes h ++ rest)) signature ≡ true
  unfolding header_bytes eq_bytes
  signature_back = refl

  version_back : get_or (header_bytes h ++ rest) 14 0 ≡ 1
  unfolding header_bytes le32
  version_back = refl

  signed_back : signed (header_bytes h ++ rest) ≡ true
  unfolding signed
  signed_back =
      let l : 24 ≤ length (header_bytes h ++ rest) = omega (arith, length-append (header_bytes h) rest, length_header h) in
      simp (le-leb 24 (length (header_bytes h ++ rest)) l, signature_back)

  pub header_back : read_header (header_bytes h ++ rest) ≡ Ok h
  header_back =
      head_good (header_bytes h ++ rest) signed_back version_back (omega (arith, size_of_header, f.size_low)) (omega (arith, size_of_header, f.size_high))
      ∙ ap Ok fields_of_lem
