-- What holds and what does not where reading stops: by the head's fault (`HeadShows`) or, behind a good header, by the record's (`Halts`).
use Prim.Native.Nat.{ℕ, ◌+◌, ◌≤◌, ◌<◌}
use mathlib.Core.Path.{◌≡◌, ap}
use mathlib.Core.List.{List, [], ◌∷◌}
use mathlib.Core.Bool.{false}
use native.Mathlib.Omega.{arith}
use lib.ListN.{length, get_or, take, drop, replicate}
use Rattle.buffers.specs.Bytes.{all_blank}
use Rattle.buffers.proofs.Laws.{clash}
use Rattle.bank.specs.declared.header.StoreHeader.{StoreHeader}
use Rattle.bank.specs.Number.{u16_at, u32_at}
use Rattle.bank.specs.Header.{signature}
use Rattle.bank.specs.Record.{Record, name_at, size_at}
use Rattle.bank.specs.Bank.{bank_size}
use Rattle.bank.proofs.HeaderLaws.{Headed}
use Rattle.bank.proofs.WalkLaws.{Stands, not_blank}
use Rattle.cause.specs.declared.Cause.{Cause}
use Rattle.cause.specs.Named.{HoldsAt}
use Rattle.cause.proofs.Order.{NoneBelow, none_yet, one_past, none_at_all}

-- a signature's first byte is not 0xFF
pub not_erased : (s : List ℕ) → take 4 s ≡ signature → s ≡ replicate (length s) 0xFF → ⊥
not_erased [] a e = clash cc
not_erased (x ∷ s) a e =
    let p : x ≡ 0x33 = ap (λ (l : List ℕ). get_or l 0 0) a in
    let q : x ≡ 0xFF = ap (λ (l : List ℕ). get_or l 0 0) e in
    omega arith

module _ (s : List ℕ) (index at : ℕ) where
  pub past_short : bank_size ≤ length s → NoneBelow s index at 1
  past_short l = one_past s index at 0 (none_yet s index at) (λ h. omega arith)

  pub past_empty : bank_size ≤ length s → (s ≡ replicate (length s) 0xFF → ⊥) → NoneBelow s index at 2
  past_empty l n = one_past s index at 1 (past_short l) n

  pub past_signature : bank_size ≤ length s → take 4 s ≡ signature → NoneBelow s index at 3
  past_signature l e = one_past s index at 2 (past_empty l (not_erased s e)) (λ h. h e)

  pub past_version : bank_size ≤ length s → take 4 s ≡ signature → get_or s 14 0 ≡ 1 → NoneBelow s index at 4
  past_version l e v = one_past s index at 3 (past_signature l e) (λ h. h v)

  -- behind a good header
  module _ (l : bank_size ≤ length s) {g : StoreHeader} (d : Headed s g) where
    pub past_header : NoneBelow s index at 5
    past_header = one_past s index at 4 (past_version l d.signs d.version) (λ h. h (d.size_low, d.size_high))

    module _ (i : at + 36 < u32_at s 4) where
      pub past_end : NoneBelow s index at 6
      past_end = one_past s index at 5 past_header (λ h. omega arith)

      pub past_blank : all_blank (take 36 (drop at s)) ≡ false → NoneBelow s index at 7
      past_blank b = one_past s index at 6 past_end (λ h. clash cc)

      module _ (b : u16_at (drop at s) 0 ≡ 0x55AA) where
        pub past_start : NoneBelow s index at 8
        past_start = one_past s index at 7 (past_blank (not_blank (drop at s) b)) (λ h. h b)

        pub past_length : size_at (drop at s) ≤ length (drop at s) → NoneBelow s index at 9
        past_length e = one_past s index at 8 past_start (λ h. omega arith)

        pub past_name : size_at (drop at s) ≤ length (drop at s) → (name_at (drop at s) ≡ 0 → ⊥) → NoneBelow s index at 10
        past_name e n = one_past s index at 9 (past_length e) (λ h. n h.0)

      pub past_record : (r : Record) → Stands (drop at s) r → (c : Cause) → HoldsAt s index at c → ⊥
      past_record r k =
          none_at_all s index at (one_past s index at 10 (past_name k.starts k.ends k.named) (λ h. h.0 k.summed))
