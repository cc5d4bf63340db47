-- Two walks side by side: a turn of the loop (`turn_alike`, `turn_other`, `turn_stop`, `turn_fault`, `both_end`); then two slots by their heads
-- (`headers_other`, `headers_same`, `no_one`, `no_other`), and any bytes lent (`compared_banks`, `compared_other`).
use Prim.Native.Nat.{ℕ, ◌+◌, ◌-◌, ◌≤◌, ◌<◌}
use mathlib.Core.Path.{◌≡◌, refl, sym, ap, ap₂, ◌∙◌}
use mathlib.Core.List.{List}
use mathlib.Core.Bool.{Bool, true, false, ◌&&◌, not, not-not, cond, and-true, and-false}
use native.Mathlib.Omega.{arith}
use lib.Dec.{eqb}
use lib.ListN.{length, take, drop, length-drop}
use borrow.Author.Tests.{ne_eqb}
use Rattle.buffers.proofs.Laws.{clash}
use lib.Seq.{take_all}
use Rattle.bank.specs.declared.header.StoreHeader.{StoreHeader}
use Rattle.bank.specs.declared.header.HeaderFault.{HeaderFault}
use Rattle.std.specs.Prelude.{Option, Some, None, Ok, Err}
use Rattle.refusal.specs.declared.Refusal.TheVariants.{BankLength}
use Rattle.bank.specs.declared.partition.Stop.{Stop}
use Rattle.bank.specs.Header.{read_header}
use Rattle.bank.specs.Record.{Record, size_of}
use Rattle.bank.specs.Bank.{Bank, Slot, invalid, valid, bank_of, bank_size}
use Rattle.bank.specs.Read.{Item, got, halt, found, Walk, halted, with_first, walk_from, spoils, usable_at, slot_of, after_head, read_bank}
use Rattle.bank.proofs.WalkLaws.{stands, stands_size, size_pos, walk_end, walk_got, walk_halt}
use Rattle.bank.proofs.ReadBank.{came}
use Rattle.bank.proofs.PartitionLaws.{bank_size_lem}
use Rattle.settings.specs.Same.{same_header, alike, all_alike, alike_at, ends_at, size_here, same_walks, same_settings, compared}
use Rattle.settings.proofs.StopLaws.{stop_of, fault_of, record_of_lem}
use Rattle.settings.proofs.Equal.{eqb_self, alike_equal, header_equal, yes_equal}

-- walks that begin with a record each, and with a record and none
first_alike : (r q : Record) (w v : Walk) → alike eqb r q ≡ true → same_walks (with_first r w) (with_first q v) ≡ same_walks w v
unfolding same_walks all_alike
first_alike r q w v e = rw e refl

first_other : (r q : Record) (w v : Walk) → alike eqb r q ≡ false → same_walks (with_first r w) (with_first q v) ≡ false
unfolding same_walks all_alike
first_other r q w v e = rw e (and-false (not (spoils w.stop) && not (spoils v.stop)))

first_none : (r : Record) (w : Walk) (c : Stop) (at : ℕ) → same_walks (with_first r w) (halted c at) ≡ false
unfolding same_walks all_alike
first_none r w c at = and-false (not (spoils w.stop) && not (spoils c))

none_first : (c : Stop) (at : ℕ) (q : Record) (v : Walk) → same_walks (halted c at) (with_first q v) ≡ false
unfolding same_walks all_alike
none_first c at q v = and-false (not (spoils c) && not (spoils v.stop))

none_none : (c d : Stop) (at : ℕ) → same_walks (halted c at) (halted d at) ≡ (not (spoils c) && not (spoils d))
unfolding same_walks all_alike
none_none c d at = and-true (not (spoils c) && not (spoils d))

module _ (s t : List ℕ) (size at : ℕ) (h : at + 36 < size) where
  abbrev here : Bool
  here = same_walks (walk_from s size at) (walk_from t size at)

  abbrev next : ℕ → Bool
  next n = same_walks (walk_from s size (at + n)) (walk_from t size (at + n))

  module _ (r : Record) (e : found (drop at s) ≡ got r) where
    alike_here : (o : Item) → found (drop at t) ≡ o → alike_at eqb r o ≡ true → here ≡ next (size_of r)
    unfolding alike_at
    alike_here (halt c) f b = clash cc
    alike_here (got q) f b =
        ap₂ same_walks (walk_got s size at r h e) (walk_got t size at q h f) ∙ first_alike r q _ _ b
        ∙ ap (λ (x : Record). same_walks (walk_from s size (at + size_of r)) (walk_from t size (at + size_of x))) (sym (alike_equal r q b))

    other_here : (o : Item) → found (drop at t) ≡ o → alike_at eqb r o ≡ false → here ≡ false
    unfolding alike_at
    other_here (halt c) f b = ap₂ same_walks (walk_got s size at r h e) (walk_halt t size at c h f) ∙ first_none r _ c at
    other_here (got q) f b = ap₂ same_walks (walk_got s size at r h e) (walk_got t size at q h f) ∙ first_other r q _ _ b

  halt_here : (c : Stop) → found (drop at s) ≡ halt c → (o : Item) → found (drop at t) ≡ o → here ≡ (not (spoils c) && ends_at o)
  unfolding ends_at
  halt_here c e (halt d) f = ap₂ same_walks (walk_halt s size at c h e) (walk_halt t size at d h f) ∙ none_none c d at
  halt_here c e (got q) f =
      ap₂ same_walks (walk_halt s size at c h e) (walk_got t size at q h f) ∙ none_first c at q _ ∙ sym (and-false (not (spoils c)))

-- in the numbers that the code has, of what is lent from `at` on of m bytes
abbrev lent : ℕ → ℕ → List ℕ → List ℕ
lent m at l = take (m - at) (drop at l)

lent_found : (m at : ℕ) (l : List ℕ) → length l ≡ m → found (lent m at l) ≡ found (drop at l)
lent_found m at l e = ap found (take_all (m - at) (drop at l) (omega (arith, e, length-drop at l)))

module _ (s t : List ℕ) (size at : ℕ) {m k : ℕ} (ls : length s ≡ m) (lt : length t ≡ k) (h : at + 36 < size) where
  pub turn_stop : ends_at (found (lent m at s)) ≡ true → here s t size at h ≡ ends_at (found (lent k at t))
  turn_stop e =
      let i = stop_of (found (lent m at s)) e in
      halt_here s t size at h i.0 (sym (lent_found m at s ls) ∙ i.1) (found (drop at t)) refl ∙ rw (i.2, lent_found k at t lt) refl

  module _ (o : Option ℕ) (e : o ≡ size_here (found (lent m at s))) where
    pub turn_fault : ends_at (found (lent m at s)) ≡ false → o ≡ None → here s t size at h ≡ false
    turn_fault f z =
        let i = fault_of (found (lent m at s)) f (sym z ∙ e) in
        halt_here s t size at h i.0 (sym (lent_found m at s ls) ∙ i.1) (found (drop at t)) refl ∙ rw i.2 refl

    module _ (n : ℕ) (f : o ≡ Some n) where
      record_there : (r : Record) × (found (lent m at s) ≡ got r) × (size_of r ≡ n)
      record_there = record_of_lem (found (lent m at s)) n (sym f ∙ e)

      record_here : found (drop at s) ≡ got record_there.0
      record_here = sym (lent_found m at s ls) ∙ record_there.1

      pub record_lent : (r : Record) × (found (lent m at s) ≡ got r)
      record_lent = let i = record_there in (i.0, i.1)

      pub record_within : (36 < n) × (at + n ≤ m)
      record_within =
          let i = record_there in
          let st = stands (drop at s) i.0 record_here in
          let long = stands_size (drop at s) i.0 st in
          (omega (arith, i.2, size_pos i.0), omega (arith, ls, i.2, long, size_pos i.0, st.ends, length-drop at s))

      -- x is what was found of the two records
      module _ (x : Bool) (same : (r : Record) → found (lent m at s) ≡ got r → x ≡ alike_at eqb r (found (lent k at t))) where
        compares : alike_at eqb record_there.0 (found (drop at t)) ≡ x
        compares = let i = record_there in ap (alike_at eqb i.0) (sym (lent_found k at t lt)) ∙ sym (same i.0 i.1)

        pub turn_alike : x ≡ true → here s t size at h ≡ next s t size at h n
        turn_alike y =
            let i = record_there in
            alike_here s t size at h i.0 record_here (found (drop at t)) refl (compares ∙ y) ∙ ap (next s t size at h) i.2

        pub turn_other : x ≡ false → here s t size at h ≡ false
        turn_other y = let i = record_there in other_here s t size at h i.0 record_here (found (drop at t)) refl (compares ∙ y)

pub both_end : (s t : List ℕ) (size at : ℕ) → size ≤ at + 36 → same_walks (walk_from s size at) (walk_from t size at) ≡ true
unfolding same_walks all_alike
both_end s t size at h = ap₂ same_walks (walk_end s size at h) (walk_end t size at h)

-- two slots, by their heads
module _ (s t : List ℕ) where
  by_walks : (h g : StoreHeader) (w v : Walk)
      → same_settings (slot_of s h w) (slot_of t g v) ≡ (same_header h g && same_walks w v)
  unfolding same_settings slot_of same_walks
  by_walks h g w v = go (spoils w.stop) (spoils v.stop)
    where
      go : (a b : Bool)
          → same_settings (cond a invalid (valid (bank_of h w.records (usable_at w.stop s h.size w.at))))
          (cond b invalid (valid (bank_of g v.records (usable_at v.stop t g.size v.at))))
          ≡ (same_header h g && (not a && not b && all_alike eqb w.records v.records))
      go true b = sym (and-false (same_header h g))
      go false true = sym (and-false (same_header h g))
      go false false = refl

  module _ (h g : StoreHeader) (p : read_header s ≡ Ok h) (q : read_header t ≡ Ok g) where
    both : same_settings (read_bank s) (read_bank t) ≡ (same_header h g && same_walks (walk_from s h.size 24) (walk_from t g.size 24))
    unfolding read_bank after_head
    both = ap₂ same_settings (ap (after_head s) p) (ap (after_head t) q) ∙ by_walks h g _ _

    pub headers_other : not (same_header h g) ≡ true → false ≡ same_settings (read_bank s) (read_bank t)
    headers_other e = let n : same_header h g ≡ false = sym (not-not (same_header h g)) ∙ ap not e in sym (both ∙ rw n refl)

    pub headers_same : not (same_header h g) ≡ false
        → same_walks (walk_from s h.size 24) (walk_from t h.size 24) ≡ same_settings (read_bank s) (read_bank t)
    headers_same n =
        let e : same_header h g ≡ true = sym (not-not (same_header h g)) ∙ ap not n in
        let size : h.size ≡ g.size = ap (λ (x : StoreHeader). x.size) (header_equal h g e) in
        sym (both ∙ rw (e, sym size) refl)

-- a bank without a header is not Valid
not_valid : (s : List ℕ) (f : HeaderFault) → read_header s ≡ Err f → (b : Bank) → read_bank s ≡ valid b → ⊥
not_valid s f p b e = let z : Err f ≡ Ok b.header = sym p ∙ (came s b e).head in clash cc

no : (yes : Bool) → (yes ≡ true → ⊥) → false ≡ yes
no false f = refl
no true f = absurd (f refl)

pub no_one : (s : List ℕ) (y : Slot) (f : HeaderFault) → read_header s ≡ Err f → false ≡ same_settings (read_bank s) y
no_one s y f p = no _ (λ e. let q = yes_equal (read_bank s) y e in not_valid s f p q.one q.one_is)

pub no_other : (x : Slot) (t : List ℕ) (f : HeaderFault) → read_header t ≡ Err f → false ≡ same_settings x (read_bank t)
no_other x t f p = no _ (λ e. let q = yes_equal x (read_bank t) e in not_valid t f p q.other q.other_is)

-- any bytes lent
module _ (s t : List ℕ) where
  pub compared_banks : length s ≡ bank_size → length t ≡ bank_size → compared s t ≡ Ok (same_settings (read_bank s) (read_bank t))
  unfolding compared
  compared_banks p q = rw (p, q) (simp eqb_self)

  pub compared_long : length s ≡ 65536 → length t ≡ 65536 → Ok (same_settings (read_bank s) (read_bank t)) ≡ compared s t
  compared_long p q = sym (compared_banks (p ∙ sym bank_size_lem) (q ∙ sym bank_size_lem))

  pub compared_other : (eqb (length s) bank_size && eqb (length t) bank_size) ≡ false → compared s t ≡ Err BankLength
  unfolding compared
  compared_other e = rw e

  pub refused_one : (length s ≡ 65536 → ⊥) → Err BankLength ≡ compared s t
  refused_one n = let e : length s ≡ bank_size → ⊥ = λ p. n (p ∙ bank_size_lem) in sym (compared_other (simp (ne_eqb _ _ e)))

  pub refused_other : (length t ≡ 65536 → ⊥) → Err BankLength ≡ compared s t
  refused_other n = let e : length t ≡ bank_size → ⊥ = λ p. n (p ∙ bank_size_lem) in sym (compared_other (simp (ne_eqb _ _ e, and-false)))
