-- What `ready` answers, and what follows from each answer.
use Prim.Native.Nat.{ℕ, ◌+◌, ◌*◌, ◌≤◌, ◌<◌}
use mathlib.Core.Path.{◌≡◌, refl, sym, ap, ◌∙◌, subst}
use mathlib.Core.List.{List, []}
use mathlib.Core.Bool.{Bool, true, false, cond}
use Rattle.std.specs.Prelude.{is_some, Result, Ok, Err}
use native.Mathlib.Omega.{arith}
use lib.ListN.{length}
use Rattle.crc32.specs.Crc32.{Bytes}
use Rattle.buffers.proofs.Laws.{clash}
use Rattle.refusal.specs.Refusal.{number}
use Rattle.refusal.specs.declared.Refusal.{Refusal}
use Rattle.refusal.specs.declared.Refusal.TheVariants.{NotSound, NotValid}
use Rattle.bank.specs.Record.{Record}
use Rattle.records.specs.Records.{Holds}
use Rattle.book.specs.Book.{part_size}
use Rattle.book.specs.Call.{Call, refusal}
use Rattle.book.proofs.BookLaws.{part_times}
use Rattle.nvram.specs.declared.state.Kind.{Kind}
use Rattle.nvram.specs.declared.state.Kind.TheVariants.{Empty, Invalid, Valid}
use Rattle.nvram.specs.declared.state.Nvram.{Nvram}
use Rattle.nvram.specs.Layout.{view}
use Rattle.nvram.specs.Ready.{active_entry, records_at, by_kind, ready_of}
use Rattle.nvram.specs.Contract.{Does}
use Rattle.nvram.proofs.CallLaws.{OnActive, does_6, empty_valid, invalid_valid}
use Rattle.nvram.proofs.ActiveLaws.{Sound, active_in, does_7, bank, total_is, total_high, holds}

module _ (s : Nvram) (w : List ℕ) where
  pub ready_6 : is_some (view s w) ≡ false → Err NotSound ≡ ready_of s w
  unfolding ready_of
  ready_6 e = simp e

  module _ (e : is_some (view s w) ≡ true) where
    ready_as : by_kind (active_entry s).kind s ≡ ready_of s w
    unfolding ready_of
    ready_as = simp e

    pub ready_7 : ((active_entry s).kind ≡ Valid → ⊥) → Err NotValid ≡ ready_of s w
    unfolding by_kind
    ready_7 h = go (active_entry s).kind h ∙ ready_as
      where
        go : (k : Kind) → (k ≡ Valid → ⊥) → Err NotValid ≡ by_kind k s
        go Empty n = refl
        go Invalid n = refl
        go Valid n = absurd (n refl)

    -- the two places as the code works them out
    pub ready_at : (active_entry s).kind ≡ Valid
        → Ok (s.active * 131072 + 24, s.active * 131072 + (active_entry s).total) ≡ ready_of s w
    unfolding by_kind
    ready_at v =
        sym (ap (λ (n : ℕ). Ok (n + 24, n + (active_entry s).total)) (part_times s.active))
        ∙ sym (ap (λ (k : Kind). by_kind k s) v)
        ∙ ready_as

-- from where to where the active bank's records stand
pub record Standing (s : Nvram) (w : List ℕ) (from to : ℕ) : Type 0 where
  pub sound : Sound s w
  pub valid : (active_entry s).kind ≡ Valid
  pub from_is : from ≡ s.active * part_size + 24
  pub to_is : to ≡ s.active * part_size + (active_entry s).total

-- where they begin and end
pub stand : {s : Nvram} {w : List ℕ} → Sound s w → (active_entry s).kind ≡ Valid
    → Standing s w (s.active * part_size + 24) (s.active * part_size + (active_entry s).total)
stand g v = record { sound = g; valid = v; from_is = refl; to_is = refl }

module _ {s : Nvram} {w : List ℕ} {from to : ℕ} (k : Standing s w from to) where
  unfoldable pub records : List Record
  records = (bank k.sound k.valid).records

  pub here : Holds w from to records
  unfolding records
  here =
      subst (λ (i : ℕ). Holds w i to records) (sym k.from_is)
      (subst (λ (i : ℕ). Holds w (s.active * part_size + 24) i records) (sym k.to_is) (holds k.sound k.valid))

  pub in_table : s.active < 16
  in_table = active_in k.sound

  pub total_within : (active_entry s).total ≤ 131072
  total_within = omega (arith, total_is k.sound k.valid, total_high k.sound k.valid)

module _ {s : Nvram} {w : List ℕ} (bytes : Bytes w) (long : length s.banks ≡ 16) {r : Result (ℕ × ℕ) Refusal} (e : r ≡ ready_of s w) where
  known : is_some (view s w) ≡ true → Sound s w
  known g = record { bytes = bytes; long = long; ok = g }

  pub refused : (k : Refusal) (c : Call) → OnActive c → r ≡ Err k → Does c s w (refusal c (number k)) [] s w
  unfolding ready_of by_kind
  refused k c u q = go (is_some (view s w)) (active_entry s).kind refl refl (sym q ∙ e)
    where
      told : (n : Refusal) → ◌≡◌ {A = Result (ℕ × ℕ) Refusal} (Err k) (Err n) → Does c s w (refusal c (number n)) [] s w → Does c s w (refusal c (number k)) [] s w
      told n p d = let z : n ≡ k = cc in subst (λ (i : Refusal). Does c s w (refusal c (number i)) [] s w) z d

      go : (g : Bool) (x : Kind) → is_some (view s w) ≡ g → (active_entry s).kind ≡ x → Err k ≡ cond g (by_kind x s) (Err NotSound)
          → Does c s w (refusal c (number k)) [] s w
      go false x a b p = told NotSound p (does_6 c s w a)
      go true Empty a b p = told NotValid p (does_7 (known a) c u (empty_valid _ b))
      go true Invalid a b p = told NotValid p (does_7 (known a) c u (invalid_valid _ b))
      go true Valid a b p = clash cc

  pub standing : (x : ℕ × ℕ) → r ≡ Ok x → Standing s w x.0 x.1
  unfolding ready_of by_kind
  standing x q = go (is_some (view s w)) (active_entry s).kind refl refl (sym q ∙ e)
    where
      go : (g : Bool) (k : Kind) → is_some (view s w) ≡ g → (active_entry s).kind ≡ k → Ok x ≡ cond g (by_kind k s) (Err NotSound)
          → Standing s w x.0 x.1
      go false k a b p = clash cc
      go true Empty a b p = clash cc
      go true Invalid a b p = clash cc
      go true Valid a b p =
          let z : x ≡ records_at s = cc in
          record { sound = known a; valid = b; from_is = ap (λ (y : ℕ × ℕ). y.0) z; to_is = ap (λ (y : ℕ × ℕ). y.1) z }
