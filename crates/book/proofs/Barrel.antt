-- To be read: nothing cites it. The barrels' insert beside the clock's (02, N5), on any book: with a value of at most 512 bytes the two are one
-- (`barrel_same`); with a longer one it is refused by 7 or 15, and changes nothing (`barrel_longer`).
use Prim.Native.Nat.{ℕ, zero, suc, ◌≤◌, ◌<◌}
use mathlib.Core.Path.{◌≡◌, refl, ap, ◌∙◌}
use mathlib.Core.List.{List}
use lib.ListN.{length}
use borrow.Author.Tests.{le-ltb, lt-ltb}
use Rattle.bank.specs.declared.variable.VarType.{VarType}
use Rattle.bank.specs.Bank.{Bank, Slot, empty, invalid, valid}
use Rattle.book.specs.Book.{Book, active_slot}
use Rattle.book.specs.Edit.{Edit, plain, barrel, insert, edited_by, grows, refused_insert, refused_edit}
use Rattle.book.specs.Call.{edit, edited, Outcome, stay, by_slot, edit_as, edit_bank, step}

module _ (b : Book) (key value : List ℕ) (typ : VarType) where
  abbrev clocks : Edit
  clocks = insert plain key value typ

  abbrev barrels : Edit
  barrels = insert barrel key value typ

  same_as : (k : Bank) (n : ℕ) → edit_as b barrels k n ≡ edit_as b clocks k n
  unfolding edit_as edited_by
  same_as k zero = refl
  same_as k (suc n) = refl

  -- by what is done to a bank, since every edit has the same 7
  same_slots : (e : Edit) (f : Bank → Outcome) → ((k : Bank) → edit_bank b barrels k ≡ f k) → step b (edit barrels) ≡ by_slot b (edit e) f (active_slot b)
  unfolding step by_slot
  same_slots e f h = go (active_slot b)
    where
      go : (s : Slot) → by_slot b (edit barrels) (edit_bank b barrels) s ≡ by_slot b (edit e) f s
      go empty = refl
      go invalid = refl
      go (valid k) = h k

  pub barrel_same : length value ≤ 512 → step b (edit barrels) ≡ step b (edit clocks)
  unfolding step edit_bank refused_edit refused_insert grows
  barrel_same h = same_slots clocks (edit_bank b clocks) (λ k. ap (edit_as b barrels k) (number k) ∙ same_as k (refused_edit clocks k))
    where
      number : (k : Bank) → refused_edit barrels k ≡ refused_edit clocks k
      number k = rw (le-ltb _ _ h)

  pub barrel_longer : 512 < length value → step b (edit barrels) ≡ by_slot b (edit barrels) (λ k. stay b (edited 15)) (active_slot b)
  unfolding edit_bank edit_as refused_edit refused_insert
  barrel_longer h = same_slots barrels (λ k. stay b (edited 15)) (λ k. rw (lt-ltb _ _ h))
