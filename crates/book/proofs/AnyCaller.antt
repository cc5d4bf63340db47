-- To be read: nothing cites it. Who commits makes no difference to what a commit answers and does to the book (02, N7).
use Prim.Native.Nat.{ℕ}
use mathlib.Core.Path.{◌≡◌, refl, ap}
use mathlib.Core.Bool.{cond}
use Rattle.std.specs.Prelude.{None}
use lib.Dec.{ltb}
use Rattle.tally.specs.declared.Caller.{Caller}
use Rattle.bank.specs.Bank.{Slot, empty, invalid, valid, bank_size}
use Rattle.book.specs.Book.{Book, active_slot}
use Rattle.book.specs.Commit.{Way}
use Rattle.book.specs.Call.{commit, committed, stay, by_slot, commit_bank, commit_to, step}

module _ (b : Book) (way : Way) (caller other : Caller) (room : ℕ) where
  slot_same : (s : Slot) → by_slot b (commit way caller room) (commit_bank b way) s ≡ by_slot b (commit way other room) (commit_bank b way) s
  unfolding by_slot
  slot_same empty = refl
  slot_same invalid = refl
  slot_same (valid k) = refl

  pub any_caller : step b (commit way caller room) ≡ step b (commit way other room)
  unfolding step commit_to
  any_caller = ap (cond (ltb room bank_size) (stay b (committed 5 None 0 0))) (slot_same (active_slot b))
