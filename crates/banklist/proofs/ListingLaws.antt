-- The listing by what a bank's reader answers.
use Prim.Native.Nat.{ℕ, ◌<◌}
use mathlib.Core.Path.{◌≡◌, refl, sym}
use mathlib.Core.List.{List, [], ◌∷◌}
use lib.ListN.{length}
use Rattle.std.specs.Array.{IsFirstChunk}
use Rattle.bank.specs.declared.partition.Slot.{Slot}
use Rattle.bank.specs.declared.partition.Slot.TheVariants.{Empty, Invalid, Valid}
use Rattle.bank.specs.declared.partition.Partition.{Partition}
use Rattle.bank.specs.Bank.{Slot as BankSlot, Bank, empty, invalid, valid}
use Rattle.bank.specs.Read.{read_bank}
use Rattle.bank.proofs.PartitionLaws.{lent_short, lent_first}
use Rattle.bank.specs.Answer.{partition_of, answer}
use Rattle.text.specs.Text.{line}
use Rattle.text.specs.Words.{short_word, empty_word}
use Rattle.banklist.specs.Listing.{invalid_word, bank_lines, slot_lines, listing}

-- the bank that a Valid answer stands for
pub record Stood (k : BankSlot) (p : Partition) : Type 0 where
  pub bank : Bank
  pub read : k ≡ valid bank
  pub is : p ≡ partition_of bank
  pub lists : slot_lines k ≡ bank_lines bank

abbrev pub Said : BankSlot → Slot → Type 0
Said k Empty = slot_lines k ≡ line (empty_word ∷ [])
Said k Invalid = slot_lines k ≡ line (invalid_word ∷ [])
Said k (Valid p) = Stood k p

pub said : (k : BankSlot) (o : Slot) → o ≡ answer k → Said k o
unfolding answer slot_lines
said k o e = rw e (go k)
  where
    go : (k : BankSlot) → Said k (answer k)
    go empty = refl
    go invalid = refl
    go (valid b) = record { bank = b; read = refl; is = refl; lists = refl }

-- the listing of bytes that are too few for a bank, and of a bank in front

pub too_few : (s : List ℕ) → length s < 65536 → listing s ≡ line (short_word ∷ [])
unfolding listing
too_few s h = sym (lent_short (line (short_word ∷ [])) (λ b. slot_lines (read_bank b)) s h)

pub in_front : (s b : List ℕ) → IsFirstChunk s b 65536 → listing s ≡ slot_lines (read_bank b)
unfolding listing
in_front s b h = sym (lent_first (line (short_word ∷ [])) (λ x. slot_lines (read_bank x)) s b h)
