-- Whether two banks hold the same settings (request N1, 'Same settings, other bytes'): yes or no, of what each bank is read as.
use Rattle.std.specs.Prelude.{ℕ, ◌≡◌, Option, Some, None, Result, Ok, Err, List, [], ◌∷◌, Bool, true, false, ◌&&◌, not, cond, eqb, length}
use Rattle.buffers.specs.Bytes.{eq_bytes}
use Rattle.bank.specs.declared.header.StoreHeader.{StoreHeader}
use Rattle.bank.specs.Record.{Record, size_of}
use Rattle.bank.specs.Bank.{Bank, Slot, empty, invalid, valid, bank_size, output}
use Rattle.bank.specs.Read.{Item, got, halt, Walk, spoils, read_bank}
use Rattle.refusal.specs.declared.Refusal.{Refusal}
use Rattle.refusal.specs.declared.Refusal.TheVariants.{BankLength}

-- equal named header fields
unfoldable pub same_header : StoreHeader → StoreHeader → Bool
same_header h g =
    eqb h.size g.size && eqb h.generation g.generation && eqb h.state g.state && eqb h.flags g.flags
    && eqb h.system_size g.system_size && eqb h.common_size g.common_size

-- equal fields of two records but their states
unfoldable pub same_fields : Record → Record → Bool
same_fields r q =
    eqb r.attributes q.attributes && eq_bytes r.guid q.guid && eq_bytes r.key q.key && eq_bytes r.value q.value

-- and states in some relation, which is equality where the records are to be equal
unfoldable pub alike : (ℕ → ℕ → Bool) → Record → Record → Bool
alike states r q = states r.state q.state && same_fields r q

-- in order, and as many
unfoldable pub all_alike : (ℕ → ℕ → Bool) → List Record → List Record → Bool
all_alike states [] [] = true
all_alike states [] (q ∷ qs) = false
all_alike states (r ∷ rs) [] = false
all_alike states (r ∷ rs) (q ∷ qs) = alike states r q && all_alike states rs qs

-- both Valid, with equal named header fields and equal records in order; usable does not count
unfoldable pub same_settings : Slot → Slot → Bool
same_settings (valid b) (valid c) = same_header b.header c.header && all_alike eqb b.records c.records
same_settings (valid b) empty = false
same_settings (valid b) invalid = false
same_settings empty y = false
same_settings invalid y = false

-- of any bytes lent: refused where a bank is not 65,536 bytes
unfoldable pub compared : List ℕ → List ℕ → Result Bool Refusal
compared s t =
    cond (eqb (length s) bank_size && eqb (length t) bank_size) (Ok (same_settings (read_bank s) (read_bank t))) (Err BankLength)

-- what yes is proved to be (proofs/Written.antt): two banks of 65,536 bytes that are Valid and would be written with equal bytes, which are header, all
-- records, and 0xFF up to size (01, 'A commit, from the entry down', 4)
pub record WrittenAlike (s t : List ℕ) : Type 0 where
  pub one : Bank
  pub other : Bank
  pub one_long : length s ≡ bank_size
  pub other_long : length t ≡ bank_size
  pub one_reads : read_bank s ≡ valid one
  pub other_reads : read_bank t ≡ valid other
  pub written : output one ≡ output other

-- what the parts of the code answer, side by side with the reading of bank/specs/Read

-- a record, and what stands in the other bank
unfoldable pub alike_at : (ℕ → ℕ → Bool) → Record → Item → Bool
alike_at states r (got q) = alike states r q
alike_at states r (halt c) = false

-- reading stops, and the bank is not Invalid for it
unfoldable pub ends_at : Item → Bool
ends_at (got q) = false
ends_at (halt c) = not (spoils c)

-- the size of a record that stands there
unfoldable pub size_here : Item → Option ℕ
size_here (got r) = Some (size_of r)
size_here (halt c) = None

-- neither walk spoils its bank, and they read equal records
unfoldable pub same_walks : Walk → Walk → Bool
same_walks w v = not (spoils w.stop) && not (spoils v.stop) && all_alike eqb w.records v.records
