-- What the check for refusal 6 answers (01, 'Refusals from the state'): whether there is what it looks for, and of a bank there the header
-- and what its records come to, if they are to be counted (01, 'A commit, from the entry down'; 02, N3).
use Rattle.std.specs.Prelude.{ℕ, Bool, List, get_or, Option, None, Some, Result, Ok, Err}
use Rattle.refusal.specs.declared.Refusal.{Refusal}
use Rattle.refusal.specs.declared.Refusal.TheVariants.{NotSound}
use Rattle.bank.specs.Bank.{Slot, empty, invalid, valid}
use Rattle.records.specs.Figures.{records_figures}
use Rattle.book.specs.Book.{Book, active_slot}
use Rattle.nvram.specs.declared.summary.Summary.{Summary}

unfoldable pub slot_summary : Bool → Slot → Option Summary
slot_summary counting empty = None
slot_summary counting invalid = None
slot_summary counting (valid b) = Some (record { header = b.header; used = records_figures counting b.records })

-- of one slot among those of a table
unfoldable pub summary_at : Bool → ℕ → List Slot → Option Summary
summary_at counting i ss = slot_summary counting (get_or ss i invalid)

unfoldable pub active_summary : Bool → Book → Option Summary
active_summary counting b = slot_summary counting (active_slot b)

-- what was viewed, as its summary, or the refusal
unfoldable pub soundness : {A : Type 0} → (A → Option Summary) → Option A → Result (Option Summary) Refusal
soundness f None = Err NotSound
soundness f (Some x) = Ok (f x)
