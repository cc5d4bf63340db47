-- What a run log's call answers, as the numbers that cross to C.
use Prim.Native.Nat.{ℕ}
use mathlib.Core.Path.{ap}
use mathlib.Core.List.{List, [], ◌∷◌}
use lib.ListN.{length}
use Rattle.std.specs.Prelude.{Result}
use Rattle.buffers.specs.Bytes.{AllBelow}
use Rattle.refusal.specs.declared.Refusal.{Refusal}
use Rattle.refusal.specs.Refusal.{number_of}
use Rattle.run_log.specs.Output.{count_of, Answered}
use Rattle.run_log.specs.RunLog.{reading}
use Rattle.run_log.proofs.Calls.{read_log_lem}
use Rattle.exports.specs.Numbers.{Counts, IsLog}

pub crosses : {unit : ℕ} {c : Result (List ℕ) Refusal} {o o' : List ℕ} {a : Result ℕ Refusal} → Answered unit c o a o' → Counts unit c o (number_of a) (count_of a ∷ []) o'
crosses h = (ap number_of h.answer, ap (λ (a : Result ℕ Refusal). count_of a ∷ []) h.answer, h.output)

pub is_log : (s : List ℕ) {o o' : List ℕ} {a : Result ℕ Refusal} → AllBelow 256 s → Answered 3 (reading s (length o)) o a o' → IsLog s (number_of a) (count_of a ∷ []) o'
is_log s b h z = read_log_lem s h b z
