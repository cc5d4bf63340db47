-- `Partition::serialize`: too few bytes of either leave the part (`bank_short`, `room_short`); else the slot that was read is the answer (`slot_is`),
-- and the part that of a Valid bank (`part_is`) or all 0xFF (`part_blank`).
use Rattle.bank.proofs.SerializeLaws.{room_short, bank_short, slot_is, part_is, valid_read, part_blank}
use native.Mathlib.Omega.{arith}
use mathlib.Core.Path.{sym, ap, ◌∙◌}
use Rattle.std.specs.Prelude.{Some}
use Rattle.bank.specs.declared.partition.Slot.{Slot}
use Rattle.bank.proofs.partition.Partition.serialize.Goals as goal

pub returns-in_err-bank : goal.returns-in_err-bank
returns-in_err-bank c = let k = bank_short c.args.nvr.now c.args.out.now c.in_err-bank.ensures.cases in (c.from_residual.ensures ∙ k.0, k.1)

pub returns-then-out-lt-SIZE : goal.returns-then-out-lt-SIZE
returns-then-out-lt-SIZE c = room_short c.args.nvr.now c.args.out.now (omega arith)

pub write-requires : goal.write-requires
write-requires c = (omega arith, valid_read c.args.nvr.now c.args.out.now (omega arith) _ c.in_ok-bank.ensures.cases _ (sym c.read-slot.ensures ∙ c.in-Valid.is))

pub returns-in-Valid : goal.returns-in-Valid
returns-in-Valid c = let a = c.args in let k = c.in_ok-bank.ensures.cases in (
  ap (λ (x : Slot). Some x) (sym c.in-Valid.is ∙ c.read-slot.ensures) ∙ slot_is a.nvr.now a.out.now (omega arith) _ k,
  c.write.ensures ∙ part_is a.nvr.now a.out.now (omega arith) _ k,
)

pub returns-in_default : goal.returns-in_default
returns-in_default c = let a = c.args in let k = c.in_ok-bank.ensures.cases in (
  ap (λ (x : Slot). Some x) c.read-slot.ensures ∙ slot_is a.nvr.now a.out.now (omega arith) _ k,
  c.fill_ff.ensures ∙ part_blank a.nvr.now a.out.now (omega arith) _ k (λ p e. c.in_default.not-Valid p (c.read-slot.ensures ∙ e)),
)
