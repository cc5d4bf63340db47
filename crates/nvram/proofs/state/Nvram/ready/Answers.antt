-- `Nvram::ready`: 6 where the test fails (`ready_6`), 7 where the active entry, which is in the table (`active_in`), is not Valid (`ready_7`); else
-- where its records stand (`ready_at`).
use native.Mathlib.Omega.{arith}
use Prim.Native.Nat.{◌<◌}
use mathlib.Core.Path.{sym}
use Rattle.nvram.proofs.KindLaws.{is_valid, not_valid}
use Rattle.nvram.proofs.ActiveLaws.{active_in}
use Rattle.nvram.proofs.ReadyLaws.{ready_6, ready_7, ready_at}
use Rattle.nvram.proofs.state.Nvram.ready.Goals.{Else-not-is_sound}
use Rattle.nvram.proofs.state.Nvram.ready.Goals as goal

pub returns-then-not-is_sound : goal.returns-then-not-is_sound
returns-then-not-is_sound c = ready_6 c.args.self c.args.work.now (sym c.if-not-is_sound.ensures)

inside : (c : Else-not-is_sound) → c.args.self.active < 16
inside c = active_in (record { bytes = λ i. omega (arith, c.type_inv.work i); long = c.well_formed.0.1.1.1.1.1.0.1.0.1; ok = sym c.if-not-is_sound.ensures })

pub bounds-self-i : goal.bounds-self-i
bounds-self-i c = inside (goal.at.bounds-self-i c).Else-not-is_sound

pub bounds-self-i-2 : goal.bounds-self-i-2
bounds-self-i-2 c = inside (goal.at.bounds-self-i-2 c).Else-not-is_sound

pub returns-then-ne : goal.returns-then-ne
returns-then-ne c = ready_7 _ _ (sym c.if-not-is_sound.ensures) (not_valid _ c.if-ne.ensures)

pub returns : goal.returns
returns c = ready_at _ _ (sym c.if-not-is_sound.ensures) (is_valid _ c.if-ne.ensures)
