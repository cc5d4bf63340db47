-- `load`: the first i entries are read and their kinds known (`Reading`): `reading_none`, `reading_more` and `read_all` are start, turn and end. Too
-- few bytes (`read_short`) or a kind over 2 (`unknown`) are no state.
use mathlib.Core.Path.{◌≡◌, sym, ◌∙◌}
use native.Mathlib.Omega.{arith}
use Rattle.state_bytes.proofs.LoopLaws.{unknown, reading_more, read_all, read_short}
use Rattle.state_bytes.proofs.load.Goals as goal

pub returns-then-bytes-lt-STATE : goal.returns-then-bytes-lt-STATE
returns-then-bytes-lt-STATE c = sym (read_short _ c.if-bytes-lt-STATE.true)

pub returns-in_err-banks : goal.returns-in_err-banks
returns-in_err-banks c = c.from_residual.ensures ∙ sym (unknown c.loop-i.invariant c.loop-i-test.true (sym c.in_err-banks.was ∙ c.entry_at.ensures))

pub loop-i-preserved : goal.loop-i-preserved
loop-i-preserved c = reading_more c.loop-i.invariant c.loop-i-test.true _ (sym c.in_ok-banks.was ∙ c.entry_at.ensures)

pub returns : goal.returns
returns c = let e : c.loop-i.i ≡ 16 = omega (arith, c.loop-i.invariant.high, c.loop-i-test.false) in
    sym (read_all c.loop-i.invariant _ _ _ _ e c.u32_at-3.ensures c.u32_at-4.ensures c.u32_at.ensures c.u32_at-2.ensures)
