-- `Variable::parse`: its tests in the order of `found`, each exit by the law of that test: `found_blank`, `found_start`, `step_length`, `step_name`,
-- `step_crc`, and `step_next` for a record.
use Prim.Native.Nat.{ℕ}
use mathlib.Core.Path.{◌≡◌, sym, ap}
use mathlib.Core.List.{List}
use mathlib.Core.Bool.{true, false}
use lib.ListN.{take}
use native.Mathlib.Omega.{arith}
use Rattle.buffers.specs.Bytes.{all_blank}
use Rattle.bank.specs.Number.{u16_at}
use Rattle.bank.specs.Answer.{step_of}
use Rattle.bank.proofs.NumberLaws.{start_is}
use Rattle.bank.proofs.FieldLaws.{step_length, step_name, step_crc, step_next}
use Rattle.bank.proofs.WalkLaws.{found_blank, found_start}
use Rattle.bank.proofs.variable.Variable.parse.Goals as goal

pub returns-then-all_blank : goal.returns-then-all_blank
unfolding step_of
returns-then-all_blank c = let s : List ℕ = c.args.nvr.now in
    let a : all_blank (take 36 s) ≡ true = cc in
    ap step_of (sym (found_blank s a))

pub returns-then-from_le_bytes-ne-DATA : goal.returns-then-from_le_bytes-ne-DATA
unfolding step_of
returns-then-from_le_bytes-ne-DATA c = let s : List ℕ = c.args.nvr.now in
    let a : all_blank (take 36 s) ≡ false = cc in
    let b : (u16_at s 0 ≡ 0x55AA → ⊥) = λ e. omega (arith, e, start_is s _ c.from_le_bytes.ensures, c.if-from_le_bytes-ne-DATA.true) in
    ap step_of (sym (found_start s a b))

pub returns-then-nvr-end : goal.returns-then-nvr-end
returns-then-nvr-end c = step_length _ (omega (arith, start_is c.args.nvr.now _ c.from_le_bytes.ensures, c.if-from_le_bytes-ne-DATA.false)) (omega arith) _ c.parse-header.ensures _ c.size-end.ensures c.if-nvr-end.true

pub returns-then-header-eq0 : goal.returns-then-header-eq0
returns-then-header-eq0 c = step_name _ (omega (arith, start_is c.args.nvr.now _ c.from_le_bytes.ensures, c.if-from_le_bytes-ne-DATA.false)) (omega arith) _ c.parse-header.ensures _ c.size-end.ensures c.if-nvr-end.false c.if-header-eq0.true

pub returns-then-header-crc32 : goal.returns-then-header-crc32
returns-then-header-crc32 c = let summed = c.crc32.ensures in
    step_crc _ (omega (arith, start_is c.args.nvr.now _ c.from_le_bytes.ensures, c.if-from_le_bytes-ne-DATA.false)) (omega arith) _ c.parse-header.ensures _ c.size-end.ensures
    c.if-nvr-end.false
    c.if-header-eq0.false _ c.size-value.ensures _ summed c.if-header-crc32.true

pub returns : goal.returns
returns c = let summed = c.crc32.ensures in
    step_next _ (omega (arith, start_is c.args.nvr.now _ c.from_le_bytes.ensures, c.if-from_le_bytes-ne-DATA.false)) (omega arith) _ c.parse-header.ensures _ c.size-end.ensures
    c.if-nvr-end.false
    c.if-header-eq0.false _ c.size-value.ensures _ summed c.if-header-crc32.false
