-- `ends`: by the start number (`ends_start`), then by the record's end (`ends_length`).
use native.Mathlib.Omega.{arith}
use Rattle.bank.proofs.NumberLaws.{start_is}
use Rattle.settings.proofs.StopLaws.{ends_start, ends_length, size_at_lem}
use Rattle.settings.proofs.ends.Goals as goal

pub returns-then-from_le_bytes-ne-DATA : goal.returns-then-from_le_bytes-ne-DATA
returns-then-from_le_bytes-ne-DATA c = let s = c.args.nvr.now in
    ends_start s (λ e. omega (arith, e, start_is s _ c.from_le_bytes.ensures, c.if-from_le_bytes-ne-DATA.true))

pub returns : goal.returns
returns c = let s = c.args.nvr.now in
    ends_length s (omega (arith, start_is s _ c.from_le_bytes.ensures, c.if-from_le_bytes-ne-DATA.false)) _
    (size_at_lem s (omega arith) _ c.parse-header.ensures _ c.size.ensures)
