-- `append`: four writes one behind the other, header (`fresh_bytes`), key, closing byte and value, are the record put over the work area: `four_is`.
use mathlib.Core.Path.{◌≡◌}
use lib.ListN.{length}
use Prim.Native.Nat.{◌+◌}
use Rattle.crc32.specs.Crc32.{crc32_of}
use Rattle.bank.specs.Record.{guid_of, var_header_bytes}
use Rattle.records.proofs.AppendLaws.{fresh_bytes, four_is}
use Rattle.records.proofs.edit.append.Goals.{After-serialize-header}
use Rattle.records.proofs.edit.append.Goals as goal

header : (c : After-serialize-header) → c.serialize-header.result ≡ var_header_bytes 0x7F c.args.attrs (length c.args.key.now + 1) (length c.args.value.now) (guid_of c.args.typ) (crc32_of c.args.value.now)
header c = let a = c.args in fresh_bytes a.attrs a.key.now a.value.now a.typ _ c.crc32.ensures _ c.fresh.ensures _ c.serialize-header.ensures

pub returns : goal.returns
returns c = let a = c.args in
    four_is a.at a.attrs a.key.now a.value.now a.work.now a.typ c.requires.2 _ (header (goal.at.returns c).After-serialize-header) _ c.copy.ensures _ c.copy-2.ensures _ c.copy-3.ensures
