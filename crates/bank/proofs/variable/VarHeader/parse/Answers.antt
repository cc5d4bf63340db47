-- `VarHeader::parse`: zeros of fewer than 36 bytes (`header_short`), else the fields (`header_long`).
use mathlib.Core.Path.{sym, ◌∙◌}
use Rattle.std.proofs.lemmas.List.FromFn.{fill_by_all}
use Rattle.bank.proofs.FieldLaws.{header_short, header_long}
use Rattle.bank.proofs.variable.VarHeader.parse.Goals as goal

pub returns-then-nvr-lt-HEADER_SIZE : goal.returns-then-nvr-lt-HEADER_SIZE
returns-then-nvr-lt-HEADER_SIZE c =
    let e = c.default.ensures in
    let guid = fill_by_all (λ _. 0) c.default.result.guid 16 0 e.1.1.1.1.0.long (λ k l. e.1.1.1.1.0.at k 0 l) in
    (λ i. record { state = e.0 i; attrs = e.1.0 i; name_size = e.1.1.0 i; data_size = e.1.1.1.0 i; guid = guid i; crc = e.1.1.1.1.1 i })
    ∙ sym (header_short _ c.if-nvr-lt-HEADER_SIZE.true)

pub returns : goal.returns
returns c = let g = c.copy_from_slice.ensures.after in cc (header_long c.args.nvr.now c.if-nvr-lt-HEADER_SIZE.false)
