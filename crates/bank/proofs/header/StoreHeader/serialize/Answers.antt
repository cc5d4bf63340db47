use Rattle.bank.proofs.FieldLaws.{header_is}
use Rattle.bank.proofs.NumberLaws.{le_bytes}
use mathlib.Core.Path.{◌∙◌}
use Rattle.bank.proofs.header.StoreHeader.serialize.Goals as goal

pub returns : goal.returns
returns c =
    header_is c.args.self _ _ _ _ _ c.copy_from_slice.ensures.after (c.copy_from_slice-2.ensures.after ∙ c.to_le_bytes.ensures ∙ le_bytes _)
    (c.copy_from_slice-3.ensures.after ∙ c.to_le_bytes-2.ensures ∙ le_bytes _)
    (c.copy_from_slice-4.ensures.after ∙ c.to_le_bytes-3.ensures ∙ le_bytes _)
    (c.copy_from_slice-5.ensures.after ∙ c.to_le_bytes-4.ensures ∙ le_bytes _)
