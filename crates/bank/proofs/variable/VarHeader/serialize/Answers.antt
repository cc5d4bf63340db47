use lib.ListN.{length}
use Rattle.bank.proofs.FieldLaws.{var_header_is}
use Rattle.bank.proofs.NumberLaws.{le_bytes}
use mathlib.Core.Path.{◌≡◌, ◌∙◌}
use Rattle.bank.proofs.variable.VarHeader.serialize.Goals as goal

pub returns : goal.returns
returns c =
    let self = c.args.self in
    let n : length self.guid ≡ 16 = c.well_formed.0.1.1.1.1.1.1.0.1.0.1 in
    rw (c.copy_from_slice-5.ensures.after)
    (var_header_is self _ _ _ _ _ (c.copy_from_slice.ensures.after ∙ c.to_le_bytes.ensures) (c.copy_from_slice-2.ensures.after ∙ c.to_le_bytes-2.ensures ∙ le_bytes _)
    (c.copy_from_slice-3.ensures.after ∙ c.to_le_bytes-3.ensures ∙ le_bytes _)
    (c.copy_from_slice-4.ensures.after ∙ c.to_le_bytes-4.ensures ∙ le_bytes _)
    n
    (c.copy_from_slice-6.ensures.after ∙ c.to_le_bytes-5.ensures ∙ le_bytes _))
