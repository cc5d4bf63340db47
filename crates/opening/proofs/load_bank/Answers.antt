-- `load_bank`: both are long enough, so that there is a slot (`serialized_slot_lem`), and the part is the bank as it would be written.
use native.Mathlib.Omega.{arith}
use mathlib.Core.Path.{refl, ◌∙◌}
use Rattle.opening.proofs.LoadLaws.{read_fine, serialized_slot_lem, serialized_part_lem}
use Rattle.opening.proofs.load_bank.Goals as goal

pub unwrap-requires : goal.unwrap-requires
unwrap-requires c = let p = c.args in rw (c.serialize.ensures.0 ∙ serialized_slot_lem p.bank.now p.part.now c.told-bank c.requires) refl

pub returns : goal.returns
returns c =
    let p = c.args in
    let e = c.serialize.ensures.0 ∙ serialized_slot_lem p.bank.now p.part.now c.told-bank c.requires in
    let u = c.unwrap.ensures in (
      cc,
      read_fine p.bank.now (λ i. omega (arith, c.fits-bank i)) c.told-bank,
      c.serialize.ensures.1 ∙ serialized_part_lem p.bank.now p.part.now c.told-bank c.requires,
    )
