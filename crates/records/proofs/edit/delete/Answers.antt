-- `delete`: whether the record matches or not, `deleted_at` is left (`delete_match`, `delete_other`); the size is that of the header read
-- (`size_read`).
use native.Mathlib.Omega.{arith}
use mathlib.Core.Path.{◌≡◌, sym, ◌∙◌}
use Rattle.records.specs.Records.{deleted_at}
use Rattle.records.proofs.RecordLaws.{is_long}
use Rattle.records.proofs.RecordSteps.{size_read, delete_match, delete_other}
use Rattle.records.proofs.edit.delete.Goals.{then-is_match, else-is_match}
use Rattle.records.proofs.edit.delete.Goals as goal

pub bounds-s-2 : goal.bounds-s-2
bounds-s-2 c = omega (arith, is_long c.args.s.now c.requires)

pub returns : goal.returns
returns c =
    let a = c.args in
    let s = a.s.now in
    let m = c.is_match.ensures in
    let left : c.if-is_match.s ≡ deleted_at a.key.now a.typ s =
    elim c.if-is_match.branch [
      | then-is_match w ↦
          w.s-is
          ∙ delete_match a.key.now a.typ s (sym m ∙ w.if-is_match.true) (is_long s c.requires) c.parse-header.result c.parse-header.ensures
          w.deleted.result w.deleted.ensures
      | else-is_match w ↦ w.s-is ∙ delete_other a.key.now a.typ s (sym m ∙ w.if-is_match.false)
    ] in
    (size_read s c.requires c.parse-header.result c.parse-header.ensures c.size.result c.size.ensures, left)
