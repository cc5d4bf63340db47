-- `record_size`: lengths that fit are known (`record_begins`, `end_fits`); each exit is by the law of that test in `bank` (`size_by_lem`).
use native.Mathlib.Omega.{arith}
use Rattle.bank.proofs.FieldLaws.{step_name, step_crc, step_next}
use Rattle.settings.proofs.StopLaws.{record_begins, end_fits, size_by_lem}
use Rattle.settings.proofs.record_size.Goals.{then-header-eq0-via-then-header-eq0, then-header-eq0-via-else-header-eq0+then-header-checksum}
use Rattle.settings.proofs.record_size.Goals as goal

pub slice_bounds-checksum-end : goal.slice_bounds-checksum-end
slice_bounds-checksum-end c = omega (arith, end_fits _ (omega arith) _ c.parse-header.ensures _ c.size-end.ensures c.requires.1)

pub returns-then-header-eq0 : goal.returns-then-header-eq0
returns-then-header-eq0 c = let fits = end_fits _ (omega arith) _ c.parse-header.ensures _ c.size-end.ensures c.requires.1 in
    elim c.then-header-eq0.branch [
      | then-header-eq0-via-then-header-eq0 w ↦
          size_by_lem _ _ (step_name _ (record_begins _ c.requires.1).0 (omega arith) _ c.parse-header.ensures _ c.size-end.ensures fits w.if-header-eq0.true)
      | then-header-eq0-via-else-header-eq0+then-header-checksum w ↦
          size_by_lem _ _ (step_crc _ (record_begins _ c.requires.1).0 (omega arith) _ c.parse-header.ensures _ c.size-end.ensures fits
          w.if-header-eq0.false _ c.size-value.ensures _ w.checksum.ensures w.if-header-checksum.true)
    ]

pub returns : goal.returns
returns c =
    size_by_lem _ _ (step_next _ (record_begins _ c.requires.1).0 (omega arith) _ c.parse-header.ensures _ c.size-end.ensures
    (end_fits _ (omega arith) _ c.parse-header.ensures _ c.size-end.ensures c.requires.1) c.if-header-eq0.false _ c.size-value.ensures _ c.checksum.ensures c.if-header-checksum.false)
