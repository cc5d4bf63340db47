-- `write`: `given` is the bank that was read. Its copy holds the records as they stand (`copied_raw`), which `normalize_all` asks for; what is left
-- once the rest is filled is the part (`filled`).
use Rattle.bank.proofs.WriteLaws.{Given, total_low, total_high, copied_raw, copied_long, filled}
use native.Mathlib.Omega.{arith}
use Rattle.bank.proofs.partition.write.Goals.{Start}
use Rattle.bank.proofs.partition.write.Goals as goal

given : (c : Start) → Given c.args.nvr.now c.args.out.now c.requires.1.0 c.args.total
given c = let p = c.requires in
    record {
      bytes = c.fits-nvr;
      long = c.told-nvr;
      room = p.0;
      reads = p.1.1;
      ends = p.1.2;
    }

pub slice_bounds-copy-end : goal.slice_bounds-copy-end
slice_bounds-copy-end c = let given = given (goal.at.slice_bounds-copy-end c).Start in omega (arith, total_high given)

pub normalize_all-requires : goal.normalize_all-requires
normalize_all-requires c = let g = (given (goal.at.normalize_all-requires c).Start) in
    (total_low g, copied_long g _ c.copy.ensures, (c.requires.1.0.records, copied_raw g _ c.copy.ensures))

pub returns : goal.returns
returns c = let g = (given (goal.at.returns c).Start) in
    filled g _ c.copy.ensures _ (c.normalize_all.ensures _ (copied_raw g _ c.copy.ensures)) _ c.fill_ff.ensures
