-- `move_bank`: the header in the part (`headed`), the live records behind it, for which `copyable` gives what `copy_all_live` requires, and 0xFF to
-- the part's end: `moved`. The records end within the part (`within`).
use Prim.Native.Nat.{◌+◌, ◌-◌, ◌≤◌}
use mathlib.Core.Path.{◌≡◌, refl}
use borrow.Rule.Slice.PartMut.{put_mid}
use native.Mathlib.Omega.{arith}
use Rattle.buffers.specs.Bytes.{over}
use Rattle.bank.specs.Header.{header_bytes}
use Rattle.moving.proofs.MoveLaws.{headed, copyable, within, moved}
use Rattle.moving.proofs.move_bank.Goals.{After-copy_from_slice, After-copy_all_live-p}
use Rattle.moving.proofs.move_bank.Goals as goal

-- the work area once the header is in the part
head_is : (c : After-copy_from_slice) → put_mid c.args.part (c.args.part + 24 - c.args.part) c.args.work.now c.copy_from_slice.new.self ≡ over c.args.part (header_bytes c.args.header) c.args.work.now
head_is c = headed c.requires c.args.header _ _ c.serialize.ensures c.copy_from_slice.ensures.after

-- the place after the records
ends : (c : After-copy_all_live-p) (head_is : put_mid c.args.part (c.args.part + 24 - c.args.part) c.args.work.now c.copy_from_slice.new.self ≡ over c.args.part (header_bytes c.args.header) c.args.work.now) → (c.args.part ≤ c.copy_all_live-p.result) × (c.copy_all_live-p.result ≤ c.args.part + 131072)
ends c head_is = within c.requires c.args.header _ head_is c.copy_all_live-p.result c.copy_all_live-p.new.w c.copy_all_live-p.ensures

pub copy_all_live-p-requires : goal.copy_all_live-p-requires
copy_all_live-p-requires c = copyable c.requires c.args.header _ (head_is (goal.at.copy_all_live-p-requires c).After-copy_from_slice)

pub slice_bounds-fill-count : goal.slice_bounds-fill-count
slice_bounds-fill-count c = (ends (goal.at.slice_bounds-fill-count c).After-copy_all_live-p (head_is (goal.at.slice_bounds-fill-count c).After-copy_from_slice)).1

pub slice_bounds-fill-start : goal.slice_bounds-fill-start
slice_bounds-fill-start c = let i = (ends (goal.at.slice_bounds-fill-start c).After-copy_all_live-p (head_is (goal.at.slice_bounds-fill-start c).After-copy_from_slice)) in omega (arith, i)

pub overflow_sub-result : goal.overflow_sub-result
overflow_sub-result c = (ends (goal.at.overflow_sub-result c).After-copy_all_live-p (head_is (goal.at.overflow_sub-result c).After-copy_from_slice)).0

pub returns : goal.returns
returns c = moved c.requires c.args.header _ (head_is (goal.at.returns c).After-copy_from_slice) c.copy_all_live-p.result c.copy_all_live-p.new.w c.copy_all_live-p.ensures c.fill.new.self _ refl (c.fill.ensures.after (λ y e. e))
