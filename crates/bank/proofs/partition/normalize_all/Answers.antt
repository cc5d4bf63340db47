-- `normalize_all`: whatever records stand there, what is left to zero from `at` on is a law's `ToNormalize`; `begin`, `step_next` and `done` are
-- start, turn and end.
use borrow.Rule.Slice.PartMut.{same_len_mid}
use lib.ListN.{length-set, length}
use native.Mathlib.Omega.{arith}
use borrow.Author.Rules.{rules}
use mathlib.Core.Path.{refl, ap, ◌∙◌, subst}
use Prim.Native.Nat.{◌-◌}
use Rattle.buffers.specs.Bytes.{over}
use Rattle.bank.specs.Record.{records_bytes}
use Rattle.bank.proofs.NormalizeLaws.{part_fits, step_within, step_next, ToNormalize, begin, done}
use Rattle.bank.proofs.partition.normalize_all.Goals as goal

pub loop-at-init : goal.loop-at-init
loop-at-init c = (refl, search rules, λ rs raw. begin c.args.total c.args.s.now rs (search rules) (search rules) raw)

pub normalize-at-requires : goal.normalize-at-requires
normalize-at-requires c = let now = c.loop-at in let a = c.args in let pre = c.requires in
    part_fits a.total _ now.s now.at (now.invariant.2 pre.2.0 pre.2.1) (omega arith)

pub overflow_add-at : goal.overflow_add-at
overflow_add-at c = let now = c.loop-at in let a = c.args in let pre = c.requires in let n = c.normalize-at in
    omega (arith, step_within a.total _ now.s now.at (now.invariant.2 pre.2.0 pre.2.1) (omega arith) n.result n.new.s n.ensures.0 n.ensures.1)

pub loop-at-preserved : goal.loop-at-preserved
loop-at-preserved c = let now = c.loop-at in let a = c.args in let pre = c.requires in let n = c.normalize-at in (
  same_len_mid now.at (length now.s - now.at) now.s n.new.s (ap length n.ensures.1 ∙ simp length-set) ∙ now.invariant.0,
  omega (arith, step_within a.total _ now.s now.at (now.invariant.2 pre.2.0 pre.2.1) (omega arith) n.result n.new.s n.ensures.0 n.ensures.1),
  λ rs raw. step_next a.total _ now.s now.at (now.invariant.2 rs raw) (omega arith) n.result n.new.s n.ensures.0 n.ensures.1,
)

pub returns : goal.returns
returns c = let now = c.loop-at in let a = c.args in
    λ rs raw. done a.total _ now.s (subst (ToNormalize a.total (over 24 (records_bytes rs) a.s.now) now.s) (search rules) (now.invariant.2 rs raw))
