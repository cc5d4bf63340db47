-- `load`: entries and parts are those of the first i banks, and which is active is left to those behind (`Loaded`); `load_none` and `load_more` are
-- start and turn, `load_state` and `load_work` the end.
use native.Mathlib.Omega.{arith}
use mathlib.Core.Path.{refl, sym}
use mathlib.Core.List.{[]}
use Prim.Native.Nat.{◌+◌, ◌-◌, ◌*◌}
use lib.ListN.{length, length-map, get_or-map}
use borrow.Rule.Slice.PartMut.{same_len_mid}
use Rattle.bank.specs.Read.{read_bank}
use Rattle.opening.proofs.LoadLaws.{part_back, load_none, load_more, load_state, load_work}
use Rattle.opening.proofs.load.Goals as goal

pub loop-i-init : goal.loop-i-init
loop-i-init c = load_none _ _ _ c.no_banks-entries.ensures

pub loop-i-preserved : goal.loop-i-preserved
loop-i-preserved c = let l = c.loop-i in let r = c.load_bank-slot in let bs = c.args.banks.now in
    load_more _ c.args.work.now l.i l.work l.entries _ _ l.invariant _ _ _ _ (read_bank []) _ (omega (arith, length-map bs read_bank)) (omega (arith, length-map bs read_bank)) (omega (arith, length-map bs read_bank))
    (get_or-map read_bank bs l.i []) (same_len_mid (l.i * 131072) (l.i * 131072 + 131072 - l.i * 131072) l.work r.new.part r.auto.part)
    (part_back l.work r.new.part _ l.i (l.i * 131072) (l.i * 131072 + 131072) refl refl r.ensures.2)
    (c.entry_of.ensures _ r.ensures.0) (λ rest. c.after-best.ensures _ rest r.ensures.0)

pub returns : goal.returns
returns c = let l = c.loop-i in let bs = c.args.banks.now in (
  load_state _ c.args.work.now l.i l.work l.entries _ _ l.invariant (length bs) (sym (length-map bs read_bank)) c.loop-i-test.false _ c.none.ensures,
  load_work _ c.args.work.now l.i l.work l.entries _ _ l.invariant (length bs) (sym (length-map bs read_bank)) c.loop-i-test.false,
)
