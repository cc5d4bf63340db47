use native.Mathlib.Omega.{arith}
use mathlib.Core.Path.{sym, ◌∙◌}
use Rattle.leb128.proofs.Numbers.{sizes_more, encodes_more, encodes_none}
use Rattle.leb128.proofs.encode_all.Goals as goal

pub encode-p-requires : goal.encode-p-requires
encode-p-requires c = omega (arith, sizes_more c.args.ns.now c.loop-n.n-index (omega arith))

pub loop-n-preserved : goal.loop-n-preserved
loop-n-preserved c = let l = c.loop-n in
    let h = encodes_more c.args.ns.now l.n-index l.p l.out (omega arith) l.invariant.1 c.encode-p.ensures.0 c.encode-p.ensures.1 in
    (l.invariant.0 ∙ h.0, h.2)

pub returns : goal.returns
returns c = let l = c.loop-n in sym (l.invariant.0 ∙ encodes_none c.args.ns.now l.n-index l.p l.out (omega arith))
