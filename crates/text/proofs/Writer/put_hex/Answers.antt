-- `put_hex`: the digits of the first bytes are put; `hex_put` puts two more, `hex_room` says that the rest and `end` fit, and `join` puts `end`.
use native.Mathlib.Omega.{arith}
use lib.Seq.{take_all}
use Rattle.text.specs.Text.{hex, field}
use Rattle.text.proofs.PutLaws.{put_none, length_put, join}
use Rattle.text.proofs.TextLaws.{hex_room, hex_put}
use Rattle.text.proofs.Writer.put_hex.Goals as goal

pub loop-b-init : goal.loop-b-init
unfolding hex
loop-b-init c = (omega arith, put_none c.args.self.now (omega (arith, c.requires.fits)))

pub put-requires : goal.put-requires
put-requires c = let l = c.loop-b in
    record { fits = omega (arith, hex_room c.args.bytes.now l.b-index l.invariant.1 c.args.end c.requires l.invariant.0) }

pub put-requires-in-loop-b : goal.put-requires-in-loop-b
put-requires-in-loop-b c = let l = c.loop-b in
    let a = c.put.ensures in
    record {
      fits = omega (arith, hex_room c.args.bytes.now l.b-index l.invariant.1 c.args.end c.requires l.invariant.0, a.ends, length_put a);
    }

pub loop-b-preserved : goal.loop-b-preserved
loop-b-preserved c = let l = c.loop-b in
    (omega arith, hex_put c.args.bytes.now l.b-index l.invariant.1 (omega arith) c.digit.ensures c.digit-in-loop-b.ensures c.put.ensures c.put-in-loop-b.ensures)

pub put-requires-2 : goal.put-requires-2
put-requires-2 c = let l = c.loop-b in
    record { fits = omega (arith, hex_room c.args.bytes.now l.b-index l.invariant.1 c.args.end c.requires l.invariant.0) }

pub returns : goal.returns
unfolding field
returns c = let l = c.loop-b in
    let e = take_all l.b-index c.args.bytes.now (omega arith) in
    join (rw e at l.invariant.1) c.put-2.ensures
