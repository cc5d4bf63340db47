-- `read_full`: what it read so far is what it consumed, and each read adds to both (`front_more`).
use Rattle.std.proofs.Common.{rules, ◌-◌, length, subst}
use Rattle.std.specs.Io.KnownBytes.{Consumes}
use Rattle.std.proofs.KnownBytes.{Consumes-trans}
use Rattle.streams.proofs.ReadLaws.{front_more}
use Rattle.streams.proofs.read_full.Goals as goal

pub loop-len-preserved : goal.loop-len-preserved
loop-len-preserved g c =
    let from = c.loop-len.len in
    let room = length c.loop-len.buf - from in
    let within = c.loop-len.invariant.1 in
    let more = front_more from room c.in-Ok.n c.loop-len.buf c.read.new.buf within c.in-Ok.ensures.bound.0 in
    let all = Consumes-trans _ _ _ _ _ c.loop-len.invariant.2 c.in-Ok.ensures.bytes.0 in
    (search rules, search rules, subst (Consumes _ _) more all)
