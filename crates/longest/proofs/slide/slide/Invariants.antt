use Prim.Native.Nat.{◌-◌, ◌*◌}
use Rattle.buffers.specs.Bytes.{over}
use Rattle.leb128.specs.Leb128.{decoded_all}
use Rattle.longest.specs.Longest.{lengths, windows}
use Rattle.longest.proofs.SlideLaws.{Slides}
use Rattle.longest.proofs.slide.slide.Given as goal

abbrev pub invariant-loop-i : goal.invariant-loop-i
invariant-loop-i l = Slides l.window l.window (over 0 (windows l.window 0 (lengths (decoded_all (3 * l.count) l.s))) l.initial.out) (lengths (decoded_all (3 * (l.count - l.i)) l.rest)) l.out l.ring l.first l.i
