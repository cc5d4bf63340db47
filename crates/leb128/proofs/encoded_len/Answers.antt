use native.Mathlib.Omega.{arith}
use Prim.Native.Nat.{◌/◌}
use Rattle.leb128.proofs.Forms.{size_small, size_large}
use Rattle.leb128.proofs.encoded_len.Goals as goal

pub returns-in-0-to-127 : goal.returns-in-0-to-127
returns-in-0-to-127 c = let n = c.args.n in (omega (arith, size_small n (omega arith)), omega arith)

pub returns-in-128-to-16383 : goal.returns-in-128-to-16383
returns-in-128-to-16383 c = let n = c.args.n in (omega (arith, size_large n (omega arith), size_small (n / 128) (omega arith)), omega arith)

pub returns-in-16384-to-2097151 : goal.returns-in-16384-to-2097151
returns-in-16384-to-2097151 c = let n = c.args.n in (omega (arith, size_large n (omega arith), size_large (n / 128) (omega arith), size_small (n / 128 / 128) (omega arith)), omega arith)

pub returns-in-2097152-to-268435455 : goal.returns-in-2097152-to-268435455
returns-in-2097152-to-268435455 c = let n = c.args.n in (omega (arith, size_large n (omega arith), size_large (n / 128) (omega arith), size_large (n / 128 / 128) (omega arith), size_small (n / 128 / 128 / 128) (omega arith)), omega arith)

pub returns-in_default : goal.returns-in_default
returns-in_default c = let n = c.args.n in (omega (arith, size_large n (omega arith), size_large (n / 128) (omega arith), size_large (n / 128 / 128) (omega arith), size_large (n / 128 / 128 / 128) (omega arith), size_small (n / 128 / 128 / 128 / 128) (omega arith)), omega arith)
