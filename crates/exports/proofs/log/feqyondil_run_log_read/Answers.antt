use native.Mathlib.Omega.{arith}
use Rattle.exports.proofs.LogLaws.{crosses, is_log}
use Rattle.exports.proofs.log.feqyondil_run_log_read.Goals as goal

pub returns : goal.returns
returns c = let h = c.read-read.ensures in
    rw (c.count.ensures.0, c.count.ensures.1) (record { counts = crosses h; log = is_log c.args.log.now (λ i. omega (arith, c.type_inv.log i)) h })
