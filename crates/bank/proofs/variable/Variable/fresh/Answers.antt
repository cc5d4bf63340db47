use Rattle.bank.specs.Answer.{fresh_header}
use Rattle.bank.proofs.variable.Variable.fresh.Goals as goal

pub returns : goal.returns
unfolding fresh_header
returns c = cc
