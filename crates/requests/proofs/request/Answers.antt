use Rattle.requests.proofs.RequestLaws.{request_none, request_some}
use Rattle.requests.proofs.request.Goals as goal

pub returns-in-Empty : goal.returns-in-Empty
returns-in-Empty c = request_none _ c.in-Empty.is

pub returns-in-Invalid : goal.returns-in-Invalid
returns-in-Invalid c = request_some _ c.in-Invalid.is
