-- `stream::reply` meets its contract: kind by kind. Assumes nothing.
use Rattle.stream.proofs.Steps.{unknown_replies}
use Rattle.stream.proofs.reply.Goals as goal

pub returns-in-Unknown-clause-replies : goal.returns-in-Unknown-clause-replies
returns-in-Unknown-clause-replies c = rw c.in-Unknown.is (unknown_replies c.put_error.ensures.put)
