use Rattle.mx_wire.proofs.replies.fixed_answer.Goals as goal

pub returns-in-Refused-clause-whole : goal.returns-in-Refused-clause-whole
returns-in-Refused-clause-whole c = rw c.in-Refused.is c.refusal_answer.ensures.whole
