use Rattle.mx_desk.proofs.DurableLemmas.{lives_lawful}
use Rattle.mx_desk.proofs.laws.lives.lives.Goals as goal

pub returns : goal.returns
returns c = record { lives = lives_lawful }
