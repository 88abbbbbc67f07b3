use Rattle.pin_core.proofs.StepLaws.{run_adds}
use Rattle.pin_core.proofs.HeldBufferLaws.{left_alone, reads_one, pins_last}
use Rattle.pin_core.proofs.laws.readers_keep_what_they_hold.Goals as goal

pub returns-clause-held_is_left_alone : goal.returns-clause-held_is_left_alone
returns-clause-held_is_left_alone c = λ W s t e a r b p law h held. left_alone W s t a r b p law held e h

pub returns-clause-one_publication : goal.returns-clause-one_publication
returns-clause-one_publication c = reads_one

pub returns-clause-pins_the_last : goal.returns-clause-pins_the_last
returns-clause-pins_the_last c = pins_last

pub returns-clause-nothing_unseen : goal.returns-clause-nothing_unseen
returns-clause-nothing_unseen c = run_adds
