use Rattle.xcp_memory.proofs.EcuImageLemmas.{length-ecu_image}
use Rattle.xcp_laws.proofs.ImageBytes.{image_each, image_controller, image_large, image_papers, image_rest, image_words}
use Rattle.xcp_laws.proofs.images.an_image_has_the_controllers_bytes.Goals as goal

pub returns-clause-each : goal.returns-clause-each
returns-clause-each c = image_each

pub returns-clause-controller : goal.returns-clause-controller
returns-clause-controller c = image_controller

pub returns-clause-rest : goal.returns-clause-rest
returns-clause-rest c = image_rest

pub returns-clause-long : goal.returns-clause-long
returns-clause-long c = length-ecu_image

pub returns-clause-words : goal.returns-clause-words
returns-clause-words c = image_words

pub returns-clause-papers : goal.returns-clause-papers
returns-clause-papers c = image_papers

pub returns-clause-large : goal.returns-clause-large
returns-clause-large c = image_large
