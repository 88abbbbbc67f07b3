-- Requests that leave the controller's image as it is.
use Rattle.std.specs.Prelude.{◌≡◌}
use Rattle.xcp_slave.specs.declared.Request.{Request}
use Rattle.xcp_slave.specs.Outcomes.{Answer}
use Rattle.xcp_slave.specs.Step.{Answers}
use Rattle.xcp_slave.specs.SlaveValue.{SlaveValue}
use Rattle.xcp_controller.specs.ControllerValue.{image_of}

-- No slave has another image after such a request.
abbrev pub KeepsImage : Request → Type 0
KeepsImage q = (v : SlaveValue) (a : Answer) (w : SlaveValue) → Answers v q a w → image_of w ≡ image_of v
