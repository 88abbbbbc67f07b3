use mathlib.Core.Path.{◌∙◌}
use Rattle.xcp_c.proofs.reader_handle.ReaderHandle.into_box.Goals as goal

pub into_box-requires : goal.into_box-requires
into_box-requires c = (c.requires.0, c.give.ensures ∙ c.requires.1)
