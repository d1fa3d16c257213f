-- `is_unmarked` meets its contract: by the two bytes of the mark. Assumes nothing.
use mathlib.Core.Path.{ap, ◌∙◌}
use mathlib.Core.Bool.{not}
use Rattle.journal.proofs.FormLaws.{unmarked-is}
use Rattle.journal.proofs.form.Form.is_unmarked.Goals as goal

pub returns : goal.returns
returns c = ap not c.starts_with.ensures.value ∙ unmarked-is c.args.self.byte c.args.bytes.now
