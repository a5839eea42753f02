use Rattle.java_reader.proofs.Causes.{only-tree, only-cause}
use Rattle.java_reader.proofs.reader.read_file.Goals as goal

pub returns-clause-only : goal.returns-clause-only
returns-clause-only c =
    only-tree c.one_reading.ensures.list c.one_reading.ensures.place c.one_reading.ensures.apart c.args.text.now c.read_text.result c.read_text.ensures.found c.read_text.ensures.cause

pub returns-clause-only_cause : goal.returns-clause-only_cause
returns-clause-only_cause c =
    only-cause c.one_reading.ensures.list c.one_reading.ensures.place c.one_reading.ensures.apart c.args.text.now c.read_text.result c.read_text.ensures.found c.read_text.ensures.cause
