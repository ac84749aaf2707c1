use Rattle.json_lines.specs.Meaning.{texts_view}
use Rattle.json_lines.proofs.Readings.{read_found, read_whole, read_unresolved}
use Rattle.json_lines.proofs.reading.read_written.Goals as goal

pub returns-clause-found : goal.returns-clause-found
returns-clause-found c = read_found c.args.format c.args.line.now (texts_view c.in-Ok.texts) c.message_of.result c.in-Ok.ensures c.message_of.ensures.lawful c.message_of.ensures.found

pub returns-clause-whole : goal.returns-clause-whole
returns-clause-whole c = read_whole c.args.format c.args.line.now (texts_view c.in-Ok.texts) c.message_of.result c.in-Ok.ensures c.message_of.ensures.exact

pub returns-clause-memory : goal.returns-clause-memory
returns-clause-memory c = read_unresolved c.args.format c.args.line.now (texts_view c.in-Ok.texts) c.message_of.result c.in-Ok.ensures c.message_of.ensures.memory
