use Rattle.script.proofs.EventsAgain.{transcript_again}
use Rattle.script.proofs.Headers.{format_again}
use Rattle.script.proofs.laws.transcripts.Goals as goal

pub returns-clause-format : goal.returns-clause-format
returns-clause-format c = format_again

pub returns-clause-read : goal.returns-clause-read
returns-clause-read c = transcript_again
