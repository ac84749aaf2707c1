-- What standard error is told of each end and of each fault (this project).
use Rattle.std.specs.Prelude.{ℕ, List, ◌++◌, ◌==◌, codes, decimal, if◌then◌else◌, Option, Some, None}
use Rattle.jobs.specs.declared.ending.End.{End}
use Rattle.follow.specs.declared.ending.FollowEnd.{FollowEnd}
use Rattle.spelled_words.specs.declared.fault.LineFault.{LineFault}
use Rattle.spelled_words.specs.declared.fault.LineFault.TheVariants as faults
use Rattle.shared_db.specs.declared.config.OpenError.{OpenError}
use Rattle.shared_db.specs.declared.config.OpenError.TheVariants as reasons
use Rattle.jobs.specs.declared.ending.End.TheVariants as ends
use Rattle.follow.specs.declared.ending.FollowEnd.TheVariants as follow_ends
use Rattle.follow.specs.declared.fault.FollowFault.{FollowFault}
use Rattle.follow.specs.declared.fault.FollowFault.TheVariants as follow_faults
use Rattle.command_line.specs.declared.sentences.Sentence.{Sentence}
use Rattle.command_line.specs.declared.sentences.Sentence.TheVariants as sentences
use Rattle.command_line.specs.declared.sentences.TheConstants.{INPUT, MEMORY, NO_EVENT, NO_MESSAGE, OUTPUT, RING, SEATS, SPENT, THREAD}

-- the words for a fault of a script or of a transcript
abbrev pub words_of_line : LineFault → List ℕ
words_of_line faults.WordCount = codes "has too few words, too many, or an empty one"
words_of_line faults.UnknownCommand = codes "has a command that there isn't"
words_of_line faults.Number = codes "has no number where one belongs"
words_of_line faults.KeyLength = codes "has a key of no bytes, or a key or a bound that is too long"
words_of_line faults.ValueLength = codes "has a value that is too long"
words_of_line faults.Session = codes "has a session that isn't a number below the number of sessions"
words_of_line faults.NoNewline = codes "has no newline at its end"
words_of_line faults.LineTooLong = codes "is longer than the format lets it be"
words_of_line faults.BadByte = codes "has a byte outside printable ASCII, or a word that spells no bytes"
words_of_line faults.Reply = codes "has no answer behind its `=>`"
words_of_line faults.Follow = codes "isn't what has to follow the answer above it"

-- the words for a fault of a feed that is followed
abbrev pub words_of_message : FollowFault → List ℕ
words_of_message follow_faults.NotJson = codes "is no JSON"
words_of_message follow_faults.Shape = codes "isn't written as a message is"
words_of_message follow_faults.Number = codes "has a timestamp that is no number, or out of range"
words_of_message follow_faults.Base64 = codes "has a key or a value that isn't base64"
words_of_message follow_faults.Length = codes "has a key of no bytes, or a key or a value that is too long"
words_of_message follow_faults.NoNewline = codes "has no newline at its end"
words_of_message follow_faults.LineTooLong = codes "is longer than the format lets it be"
words_of_message follow_faults.NotAfter = codes "has a row that doesn't come after the messages above it"
words_of_message follow_faults.OutsideSpan = codes "has a key outside the span"
words_of_message follow_faults.ResolvedBack = codes "resolves what the messages above it have passed"

-- what is wrong with a line, and which event can't be right
abbrev pub line_text : ℕ → List ℕ → List ℕ
line_text number words = codes "line " ++ (decimal number ++ (codes " " ++ words))

abbrev pub event_text : ℕ → List ℕ
event_text position = codes "the event at position " ++ (decimal position ++ codes " can't be right")

abbrev pub right_text : ℕ → List ℕ
right_text events = codes "events checked: " ++ decimal events

-- what a sentence says
abbrev pub text_of : Sentence → List ℕ
text_of (sentences.Words words) = words.now
text_of (sentences.Line number words) = line_text number words.now
text_of (sentences.Event position) = event_text position
text_of (sentences.Right events) = right_text events
text_of (sentences.Count events wanted) = right_text events ++ (codes ", and wanted: " ++ decimal wanted)

-- the word for a database that was not opened
abbrev pub word_of_reason : OpenError → List ℕ
word_of_reason reasons.SeatCount = SEATS.now
word_of_reason reasons.RingSize = RING.now
word_of_reason reasons.NoMemory = MEMORY.now

-- what is told of an end: nothing where all was done, and of a check how many events are right
abbrev pub sentence_of : End → Option (List ℕ)
sentence_of ends.Done = None
sentence_of (ends.Right events) = Some (if events == 0 then NO_EVENT.now else right_text events)
sentence_of (ends.Faulty line fault) = Some (line_text line (words_of_line fault))
sentence_of (ends.No position) = Some (event_text position)
sentence_of ends.Spent = Some SPENT.now
sentence_of (ends.Open reason) = Some (word_of_reason reason)
sentence_of ends.Input = Some INPUT.now
sentence_of ends.Output = Some OUTPUT.now
sentence_of ends.Memory = Some MEMORY.now
sentence_of ends.Thread = Some THREAD.now

-- the same of a follower's end
abbrev pub sentence_of_follower : FollowEnd → Option (List ℕ)
sentence_of_follower follow_ends.Done = None
sentence_of_follower follow_ends.NoMessages = Some NO_MESSAGE.now
sentence_of_follower (follow_ends.Fault line fault) = Some (line_text line (words_of_message fault))
sentence_of_follower follow_ends.Spent = Some SPENT.now
sentence_of_follower follow_ends.Input = Some INPUT.now
sentence_of_follower follow_ends.Output = Some OUTPUT.now
sentence_of_follower follow_ends.Memory = Some MEMORY.now
