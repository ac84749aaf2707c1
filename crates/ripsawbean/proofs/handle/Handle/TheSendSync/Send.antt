use denote.Param.Send.{IsSend, AllSend, owning_send, sendable}
use denote.Struct.Owning.{fields}
use Rattle.embedded.specs.contracts.database.Database.{the_row as R}
use Rattle.embedded.proofs.database.Database.TheSendSync.{the_send}
use Rattle.ripsawbean.specs.contracts.handle.Handle.{the_row, the_type}
use Rattle.ripsawbean.proofs.HandleSends.{kept}

words : AllSend (fields the_type)
words = search sendable depth 20

pub send : IsSend the_row
send = owning_send the_type words (λ h. (tt, kept R the_send h.at h.database)) (λ k h w. tt)
