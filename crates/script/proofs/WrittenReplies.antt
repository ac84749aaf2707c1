-- What is written of a reply's first line is words.
use Rattle.std.proofs.Common.{length, Some, None, refl, arith}
use Rattle.script.proofs.Common.{AllByRecursion, Format, IsRefusal, IsReply, IsWord, Refusal, Reply, bytes_word, number_word, refusal_words, reply_words}
use Rattle.spans.specs.declared.calls.replies.Reply.TheVariants as reply
use Rattle.spans.specs.declared.calls.replies.Refusal.TheVariants as refusal

refusal_are_words : (r : Refusal) → IsRefusal r → AllByRecursion IsWord (refusal_words r)
refusal_are_words (refusal.BelowClosed closed) is = ((omega arith, refl), (number_word closed is, tt))
refusal_are_words refusal.TsUsed is = ((omega arith, refl), tt)
refusal_are_words refusal.TsRange is = ((omega arith, refl), tt)
refusal_are_words (refusal.Blocked by) is = ((omega arith, refl), (number_word by is, tt))
refusal_are_words refusal.NoTxn is = ((omega arith, refl), tt)
refusal_are_words refusal.NotOwner is = ((omega arith, refl), tt)
refusal_are_words refusal.Ended is = ((omega arith, refl), tt)
refusal_are_words refusal.TooLate is = ((omega arith, refl), tt)
refusal_are_words (refusal.NotClosed closed) is = ((omega arith, refl), (number_word closed is, tt))
refusal_are_words (refusal.BelowHorizon horizon) is = ((omega arith, refl), (number_word horizon is, tt))
refusal_are_words refusal.NoProtection is = ((omega arith, refl), tt)
refusal_are_words refusal.NoFeed is = ((omega arith, refl), tt)
refusal_are_words refusal.FeedCancelled is = ((omega arith, refl), tt)
refusal_are_words refusal.NoMemory is = ((omega arith, refl), tt)
refusal_are_words refusal.GapRange is = ((omega arith, refl), tt)

module _ (format : Format) where
  pub reply_are_words : (r : Reply) → IsReply format r → AllByRecursion IsWord (reply_words r)
  unfolding reply_words IsReply
  reply_are_words reply.Started is = ((omega arith, refl), tt)
  reply_are_words (reply.Found None) is = ((omega arith, refl), tt)
  reply_are_words (reply.Found (Some value)) is = ((omega arith, refl), (bytes_word value is.1, tt))
  reply_are_words (reply.Rows rows) is = ((omega arith, refl), (number_word (length rows) is.0, tt))
  reply_are_words reply.Written is = ((omega arith, refl), tt)
  reply_are_words (reply.Committed keys) is = ((omega arith, refl), (number_word keys is, tt))
  reply_are_words reply.Aborted is = ((omega arith, refl), tt)
  reply_are_words (reply.Closed at aborted) is = ((omega arith, refl), (number_word at is.0, (number_word aborted is.1, tt)))
  reply_are_words (reply.Protected id) is = ((omega arith, refl), (number_word id is, tt))
  reply_are_words reply.Released is = ((omega arith, refl), tt)
  reply_are_words (reply.Collected horizon removed) is = ((omega arith, refl), (number_word horizon is.0, (number_word removed is.1, tt)))
  reply_are_words (reply.Opened feed) is = ((omega arith, refl), (number_word feed is, tt))
  reply_are_words (reply.Messages messages) is = ((omega arith, refl), (number_word (length messages) is.0, tt))
  reply_are_words reply.Cancelled is = ((omega arith, refl), tt)
  reply_are_words (reply.Stats versions undecided feeds closed horizon) is =
      ((omega arith, refl), (number_word versions is.0, (number_word undecided is.1, (number_word feeds is.2, (number_word closed is.3, (number_word horizon is.4, tt))))))
  reply_are_words (reply.Refused r) is = refusal_are_words r is
