use Rattle.std.proofs.Common.{◌≡◌, None, take}
use Rattle.std.specs.Prelude.{option_map}
use Rattle.feed.proofs.Common.{last_name, last_resolved, name_of, option_copied}
use Rattle.feed.proofs.place.place_behind.Given as goal

abbrev pub invariant-loop-message : goal.invariant-loop-message
invariant-loop-message l = (l.reached ≡ last_resolved l.after (take l.message-index l.messages)) × (option_map name_of (option_copied l.last) ≡ last_name None (take l.message-index l.messages))
