-- A line has room for the words of each command with those of its reply.
use Rattle.std.proofs.Common.{◌≡◌, ℕ, ◌+◌, ◌<◌, ◌≤◌, List, [], ◌∷◌, ◌++◌, length, lit<, arith}
use Rattle.std.specs.Prelude.{codes, decimal}
use Rattle.pipes.proofs.Common.{Cmd, Event, Format, Get, IsCommand, IsNumber, KeepsLimit, ReadAt, Stats, bytes_few, command_few, joined_few, key_limit, length-decimal-le, letters, line_limit, number_length, reply_words, room, words_of}
use Rattle.pipes.specs.Texts.{KeepsFormat}
use Rattle.pipes.proofs.Answers.{room_of}

letters-append : (ws vs : List (List ℕ)) → letters (ws ++ vs) ≡ letters ws + letters vs
letters-append [] vs = omega arith
letters-append (w ∷ ws) vs = omega (arith, letters-append ws vs)

-- a session's number has two digits at most
seat_length : (seat : ℕ) → seat < 64 → length (decimal seat) ≤ 2
seat_length seat small = length-decimal-le 2 seat (lit< tt) (omega arith) (omega arith)

module _ (format : Format) where
  -- the longest are a `put`, and a `get` or `readat` that finds a value, with a key and a value of escaped bytes
  with_reply : (c : Cmd) → IsCommand format c → letters (words_of c) + room_of format c + 90 ≤ line_limit format
  unfolding words_of IsCommand
  with_reply (Get ts key) is = let r = room format in omega (arith, r.0, number_length ts is.0, bytes_few key (key_limit format) is.1.2 is.1.1)
  with_reply (ReadAt t key) is = let r = room format in omega (arith, r.0, number_length t is.0, bytes_few key (key_limit format) is.1.2 is.1.1)
  with_reply Stats is = let r = room format in omega (arith, r.0)
  with_reply c is = omega (arith, command_few format c is)

  -- so the first line of an event keeps the limit
  pub heading_few : (e : Event) → IsNumber e.position → KeepsFormat format e → letters (reply_words e.reply) ≤ 60 + room_of format e.cmd → KeepsLimit format e
  heading_few e position keeps few =
      let answer : List (List ℕ) = codes "=>" ∷ reply_words e.reply in
      omega (arith, few, joined_few (decimal e.position ∷ decimal e.seat ∷ (words_of e.cmd ++ answer)), letters-append (words_of e.cmd) answer, number_length e.position position, seat_length e.seat keeps.0, with_reply e.cmd keeps.1)
