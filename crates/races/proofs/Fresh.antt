-- A race on a database that was opened for it.
use Rattle.std.proofs.Common.{◌≡◌, ℕ, ◌<◌, false, List, [], ◌∷◌, length, vec_len, sym, ap, ◌∙◌, subst, arith, All}
use Rattle.std.specs.Prelude.{Vec}
use Rattle.std.proofs.lemmas.Bool.{false_from_ne_true}
use mathlib.Core.Option.{some}
use lib.ListN.{get_elem?, get_or}
use Rattle.races.proofs.Common.{Cmd, Db, Engine, Event, IsGapless, IsOf, number, of_seat}
use Rattle.timestamps.specs.declared.oracle.OraclePass.{OraclePass}
use Rattle.shared_db.specs.declared.config.Config.{Config}
use Rattle.shared_db.specs.Seats.{IsOpened}
use Rattle.races.specs.declared.ended.Ended.{Ended}
use Rattle.races.specs.Racing.{AreLists, IsRaceOf, commands_of, AllEnded, IsSettled}
use Rattle.races.proofs.Shares.{elem_at}

pub found_at : {A : Type 0} (xs : List A) (k : ℕ) → k < length xs → (a : A) × (get_elem? xs k ≡ some a)
found_at [] k lt = absurd (omega arith)
found_at (x ∷ xs) k lt = (get_or (x ∷ xs) k x, elem_at (x ∷ xs) k x lt)

pub ended_own : {Y Z : Type 0} (db : Db) (seats : List _) (lists : List (Vec Cmd Y)) (all : Vec Ended Z) → AllEnded db seats lists all → All (λ (e : Ended). IsOf db e.seat) all.items
ended_own db seats lists all ended k d lt = (ended.each k (get_or all.items k d) (elem_at all.items k d lt)).played.own

-- each session has made all its calls, because so many events are fewer than there are positions
pub race_of : {Y Z : Type 0} (config : Config) (sessions : ℕ) (db : Db) (seats : List _) (passes : List OraclePass) (calls : List (ℕ × Cmd)) (lists : List (Vec Cmd Y)) (all : Vec Ended Z) (engine : Engine) (events : List Event)
    → config.first ≡ 0 → config.seats ≡ sessions → length events < 9223372036854775808 → vec_len all ≡ length all.items → AreLists calls lists → IsOpened config db seats passes → AllEnded db seats lists all → IsSettled db all.items engine events
    → IsRaceOf sessions calls events
race_of config sessions db seats passes calls lists all engine events first same few long are opened ended settled = record {
  trace = settled.trace;
  gapless = subst (λ (n : ℕ). IsGapless n events) (opened.first ∙ first) settled.gapless;
  bounded = omega (arith, few);
  few = omega (arith, same, opened.seats_in_range.1);
  named = λ k e at. let lt = settled.named k e at in omega (arith, lt, same, opened.count);
  each = λ k lt.
      let a = found_at all.items k (omega (arith, lt, same, ended.count, opened.seat_total, long)) in
      let e : Ended = a.0 in
      let h = ended.each k e a.1 in
      let share = settled.each k e a.1 in
      let placed : number e.seat ≡ k = h.played.same.number ∙ (opened.new_seats k h.seat h.at_seat).numbered in
      let own : e.events.items ≡ of_seat (λ (x : Event). x.seat) k events = share.own ∙ ap (λ (n : ℕ). of_seat (λ (x : Event). x.seat) n events) placed in
      let whole : e.spent ≡ false = false_from_ne_true e.spent (λ yes. let used = share.spent yes in omega (arith, used, opened.first, first, few)) in
      ap (λ (xs : List Event). commands_of xs) (sym own) ∙ (h.played.whole whole ∙ are k h.commands h.at_list);
}
