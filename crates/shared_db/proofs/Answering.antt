-- A turn and what was made in it are an answered call.
use Rattle.std.proofs.Common.{◌≡◌, ℕ, ◌+◌, ◌≤◌, List, [], ◌∷◌, ◌++◌, length, reverse, sym, ap, ◌∙◌, subst, arith}
use Rattle.spans.specs.declared.calls.commands.Cmd.{Cmd}
use Rattle.shared_db.proofs.Common.{Engine, Event, Ghosts, IsSame, KeepsTurn, Seat, closed_timestamp, found, known, met_spent, mine, number, of_seat, seen}
use Rattle.spans.specs.Legal.{IsLegal, IsGapless}
use Rattle.ticket_lock.specs.Seats.{HasTurn}
use Rattle.shared_db.specs.declared.served.Served.{Served}
use Rattle.shared_db.specs.History.{StandsFor, closed_after}
use Rattle.shared_db.specs.Calls.{IsAnswered, IsMade}
use Rattle.shared_db.specs.Standing.{legal_of, closed_is}
use Rattle.shared_db.proofs.Turning.{others_only, none_of}

module _ {C : Ghosts Served Event} where
  abbrev Turn : ℕ → Seat Served Event C → Served → ℕ → Seat Served Event C → Type 0
  Turn = HasTurn (λ (s : Served) (n : ℕ) (h : List Event). StandsFor s.engine.value n h) (λ (s : Served). closed_timestamp s.engine.value)

  pub answered : (first : ℕ) (old turn new : Seat Served Event C) (value : Served) (t : ℕ) (cmd : Cmd) (event : Event) → mine old ≡ of_seat (λ (e : Event). e.seat) (number old) (seen old) → Turn first old value t turn → IsSame turn new → IsMade first turn t cmd event new
      → IsAnswered first old cmd event new
  answered first old turn new value t cmd event owned h same m = let rest : List Event = h.begins.0 in
      let here : found turn ≡ seen old ++ rest = h.begins.1 ∙ ap (λ (l : List Event). l ++ rest) h.keeps.seen in
      let shown : seen new ≡ (seen old ++ rest) ++ event ∷ [] = m.history ∙ ap (λ (l : List Event). l ++ event ∷ []) here in
      let grown : mine new ≡ mine old ++ event ∷ [] = m.own ∙ ap (λ (l : List Event). l ++ event ∷ []) h.keeps.mine in
      let by : event.seat ≡ number old = m.seat ∙ h.keeps.same.number in
      let kept : number new ≡ number old = same.number ∙ h.keeps.same.number in record {
        between = rest;
        history = shown;
        others = none_of (number old) rest (others_only (number old) (seen old) rest event (seen new) (mine old) (mine new) by shown owned grown (m.owned ∙ ap (λ (n : ℕ). of_seat (λ (e : Event). e.seat) n (seen new)) kept));
        legal = m.legal;
        gapless = m.gapless;
        own = grown;
        owned = m.owned;
        seat = by;
        command = m.command;
        position = m.position ∙ (sym h.place ∙ ap (λ (l : List Event). first + length l) here);
        bounded = omega (arith, m.position, h.below);
        risen = subst (λ (n : ℕ). n ≤ closed_after (seen new)) h.keeps.known m.risen;
        floor = m.floor;
        unspent = h.unspent;
        still = m.met ∙ h.still;
      }

  -- the turn ended with the event, after the floor was raised to what the engine has closed
  pub made : (first t : ℕ) (old raised new : Seat Served Event C) (engine : Engine) (cmd : Cmd) (event : Event) → StandsFor engine first (found old ++ event ∷ []) → KeepsTurn old raised → seen new ≡ found raised ++ event ∷ [] → mine new ≡ mine raised ++ event ∷ []
      → mine new ≡ of_seat (λ (e : Event). e.seat) (number new) (seen new) → event.seat ≡ number old → event.cmd ≡ cmd → event.position ≡ t → known old ≤ known raised → closed_timestamp engine ≤ known raised → known raised ≤ closed_timestamp engine
      → known new ≡ known raised → met_spent new ≡ met_spent raised → IsMade first old t cmd event new
  made first t old raised new engine cmd event stood kept saw grew owned by asked at rose reached capped knows met = let h : List Event = found old ++ event ∷ [] in
      let shown : seen new ≡ h = saw ∙ ap (λ (l : List Event). l ++ event ∷ []) kept.found in
      let closed : closed_after (seen new) ≡ closed_timestamp engine = ap closed_after shown ∙ sym (closed_is engine (reverse h) stood.history) in record {
        history = shown;
        own = grew ∙ ap (λ (l : List Event). l ++ event ∷ []) kept.mine;
        owned = owned;
        seat = by;
        command = asked;
        position = at;
        legal = subst (λ (l : List Event). IsLegal (reverse l)) (sym shown) (legal_of engine (reverse h) stood.history);
        gapless = subst (IsGapless first) (sym shown) stood.gapless;
        risen = omega arith;
        floor = omega arith;
        met = met ∙ kept.met_spent;
      }
