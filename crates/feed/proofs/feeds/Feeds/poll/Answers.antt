use Rattle.std.proofs.Common.{Some, ap, subst, sym, ◌≡◌, ◌∙◌}
use Rattle.std.specs.Prelude.{is_some, nat_eq}
use Rattle.feed.proofs.Common.{Place}
use Rattle.std.proofs.lemmas.Map.Steps.{set_value_same}
use Rattle.feed.specs.Standing.{arrived_at, cut_at_max, IsPolledBy, IsPut, Lives, Standing, place_in}
use Rattle.feed.specs.Left.{IsTold}
use Rattle.feed.proofs.Telling.{polled_by}
use Rattle.feed.proofs.Tying.{IsSet, tied_moved}
use Rattle.feed.proofs.feeds.Feeds.poll.Goals.{After-arrive, In-Some}
use Rattle.feed.proofs.feeds.Feeds.poll.Goals as goal

-- the feed that was found stands where it stood
unmoved : (c : In-Some) → record { opened = c.self.inside.opened; live = (c.get_mut.follows.lender c.in-Some.live.now).entries } ≡ c.args.self.now
unmoved c =
    let seen : Lives → Standing = λ es. record { opened = c.self.inside.opened; live = es } in
    ap seen ((c.get_mut.follows.holds c.in-Some.live.now).0 ∙ set_value_same (nat_eq c.args.feed) c.self.inside.live.entries c.in-Some.live.now (sym c.in-Some.ensures.value)) ∙ c.self.view_is

pub returns-then-seat-clause-err : goal.returns-then-seat-clause-err
returns-then-seat-clause-err c = unmoved (goal.at.returns-then-seat-clause-err c).In-Some

pub returns-in_default-next_messages-clause-err : goal.returns-in_default-next_messages-clause-err
returns-in_default-next_messages-clause-err c = unmoved (goal.at.returns-in_default-next_messages-clause-err c).In-Some

pub returns-in_default-move_floor-clause-err : goal.returns-in_default-move_floor-clause-err
returns-in_default-move_floor-clause-err c = unmoved (goal.at.returns-in_default-move_floor-clause-err c).In-Some

-- or it goes to where it is told
moved_there : (c : After-arrive) → IsSet c.self.inside.live.entries (c.get_mut.follows.lender c.arrive.new.self).entries c.args.feed (Some (arrived_at c.in-Ok.told.place.after c.in-Ok.told.place.row c.in-Some.live.now))
moved_there c = subst (λ (v : Place). IsSet c.self.inside.live.entries (c.get_mut.follows.lender c.arrive.new.self).entries c.args.feed (Some v)) c.arrive.ensures ((c.get_mut.follows.holds c.arrive.new.self).3 (ap is_some (sym c.in-Some.ensures.value))).0

pub invariant_of-self-2 : goal.invariant_of-self-2
invariant_of-self-2 c = tied_moved c.self.inside.opened c.floor.result c.floor_at-floor.result c.args.feed c.self.inside.live.entries (c.get_mut.follows.lender c.arrive.new.self).entries c.self.inside.floors c.move_floor.new.floors c.in-Some.live.now
    (arrived_at c.in-Ok.told.place.after c.in-Ok.told.place.row c.in-Some.live.now) c.self.invariant (sym c.floor.ensures) (sym c.floor_at-floor.ensures) (sym c.in-Some.ensures.value) c.in-Ok-move_floor.ensures.ok (moved_there (goal.at.invariant_of-self-2 c).After-arrive)

pub returns-clause-told : goal.returns-clause-told
returns-clause-told c =
    let s' : Standing = record { opened = c.self.inside.opened; live = (c.get_mut.follows.lender c.arrive.new.self).entries } in
    let l = c.in-Some.live.now in
    let told = c.in-Ok.told in
    let lives : place_in c.args.self.now c.args.feed ≡ Some l = ap (λ (t : Standing). place_in t c.args.feed) (sym c.self.view_is) ∙ sym c.in-Some.ensures.value in
    let put = subst (λ (t : Standing). IsPut t s' c.args.feed (Some (arrived_at told.place.after told.place.row l))) c.self.view_is (moved_there (goal.at.returns-clause-told c).After-arrive) in
    subst (IsPolledBy c.args.store.now c.args.self.now s' c.args.seat c.args.feed (cut_at_max c.args.closed) c.args.max) (sym c.from_vec.ensures)
    (polled_by c.args.store.now c.args.self.now s' c.args.seat c.args.feed (cut_at_max c.args.closed) c.args.max l told lives (sym c.seat.ensures ∙ c.if-seat.false) (subst (λ n. IsTold c.args.store.now l n c.args.max told) c.min-closed.ensures c.in-Ok.ensures) put)
