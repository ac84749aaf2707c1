use Rattle.std.proofs.Common.{None, Some, ap, inl, inr, refl, subst, sym, ℕ, ◌≡◌, ◌∙◌}
use Rattle.engine.proofs.Common.{IsAlike, IsPut, first_refusal, is_opened, kept_opening_tests, opened_at, place_in, uncut}
use Rattle.kept.proofs.Staying.{alike_self}
use Rattle.mvto_rules.proofs.AtClosed.{none_unless}
use Rattle.spans.specs.declared.kind.Kind.{Kind}
use Rattle.engine.specs.Layers.{kept_of}
use Rattle.engine.proofs.OpeningReplies.{open_done, open_refused, open_wanting, opens_low}
use Rattle.engine.proofs.layers.Layers.open_feed.Goals as goal

pub returns-in-Some : goal.returns-in-Some
returns-in-Some c =
    let kind : Kind = record { initial = c.args.initial; gap = c.args.gap } in
    let k = kept_of c.args.self.now in
    inl (open_refused k k c.args.seat c.args.span.now c.args.cursor kind c.in-Some.refusal (sym c.opening_refusal.ensures ∙ c.in-Some.is) (alike_self k))

-- what nothing refuses is in range, so the feed opens at its own cursor
pub returns-in-Ok : goal.returns-in-Ok
returns-in-Ok c =
    let kind : Kind = record { initial = c.args.initial; gap = c.args.gap } in
    let e = c.args.self.now in let k = kept_of e in let s' = c.open.new.self in let f = c.in-Ok.feed in
    let none : first_refusal (kept_opening_tests kind k c.args.cursor) ≡ None = sym c.opening_refusal.ensures ∙ none_unless c.opening_refusal.result c.in_default.not-Some in
    let put : IsPut e.feeds s' f (Some (opened_at c.args.seat kind c.args.span.now c.args.cursor)) = subst (λ (n : ℕ). IsPut e.feeds s' f (Some (opened_at c.args.seat kind c.args.span.now n))) (uncut c.args.cursor (opens_low kind k c.args.cursor none)) c.in-Ok.ensures.put in
    let change = is_opened k e.feeds s' f c.args.seat kind c.args.span.now c.args.cursor (λ g. refl) put in
    inl (open_done k (kept_of (record e { feeds = s' })) c.args.seat c.args.span.now c.args.cursor kind f none c.in-Ok.ensures.number
    (record { feed = change.feed; rest = ap (λ n. record k { feed = place_in s'; feeds_opened = n }) (c.in-Ok.ensures.opened ∙ c.in-Ok.ensures.number) }))

pub returns-in-Err : goal.returns-in-Err
returns-in-Err c =
    let kind : Kind = record { initial = c.args.initial; gap = c.args.gap } in
    let e = c.args.self.now in let k = kept_of e in
    let none : first_refusal (kept_opening_tests kind k c.args.cursor) ≡ None = sym c.opening_refusal.ensures ∙ none_unless c.opening_refusal.result c.in_default.not-Some in
    inr (refl, open_wanting k (kept_of (record e { feeds = c.open.new.self })) c.args.seat c.args.span.now c.args.cursor kind none (subst (λ s. IsAlike k (kept_of (record e { feeds = s }))) (sym c.in-Err.ensures.err) (alike_self k)))
