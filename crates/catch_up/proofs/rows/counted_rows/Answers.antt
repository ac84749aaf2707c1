use Rattle.std.proofs.Common.{Global, Some, Vec, ap, arith, subst, sym, ◌∙◌}
use Rattle.catch_up.proofs.Common.{Row, Walk}
use Rattle.catch_up.specs.Rows.{AreNextIn}
use Rattle.catch_up.proofs.Walk.{IsWalking, begins_at, step_has, step_is, ends_walking, goes_on_walking, keys_shorten, walk_full, walk_joins}
use Rattle.catch_up.proofs.rows.counted_rows.Goals as goal
use Rattle.catch_up.proofs.rows.counted_rows.Goals.{else-loop-missing-test, then-loop-missing-test+in_default, then-loop-missing-test+in-Some+in_ok-tell+else-left-gt0+then-is_none+in-Some-newest_at+in_ok-rest+in_ok-append}

pub loop-missing-init : goal.loop-missing-init
loop-missing-init c =
    let w = c.args.versions in (
      omega arith,
      subst (IsWalking c.args.store.now c.args.span.now w.ts w.key c.args.through c.args.n w c.args.n) (sym c.new-rows.ensures.items)
          (begins_at c.args.store.now c.args.span.now w c.args.through c.args.n c.requires.store c.requires.far),
    )

pub tell-requires : goal.tell-requires
tell-requires c = omega (arith, c.loop-missing-test.true)

pub loop-missing-preserved-then-left-gt0 : goal.loop-missing-preserved-then-left-gt0
loop-missing-preserved-then-left-gt0 c = (
  omega (arith, c.if-left-gt0.true),
  goes_on_walking c.args.store.now c.args.span.now c.args.versions.ts c.args.versions.key c.args.through c.args.n c.loop-missing.versions c.next.new.self c.loop-missing.missing c.tell.new.missing c.loop-missing.rows.items c.tell.new.rows.items
      c.in-Some.found.now c.in-Some.at c.loop-missing.invariant.1 c.in-Some.ensures.found c.in-Some.ensures.walked c.in_ok-tell.ensures,
)

pub loop-missing-preserved : goal.loop-missing-preserved
loop-missing-preserved c = (
  omega arith,
  goes_on_walking c.args.store.now c.args.span.now c.args.versions.ts c.args.versions.key c.args.through c.args.n c.loop-missing.versions c.next.new.self c.loop-missing.missing c.tell.new.missing c.loop-missing.rows.items c.tell.new.rows.items
      c.in-Some.found.now c.in-Some.at c.loop-missing.invariant.1 c.in-Some.ensures.found c.in-Some.ensures.walked c.in_ok-tell.ensures,
)

pub loop-missing-smaller : goal.loop-missing-smaller
loop-missing-smaller c =
    let shorter = keys_shorten c.loop-missing.keys c.next-in-loop-missing.new.self c.next-in-loop-missing.result c.next-in-loop-missing.ensures.steps c.if-is_none.ensures in
    omega (arith, c.loop-missing.invariant.0)

pub unreachable-requires : goal.unreachable-requires
unreachable-requires c = step_has c.args.store.now c.loop-missing.versions c.in-Some.found.now c.in-Some.at c.loop-missing.invariant.1.store c.in-Some.ensures.found c.in_default-newest_at.ensures

pub returns : goal.returns
returns c =
    elim c.loop-missing-test.branch [
      | else-loop-missing-test w ↦ subst (λ (v : Vec Row Global). AreNextIn c.args.store.now c.args.span.now c.args.versions.ts c.args.versions.key c.args.through c.args.n v.items) (sym w.rows-is)
          (walk_full c.args.store.now c.args.span.now c.args.versions.ts c.args.versions.key c.args.through c.args.n c.loop-missing.versions.ts c.loop-missing.versions.key c.loop-missing.missing c.loop-missing.rows.items c.loop-missing.invariant.1.walked w.loop-missing-test.false)
      | then-loop-missing-test+in_default w ↦ subst (λ (v : Vec Row Global). AreNextIn c.args.store.now c.args.span.now c.args.versions.ts c.args.versions.key c.args.through c.args.n v.items) (sym w.rows-is)
          (ends_walking c.args.store.now c.args.span.now c.args.versions.ts c.args.versions.key c.args.through c.args.n c.loop-missing.versions c.loop-missing.missing c.loop-missing.rows.items c.loop-missing.invariant.1 w.in_default.ensures.found)
      | then-loop-missing-test+in-Some+in_ok-tell+else-left-gt0+then-is_none+in-Some-newest_at+in_ok-rest+in_ok-append w ↦
          walk_joins c.args.store.now c.args.span.now c.args.versions.ts c.args.versions.key c.args.through c.args.n w.next.new.self.ts w.next.new.self.key w.tell.new.missing w.tell.new.rows.items c.loop-missing-test.rows.items w.in_ok-rest.rest.items
          (goes_on_walking c.args.store.now c.args.span.now c.args.versions.ts c.args.versions.key c.args.through c.args.n c.loop-missing.versions w.next.new.self c.loop-missing.missing w.tell.new.missing c.loop-missing.rows.items w.tell.new.rows.items
          w.in-Some.found.now w.in-Some.at c.loop-missing.invariant.1 w.in-Some.ensures.found w.in-Some.ensures.walked w.in_ok-tell.ensures).walked
          (subst (λ (u : Walk). AreNextIn c.args.store.now c.args.span.now u.ts u.key c.args.through w.tell.new.missing w.in_ok-rest.rest.items) (sym w.in-Some.ensures.walked)
          (subst (λ t. AreNextIn c.args.store.now c.args.span.now t (Some w.in-Some.found.now) c.args.through w.tell.new.missing w.in_ok-rest.rest.items)
          (step_is c.args.store.now c.loop-missing.versions w.in-Some.found.now w.in-Some.at w.in-Some-newest_at.version.now c.loop-missing.invariant.1.store w.in-Some.ensures.found w.in-Some-newest_at.ensures) w.in_ok-rest.ensures))
          (ap (λ (v : Vec Row Global). v.items) w.rows-is ∙ w.in_ok-append.ensures.items)
    ]
