use Rattle.std.proofs.Common.{ap, inl, inr, refl, subst, sym, ◌≡◌, ◌∙◌}
use Rattle.mvto_rules.proofs.Common.{IsAbortedBy, IsCrossedIn, IsWrittenTo, is_committed_in, option_copied, version_in}
use Rattle.mvto_rules.specs.Holding.{holding}
use Rattle.mvto_rules.proofs.Noting.{is_late, isnt_late, same_held, same_marks, stays}
use Rattle.mvto_rules.proofs.Replies.{write_done, write_late, write_refused, write_wanting}
use Rattle.mvto_rules.proofs.rules.Rules.write.Goals as goal
use Rattle.version_chain.specs.declared.store.Wrote.TheVariants.{Crossed, Done}

pub returns-in-Err : goal.returns-in-Err
returns-in-Err c = record { step = λ k. inl (write_refused (holding k c.args.self.now) c.args.seat c.args.ts c.args.key.now (option_copied c.args.after) c.in-Err.refusal c.in-Err.ensures.err c.in-Err.ensures.other) }

pub returns-in-Ok-Crossed : goal.returns-in-Ok-Crossed
returns-in-Ok-Crossed c = record {
  step = λ k.
      let wrote = c.in-Ok-Crossed.ensures in
      let crossed = subst (IsCrossedIn c.args.self.now.store c.args.key.now) c.in-Ok.ensures.ok (wrote.crossed.0 c.in-Ok-Crossed.field-0-is) in
      let same = same_held k c.args.self.now c.write.new.self (wrote.before c.in-Ok-Crossed.field-0-is) wrote.marks in
      inl (write_late (holding k c.args.self.now) (holding k c.take_back.new.self) c.args.seat c.args.ts c.args.key.now (option_copied c.args.after) c.in-Ok.ensures.none (is_late k c.args.self.now c.args.key.now c.args.ts crossed)
      (subst (λ t. IsAbortedBy (holding k c.args.self.now) (holding k c.take_back.new.self) t) c.in-Ok.ensures.ok (subst (λ j. IsAbortedBy j (holding k c.take_back.new.self) c.in-Ok.ts) same (c.take_back.ensures k))));
}

pub returns-in-Ok-Done : goal.returns-in-Ok-Done
returns-in-Ok-Done c = record {
  step = λ k.
      let wrote = c.in-Ok-Done.ensures in
      let free : IsCrossedIn c.args.self.now.store c.args.key.now c.args.ts → ⊥ = (λ crossed.
      let no : Done ≡ Crossed = sym c.in-Ok-Done.field-0-is ∙ wrote.crossed.1 (subst (IsCrossedIn c.args.self.now.store c.args.key.now) (sym c.in-Ok.ensures.ok) crossed) in
      cc) in
      let now = subst (λ t. IsWrittenTo c.args.self.now.store c.write.new.self t c.args.key.now (option_copied c.args.after)) c.in-Ok.ensures.ok (wrote.done c.in-Ok-Done.field-0-is) in
      inl (write_done (holding k c.args.self.now) (holding k (record c.args.self.now { store = c.write.new.self })) c.args.seat c.args.ts c.args.key.now (option_copied c.args.after) c.in-Ok.ensures.none (isnt_late k c.args.self.now c.args.key.now c.args.ts free)
      (record { version = now.version; committed = now.committed; rest = ap (λ m. record (holding k c.args.self.now) { version = version_in c.write.new.self; committed = is_committed_in c.write.new.self; marked = m }) (same_marks c.args.self.now.store c.write.new.self wrote.marks) }));
}

pub returns-in-Err-write : goal.returns-in-Err-write
returns-in-Err-write c = record {
  step = λ k.
      let free : IsCrossedIn c.args.self.now.store c.args.key.now c.args.ts → ⊥ = (λ crossed. c.in-Err-write.ensures.free (subst (IsCrossedIn c.args.self.now.store c.args.key.now) (sym c.in-Ok.ensures.ok) crossed)) in
      inr (
        refl,
        write_wanting (holding k c.args.self.now) (holding k (record c.args.self.now { store = c.write.new.self })) c.args.seat c.args.ts c.args.key.now (option_copied c.args.after) c.in-Ok.ensures.none (isnt_late k c.args.self.now c.args.key.now c.args.ts free)
            (stays k c.args.self.now c.write.new.self c.in-Err-write.ensures.err c.in-Err-write.ensures.marks),
      );
}
