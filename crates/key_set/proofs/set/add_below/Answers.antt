use Rattle.std.proofs.Common.{◌∷◌, ◌∙◌, ap}
use Rattle.std.specs.BTreeSet as sets
use Rattle.timestamps.specs.Bytes.{key_cmp}
use Rattle.key_set.proofs.Sets.{put_first}
use Rattle.key_set.proofs.set.add_below.Goals as goal

pub returns-in-Ok-clause-ok : goal.returns-in-Ok-clause-ok
returns-in-Ok-clause-ok c =
    let put = c.in-Ok.ensures.keys ∙ ap (sets.insert_key key_cmp c.args.others.now.keys) c.replace-above.ensures.value ∙ put_first c.args.least.now c.args.others.now.keys c.requires.rising in
    ap (λ x. x ∷ c.insert.new.self.keys) (c.replace-above.ensures.after ∙ c.in_ok-key.ensures.bytes) ∙ ap (λ l. c.args.key.now ∷ l) put
