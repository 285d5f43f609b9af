use Rattle.std.proofs.Common.{◌≡◌, ◌∙◌, ap, [], ◌++◌, ◌∷◌, cond}
use Rattle.std.proofs.IntoIterSteps.{All-taken}
use Rattle.indexmap.proofs.SetLemmas.{set_all_distinct}
use Rattle.indexmap.specs.IndexSet.{insert_all, insert_key}
use Rattle.hph_array.specs.Key.{key_eq, key_eq_equiv}
use Rattle.hph_array.proofs.keys.indexed_with.Goals as goal

pub returns : goal.returns
returns c =
    let ran = c.in_ok-index.ensures.ran in
    let taken = All-taken ran.0 ran.1 ((ran.3.2 tt).0, (ran.3.0, ran.3.1, (ran.3.2 tt).1)) ∙ ran.2.0 ∙ c.in_ok-copy.ensures in
    let made : c.in_ok-index.index.keys ≡ c.args.keys.now.items =
    ran.4.0 ∙ ap (insert_all key_eq []) taken
    ∙ set_all_distinct key_eq_equiv [] c.args.keys.now.items c.requires.distinct in
    ap (λ s. s.keys) c.in_ok-new.ensures.ok ∙ c.in_ok-insert.ensures.keys ∙ ap (λ ks. insert_key key_eq ks c.args.key) made
    ∙ ap (λ b. cond b c.args.keys.now.items (c.args.keys.now.items ++ c.args.key ∷ [])) c.requires.new
