use Rattle.std.proofs.Common.{◌≡◌, ℕ, ◌<◌, ◌≤◌, ◌+◌, ◌/◌, ◌++◌, List, [], ◌∷◌, length, replicate, sym, ap, ◌∙◌, append_assoc, arith}
use Rattle.hph_table.proofs.Seating.{first_is}
use Rattle.hph_table.proofs.making.first_words.Goals as goal

pub returns : goal.returns
returns c =
    let e : c.push-2.new.self.items ≡ c.loop-i.words.items ++ c.args.scopes ∷ [] = c.in_ok-push-2.ensures.items in
    let i : c.loop-i.words.items ≡ c.in_ok-words.words.items ++ replicate (c.args.scopes + c.args.cells) 0 = c.loop-i.invariant ∙ ap (λ (k : ℕ). c.in_ok-words.words.items ++ replicate k 0) (let z : c.loop-i.i ≡ c.args.scopes + c.args.cells = omega arith in z) in
    first_is c.args.scopes c.args.cells c.in_ok-words.words.items c.push-2.new.self.items c.in_ok-words.ensures (e ∙ ap (λ (r : List ℕ). r ++ c.args.scopes ∷ []) i)
