use Rattle.std.proofs.Common.{ap, sym, ◌∙◌}
use Rattle.std.specs.List.{position}
use Rattle.std.specs.Option.{is_some}
use Rattle.hph_array.specs.Key.{key_eq}
use Rattle.hph_array.proofs.Rising.{remove_key-absent, remove_key-there, is_some-position}
use Rattle.hph_array.proofs.keys.remove_rising.Goals as goal

pub returns-in_err-place-clause-keys : goal.returns-in_err-place-clause-keys
returns-in_err-place-clause-keys c =
    let none = c.in_err-place.ensures ∙ ap (position (key_eq c.args.key.now)) c.deref.ensures.value in
    remove_key-absent (key_eq c.args.key.now) c.args.keys.now.items
    (sym (ap is_some none ∙ is_some-position (key_eq c.args.key.now) c.args.keys.now.items))

pub returns-clause-keys : goal.returns-clause-keys
returns-clause-keys c =
    let place = c.in_ok-place.ensures ∙ ap (position (key_eq c.args.key.now)) c.deref.ensures.value in
    c.remove.ensures.items ∙ remove_key-there (key_eq c.args.key.now) c.args.keys.now.items _ (sym place)
