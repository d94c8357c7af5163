use Rattle.std.proofs.Common.{◌∙◌, ap, Ok, rules}
use Rattle.std.proofs.lemmas.Result.{err_from_is_err_and}
use Rattle.outcomes.specs.Texts.{key_text}
use Rattle.look_commands.proofs.KeyShown.{key_lacked, key_refused, key_shown, key_slots}
use Rattle.look_commands.proofs.keys.public_line.Goals as goal

pub put_key-requires-clause-key_of : goal.put_key-requires-clause-key_of
put_key-requires-clause-key_of g c κs =
    (key_slots c.args.dir.now (g.H.Shelf.state c.args.shelf.now) c.requires (g.H.Shelf.state c.take_key.new.shelf) c.in_ok-key.key c.in_ok-key.ensures.takes κs).0

pub put_key-requires-clause-used_of : goal.put_key-requires-clause-used_of
put_key-requires-clause-used_of g c κs =
    (key_slots c.args.dir.now (g.H.Shelf.state c.args.shelf.now) c.requires (g.H.Shelf.state c.take_key.new.shelf) c.in_ok-key.key c.in_ok-key.ensures.takes κs).1

pub returns-in_err-key : goal.returns-in_err-key
returns-in_err-key g c =
    let p = err_from_is_err_and c.from_residual.result c.from_residual.ensures.1 in
    let e = c.in_err-key.ensures in
    rw (p.1, p.2) (key_refused c.args.dir.now (g.H.Shelf.state c.args.shelf.now) c.requires (g.H.Shelf.state c.take_key.new.shelf) (g.H.Counted.faults c.args.shelf.now) (g.H.Counted.faults c.take_key.new.shelf)
    e.lets_go c.in_err-key.field-0.0 e.refused (λ is. e.failed (search rules)))

pub returns-in_err-key_line : goal.returns-in_err-key_line
returns-in_err-key_line g c =
    let p = err_from_is_err_and c.from_residual-in_err-key_line.result c.from_residual-in_err-key_line.ensures.1 in
    rw (p.1, p.2) (key_lacked c.args.dir.now (g.H.Shelf.state c.args.shelf.now) c.requires (g.H.Shelf.state c.take_key.new.shelf) c.in_ok-key.key c.in_ok-key.ensures.takes
    (g.H.Shelf.state c.put_key.new.shelf) (g.H.Counted.faults c.args.shelf.now) (g.H.Counted.faults c.put_key.new.shelf) c.put_key.ensures.puts)

pub returns : goal.returns
returns g c =
    key_shown c.args.dir.now (g.H.Shelf.state c.args.shelf.now) c.requires (g.H.Shelf.state c.take_key.new.shelf) c.in_ok-key.key c.in_ok-key.ensures.takes
    (g.H.Shelf.state c.put_key.new.shelf) (g.H.Counted.faults c.args.shelf.now) (g.H.Counted.faults c.put_key.new.shelf) c.put_key.ensures.puts
    (Ok c.in_ok-key_line.field-0) (c.in_ok-key_line.ensures ∙ ap key_text c.public-public.ensures.value)
