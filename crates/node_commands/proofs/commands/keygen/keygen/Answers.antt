use Rattle.std.proofs.Common.{◌∙◌, ◌++◌, ℕ, List, ap, refl, rules}
use Rattle.std.proofs.lemmas.Result.{err_from_is_err_and}
use Rattle.key_index.specs.Creating.{drawn_key}
use Rattle.outcomes.specs.Texts.{key_text}
use Rattle.node_commands.proofs.NewKeys.{key_lacked, key_made, key_refused, key_slots, key_unasked}
use Rattle.node_commands.proofs.commands.keygen.keygen.Goals as goal

pub put_key-requires-clause-key_of : goal.put_key-requires-clause-key_of
put_key-requires-clause-key_of g c κs =
    (key_slots (drawn_key c.args.types.lms c.args.types.ots (g.R.Rng.stream c.args.random.now)) c.args.dir.now (g.H.Shelf.state c.args.shelf.now) (g.H.Shelf.state c.new_key.new.shelf) c.in_ok-key.key c.in_ok-key.ensures.makes κs).0

pub put_key-requires-clause-used_of : goal.put_key-requires-clause-used_of
put_key-requires-clause-used_of g c κs =
    (key_slots (drawn_key c.args.types.lms c.args.types.ots (g.R.Rng.stream c.args.random.now)) c.args.dir.now (g.H.Shelf.state c.args.shelf.now) (g.H.Shelf.state c.new_key.new.shelf) c.in_ok-key.key c.in_ok-key.ensures.makes κs).1

pub returns-in_err-line : goal.returns-in_err-line
returns-in_err-line g c =
    let p = err_from_is_err_and c.from_residual.result c.from_residual.ensures.1 in
    rw (p.1, p.2) (key_unasked c.args.types.lms c.args.types.ots (g.R.Rng.stream c.args.random.now) (g.R.Rng.stream c.args.random.now) c.args.dir.now (g.H.Shelf.state c.args.shelf.now) (g.H.Shelf.state c.args.shelf.now)
    (g.H.Counted.faults c.args.shelf.now) (g.H.Counted.faults c.args.shelf.now) c.requires refl refl)

pub returns-in_err-key : goal.returns-in_err-key
returns-in_err-key g c =
    let p = err_from_is_err_and c.from_residual-in_err-key.result c.from_residual-in_err-key.ensures.1 in
    let e = c.in_err-key.ensures in
    rw (p.1, p.2) (key_refused c.args.types.lms c.args.types.ots (g.R.Rng.stream c.args.random.now) (g.R.Rng.stream c.new_key.new.random) c.args.dir.now (g.H.Shelf.state c.args.shelf.now) (g.H.Shelf.state c.new_key.new.shelf)
    (g.H.Counted.faults c.args.shelf.now) (g.H.Counted.faults c.new_key.new.shelf) c.requires e.lets_go c.in_err-key.field-0.0 e.refused (λ is. e.failed (search rules)) c.new_key.ensures.may_draw)

pub returns-in_err-told : goal.returns-in_err-told
returns-in_err-told g c =
    let p = err_from_is_err_and c.from_residual-in_err-told.result c.from_residual-in_err-told.ensures.1 in
    rw (p.1, p.2) (key_lacked c.args.types.lms c.args.types.ots (g.R.Rng.stream c.args.random.now) (g.R.Rng.stream c.new_key.new.random) c.args.dir.now (g.H.Shelf.state c.args.shelf.now) (g.H.Shelf.state c.put_key.new.shelf)
    (g.H.Counted.faults c.args.shelf.now) (g.H.Counted.faults c.put_key.new.shelf) c.requires (g.H.Shelf.state c.new_key.new.shelf) c.in_ok-key.key c.in_ok-key.ensures.makes c.put_key.ensures.puts c.in_ok-key.ensures.drawn)

pub returns : goal.returns
returns g c =
    let told = c.in_ok-told.ensures in
    let empty = c.in_ok-line.ensures.items in
    let v = c.public.ensures.value in
    key_made c.args.types.lms c.args.types.ots (g.R.Rng.stream c.args.random.now) (g.R.Rng.stream c.new_key.new.random) c.args.dir.now (g.H.Shelf.state c.args.shelf.now) (g.H.Shelf.state c.put_key.new.shelf)
    (g.H.Counted.faults c.args.shelf.now) (g.H.Counted.faults c.put_key.new.shelf) c.requires (g.H.Shelf.state c.new_key.new.shelf) c.in_ok-key.key c.in_ok-key.ensures.makes c.put_key.ensures.puts c.in_ok-key.ensures.drawn
    c.push_key-told.new.line (told ∙ ap (λ (w : List ℕ). w ++ key_text c.public.result) empty ∙ ap key_text v)
