use Rattle.std.proofs.Common.{refl, sym, rules}
use Rattle.std.proofs.lemmas.Result.{err_from_is_err_and}
use Rattle.key_directory.proofs.Putting.{told}
use Rattle.hss_directory.specs.Lower.{opens_none, opens_spent}
use Rattle.hss_directory.specs.Values.{IsSpent}
use Rattle.hss_directory.proofs.Keys.{holds_lower, lower_tells}
use Rattle.hss_directory.proofs.making.open_lower.Goals as goal

pub returns-in_err-key-clause-lets_go : goal.returns-in_err-key-clause-lets_go
returns-in_err-key-clause-lets_go g c =
    let p = err_from_is_err_and c.from_residual.result c.from_residual.ensures.1 in
    rw (p.1, p.2) (opens_none c.in_err-key.ensures.lets_go)

pub put_key-requires-clause-key_of : goal.put_key-requires-clause-key_of
put_key-requires-clause-key_of g c tells =
    let before = g.H.Shelf.state c.args.shelf.now in
    let after = g.H.Shelf.state c.take_or_make.new.shelf in
    let takes = c.in_ok-key.ensures.takes in
    let random = g.R.Rng.stream c.args.random.now in
    let left = g.R.Rng.stream c.take_or_make.new.random in
    let t = told after.tells before.tells (sym (lower_tells c.args.types.lms c.args.types.ots random left before after c.args.dir.now c.in_ok-key.key takes)) tells in
    let h = holds_lower c.args.types.lms c.args.types.ots random left before after c.args.dir.now c.in_ok-key.key takes t in (h.key_slot, h.key_out)

pub put_key-requires-clause-used_of : goal.put_key-requires-clause-used_of
put_key-requires-clause-used_of g c tells =
    let before = g.H.Shelf.state c.args.shelf.now in
    let after = g.H.Shelf.state c.take_or_make.new.shelf in
    let takes = c.in_ok-key.ensures.takes in
    let random = g.R.Rng.stream c.args.random.now in
    let left = g.R.Rng.stream c.take_or_make.new.random in
    let t = told after.tells before.tells (sym (lower_tells c.args.types.lms c.args.types.ots random left before after c.args.dir.now c.in_ok-key.key takes)) tells in
    let h = holds_lower c.args.types.lms c.args.types.ots random left before after c.args.dir.now c.in_ok-key.key takes t in (h.used_slot, h.used_out)

pub returns-clause-lets_go : goal.returns-clause-lets_go
returns-clause-lets_go g c =
    let spent : IsSpent c.in_ok-key.key = search rules in
    opens_spent c.in_ok-key.key (g.H.Shelf.state c.take_or_make.new.shelf) refl c.in_ok-key.ensures.takes spent c.put_key.ensures.puts
