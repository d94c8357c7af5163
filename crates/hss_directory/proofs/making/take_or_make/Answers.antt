use Rattle.hss_directory.specs.Lower.{made, not_made}
use Rattle.hss_directory.proofs.Causes.{making_cause, no_key}
use Rattle.hss_directory.proofs.making.take_or_make.Goals as goal

pub returns-in-Ok-new_key-clause-takes : goal.returns-in-Ok-new_key-clause-takes
returns-in-Ok-new_key-clause-takes g c =
    let before = g.H.Shelf.state c.args.shelf.now in
    let none = no_key before c.args.dir.now c.in-Err-NoKey.field-0 c.in-Err-NoKey.field-0-is c.in-Err-NoKey.ensures.refused in
    made (g.H.Shelf.state c.take_key.new.shelf) c.in-Err-NoKey.ensures.lets_go none c.in-Ok-new_key.ensures.makes c.in-Ok-new_key.ensures.drawn

pub returns-in-Err-new_key-clause-lets_go : goal.returns-in-Err-new_key-clause-lets_go
returns-in-Err-new_key-clause-lets_go g c =
    let before = g.H.Shelf.state c.args.shelf.now in
    let mid = g.H.Shelf.state c.take_key.new.shelf in
    let goes = c.in-Err-NoKey.ensures.lets_go in
    let none = no_key before c.args.dir.now c.in-Err-NoKey.field-0 c.in-Err-NoKey.field-0-is c.in-Err-NoKey.ensures.refused in
    rw c.making_fault.ensures (not_made mid goes none c.in-Err-new_key.ensures.lets_go
    (making_cause before mid c.args.dir.now c.in-Err-new_key.why goes none c.in-Err-new_key.ensures.refused) c.new_key.ensures.may_draw)
