use Rattle.std.proofs.Common.{◌≡◌, ◌∙◌, ℕ, List, refl, sym, ap, subst, IsTrue, Some, None, Option}
use Rattle.std.specs.Prelude.{string_bytes}
use Rattle.std.proofs.lemmas.Result.{err_from_is_err_and}
use Rattle.key_directory.proofs.Putting.{told}
use Rattle.hss_directory.specs.Calls.{OpensHss, hss_of}
use Rattle.hss_directory.specs.Places.{HoldsKey}
use Rattle.hss_directory.proofs.Causes.{opening_cause, unfound_cause}
use Rattle.hss_directory.proofs.Held.{begins_opened}
use Rattle.hss_directory.proofs.Keys.{go_only, holds_taken, only_same, taken_back}
use Rattle.hss_directory.proofs.Opens.{lowers_beside, only_holds}
use Rattle.hss_directory.proofs.Places.{else_key}
use Rattle.hss_directory.proofs.hss.open_hss.Goals as goal

pub returns-in_err-name-clause-lets_go : goal.returns-in_err-name-clause-lets_go
returns-in_err-name-clause-lets_go g c =
    let p = err_from_is_err_and c.from_residual.result c.from_residual.ensures.1 in
    rw p.1 (only_same (g.H.Shelf.state c.args.shelf.now) (g.H.Shelf.state c.args.shelf.now) refl)

pub returns-in_err-name-clause-refused : goal.returns-in_err-name-clause-refused
returns-in_err-name-clause-refused g c =
    let p = err_from_is_err_and c.from_residual.result c.from_residual.ensures.1 in
    rw (p.1, p.2) (λ tells. tt)

pub take_key-requires-clause-key_in : goal.take_key-requires-clause-key_in
take_key-requires-clause-key_in g c tells = (c.requires tells).key_in

pub take_key-requires-clause-used_in : goal.take_key-requires-clause-used_in
take_key-requires-clause-used_in g c tells = (c.requires tells).used_in

pub returns-in_err-top-clause-lets_go : goal.returns-in_err-top-clause-lets_go
returns-in_err-top-clause-lets_go g c =
    let p = err_from_is_err_and c.from_residual-in_err-top.result c.from_residual-in_err-top.ensures.1 in
    rw p.1 (go_only (g.H.Shelf.state c.args.shelf.now) (g.H.Shelf.state c.take_key.new.shelf) c.args.dir.now c.in_err-top.ensures.lets_go)

pub returns-in_err-top-clause-refused : goal.returns-in_err-top-clause-refused
returns-in_err-top-clause-refused g c =
    let p = err_from_is_err_and c.from_residual-in_err-top.result c.from_residual-in_err-top.ensures.1 in
    rw (p.1, p.2) (λ tells. opening_cause (g.H.Shelf.state c.args.shelf.now) c.args.dir.now c.in_err-top.field-0.0 (c.in_err-top.ensures.refused tells))

pub current_lower-requires : goal.current_lower-requires
current_lower-requires g c tells =
    let before = g.H.Shelf.state c.args.shelf.now in
    let mid = g.H.Shelf.state c.take_key.new.shelf in
    let takes = c.in_ok-top.ensures.takes in
    let t : IsTrue before.tells = told mid.tells before.tells (sym takes.tells) tells in
    lowers_beside before mid c.args.dir.now (c.requires t).lowers (else_key c.args.dir.now before mid takes.others)

pub put_key-requires-clause-key_of : goal.put_key-requires-clause-key_of
put_key-requires-clause-key_of g c tells =
    let before = g.H.Shelf.state c.args.shelf.now in
    let mid = g.H.Shelf.state c.take_key.new.shelf in
    let done = g.H.Shelf.state c.current_lower.new.shelf in
    let takes = c.in_ok-top.ensures.takes in
    let only = c.in-Err.ensures.only in
    let t2 : IsTrue mid.tells = told done.tells mid.tells (sym only.tells) tells in
    let t1 : IsTrue before.tells = told mid.tells before.tells (sym takes.tells) t2 in
    let h = only_holds mid done c.args.dir.now c.in_ok-top.top only t2 (holds_taken before mid c.args.dir.now c.in_ok-top.top takes t1) in (h.key_slot, h.key_out)

pub put_key-requires-clause-used_of : goal.put_key-requires-clause-used_of
put_key-requires-clause-used_of g c tells =
    let before = g.H.Shelf.state c.args.shelf.now in
    let mid = g.H.Shelf.state c.take_key.new.shelf in
    let done = g.H.Shelf.state c.current_lower.new.shelf in
    let takes = c.in_ok-top.ensures.takes in
    let only = c.in-Err.ensures.only in
    let t2 : IsTrue mid.tells = told done.tells mid.tells (sym only.tells) tells in
    let t1 : IsTrue before.tells = told mid.tells before.tells (sym takes.tells) t2 in
    let h = only_holds mid done c.args.dir.now c.in_ok-top.top only t2 (holds_taken before mid c.args.dir.now c.in_ok-top.top takes t1) in (h.used_slot, h.used_out)

pub returns-in-Ok-clause-opens : goal.returns-in-Ok-clause-opens
returns-in-Ok-clause-opens g c = record { mid = g.H.Shelf.state c.take_key.new.shelf; place = c.in_ok-name.ensures.ok; takes = c.in_ok-top.ensures.takes; finds = c.in-Ok.ensures.finds }

pub returns-in-Ok-clause-begins : goal.returns-in-Ok-clause-begins
returns-in-Ok-clause-begins g c =
    let before = g.H.Shelf.state c.args.shelf.now in
    let after = g.H.Shelf.state c.current_lower.new.shelf in
    let opens : OpensHss before c.args.dir.now (hss_of (string_bytes c.in_ok-name.name) c.in_ok-top.top c.in-Ok.lower) after = record {
      mid = g.H.Shelf.state c.take_key.new.shelf;
      place = c.in_ok-name.ensures.ok;
      takes = c.in_ok-top.ensures.takes;
      finds = c.in-Ok.ensures.finds;
    } in
    begins_opened before after c.args.dir.now (hss_of (string_bytes c.in_ok-name.name) c.in_ok-top.top c.in-Ok.lower) opens c.requires

pub returns-in-Err-clause-lets_go : goal.returns-in-Err-clause-lets_go
returns-in-Err-clause-lets_go g c =
    taken_back (g.H.Shelf.state c.args.shelf.now) (g.H.Shelf.state c.take_key.new.shelf) (g.H.Shelf.state c.current_lower.new.shelf) (g.H.Shelf.state c.put_key.new.shelf) c.args.dir.now c.in_ok-top.top
    c.in_ok-top.ensures.takes c.in-Err.ensures.only c.put_key.ensures.puts

pub returns-in-Err-clause-refused : goal.returns-in-Err-clause-refused
returns-in-Err-clause-refused g c tells =
    let before = g.H.Shelf.state c.args.shelf.now in
    let mid = g.H.Shelf.state c.take_key.new.shelf in
    let takes = c.in_ok-top.ensures.takes in
    unfound_cause before mid c.args.dir.now c.in_ok-top.top c.in-Err.why takes (c.in-Err.ensures.refused (told before.tells mid.tells takes.tells tells))
