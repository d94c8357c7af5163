use Rattle.std.proofs.Common.{◌≡◌, ◌∙◌, ℕ, inl, inr, sym, refl, ap, arith, IsTrue, Err}
use Rattle.key_directory.proofs.Putting.{told}
use Rattle.hss_directory.specs.declared.fault.HssFault.{HssFault}
use Rattle.seal_commands.specs.Sealing.{opened, refusal_of, unopened}
use Rattle.seal_commands.specs.declared.refusal.SealRefusal.{SealRefusal}
use Rattle.seal_commands.proofs.Home.{are_home, closed, err_same, held_rose, home_after_all, home_read, store_is_disk}
use Rattle.seal_commands.proofs.sealing.seal.Goals as goal

pub open_hss-requires : goal.open_hss-requires
open_hss-requires g c tells = are_home (g.H.Shelf.state c.args.shelf.now) c.args.dir.now (c.requires tells)

pub returns-in-Err-clause-comes : goal.returns-in-Err-clause-comes
returns-in-Err-clause-comes g c =
    unopened c.in-Err.why c.in-Err.ensures.refused c.in-Err.ensures.lets_go refl refl (ap (λ (w : SealRefusal). Err w) c.refusal_of.ensures)

pub returns-in-Err-clause-home : goal.returns-in-Err-clause-home
returns-in-Err-clause-home g c tells = home_read (g.H.Shelf.state c.args.shelf.now) (g.H.Shelf.state c.open_hss.new.shelf) tells c.in-Err.ensures.lets_go (c.requires tells)

pub returns-in-Err-clause-failed : goal.returns-in-Err-clause-failed
returns-in-Err-clause-failed g c is = c.in-Err.ensures.failed (ap (λ (w : HssFault). Err w) (store_is_disk c.in-Err.why 0 (sym c.refusal_of.ensures ∙ err_same _ _ is)))

pub seal_input-sealed-requires-clause-held : goal.seal_input-sealed-requires-clause-held
seal_input-sealed-requires-clause-held g c tells =
    let begins = c.in-Ok.ensures.begins in
    begins.holds (told (g.H.Shelf.state c.open_hss.new.shelf).tells (g.H.Shelf.state c.args.shelf.now).tells (sym begins.tells) tells)

pub seal_input-sealed-requires-clause-sound : goal.seal_input-sealed-requires-clause-sound
seal_input-sealed-requires-clause-sound g c = c.in-Ok.ensures.begins.sound

pub close-requires-clause-held : goal.close-requires-clause-held
close-requires-clause-held g c tells =
    let keeps = c.seal_input-sealed.ensures.keeps in
    keeps.holds (told (g.H.Shelf.state c.seal_input-sealed.new.shelf).tells (g.H.Shelf.state c.open_hss.new.shelf).tells (sym keeps.tells) tells)

pub close-requires-clause-sound : goal.close-requires-clause-sound
close-requires-clause-sound g c = c.seal_input-sealed.ensures.keeps.sound

pub returns-clause-comes : goal.returns-clause-comes
returns-clause-comes g c =
    opened c.in-Ok.hss c.seal_input-sealed.new.hss (g.H.Shelf.state c.open_hss.new.shelf) (g.H.Shelf.state c.seal_input-sealed.new.shelf) c.in-Ok.ensures.opens c.in-Ok.ensures.begins.sound
    c.seal_input-sealed.ensures.seals c.seal_input-sealed.ensures.keeps (closed c.seal_input-sealed.ensures.keeps.sound c.close.ensures.reads c.close.ensures.puts)

pub returns-clause-home : goal.returns-clause-home
returns-clause-home g c tells =
    home_after_all (g.H.Shelf.state c.args.shelf.now) (g.H.Shelf.state c.open_hss.new.shelf) (g.H.Shelf.state c.seal_input-sealed.new.shelf) (g.H.Shelf.state c.close.new.shelf) c.args.dir.now
    c.in-Ok.hss c.seal_input-sealed.new.hss c.in-Ok.ensures.begins c.seal_input-sealed.ensures.keeps c.close.ensures.ends tells (c.requires tells)

pub returns-clause-failed : goal.returns-clause-failed
returns-clause-failed g c is =
    let rose = held_rose c.in-Ok.hss c.seal_input-sealed.new.hss (g.H.Counted.faults c.open_hss.new.shelf) (g.H.Counted.faults c.seal_input-sealed.new.shelf) (g.H.Counted.faults c.close.new.shelf)
    (c.seal_input-sealed.ensures.failed is) c.close.ensures.later c.seal_input-sealed.ensures.later c.close.ensures.top_faulted c.close.ensures.lower_faulted in
    omega (arith, rose, c.in-Ok.ensures.later)
