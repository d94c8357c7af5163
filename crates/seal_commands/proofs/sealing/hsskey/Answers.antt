use Rattle.std.proofs.Common.{◌≡◌, ◌∙◌, ◌++◌, ◌∷◌, [], ℕ, List, inl, inr, sym, refl, ap, IsTrue, Err}
use Rattle.std.proofs.lemmas.Result.{err_from_is_err_and}
use Rattle.hex.specs.Hex.{encode_lower}
use Rattle.key_directory.proofs.Putting.{told}
use Rattle.hss_directory.specs.declared.fault.HssFault.{HssFault}
use Rattle.seal_commands.specs.Sealing.{drawn, refusal_of, undrawn}
use Rattle.seal_commands.specs.declared.refusal.SealRefusal.{SealRefusal}
use Rattle.seal_commands.proofs.Home.{are_home, closed, err_same, home_after_close, home_undrawn, store_is_disk, undrawn_cause}
use Rattle.seal_commands.proofs.sealing.hsskey.Goals as goal

pub create_hss-requires : goal.create_hss-requires
create_hss-requires g c tells = are_home (g.H.Shelf.state c.args.shelf.now) c.args.dir.now (c.requires tells)

pub returns-in-Err-clause-comes : goal.returns-in-Err-clause-comes
returns-in-Err-clause-comes g c =
    undrawn c.in-Err.why (undrawn_cause (g.H.Shelf.state c.args.shelf.now) c.args.dir.now c.in-Err.why
    (λ is tells none. c.in-Err.ensures.refused (ap (λ (w : HssFault). Err w) is) tells none) c.in-Err.ensures.answers)
    (ap (λ (w : SealRefusal). Err w) (c.refusal_of.ensures ∙ ap (λ (n : ℕ). refusal_of c.in-Err.why n) c.leaf_count.ensures)) c.create_hss.ensures.may_draw c.in-Err.ensures.lets_go

pub returns-in-Err-clause-home : goal.returns-in-Err-clause-home
returns-in-Err-clause-home g c tells = home_undrawn _ _ c.args.dir.now (g.H.Shelf.state c.args.shelf.now) (g.H.Shelf.state c.create_hss.new.shelf) c.in-Err.ensures.lets_go tells (c.requires tells)

pub returns-in-Err-clause-failed : goal.returns-in-Err-clause-failed
returns-in-Err-clause-failed g c is =
    c.in-Err.ensures.failed (ap (λ (w : HssFault). Err w) (store_is_disk c.in-Err.why c.leaf_count.result (sym c.refusal_of.ensures ∙ err_same _ _ is)))

pub close-requires-clause-held : goal.close-requires-clause-held
close-requires-clause-held g c tells =
    let begins = c.in-Ok.ensures.begins in
    begins.holds (told (g.H.Shelf.state c.create_hss.new.shelf).tells (g.H.Shelf.state c.args.shelf.now).tells (sym begins.tells) tells)

pub close-requires-clause-sound : goal.close-requires-clause-sound
close-requires-clause-sound g c = c.in-Ok.ensures.begins.sound

pub returns-in_err-hex_line-clause-comes : goal.returns-in_err-hex_line-clause-comes
returns-in_err-hex_line-clause-comes g c =
    let p = err_from_is_err_and c.from_residual.result c.from_residual.ensures.1 in
    rw (p.1, p.2) (drawn c.in-Ok.hss (g.H.Shelf.state c.create_hss.new.shelf) c.in-Ok.ensures.creates (closed c.in-Ok.ensures.begins.sound c.close.ensures.reads c.close.ensures.puts) c.in-Ok.ensures.drawn (inr refl))

pub returns-in_err-hex_line-clause-home : goal.returns-in_err-hex_line-clause-home
returns-in_err-hex_line-clause-home g c tells =
    home_after_close (g.H.Shelf.state c.args.shelf.now) (g.H.Shelf.state c.create_hss.new.shelf) (g.H.Shelf.state c.close.new.shelf) c.args.dir.now c.in-Ok.hss c.in-Ok.ensures.begins c.close.ensures.ends tells (c.requires tells)

pub returns-clause-comes : goal.returns-clause-comes
returns-clause-comes g c =
    drawn c.in-Ok.hss (g.H.Shelf.state c.create_hss.new.shelf) c.in-Ok.ensures.creates (closed c.in-Ok.ensures.begins.sound c.close.ensures.reads c.close.ensures.puts) c.in-Ok.ensures.drawn
    (inl (c.in_ok-hex_line.ensures ∙ ap (λ (b : List ℕ). encode_lower b ++ 10 ∷ []) c.public-public.ensures))

pub returns-clause-home : goal.returns-clause-home
returns-clause-home g c tells =
    home_after_close (g.H.Shelf.state c.args.shelf.now) (g.H.Shelf.state c.create_hss.new.shelf) (g.H.Shelf.state c.close.new.shelf) c.args.dir.now c.in-Ok.hss c.in-Ok.ensures.begins c.close.ensures.ends tells (c.requires tells)
