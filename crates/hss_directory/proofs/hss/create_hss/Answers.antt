use Rattle.std.proofs.Common.{◌≡◌, ◌∙◌, refl, sym, None}
use Rattle.std.specs.Prelude.{string_bytes}
use Rattle.key_index.specs.Creating.{drawn_key}
use Rattle.hss_directory.specs.Calls.{CreatesHss, hss_of}
use Rattle.hss_directory.proofs.Held.{begins_made}
use Rattle.hss_directory.proofs.hss.create_hss.Goals as goal

pub returns-clause-begins : goal.returns-clause-begins
returns-clause-begins g c =
    let before = g.H.Shelf.state c.args.shelf.now in
    let after = g.H.Shelf.state c.new_key.new.shelf in
    let secret = drawn_key c.args.types.lms c.args.types.ots (g.R.Rng.stream c.args.random.now) in
    let creates : CreatesHss secret before c.args.dir.now (hss_of (string_bytes c.in_ok-name.name) c.in_ok-top.top None) after = record { place = c.in_ok-name.ensures.ok; makes = c.in_ok-top.ensures.makes; alone = refl } in
    begins_made secret before after c.args.dir.now (hss_of (string_bytes c.in_ok-name.name) c.in_ok-top.top None) creates c.requires
