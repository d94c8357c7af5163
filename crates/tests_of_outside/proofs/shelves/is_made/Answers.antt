use Rattle.std.proofs.Common.{refl, ◌∙◌}
use Rattle.bec_disk.specs.Replay.{state_of}
use Rattle.bec_disk.specs.Shelved.{shelf_of}
use Rattle.bec_disk.specs.Slot.{slot}
use Rattle.bec_disk.proofs.Homes.{home_again}
use Rattle.tests_of_outside.proofs.shelves.is_made.Goals as goal

pub put_back-requires : goal.put_back-requires
put_back-requires c tells = (
  slot c.args.made.now.0.now c.args.made.now.1,
  c.write_at.ensures.writes.disk.slot ∙ c.in-Ok.ensures.of,
  c.in-Ok.ensures.is_out,
)

pub returns : goal.returns
returns c =
    let place = slot c.args.made.now.0.now c.args.made.now.1 in
    record {
      home = home_again (shelf_of c.args.shelf.now) (shelf_of c.made_new.new.shelf) (shelf_of c.put_back.new.self) place (state_of c.write_at.new.self) c.in-Ok.ensures.others
          (c.put_back.ensures.puts place (c.write_at.ensures.writes.disk.slot ∙ c.in-Ok.ensures.of)) refl c.requires.home;
    }
