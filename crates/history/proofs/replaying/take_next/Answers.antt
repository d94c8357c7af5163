use Rattle.std.proofs.Common.{◌+◌, ◌≤◌, length, take, sym, ap, ◌∙◌, arith}
use Rattle.history.proofs.Arriving.{length-before, places_in_front}
use Rattle.history.proofs.replaying.take_next.Goals as goal

pub cut-requires : goal.cut-requires
cut-requires g c =
    let low : c.args.position + 1 ≤ length c.args.graph.now = omega arith in
    let size = ap length c.in_ok-take_places.ensures.places ∙ length-before c.args.graph.now (c.args.position + 1) low in omega (arith, size)

pub returns-in-Err : goal.returns-in-Err
returns-in-Err g c = record {
  state = tt;
  places = tt;
  verdict = tt;
  same_state = c.in-Err.ensures.same;
  same_places = c.cut.ensures ∙ ap (take c.args.position) c.in_ok-take_places.ensures.places ∙ places_in_front c.args.graph.now c.args.position c.requires.low ∙ sym c.requires.places;
}
