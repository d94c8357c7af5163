use Rattle.std.proofs.Common.{◌≡◌, ◌∙◌, ◌++◌, Bool, List, length, map, take, drop, sym, ap, arith}
use Rattle.std.proofs.lemmas.List.{length-map, length-take-le}
use Rattle.update_model.specs.Entry.{Entry, same_id}
use Rattle.update_model.specs.Graph.{position_of}
use Rattle.update_codec.specs.Parts.{entry_of}
use Rattle.history.proofs.Numbers.{front_high, front_low, front_none, whole_entries}
use Rattle.history.proofs.since.place_below.Goals as goal

pub returns-in-None : goal.returns-in-None
returns-in-None c =
    let front = map entry_of (take c.args.below c.args.graph.now) in
    let back = map entry_of (drop c.args.below c.args.graph.now) in
    let t : Entry → Bool = λ e. same_id c.args.id.now e.id in
    let many : length front ≡ c.args.below = length-map (take c.args.below c.args.graph.now) entry_of ∙ length-take-le c.args.below c.args.graph.now c.requires in
    let whole : position_of (front ++ back) c.args.id.now ≡ position_of (map entry_of c.args.graph.now) c.args.id.now = ap (λ (l : List Entry). position_of l c.args.id.now) (sym (whole_entries c.args.graph.now c.args.below)) in
    sym (front_none t 0 front back (whole ∙ sym c.in-None.ensures))

pub returns-then-position-below : goal.returns-then-position-below
returns-then-position-below c =
    let front = map entry_of (take c.args.below c.args.graph.now) in
    let back = map entry_of (drop c.args.below c.args.graph.now) in
    let t : Entry → Bool = λ e. same_id c.args.id.now e.id in
    let many : length front ≡ c.args.below = length-map (take c.args.below c.args.graph.now) entry_of ∙ length-take-le c.args.below c.args.graph.now c.requires in
    let whole : position_of (front ++ back) c.args.id.now ≡ position_of (map entry_of c.args.graph.now) c.args.id.now = ap (λ (l : List Entry). position_of l c.args.id.now) (sym (whole_entries c.args.graph.now c.args.below)) in
    sym (front_low t 0 front back c.in-Some.position (whole ∙ sym c.in-Some.ensures) (omega (arith, many)))

pub returns-else-position-below : goal.returns-else-position-below
returns-else-position-below c =
    let front = map entry_of (take c.args.below c.args.graph.now) in
    let back = map entry_of (drop c.args.below c.args.graph.now) in
    let t : Entry → Bool = λ e. same_id c.args.id.now e.id in
    let many : length front ≡ c.args.below = length-map (take c.args.below c.args.graph.now) entry_of ∙ length-take-le c.args.below c.args.graph.now c.requires in
    let whole : position_of (front ++ back) c.args.id.now ≡ position_of (map entry_of c.args.graph.now) c.args.id.now = ap (λ (l : List Entry). position_of l c.args.id.now) (sym (whole_entries c.args.graph.now c.args.below)) in
    sym (front_high t 0 front back c.in-Some.position (whole ∙ sym c.in-Some.ensures) (omega (arith, many)))
