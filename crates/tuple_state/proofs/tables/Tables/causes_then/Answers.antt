use Rattle.std.proofs.Common.{◌==◌, ℕ, Bool, List, drop, length, get_or, ap, sym, subst, ◌∙◌}
use Rattle.std.proofs.lemmas.List.{take_at}
use Rattle.tuple_state.specs.Causes.{AreRising}
use Rattle.tuple_state.specs.Kept.{IsKept, place_of}
use Rattle.tuple_state.specs.Causes.{parents_from}
use Rattle.tuple_state.specs.Past.{done_then}
use Rattle.tuple_state.specs.State.{State, rules_of_state}
use Rattle.tuple_state.specs.declared.inserted.Inserted.{Inserted}
use Rattle.tuple_state.specs.declared.links.Link.{Link}
use Rattle.tuple_state.proofs.Adding.{all_rise, rising_links}
use Rattle.tuple_state.proofs.Layers.{grounded_is}
use Rattle.tuple_state.proofs.Leasts.{settled_shift}
use Rattle.tuple_state.proofs.Levels.{level_moved, level_now}
use Rattle.tuple_state.proofs.Meaning.{mark_is}
use Rattle.tuple_state.proofs.Parting.{ends_each, parted, parted_moved}
use Rattle.tuple_state.proofs.tables.Tables.causes_then.Goals as goal

pub spread_causes-requires-clause-rising : goal.spread_causes-requires-clause-rising
spread_causes-requires-clause-rising g c =
    let inside = c.self.inside in
    let state : State = record { shapes = inside.shapes.items; count = inside.count; inserted = inside.rows.items; dropped = inside.dropped.items; voids = inside.voids.items } in
    subst (λ (l : List Link). AreRising 0 (length c.new.result.rows.now) l) (sym c.new.ensures.children)
    (subst (λ (l : List Inserted). AreRising 0 (length l) inside.children.links) (sym c.new.ensures.rows)
    (rising_links (place_of inside.rows.items) 0 (length inside.rows.items) inside.children.links (parents_from (rules_of_state state) 0 inside.rows.items) c.self.invariant.named (all_rise inside.shapes.items inside.rows.items c.self.invariant.layered)))

pub spread_causes-requires-clause-level : goal.spread_causes-requires-clause-level
spread_causes-requires-clause-level g c =
    let inside = c.self.inside in
    let state : State = record { shapes = inside.shapes.items; count = inside.count; inserted = inside.rows.items; dropped = inside.dropped.items; voids = inside.voids.items } in
    let held = c.self.invariant.held in
    level_moved inside.shapes.items _ inside.rows.items _ inside.children.links _ (sym (c.new.ensures.shapes ∙ c.as_slice-shapes.ensures.value)) (sym c.new.ensures.rows) (sym c.new.ensures.children)
    (level_now held.rules held.nodes state held.is c.self.invariant.layered inside.children.links c.self.invariant.named)

pub spread_causes-requires-clause-ends : goal.spread_causes-requires-clause-ends
spread_causes-requires-clause-ends g c =
    let inside = c.self.inside in
    let state : State = record { shapes = inside.shapes.items; count = inside.count; inserted = inside.rows.items; dropped = inside.dropped.items; voids = inside.voids.items } in
    ends_each (rules_of_state state) inside.rows.items _ (c.new.ensures.ends ∙ c.self.invariant.ended) ∙ sym (ap length c.new.ensures.rows)

pub spread_causes-requires-clause-parted : goal.spread_causes-requires-clause-parted
spread_causes-requires-clause-parted g c =
    let inside = c.self.inside in
    let state : State = record { shapes = inside.shapes.items; count = inside.count; inserted = inside.rows.items; dropped = inside.dropped.items; voids = inside.voids.items } in
    parted_moved inside.children.links _ inside.ends.items _ (sym c.new.ensures.children) (sym c.new.ensures.ends)
    (parted (rules_of_state state) (place_of inside.rows.items) inside.rows.items inside.children.links inside.ends.items c.self.invariant.named c.self.invariant.ended)

pub returns : goal.returns
returns g c =
    let inside = c.self.inside in
    let now = c.args.self.now in
    let past : ℕ → Bool = λ p. g.A.Ancestors.ancestor c.args.ancestors.now p c.args.position in
    let kept = subst (λ (s : State). IsKept s inside.places inside.causes.items inside.children inside.deleters inside.ends.items inside.groups) c.self.view_is c.self.invariant in
    let base = c.in_ok-causes.causes.items in
    let settled = settled_shift _ now.shapes _ now.inserted _ inside.children.links _ base c.spread_causes.new.causes (c.new.ensures.shapes ∙ c.as_slice-shapes.ensures.value ∙ ap (λ (s : State). s.shapes) c.self.view_is)
    (c.new.ensures.rows ∙ ap (λ (s : State). s.inserted) c.self.view_is) c.new.ensures.children c.as_mut_slice.ensures.value c.spread_causes.ensures in
    let front = take_at c.spread_causes.new.causes (drop (length c.spread_causes.new.causes) base) c.in_ok-causes.causes.len (c.spread_causes.auto.causes ∙ c.as_mut_slice.ensures.len) in (
      ap length front ∙ c.spread_causes.auto.causes ∙ ap length c.as_mut_slice.ensures.value ∙ c.in_ok-causes.ensures.each,
      (λ place it at.
          ap (λ (l : List ℕ). get_or l place 0 == 0) front
          ∙ mark_is now.shapes now.inserted kept.layered past (done_then now past).deleted inside.children.links kept.named (λ k. get_or base k 0) c.spread_causes.new.causes settled c.in_ok-causes.ensures.own
          c.requires.layered (sym (grounded_is (rules_of_state now) _) ∙ c.requires.grounded) place it at),
    )
