use Rattle.std.proofs.Common.{◌≡◌, ◌∙◌, ◌==◌, List, ℕ, ap, length, map, not, sym}
use Rattle.node_commands.specs.Notes.{is_noted}
use Rattle.node_commands.proofs.Notes.{noted_less, noted_more}
use Rattle.look_commands.proofs.notes.noted_of.Goals as goal
use Rattle.look_commands.proofs.notes.noted_of.Goals.{then-not-is_empty+in_ok-push, else-not-is_empty}

pub loop-position-preserved : goal.loop-position-preserved
loop-position-preserved c =
    let members = c.args.graph.now in
    let update = c.at-update.result in
    let told : is_noted update.now ≡ not c.is_empty.result = ap (λ (text : List ℕ). not (length text == 0)) (sym c.note_of.ensures) ∙ ap not (sym c.is_empty.ensures) in
    elim c.if-not-is_empty.branch [
      | then-not-is_empty+in_ok-push w ↦ noted_more (λ update. update.now) members c.loop-position.noted.items c.if-not-is_empty.noted.items c.loop-position.position update c.at-update.ensures
          (told ∙ ap not w.if-not-is_empty.true) (ap (λ v. v.items) w.noted-is ∙ w.in_ok-push.ensures.items) c.loop-position.invariant
      | else-not-is_empty w ↦ ap (λ v. map (λ update. update.now) v.items) w.noted-is
          ∙ noted_less (λ update. update.now) members c.loop-position.noted.items c.loop-position.position update c.at-update.ensures
          (told ∙ ap not w.if-not-is_empty.false) c.loop-position.invariant
    ]
