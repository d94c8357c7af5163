use Rattle.std.proofs.Common.{◌≡◌, None, ap, refl, sym, subst, ◌∙◌}
use Rattle.std.specs.Prelude.{not}
use Rattle.byzantine_world.specs.Taking.{TakesFrame}
use Rattle.byzantine_world.specs.declared.talk.Side.{Side}
use Rattle.byzantine_world.proofs.Taking.{none_is, some_is, takes_frame, told_still}
use Rattle.byzantine_world.proofs.talk.Side.take.Goals.{then-is_none, else-is_none}
use Rattle.byzantine_world.proofs.talk.Side.take.Goals as goal

pub returns : goal.returns
returns c =
    let site = c.args.site.now in
    let side = c.args.self.now in
    let new = c.take.new.self in
    let out = c.in_ok-out.out in
    let e = c.in_ok-out.ensures in
    record {
      takes = elim c.if-is_none.branch [
        | then-is_none w ↦
            let was : side.ended ≡ None = none_is side.ended (c.is_none.ensures ∙ ap not w.if-is_none.true) in
            subst (λ (n : Side). TakesFrame site side c.args.frame out new n) (sym w.self-is)
            (takes_frame site new side (record { session = c.take.new.session; ended = out.end; is_cut = side.is_cut }) c.args.frame out c.requires.sound c.requires.members e.takes e.belongs e.runs
            (e.ended (c.requires.sound.told ∙ was)) refl e.same)
        | else-is_none w ↦
            let was = some_is side.ended (c.is_none.ensures ∙ ap not w.if-is_none.false) in
            subst (λ (n : Side). TakesFrame site side c.args.frame out new n) (sym w.self-is)
            (takes_frame site new side (record { session = c.take.new.session; ended = side.ended; is_cut = side.is_cut }) c.args.frame out c.requires.sound c.requires.members e.takes e.belongs e.runs
            (told_still site new side (record { session = c.take.new.session; ended = side.ended; is_cut = side.is_cut }) c.args.frame out was.0 c.requires.sound was.1 e.takes ∙ sym was.1) refl e.same)
      ];
    }
