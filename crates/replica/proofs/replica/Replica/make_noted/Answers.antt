use Rattle.std.proofs.Common.{◌≡◌, ◌⊎◌, true, List, None, All, map, sym, subst}
use Rattle.update_model.specs.declared.update_id.UpdateId.{UpdateId}
use Rattle.update_model.specs.Form.{AreRising}
use Rattle.update_model.specs.Graph.{holds}
use Rattle.update_codec.specs.Parts.{entry_of}
use Rattle.std.specs.Prelude.{IfErr, IfOk}
use Rattle.replica.specs.Making.{AddsMade, AfterAllHeads, IsAddCause, IsMakeCauseWith, IsSignCause, MakesWith, MaySign, SignsBodyWith, saying}
use Rattle.replica.specs.declared.contents.Contents.{Contents}
use Rattle.replica.specs.declared.make_fault.MakeFault.{MakeFault}
use Rattle.replica.specs.Replicas.{ReplicaState}
use Rattle.replica.proofs.HeadLists.{heads_held, rising}
use Rattle.replica.proofs.Made.{make_cause, makes, signs_any}
use Rattle.replica.proofs.Outcomes.{if_err_map, if_ok_map}
use Rattle.replica.proofs.replica.Replica.make_noted.Goals as goal

pub sign_and_add-requires-clause-rising : goal.sign_and_add-requires-clause-rising
sign_and_add-requires-clause-rising g c κs within =
    subst (AreRising None) (sym c.from_vec-preds.ensures) (rising c.in_ok-heads.heads.items c.in_ok-heads.ensures.planned.may_make.after.rising)

pub sign_and_add-requires-clause-held : goal.sign_and_add-requires-clause-held
sign_and_add-requires-clause-held g c κs within =
    subst (All (λ (id : UpdateId). holds (map entry_of c.self.inside.history.members) id ≡ true)) (sym c.from_vec-preds.ensures)
    (heads_held (map entry_of c.self.inside.history.members) c.in_ok-heads.heads.items c.in_ok-heads.ensures.planned.may_make.after)

pub returns-clause-made : goal.returns-clause-made
returns-clause-made g c =
    let a = c.args in
    let h = c.self.inside.history in
    let says = saying a.note a.ops in
    subst (λ (r : ReplicaState). IfOk c.sign_and_add.result (λ (id : UpdateId). MakesWith g.L.Relation.answer r.history a.key.now.secret a.key.now.taken says a.c.now id c.sign_and_add.new.history)) c.self.view_is
    (if_ok_map c.sign_and_add.result
    (λ (id : UpdateId). AddsMade g.L.Relation.answer true h a.key.now.secret a.key.now.taken c.from_vec-preds.result says a.c.now id c.sign_and_add.new.history)
    (λ (id : UpdateId). MakesWith g.L.Relation.answer h a.key.now.secret a.key.now.taken says a.c.now id c.sign_and_add.new.history)
    (λ id adds. makes g.L.Relation.answer h a.key.now.secret a.key.now.taken c.from_vec-preds.result says a.c.now id c.sign_and_add.new.history
    (subst (AfterAllHeads h) (sym c.from_vec-preds.ensures) c.in_ok-heads.ensures.planned.may_make.after) adds)
    (subst (λ (s : Contents). IfOk c.sign_and_add.result (λ (id : UpdateId). AddsMade g.L.Relation.answer true h a.key.now.secret a.key.now.taken c.from_vec-preds.result s a.c.now id c.sign_and_add.new.history))
    c.contents_of-says.ensures.value c.sign_and_add.ensures.added))

pub returns-clause-signs : goal.returns-clause-signs
returns-clause-signs g c =
    let a = c.args in
    let h = c.self.inside.history in
    subst (λ (r : ReplicaState). SignsBodyWith c.sign_and_add.result r.history a.key.now.secret (saying a.note a.ops)) c.self.view_is
    (subst (λ (s : Contents). SignsBodyWith c.sign_and_add.result h a.key.now.secret s) c.contents_of-says.ensures.value
    (signs_any h a.key.now.secret c.contents_of-says.result c.sign_and_add.result
    (c.from_vec-preds.result, subst (AfterAllHeads h) (sym c.from_vec-preds.ensures) c.in_ok-heads.ensures.planned.may_make.after, c.sign_and_add.ensures.form)))

pub returns-clause-refused : goal.returns-clause-refused
returns-clause-refused g c =
    let a = c.args in
    let h = c.self.inside.history in
    let says = saying a.note a.ops in
    subst (λ (r : ReplicaState). IfErr c.sign_and_add.result (λ (why : MakeFault). IsMakeCauseWith g.L.Relation.answer r.history a.key.now.secret a.key.now.taken says a.c.now why)) c.self.view_is
    (if_err_map c.sign_and_add.result
    (λ (why : MakeFault). IsSignCause h a.key.now.secret a.key.now.taken c.from_vec-preds.result says a.c.now why ⊎ IsAddCause why)
    (λ (why : MakeFault). IsMakeCauseWith g.L.Relation.answer h a.key.now.secret a.key.now.taken says a.c.now why)
    (λ why cause. make_cause g.L.Relation.answer h a.key.now.secret a.key.now.taken c.from_vec-preds.result says a.c.now why
    (subst (λ (l : List UpdateId). MaySign g.L.Relation.answer h a.key.now.secret l a.ops) (sym c.from_vec-preds.ensures) c.in_ok-heads.ensures.planned) cause)
    (subst (λ (s : Contents). IfErr c.sign_and_add.result (λ (why : MakeFault). IsSignCause h a.key.now.secret a.key.now.taken c.from_vec-preds.result s a.c.now why ⊎ IsAddCause why))
    c.contents_of-says.ensures.value c.sign_and_add.ensures.refused))
